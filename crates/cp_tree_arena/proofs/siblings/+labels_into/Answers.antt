use Rattle.std.proofs.Common.{arith}
use Rattle.cp_tree_arena.proofs.Reading.{kept_slot, kept_none, no_labels, labels_fork}
use Rattle.cp_tree_arena.proofs.siblings.+labels_into.Goals as goal

pub labels_into-requires : goal.labels_into-requires
labels_into-requires t c = (let k = kept_slot _ _ c.requires _ c.in-Some.ensures.there in (omega (arith, k.fewer_left), k.left))

pub labels_into-requires-in-Some : goal.labels_into-requires-in-Some
labels_into-requires-in-Some t c = (let k = kept_slot _ _ c.requires _ c.in-Some.ensures.there in (omega (arith, k.fewer_right), k.right))

pub returns-in-None : goal.returns-in-None
returns-in-None t c = no_labels _ _ (kept_none _ _ c.requires c.in-None.ensures.gone)

pub returns-in_ok-push-in-Some : goal.returns-in_ok-push-in-Some
returns-in_ok-push-in-Some t c =
    let k = kept_slot _ _ c.requires _ c.in-Some.ensures.there in
    labels_fork c.labels_into-in-Some.result _ _ _ _ _ _ _ _ _ _ k.edges c.in_ok-labels_into-in-Some.ensures c.in_ok-push-in-Some.ensures.items c.in_ok-to_label-in-Some.ensures c.labels_into-in-Some.ensures
