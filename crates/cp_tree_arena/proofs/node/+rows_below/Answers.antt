use Rattle.std.proofs.Common.{◌∙◌, Ok, Result, refl, arith}
use Rattle.std.specs.declared.alloc.AllocError.{AllocError}
use Rattle.cp_tree.proofs.EdgeRows.{no_rows, rows_fork, rows_node}
use Rattle.cp_tree.proofs.Walking.{pop_push}
use Rattle.cp_tree_arena.proofs.Reading.{kept_slot, kept_none}
use Rattle.cp_tree_arena.proofs.node.+rows_below.Goals as goal

pub rows_below-requires : goal.rows_below-requires
rows_below-requires t c = (let k = kept_slot _ _ c.requires _ c.in-Some.ensures.there in (omega (arith, k.fewer_left), k.left))

pub rows_below-requires-in-Some : goal.rows_below-requires-in-Some
rows_below-requires-in-Some t c = (let k = kept_slot _ _ c.requires _ c.in-Some.ensures.there in (omega (arith, k.fewer_children), k.node.kept))

pub rows_below-requires-in-Some-2 : goal.rows_below-requires-in-Some-2
rows_below-requires-in-Some-2 t c = (let k = kept_slot _ _ c.requires _ c.in-Some.ensures.there in (omega (arith, k.fewer_right), k.right))

pub returns-in-None-clause-rows : goal.returns-in-None-clause-rows
returns-in-None-clause-rows t c = no_rows _ _ _ (kept_none _ _ c.requires c.in-None.ensures.gone)

pub returns-in_ok-rows_below-in-Some-2-clause-rows : goal.returns-in_ok-rows_below-in-Some-2-clause-rows
returns-in_ok-rows_below-in-Some-2-clause-rows t c =
    let k = kept_slot _ _ c.requires _ c.in-Some.ensures.there in
    let place = c.in_ok-rows_below-in-Some.ensures.same_place in
    let deeper = rw place at c.in_ok-push-in-Some.ensures.items in
    let back = c.pop.ensures.rest ∙ pop_push c.args.at.now.items c.rows_below-in-Some.new.at.items c.in_ok-to_label-in-Some.field-0 _ (c.in_ok-rows_below-in-Some-2.ensures.same_place ∙ deeper) c.rows_below-in-Some.new.at.ok.0 in
    let ok : Result (Unit {0}) AllocError = Ok tt in
    let node = rows_node ok _ _ _ _ _ _ _ _ refl k.node.good c.in_ok-place_into-in-Some.ensures c.as_slice.ensures.value refl c.in_ok-rows_below-in-Some-2.ensures.rows in
    rows_fork c.rows_below-in-Some-2.result _ _ _ _ _ _ _ _ _ _ _ _ _ k.edges c.in_ok-rows_below-in-Some.ensures.rows node deeper c.in_ok-to_label-in-Some.ensures back c.rows_below-in-Some-2.ensures.rows
