use Rattle.std.proofs.Common.{◌∙◌, ◌++◌, ap, refl}
use Rattle.std.specs.List.{slice_get}
use Rattle.cp_tree.proofs.SumsLemmas.{sums_above, small_above}
use Rattle.cp_tree_arena.specs.Slots.{sums_in}
use Rattle.cp_tree_arena.specs.Shapes.{cells}
use Rattle.cp_tree_arena.proofs.Reading.{sums_kept}
use Rattle.cp_tree_arena.proofs.Placing.{ok_then, node_added}
use Rattle.cp_tree_arena.proofs.pool.Pool.add_node.Goals as goal

pub seen_above-sums-requires : goal.seen_above-sums-requires
seen_above-sums-requires c =
    let sums = c.sums_at.ensures ∙ ap (λ z. sums_in (slice_get z c.args.children.number)) c.deref.ensures.value ∙ sums_kept _ _ c.requires.node.kept in
    rw (c.as_str.ensures.text, c.text_bytes-text.ensures.bytes) (small_above _ _ c.args.label.now c.args.content _ sums refl c.requires.node.good c.requires.small)

pub returns-clause-ok : goal.returns-clause-ok
returns-clause-ok c = λ u cs root sound pool.
    let sums = c.sums_at.ensures ∙ ap (λ z. sums_in (slice_get z c.args.children.number)) c.deref.ensures.value ∙ sums_kept _ _ c.requires.node.kept in
    let whole = c.seen_above-sums.ensures ∙ rw (c.as_str.ensures.text, c.text_bytes-text.ensures.bytes) (sums_above _ _ c.args.label.now c.args.content _ sums refl c.requires.node.good) in
    ok_then c.add.result _ _ (λ at added. node_added _ _ _ u cs root sound pool c.args.content c.args.label.now c.requires.node.good c.requires.small _ _ at.number _ c.in_ok-of.ensures refl c.only.ensures.left (ap (λ z. z.number) c.only.ensures.children) c.only.ensures.right refl whole added)
    (c.add.ensures.ok (cells u ++ cs) pool)
