use Rattle.std.proofs.Common.{◌∙◌, sym, ap, ◌++◌, map, Ok, Result, refl}
use Rattle.std.specs.declared.alloc.AllocError.{AllocError}
use Rattle.cp_model.specs.Keyed.{entries}
use Rattle.cp_model.specs.Subtrees.{entries_under}
use Rattle.cp_tree.specs.Rows.{entry_row}
use Rattle.cp_tree.proofs.EdgeRows.{rows_node}
use Rattle.cp_tree.proofs.ListingLemmas.{moved-root}
use Rattle.cp_tree_arena.specs.Kept.{tree_at}
use Rattle.cp_tree_arena.proofs.node.ArenaNode.rows.Goals as goal

pub returns : goal.returns
returns c =
    let ok : Result (Unit {0}) AllocError = Ok tt in
    let m = tree_at c.args.self.slots.now c.args.self.content.now c.args.self.children.number in
    let none = c.new.ensures.items in
    rows_node ok _ _ _ _ _ m _ _ refl c.requires.good c.in_ok-place_into.ensures (sym none) refl c.in_ok-rows_below.ensures.rows
    ∙ ap (λ z. z ++ map entry_row (entries_under c.new.result.items (entries m))) c.new-out.ensures.items ∙ ap (λ z. map entry_row (entries_under z (entries m))) none ∙ ap (map entry_row) (moved-root (entries m))
