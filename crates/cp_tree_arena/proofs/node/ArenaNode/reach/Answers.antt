use Rattle.std.proofs.Common.{◌∙◌, sym, ap, subst}
use Rattle.cp_tree.specs.Sums.{reach_of_sums, AreSmall}
use Rattle.cp_tree.proofs.SumsLemmas.{reach-branch}
use Rattle.cp_tree_arena.proofs.Reading.{sums_kept, edges_kept}
use Rattle.cp_tree_arena.proofs.node.ArenaNode.reach.Goals as goal

pub reach-requires-clause-small : goal.reach-requires-clause-small
reach-requires-clause-small c =
    let sums = c.sums_at.ensures ∙ sums_kept _ _ c.requires.kept in
    subst AreSmall (sym sums) (edges_kept _ _ c.requires.kept).small

pub returns : goal.returns
returns c =
    let sums = c.sums_at.ensures ∙ sums_kept _ _ c.requires.kept in
    c.reach.ensures ∙ rw c.text_bytes.ensures.bytes (ap (reach_of_sums _) sums) ∙ sym (reach-branch _ _ c.requires.good)
