use Rattle.std.proofs.Common.{ap}
use Rattle.cp_model.specs.Place.{child}
use Rattle.cp_tree.specs.Rows.{root_entries}
use Rattle.cp_tree.proofs.Answering.{fits_as}
use Rattle.cp_tree.proofs.FewRows.{text_fits}
use Rattle.cp_tree.proofs.Small.{small_tree}
use Rattle.cp_tree_arena.proofs.tree.ArenaTreeTreeRep.insert_leaf.Goals as goal

pub of-requires : goal.of-requires
of-requires c = text_fits _ _ _ c.requires.fits

pub put_leaf-requires-clause-small : goal.put_leaf-requires-clause-small
put_leaf-requires-clause-small c = small_tree _ (fits_as _ _ _ _ _ (ap (λ z. child z c.args.label.now) c.labels.ensures.labels) (ap root_entries c.in_ok-content.ensures) c.requires.fits)
