use Rattle.std.proofs.Common.{[], refl}
use Rattle.cp_model.specs.declared.row.Content.TheVariants.{Node}
use Rattle.cp_sources.proofs.Placing.{has_place}
use Rattle.cp_sources.proofs.load.put_rows.Goals as goal

pub loop-raw-init : goal.loop-raw-init
loop-raw-init g c = record {
  ready = c.requires.open;
  goes = refl;
  root = c.requires.root;
  shallow = c.requires.shallow;
  number = has_place (g.R.TreeRep.contents c.args.tree.now) [] Node c.requires.root;
}
