use Rattle.std.proofs.Common.{length, refl, sym, ap, subst, arith}
use Rattle.cp_model.specs.Changes.{AreNext}
use Rattle.cp_archive.specs.Trees.{newest}
use Rattle.cp_db.proofs.Archiving.{versions-begun}
use Rattle.cp_db.proofs.archive.KeptWork.begin.Goals as goal

pub returns-clause-fits : goal.returns-clause-fits
returns-clause-fits g c = record {
  of_kind = refl;
  few = (let one = ap length c.in_ok-archive.ensures in omega (arith, one));
  newest = ap newest c.in_ok-archive.ensures;
  next = subst (AreNext 0 c.args._last) (sym c.new-rows.ensures) (record { rise = refl; sources = refl; between = refl });
}

pub returns-clause-done : goal.returns-clause-done
returns-clause-done g c = λ first place items s is.
    versions-begun (record { kind = c.args.kind; archive = c.in_ok-archive.archive; rows = c.new-rows.result }) c.args.kind c.args._last (g.R.TreeRep.contents c.args.tree.now) refl c.in_ok-archive.ensures c.new-rows.ensures first items s is
