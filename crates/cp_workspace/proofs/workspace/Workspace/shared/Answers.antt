use Rattle.std.proofs.Common.{refl}
use Rattle.cp_model.specs.Past.{tree_of}
use Rattle.cp_curators.specs.Desks.{no_desks}
use Rattle.cp_curators.proofs.DeskLaws.{none_begun}
use Rattle.cp_workspace.proofs.Standing.{ends-now}
use Rattle.cp_workspace.proofs.workspace.Workspace.shared.Goals as goal

pub returns-clause-workspace : goal.returns-clause-workspace
returns-clause-workspace g c = record {
  stands = c.requires.stands;
  usable = c.requires.usable;
  begun = tt;
  desks = (refl, λ s z. c.new.ensures.over s.sources (tree_of s.tree) s.kind s.now z.committed.sound.sources);
}

pub returns-clause-stands : goal.returns-clause-stands
returns-clause-stands g c = λ h supply z. record {
  db = z;
  ends = ends-now c.args.db h;
  curator = refl;
  opened = tt;
  shared = refl;
  desks = record {
    desks = no_desks;
    stands = c.new.ensures.stands z.state.sources z.holds.committed.sound.sources;
    begun = none_begun (tree_of z.state.tree) z.state.kind z.state.now;
    listed = tt;
    each = λ n. refl;
  };
}
