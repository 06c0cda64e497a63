use Rattle.std.proofs.Common.{Ok, sym, subst}
use Rattle.cp_workspace.specs.Files.{known_files}
use Rattle.cp_workspace.specs.Fetched.{Gives}
use Rattle.cp_workspace.proofs.Supplied.{found-any}
use Rattle.cp_scratch.specs.Starts.{start_given}
use Rattle.cp_scratch.proofs.start.start_tree.Goals as goal

pub returns-in_ok-single-in-Alone-clause-gives : goal.returns-in_ok-single-in-Alone-clause-gives
returns-in_ok-single-in-Alone-clause-gives g c =
    let x = found-any (known_files g.F.Files c.args.files.now) in
    (x.0, x.1, subst (λ s. Gives g.R.TreeRep.contents (start_given x.0 s) (Ok c.in_ok-single-in-Alone.field-0)) (sym c.in-Alone.is) c.in_ok-single-in-Alone.ensures)
