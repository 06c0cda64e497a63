use Rattle.std.proofs.Common.{sym}
use Rattle.cp_archive.proofs.Finding.{one-passed, row-found, found-passed, none-found, none-left}
use Rattle.cp_archive.proofs.difference.pass_to.Goals.{in-Some+in-Greater, in_default}
use Rattle.cp_archive.proofs.difference.pass_to.Goals as goal

pub loop-row-preserved : goal.loop-row-preserved
loop-row-preserved c = one-passed c.args.path.now c.args.rows.now c.loop-row.left.now c.in-Some.after.now c.in-Some.row.now c.loop-row.invariant c.in-Some.ensures.cases.0 (sym c.in-Less.ensures)

pub returns-in-Equal-clause-content : goal.returns-in-Equal-clause-content
returns-in-Equal-clause-content c = row-found c.args.path.now c.args.rows.now c.loop-row.left.now c.in-Some.after.now c.in-Some.row.now c.loop-row.invariant c.in-Some.ensures.cases.0 (sym c.in-Equal.ensures)

pub returns-in-Equal-clause-after : goal.returns-in-Equal-clause-after
returns-in-Equal-clause-after c = found-passed c.args.path.now c.args.rows.now c.loop-row.left.now c.in-Some.after.now c.in-Some.row.now c.loop-row.invariant c.in-Some.ensures.cases.0 (sym c.in-Equal.ensures)

pub returns-clause-content : goal.returns-clause-content
returns-clause-content c = elim c.match-split_first.branch [
  | in-Some+in-Greater w ↦ none-found c.args.path.now c.args.rows.now c.loop-row.left.now w.in-Some.after.now w.in-Some.row.now c.loop-row.invariant w.in-Some.ensures.cases.0 (sym w.in-Greater.ensures)
  | in_default w ↦ none-left c.args.path.now c.args.rows.now c.loop-row.left.now c.loop-row.invariant w.in_default.ensures.cases
]
