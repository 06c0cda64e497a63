use Rattle.std.proofs.Common.{sym, ◌∙◌}
use Rattle.cp_overlay.specs.Lost.{lost_in}
use Rattle.cp_overlay.proofs.Calls.{on_ok}
use Rattle.cp_overlay.proofs.LostLemmas.{lost_now}
use Rattle.cp_overlay.proofs.overlay.lose.Goals as goal

pub returns-clause-ok : goal.returns-clause-ok
returns-clause-ok g c = on_ok c.keep.result c.keep.ensures.ok (λ h q e i. lost_now (lost_in c.keep.new.set) (lost_in c.args.lost.now) c.in-Some.parent q c.in_ok-label.label c.args.label.now h (sym c.in-Some.is ∙ e) c.in_ok-label.ensures.cases)
