use Rattle.std.proofs.Common.{◌≤◌, sym, ◌∙◌, get_or, arith}
use Rattle.cp_frame.proofs.Early.{some_bytes}
use Rattle.cp_frame.proofs.EarlyPaths.{labels_are_early, root_is_early}
use Rattle.cp_frame.proofs.order.path_early.Goals as goal

pub returns-then-begun-eq0-clause-early : goal.returns-then-begun-eq0-clause-early
returns-then-begun-eq0-clause-early c = λ p e. root_is_early p c.args.begun.now (some_bytes c.args.begun.now (sym c.is_empty.ensures ∙ c.if-is_empty.false)) c.if-begun-eq0.true

pub returns-clause-early : goal.returns-clause-early
returns-clause-early c = λ p e.
    (let many : 1 ≤ get_or c.args.begun.now 0 0 = omega (arith, c.if-begun-eq0.false) in
    labels_are_early p c.args.begun.now (some_bytes c.args.begun.now (sym c.is_empty.ensures ∙ c.if-is_empty.false)) many c.in_ok-early.early (c.in_ok-early.ensures.early p e))
