use Rattle.std.proofs.Common.{sym, ◌∙◌, refl}
use Rattle.std.proofs.lemmas.Result.{IfOk-weaker}
use Rattle.cp_workspace.proofs.workspace.Workspace.show_of.Goals as goal

pub returns-then-is_target : goal.returns-then-is_target
returns-then-is_target g c = IfOk-weaker c.shown.result _ _ (λ r h t z. h ∙ rw (sym c.is_target.ensures ∙ c.if-is_target.true) refl) c.shown.ensures

pub returns-in-Some : goal.returns-in-Some
returns-in-Some g c =
    IfOk-weaker c.shown-in-Some.result _ _ (λ r h t z. h ∙ rw (sym c.is_target.ensures ∙ c.if-is_target.false, sym (c.sources.ensures t z), sym c.in-Some.ensures) refl) c.shown-in-Some.ensures

pub returns-in-None : goal.returns-in-None
returns-in-None g c = λ t z. c.refused.ensures ∙ rw (sym c.is_target.ensures ∙ c.if-is_target.false, sym (c.sources.ensures t z), sym c.in-None.ensures) refl
