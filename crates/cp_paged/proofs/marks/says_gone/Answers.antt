use Rattle.std.proofs.Common.{◌∙◌, ap}
use Rattle.cp_model.specs.Records.{is_D}
use Rattle.cp_paged.proofs.SameRecords.{mark-same, no-mark}
use Rattle.cp_paged.proofs.marks.says_gone.Goals as goal

pub returns-in-Some : goal.returns-in-Some
returns-in-Some c = λ m says. c.is_gone.ensures ∙ ap is_D (mark-same _ _ _ c.in-Some.is (c.in_ok-mark.ensures m says))

pub returns-in-None : goal.returns-in-None
returns-in-None c = λ m says. absurd (no-mark _ _ c.in-None.is (c.in_ok-mark.ensures m says))
