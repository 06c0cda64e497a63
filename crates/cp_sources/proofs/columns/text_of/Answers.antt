use Rattle.std.proofs.Common.{subst}
use Rattle.csv.specs.Records.{AllText, fields_of}
use Rattle.cp_sources.proofs.Lists.{all_text, not_text}
use Rattle.cp_sources.proofs.columns.text_of.Goals as goal

pub returns-in-Ok : goal.returns-in-Ok
returns-in-Ok c = (all_text (fields_of c.args.raw) (subst AllText c.in-Ok.ensures.same c.in-Ok.ensures.text), c.in-Ok.ensures.same)

pub returns : goal.returns
returns c = not_text (fields_of c.args.raw) (λ h. let ok = c.in-Err.ensures.refused h in absurd (cc))
