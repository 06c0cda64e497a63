use Rattle.std.proofs.Common.{ap, sym, ◌∙◌, get_or}
use Rattle.cp_spelling.proofs.Words.{no_text}
use Rattle.cp_spelling.proofs.Accepted.{quoted_word}
use Rattle.cp_spelling.proofs.split.text_of.Goals as goal

pub returns-in-None : goal.returns-in-None
returns-in-None c = λ r e. absurd (no_text _ _ _ c.in-None.is c.in_ok-text.ensures r (quoted_word c.args.word.now r e (ap (λ v. get_or v 0 0) (sym c.as_bytes-bytes.ensures.value) ∙ c.if-bytes-ne34.false)))
