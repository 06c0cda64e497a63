use Rattle.std.proofs.Common.{sym, subst, take}
use Rattle.std.specs.Str.{IsValidUpTo}
use Rattle.cp_format.proofs.Texts.{text_too_short, no_char_there, text_bad}
use Rattle.cp_format.proofs.text.text_in.Goals as goal

pub returns-then-text-count-clause-bad : goal.returns-then-text-count-clause-bad
returns-then-text-count-clause-bad c = text_too_short c.args.count c.min.result c.args.bytes.now c.min.ensures c.in-Ok.text.now c.in-Ok.ensures.cases.0 c.in-Ok.ensures.cases.1 c.if-text-count.true

pub begun-requires-clause-none : goal.begun-requires-clause-none
begun-requires-clause-none c =
    let v = subst (λ n. IsValidUpTo (take c.min.result c.args.bytes.now) n) (sym c.valid_up_to-good.ensures) c.in-Err.ensures.cases.1 in
    no_char_there c.args.count c.min.result c.args.bytes.now c.min.ensures c.valid_up_to-good.result v

pub returns-in-Err-clause-bad : goal.returns-in-Err-clause-bad
returns-in-Err-clause-bad c =
    let v = subst (λ n. IsValidUpTo (take c.min.result c.args.bytes.now) n) (sym c.valid_up_to-good.ensures) c.in-Err.ensures.cases.1 in
    text_bad c.args.count c.min.result c.args.bytes.now c.min.ensures c.valid_up_to-good.result v c.begun.result c.begun.ensures
