use Rattle.std.proofs.Common.{◌≡◌, true, ◌∙◌, rules}
use Rattle.cp_lang.specs.Decimal.{is_decimal}
use Rattle.cp_lang.proofs.Digits.{decimal_text, whole_read}
use Rattle.cp_lang.proofs.decimal.decimal_value.Goals as goal

pub returns-in-Ok : goal.returns-in-Ok
returns-in-Ok c =
    let plain : is_decimal c.args.word.now ≡ true = search rules in
    let read = c.parse.ensures.value in
    let text_is : c.in-Ok.text.now ≡ c.args.word.now = search rules in
    let read_here = rw text_is at read in
    c.ok.ensures.value ∙ whole_read c.args.word.now c.parse.result plain read_here.0

pub returns-in-Err : goal.returns-in-Err
returns-in-Err c =
    let plain : is_decimal c.args.word.now ≡ true = search rules in
    absurd (c.in-Err.ensures.cases.0 (decimal_text c.args.word.now plain))
