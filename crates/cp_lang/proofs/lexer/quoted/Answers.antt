use Rattle.std.proofs.Common.{rules, ap, sym, ◌∙◌, false, drop}
use Rattle.std.proofs.lemmas.List.{take_rest}
use Rattle.cp_lang.specs.Lexer.{closing}
use Rattle.cp_lang.proofs.Cutting.{quoted_cut}
use Rattle.cp_lang.proofs.lexer.quoted.Goals as goal

pub overflow_add-size : goal.overflow_add-size
overflow_add-size c =
    let e = ap (λ bs. closing false (drop 1 bs)) (sym c.as_bytes.ensures.value) ∙ sym (ap (closing false) (take_rest c.as_bytes.result.now 1)) ∙ sym c.closing.ensures ∙ c.in-Some.is in
    let b = quoted_cut c.args.text.now c.in-Some.size c.utf8.text c.requires.some e in
    search (rules, b.0)

pub split_at-requires : goal.split_at-requires
split_at-requires c =
    quoted_cut c.args.text.now c.in-Some.size c.utf8.text c.requires.some
    (ap (λ bs. closing false (drop 1 bs)) (sym c.as_bytes.ensures.value) ∙ sym (ap (closing false) (take_rest c.as_bytes.result.now 1)) ∙ sym c.closing.ensures ∙ c.in-Some.is)
