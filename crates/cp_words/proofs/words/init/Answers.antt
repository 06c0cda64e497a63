use Rattle.std.proofs.Common.{◌∙◌, ap, codes, sym}
use Rattle.std.specs.Prelude.{option_and_then, option_map}
use Rattle.std.proofs.lemmas.Result.{IfOk-weaker}
use Rattle.clap.specs.Words.{first_of, found_of, rows_of}
use Rattle.cp_words.specs.Commands.{init_by}
use Rattle.cp_words.proofs.words.init.Goals as goal

pub returns-in-Some : goal.returns-in-Some
returns-in-Some c =
    let rows = rows_of (found_of c.args.matches.now) in
    let json = first_of (codes "JSON") rows in
    let kind = ap (option_map (λ w. w.now)) (sym c.in-Some.is) ∙ c.operand.ensures in
    IfOk-weaker c.init_by.result _ _ (λ o h. h ∙ ap (λ j. init_by c.in-Some.kind.now j) c.operand-in-Some.ensures ∙ ap (option_and_then (λ k. init_by k json)) kind) c.init_by.ensures
