use Rattle.std.proofs.Common.{◌≡◌, ◌≤◌, ◌∙◌, [], ap, true, false, map, drop, length, string_bytes, subst, sym, rules, inl, inr, Global}
use Rattle.std.specs.List.{list_all}
use Rattle.std.proofs.lemmas.List.{take_rest}
use Rattle.std.proofs.lemmas.Result.{IfOk-weaker}
use Rattle.clap.specs.Words.{App, app_of, is_simple, subcommand_of, subcommand_rows_of, kind_of}
use Rattle.clap.specs.Faults.{fault_of, is_simple_and_free}
use Rattle.clap.specs.Kinds.{HasKind}
use Rattle.cp_words.specs.Operands.{is_operand}
use Rattle.cp_words.specs.Matches.{command_from}
use Rattle.cp_words.specs.Shapes.{whole}
use Rattle.cp_words.proofs.Rows.{whole_simple, whole_is_simple, read_ok, read_err, read_none, plain_words, some_words}
use Rattle.cp_words.proofs.words.read_words.Goals as goal

pub returns-in-Ok : goal.returns-in-Ok
returns-in-Ok c =
    let ws = c.args.words.now in
    let all = map (string_bytes {Z = Global}) ws in
    let app = app_of c.in_ok-parser.field-0 in
    let is : app ≡ whole = c.in_ok-parser.ensures in
    let yes : c.are_operands.result ≡ true = search rules in
    let test = rw (take_rest ws 1) at c.are_operands.ensures in
    let plain : list_all is_operand (drop 1 all) ≡ true = plain_words (string_bytes {Z = Global}) ws ∙ sym test ∙ yes in
    let some : 1 ≤ length all = some_words (string_bytes {Z = Global}) ws c.requires in
    let fine : fault_of whole all ≡ [] = let P : App → Type 0 = λ a. is_simple_and_free a ≡ true → fault_of a all ≡ [] in subst P is c.in-Ok.ensures.kinds whole_simple in
    let rows : subcommand_rows_of c.in-Ok.matches ≡ subcommand_of whole all =
    let P : App → Type 0 = λ a. is_simple a ≡ true → subcommand_rows_of c.in-Ok.matches ≡ subcommand_of a all in subst P is (λ h. (c.in-Ok.ensures.matches h).1) whole_is_simple in
    IfOk-weaker c.command_in.result _ _ (λ o h. h ∙ ap command_from rows ∙ read_ok all some plain fine) c.command_in.ensures

pub returns : goal.returns
returns c =
    let ws = c.args.words.now in
    let all = map (string_bytes {Z = Global}) ws in
    let app = app_of c.in_ok-parser.field-0 in
    let is : app ≡ whole = c.in_ok-parser.ensures in
    let yes : c.are_operands.result ≡ true = search rules in
    let test = rw (take_rest ws 1) at c.are_operands.ensures in
    let plain : list_all is_operand (drop 1 all) ≡ true = plain_words (string_bytes {Z = Global}) ws ∙ sym test ∙ yes in
    let some : 1 ≤ length all = some_words (string_bytes {Z = Global}) ws c.requires in
    let kinds : HasKind (fault_of whole all) c.in-Err.error =
    let P : App → Type 0 = λ a. is_simple_and_free a ≡ true → HasKind (fault_of a all) c.in-Err.error in subst P is c.in-Err.ensures.kinds whole_simple in
    elim kinds [
      | inl memory ↦ absurd (c.in_default.not-OutOfMemory (c.kind.ensures ∙ memory))
      | inr among ↦ read_err all (kind_of c.in-Err.error) some plain among
    ]

pub returns-then-not-are_operands : goal.returns-then-not-are_operands
returns-then-not-are_operands c =
    let ws = c.args.words.now in
    let no : c.are_operands.result ≡ false = search rules in
    let test = rw (take_rest ws 1) at c.are_operands.ensures in
    read_none (map (string_bytes {Z = Global}) ws) (plain_words (string_bytes {Z = Global}) ws ∙ sym test ∙ no)
