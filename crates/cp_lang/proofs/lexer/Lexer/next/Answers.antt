use Rattle.std.proofs.Common.{◌≡◌, ◌<◌, sym, ◌∙◌, ap, subst, length, ◌∷◌, ◌+◌, ◌-◌, arith}
use Rattle.std.proofs.lemmas.Bool.Decides.{nat_tests}
use Rattle.std.specs.Str.{IsUtf8, IsCharBoundary}
use Rattle.cp_lang.specs.Lexer.{spaces, tokens_at}
use Rattle.cp_lang.proofs.LexerLaws.{token}
use Rattle.cp_lang.proofs.Cutting.{spaces_cut, tokens_none, tokens_empty, tokens_next}
use Rattle.cp_lang.proofs.lexer.Lexer.next.Goals as goal

pub split_at-requires : goal.split_at-requires
split_at-requires c =
    let v = c.as_bytes.ensures.value in
    subst (IsCharBoundary c.self.inside.text.now) (ap spaces (sym v) ∙ sym c.spaces-skipped.ensures)
    (spaces_cut c.self.inside.text.now (subst IsUtf8 v c.as_bytes.ensures.utf8))

pub returns-then-is_empty : goal.returns-then-is_empty
returns-then-is_empty c =
    let test = sym c.is_empty.ensures ∙ c.if-is_empty.true in
    let none : length c.split_at.result.1.now ≡ 0 = grind (arith, nat_tests) in (
      sym c.self.view_is
          ∙ tokens_none c.self.inside.at c.spaces-skipped.result c.self.inside.text.now c.split_at.result.1.now
          (c.spaces-skipped.ensures ∙ ap spaces c.as_bytes.ensures.value) c.split_at.ensures.back none,
      tokens_empty (c.self.inside.at + c.spaces-skipped.result) c.split_at.result.1.now none,
    )

pub returns : goal.returns
returns c =
    let test = sym c.is_empty.ensures ∙ c.if-is_empty.false in
    let some : 0 < length c.split_at.result.1.now = grind (arith, nat_tests) in
    let at = c.self.inside.at + c.spaces-skipped.result in
    sym c.self.view_is
    ∙ tokens_next c.self.inside.at c.spaces-skipped.result c.self.inside.text.now c.split_at.result.1.now c.front_token.result.1.now
    (c.spaces-skipped.ensures ∙ ap spaces c.as_bytes.ensures.value) c.split_at.ensures.back some c.front_token.ensures.rest
    ∙ ap (λ s. token at s ∷ tokens_at (at + (length c.split_at.result.1.now - length c.front_token.result.1.now)) c.front_token.result.1.now) (sym c.front_token.ensures.shape)
