use Rattle.std.proofs.Common.{◌≡◌, ap, sym, ◌∙◌, drop, get_or, refl, ◌+◌, false, ◌==◌, arith}
use Rattle.std.proofs.lemmas.Bool.Decides.{nat_tests}
use Rattle.cp_lang.specs.Lexer.{closing}
use Rattle.cp_lang.proofs.LexerLaws.{later}
use Rattle.cp_lang.proofs.Cutting.{escaped_step, plain_step}
use Rattle.cp_lang.proofs.lexer.closing.Goals.{then-is_escaped, else-is_escaped+else-byte-eq34}
use Rattle.cp_lang.proofs.lexer.closing.Goals as goal

pub loop-at-preserved : goal.loop-at-preserved
loop-at-preserved c =
    let text = c.args.text.now in
    let at = c.loop-at.at in
    c.loop-at.invariant
    ∙ elim c.if-is_escaped.branch [
      | then-is_escaped w ↦
          ap (λ e. later at (closing e (drop at text))) w.if-is_escaped.true
          ∙ escaped_step text at c.loop-at-test.true
          ∙ sym (ap (λ e. later (at + 1) (closing e (drop (at + 1) text))) w.is_escaped-is)
      | else-is_escaped+else-byte-eq34 w ↦
          let other = w.if-byte-eq34.false in
          let q : (get_or text at 0 == 34) ≡ false = grind (arith, nat_tests) in
          ap (λ e. later at (closing e (drop at text))) w.if-is_escaped.false
          ∙ plain_step text at (get_or text at 0) c.loop-at-test.true refl q
          ∙ sym (ap (λ e. later (at + 1) (closing e (drop (at + 1) text))) w.is_escaped-is)
    ]
