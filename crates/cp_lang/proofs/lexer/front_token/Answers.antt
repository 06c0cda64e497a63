use Rattle.std.proofs.Common.{ap, sym, ◌∙◌, subst, get_or}
use Rattle.std.specs.Str.{IsCharBoundary}
use Rattle.cp_path.specs.Spelling.{is_trigger}
use Rattle.cp_lang.specs.Lexer.{run}
use Rattle.cp_lang.proofs.Cutting.{mark_cut, run_cut}
use Rattle.cp_lang.proofs.lexer.front_token.Goals as goal

pub split_at-requires : goal.split_at-requires
split_at-requires c =
    mark_cut c.args.text.now c.utf8.text c.requires
    (ap (λ bs. is_trigger (get_or bs 0 0)) (sym c.as_bytes-bytes.ensures.value) ∙ sym c.is_trigger.ensures ∙ c.if-is_trigger.true)

pub split_at-requires-2 : goal.split_at-requires-2
split_at-requires-2 c =
    subst (IsCharBoundary c.args.text.now) (ap run (sym c.as_bytes-bytes.ensures.value) ∙ sym c.run.ensures) (run_cut c.args.text.now)
