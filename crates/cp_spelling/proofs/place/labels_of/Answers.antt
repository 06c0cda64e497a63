use Rattle.cp_path.specs.declared.limits.TheConstants.{LABEL_MAX}
use Rattle.std.proofs.Common.{rules, ◌≡◌, ◌≤◌, ◌<◌, ◌++◌, ◌∷◌, [], ◌||◌, false, nat_lt, length, take, get_or, ap, sym, ◌∙◌, subst, Err}
use Rattle.std.proofs.lemmas.Bool.{le-ltb}
use Rattle.std.proofs.lemmas.List.{take_more}
use Rattle.std.proofs.lemmas.List.Folds.{list_any_more}
use Rattle.std.proofs.lemmas.Result.{err_from_is_err_and}
use Rattle.cp_spelling.proofs.Words.{long_label, long_or_memory}
use Rattle.cp_spelling.proofs.place.labels_of.Goals as goal

pub loop-piece-preserved : goal.loop-piece-preserved
loop-piece-preserved c =
    let i = c.loop-piece.piece-index in
    let pieces = c.args.pieces.now in
    let same : c.in_ok-label.label ≡ c.piece-item.result = search rules in
    let short : nat_lt LABEL_MAX (length c.piece-item.result) ≡ false = le-ltb LABEL_MAX (length c.piece-item.result) (subst (λ a. length a ≤ LABEL_MAX) same c.in_ok-label.ensures.short) in
    record {
      same =
          c.in_ok-push.ensures.items
          ∙ ap (λ labels. labels ++ c.in_ok-label.label ∷ []) c.loop-piece.invariant.same
          ∙ ap (λ a. take i pieces ++ a ∷ []) (same ∙ c.piece-item.is)
          ∙ sym (take_more pieces i c.piece-item.result c.loop-piece-test.true);
      short =
          list_any_more (λ a. nat_lt LABEL_MAX (length a)) pieces i c.piece-item.result c.loop-piece-test.true
          ∙ ap (λ b. b || nat_lt LABEL_MAX (length (get_or pieces i c.piece-item.result))) c.loop-piece.invariant.short
          ∙ ap (λ a. nat_lt LABEL_MAX (length a)) (sym c.piece-item.is)
          ∙ short;
    }

pub returns-in_err-label-clause-long : goal.returns-in_err-label-clause-long
returns-in_err-label-clause-long c =
    let p = err_from_is_err_and c.from_residual.result c.from_residual.ensures.1 in
    let same : c.as_str.result.now ≡ c.piece-item.result = search rules in
    rw (p.1, p.2) (long_or_memory c.in_err-label.field-0.0 c.args.pieces.now
    (λ e. long_label c.args.pieces.now c.loop-piece.piece-index c.piece-item.result c.loop-piece-test.true
    (subst (λ a. LABEL_MAX < length a) (same ∙ c.piece-item.is) (c.in_err-label.ensures.long.0 (ap Err e))))
    c.in_err-label.ensures.faults)
