-- Where the frames end after one entry more.
use Rattle.std.proofs.Common.{◌≡◌, ℕ, ◌+◌, List, [], ◌∷◌, ◌++◌, fold, refl, sym, ap, ◌∙◌, append_assoc}
use Rattle.std.specs.declared.option.Option.{Option}
use Rattle.std.specs.declared.option.Option.TheVariants.{None}
use Rattle.std.proofs.Math.Seq.{drop-append_seam, drop-length}
use Rattle.std.proofs.lemmas.List.Sums.{fold-append}
use Rattle.cp_model.specs.History.{Entry, State, replay, then_entry}
use Rattle.cp_journal.specs.declared.limits.TheConstants.{FRAME_HEAD}
use Rattle.cp_frame.specs.Sizes.{FrameEnd, end_after, end_of, entry_size}

-- after one entry more the frames end by its frame later
pub end_after-snoc : (at : ℕ) (o : Option State) (es : List Entry) (e : Entry) → end_after at o (es ++ e ∷ []) ≡ end_after at o es + FRAME_HEAD + entry_size (fold then_entry o es) e
end_after-snoc at o [] e = refl
end_after-snoc at o (d ∷ es) e = end_after-snoc (at + FRAME_HEAD + entry_size o d) (then_entry o d) es e

module _ (f : FrameEnd) where
  -- what comes after the entries of a known end
  end_of-more : (rest : List Entry) → end_of f (f.entries ++ rest) ≡ end_after f.at (replay f.entries) rest
  end_of-more rest = ap (end_after f.at (replay f.entries)) (drop-append_seam f.entries rest)

  -- the state after those entries and more
  replay-more : (rest : List Entry) → fold then_entry (replay f.entries) rest ≡ replay (f.entries ++ rest)
  unfolding replay
  replay-more rest = sym (fold-append then_entry None f.entries rest)

  -- the same of a history that goes on after the entries of a known end
  pub end_of-snoc : (rest : List Entry) (e : Entry) → end_of f ((f.entries ++ rest) ++ e ∷ []) ≡ end_of f (f.entries ++ rest) + FRAME_HEAD + entry_size (replay (f.entries ++ rest)) e
  end_of-snoc rest e =
      ap (end_of f) (append_assoc f.entries rest (e ∷ []))
      ∙ end_of-more (rest ++ e ∷ [])
      ∙ end_after-snoc f.at (replay f.entries) rest e
      ∙ ap (λ (n : ℕ). n + FRAME_HEAD + entry_size (fold then_entry (replay f.entries) rest) e) (sym (end_of-more rest))
      ∙ ap (λ (o : Option State). end_of f (f.entries ++ rest) + FRAME_HEAD + entry_size o e) (replay-more rest)

  -- with no entry more they end where they ended
  pub end_of-none : end_of f f.entries ≡ f.at
  end_of-none = ap (end_after f.at (replay f.entries)) (drop-length f.entries)
