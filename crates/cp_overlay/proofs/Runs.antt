-- The entries at and below a path are one run of a sorted map.
use Rattle.std.proofs.Common.{◌+◌, ◌≤◌, ◌≡◌, Bool, true, false, cond, ◌&&◌, List, [], ◌∷◌, refl, sym, ap, ◌∙◌, take, drop, length, arith}
use Rattle.std.specs.Prelude.{is_some}
use Rattle.std.specs.Borrow.{Bor}
use Rattle.std.specs.Option.{MatchOption, option_copied}
use Rattle.std.specs.declared.option.Option.{Option}
use Rattle.std.specs.declared.option.Option.TheVariants.{None, Some}
use Rattle.std.specs.declared.cmp.Ordering.{Ordering}
use Rattle.std.specs.declared.cmp.Ordering.TheVariants.{Less, Equal, Greater}
use Rattle.std.specs.Ordering.{is_eq, is_le, ordering_then, ordering_reverse}
use Rattle.std.specs.List.{filter, cons_option, AllByRecursion}
use Rattle.std.specs.Map.{keys_of}
use Rattle.std.specs.Global.{Vec}
use Rattle.std.specs.Cmp.Lexicographic.{texts_ties, nat_list_cmp_total}
use Rattle.cp_path.specs.Text.{text_cmp}
use Rattle.cp_path.proofs.Same.{text_eq-same}
use Rattle.cp_model.specs.Place.{Path, Label, path_eq, path_cmp, label_eq, strip, option_map}
use Rattle.cp_model.specs.Subtrees.{entry_below}
use Rattle.cp_overlay.specs.Shown.{run}
use Rattle.cp_overlay.proofs.Found.{keys_cmp}

eq_equal : (o : Ordering) → is_eq o ≡ true → o ≡ Equal
eq_equal Less e = absurd (cc)
eq_equal Equal e = refl
eq_equal Greater e = absurd (cc)

same_equal : (a b : Label) → label_eq a b ≡ true → text_cmp a b ≡ Equal
same_equal a b e = eq_equal _ (sym (texts_ties a b) ∙ e)

equal_same : (a b : Label) → text_cmp a b ≡ Equal → label_eq a b ≡ true
equal_same a b e = texts_ties a b ∙ ap is_eq e

-- a path comes before those below it
pub strip-le : (q k : Path) → is_some (strip q k) ≡ true → is_le (path_cmp q k) ≡ true
strip-le [] [] e = refl
strip-le [] (b ∷ k) e = refl
strip-le (a ∷ q) [] e = absurd (cc)
strip-le (a ∷ q) (b ∷ k) e =
    elim (label_eq a b) as (λ c. label_eq a b ≡ c → is_some (cond c (strip q k) None) ≡ true → is_le (ordering_then (text_cmp a b) (path_cmp q k)) ≡ true) [
      | true ↦ λ h e. ap (λ o. is_le (ordering_then o (path_cmp q k))) (same_equal a b h) ∙ strip-le q k e
      | false ↦ λ _ e. absurd (cc)
    ] refl e

-- what lies between a path and a path below it is below it too
pub strip-between : (q k r : Path) → is_le (path_cmp q k) ≡ true → path_cmp k r ≡ Less → is_some (strip q r) ≡ true → is_some (strip q k) ≡ true
strip-between [] k r le lt e = refl
strip-between (a ∷ q) [] r le lt e = absurd (cc)
strip-between (a ∷ q) (b ∷ k) [] le lt e = absurd (cc)
strip-between (a ∷ q) (b ∷ k) (c ∷ r) le lt e =
    elim (label_eq a c) as (λ d. label_eq a c ≡ d → is_some (cond d (strip q r) None) ≡ true → is_some (strip (a ∷ q) (b ∷ k)) ≡ true) [
      | false ↦ λ _ e. absurd (cc)
      | true ↦ λ h e. by_label (text_eq-same a c h) (λ le lt. strip-between q k r le lt e) (text_cmp a b) refl
    ] refl e
  where
    by_label : a ≡ c → (is_le (path_cmp q k) ≡ true → path_cmp k r ≡ Less → is_some (strip q k) ≡ true) → (o : Ordering) → text_cmp a b ≡ o → is_some (strip (a ∷ q) (b ∷ k)) ≡ true
    by_label s ih Less h =
        let back : text_cmp b c ≡ Greater = ap (text_cmp b) (sym s) ∙ nat_list_cmp_total.antisymm b a ∙ ap ordering_reverse h in
        absurd (cc (sym lt ∙ ap (λ o. ordering_then o (path_cmp k r)) back))
    by_label s ih Equal h =
        let same = equal_same a b h in
        let back : text_cmp b c ≡ Equal = ap (text_cmp b) (sym s) ∙ nat_list_cmp_total.antisymm b a ∙ ap ordering_reverse h in
        ap (λ d. is_some (cond d (strip q k) None)) same
        ∙ ih (sym (ap (λ o. is_le (ordering_then o (path_cmp q k))) h) ∙ le) (sym (ap (λ o. ordering_then o (path_cmp k r)) back) ∙ lt)
    by_label s ih Greater h = absurd (cc (sym le ∙ ap (λ o. is_le (ordering_then o (path_cmp q k))) h))

no_option : (o : Option Path) → is_some o ≡ false → o ≡ None
no_option None e = refl
no_option (Some s) e = absurd (cc)

module _ {X : Type 0} where
  -- the entries before q don't count
  pub run-from : (q : Path) (p : Vec Label → Bool) (es : List (Vec Label × X)) → ((k : Vec Label) → is_some (strip q k.items) ≡ true → p k ≡ true) → run q (filter (λ e. p e.0) es) ≡ run q es
  unfolding run
  run-from q p [] h = refl
  run-from q p (e ∷ es) h =
      let rest = run-from q p es h in
      elim (p e.0) as (λ b. p e.0 ≡ b → run q (cond b (e ∷ filter (λ e. p e.0) es) (filter (λ e. p e.0) es)) ≡ run q (e ∷ es)) [
        | true ↦ λ _. ap (cons_option (entry_below q (e.0.items, e.1))) rest
        | false ↦ λ n. rest ∙ ap (λ o. cons_option (option_map (λ s. (s, e.1)) o) (run q es)) (sym (no_option (strip q e.0.items) (absent (is_some (strip q e.0.items)) refl n)))
      ] refl
    where
      absent : (b : Bool) → is_some (strip q e.0.items) ≡ b → p e.0 ≡ false → b ≡ false
      absent true k n = absurd (cc (h e.0 k))
      absent false k n = refl

  -- and none from the first that is not below q
  pub run-ends : (q : Path) (k : Vec Label) (es : List (Vec Label × X)) → is_le (path_cmp q k.items) ≡ true → strip q k.items ≡ None → AllByRecursion (λ r. keys_cmp k r ≡ Less) (keys_of es) → run q es ≡ []
  unfolding run
  run-ends q k [] le n all = refl
  run-ends q k (e ∷ es) le n all = ap (λ o. cons_option (option_map (λ s. (s, e.1)) o) (run q es)) (no_option _ (absent (is_some (strip q e.0.items)) refl)) ∙ run-ends q k es le n all.1
    where
      absent : (b : Bool) → is_some (strip q e.0.items) ≡ b → b ≡ false
      absent true h = absurd (cc (strip-between q k.items e.0.items le all.0 h))
      absent false h = refl

-- what follows a prefix that is one
pub strip_take : (q k : Path) → length q ≤ length k → path_eq (take (length q) k) q ≡ true → strip q k ≡ Some (drop (length q) k)
strip_take [] k n e = refl
strip_take (a ∷ q) [] n e = absurd (omega arith)
strip_take (a ∷ q) (b ∷ k) n e =
    elim (label_eq b a) as (λ c. label_eq b a ≡ c → (c && path_eq (take (length q) k) q) ≡ true → strip (a ∷ q) (b ∷ k) ≡ Some (drop (length q) k)) [
      | true ↦ λ h e. let s = text_eq-same b a h in ap (λ d. cond d (strip q k) None) (flipped b a h) ∙ strip_take q k (omega arith) e
      | false ↦ λ _ e. absurd (cc)
    ] refl e
  where
    flipped : (b a : Label) → label_eq b a ≡ true → label_eq a b ≡ true
    flipped b a h = ap (λ x. label_eq x b) (sym (text_eq-same b a h)) ∙ ap (label_eq b) (text_eq-same b a h) ∙ h

-- nothing follows a prefix that is none
pub strip_apart : (q k : Path) → path_eq (take (length q) k) q ≡ false → strip q k ≡ None
strip_apart [] k e = absurd (cc)
strip_apart (a ∷ q) [] e = refl
strip_apart (a ∷ q) (b ∷ k) e =
    elim (label_eq a b) as (λ c. label_eq a b ≡ c → cond c (strip q k) None ≡ None) [
      | true ↦ λ h. strip_apart q k (sym (ap (λ d. d && path_eq (take (length q) k) q) (ap (λ x. label_eq x a) (sym (text_eq-same a b h)) ∙ self a b h)) ∙ e)
      | false ↦ λ _. refl
    ] refl
  where
    self : (a b : Label) → label_eq a b ≡ true → label_eq a a ≡ true
    self a b h = ap (label_eq a) (text_eq-same a b h) ∙ h

-- what `strip_prefix` of a slice answers
pub stripped : (q k : Path) (o : Option (Bor Path)) → MatchOption o (path_eq (take (length q) k) q ≡ false) (λ x. (path_eq (take (length q) k) q ≡ true) × (x.now ≡ drop (length q) k) × (length x.now + length q ≡ length k)) → option_copied o ≡ strip q k
stripped q k None h = sym (strip_apart q k h)
stripped q k (Some x) h =
    let fits : length q ≤ length k = omega (arith, h.2) in
    ap Some h.1 ∙ sym (strip_take q k fits h.0)
