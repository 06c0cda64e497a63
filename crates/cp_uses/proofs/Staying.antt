-- What a look-up tells of how long what was reached stood.
use Rattle.std.specs.Prelude.{ℕ, zero, suc, ◌+◌, ◌-◌, ◌^◌, ◌≤◌, ◌<◌, ◌≡◌, ◌&&◌, Bool, true, false, List, [], ◌∷◌, ◌++◌, length, drop, refl, nat_lt, if◌then◌else◌}
use Rattle.std.proofs.Common.{sym, ap, subst, ◌∙◌, arith, get_or}
use Rattle.std.specs.List.{flat_map, AllByRecursion}
use Rattle.std.specs.List.Sorted.{IsNonDecreasingBy}
use Rattle.std.proofs.lemmas.Bool.Decides.{nat_tests}
use Rattle.std.proofs.lemmas.Option.{none-some}
use Rattle.std.specs.declared.option.Option.{Option}
use Rattle.std.specs.declared.option.Option.TheVariants.{None, Some}
use Rattle.cp_path.specs.declared.loc.Loc.{Loc}
use Rattle.cp_model.specs.Place.{in_target}
use Rattle.cp_model.specs.declared.effect.Effect.TheVariants.{Same as same}
use Rattle.cp_model.specs.Rows.{Reading, left}
use Rattle.cp_model.specs.Leaps.{tells_same, last}
use Rattle.cp_model.specs.Records.{reads}
use Rattle.cp_model.specs.Changes.{change_at}
use Rattle.cp_model.specs.declared.kind.Kind.{Kind}
use Rattle.cp_model.specs.declared.record.Record.{Record}
use Rattle.cp_model.proofs.LeapsLemmas.{Says, last-says}
use Rattle.cp_uses.specs.declared.reached.Reached.{Reached}
use Rattle.cp_uses.specs.declared.stay.Stay.{Stay}
use Rattle.cp_uses.specs.Reach.{IsQuiet}
use Rattle.cp_uses.specs.Carrying.{landing}
use Rattle.cp_uses.specs.Onward.{is_early, stood, came, onward_to, onward}
use Rattle.cp_uses.specs.Stays.{stands, step_of, is_over, IsKnown}
use Rattle.cp_uses.proofs.Arrived.{early-quiet, quiet-early}

module _ (k : Kind) (rs : List Record) (x : Reached) where
  quiet-of : (v : ℕ) → stands k rs x v ≡ true → IsQuiet (reads k rs) x.place x.tid (v + 1)
  quiet-of v h = let e : v + 1 - 1 ≡ v = omega arith in early-quiet k rs x.place x.tid (v + 1) (ap (λ n. is_early x.tid (change_at k rs n x.place)) e ∙ h)

  of-quiet : (v : ℕ) → IsQuiet (reads k rs) x.place x.tid (v + 1) → stands k rs x v ≡ true
  of-quiet v q = let e : v + 1 - 1 ≡ v = omega arith in ap (λ n. is_early x.tid (change_at k rs n x.place)) (sym e) ∙ quiet-early k rs x.place x.tid (v + 1) q

  -- what stood up to a version stood up to those before it
  pub stood-before : (v w : ℕ) → w ≤ v → stands k rs x v ≡ true → stands k rs x w ≡ true
  stood-before v w l h = of-quiet w (λ i u a b. quiet-of v h i u a (omega (arith, b, l)))

  -- what had changed by a version has changed by those after it
  pub changed-after : (v w : ℕ) → v ≤ w → stands k rs x v ≡ false → stands k rs x w ≡ false
  changed-after v w l h =
      elim (stands k rs x w) as (λ b. stands k rs x w ≡ b → b ≡ false) [
        | false ↦ λ _. refl
        | true ↦ λ e. let t : stands k rs x v ≡ true = stood-before w v l e in absurd (cc)
      ] refl

  apart : in_target x.place ≡ true → in_target x.place ≡ false → ⊥
  apart t f = absurd (cc)

  -- before the store is asked
  pub known-first : (s : Stay) → in_target x.place ≡ true → s.still ≡ x.tid → s.changed ≡ None → IsKnown k rs x s
  known-first s i e n = record {
    own = λ _. omega (arith, e);
    source = λ f. absurd (apart i f);
    still = λ v l. of-quiet v (λ i u a b. absurd (omega (arith, a, b, l, e)));
    changed = λ v o. absurd (none-over v (ap (is_over v) (sym n) ∙ o));
  }
    where
      none-over : (v : ℕ) → is_over v None ≡ true → ⊥
      none-over v h = absurd (cc)

  pub known-source : (s : Stay) → in_target x.place ≡ false → 2 ^ 64 ≤ s.still + 1 → s.changed ≡ None → IsKnown k rs x s
  known-source s i l n = record {
    own = λ t. absurd (apart t i);
    source = λ _. l;
    still = λ v l. of-quiet v (λ t u a b. absurd (cc));
    changed = λ v o. absurd (none-over v (ap (is_over v) (sym n) ∙ o));
  }
    where
      none-over : (v : ℕ) → is_over v None ≡ true → ⊥
      none-over v h = absurd (cc)

  early-by : (o : Option (ℕ × Reading)) → step_of o ≤ x.tid → is_early x.tid o ≡ true
  early-by None l = refl
  early-by (Some d) l = grind (arith, nat_tests, l)

  late-by : (o : Option (ℕ × Reading)) → x.tid < step_of o → is_early x.tid o ≡ false
  late-by None l = absurd (omega (arith, l))
  late-by (Some d) l = grind (arith, nat_tests, l)

  -- a look-up says that it stood
  pub told-stands : (v n : ℕ) → n ≡ step_of (change_at k rs v x.place) → n ≤ x.tid → stands k rs x v ≡ true
  told-stands v n e l = early-by (change_at k rs v x.place) (omega (arith, e, l))

  -- or that it had changed, and by which step
  pub told-changed : (v n : ℕ) → n ≡ step_of (change_at k rs v x.place) → x.tid < n → stands k rs x v ≡ false
  told-changed v n e l = late-by (change_at k rs v x.place) (omega (arith, e, l))

  by-change : (v : ℕ) (o : Option (ℕ × Reading)) → change_at k rs v x.place ≡ o → x.tid < step_of o → stands k rs x (step_of o) ≡ false
  unfolding change_at Says
  by-change v None e l = absurd (omega (arith, l))
  by-change v (Some d) e l =
      elim (stands k rs x d.0) as (λ b. stands k rs x d.0 ≡ b → b ≡ false) [
        | false ↦ λ _. refl
        | true ↦ λ t. absurd (at (in_target x.place) refl t)
      ] refl
    where
      at : (b : Bool) → in_target x.place ≡ b → stands k rs x d.0 ≡ true → ⊥
      at false i t = none-some d (sym (ap (λ b. if b then last (reads k rs) v x.place.path else None) i) ∙ e)
      at true i t =
          let s = subst (Says (reads k rs) v x.place.path) (sym (ap (λ b. if b then last (reads k rs) v x.place.path else None) i) ∙ e) (last-says (reads k rs) v x.place.path) in
          let q : reads k rs d.0 x.place.path ≡ left same = quiet-of d.0 t i d.0 l (omega arith) in
          let m : d.1 ≡ left same = s.2 ∙ q in
          absurd (cc (sym s.3 ∙ ap tells_same m))

  -- what is known after a look-up
  pub known-still : (s z : Stay) (v n : ℕ) → IsKnown k rs x s → s.still < v → v < 2 ^ 64 → n ≡ step_of (change_at k rs v x.place) → n ≤ x.tid → z.still ≡ v → z.changed ≡ s.changed → IsKnown k rs x z
  known-still s z v n h g b e l a c = record {
    own = λ i. let o = h.own i in omega (arith, o, g, a);
    source = λ i. let o = h.source i in absurd (omega (arith, o, g, b));
    still = λ w b. stood-before v w (omega (arith, a, b)) (told-stands v n e l);
    changed = λ w o. h.changed w (ap (is_over w) (sym c) ∙ o);
  }

  pub known-changed : (s z : Stay) (v n : ℕ) → IsKnown k rs x s → n ≡ step_of (change_at k rs v x.place) → x.tid < n → z.still ≡ s.still → z.changed ≡ Some n → IsKnown k rs x z
  known-changed s z v n h e l a c = record {
    own = λ i. let o = h.own i in omega (arith, o, a);
    source = λ i. let o = h.source i in omega (arith, o, a);
    still = λ w b. h.still w (omega (arith, a, b));
    changed = λ w o. changed-after n w (within n w (ap (is_over w) (sym c) ∙ o)) (ap (stands k rs x) e ∙ by-change v (change_at k rs v x.place) refl (omega (arith, e, l)));
  }
    where
      within : (n w : ℕ) → is_over w (Some n) ≡ true → n ≤ w
      within n w o = grind (arith, nat_tests, o)

  -- ---- rows after the place had changed

  stood-is : (u : ℕ) → stood k rs x u ≡ stands k rs x (u - 1)
  stood-is u = refl

  -- a row after the place had changed took it nowhere
  pub onward-none : (r : Record) → stands k rs x (r.tid - 1) ≡ false → onward k rs x r ≡ []
  onward-none r h = by (nat_lt x.tid r.tid) (landing k r x.place)
    where
      by : (b : Bool) (o : Option Loc) → (if b then onward_to k rs x r.tid o else []) ≡ []
      by true None = refl
      by true (Some p) = ap (λ c. if c && came k rs (record { place = p; tid = r.tid }) x.place then record { place = p; tid = r.tid } ∷ [] else []) h
      by false o = refl

  -- they took it nowhere
  pub none-onward : (rows : List Record) → AllByRecursion (λ r. stands k rs x (r.tid - 1) ≡ false) rows → flat_map (onward k rs x) rows ≡ []
  none-onward [] a = refl
  none-onward (r ∷ rows) a = ap (λ l. l ++ flat_map (onward k rs x) rows) (onward-none r a.0) ∙ none-onward rows a.1

  all-from : (rows : List Record) (i : ℕ) (v : ℕ) → ((j : ℕ) (d : Record) → i ≤ j → j < length rows → v ≤ (get_or rows j d).tid) → stands k rs x (v - 1) ≡ false → AllByRecursion (λ r. stands k rs x (r.tid - 1) ≡ false) (drop i rows)
  all-from [] zero v h f = tt
  all-from [] (suc i) v h f = tt
  all-from (r ∷ rows) zero v h f =
      (changed-after (v - 1) (r.tid - 1) (let l = h 0 r (omega arith) (omega arith) in omega (arith, l)) f, all-from rows 0 v (λ j d a b. h (suc j) d (omega arith) (omega (arith, b))) f)
  all-from (r ∷ rows) (suc i) v h f = all-from rows i v (λ j d a b. h (suc j) d (omega (arith, a)) (omega (arith, b))) f

  -- where a row in order was one after the place had changed, so are all that follow it
  pub rest-late : (rows : List Record) (i : ℕ) (r : Record) → IsNonDecreasingBy (λ r. r.tid) rows → r ≡ get_or rows i r → i < length rows → stands k rs x (r.tid - 1) ≡ false → AllByRecursion (λ r. stands k rs x (r.tid - 1) ≡ false) (drop i rows)
  rest-late rows i r o e l f =
      all-from rows i r.tid (λ j d a b. rising i j r d o e l a b) f
    where
      same_default : (xs : List Record) (i : ℕ) (d e : Record) → i < length xs → get_or xs i d ≡ get_or xs i e
      same_default [] i d e h = absurd (omega (arith, h))
      same_default (x ∷ xs) zero d e h = refl
      same_default (x ∷ xs) (suc i) d e h = same_default xs i d e (omega (arith, h))

      rising : (i j : ℕ) (r d : Record) → IsNonDecreasingBy (λ r. r.tid) rows → r ≡ get_or rows i r → i < length rows → i ≤ j → j < length rows → r.tid ≤ (get_or rows j d).tid
      rising i j r d o e l a b = let z : r.tid ≡ (get_or rows i d).tid = ap (λ (q : Record). q.tid) (e ∙ same_default rows i r d l) in let m = o i j d a b in omega (arith, z, m)

  pub rest-none : (rows : List Record) (i : ℕ) (r : Record) → IsNonDecreasingBy (λ r. r.tid) rows → r ≡ get_or rows i r → i < length rows → stands k rs x (r.tid - 1) ≡ false → flat_map (onward k rs x) (drop i rows) ≡ []
  rest-none rows i r o e l f = none-onward (drop i rows) (rest-late rows i r o e l f)
