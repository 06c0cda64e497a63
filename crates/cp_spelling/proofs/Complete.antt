-- Each spelling runs through, and each place where the scan stands goes on to a spelling.
use Rattle.cp_path.specs.declared.limits.TheConstants.{NAME_MAX}
use Rattle.std.proofs.Common.{◌≡◌, ℕ, zero, suc, ◌<◌, ◌⊎◌, List, [], ◌∷◌, ◌++◌, Bool, true, false, ◌&&◌, ◌||◌, ◌==◌, nat_lt, not, length, take, refl, ap, sym, ◌∙◌, arith, cond, Option, Some, None, subst, append-nil, append_assoc, inl, inr}
use Rattle.std.proofs.lemmas.Bool.{and_parts}
use Rattle.std.proofs.Math.Seq.{take-length}
use Rattle.std.proofs.lemmas.Bool.Decides.{nat_tests}
use Rattle.std.specs.Option.{option_and_then}
use Rattle.std.specs.List.{slice_get}
use Rattle.json.specs.Print.{escape_byte, escape, quoted}
use Rattle.cp_path.specs.Text.{is_letter, is_name_byte}
use Rattle.cp_path.specs.Spelling.{is_trigger, has_trigger, label_word}
use Rattle.cp_spelling.specs.Scan.{part_step, step, scan_over, bare_step, is_label, closes, may_end, accepts, StopsAt}
use Rattle.cp_spelling.proofs.ScanLemmas.{part_run}
use Rattle.cp_spelling.specs.Reading.{IsFrontOfSpelling, IsBadAt}
use Rattle.cp_spelling.specs.declared.scan.Part.{Part}
use Rattle.cp_spelling.specs.declared.scan.Part.TheVariants as part
use Rattle.cp_spelling.specs.declared.scan.Spot.{Spot}
use Rattle.cp_spelling.specs.declared.scan.Spot.TheVariants as spot
use Rattle.cp_spelling.proofs.Runs.{run_on, run_one, all_below, below, when, next_part, or_false, or_assoc}
use Rattle.cp_spelling.proofs.Sound.{plain_escape, Spelt, seen, spelt}

or_parts : (b c : Bool) → (b || c) ≡ false → (b ≡ false) × (c ≡ false)
or_parts true c e = cc
or_parts false c e = (refl, e)

not_quote : (x : ℕ) → is_trigger x ≡ false → (x == 34) ≡ false
not_quote x h = grind (arith, nat_tests)

-- ---- a byte that is escaped

abbrev special : ℕ → Bool
special x = (x == 34) || ((x == 92) || nat_lt x 32)

small_special : (x : ℕ) → special x ≡ true → x < 93
small_special x h = grind (arith, nat_tests)

abbrev is_odd : ℕ → Bool
is_odd x = not (is_letter x) && (not (is_name_byte x) && (not (x == 47) && (not (x == 126) && not ((x == 48) || (x == 49)))))

odd_tried : all_below (λ x. not (special x) || is_odd x) 93 ≡ true
odd_tried = refl

not_true : (b : Bool) → not b ≡ true → b ≡ false
not_true true e = cc
not_true false e = refl

abbrev Odd : ℕ → Type 0
Odd x = (is_letter x ≡ false) × (is_name_byte x ≡ false) × ((x == 47) ≡ false) × ((x == 126) ≡ false) × (((x == 48) || (x == 49)) ≡ false)

odd : (x : ℕ) → special x ≡ true → Odd x
odd x h =
    let all = when (special x) (is_odd x) (below (λ y. not (special y) || is_odd y) 93 odd_tried x (small_special x h)) h in
    let a = and_parts (not (is_letter x)) _ all in
    let b = and_parts (not (is_name_byte x)) _ a.1 in
    let c = and_parts (not (x == 47)) _ b.1 in
    let d = and_parts (not (x == 126)) _ c.1 in
    (not_true _ a.0, not_true _ b.0, not_true _ c.0, not_true _ d.0, not_true _ d.1)

and_false : (b : Bool) → (b && false) ≡ false
and_false true = refl
and_false false = refl

-- only a label takes it, and goes on
special_step : (d : Bool) (p q : Part) (x : ℕ) → Odd x → part_step d p x ≡ Some q → (is_label p ≡ true) × (q ≡ part.Label)
special_step d part.Begin q x o e = let n : None ≡ Some q = rw o.0 at e in absurd (cc)
special_step d (part.Name n) q x o e = let n : None ≡ Some q = rw (o.2, o.1, and_false (nat_lt n NAME_MAX)) at e in absurd (cc)
special_step d part.Empty q x o e = let n : Some part.Label ≡ Some q = rw (o.3, o.2) at e in (refl, cc)
special_step d part.Label q x o e = let n : Some part.Label ≡ Some q = rw (o.3, o.2) at e in (refl, cc)
special_step d part.Tilde q x o e = let n : None ≡ Some q = rw o.4 at e in absurd (cc)

abbrev is_at : Bool → Option Spot → Bool
is_at true (Some (spot.Quoted part.Label true)) = true
is_at false (Some (spot.Quoted part.Label false)) = true
is_at b o = false

at_is : (b : Bool) (o : Option Spot) → is_at b o ≡ true → o ≡ Some (spot.Quoted part.Label b)
at_is true (Some (spot.Quoted part.Label true)) e = refl
at_is false (Some (spot.Quoted part.Label false)) e = refl
at_is b o e = cc

empty_true : (d : Bool) → all_below (λ x. not (special x) || is_at true (scan_over d (spot.Quoted part.Empty true) (escape_byte x))) 93 ≡ true
unfolding escape_byte
empty_true d = refl

empty_false : (d : Bool) → all_below (λ x. not (special x) || is_at (is_trigger x) (scan_over d (spot.Quoted part.Empty false) (escape_byte x))) 93 ≡ true
unfolding escape_byte
empty_false d = refl

label_true : (d : Bool) → all_below (λ x. not (special x) || is_at true (scan_over d (spot.Quoted part.Label true) (escape_byte x))) 93 ≡ true
unfolding escape_byte
label_true d = refl

label_false : (d : Bool) → all_below (λ x. not (special x) || is_at (is_trigger x) (scan_over d (spot.Quoted part.Label false) (escape_byte x))) 93 ≡ true
unfolding escape_byte
label_false d = refl

special_run : (d : Bool) (p : Part) (t : Bool) (x : ℕ) → special x ≡ true → is_label p ≡ true → scan_over d (spot.Quoted p t) (escape_byte x) ≡ Some (spot.Quoted part.Label (t || is_trigger x))
special_run d part.Begin t x h l = cc
special_run d (part.Name n) t x h l = cc
special_run d part.Tilde t x h l = cc
special_run d part.Empty true x h l = at_is true _ (when (special x) _ (below (λ y. not (special y) || is_at true (scan_over d (spot.Quoted part.Empty true) (escape_byte y))) 93 (empty_true d) x (small_special x h)) h)
special_run d part.Empty false x h l = at_is (is_trigger x) _ (when (special x) _ (below (λ y. not (special y) || is_at (is_trigger y) (scan_over d (spot.Quoted part.Empty false) (escape_byte y))) 93 (empty_false d) x (small_special x h)) h)
special_run d part.Label true x h l = at_is true _ (when (special x) _ (below (λ y. not (special y) || is_at true (scan_over d (spot.Quoted part.Label true) (escape_byte y))) 93 (label_true d) x (small_special x h)) h)
special_run d part.Label false x h l = at_is (is_trigger x) _ (when (special x) _ (below (λ y. not (special y) || is_at (is_trigger y) (scan_over d (spot.Quoted part.Label false) (escape_byte y))) 93 (label_false d) x (small_special x h)) h)

abbrev EscapeRuns : Bool → Part → Part → Bool → ℕ → Type 0
EscapeRuns d p q t x = scan_over d (spot.Quoted p t) (escape_byte x) ≡ Some (spot.Quoted q (t || is_trigger x))

escape_run : (d : Bool) (p q : Part) (t : Bool) (x : ℕ) → part_step d p x ≡ Some q → EscapeRuns d p q t x
escape_run d p q t x e = by (special x) refl
  where
    by : (b : Bool) → special x ≡ b → EscapeRuns d p q t x
    by true h =
        let l = special_step d p q x (odd x h) e in
        special_run d p t x h l.0 ∙ ap (λ a. Some (spot.Quoted a (t || is_trigger x))) (sym l.1)
    by false h =
        let n = or_parts (x == 34) ((x == 92) || nat_lt x 32) h in
        let m = or_parts (x == 92) (nat_lt x 32) n.1 in
        ap (scan_over d (spot.Quoted p t)) (plain_escape x n.0 m.0 m.1) ∙ run_one d (spot.Quoted p t) x ∙ rw (n.0, m.0, m.1, e) refl

escapes_run : (d : Bool) (p q : Part) (t : Bool) (r v : List ℕ) → part_run d p r ≡ Some q → scan_over d (spot.Quoted p t) (escape r ++ v) ≡ scan_over d (spot.Quoted q (t || has_trigger r)) v
escapes_run d p q t [] v e = let same : p ≡ q = cc in ap (λ a. scan_over d (spot.Quoted a t) v) same ∙ ap (λ b. scan_over d (spot.Quoted q b) v) (sym (or_false t))
escapes_run d p q t (x ∷ r) v e =
    let n = next_part d p q x r e in
    ap (scan_over d (spot.Quoted p t)) (append_assoc (escape_byte x) (escape r) v)
    ∙ run_on d (spot.Quoted p t) (spot.Quoted n.0 (t || is_trigger x)) (escape_byte x) (escape r ++ v) (escape_run d p n.0 t x n.1)
    ∙ escapes_run d n.0 q (t || is_trigger x) r v n.2
    ∙ ap (λ b. scan_over d (spot.Quoted q b) v) (or_assoc t (is_trigger x) (has_trigger r))

bares_run : (d : Bool) (p q : Part) (r : List ℕ) → part_run d p r ≡ Some q → has_trigger r ≡ false → scan_over d (spot.Bare p) r ≡ Some (spot.Bare q)
bares_run d p q [] e h = let same : p ≡ q = cc in ap (λ a. Some (spot.Bare a)) same
bares_run d p q (x ∷ r) e h =
    let n = next_part d p q x r e in
    let k = or_parts (is_trigger x) (has_trigger r) h in
    rw (k.0, n.1) (bares_run d n.0 q r n.2 k.1)

-- ---- each spelling runs through

abbrev pub is_start : Part → Bool
is_start part.Begin = true
is_start (part.Name n) = false
is_start part.Empty = true
is_start part.Label = false
is_start part.Tilde = false

abbrev Through : Bool → Part → List ℕ → Type 0
Through d s w = (u : Spot) × (scan_over d (spot.Start s) w ≡ Some u) × (accepts u ≡ true)

nothing_spelt : (d : Bool) (s : Part) → is_start s ≡ true → may_end s ≡ true → Through d s (quoted [])
nothing_spelt d part.Begin h e = cc
nothing_spelt d (part.Name n) h e = cc
nothing_spelt d part.Empty h e = (spot.Ended, refl, refl)
nothing_spelt d part.Label h e = cc
nothing_spelt d part.Tilde h e = cc

ends_closes : (p : Part) → may_end p ≡ true → closes p true ≡ true
ends_closes part.Begin e = e
ends_closes (part.Name n) e = refl
ends_closes part.Empty e = refl
ends_closes part.Label e = refl
ends_closes part.Tilde e = e

quoted_through : (d : Bool) (s p : Part) (r : List ℕ) → part_run d s r ≡ Some p → may_end p ≡ true → has_trigger r ≡ true → Through d s (quoted r)
quoted_through d s p r e h t =
    (spot.Ended, escapes_run d s p false r (34 ∷ []) e ∙ ap (λ b. scan_over d (spot.Quoted p b) (34 ∷ [])) t ∙ rw (ends_closes p h) refl, refl)

cond_no : (b : Bool) (m n : Option Spot) → b ≡ false → cond b m n ≡ n
cond_no true m n e = cc
cond_no false m n e = refl

bare_through : (d : Bool) (s p : Part) (x : ℕ) (r : List ℕ) → part_run d s (x ∷ r) ≡ Some p → may_end p ≡ true → has_trigger (x ∷ r) ≡ false → Through d s (x ∷ r)
bare_through d s p x r e h t = (
  spot.Bare p,
  ap (λ o. option_and_then (λ u. scan_over d u r) o) (cond_no (x == 34) (Some (spot.Quoted s false)) (bare_step d s x) (not_quote x (or_parts (is_trigger x) (has_trigger r) t).0))
      ∙ bares_run d s p (x ∷ r) e t,
  h,
)

pub through : (d : Bool) (s : Part) (w : List ℕ) → is_start s ≡ true → Spelt d s w → Through d s w
through d s w i h = subst (Through d s) (sym h.4) (by h.0 h.1 h.2 h.3)
  where
    word : (p : Part) (x : ℕ) (r : List ℕ) → part_run d s (x ∷ r) ≡ Some p → may_end p ≡ true → (b : Bool) → has_trigger (x ∷ r) ≡ b → Through d s (cond b (quoted (x ∷ r)) (x ∷ r))
    word p x r e k true t = quoted_through d s p (x ∷ r) e k t
    word p x r e k false t = bare_through d s p x r e k t

    by : (r : List ℕ) (p : Part) → part_run d s r ≡ Some p → may_end p ≡ true → Through d s (label_word r)
    by [] p e k = let same : s ≡ p = cc in nothing_spelt d s i (ap may_end same ∙ k)
    by (x ∷ r) p e k = word p x r e k (has_trigger (x ∷ r)) refl

-- ---- each place where it stands goes on to a spelling

abbrev Goes : Bool → Spot → Type 0
Goes d u = (w : List ℕ) × (v : Spot) × (scan_over d u w ≡ Some v) × (accepts v ≡ true)

quoted_goes : (d : Bool) (p : Part) (t : Bool) → Goes d (spot.Quoted p t)
quoted_goes d part.Begin true = (84 ∷ 47 ∷ 58 ∷ 34 ∷ [], spot.Ended, refl, refl)
quoted_goes d part.Begin false = (84 ∷ 47 ∷ 58 ∷ 34 ∷ [], spot.Ended, refl, refl)
quoted_goes d (part.Name n) true = (47 ∷ 58 ∷ 34 ∷ [], spot.Ended, refl, refl)
quoted_goes d (part.Name n) false = (47 ∷ 58 ∷ 34 ∷ [], spot.Ended, refl, refl)
quoted_goes d part.Empty true = (58 ∷ 34 ∷ [], spot.Ended, refl, refl)
quoted_goes d part.Empty false = (58 ∷ 34 ∷ [], spot.Ended, refl, refl)
quoted_goes d part.Label true = (58 ∷ 34 ∷ [], spot.Ended, refl, refl)
quoted_goes d part.Label false = (58 ∷ 34 ∷ [], spot.Ended, refl, refl)
quoted_goes d part.Tilde true = (48 ∷ 58 ∷ 34 ∷ [], spot.Ended, refl, refl)
quoted_goes d part.Tilde false = (48 ∷ 58 ∷ 34 ∷ [], spot.Ended, refl, refl)

bare_goes : (d : Bool) (p : Part) → Goes d (spot.Bare p)
bare_goes d part.Begin = (84 ∷ [], spot.Bare (part.Name 1), refl, refl)
bare_goes d (part.Name n) = ([], spot.Bare (part.Name n), refl, refl)
bare_goes d part.Empty = ([], spot.Bare part.Empty, refl, refl)
bare_goes d part.Label = ([], spot.Bare part.Label, refl, refl)
bare_goes d part.Tilde = (48 ∷ [], spot.Bare part.Label, refl, refl)

pub goes : (d : Bool) (u : Spot) → Goes d u
goes d (spot.Start p) = let q = quoted_goes d p false in (34 ∷ q.0, q.1, q.2, q.3)
goes d (spot.Bare p) = bare_goes d p
goes d (spot.Quoted p t) = quoted_goes d p t
goes d (spot.Backslash t) = (34 ∷ 34 ∷ [], spot.Ended, refl, refl)
goes d spot.Unicode = (48 ∷ 48 ∷ 49 ∷ 102 ∷ 34 ∷ [], spot.Ended, refl, refl)
goes d spot.Zero = (48 ∷ 49 ∷ 102 ∷ 34 ∷ [], spot.Ended, refl, refl)
goes d spot.Zeros = (49 ∷ 102 ∷ 34 ∷ [], spot.Ended, refl, refl)
goes d spot.Low = (48 ∷ 34 ∷ [], spot.Ended, refl, refl)
goes d spot.High = (102 ∷ 34 ∷ [], spot.Ended, refl, refl)
goes d spot.Ended = ([], spot.Ended, refl, refl)

-- ---- where the scan stops

pub begins : (d : Bool) (s : Part) (u : Spot) (w : List ℕ) → scan_over d (spot.Start s) w ≡ Some u → IsFrontOfSpelling (Spelt d s) w
begins d s u w e =
    let g = goes d u in
    (g.0, spelt d s g.1 (w ++ g.0) (seen d s g.1 (w ++ g.0) (run_on d (spot.Start s) u w g.0 e ∙ g.2)) g.3)

dead : (d : Bool) (s t : Spot) (v w : List ℕ) (x : ℕ) (u : Spot) → scan_over d s v ≡ Some t → step d t x ≡ None → scan_over d s (v ++ x ∷ w) ≡ Some u → ⊥
dead d s t v w x u e n h =
    let bad : None ≡ Some u = sym (run_on d s t v (x ∷ w) e ∙ ap (λ o. option_and_then (λ a. scan_over d a w) o) n) ∙ h in cc

beyond : (w : List ℕ) (at n : ℕ) (x : ℕ) → slice_get w at ≡ Some x → at < n → (v : List ℕ) × (take n w ≡ take at w ++ x ∷ v)
beyond [] at n x e l = absurd (cc)
beyond (y ∷ w) zero zero x e l = absurd (omega arith)
beyond (y ∷ w) zero (suc n) x e l = let same : y ≡ x = cc in (take n w, ap (λ z. z ∷ take n w) same)
beyond (y ∷ w) (suc at) zero x e l = absurd (omega arith)
beyond (y ∷ w) (suc at) (suc n) x e l = let b = beyond w at n x e (omega arith) in (b.0, ap (λ v. y ∷ v) b.1)

within : (w : List ℕ) (at x : ℕ) → slice_get w at ≡ Some x → at < length w
within [] at x e = absurd (cc)
within (y ∷ w) zero x e = omega arith
within (y ∷ w) (suc at) x e = let l = within w at x e in omega arith

abbrev Stop : Bool → Part → List ℕ → ℕ → Spot → Type 0
Stop d s w at t = ((at ≡ length w) × (accepts t ≡ false)) ⊎ ((x : ℕ) × (slice_get w at ≡ Some x) × (step d t x ≡ None))

at_end : (d : Bool) (s : Part) (w : List ℕ) (at : ℕ) (t : Spot) → is_start s ≡ true → scan_over d (spot.Start s) (take at w) ≡ Some t → at ≡ length w → accepts t ≡ false → IsBadAt (Spelt d s) w at
at_end d s w at t i e l a =
    let whole : take at w ≡ w = ap (λ n. take n w) l ∙ take-length w in (
      λ k. let g = through d s w i k in
          let same : Some t ≡ Some g.0 = sym e ∙ ap (scan_over d (spot.Start s)) whole ∙ g.1 in
          let both : t ≡ g.0 = cc in
          let bad : false ≡ true = sym a ∙ ap accepts both ∙ g.2 in cc,
      omega arith,
      begins d s t (take at w) e,
      λ n far near b. omega arith,
    )

no_longer : (d : Bool) (s : Part) (w : List ℕ) (at x : ℕ) (t : Spot) → is_start s ≡ true → scan_over d (spot.Start s) (take at w) ≡ Some t → slice_get w at ≡ Some x → step d t x ≡ None → (n : ℕ) → at < n → ¬ IsFrontOfSpelling (Spelt d s) (take n w)
no_longer d s w at x t i e f g n far b =
    let more = beyond w at n x f far in
    let go = through d s (take n w ++ b.0) i b.1 in
    dead d (spot.Start s) t (take at w) (more.0 ++ b.0) x go.0 e g
    (ap (scan_over d (spot.Start s)) (sym (append_assoc (take at w) (x ∷ more.0) b.0) ∙ ap (λ v. v ++ b.0) (sym more.1)) ∙ go.1)

inside_word : (d : Bool) (s : Part) (w : List ℕ) (at x : ℕ) (t : Spot) → is_start s ≡ true → scan_over d (spot.Start s) (take at w) ≡ Some t → slice_get w at ≡ Some x → step d t x ≡ None → IsBadAt (Spelt d s) w at
inside_word d s w at x t i e f g =
    let short : at < length w = within w at x f in (
      λ k. no_longer d s w at x t i e f g (length w) short ([], subst (Spelt d s) (sym (append-nil (take (length w) w) ∙ take-length w)) k),
      omega arith,
      begins d s t (take at w) e,
      λ n far near b. no_longer d s w at x t i e f g n far b,
    )

-- where the scan stops, the word is bad there
pub stops : (d : Bool) (s : Part) (w : List ℕ) (at : ℕ) → is_start s ≡ true → StopsAt d (spot.Start s) w at → IsBadAt (Spelt d s) w at
stops d s w at i h = by h.0 h.1 h.2
  where
    by : (t : Spot) → scan_over d (spot.Start s) (take at w) ≡ Some t → Stop d s w at t → IsBadAt (Spelt d s) w at
    by t e (inl k) = at_end d s w at t i e k.0 k.1
    by t e (inr k) = inside_word d s w at k.0 t i e k.1 k.2

-- where it goes through, the word is a spelling
pub goes_through : (d : Bool) (s : Part) (w : List ℕ) (u : Spot) → scan_over d (spot.Start s) w ≡ Some u → accepts u ≡ true → Spelt d s w
goes_through d s w u e a = spelt d s u w (seen d s u w e) a

-- the same of two ways to say what is a spelling
pub bad_by : (A B : List ℕ → Type 0) (w : List ℕ) (at : ℕ) → ((v : List ℕ) → A v → B v) → ((v : List ℕ) → B v → A v) → IsBadAt A w at → IsBadAt B w at
bad_by A B w at to from h =
    (λ k. h.0 (from w k), h.1, (h.2.0, to (take at w ++ h.2.0) h.2.1), λ n far near b. h.3 n far near (b.0, from (take n w ++ b.0) b.1))
