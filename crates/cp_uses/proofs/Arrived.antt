-- What the way forward finds is the reach.
use Rattle.std.specs.Prelude.{ℕ, suc, ◌+◌, ◌-◌, ◌≤◌, ◌<◌, ◌≡◌, ◌⊎◌, ◌==◌, ◌&&◌, Bool, true, false, List, [], ◌∷◌, ◌++◌, refl, nat_lt, if◌then◌else◌}
use Rattle.std.proofs.Common.{sym, ap, subst, ◌∙◌, arith, inl, inr}
use Rattle.std.specs.List.{flat_map}
use Rattle.std.proofs.lemmas.Bool.{and_parts}
use Rattle.std.proofs.lemmas.Bool.Decides.{nat_tests}
use Rattle.std.proofs.lemmas.Option.{same_Some, none-some}
use Rattle.std.specs.declared.option.Option.{Option}
use Rattle.std.specs.declared.option.Option.TheVariants.{None, Some}
use Rattle.cp_path.specs.declared.loc.Loc.{Loc}
use Rattle.cp_path.specs.Place.{moved_place}
use Rattle.cp_path.proofs.Same.{place_eq-same, place_eq-refl}
use Rattle.cp_model.specs.Place.{in_target, place_eq, over_limit}
use Rattle.cp_model.specs.declared.effect.Effect.TheVariants.{Same as same, New as made, From as from}
use Rattle.cp_model.specs.declared.record.RowMark.{RowMark as Mark}
use Rattle.cp_model.specs.declared.record.RowMark.TheVariants.{Made as I, Copied as C, Gone as D, Kept as K}
use Rattle.cp_model.specs.Rows.{Reading, left, gone}
use Rattle.cp_model.specs.Leaps.{Readings, tells_same, last}
use Rattle.cp_model.specs.Records.{reads, mark_by}
use Rattle.cp_model.specs.Changes.{change_at}
use Rattle.cp_model.specs.declared.kind.Kind.{Kind}
use Rattle.cp_model.specs.declared.record.Record.{Record}
use Rattle.cp_model.proofs.LeapsLemmas.{Says, last-says}
use Rattle.cp_uses.specs.declared.reached.Reached.{Reached}
use Rattle.cp_uses.specs.Reach.{Reaches, carried, IsQuiet}
use Rattle.cp_uses.specs.Carrying.{goes_along, if_within, landing_at, landing}
use Rattle.cp_uses.specs.Onward.{is_early, stood, is_from, is_copy_in, came, onward_to, onward}
use Rattle.cp_uses.specs.Closing.{Stands}
use Rattle.cp_uses.proofs.Members.{Has}

module _ (k : Kind) (rs : List Record) where
  abbrev pub E : Readings
  E = reads k rs

  -- ---- what the answers say

  of-target : (t : ℕ) (c : Loc) → in_target c ≡ true → change_at k rs t c ≡ last E t c.path
  unfolding change_at
  of-target t c i = ap (λ b. if b then last E t c.path else None) i

  pub early-quiet : (c : Loc) (t u : ℕ) → is_early t (change_at k rs (u - 1) c) ≡ true → IsQuiet E c t u
  unfolding Says
  early-quiet c t u h i = by (last E (u - 1) c.path) (last-says E (u - 1) c.path) (ap (is_early t) (sym (of-target (u - 1) c i)) ∙ h)
    where
      by : (o : Option (ℕ × Reading)) → Says E (u - 1) c.path o → is_early t o ≡ true → (v : ℕ) → t < v → v < u → E v c.path ≡ left same
      by None s h v a b = s v (omega (arith, a)) (omega (arith, b))
      by (Some d) s h v a b = s.4 v (let z : d.0 < t + 1 = grind (arith, nat_tests) in omega (arith, z, a)) (omega (arith, b))

  pub quiet-early : (c : Loc) (t u : ℕ) → IsQuiet E c t u → is_early t (change_at k rs (u - 1) c) ≡ true
  unfolding Says change_at
  quiet-early c t u q =
      elim (in_target c) as (λ b. in_target c ≡ b → is_early t (if b then last E (u - 1) c.path else None) ≡ true) [
        | false ↦ λ _. refl
        | true ↦ λ i. by (last E (u - 1) c.path) (last-says E (u - 1) c.path) (q i)
      ] refl
    where
      by : (o : Option (ℕ × Reading)) → Says E (u - 1) c.path o → ((v : ℕ) → t < v → v < u → E v c.path ≡ left same) → is_early t o ≡ true
      by None s h = refl
      by (Some d) s h =
          elim (nat_lt d.0 (t + 1)) as (λ b. nat_lt d.0 (t + 1) ≡ b → b ≡ true) [
            | true ↦ λ _. refl
            | false ↦ λ n.
                let z : t < d.0 = (let m : t + 1 ≤ d.0 = grind (arith, nat_tests) in omega (arith, m)) in
                let p = s.0 in
                let l = s.1 in
                let e : d.1 ≡ left same = s.2 ∙ h d.0 z (omega (arith, p, l)) in
                absurd (cc (sym s.3 ∙ ap tells_same e))
          ] refl

  from-is : (c : Loc) (d : Reading) → is_from c d ≡ true → d ≡ left (from c)
  from-is c (left same) h = absurd (cc)
  from-is c (left made) h = absurd (cc)
  from-is c (left (from q)) h = ap (λ x. left (from x)) (place_eq-same q c h)
  from-is c gone h = absurd (cc)

  pub came-is : (y : Reached) (c : Loc) → in_target y.place ≡ true → came k rs y c ≡ true → E y.tid y.place.path ≡ left (from c)
  unfolding Says
  came-is y c i h = by (last E y.tid y.place.path) (last-says E y.tid y.place.path) (ap (is_copy_in y.tid c) (sym (of-target y.tid y.place i)) ∙ h)
    where
      by : (o : Option (ℕ × Reading)) → Says E y.tid y.place.path o → is_copy_in y.tid c o ≡ true → E y.tid y.place.path ≡ left (from c)
      by None s h = absurd (cc)
      by (Some d) s h =
          let p = and_parts (d.0 == y.tid) (is_from c d.1) h in
          let e : d.0 ≡ y.tid = (let q : (d.0 == y.tid) ≡ true = p.0 in grind (arith, nat_tests)) in
          ap (λ u. E u y.place.path) (sym e) ∙ sym s.2 ∙ from-is c d.1 p.1

  pub is-came : (y : Reached) (c : Loc) (n : ℕ) → y.tid ≡ suc n → in_target y.place ≡ true → E y.tid y.place.path ≡ left (from c) → came k rs y c ≡ true
  unfolding last
  is-came y c n z i e =
      ap (is_copy_in y.tid c) (of-target y.tid y.place i)
      ∙ ap (λ u. is_copy_in y.tid c (last E u y.place.path)) z
      ∙ ap (λ d. is_copy_in y.tid c (if tells_same d then last E n y.place.path else Some (suc n, d))) (ap (λ u. E u y.place.path) (sym z) ∙ e)
      ∙ ap (λ b. b && place_eq c c) (let t : (suc n == y.tid) ≡ true = grind (arith, nat_tests, z) in t)
      ∙ place_eq-refl c

  -- ---- where a row took it

  landed : (r : Record) (c p : Loc) → landing k r c ≡ Some p → (in_target p ≡ true) × (over_limit p ≡ false)
  landed r c p = by (mark_by r.op r.src)
    where
      inside : (x : Loc) → in_target x ≡ true → (b : Bool) → over_limit x ≡ b → (if b then None else Some x) ≡ Some p → (in_target p ≡ true) × (over_limit p ≡ false)
      inside x i true o e = absurd (none-some _ e)
      inside x i false o e = let z : x ≡ p = same_Some x p e in (ap in_target (sym z) ∙ i, ap over_limit (sym z) ∙ o)

      copied : (q : Loc) (b d : Bool) → in_target r.loc ≡ b → (if b && d then if_within (moved_place c q r.loc) else None) ≡ Some p → (in_target p ≡ true) × (over_limit p ≡ false)
      copied q true true i e = inside (moved_place c q r.loc) i (over_limit (moved_place c q r.loc)) refl e
      copied q true false i e = absurd (none-some _ e)
      copied q false d i e = absurd (none-some _ e)

      by : (m : Mark) → landing_at k r.loc m c ≡ Some p → (in_target p ≡ true) × (over_limit p ≡ false)
      by I e = absurd (none-some _ e)
      by (C q) e = copied q (in_target r.loc) (goes_along k q c) refl e
      by D e = absurd (none-some _ e)
      by K e = absurd (none-some _ e)

  -- what a row took onward is reached too, and later
  pub onward-carried : (q : Loc) (x y : Reached) (r : Record) → Stands (onward k rs x r) y → (x.tid < y.tid) × (Reaches E q x.place x.tid → Reaches E q y.place y.tid)
  onward-carried q x y r =
      elim (nat_lt x.tid r.tid) as (λ b. nat_lt x.tid r.tid ≡ b → Stands (if b then onward_to k rs x r.tid (landing k r x.place) else []) y → (x.tid < y.tid) × (Reaches E q x.place x.tid → Reaches E q y.place y.tid)) [
        | false ↦ λ _ s. absurd s
        | true ↦ λ l s. to (let z : x.tid < r.tid = grind (arith, nat_tests) in z) (landing k r x.place) refl s
      ] refl
    where
      at : (p : Loc) → landing k r x.place ≡ Some p → x.tid < r.tid → (b d : Bool) → stood k rs x r.tid ≡ b → came k rs (record { place = p; tid = r.tid }) x.place ≡ d → Stands (if b && d then record { place = p; tid = r.tid } ∷ [] else []) y →
          (x.tid < y.tid) × (Reaches E q x.place x.tid → Reaches E q y.place y.tid)
      at p l z true true st ca (inr s) = absurd s
      at p l z true true st ca (inl e) =
          let w = landed r x.place p l in
          subst (λ y. (x.tid < y.tid) × (Reaches E q x.place x.tid → Reaches E q y.place y.tid)) e
          (z, λ h. carried x.place x.tid p r.tid h z w.0 w.1 (came-is (record { place = p; tid = r.tid }) x.place w.0 ca) (early-quiet x.place x.tid r.tid st))
      at p l z true false st ca s = absurd s
      at p l z false d st ca s = absurd s

      to : x.tid < r.tid → (o : Option Loc) → landing k r x.place ≡ o → Stands (onward_to k rs x r.tid o) y → (x.tid < y.tid) × (Reaches E q x.place x.tid → Reaches E q y.place y.tid)
      to z None l s = absurd s
      to z (Some p) l s = at p l z (stood k rs x r.tid) (came k rs (record { place = p; tid = r.tid }) x.place) refl refl s

  pub stands-flat : (f : Record → List Reached) (rows : List Record) (y : Reached) → Stands (flat_map f rows) y → (r : Record) × Stands (f r) y
  stands-flat f [] y s = absurd s
  stands-flat f (r ∷ rows) y s = elim (either (f r) (flat_map f rows) s) as (λ _. (r : Record) × Stands (f r) y) [ inl a ↦ (r, a) | inr b ↦ stands-flat f rows y b ]
    where
      either : (xs ys : List Reached) → Stands (xs ++ ys) y → Stands xs y ⊎ Stands ys y
      either [] ys s = inr s
      either (z ∷ xs) ys (inl e) = inl (inl e)
      either (z ∷ xs) ys (inr s) = elim (either xs ys s) as (λ _. Stands (z ∷ xs) y ⊎ Stands ys y) [ inl a ↦ inl (inr a) | inr b ↦ inr b ]

  pub flat-stands : (f : Record → List Reached) (rows : List Record) (r : Record) (y : Reached) → Has rows r → Stands (f r) y → Stands (flat_map f rows) y
  flat-stands f [] r y h s = absurd h
  flat-stands f (x ∷ rows) r y (inl e) s = first (f x) (flat_map f rows) (subst (λ z. Stands (f z) y) (sym e) s)
    where
      first : (xs ys : List Reached) → Stands xs y → Stands (xs ++ ys) y
      first [] ys s = absurd s
      first (z ∷ xs) ys (inl e) = inl e
      first (z ∷ xs) ys (inr s) = inr (first xs ys s)
  flat-stands f (x ∷ rows) r y (inr h) s = second (f x) (flat_map f rows) (flat-stands f rows r y h s)
    where
      second : (xs ys : List Reached) → Stands ys y → Stands (xs ++ ys) y
      second [] ys s = s
      second (z ∷ xs) ys s = inr (second xs ys s)
