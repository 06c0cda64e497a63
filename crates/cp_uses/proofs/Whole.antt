-- Where nothing new is reached, the reach is whole.
use Rattle.std.specs.Prelude.{ℕ, zero, suc, ◌-◌, ◌≤◌, ◌<◌, ◌≡◌, ◌⊎◌, ◌==◌, ◌&&◌, ◌||◌, Bool, true, false, List, [], ◌∷◌, ◌++◌, refl, nat_lt, if◌then◌else◌}
use Rattle.std.proofs.Common.{sym, ap, subst, ◌∙◌, arith, inl, inr}
use Rattle.std.specs.List.{list_all}
use Rattle.std.proofs.lemmas.Bool.{and_parts}
use Rattle.std.proofs.lemmas.Bool.Decides.{nat_tests}
use Rattle.cp_path.specs.declared.loc.Loc.{Loc}
use Rattle.cp_path.proofs.Same.{text_eq-same, place_eq-same}
use Rattle.std.specs.declared.option.Option.TheVariants.{Some}
use Rattle.cp_model.specs.Place.{target, at_target, in_target, place_eq, over_limit}
use Rattle.cp_model.specs.declared.kind.Kind.{Kind}
use Rattle.cp_model.specs.declared.record.Record.{Record}
use Rattle.cp_uses.specs.declared.reached.Reached.{Reached}
use Rattle.cp_uses.specs.Reach.{Reaches, begins, renewed, carried, is_new_data}
use Rattle.cp_uses.specs.Carrying.{landing}
use Rattle.cp_uses.specs.Front.{same_reached, is_reached}
use Rattle.cp_uses.specs.Onward.{stood, came, onward_to, onward}
use Rattle.cp_uses.specs.Closing.{Stands, Closes}
use Rattle.cp_uses.specs.Renewals.{renewals, renewals_at}
use Rattle.cp_uses.specs.Sources.{copies_along}
use Rattle.cp_uses.proofs.Carried.{copies-have-rows}
use Rattle.cp_uses.proofs.Members.{has-got}
use Rattle.cp_uses.proofs.Taken.{has-along}
use Rattle.cp_uses.proofs.Arrived.{E, onward-carried, stands-flat, flat-stands, quiet-early, is-came}

-- what is among them stands there
reached-stands : (xs : List Reached) (x : Reached) → is_reached x xs ≡ true → Stands xs x
reached-stands [] x h = absurd (cc)
reached-stands (y ∷ xs) x h =
    elim (same_reached x y) as (λ b. same_reached x y ≡ b → (b || is_reached x xs) ≡ true → Stands (y ∷ xs) x) [
      | true ↦ λ e _.
          let p = and_parts (place_eq x.place y.place) (x.tid == y.tid) e in
          let place : x.place ≡ y.place = place_eq-same x.place y.place p.0 in
          let tid : x.tid ≡ y.tid = (let q : (x.tid == y.tid) ≡ true = p.1 in grind (arith, nat_tests)) in
          inl (sym (λ i. record { place = place i; tid = tid i }))
      | false ↦ λ _ h. inr (reached-stands xs x h)
    ] refl h

module _ (k : Kind) (rs : List Record) (q : Loc) where
  -- ---- the place itself

  renewals-reached : (n : ℕ) (x : Reached) → in_target q ≡ true → Stands (renewals (E k rs) q n) x → Reaches (E k rs) q x.place x.tid
  renewals-reached zero x i s = absurd s
  renewals-reached (suc n) x i s = by (is_new_data (E k rs (suc n) q.path)) refl s (λ t. renewals-reached n x i t)
    where
      by : (b : Bool) → is_new_data (E k rs (suc n) q.path) ≡ b → Stands (if b then record { place = q; tid = suc n } ∷ renewals (E k rs) q n else renewals (E k rs) q n) x → (Stands (renewals (E k rs) q n) x → Reaches (E k rs) q x.place x.tid) → Reaches (E k rs) q x.place x.tid
      by true e (inl z) ih = subst (λ x. Reaches (E k rs) q x.place x.tid) z (renewed q (suc n) refl i (omega arith) e)
      by true e (inr t) ih = ih t
      by false e t ih = ih t

  reached-renewals : (n t : ℕ) → 0 < t → t ≤ n → is_new_data (E k rs t q.path) ≡ true → Stands (renewals (E k rs) q n) (record { place = q; tid = t })
  reached-renewals zero t p l h = absurd (omega (arith, p, l))
  reached-renewals (suc n) t p l h =
      elim (nat_lt t (suc n)) as (λ b. nat_lt t (suc n) ≡ b → Stands (if is_new_data (E k rs (suc n) q.path) then record { place = q; tid = suc n } ∷ renewals (E k rs) q n else renewals (E k rs) q n) (record { place = q; tid = t })) [
        | true ↦ λ b. older (is_new_data (E k rs (suc n) q.path)) (reached-renewals n t p (let z : t < suc n = grind (arith, nat_tests) in omega (arith, z)) h)
        | false ↦ λ b.
            let z : suc n ≡ t = (let m : suc n ≤ t = grind (arith, nat_tests) in omega (arith, m, l)) in
            newest (is_new_data (E k rs (suc n) q.path)) (ap (λ u. is_new_data (E k rs u q.path)) z ∙ h) z
      ] refl
    where
      older : (b : Bool) → Stands (renewals (E k rs) q n) (record { place = q; tid = t }) → Stands (if b then record { place = q; tid = suc n } ∷ renewals (E k rs) q n else renewals (E k rs) q n) (record { place = q; tid = t })
      older true s = inr s
      older false s = s

      newest : (b : Bool) → b ≡ true → suc n ≡ t → Stands (if b then record { place = q; tid = suc n } ∷ renewals (E k rs) q n else renewals (E k rs) q n) (record { place = q; tid = t })
      newest true e z = inl (ap (λ u. record { place = q; tid = u }) z)
      newest false e z = absurd (cc)

  -- the place itself, from the start and from each step that brought new data there
  abbrev pub firsts : ℕ → List Reached
  firsts n = record { place = q; tid = 0 } ∷ renewals_at k rs q n

  firsts-reached : (n : ℕ) (x : Reached) → Stands (firsts n) x → Reaches (E k rs) q x.place x.tid
  firsts-reached n x (inl e) = subst (λ x. Reaches (E k rs) q x.place x.tid) e (begins q 0 refl refl)
  firsts-reached n x (inr s) = by (in_target q) refl s
    where
      by : (b : Bool) → in_target q ≡ b → Stands (if b then renewals (E k rs) q n else []) x → Reaches (E k rs) q x.place x.tid
      by true i s = renewals-reached n x i s
      by false i s = absurd s

  module _ (n : ℕ) (xs : List Reached) (c : Closes k rs rs (firsts n) xs) where
    either : (ys zs : List Reached) (x : Reached) → Stands (ys ++ zs) x → Stands ys x ⊎ Stands zs x
    either [] zs x s = inr s
    either (y ∷ ys) zs x (inl e) = inl (inl e)
    either (y ∷ ys) zs x (inr s) = elim (either ys zs x s) as (λ _. Stands (y ∷ ys) x ⊎ Stands zs x) [ inl a ↦ inl (inr a) | inr b ↦ inr b ]

    upto : (m : ℕ) (x : Reached) → x.tid ≤ m → Stands xs x → Reaches (E k rs) q x.place x.tid
    upto zero x l s =
        elim (either (firsts n) c.more x (subst (λ ys. Stands ys x) c.kept s)) as (λ _. Reaches (E k rs) q x.place x.tid) [
          | inl a ↦ firsts-reached n x a
          | inr a ↦
              let f = c.from x a in
              let r = stands-flat k rs (onward k rs f.0) (copies_along k rs f.0) x f.2 in
              let o = onward-carried k rs q f.0 x r.0 r.1 in
              let z = o.0 in
              absurd (omega (arith, z, l))
        ]
    upto (suc m) x l s =
        elim (either (firsts n) c.more x (subst (λ ys. Stands ys x) c.kept s)) as (λ _. Reaches (E k rs) q x.place x.tid) [
          | inl a ↦ firsts-reached n x a
          | inr a ↦
              let f = c.from x a in
              let r = stands-flat k rs (onward k rs f.0) (copies_along k rs f.0) x f.2 in
              let o = onward-carried k rs q f.0 x r.0 r.1 in
              let z = o.0 in
              o.1 (upto m f.0 (omega (arith, z, l)) f.1)
        ]

    -- what was found is reached
    pub found-reached : (x : Reached) → Stands xs x → Reaches (E k rs) q x.place x.tid
    found-reached x s = upto x.tid x (omega arith) s

    target-place : (d : Loc) → in_target d ≡ true → at_target d.path ≡ d
    target-place d h = let e : target ≡ d.db = sym (text_eq-same d.db target h) in λ i. record { db = e i; path = d.path }

    left-part : (ys zs : List Reached) (x : Reached) → Stands ys x → Stands (ys ++ zs) x
    left-part [] zs x s = absurd s
    left-part (y ∷ ys) zs x (inl e) = inl e
    left-part (y ∷ ys) zs x (inr s) = inr (left-part ys zs x s)

    first-found : (x : Reached) → Stands (firsts n) x → Stands xs x
    first-found x s = subst (λ ys. Stands ys x) (sym c.kept) (left-part (firsts n) c.more x s)

    -- what is reached up to the last step was found
    pub reached-found : list_all (λ r. in_target r.loc) rs ≡ true → (d : Loc) (t : ℕ) → Reaches (E k rs) q d t → t ≤ n → Stands xs (record { place = d; tid = t })
    reached-found all d t (begins _ _ e z) l = first-found (record { place = d; tid = t }) (inl (λ i. record { place = sym e i; tid = sym z i }))
    reached-found all d t (renewed _ _ e i p h) l =
        first-found (record { place = d; tid = t })
        (inr (subst (λ b. Stands (if b then renewals (E k rs) q n else []) (record { place = d; tid = t })) (sym (ap in_target (sym e) ∙ i))
        (subst (λ w. Stands (renewals (E k rs) q n) (record { place = w; tid = t })) (sym e) (reached-renewals n t p l (ap (λ w. is_new_data (E k rs t w.path)) (sym e) ∙ h)))))
    reached-found all d t (carried a s _ _ r lt i fits is quiet) l =
        let x : Reached = record { place = a; tid = s } in
        let y : Reached = record { place = d; tid = t } in
        let here = reached-found all a s r (omega (arith, lt, l)) in
        let w = copies-have-rows k rs t a d.path all (ap over_limit (target-place d i) ∙ fits) is in
        let u : t ≡ suc (t - 1) = omega (arith, lt) in
        let after : nat_lt s w.row.tid ≡ true = (let z = w.tid in grind (arith, nat_tests, z, lt)) in
        let st : stood k rs x t ≡ true = quiet-early k rs a s t quiet in
        let ca : came k rs y a ≡ true = is-came k rs y a (t - 1) u i is in
        let took : Stands (onward k rs x w.row) y =
        subst (λ b. Stands (if b then onward_to k rs x w.row.tid (landing k w.row a) else []) y) (sym after)
        (subst (λ m. Stands (onward_to k rs x m (landing k w.row a)) y) (sym w.tid)
        (subst (λ o. Stands (onward_to k rs x t o) y) (sym (w.landed ∙ ap (λ p. Some p) (target-place d i)))
        (subst (λ b. Stands (if b then y ∷ [] else []) y) (sym (ap (λ b. b && came k rs y a) st ∙ ca)) (inl refl)))) in
        let has = has-along k rs x w.row (at_target d.path) (has-got rs w.at w.row w.has) after w.landed in
        reached-stands xs y (c.closed x y here (flat-stands k rs (onward k rs x) (copies_along k rs x) w.row y has took))
