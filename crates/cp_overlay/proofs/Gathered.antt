-- The loops that gather a run, and its keys.
use Rattle.std.proofs.Common.{◌≡◌, Bool, true, false, cond, ◌&&◌, List, [], ◌∷◌, ◌++◌, refl, sym, ap, subst, ◌∙◌, append_assoc}
use Rattle.std.specs.declared.option.Option.TheVariants.{None, Some}
use Rattle.std.specs.declared.ops.Bound.TheVariants.{Included, Unbounded}
use Rattle.std.specs.Ordering.{is_le}
use Rattle.std.specs.List.{filter, cons_option, AllByRecursion}
use Rattle.std.specs.List.Sorted.{IsStrictlySortedBy}
use Rattle.std.specs.BTreeMap.Range.{entries_between, range_contains}
use Rattle.std.specs.Map.{keys_of}
use Rattle.std.specs.Global.{Vec}
use Rattle.std.proofs.lemmas.List.Kept.{IsStrictlySortedBy-filter}
use Rattle.cp_model.specs.Place.{Path, Label, path_cmp, strip, option_map}
use Rattle.cp_overlay.specs.Shown.{shown, run, paths, paths_under}
use Rattle.cp_overlay.proofs.Found.{keys_cmp}
use Rattle.std.specs.Prelude.{is_some}
use Rattle.cp_model.proofs.Strips.{strip_is}
use Rattle.cp_model.proofs.Accepted.{none_is}
use Rattle.cp_overlay.proofs.Runs.{run-from, run-ends, strip-le}

append_nil : {A : Type 0} (xs : List A) → xs ++ [] ≡ xs
append_nil [] = refl
append_nil (x ∷ xs) = ap (λ ys. x ∷ ys) (append_nil xs)

and_left : (b : Bool) → (b && true) ≡ true → b ≡ true
and_left true e = refl
and_left false e = e

and_itself : (b : Bool) → b ≡ true → (b && true) ≡ true
and_itself true e = refl
and_itself false e = e

-- the paths of two lists of keys
pub paths-append : (ks js : List (Vec Label)) → paths (ks ++ js) ≡ paths ks ++ paths js
paths-append [] js = refl
paths-append (k ∷ ks) js = ap (λ ps. k.items ∷ ps) (paths-append ks js)

module _ {X : Type 0} where
  keys-filter : (p : Vec Label → Bool) (es : List (Vec Label × X)) → filter p (keys_of es) ≡ keys_of (filter (λ e. p e.0) es)
  keys-filter p [] = refl
  keys-filter p (e ∷ es) = elim (p e.0) as (λ b. cond b (e.0 ∷ filter p (keys_of es)) (filter p (keys_of es)) ≡ keys_of (cond b (e ∷ filter (λ e. p e.0) es) (filter (λ e. p e.0) es))) [ true ↦ ap (λ ks. e.0 ∷ ks) (keys-filter p es) | false ↦ keys-filter p es ]

  all-filter : (P : Vec Label → Type 0) (p : Vec Label → Bool) → ((k : Vec Label) → p k ≡ true → P k) → (es : List (Vec Label × X)) → AllByRecursion P (keys_of (filter (λ e. p e.0) es))
  all-filter P p h [] = tt
  all-filter P p h (e ∷ es) = elim (p e.0) as (λ b. p e.0 ≡ b → AllByRecursion P (keys_of (cond b (e ∷ filter (λ e. p e.0) es) (filter (λ e. p e.0) es)))) [ true ↦ λ t. (h e.0 t, all-filter P p h es) | false ↦ λ _. all-filter P p h es ] refl

  -- keys at or behind a path
  abbrev pub From : Path → List (Vec Label × X) → Type 0
  From q es = AllByRecursion (λ k. is_le (path_cmp q k.items) ≡ true) (keys_of es)

  -- keys that rise
  abbrev pub Rises : List (Vec Label × X) → Type 0
  Rises es = IsStrictlySortedBy keys_cmp (keys_of es)

  -- the entries from q on have the run of q
  pub started : (q : Path) (from : Vec Label) (es it : List (Vec Label × X)) → from.items ≡ q → it ≡ entries_between keys_cmp (Included from) Unbounded es → Rises es → (run q it ≡ run q es) × From q it × Rises it
  started q from es it f e r =
      let p : Vec Label → Bool = range_contains keys_cmp (Included from) Unbounded in (
        ap (run q) e ∙ run-from q p es (λ k h. and_itself _ (ap (λ x. is_le (path_cmp x k.items)) f ∙ strip-le q k.items h)),
        subst (From q) (sym e) (all-filter _ p (λ k h. sym (ap (λ x. is_le (path_cmp x k.items)) f) ∙ and_left _ h) es),
        subst Rises (sym e) (subst (IsStrictlySortedBy keys_cmp) (keys-filter p es) (IsStrictlySortedBy-filter keys_cmp p (keys_of es) r)),
      )

  -- the entries of two lists
  pub shown-append : (es fs : List (Vec Label × X)) → shown (es ++ fs) ≡ shown es ++ shown fs
  shown-append [] fs = refl
  shown-append (e ∷ es) fs = ap (λ xs. (e.0.items, e.1) ∷ xs) (shown-append es fs)

  -- one entry of the run
  pub turned : (q : Path) (out : List (Path × X)) (k : Vec Label) (o : X) (rest it : List (Vec Label × X)) (s : Path) → it ≡ (k, o) ∷ rest → Some s ≡ strip q k.items →
      (out ++ (s, o) ∷ []) ++ run q rest ≡ out ++ run q it
  unfolding run
  turned q out k o rest it s i e =
      append_assoc out ((s, o) ∷ []) (run q rest)
      ∙ ap (λ d. out ++ cons_option (option_map (λ s. (s, o)) d) (run q rest)) e
      ∙ ap (λ xs. out ++ run q xs) (sym i)

  -- no entry is left
  pub ended : (q : Path) (out it es : List (Vec Label × X)) → shown out ++ run q it ≡ run q es → it ≡ [] → shown out ≡ run q es
  unfolding run
  ended q out it es w i = sym (append_nil (shown out)) ∙ ap (λ xs. shown out ++ run q xs) (sym i) ∙ w

  -- an entry that is not below q ends the run
  pub stopped : (q : Path) (out : List (Vec Label × X)) (k : Vec Label) (o : X) (rest it es : List (Vec Label × X)) → shown out ++ run q it ≡ run q es → it ≡ (k, o) ∷ rest → From q it → Rises it → None ≡ strip q k.items → shown out ≡ run q es
  unfolding run IsStrictlySortedBy
  stopped q out k o rest it es w i f r n =
      let ff = subst (From q) i f in
      let rr = subst Rises i r in
      let none : run q rest ≡ [] = run-ends q k rest ff.0 (sym n) rr.0 in
      sym (append_nil (shown out)) ∙ ap (λ xs. shown out ++ xs) (sym none) ∙ ap (λ d. shown out ++ cons_option (option_map (λ s. (s, o)) d) (run q rest)) n ∙ ap (λ xs. shown out ++ run q xs) (sym i) ∙ w

  -- the keys of the rest
  pub rest_from : (q : Path) (k : Vec Label) (o : X) (rest it : List (Vec Label × X)) → it ≡ (k, o) ∷ rest → From q it → From q rest
  rest_from q k o rest it i f = (subst (From q) i f).1

  -- the rest rises
  pub rest_rises : (k : Vec Label) (o : X) (rest it : List (Vec Label × X)) → it ≡ (k, o) ∷ rest → Rises it → Rises rest
  unfolding IsStrictlySortedBy
  rest_rises k o rest it i r = (subst Rises i r).1

  -- one key of the run
  pub key_turned : (q : Path) (ks : List Path) (k : Vec Label) (o : X) (rest it : List (Vec Label × X)) → it ≡ (k, o) ∷ rest → is_some (strip q k.items) ≡ true →
      (ks ++ k.items ∷ []) ++ paths_under q (run q rest) ≡ ks ++ paths_under q (run q it)
  unfolding run
  key_turned q ks k o rest it i e =
      append_assoc ks (k.items ∷ []) (paths_under q (run q rest))
      ∙ elim (strip q k.items) as (λ d. strip q k.items ≡ d → is_some d ≡ true → ks ++ (k.items ∷ paths_under q (run q rest)) ≡ ks ++ paths_under q (cons_option (option_map (λ s. (s, o)) d) (run q rest))) [
        | None ↦ λ _ e. absurd (cc)
        | Some s ↦ λ h _. ap (λ p. ks ++ (p ∷ paths_under q (run q rest))) (strip_is q k.items s h)
      ] refl e
      ∙ ap (λ xs. ks ++ paths_under q (run q xs)) (sym i)

  -- no key is left
  pub keys_ended : (q : Path) (ks : List (Vec Label)) (it es : List (Vec Label × X)) → paths ks ++ paths_under q (run q it) ≡ paths_under q (run q es) → it ≡ [] → paths ks ≡ paths_under q (run q es)
  unfolding run
  keys_ended q ks it es w i = sym (append_nil (paths ks)) ∙ ap (λ xs. paths ks ++ paths_under q (run q xs)) (sym i) ∙ w

  -- a key that is not below q ends the run
  pub keys_stopped : (q : Path) (ks : List (Vec Label)) (k : Vec Label) (o : X) (rest it es : List (Vec Label × X)) → paths ks ++ paths_under q (run q it) ≡ paths_under q (run q es) → it ≡ (k, o) ∷ rest → From q it → Rises it
      → is_some (strip q k.items) ≡ false → paths ks ≡ paths_under q (run q es)
  unfolding run IsStrictlySortedBy
  keys_stopped q ks k o rest it es w i f r n =
      let ff = subst (From q) i f in
      let rr = subst Rises i r in
      let away : strip q k.items ≡ None = none_is (strip q k.items) n in
      let none : run q rest ≡ [] = run-ends q k rest ff.0 away rr.0 in
      sym (append_nil (paths ks))
      ∙ ap (λ xs. paths ks ++ paths_under q xs) (sym none)
      ∙ ap (λ d. paths ks ++ paths_under q (cons_option (option_map (λ s. (s, o)) d) (run q rest))) (sym away)
      ∙ ap (λ xs. paths ks ++ paths_under q (run q xs)) (sym i)
      ∙ w
