-- What the calls of a cache make of its keys.
use Rattle.std.proofs.Common.{◌≡◌, ℕ, zero, suc, ◌-◌, ◌≤◌, ◌<◌, true, false, List, [], ◌∷◌, length, take, nat_eq, Some, None, is_some, refl, sym, ap, ◌∙◌, subst, arith, inl, inr, true≢false, take_all}
use Rattle.std.specs.List.{AllByRecursion}
use Rattle.std.specs.Map.{keys_of, lookup, lookup_entry, remove_entry}
use Rattle.lru.specs.LruCache.{LruCache, lru_cache, promoted, put_entries}
use Rattle.cp_page.proofs.Firsts.{case_of}
use Rattle.cp_run.specs.Looks.{without, after_look, is_among}

same_number : (p k : ℕ) → nat_eq p k ≡ true → k ≡ p
same_number p k e = grind arith

short_take : {X : Type 0} (n : ℕ) (xs : List X) → length (take n xs) ≤ n
short_take zero xs = omega arith
short_take (suc n) [] = omega arith
short_take (suc n) (x ∷ xs) = omega (arith, short_take n xs)

same_as_itself : (k : ℕ) → nat_eq k k ≡ true
same_as_itself k = grind arith

without_none : (k : ℕ) (ks : List ℕ) → is_among k ks ≡ false → without k ks ≡ ks
without_none k [] h = refl
without_none k (j ∷ ks) h = elim (case_of (nat_eq k j)) [
  | inl same ↦ absurd (true≢false (rw same at h))
  | inr other ↦ rw other (ap (λ l. j ∷ l) (without_none k ks (rw other at h)))
]

without_one : (k : ℕ) (ks : List ℕ) → is_among k ks ≡ true → suc (length (without k ks)) ≡ length ks
without_one k [] h = cc
without_one k (j ∷ ks) h = elim (case_of (nat_eq k j)) [
  | inl same ↦ rw same
  | inr other ↦ rw other (ap suc (without_one k ks (rw other at h)))
]

module _ {V : Type 0} (k : ℕ) where
  remove_keys : (es : List (ℕ × V)) → keys_of (remove_entry (nat_eq k) es) ≡ without k (keys_of es)
  remove_keys [] = refl
  remove_keys (e ∷ es) = elim (case_of (nat_eq k e.0)) [
    | inl same ↦ rw same
    | inr other ↦ rw other (ap (λ l. e.0 ∷ l) (remove_keys es))
  ]

  entry_found : (es : List (ℕ × V)) → is_some (lookup (nat_eq k) es) ≡ true → (v : V) × (lookup_entry (nat_eq k) es ≡ Some (k, v))
  entry_found [] h = cc
  entry_found (e ∷ es) h = elim (case_of (nat_eq k e.0)) [
    | inl same ↦ (e.1, rw same (ap (λ j. Some (j, e.1)) (same_number k e.0 same)))
    | inr other ↦ let on = entry_found es (rw other at h) in (on.0, rw other on.1)
  ]

  entry_none : (es : List (ℕ × V)) → is_some (lookup (nat_eq k) es) ≡ false → lookup_entry (nat_eq k) es ≡ None
  entry_none [] h = refl
  entry_none (e ∷ es) h = elim (case_of (nat_eq k e.0)) [
    | inl same ↦ absurd (true≢false (rw same at h))
    | inr other ↦ rw other (entry_none es (rw other at h))
  ]

  pub found_among : (es : List (ℕ × V)) → is_some (lookup (nat_eq k) es) ≡ is_among k (keys_of es)
  found_among [] = refl
  found_among (e ∷ es) = elim (case_of (nat_eq k e.0)) [
    | inl same ↦ rw same
    | inr other ↦ rw other (found_among es)
  ]

  keys_length : (es : List (ℕ × V)) → length (keys_of es) ≡ length es
  keys_length [] = refl
  keys_length (e ∷ es) = ap suc (keys_length es)

  -- a page that is kept goes first
  pub hit_keys : (n : ℕ) (es : List (ℕ × V)) → length es ≤ n → is_some (lookup (nat_eq k) es) ≡ true → keys_of (promoted (nat_eq k) es) ≡ after_look n k (keys_of es)
  hit_keys n es few found =
      let entry = entry_found es found in
      let one = without_one k (keys_of es) (sym (found_among es) ∙ found) in
      let short : length (k ∷ without k (keys_of es)) ≤ n = omega (arith, one, keys_length es, few) in
      rw entry.1 (ap (λ l. k ∷ l) (remove_keys es) ∙ sym (take_all n (k ∷ without k (keys_of es)) short))

  pub hit_length : (es : List (ℕ × V)) → is_some (lookup (nat_eq k) es) ≡ true → length (promoted (nat_eq k) es) ≡ length es
  hit_length es found =
      let entry = entry_found es found in
      rw entry.1 (ap suc (sym (keys_length (remove_entry (nat_eq k) es)) ∙ ap length (remove_keys es)) ∙ without_one k (keys_of es) (sym (found_among es) ∙ found) ∙ keys_length es)

  pub hit_here : (es : List (ℕ × V)) → is_some (lookup (nat_eq k) es) ≡ true → is_some (lookup (nat_eq k) (promoted (nat_eq k) es)) ≡ true
  hit_here es found = let entry = entry_found es found in rw (entry.1, same_as_itself k)

  -- nothing happens where it isn't kept
  pub no_hit : (es : List (ℕ × V)) → is_some (lookup (nat_eq k) es) ≡ false → promoted (nat_eq k) es ≡ es
  no_hit es gone = rw (entry_none es gone)

  taken_keys : (n : ℕ) (es : List (ℕ × V)) → keys_of (take n es) ≡ take n (keys_of es)
  taken_keys zero es = refl
  taken_keys (suc n) [] = refl
  taken_keys (suc n) (e ∷ es) = ap (λ l. e.0 ∷ l) (taken_keys n es)

  module _ (P : ℕ × V → Type 0) where
    pub all_taken : (n : ℕ) (es : List (ℕ × V)) → AllByRecursion P es → AllByRecursion P (take n es)
    all_taken zero es h = tt
    all_taken (suc n) [] h = tt
    all_taken (suc n) (e ∷ es) h = (h.0, all_taken n es h.1)

    all_without : (es : List (ℕ × V)) → AllByRecursion P es → AllByRecursion P (remove_entry (nat_eq k) es)
    all_without [] h = tt
    all_without (e ∷ es) h = elim (case_of (nat_eq k e.0)) [
      | inl same ↦ rw same h.1
      | inr other ↦ rw other (h.0, all_without es h.1)
    ]

    found_has : (es : List (ℕ × V)) (e : ℕ × V) → lookup_entry (nat_eq k) es ≡ Some e → AllByRecursion P es → P e
    found_has [] e h all = cc
    found_has (f ∷ es) e h all = elim (case_of (nat_eq k f.0)) [
      | inl same ↦ let is : f ≡ e = (let g = rw same at h in cc) in subst P is all.0
      | inr other ↦ found_has es e (rw other at h) all.1
    ]

    pub all_hit : (es : List (ℕ × V)) → is_some (lookup (nat_eq k) es) ≡ true → AllByRecursion P es → AllByRecursion P (promoted (nat_eq k) es)
    all_hit es found all = let entry = entry_found es found in
        rw entry.1 (found_has es (k, entry.0) entry.1 all, all_without es all)

    pub all_put : (c : LruCache ℕ V) (v : V) → is_some (lookup (nat_eq k) c.entries) ≡ false → P (k, v) → AllByRecursion P c.entries → AllByRecursion P (put_entries nat_eq c k v)
    all_put c v gone new all = rw (entry_none c.entries gone) (new, all_taken (c.cap - 1) c.entries all)

  pub put_length : (c : LruCache ℕ V) (v : V) → 0 < c.cap → is_some (lookup (nat_eq k) c.entries) ≡ false → length (put_entries nat_eq c k v) ≤ c.cap
  put_length c v room gone =
      let short = short_take (c.cap - 1) c.entries in
      rw (entry_none c.entries gone) (omega (arith, room, short))

  -- a page that wasn't kept is kept first
  pub put_keys : (c : LruCache ℕ V) (v : V) → 0 < c.cap → is_some (lookup (nat_eq k) c.entries) ≡ false → keys_of (put_entries nat_eq c k v) ≡ after_look c.cap k (keys_of c.entries)
  put_keys c v room gone =
      let step : c.cap ≡ suc (c.cap - 1) = omega (arith, room) in
      let ks = keys_of c.entries in
      rw (entry_none c.entries gone, without_none k ks (sym (found_among c.entries) ∙ gone))
      (ap (λ l. k ∷ l) (taken_keys (c.cap - 1) c.entries) ∙ sym (ap (λ n. take n (k ∷ ks)) step))

  -- what a look makes of a cache: its keys, its size, the page that is there, and what all of its pages are
  pub record IsLook (c d : LruCache ℕ V) : Type 1 where
    pub keys : keys_of d.entries ≡ after_look c.cap k (keys_of c.entries)
    pub cap : d.cap ≡ c.cap
    pub few : length d.entries ≤ c.cap
    pub here : is_some (lookup (nat_eq k) d.entries) ≡ true
    pub all : (P : ℕ × V → Type 0) → ((v : V) → lookup (nat_eq k) c.entries ≡ None → lookup (nat_eq k) d.entries ≡ Some v → P (k, v)) → AllByRecursion P c.entries → AllByRecursion P d.entries

  pub promotes : (c : LruCache ℕ V) → length c.entries ≤ c.cap → is_some (lookup (nat_eq k) c.entries) ≡ true → IsLook c (lru_cache (promoted (nat_eq k) c.entries) c.cap)
  promotes c few found = record {
    keys = hit_keys c.cap c.entries few found;
    cap = refl;
    few = omega (arith, hit_length c.entries found, few);
    here = hit_here c.entries found;
    all = λ P new all. all_hit P c.entries found all;
  }

  pub put_here : (c : LruCache ℕ V) (v : V) → is_some (lookup (nat_eq k) c.entries) ≡ false → lookup (nat_eq k) (put_entries nat_eq c k v) ≡ Some v
  put_here c v gone = rw (entry_none c.entries gone, same_as_itself k)

  none_found : (es : List (ℕ × V)) → is_some (lookup (nat_eq k) es) ≡ false → lookup (nat_eq k) es ≡ None
  none_found es gone = elim (lookup (nat_eq k) es) as (λ o. is_some o ≡ false → o ≡ None) [ None ↦ λ _. refl | Some v ↦ λ h. absurd (true≢false h) ] gone

  pub puts : (c : LruCache ℕ V) (v : V) → 0 < c.cap → is_some (lookup (nat_eq k) c.entries) ≡ false → IsLook c (lru_cache (put_entries nat_eq c k v) c.cap)
  puts c v room gone = record {
    keys = put_keys c v room gone;
    cap = refl;
    few = put_length c v room gone;
    here = ap is_some (put_here c v gone);
    all = λ P new all. all_put P c v gone (new v (none_found c.entries gone) (put_here c v gone)) all;
  }
