-- The copies from a place and from those above it, from the root down.
use Rattle.std.specs.Prelude.{ℕ, zero, suc, ◌+◌, ◌≡◌, ◌<◌, ◌≤◌, ◌⊎◌, List, [], ◌∷◌, ◌++◌, map, length, take, refl}
use Rattle.std.proofs.Common.{sym, ap, ◌∙◌, arith, append_assoc, length-append, inl, inr}
use Rattle.std.proofs.Math.Seq.{take-length}
use Rattle.std.specs.List.{flat_map}
use Rattle.std.proofs.lemmas.List.{append-nil, take_more}
use Rattle.std.proofs.lemmas.Grind.{flat_map-append}
use Rattle.std.proofs.Math.ListN.{get_or}
use Rattle.cp_path.specs.Encoding.{counted_bytes}
use Rattle.cp_path.specs.declared.loc.Loc.{Loc}
use Rattle.cp_model.specs.Place.{Path, Label}
use Rattle.cp_model.specs.declared.record.Record.{Record}
use Rattle.cp_model.specs.declared.kind.Kind.{Kind}
use Rattle.cp_model.specs.declared.kind.Kind.TheVariants as kind
use Rattle.cp_uses.specs.declared.reached.Reached.{Reached}
use Rattle.cp_uses.specs.Index.{copies_by}
use Rattle.cp_uses.specs.Sources.{source_key, fronts, places_above, copies_after, copies_from, copies_along}
use Rattle.cp_uses.proofs.Keys.{copies-by}

-- the place at the first n labels
abbrev pub front_at : Loc → ℕ → Loc
front_at c n = record { db = c.db; path = take n c.path }

-- the place of a path
abbrev at_place : List ℕ → Path → Loc
at_place db p = record { db = db; path = p }

fronts-more : (p : Path) (a : Label) → fronts (p ++ a ∷ []) ≡ fronts p ++ (p ++ a ∷ []) ∷ []
fronts-more [] a = refl
fronts-more (b ∷ p) a = ap (λ l. [] ∷ map (λ r. b ∷ r) l) (fronts-more p a) ∙ ap (λ l. [] ∷ l) (mapped (fronts p))
  where
    mapped : (l : List Path) → map (λ r. b ∷ r) (l ++ (p ++ a ∷ []) ∷ []) ≡ map (λ r. b ∷ r) l ++ (b ∷ p ++ a ∷ []) ∷ []
    mapped [] = refl
    mapped (x ∷ l) = ap (λ m. (b ∷ x) ∷ m) (mapped l)

mapped-more : (db : List ℕ) (l : List Path) (p : Path) → map (at_place db) (l ++ p ∷ []) ≡ map (at_place db) l ++ at_place db p ∷ []
mapped-more db [] p = refl
mapped-more db (x ∷ l) p = ap (λ m. at_place db x ∷ m) (mapped-more db l p)

above-more : (db : List ℕ) (p : Path) (a : Label) → places_above (at_place db (p ++ a ∷ [])) ≡ places_above (at_place db p) ++ at_place db (p ++ a ∷ []) ∷ []
above-more db p a = ap (map (at_place db)) (fronts-more p a) ∙ mapped-more db (fronts p) (p ++ a ∷ [])

from-more : (rs : List Record) (qs : List Loc) (q : Loc) (t : ℕ) → copies_from rs (qs ++ q ∷ []) t ≡ copies_from rs qs t ++ copies_after rs q t
from-more rs qs q t = flat_map-append (λ q. copies_after rs q t) qs (q ∷ []) ∙ ap (λ l. copies_from rs qs t ++ l) (append-nil (copies_after rs q t))

-- the root alone
pub from-root : (rs : List Record) (c : Loc) (t : ℕ) → copies_from rs (places_above (front_at c 0)) t ≡ copies_after rs (front_at c 0) t
from-root rs c t = append-nil (copies_after rs (front_at c 0) t)

module _ (c : Loc) (i : ℕ) (a : Label) (b : i < length c.path) (is : a ≡ get_or c.path i a) where
  path-more : take (i + 1) c.path ≡ take i c.path ++ a ∷ []
  path-more = take_more c.path i a b ∙ ap (λ x. take i c.path ++ x ∷ []) (sym is)

  -- one label further down
  pub key-more : (old new : List ℕ) → old ≡ source_key (front_at c i) → new ≡ old ++ counted_bytes a → new ≡ source_key (front_at c (i + 1))
  key-more old new e f =
      f
      ∙ ap (λ k. k ++ counted_bytes a) e
      ∙ append_assoc (counted_bytes c.db) (flat_map counted_bytes (take i c.path)) (counted_bytes a)
      ∙ ap (λ k. counted_bytes c.db ++ k) (ap (λ k. flat_map counted_bytes (take i c.path) ++ k) (sym (append-nil (counted_bytes a))) ∙ sym (flat_map-append counted_bytes (take i c.path) (a ∷ [])) ∙ ap (flat_map counted_bytes) (sym path-more))

  pub copies-more : (rs : List Record) (t : ℕ) → copies_from rs (places_above (front_at c (i + 1))) t ≡ copies_from rs (places_above (front_at c i)) t ++ copies_after rs (front_at c (i + 1)) t
  copies-more rs t =
      ap (λ p. copies_from rs (places_above (at_place c.db p)) t) path-more
      ∙ ap (λ qs. copies_from rs qs t) (above-more c.db (take i c.path) a)
      ∙ from-more rs (places_above (front_at c i)) (at_place c.db (take i c.path ++ a ∷ [])) t
      ∙ ap (λ p. copies_from rs (places_above (front_at c i)) t ++ copies_after rs (at_place c.db p) t) (sym path-more)

  pub places-more : places_above (front_at c (i + 1)) ≡ places_above (front_at c i) ++ front_at c (i + 1) ∷ []
  places-more =
      ap (λ p. places_above (at_place c.db p)) path-more
      ∙ above-more c.db (take i c.path) a
      ∙ ap (λ p. places_above (front_at c i) ++ at_place c.db p ∷ []) (sym path-more)

-- ---- by keys

pub root-copies : (rs : List Record) (c : Loc) (key : List ℕ) (t : ℕ) → key ≡ source_key (front_at c 0) → copies_by rs key t ≡ copies_from rs (places_above (front_at c 0)) t
root-copies rs c key t e = ap (λ k. copies_by rs k t) e ∙ copies-by rs (front_at c 0) t ∙ sym (from-root rs c t)

pub more-copies : (rs : List Record) (c : Loc) (i : ℕ) (a : Label) (key : List ℕ) (t : ℕ) → i < length c.path → a ≡ get_or c.path i a → key ≡ source_key (front_at c (i + 1)) →
    copies_from rs (places_above (front_at c (i + 1))) t ≡ copies_from rs (places_above (front_at c i)) t ++ copies_by rs key t
more-copies rs c i a key t b is e =
    copies-more c i a b is rs t ∙ ap (λ l. copies_from rs (places_above (front_at c i)) t ++ l) (sym (ap (λ k. copies_by rs k t) e ∙ copies-by rs (front_at c (i + 1)) t))

-- the whole place
pub front-all : (c : Loc) (i : ℕ) → i ≡ length c.path → front_at c i ≡ c
front-all c i e = let p : take i c.path ≡ c.path = ap (λ n. take n c.path) e ∙ take-length c.path in λ i. record { db = c.db; path = p i }

pub parts-length : (xs ys zs : List Record) → zs ≡ xs ++ ys → length xs + length ys ≡ length zs
parts-length xs ys zs e = sym (ap length e ∙ length-append xs ys)

-- ---- by kinds

pub along-own : (k : Kind) (rs : List Record) (x : Reached) (key : List ℕ) → (k ≡ kind.N) ⊎ (k ≡ kind.T) → key ≡ source_key x.place → copies_by rs key x.tid ≡ copies_along k rs x
along-own k rs x key h e = ap (λ l. copies_by rs l x.tid) e ∙ copies-by rs x.place x.tid ∙ by h
  where
    by : (k ≡ kind.N) ⊎ (k ≡ kind.T) → copies_after rs x.place x.tid ≡ copies_along k rs x
    by (inl d) = sym (ap (λ j. copies_along j rs x) d ∙ append-nil (copies_after rs x.place x.tid))
    by (inr d) = sym (ap (λ j. copies_along j rs x) d ∙ append-nil (copies_after rs x.place x.tid))

pub along-above : (k : Kind) (rs : List Record) (x : Reached) → (k ≡ kind.H) ⊎ (k ≡ kind.HT) → copies_from rs (places_above x.place) x.tid ≡ copies_along k rs x
along-above k rs x (inl d) = sym (ap (λ j. copies_along j rs x) d)
along-above k rs x (inr d) = sym (ap (λ j. copies_along j rs x) d)

-- the same element of the same list
pub got-same : (xs ys : Path) (i : ℕ) (a : Label) → xs ≡ ys → a ≡ get_or xs i a → a ≡ get_or ys i a
got-same xs ys i a e h = h ∙ ap (λ l. get_or l i a) e

-- a list begins another
record Begins {X : Type 0} (xs ys : List X) : Type 0 where
  rest : List X
  whole : ys ≡ xs ++ rest

begins-mapped : {X Y : Type 0} (f : X → Y) (xs ys : List X) → Begins xs ys → Begins (map f xs) (map f ys)
begins-mapped {X = X} f xs ys b = record { rest = map f b.rest; whole = ap (map f) b.whole ∙ mapped xs b.rest }
  where
    mapped : (xs ys : List X) → map f (xs ++ ys) ≡ map f xs ++ map f ys
    mapped [] ys = refl
    mapped (x ∷ xs) ys = ap (λ l. f x ∷ l) (mapped xs ys)

-- the fronts of a front begin those of the whole
fronts-begin : (p : Path) (i : ℕ) → Begins (fronts (take i p)) (fronts p)
fronts-begin [] zero = record { rest = []; whole = refl }
fronts-begin [] (suc i) = record { rest = []; whole = refl }
fronts-begin (a ∷ p) zero = record { rest = map (λ r. a ∷ r) (fronts p); whole = refl }
fronts-begin (a ∷ p) (suc i) =
    let b = begins-mapped (λ r. a ∷ r) (fronts (take i p)) (fronts p) (fronts-begin p i) in
    record { rest = b.rest; whole = ap (λ l. [] ∷ l) b.whole }

-- a front has no more copies than the whole
pub fewer-above : (rs : List Record) (c : Loc) (i : ℕ) (t : ℕ) → length (copies_from rs (places_above (front_at c i)) t) ≤ length (copies_from rs (places_above c) t)
fewer-above rs c i t =
    let b = begins-mapped (at_place c.db) (fronts (take i c.path)) (fronts c.path) (fronts-begin c.path i) in
    let e : copies_from rs (places_above c) t ≡ copies_from rs (places_above (front_at c i)) t ++ copies_from rs b.rest t = ap (λ qs. copies_from rs qs t) b.whole ∙ flat_map-append (λ q. copies_after rs q t) (places_above (front_at c i)) b.rest in
    let l = ap length e ∙ length-append (copies_from rs (places_above (front_at c i)) t) (copies_from rs b.rest t) in
    omega (arith, l)
