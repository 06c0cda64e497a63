-- The copies that took a place along, place by place, are as many as its fan.
use Rattle.std.specs.Prelude.{ℕ, suc, ◌+◌, ◌≡◌, ◌≤◌, ◌&&◌, Bool, true, false, cond, List, [], ◌∷◌, ◌++◌, map, filter, length, nat_lt, refl, if◌then◌else◌}
use Rattle.std.proofs.Common.{sym, ap, subst, ◌∙◌, arith, length-append, inl, inr}
use Rattle.std.specs.Cmp.Lexicographic.{nat_list_eq_equiv}
use Rattle.std.specs.declared.option.Option.TheVariants.{None, Some}
use Rattle.std.proofs.lemmas.Option.{none-some}
use Rattle.std.proofs.lemmas.Bool.{and_parts}
use Rattle.cp_path.specs.Text.{text_eq}
use Rattle.cp_path.specs.Place.{lies_below, starts_with, moved_place}
use Rattle.cp_path.specs.declared.loc.Loc.{Loc}
use Rattle.cp_path.proofs.Same.{text_eq-same, place_eq-same, place_eq-refl}
use Rattle.cp_model.specs.Place.{Path, path_eq, place_eq, in_target}
use Rattle.cp_model.specs.declared.record.RowMark.{RowMark as Mark}
use Rattle.cp_model.specs.declared.record.RowMark.TheVariants.{Made, Copied, Gone, Kept}
use Rattle.cp_model.specs.Records.{mark_by}
use Rattle.cp_model.specs.declared.kind.Kind.{Kind}
use Rattle.cp_model.specs.declared.kind.Kind.TheVariants as kind
use Rattle.cp_model.specs.declared.record.Record.{Record}
use Rattle.cp_uses.specs.declared.reached.Reached.{Reached}
use Rattle.cp_uses.specs.Sources.{source_by, is_place, is_copy_of, copies_after, copies_from, copies_along, fronts, sources}
use Rattle.cp_uses.specs.Carrying.{goes_along, if_within, landing_at, landing, takes_by, is_in_fan, fan}
use Rattle.cp_uses.proofs.Members.{Has, has-mapped, has-filtered, has-flat}

-- ---- how often a place is among the sources

filter-mapped : {X Y : Type 0} (p : Y → Bool) (f : X → Y) (xs : List X) → length (filter p (map f xs)) ≡ length (filter (λ x. p (f x)) xs)
filter-mapped p f [] = refl
filter-mapped p f (x ∷ xs) =
    elim (p (f x)) as (λ b. length (cond b (f x ∷ filter p (map f xs)) (filter p (map f xs))) ≡ length (cond b (x ∷ filter (λ x. p (f x)) xs) (filter (λ x. p (f x)) xs))) [
      | true ↦ ap suc (filter-mapped p f xs)
      | false ↦ filter-mapped p f xs
    ]

filter-none : {X : Type 0} (xs : List X) → length (filter (λ _. false) xs) ≡ 0
filter-none [] = refl
filter-none (x ∷ xs) = filter-none xs

-- the number of a test
abbrev one_if : Bool → ℕ
one_if b = cond b 1 0

-- a path begins with r at one of its fronts, or at none
front-once : (p r : Path) → length (filter (λ s. path_eq s r) (fronts p)) ≡ one_if (starts_with p r)
front-once [] [] = refl
front-once [] (b ∷ r) = refl
front-once (a ∷ p) [] = ap suc (filter-mapped (λ s. path_eq s []) (λ s. a ∷ s) (fronts p) ∙ filter-none (fronts p))
front-once (a ∷ p) (b ∷ r) =
    filter-mapped (λ s. path_eq s (b ∷ r)) (λ s. a ∷ s) (fronts p)
    ∙ by (text_eq a b) (front-once p r)
    ∙ ap (λ d. one_if (cond d (starts_with p r) false)) (nat_list_eq_equiv.symm a b)
  where
    by : (d : Bool) → length (filter (λ s. path_eq s r) (fronts p)) ≡ one_if (starts_with p r) → length (filter (λ s. d && path_eq s r) (fronts p)) ≡ one_if (cond d (starts_with p r) false)
    by true h = h
    by false h = filter-none (fronts p)

place-once : (c q : Loc) → length (filter (λ p. place_eq p q) (map (λ p. record { db = c.db; path = p }) (fronts c.path))) ≡ one_if (lies_below c q)
place-once c q = filter-mapped (λ p. place_eq p q) (λ p. record { db = c.db; path = p }) (fronts c.path) ∙ by (text_eq c.db q.db)
  where
    by : (d : Bool) → length (filter (λ s. d && path_eq s q.path) (fronts c.path)) ≡ one_if (d && starts_with c.path q.path)
    by true = front-once c.path q.path
    by false = filter-none (fronts c.path)

itself-once : (c q : Loc) → length (filter (λ p. place_eq p q) (c ∷ [])) ≡ one_if (place_eq c q)
itself-once c q = by (place_eq c q)
  where
    by : (b : Bool) → length (cond b (c ∷ []) []) ≡ one_if b
    by true = refl
    by false = refl

source-once : (k : Kind) (c q : Loc) → length (filter (λ p. place_eq p q) (sources k c)) ≡ one_if (goes_along k q c)
source-once kind.N c q = itself-once c q
source-once kind.T c q = itself-once c q
source-once kind.H c q = place-once c q
source-once kind.HT c q = place-once c q

taken-once : (k : Kind) (c : Loc) (m : Mark) → length (filter (λ p. is_place p (source_by m)) (sources k c)) ≡ one_if (takes_by k m c)
taken-once k c Made = filter-none (sources k c)
taken-once k c (Copied q) = source-once k c q
taken-once k c Gone = filter-none (sources k c)
taken-once k c Kept = filter-none (sources k c)

row-once : (k : Kind) (c : Loc) (t : ℕ) (r : Record) → length (filter (λ p. is_copy_of p r && nat_lt t r.tid) (sources k c)) ≡ one_if (is_in_fan k c t r)
row-once k c t r = by (nat_lt t r.tid)
  where
    never : (xs : List Loc) → length (filter (λ p. is_copy_of p r && false) xs) ≡ 0
    never [] = refl
    never (x ∷ xs) = elim (is_copy_of x r) as (λ b. length (cond (b && false) (x ∷ filter (λ p. is_copy_of p r && false) xs) (filter (λ p. is_copy_of p r && false) xs)) ≡ 0) [ true ↦ never xs | false ↦ never xs ]

    always : (xs : List Loc) → length (filter (λ p. is_copy_of p r && true) xs) ≡ length (filter (λ p. is_copy_of p r) xs)
    always [] = refl
    always (x ∷ xs) =
        elim (is_copy_of x r) as (λ b. length (cond (b && true) (x ∷ filter (λ p. is_copy_of p r && true) xs) (filter (λ p. is_copy_of p r && true) xs)) ≡ length (cond b (x ∷ filter (λ p. is_copy_of p r) xs) (filter (λ p. is_copy_of p r) xs))) [
          | true ↦ ap suc (always xs)
          | false ↦ always xs
        ]

    by : (b : Bool) → length (filter (λ p. is_copy_of p r && b) (sources k c)) ≡ one_if (b && takes_by k (mark_by r.op r.src) c)
    by true = always (sources k c) ∙ taken-once k c (mark_by r.op r.src)
    by false = never (sources k c)

-- ---- how many copies

none-from : (qs : List Loc) (t : ℕ) → length (copies_from [] qs t) ≡ 0
none-from [] t = refl
none-from (q ∷ qs) t = none-from qs t

more-from : (r : Record) (rs : List Record) (qs : List Loc) (t : ℕ) → length (copies_from (r ∷ rs) qs t) ≡ length (filter (λ p. is_copy_of p r && nat_lt t r.tid) qs) + length (copies_from rs qs t)
more-from r rs [] t = refl
more-from r rs (q ∷ qs) t =
    let more = more-from r rs qs t in
    let old : length (copies_from rs (q ∷ qs) t) ≡ length (copies_after rs q t) + length (copies_from rs qs t) = length-append (copies_after rs q t) (copies_from rs qs t) in
    elim (is_copy_of q r && nat_lt t r.tid) as (λ b. length (cond b (r ∷ copies_after rs q t) (copies_after rs q t) ++ copies_from (r ∷ rs) qs t) ≡ length (cond b (q ∷ filter (λ p. is_copy_of p r && nat_lt t r.tid) qs) (filter (λ p. is_copy_of p r && nat_lt t r.tid) qs)) + length (copies_from rs (q ∷ qs) t)) [
      | true ↦ (let n : length (r ∷ copies_after rs q t ++ copies_from (r ∷ rs) qs t) ≡ suc (length (copies_after rs q t) + length (copies_from (r ∷ rs) qs t)) = ap suc (length-append (copies_after rs q t) (copies_from (r ∷ rs) qs t)) in omega (arith, more, old, n))
      | false ↦ (let n : length (copies_after rs q t ++ copies_from (r ∷ rs) qs t) ≡ length (copies_after rs q t) + length (copies_from (r ∷ rs) qs t) = length-append (copies_after rs q t) (copies_from (r ∷ rs) qs t) in omega (arith, more, old, n))
    ]

along-fan : (k : Kind) (c : Loc) (t : ℕ) (rs : List Record) → length (copies_from rs (sources k c) t) ≡ length (filter (is_in_fan k c t) rs)
along-fan k c t [] = none-from (sources k c) t
along-fan k c t (r ∷ rs) =
    let more = more-from r rs (sources k c) t in
    let one = row-once k c t r in
    let old = along-fan k c t rs in
    elim (is_in_fan k c t r) as (λ b. one_if (is_in_fan k c t r) ≡ one_if b → length (copies_from (r ∷ rs) (sources k c) t) ≡ length (cond b (r ∷ filter (is_in_fan k c t) rs) (filter (is_in_fan k c t) rs))) [
      | true ↦ λ e. omega (arith, more, one, old, e)
      | false ↦ λ e. omega (arith, more, one, old, e)
    ] refl

-- as many as the fan
pub fan-is : (k : Kind) (rs : List Record) (x : Reached) → length (copies_along k rs x) ≡ fan k rs x
fan-is k rs x = along-fan k x.place x.tid rs

few-filtered : {X : Type 0} (p : X → Bool) (xs : List X) → length (filter p xs) ≤ length xs
few-filtered p [] = omega arith
few-filtered p (x ∷ xs) =
    let few = few-filtered p xs in
    elim (p x) as (λ b. length (cond b (x ∷ filter p xs) (filter p xs)) ≤ suc (length xs)) [ true ↦ omega (arith, few) | false ↦ omega (arith, few) ]

-- a fan has no more than the rows
pub fan-few : (k : Kind) (rs : List Record) (x : Reached) → fan k rs x ≤ length rs
fan-few k rs x = few-filtered (is_in_fan k x.place x.tid) rs

-- ---- which copies

first-front : (p : Path) → Has (fronts p) []
first-front [] = inl refl
first-front (a ∷ p) = inl refl

has-front : (p r : Path) → starts_with p r ≡ true → Has (fronts p) r
has-front p [] h = first-front p
has-front [] (b ∷ r) h = absurd (cc)
has-front (a ∷ p) (b ∷ r) h =
    elim (text_eq b a) as (λ d. text_eq b a ≡ d → cond d (starts_with p r) false ≡ true → Has (fronts (a ∷ p)) (b ∷ r)) [
      | true ↦ λ e h.
          let same : b ≡ a = text_eq-same b a e in
          inr (ap-has same (has-mapped (λ s. a ∷ s) (fronts p) r (has-front p r h)))
      | false ↦ λ _ h. absurd (cc)
    ] refl h
  where
    ap-has : b ≡ a → Has (map (λ s. a ∷ s) (fronts p)) (a ∷ r) → Has (map (λ s. a ∷ s) (fronts p)) (b ∷ r)
    ap-has e h = subst (λ x. Has (map (λ s. a ∷ s) (fronts p)) (x ∷ r)) (sym e) h

has-place : (c q : Loc) → lies_below c q ≡ true → Has (map (λ p. record { db = c.db; path = p }) (fronts c.path)) q
has-place c q h =
    let p = and_parts (text_eq c.db q.db) (starts_with c.path q.path) h in
    let same : c.db ≡ q.db = text_eq-same c.db q.db p.0 in
    ap-has (λ i. record { db = same i; path = q.path }) (has-mapped (λ p. record { db = c.db; path = p }) (fronts c.path) q.path (has-front c.path q.path p.1))
  where
    ap-has : {x y : Loc} → x ≡ y → Has (map (λ p. record { db = c.db; path = p }) (fronts c.path)) x → Has (map (λ p. record { db = c.db; path = p }) (fronts c.path)) y
    ap-has e h = subst (Has (map (λ p. record { db = c.db; path = p }) (fronts c.path))) e h

has-source : (k : Kind) (c q : Loc) → goes_along k q c ≡ true → Has (sources k c) q
has-source kind.N c q h = inl (place_eq-same c q h)
has-source kind.T c q h = inl (place_eq-same c q h)
has-source kind.H c q h = has-place c q h
has-source kind.HT c q h = has-place c q h

copied-from : (k : Kind) (r : Record) (c p : Loc) → landing k r c ≡ Some p → (q : Loc) × (goes_along k q c ≡ true) × (is_copy_of q r ≡ true)
copied-from k r c p = by (mark_by r.op r.src)
  where
    copied : (q : Loc) (b d : Bool) → goes_along k q c ≡ d → (if b && d then if_within (moved_place c q r.loc) else None) ≡ Some p → goes_along k q c ≡ true
    copied q true true g e = g
    copied q true false g e = absurd (none-some _ e)
    copied q false d g e = absurd (none-some _ e)

    by : (m : Mark) → landing_at k r.loc m c ≡ Some p → (q : Loc) × (goes_along k q c ≡ true) × (is_place q (source_by m) ≡ true)
    by Made e = absurd (none-some _ e)
    by (Copied q) e = (q, copied q (in_target r.loc) (goes_along k q c) refl e, place_eq-refl q)
    by Gone e = absurd (none-some _ e)
    by Kept e = absurd (none-some _ e)

-- a later row that took the place along is among them
pub has-along : (k : Kind) (rs : List Record) (x : Reached) (r : Record) (p : Loc) → Has rs r → nat_lt x.tid r.tid ≡ true → landing k r x.place ≡ Some p → Has (copies_along k rs x) r
has-along k rs x r p h l e =
    let f = copied-from k r x.place p e in
    has-flat (λ q. copies_after rs q x.tid) (sources k x.place) f.0 r (has-source k x.place f.0 f.1)
    (has-filtered (λ r. is_copy_of f.0 r && nat_lt x.tid r.tid) rs r h (ap (λ b. b && nat_lt x.tid r.tid) f.2 ∙ l))
