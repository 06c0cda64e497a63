-- The look-ups for copies in time, copy after copy and source after source.
use Rattle.std.specs.Prelude.{ℕ, zero, suc, ◌+◌, ◌-◌, ◌*◌, ◌≡◌, ◌≤◌, ◌<◌, ◌||◌, ◌&&◌, Bool, true, false, cond, not, List, [], ◌∷◌, ◌++◌, length, filter, sum_by, max, take, drop, refl, nat_lt, if◌then◌else◌}
use Rattle.std.proofs.Common.{sym, ap, ◌∙◌, arith, length-append, get_or}
use Rattle.std.specs.List.{AllByRecursion}
use Rattle.std.specs.List.Sorted.{IsNonDecreasingBy}
use Rattle.std.proofs.lemmas.List.{take_more, take-append-drop}
use Rattle.std.proofs.lemmas.List.Elements.{filter-append}
use Rattle.std.proofs.lemmas.List.Folds.{list_any-append}
use Rattle.std.proofs.lemmas.List.Sums.{sum_by-append}
use Rattle.std.proofs.Math.Seq.{drop-cons}
use Rattle.std.proofs.Math.Bool.{or-true}
use Rattle.cp_path.specs.declared.loc.Loc.{Loc}
use Rattle.cp_model.specs.Place.{in_target}
use Rattle.cp_model.specs.declared.kind.Kind.{Kind}
use Rattle.cp_model.specs.declared.record.Record.{Record}
use Rattle.cp_uses.specs.declared.reached.Reached.{Reached}
use Rattle.cp_uses.specs.Sources.{sources, is_copy_of, copies_after, copies_from}
use Rattle.cp_uses.specs.InTime.{is_in_time, calls_to_follow, has_late, calls_for_copies, late_sources, calls_in_time}
use Rattle.cp_uses.specs.Carrying.{fan}
use Rattle.cp_uses.specs.Laws.{TwoForEachCopy}
use Rattle.cp_uses.specs.Stays.{stands}
use Rattle.cp_uses.proofs.Staying.{rest-late}
use Rattle.cp_uses.proofs.Taken.{fan-is}
use Rattle.cp_uses.proofs.Weights.{sum-cons}

-- the number of a test
abbrev pub one_if : Bool → ℕ
one_if b = if b then 1 else 0

at-most-one : (b : Bool) → one_if b ≤ 1
at-most-one true = omega arith
at-most-one false = omega arith

module _ (k : Kind) (rs : List Record) (x : Reached) where
  -- ---- copy after copy

  pub copies-append : (xs ys : List Record) → calls_for_copies k rs x (xs ++ ys) ≡ calls_for_copies k rs x xs + calls_for_copies k rs x ys
  copies-append xs ys = ap (sum_by (calls_to_follow x)) (filter-append (is_in_time k rs x) xs ys) ∙ sum_by-append (calls_to_follow x) (filter (is_in_time k rs x) xs) (filter (is_in_time k rs x) ys)

  late-append : (xs ys : List Record) → has_late k rs x (xs ++ ys) ≡ (has_late k rs x xs || has_late k rs x ys)
  late-append xs ys = list_any-append (λ r. not (is_in_time k rs x r)) xs ys

  one-copy : (r : Record) → stands k rs x (r.tid - 1) ≡ true → calls_for_copies k rs x (r ∷ []) ≡ calls_to_follow x r
  one-copy r h = ap (λ b. sum_by (calls_to_follow x) (cond b (r ∷ []) [])) h ∙ (let z : 0 + calls_to_follow x r ≡ calls_to_follow x r = omega arith in z)

  one-in-time : (r : Record) → stands k rs x (r.tid - 1) ≡ true → has_late k rs x (r ∷ []) ≡ false
  one-in-time r h = ap (λ b. not b || false) h

  -- one more that was made in time
  pub calls-more : (rows : List Record) (i : ℕ) (r : Record) → i < length rows → r ≡ get_or rows i r → stands k rs x (r.tid - 1) ≡ true → calls_for_copies k rs x (take (i + 1) rows) ≡ calls_for_copies k rs x (take i rows) + calls_to_follow x r
  calls-more rows i r l e h =
      ap (calls_for_copies k rs x) (take_more rows i r l ∙ ap (λ y. take i rows ++ y ∷ []) (sym e))
      ∙ copies-append (take i rows) (r ∷ [])
      ∙ ap (λ n. calls_for_copies k rs x (take i rows) + n) (one-copy r h)

  pub in-time-more : (rows : List Record) (i : ℕ) (r : Record) → i < length rows → r ≡ get_or rows i r → stands k rs x (r.tid - 1) ≡ true → has_late k rs x (take i rows) ≡ false → has_late k rs x (take (i + 1) rows) ≡ false
  in-time-more rows i r l e h a =
      ap (has_late k rs x) (take_more rows i r l ∙ ap (λ y. take i rows ++ y ∷ []) (sym e))
      ∙ late-append (take i rows) (r ∷ [])
      ∙ ap (λ b. b || has_late k rs x (r ∷ [])) a
      ∙ one-in-time r h

  none-in-time : (rows : List Record) → AllByRecursion (λ r. stands k rs x (r.tid - 1) ≡ false) rows → calls_for_copies k rs x rows ≡ 0
  none-in-time [] a = refl
  none-in-time (r ∷ rows) a = ap (λ b. sum_by (calls_to_follow x) (cond b (r ∷ filter (is_in_time k rs x) rows) (filter (is_in_time k rs x) rows))) a.0 ∙ none-in-time rows a.1

  first-late : (rows : List Record) (i : ℕ) (r : Record) → i < length rows → r ≡ get_or rows i r → stands k rs x (r.tid - 1) ≡ false → has_late k rs x (drop i rows) ≡ true
  first-late rows i r l e h =
      ap (has_late k rs x) (drop-cons rows i r l ∙ ap (λ y. y ∷ drop (suc i) rows) (sym e))
      ∙ ap (λ b. not b || has_late k rs x (drop (suc i) rows)) h

  -- from the first on that came too late, all did
  pub late-rest : (rows : List Record) (i : ℕ) (r : Record) → IsNonDecreasingBy (λ r. r.tid) rows → r ≡ get_or rows i r → i < length rows → stands k rs x (r.tid - 1) ≡ false →
      (has_late k rs x rows ≡ true) × (calls_for_copies k rs x rows ≡ calls_for_copies k rs x (take i rows))
  late-rest rows i r o e l h = (
    ap (has_late k rs x) (sym (take-append-drop i rows)) ∙ late-append (take i rows) (drop i rows) ∙ ap (λ b. has_late k rs x (take i rows) || b) (first-late rows i r l e h) ∙ or-true (has_late k rs x (take i rows)),
    (let whole : calls_for_copies k rs x rows ≡ calls_for_copies k rs x (take i rows) + calls_for_copies k rs x (drop i rows) = ap (calls_for_copies k rs x) (sym (take-append-drop i rows)) ∙ copies-append (take i rows) (drop i rows) in
        let none = none-in-time (drop i rows) (rest-late k rs x rows i r o e l h) in
        omega (arith, whole, none)),
  )

  -- ---- source after source

  pub sources-more : (qs : List Loc) (q : Loc) → late_sources k rs x (qs ++ q ∷ []) ≡ late_sources k rs x qs + one_if (has_late k rs x (copies_after rs q x.tid))
  sources-more qs q =
      ap length (filter-append (λ q. has_late k rs x (copies_after rs q x.tid)) qs (q ∷ []))
      ∙ length-append (filter (λ q. has_late k rs x (copies_after rs q x.tid)) qs) (filter (λ q. has_late k rs x (copies_after rs q x.tid)) (q ∷ []))
      ∙ ap (λ n. late_sources k rs x qs + n) (by (has_late k rs x (copies_after rs q x.tid)))
    where
      by : (b : Bool) → length (cond b (q ∷ []) []) ≡ one_if b
      by true = refl
      by false = refl

  -- ---- no more than twice the fan

  two-at-most : (r : Record) → calls_to_follow x r ≤ 2
  two-at-most r = let a = at-most-one (in_target x.place && nat_lt x.tid (r.tid - 1)) in let b = bring (is_copy_of x.place r) in omega (arith, a, b)
    where
      bring : (b : Bool) → (if b then 0 else 1) ≤ 1
      bring true = omega arith
      bring false = omega arith

  copies-few : (rows : List Record) → one_if (has_late k rs x rows) + calls_for_copies k rs x rows ≤ 2 * length rows
  copies-few [] = omega arith
  copies-few (r ∷ rows) = by (is_in_time k rs x r) (copies-few rows)
    where
      by : (b : Bool) → one_if (has_late k rs x rows) + calls_for_copies k rs x rows ≤ 2 * length rows →
          one_if (not b || has_late k rs x rows) + sum_by (calls_to_follow x) (cond b (r ∷ filter (is_in_time k rs x) rows) (filter (is_in_time k rs x) rows)) ≤ 2 * suc (length rows)
      by true h = let s = sum-cons (calls_to_follow x) r (filter (is_in_time k rs x) rows) in let t = two-at-most r in omega (arith, h, s, t)
      by false h = omega (arith, h)

  sources-few : (qs : List Loc) → late_sources k rs x qs + calls_for_copies k rs x (copies_from rs qs x.tid) ≤ 2 * length (copies_from rs qs x.tid)
  sources-few [] = omega arith
  sources-few (q ∷ qs) =
      let one = copies-few (copies_after rs q x.tid) in
      let rest = sources-few qs in
      let calls = copies-append (copies_after rs q x.tid) (copies_from rs qs x.tid) in
      let long = length-append (copies_after rs q x.tid) (copies_from rs qs x.tid) in
      let late : late_sources k rs x (q ∷ qs) ≡ one_if (has_late k rs x (copies_after rs q x.tid)) + late_sources k rs x qs = by (has_late k rs x (copies_after rs q x.tid)) (filter (λ q. has_late k rs x (copies_after rs q x.tid)) qs) in
      omega (arith, one, rest, calls, long, late)
    where
      by : (b : Bool) (l : List Loc) → length (cond b (q ∷ l) l) ≡ one_if b + length l
      by true l = omega arith
      by false l = omega arith

  max-few : (n : ℕ) → max 1 n ≤ 1 + n
  max-few zero = omega arith
  max-few (suc n) = omega arith

  calls-few : calls_in_time k rs x ≤ 1 + 2 * fan k rs x
  calls-few =
      let n = sources-few (sources k x.place) in
      let f = fan-is k rs x in
      let m = max-few (late_sources k rs x (sources k x.place)) in
      omega (arith, n, f, m)

pub two-for-each : TwoForEachCopy
two-for-each k rs x = calls-few k rs x
