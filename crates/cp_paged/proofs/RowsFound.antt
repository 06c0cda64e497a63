-- A row that is found counts for the place.
use Rattle.std.proofs.Common.{arith, ◌≡◌, ◌≤◌, ◌∙◌, inl, inr, ◌==◌, ◌&&◌, ap, sym, refl, subst, ℕ, List, [], ◌∷◌, ◌++◌, Bool, true, false, true≢false, Option, Some, None}
use Rattle.std.specs.List.{list_any}
use Rattle.cp_path.specs.Place.{starts_with, path_eq}
use Rattle.cp_path.proofs.Same.{path_eq-same}
use Rattle.cp_model.specs.Place.{Path}
use Rattle.cp_model.specs.Keyed.{look}
use Rattle.cp_model.specs.Records.{rows_at}
use Rattle.cp_model.specs.declared.kind.Kind.{Kind}
use Rattle.cp_model.specs.declared.kind.Kind.TheVariants as kind
use Rattle.cp_model.specs.declared.record.Record.{Record}
use Rattle.cp_store.specs.Costs.{has_row}
use Rattle.std.proofs.Common.{take, drop, length}
use Rattle.std.proofs.lemmas.List.{take-append-drop}
use Rattle.cp_model.specs.declared.record.RowMark.{RowMark as Mark}
use Rattle.std.proofs.Common.{◌+◌}
use Rattle.cp_paged.specs.declared.newest.Above.{Above}
use Rattle.cp_paged.specs.Newest.{mark_of_row, first_depth, IsNewestAbove}
use Rattle.cp_paged.proofs.NewestAbove.{full_take}
use Rattle.std.specs.Cmp.Lexicographic.{nat_list_eq_equiv}
use Rattle.cp_path.specs.Text.{text_eq}
use Rattle.cp_store.proofs.RowsTold.{case_of}

itself : (a : List ℕ) → text_eq a a ≡ true
itself a = nat_list_eq_equiv.refl a

-- where no row of the step is of the place, none is found
some_is : {X : Type 0} (x y : X) → Some x ≡ Some y → x ≡ y
some_is x y h = cc

none_found : (rs : List Record) (q : Path) (t : ℕ) → list_any (λ r. (r.tid == t) && path_eq q r.loc.path) rs ≡ false → look q (rows_at rs t) ≡ None
unfolding rows_at
none_found [] q t h = refl
none_found (r ∷ rs) q t h = elim (case_of (r.tid == t)) [
  | inl of ↦ elim (case_of (path_eq q r.loc.path)) [
    | inl here ↦ absurd (true≢false (rw (of, here) at h))
    | inr off ↦ rw (of, off) (none_found rs q t (rw (of, off) at h))
  ]
  | inr other ↦ rw other (none_found rs q t (rw other at h))
]

begins : (q s : Path) → starts_with (q ++ s) q ≡ true
begins [] s = refl
begins (a ∷ q) s = rw (itself a) (begins q s)

fewer : (f g : Record → Bool) (rs : List Record) → ((r : Record) → g r ≡ true → f r ≡ true) → list_any f rs ≡ false → list_any g rs ≡ false
fewer f g [] less h = refl
fewer f g (r ∷ rs) less h = elim (case_of (g r)) [
  | inl is ↦ absurd (true≢false (rw (less r is) at h))
  | inr off ↦ elim (case_of (f r)) [
    | inl is ↦ absurd (true≢false (rw is at h))
    | inr no_f ↦ rw off (fewer f g rs less (rw no_f at h))
  ]
]

counted : (p q s : Path) (t : ℕ) (r : Record) → p ≡ q ++ s → ((r.tid == t) && path_eq q r.loc.path) ≡ true → ((r.tid == t) && starts_with p r.loc.path) ≡ true
counted p q s t r is h = elim (case_of (r.tid == t)) [
  | inl of ↦ let same : q ≡ r.loc.path = path_eq-same q r.loc.path (rw of at h) in rw of (subst (λ x. starts_with p x ≡ true) same (subst (λ x. starts_with x q ≡ true) (sym is) (begins q s)))
  | inr other ↦ absurd (true≢false (sym (rw other at h)))
]

more : (f g : Record → Bool) (rs : List Record) → ((r : Record) → g r ≡ true → f r ≡ true) → list_any g rs ≡ true → list_any f rs ≡ true
more f g rs less h = elim (case_of (list_any f rs)) [
  | inl is ↦ is
  | inr off ↦ absurd (true≢false (sym h ∙ fewer f g rs less off))
]

some_found : {X : Type 0} (o : Option X) (x : X) → o ≡ None → o ≡ Some x → ⊥
some_found o x n s = cc

-- where a row is found, some row of the step is of the place
row_there : (rs : List Record) (q : Path) (t : ℕ) (m : Mark) → look q (rows_at rs t) ≡ Some m → list_any (λ r. (r.tid == t) && path_eq q r.loc.path) rs ≡ true
row_there rs q t m h = elim (case_of (list_any (λ r. (r.tid == t) && path_eq q r.loc.path) rs)) [
  | inl is ↦ is
  | inr off ↦ absurd (some_found (look q (rows_at rs t)) m (none_found rs q t off) h)
]

pub row-there : (rs : List Record) (q : Path) (t : ℕ) (m : Mark) → mark_of_row rs q t ≡ Some m → has_row kind.N rs q t ≡ true
unfolding mark_of_row
row-there rs q t m h = row_there rs q t m h

-- a row at a prefix that counts is one that counts for the place
pub has-found : (k : Kind) (rs : List Record) (p : Path) (n t : ℕ) (m : Mark) → first_depth k p ≤ n → n ≤ length p → mark_of_row rs (take n p) t ≡ Some m → has_row k rs p t ≡ true
unfolding mark_of_row
has-found kind.N rs p n t m from le h = let same_depth : n ≡ length p = omega (arith, from, le) in row_there rs p t m (subst (λ q. look q (rows_at rs t) ≡ Some m) (ap (λ i. take i p) same_depth ∙ full_take p) h)
has-found kind.T rs p n t m from le h = let same_depth : n ≡ length p = omega (arith, from, le) in row_there rs p t m (subst (λ q. look q (rows_at rs t) ≡ Some m) (ap (λ i. take i p) same_depth ∙ full_take p) h)
has-found kind.H rs p n t m from le h = more _ _ rs (λ r g. counted p (take n p) (drop n p) t r (sym (take-append-drop n p)) g) (row_there rs (take n p) t m h)
has-found kind.HT rs p n t m from le h = more _ _ rs (λ r g. counted p (take n p) (drop n p) t r (sym (take-append-drop n p)) g) (row_there rs (take n p) t m h)

-- the row that is found counts
pub above-has : (k : Kind) (rs : List Record) (p : Path) (t : ℕ) (a : Above) → IsNewestAbove rs p (first_depth k p) (length p + 1) t (Some a) → has_row k rs p a.told.tid ≡ true
unfolding IsNewestAbove
above-has k rs p t a h = let deep = h.2 in has-found k rs p a.depth a.told.tid h.3.mark h.1 (omega (arith, deep)) h.3.there
