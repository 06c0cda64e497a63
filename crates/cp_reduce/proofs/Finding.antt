-- What a search finds among records that rise by place.
use Rattle.std.proofs.Common.{◌≡◌, ℕ, zero, suc, ◌<◌, ◌≤◌, true, false, cond, List, [], ◌∷◌, length, get_or, refl, sym, ap, ◌∙◌, T, arith, add-one, nat_lt}
use Rattle.std.proofs.lemmas.Bool.Decides.{nat_tests}
use Rattle.std.specs.declared.option.Option.TheVariants.{None, Some}
use Rattle.std.specs.declared.cmp.Ordering.{Ordering}
use Rattle.std.specs.declared.cmp.Ordering.TheVariants.{Less, Equal, Greater}
use Rattle.std.specs.Ordering.{is_eq, is_lt, ordering_reverse, ordering_index}
use Rattle.std.specs.List.Sorted.{IsNonDecreasingBy, IsPartitionPoint}
use Rattle.std.specs.FinMap.Entries.{is_sorted, below_all}
use Rattle.std.proofs.lemmas.List.Sorted.{searchable_from_sorted}
use Rattle.cp_path.specs.PathOrder.{path_total, path_ties, path_eq_equiv}
use Rattle.cp_path.proofs.Same.{path_same}
use Rattle.cp_model.specs.declared.record.Record.{Record}
use Rattle.cp_model.specs.Place.{Path, path_cmp, path_eq}
use Rattle.cp_model.proofs.Sorted.{parts_of}
use Rattle.cp_reduce.specs.Told.{RiseByPlace, mark_in, marks_in, mark_at}

less : (o : Ordering) → T (is_lt o) → o ≡ Less
less Less h = refl
less Equal h = absurd h
less Greater h = absurd h

-- a path that comes after another isn't that one
other_path : (p q : Path) → path_cmp p q ≡ Less → path_eq q p ≡ false
other_path p q h = path_ties q p ∙ ap is_eq (path_total.antisymm q p ∙ ap ordering_reverse h)

-- nor is one that comes before it
other_before : (p q : Path) → path_cmp p q ≡ Greater → path_eq q p ≡ false
other_before p q h = path_ties q p ∙ ap is_eq (path_total.antisymm q p ∙ ap ordering_reverse h)

-- a place below those of all records is below that of each
below_each : (k : Path) (rs : List Record) (i : ℕ) (d : Record) → T (below_all path_cmp k (marks_in rs)) → i < length rs → path_cmp k (get_or rs i d).loc.path ≡ Less
below_each k [] i d h l = absurd (omega arith)
below_each k (y ∷ ys) zero d h l = less _ (parts_of (is_lt (path_cmp k y.loc.path)) (below_all path_cmp k (marks_in ys)) h).0
below_each k (y ∷ ys) (suc i) d h l = below_each k ys i d (parts_of (is_lt (path_cmp k y.loc.path)) (below_all path_cmp k (marks_in ys)) h).1 (omega arith)

-- no record comes before the one in front of it
rises_next : (rs : List Record) (k : ℕ) (d : Record) → RiseByPlace rs → suc k < length rs → is_lt (path_cmp (get_or rs (suc k) d).loc.path (get_or rs k d).loc.path) ≡ false
rises_next [] k d h l = absurd (omega arith)
rises_next (y ∷ ys) zero d h l =
    let parts = parts_of (below_all path_cmp y.loc.path (marks_in ys)) (is_sorted path_cmp (marks_in ys)) h in
    ap is_lt (path_total.antisymm (get_or ys zero d).loc.path y.loc.path ∙ ap ordering_reverse (below_each y.loc.path ys zero d parts.0 (omega arith)))
rises_next (y ∷ ys) (suc k) d h l = rises_next ys k d (parts_of (below_all path_cmp y.loc.path (marks_in ys)) (is_sorted path_cmp (marks_in ys)) h).1 (omega arith)

-- records that rise can be searched
rises_search : (rs : List Record) (q : Path) → RiseByPlace rs → IsNonDecreasingBy (λ (y : Record). ordering_index (path_cmp y.loc.path q)) rs
rises_search rs q h =
    searchable_from_sorted path_total (λ (y : Record). y.loc.path) rs q
    (λ k d _ l. ap (λ n. is_lt (path_cmp (get_or rs n d).loc.path (get_or rs k d).loc.path)) (add-one k) ∙ rises_next rs k d h (omega arith))

-- the record that is found is that of the place
found : (rs : List Record) (q : Path) (i : ℕ) (x : Record) → RiseByPlace rs → i < length rs → x ≡ get_or rs i x → x.loc.path ≡ q → Some (mark_in x) ≡ mark_at rs q
found [] q i x h l e s = absurd (omega arith)
found (y ∷ ys) q zero x h l e s =
    sym (ap (λ b. cond b (Some (mark_in y)) (mark_at ys q)) (ap (λ (z : Record). path_eq q z.loc.path) (sym e) ∙ ap (path_eq q) s ∙ path_eq_equiv.refl q) ∙ ap (λ (z : Record). Some (mark_in z)) (sym e))
found (y ∷ ys) q (suc i) x h l e s =
    let parts = parts_of (below_all path_cmp y.loc.path (marks_in ys)) (is_sorted path_cmp (marks_in ys)) h in
    let after : path_cmp y.loc.path q ≡ Less = ap (path_cmp y.loc.path) (sym s ∙ ap (λ (z : Record). z.loc.path) e) ∙ below_each y.loc.path ys i x parts.0 (omega arith) in
    found ys q i x parts.1 (omega arith) e s ∙ sym (ap (λ b. cond b (Some (mark_in y)) (mark_at ys q)) (other_path y.loc.path q after))

pub search-found : (rs : List Record) (q : Path) (i : ℕ) (x : Record) → RiseByPlace rs → i < length rs → ((d : Record) → path_cmp (get_or rs i d).loc.path q ≡ Equal) → x ≡ get_or rs i x → Some (mark_in x) ≡ mark_at rs q
search-found rs q i x h l at e = found rs q i x h l e (ap (λ (z : Record). z.loc.path) e ∙ path_same (get_or rs i x).loc.path q (at x))

-- where no record is of the place, it has none
missing : (rs : List Record) (q : Path) → ((k : ℕ) (d : Record) → k < length rs → path_eq q (get_or rs k d).loc.path ≡ false) → None ≡ mark_at rs q
missing [] q n = refl
missing (y ∷ ys) q n = missing ys q (λ k d l. n (suc k) d (omega arith)) ∙ sym (ap (λ b. cond b (Some (mark_in y)) (mark_at ys q)) (n zero y (omega arith)))

pub search-missing : (rs : List Record) (q : Path) (i : ℕ) → RiseByPlace rs →
    (IsNonDecreasingBy (λ (y : Record). ordering_index (path_cmp y.loc.path q)) rs → IsPartitionPoint (λ (y : Record). path_cmp y.loc.path q ≡ Less) (λ (y : Record). path_cmp y.loc.path q ≡ Greater) rs i) → None ≡ mark_at rs q
search-missing rs q i h f = missing rs q (λ k d l. elim (nat_lt k i) as (λ b. nat_lt k i ≡ b → path_eq q (get_or rs k d).loc.path ≡ false) [
  | true ↦ λ t. other_path (get_or rs k d).loc.path q ((f (rises_search rs q h)).0 k d (omega arith) (below k i t))
  | false ↦ λ t. other_before (get_or rs k d).loc.path q ((f (rises_search rs q h)).1 k d (above k i t) l)
] refl)
  where
    below : (k i : ℕ) → nat_lt k i ≡ true → k < i
    below k i t = grind (arith, nat_tests)

    above : (k i : ℕ) → nat_lt k i ≡ false → i ≤ k
    above k i t = grind (arith, nat_tests)
