-- Prefixes of places: what follows one, the last label, and sizes.
use Rattle.std.proofs.Common.{◌≡◌, ◌+◌, ◌≤◌, [], ◌∷◌, ◌++◌, Bool, true, false, ◌&&◌, length, drop, refl, ap, arith, sum_by, cond, Some, append-nil}
use Rattle.std.proofs.lemmas.List.Sums.{sum_by-append}
use Rattle.std.proofs.lemmas.Bool.{and_parts}
use Rattle.std.specs.Option.{option_map}
use Rattle.std.specs.List.{starts_with as list_starts_with}
use Rattle.cp_path.specs.Text.{text_eq}
use Rattle.cp_path.specs.Place.{Label, Path, label_eq, strip, starts_with, lies_below, parent, size, below_place}
use Rattle.cp_path.specs.declared.loc.Loc.{Loc}

pub none_more : (p : Path) → p ++ [] ≡ p
none_more p = append-nil p

both_if : (b c : Bool) → (b && c) ≡ cond b c false
both_if true c = refl
both_if false c = refl

-- the library's prefix test is ours
pub starts_with_lists : (p q : Path) → list_starts_with text_eq p q ≡ starts_with p q
starts_with_lists p [] = refl
starts_with_lists [] (b ∷ q) = refl
starts_with_lists (a ∷ p) (b ∷ q) = rw (starts_with_lists p q) (both_if (text_eq b a) (starts_with p q))

if_both : (b c : Bool) → cond b c false ≡ true → (b ≡ true) × (c ≡ true)
if_both true c h = (refl, h)
if_both false c h = cc

pub strip_drop : (p q : Path) → starts_with p q ≡ true → strip q p ≡ Some (drop (length q) p)
strip_drop p [] h = refl
strip_drop [] (b ∷ q) h = cc
strip_drop (a ∷ p) (b ∷ q) h =
    let both = if_both (label_eq b a) (starts_with p q) h in
    rw both.0 (strip_drop p q both.1)

pub starts_with_length : (p q : Path) → starts_with p q ≡ true → length q ≤ length p
starts_with_length p [] h = omega arith
starts_with_length [] (b ∷ q) h = cc
starts_with_length (a ∷ p) (b ∷ q) h =
    let rest = starts_with_length p q (if_both (label_eq b a) (starts_with p q) h).1 in omega arith

pub below_starts : (p q : Loc) → lies_below p q ≡ true → starts_with p.path q.path ≡ true
below_starts p q h = (and_parts (label_eq p.db q.db) (starts_with p.path q.path) h).1

pub parent_last : (p : Path) (a : Label) → parent (p ++ a ∷ []) ≡ Some p
parent_last [] a = refl
parent_last (b ∷ []) a = refl
parent_last (b ∷ c ∷ p) a = ap (option_map (λ r. b ∷ r)) (parent_last (c ∷ p) a)

sum-append : (p s : Path) → sum_by (λ a. length a + 1) (p ++ s) ≡ sum_by (λ a. length a + 1) p + sum_by (λ a. length a + 1) s
sum-append p s = sum_by-append (λ a. length a + 1) p s

pub size_below : (q : Loc) (s : Path) → size (below_place q s) ≡ size q + sum_by (λ a. length a + 1) s
size_below q s = omega (arith, sum-append q.path s)
