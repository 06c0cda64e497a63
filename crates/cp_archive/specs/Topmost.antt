-- Places in order, of which those are kept that lie below no other.
use Rattle.std.specs.Prelude.{◌≡◌, Bool, false, List, [], ◌∷◌, ◌++◌, if◌then◌else◌}
use Rattle.std.specs.List.{AllByRecursion}
use Rattle.std.specs.Ordering.{is_lt}
use Rattle.cp_model.specs.Place.{Path, path_cmp, starts_with}

-- p doesn't come after q
abbrev pub IsUpTo : Path → Path → Type 0
IsUpTo p q = is_lt (path_cmp q p) ≡ false

-- each place comes before those after it, or is the same
abbrev pub AreInOrder : List Path → Type 0
AreInOrder [] = Unit {0}
AreInOrder (p ∷ ps) = AllByRecursion (IsUpTo p) ps × AreInOrder ps

-- p lies at or below the last of the places
abbrev pub is_below_last : List Path → Path → Bool
is_below_last [] p = false
is_below_last (q ∷ []) p = starts_with p q
is_below_last (q ∷ r ∷ ps) p = is_below_last (r ∷ ps) p

-- with one place more, unless it lies at or below the last
abbrev pub kept_with : List Path → Path → List Path
kept_with ps p = if is_below_last ps p then ps else ps ++ p ∷ []
