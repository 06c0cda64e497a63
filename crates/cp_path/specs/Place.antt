-- Labels, paths and places: equality, order, prefixes, and how large a place is.
use Rattle.cp_path.specs.declared.limits.TheConstants.{LABELS_MAX, LOC_MAX}
use Rattle.std.specs.Prelude.{ℕ, ◌+◌, Bool, true, false, cond, ◌&&◌, ◌||◌, List, [], ◌∷◌, ◌++◌, length, sum_by, nat_lt}
use Rattle.std.specs.declared.option.Option.{Option}
use Rattle.std.specs.declared.option.Option.TheVariants.{None, Some}
use Rattle.std.specs.Option.{option_map, unwrap_or}
use Rattle.std.specs.declared.cmp.Ordering.{Ordering}
use Rattle.std.specs.Cmp.Lexicographic.{slice_cmp, pointwise}
pub use Rattle.cp_path.specs.Text.{target}
use Rattle.cp_path.specs.Text.{text_eq, text_cmp}
use Rattle.cp_path.specs.declared.loc.Loc.{Loc}

-- a label is its bytes
abbrev pub Label : Type 0
Label = List ℕ

-- a path is a list of labels
abbrev pub Path : Type 0
Path = List Label

-- the same label
abbrev pub label_eq : Label → Label → Bool
label_eq = text_eq

-- label by label
abbrev pub path_eq : Path → Path → Bool
path_eq = pointwise text_eq

-- label by label, and a path comes before those below it
abbrev pub path_cmp : Path → Path → Ordering
path_cmp = slice_cmp text_cmp

-- the same place
abbrev pub place_eq : Loc → Loc → Bool
place_eq p q = text_eq p.db q.db && path_eq p.path q.path

-- the place at this path of T
abbrev pub at_target : Path → Loc
at_target p = record { db = target; path = p }

-- the place lies in T
abbrev pub in_target : Loc → Bool
in_target q = label_eq q.db target

-- one label further down
abbrev pub child : Path → Label → Path
child p a = p ++ a ∷ []

-- the place below q at these labels
abbrev pub below_place : Loc → Path → Loc
below_place q s = record { db = q.db; path = q.path ++ s }

-- one label further down
abbrev pub child_place : Loc → Label → Loc
child_place q a = below_place q (a ∷ [])

-- what of r follows its prefix p, if p is one
abbrev pub strip : Path → Path → Option Path
strip [] r = Some r
strip (a ∷ p) [] = None
strip (a ∷ p) (b ∷ r) = cond (label_eq a b) (strip p r) None

-- p is a prefix of r
abbrev pub starts_with : Path → Path → Bool
starts_with r [] = true
starts_with [] (a ∷ p) = false
starts_with (b ∷ r) (a ∷ p) = cond (label_eq a b) (starts_with r p) false

-- the place p lies at or below q
abbrev pub lies_below : Loc → Loc → Bool
lies_below p q = label_eq p.db q.db && starts_with p.path q.path

-- bytes of the name, plus 1 plus its bytes for each label
abbrev pub size : Loc → ℕ
size q = length q.db + sum_by (λ a. length a + 1) q.path

-- more labels than a path may have, or a larger size than a place may have
abbrev pub over_limit : Loc → Bool
over_limit q = nat_lt LABELS_MAX (length q.path) || nat_lt LOC_MAX (size q)

-- the path without its last label
abbrev pub parent : Path → Option Path
parent [] = None
parent (a ∷ []) = Some []
parent (a ∷ b ∷ p) = option_map (λ r. a ∷ r) (parent (b ∷ p))

-- the place without its last label
abbrev pub parent_place : Loc → Option Loc
parent_place q = option_map (λ p. record { db = q.db; path = p }) (parent q.path)

-- where p lies once all of old lies at to
abbrev pub moved_place : Loc → Loc → Loc → Loc
moved_place p old to = below_place to (unwrap_or (strip old.path p.path) [])

-- the last label, and the empty one at the root
abbrev pub last_label : Path → Label
last_label [] = []
last_label (a ∷ []) = a
last_label (a ∷ b ∷ p) = last_label (b ∷ p)
