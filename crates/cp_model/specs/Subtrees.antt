-- Subtrees of a map from paths: taken out, dropped, and put in place.
use Rattle.std.specs.Prelude.{Bool, not, List, ◌++◌, map, is_some}
use Rattle.std.specs.List.{filter_map}
use Rattle.std.specs.declared.option.Option.{Option}
use Rattle.cp_model.specs.Place.{Path, strip, starts_with, option_map}
use Rattle.cp_model.specs.Keyed as keyed
use Rattle.cp_model.specs.Keyed.{Keyed}

-- the entry, seen from q, if it lies at or below q
abbrev pub entry_below : {X : Type 0} → Path → Path × X → Option (Path × X)
entry_below q e = option_map (λ s. (s, e.1)) (strip q e.0)

module _ {X : Type 0} where
  -- the entries at and below q, each with the labels that follow q
  unfoldable pub below : Path → Keyed X → List (Path × X)
  below q m = filter_map (entry_below q) (keyed.entries m)

  -- the entries, each behind p
  unfoldable pub entries_under : Path → List (Path × X) → List (Path × X)
  entries_under p es = map (λ e. (p ++ e.0, e.1)) es

  -- all but what lies at or below p
  unfoldable pub without : Path → Keyed X → Keyed X
  without p m = keyed.retain_keys m (λ r. not (starts_with r p))

  -- the subtree at p becomes these entries
  unfoldable pub with_subtree : Path → List (Path × X) → Keyed X → Keyed X
  with_subtree p es m = keyed.put_all (entries_under p es) (without p m)

  -- the path is in the map
  abbrev pub is_there : Keyed X → Path → Bool
  is_there m p = is_some (keyed.get m p)

-- the same paths, with these values
abbrev pub with_values : {X Y : Type 0} → (Path → X → Y) → List (Path × X) → List (Path × Y)
with_values f es = map (λ e. (e.0, f e.0 e.1)) es

-- the same paths, with a value made of each path and its old value
abbrev pub map_values : {X Y : Type 0} → (Path → X → Y) → Keyed X → Keyed Y
map_values f m = keyed.from_entries (with_values f (keyed.entries m))
