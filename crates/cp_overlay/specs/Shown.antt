-- The map of an overlay, seen as what it keeps.
use Rattle.std.specs.Prelude.{◌≡◌, Bool, true, List, ◌++◌, map, is_some}
use Rattle.std.specs.declared.option.Option.{Option}
use Rattle.std.specs.declared.option.Option.TheVariants.{None, Some}
use Rattle.std.specs.List.{filter_map}
use Rattle.std.specs.BTreeMap.{BTreeMap}
use Rattle.std.specs.Global.{Vec}
use Rattle.cp_model.specs.Place.{Path, Label}
use Rattle.cp_model.specs.Keyed.{look}
use Rattle.cp_model.specs.Subtrees.{entry_below}
use Rattle.cp_model.specs.declared.origin.Origin.{Origin}

-- origins by the labels of places; a key may be there that keeps none
abbrev pub OriginMap : Type 0
OriginMap = BTreeMap (Vec Label) (Option Origin)

-- the entries, with their keys as paths
abbrev pub shown : {X : Type 0} → List (Vec Label × X) → List (Path × X)
shown es = map (λ e. (e.0.items, e.1)) es

-- what an entry keeps, if there is one
abbrev pub joined : {X : Type 0} → Option (Option X) → Option X
joined None = None
joined (Some o) = o

-- the origin that is kept at a path
unfoldable pub kept : OriginMap → Path → Option Origin
kept m r = joined (look r (shown m.entries))

-- the key is there, with an origin or without
unfoldable pub has_key : OriginMap → Path → Bool
has_key m r = is_some (look r (shown m.entries))

-- the entries at and below q, with what follows q
unfoldable pub run : {X : Type 0} → Path → List (Vec Label × X) → List (Path × X)
run q es = filter_map (entry_below q) (shown es)

-- what was set, or else what was there
abbrev pub set_or : {X : Type 0} → Option (Option X) → Option X → Option X
set_or None o = o
set_or (Some v) o = v

-- the keys of all rows are there
abbrev pub AreThere : OriginMap → List (Path × Option Origin) → Type 0
AreThere m rows = (r : Path) → is_some (look r rows) ≡ true → has_key m r ≡ true

-- the same places, with nothing kept
abbrev pub blank : {X : Type 0} → List (Path × Option X) → List (Path × Option X)
blank rows = map (λ e. (e.0, None)) rows

-- the keys as paths
abbrev pub paths : List (Vec Label) → List Path
paths keys = map (λ k. k.items) keys

-- the paths of the entries, each behind p
abbrev pub paths_under : {X : Type 0} → Path → List (Path × X) → List Path
paths_under p es = map (λ e. p ++ e.0) es
