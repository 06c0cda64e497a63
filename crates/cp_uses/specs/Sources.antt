-- The places from which copies took a place along, and those copies.
use Rattle.std.specs.Prelude.{ℕ, ◌&&◌, Bool, false, List, [], ◌∷◌, map, filter, nat_lt}
use Rattle.std.specs.List.{flat_map}
use Rattle.std.specs.declared.option.Option.{Option}
use Rattle.std.specs.declared.option.Option.TheVariants.{None, Some}
use Rattle.cp_path.specs.Encoding.{counted_bytes}
use Rattle.cp_path.specs.declared.loc.Loc.{Loc}
use Rattle.cp_model.specs.Place.{Path, place_eq}
use Rattle.cp_model.specs.declared.record.RowMark.{RowMark as Mark}
use Rattle.cp_model.specs.declared.record.RowMark.TheVariants.{Made, Copied, Gone, Kept}
use Rattle.cp_model.specs.Records.{mark_by}
use Rattle.cp_model.specs.declared.kind.Kind.{Kind}
use Rattle.cp_model.specs.declared.kind.Kind.TheVariants as kind
use Rattle.cp_model.specs.declared.record.Record.{Record}
use Rattle.cp_uses.specs.declared.reached.Reached.{Reached}

-- ---- keys

-- the name and the labels of a place, each behind its length
abbrev pub source_key : Loc → List ℕ
source_key q = flat_map counted_bytes (q.db ∷ q.path)

-- the root of a database
abbrev pub at_root : List ℕ → Loc
at_root name = record { db = name; path = [] }

-- ---- copies from one place

-- the place from which a row says that its own was copied
abbrev pub source_by : Mark → Option Loc
source_by Made = None
source_by (Copied q) = Some q
source_by Gone = None
source_by Kept = None

-- the place from which the copy of a row was made, if it is that of a copy
abbrev pub source_of : Record → Option Loc
source_of r = source_by (mark_by r.op r.src)

-- the place is this one
abbrev pub is_place : Loc → Option Loc → Bool
is_place q None = false
is_place q (Some p) = place_eq q p

-- the row is that of a copy from q
abbrev pub is_copy_of : Loc → Record → Bool
is_copy_of q r = is_place q (source_of r)

-- the copies from q in the steps after t
abbrev pub copies_after : List Record → Loc → ℕ → List Record
copies_after rs q t = filter (λ r. is_copy_of q r && nat_lt t r.tid) rs

-- ---- copies that took a place along

-- the paths at which p begins, the shortest first
abbrev pub fronts : Path → List Path
fronts [] = [] ∷ []
fronts (a ∷ p) = [] ∷ map (λ r. a ∷ r) (fronts p)

-- the place and all above it, from the root down
abbrev pub places_above : Loc → List Loc
places_above c = map (λ p. record { db = c.db; path = p }) (fronts c.path)

-- the places from which a copy took c along: in the kinds n and t each place has a row of its own, in h and ht all below went along
abbrev pub sources : Kind → Loc → List Loc
sources kind.N c = c ∷ []
sources kind.T c = c ∷ []
sources kind.H c = places_above c
sources kind.HT c = places_above c

-- the copies from these places in the steps after t, place by place
abbrev pub copies_from : List Record → List Loc → ℕ → List Record
copies_from rs qs t = flat_map (λ q. copies_after rs q t) qs

-- the copies after its step that took along what was reached
abbrev pub copies_along : Kind → List Record → Reached → List Record
copies_along k rs x = copies_from rs (sources k x.place) x.tid
