-- The rows of records in three orders: by place, by step, and by the place that lost a child.
use Rattle.std.specs.Prelude.{ℕ, ◌≡◌, ◌<◌, ◌^◌, false, List, [], ◌∷◌, ◌++◌, IfSome}
use Rattle.std.specs.Int.{to_be_bytes, w64}
use Rattle.std.specs.declared.option.Option.{Option}
use Rattle.cp_path.specs.Place.{over_limit}
use Rattle.cp_path.specs.declared.loc.Loc.{Loc}
use Rattle.cp_model.specs.declared.record.Record.{Record}
use Rattle.cp_model.specs.declared.record.RecOp.{RecOp}
use Rattle.cp_record.specs.Bytes.{letter, source_bytes}
use Rattle.cp_record.specs.Kept.{IsSourceOf}
use Rattle.cp_page.specs.KeyReading.{IsTargetPlace}
use Rattle.cp_page.specs.PlaceKeys.{place_key}
use Rattle.cp_page.specs.Rows.{row_of}
use Rattle.cp_page.specs.declared.row.PageRow.{PageRow}

-- the Tid in eight bytes, after the key of the place
abbrev pub place_tid : Loc → ℕ → List ℕ
place_tid q t = place_key q ++ to_be_bytes w64 t

-- the Tid in eight bytes, before the key of the place
abbrev pub tid_place : Loc → ℕ → List ℕ
tid_place q t = to_be_bytes w64 t ++ place_key q

-- the letter, and of a copy the place that it came from
abbrev pub mark_bytes : RecOp × Option Loc → List ℕ
mark_bytes m = letter m.0 ∷ source_bytes m.1

-- a place is there exactly where it is a copy, and is within the limits
abbrev pub IsMark : RecOp × Option Loc → Type 0
IsMark m = IsSourceOf m.0 m.1 × IfSome m.1 (λ q. over_limit q ≡ false)

-- the row of a record in the order by place
abbrev pub by_place : Record → PageRow
by_place r = row_of (place_tid r.loc r.tid) (mark_bytes (r.op, r.src))

-- and in the order by step
abbrev pub by_step : Record → PageRow
by_step r = row_of (tid_place r.loc r.tid) (mark_bytes (r.op, r.src))

-- the row of a place that lost a child in a step
abbrev pub by_loser : Loc × ℕ → PageRow
by_loser l = row_of (place_tid l.0 l.1) []

-- a place of T, and a Tid of eight bytes
abbrev pub IsLoss : Loc × ℕ → Type 0
IsLoss l = IsTargetPlace l.0 × (l.1 < 2 ^ 64)
