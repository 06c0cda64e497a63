-- The operations that a transaction holds, and what is kept of its records.
use Rattle.cp_model.specs.declared.limits.TheConstants.{ENTRY_MAX, OPS_MAX}
use Rattle.std.specs.Prelude.{◌≡◌, ◌≤◌, ◌<◌, List, ◌++◌, length}
use Rattle.std.specs.List.{AllByRecursion}
use Rattle.cp_model.specs.declared.op.Op.{Op}
use Rattle.cp_model.specs.declared.record.Record.{Record}
use Rattle.cp_record.specs.Bytes.{records_bytes}
use Rattle.cp_record.specs.Packed.{IsSmall}
use Rattle.cp_engine.specs.declared.kept.StepRecords.{StepRecords}
use Rattle.cp_engine.specs.declared.kept.StepRecords.TheVariants.{Held, GivenUp}

-- no more operations than a commit may have, each within the limit of weight
pub record AreHeld (ops : List Op) : Type 0 where
  pub few : length ops ≤ OPS_MAX
  pub small : AllByRecursion IsSmall ops

-- what is kept of these records: themselves, if they take no more bytes than an entry may have, and else none
abbrev pub AreKept : StepRecords → List Record → Type 0
AreKept (Held held) rs = (held ≡ rs) × (length (records_bytes rs) ≤ ENTRY_MAX)
AreKept GivenUp rs = ENTRY_MAX < length (records_bytes rs)

-- whatever records were kept, these are kept behind them
abbrev pub AreKeptBehind : StepRecords → StepRecords → List Record → Type 0
AreKeptBehind old new more = (rs : List Record) → AreKept old rs → AreKept new (rs ++ more)
