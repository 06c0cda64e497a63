-- Records that are kept as long as an entry can hold them.
use Rattle.cp_model.specs.declared.limits.TheConstants.{ENTRY_MAX}
use Rattle.std.specs.Prelude.{◌+◌, ◌<◌, ◌≡◌, ◌≤◌, List, [], ◌++◌, length, refl}
use Rattle.std.proofs.Common.{ap, subst, ◌∙◌, arith, length-append}
use Rattle.std.proofs.lemmas.List.Concat.{flat_map-append}
use Rattle.cp_model.specs.declared.record.Record.{Record}
use Rattle.cp_record.specs.Bytes.{record_bytes, records_bytes}
use Rattle.cp_engine.specs.Held.{AreKept, AreKeptBehind}
use Rattle.cp_engine.specs.declared.kept.StepRecords.{StepRecords}
use Rattle.cp_engine.specs.declared.kept.StepRecords.TheVariants.{Held, GivenUp}

-- records behind others add their bytes
bytes-append : (rs more : List Record) → length (records_bytes (rs ++ more)) ≡ length (records_bytes rs) + length (records_bytes more)
unfolding records_bytes
bytes-append rs more = ap length (flat_map-append record_bytes rs more) ∙ length-append (records_bytes rs) (records_bytes more)

-- where records were given up, those behind them are given up too
pub given-up-behind : (x : StepRecords) (more : List Record) → ((held : List Record) → x ≡ Held held → ⊥) → AreKeptBehind x x more
given-up-behind (Held held) more h = absurd (h held refl)
given-up-behind GivenUp more h = λ rs over. omega (arith, over, bytes-append rs more)

-- records that are held are all that are kept
pub held-kept : (x : StepRecords) (rs all : List Record) → x ≡ Held rs → AreKept x all → rs ≡ all
held-kept x rs all e h = (subst (λ y. AreKept y all) e h).0

-- an entry can hold no records
pub none-fit : length (records_bytes []) ≤ ENTRY_MAX
unfolding records_bytes
none-fit = omega arith

-- those that were given up take more bytes than an entry may have
pub given-up-kept : (x : StepRecords) (all : List Record) → x ≡ GivenUp → AreKept x all → ENTRY_MAX < length (records_bytes all)
given-up-kept x all e h = subst (λ y. AreKept y all) e h
