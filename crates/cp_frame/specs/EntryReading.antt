-- What the reading and the writing of entries rest on.
use Rattle.std.specs.Prelude.{ℕ, ◌^◌, ◌≡◌, ◌<◌, Bool, List, [], ◌∷◌, length, ⊤}
use Rattle.std.specs.List.{AllByRecursion}
use Rattle.std.specs.declared.option.Option.{Option}
use Rattle.std.specs.declared.option.Option.TheVariants.{None}
use Rattle.cp_model.specs.declared.kind.Kind.{Kind}
use Rattle.cp_model.specs.declared.op.Op.{Op}
use Rattle.cp_model.specs.declared.record.Record.{Record}
use Rattle.cp_model.specs.declared.stamp.Stamp.{Stamp}
use Rattle.cp_record.specs.Bytes.{record_bytes}
use Rattle.cp_format.specs.Formats.{Format, ReadsAt, moved, unchecked}
use Rattle.cp_format.specs.Spelled.{IsSpelled}
use Rattle.cp_frame.specs.Entries.{Batch, IsBatchOf, IsEntry, WrittenEntry, IsFitEntry, IsStamp, batch_format, counted_records, entry_form, entry_rest, follows, kind_number, record_checks, record_judged_at, rest_checks, stamp_bytes}
use Rattle.cp_frame.specs.declared.entry.Entry.{Entry}

-- the byte of a kind
abbrev pub kind_format : Format Kind
kind_format = record { fit = λ k. ⊤; bytes = λ k. kind_number k ∷ []; checks = unchecked }

-- a record, after this one
abbrev pub next_record_format : Option Record → Format Record
next_record_format elder = record {
  fit = λ r. IsSpelled r;
  bytes = λ r. record_bytes r;
  checks = λ r. record { last = record_judged_at elder r; holds = follows elder r } ∷ [];
}

-- the number of records, and these
abbrev pub counted_records_format : Format (List Record)
counted_records_format = record {
  fit = λ rs. AllByRecursion IsSpelled rs × (length rs < 2 ^ 32);
  bytes = λ rs. counted_records rs;
  checks = λ rs. moved 4 (record_checks None rs);
}

-- a curator and a moment
abbrev pub stamp_format : Format Stamp
stamp_format = record { fit = λ s. IsStamp s; bytes = λ s. stamp_bytes s; checks = unchecked }

-- these operations and records were read as a batch
pub record HasReadBatch (trees : Bool) (bytes : List ℕ) (at : ℕ) (os : List Op) (rs : List Record) (next : ℕ) : Type 0 where
  pub batch : Batch
  pub reads : ReadsAt (batch_format trees) bytes at batch next
  pub is : IsBatchOf batch os rs

-- what follows this number of a form in an entry
abbrev pub entry_behind : ℕ → Format WrittenEntry
entry_behind k = record { fit = λ w. IsFitEntry w × (entry_form w ≡ k); bytes = λ w. entry_rest w; checks = λ w. rest_checks w }

-- this entry was read behind the number of its form
pub record HasReadEntry (form : ℕ) (bytes : List ℕ) (at : ℕ) (e : Entry) (next : ℕ) : Type 0 where
  pub written : WrittenEntry
  pub reads : ReadsAt (entry_behind form) bytes at written next
  pub is : IsEntry e written
