-- Entries of a store's history as bytes.
use Rattle.std.specs.Prelude.{ℕ, ◌+◌, ◌^◌, ◌≡◌, ◌≤◌, ◌<◌, ◌==◌, Bool, true, false, List, [], ◌∷◌, ◌++◌, length, map, nat_eq, if◌then◌else◌}
use Rattle.std.specs.List.{AllByRecursion, common_prefix_len, flat_map}
use Rattle.std.specs.Int.{to_be_bytes, w32, w64}
use Rattle.std.specs.declared.option.Option.{Option}
use Rattle.std.specs.declared.option.Option.TheVariants.{None, Some}
use Rattle.cp_path.specs.Encoding.{counted_bytes}
use Rattle.cp_model.specs.declared.kind.Kind.{Kind}
use Rattle.cp_model.specs.declared.kind.Kind.TheVariants as kind
use Rattle.cp_model.specs.declared.limits.TheConstants.{OPS_MAX}
use Rattle.cp_model.specs.declared.op.Op.{Op}
use Rattle.cp_model.specs.declared.record.Record.{Record}
use Rattle.cp_model.specs.declared.stamp.Stamp.{Stamp}
use Rattle.cp_model.specs.Literals.{literal_rows}
use Rattle.cp_model.specs.Place.{Path, label_eq}
use Rattle.cp_record.specs.Bytes.{record_bytes}
use Rattle.cp_record.specs.Kept.{IsLabel, IsName, IsPackable}
use Rattle.cp_model.specs.Changes.{goes_before}
use Rattle.cp_format.specs.Formats.{Check, Format, moved}
use Rattle.cp_format.specs.Spelled.{IsSpelled}
use Rattle.cp_frame.specs.Trees.{Written, HasParts, decided_at, rows_of, tree_bytes, tree_checks}
use Rattle.cp_frame.specs.Rooms.{FitsIn, whole_room}
use Rattle.cp_frame.specs.Operations.{WrittenOp, IsAllowed, IsFit, IsWellFormed, op_of, ops_checks, written_bytes}
use Rattle.cp_frame.specs.declared.entry.Entry.{Entry}
use Rattle.cp_frame.specs.declared.entry.Entry.TheVariants as entry

-- ---- kinds

-- the number of a kind
abbrev pub kind_number : Kind → ℕ
kind_number kind.N = 0
kind_number kind.T = 1
kind_number kind.H = 2
kind_number kind.HT = 3

-- ---- records in order

-- the record comes after the one before, if there is one
abbrev pub follows : Option Record → Record → Bool
follows None r = true
follows (Some q) r = goes_before q r

-- the byte that decides how labels, each after its length, stand to others: that of the first which isn't the same there, or else of the last
abbrev pub labels_decided_at : Path → Path → ℕ
labels_decided_at [] s = 0
labels_decided_at (b ∷ p) [] = 0
labels_decided_at (b ∷ p) (a ∷ []) = decided_at b a
labels_decided_at (b ∷ p) (a ∷ c ∷ s) = if label_eq b a then length (counted_bytes a) + labels_decided_at p (c ∷ s) else decided_at b a

-- the same of a path: the number of its labels decides where it has none
abbrev pub path_decided_at : Path → Path → ℕ
path_decided_at p [] = 0
path_decided_at p (a ∷ s) = 1 + labels_decided_at p (a ∷ s)

-- the byte of a record that decides how it stands to another: the first at which their Tids differ, or else one of its path, which
-- stands after the Tid and the letter
abbrev pub record_decided_at : Record → Record → ℕ
record_decided_at q r = if q.tid == r.tid then 9 + path_decided_at q.loc.path r.loc.path else common_prefix_len nat_eq (to_be_bytes w64 q.tid) (to_be_bytes w64 r.tid)

-- the byte at which a record is judged after the one before; after none it is as good as judged
abbrev pub record_judged_at : Option Record → Record → ℕ
record_judged_at None r = 0
record_judged_at (Some q) r = record_decided_at q r

-- by Tid and then by place each record has to come after the one before, and is judged at the byte that decides
abbrev pub record_checks : Option Record → List Record → List Check
record_checks elder [] = []
record_checks elder (r ∷ rs) = record { last = record_judged_at elder r; holds = follows elder r } ∷ moved (length (record_bytes r)) (record_checks (Some r) rs)

-- so many records, after this one
abbrev pub records_format_of : Option Record → ℕ → Format (List Record)
records_format_of elder n = record {
  fit = λ rs. AllByRecursion IsSpelled rs × (length rs ≡ n);
  bytes = λ rs. flat_map record_bytes rs;
  checks = λ rs. record_checks elder rs;
}

-- ---- commits

-- operations and records
pub record Batch : Type 0 where
  pub ops : List WrittenOp
  pub records : List Record

-- the number of operations and these, in front of the records
abbrev pub ops_bytes : List WrittenOp → List ℕ
ops_bytes ws = to_be_bytes w32 (length ws) ++ flat_map written_bytes ws

-- the number of records and these
abbrev pub counted_records : List Record → List ℕ
counted_records rs = to_be_bytes w32 (length rs) ++ flat_map record_bytes rs

-- the bytes of a batch
abbrev pub batch_bytes : Batch → List ℕ
batch_bytes b = ops_bytes b.ops ++ counted_records b.records

-- the checks of a batch
abbrev pub batch_checks : Batch → List Check
batch_checks b = moved 4 (ops_checks b.ops) ++ moved (length (ops_bytes b.ops) + 4) (record_checks None b.records)

-- operations, one at least and no more than a commit may have, and records
pub record IsBatch (trees : Bool) (b : Batch) : Type 0 where
  pub some : 1 ≤ length b.ops
  pub few : length b.ops ≤ OPS_MAX
  pub ops : AllByRecursion (λ w. IsFit w × IsAllowed trees w) b.ops
  pub records : AllByRecursion IsSpelled b.records
  pub counted : length b.records < 2 ^ 32

-- a batch; with insertions of trees only where they are allowed
abbrev pub batch_format : Bool → Format Batch
batch_format trees = record { fit = λ b. IsBatch trees b; bytes = λ b. batch_bytes b; checks = λ b. batch_checks b }

-- ---- entries

-- an entry as it is written
pub data WrittenEntry : Type 0 where
  start : Kind → Written → WrittenEntry
  load : List ℕ → Written → WrittenEntry
  commit : Batch → WrittenEntry
  stamped : Stamp → Batch → WrittenEntry

-- the number of its form
abbrev pub entry_form : WrittenEntry → ℕ
entry_form (start k t) = 1
entry_form (load n t) = 2
entry_form (commit b) = 3
entry_form (stamped s b) = 4

-- the curator after the length of the label, and the moment in eight bytes
abbrev pub stamp_bytes : Stamp → List ℕ
stamp_bytes s = counted_bytes s.curator ++ to_be_bytes w64 s.moment

-- what follows the number of the form
abbrev pub entry_rest : WrittenEntry → List ℕ
entry_rest (start k t) = kind_number k ∷ tree_bytes t
entry_rest (load n t) = counted_bytes n ++ tree_bytes t
entry_rest (commit b) = batch_bytes b
entry_rest (stamped s b) = stamp_bytes s ++ batch_bytes b

-- the checks of what follows the number of the form
abbrev pub rest_checks : WrittenEntry → List Check
rest_checks (start k t) = moved 1 (tree_checks t)
rest_checks (load n t) = moved (length (counted_bytes n)) (tree_checks t)
rest_checks (commit b) = batch_checks b
rest_checks (stamped s b) = moved (length (stamp_bytes s)) (batch_checks b)

-- the number of the form, and what follows it
abbrev pub written_entry : WrittenEntry → List ℕ
written_entry w = entry_form w ∷ entry_rest w

-- a label, and a moment of eight bytes
abbrev pub IsStamp : Stamp → Type 0
IsStamp s = IsLabel s.curator × (s.moment < 2 ^ 64)

-- the trees are within the limits of trees and of places with their name, T's having one byte; a commit without a stamp
-- has no insertion of a tree
abbrev pub IsFitEntry : WrittenEntry → Type 0
IsFitEntry (start k t) = FitsIn (whole_room 1) t
IsFitEntry (load n t) = IsName n × FitsIn (whole_room (length n)) t
IsFitEntry (commit b) = IsBatch false b
IsFitEntry (stamped s b) = IsStamp s × IsBatch true b

-- an entry
abbrev pub entry_format : Format WrittenEntry
entry_format = record { fit = λ w. IsFitEntry w; bytes = λ w. written_entry w; checks = λ w. moved 1 (rest_checks w) }

-- the operations and the records are written so
pub record IsBatchOf (b : Batch) (os : List Op) (rs : List Record) : Type 0 where
  pub ops : map op_of b.ops ≡ os
  pub records : b.records ≡ rs

-- the operations are well formed, and the records can be kept as bytes
abbrev pub IsWellFormedBatch : Batch → Type 0
IsWellFormedBatch b = AllByRecursion IsWellFormed b.ops × AllByRecursion IsPackable b.records

-- its name, its stamp and its tree have their parts, or its operations and its records do
abbrev pub IsWellFormedEntry : WrittenEntry → Type 0
IsWellFormedEntry (start k t) = HasParts t
IsWellFormedEntry (load n t) = IsName n × HasParts t
IsWellFormedEntry (commit b) = IsWellFormedBatch b
IsWellFormedEntry (stamped s b) = IsStamp s × IsWellFormedBatch b

-- the entry is written so
abbrev pub IsEntry : Entry → WrittenEntry → Type 0
IsEntry (entry.Start k l) (start j t) = (j ≡ k) × (rows_of t ≡ literal_rows l)
IsEntry (entry.Load n l) (load m t) = (m ≡ n) × (rows_of t ≡ literal_rows l)
IsEntry (entry.Commit os rs) (commit b) = IsBatchOf b os rs
IsEntry (entry.Stamped s os rs) (stamped r b) = (r ≡ s) × IsBatchOf b os rs
IsEntry _ _ = ⊥
