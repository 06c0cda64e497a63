-- The header of a store.
use Rattle.std.specs.Prelude.{ℕ, ◌≡◌, ◌≤◌, ◌==◌, if◌then◌else◌, None, Some, List, length, take, drop, get_or}
use Rattle.std.specs.Int.{w64, from_be_bytes}
use Rattle.std.specs.declared.option.Option.{Option}
use Rattle.std.proofs.Math.ListN.{replicate}
use Rattle.cp_journal.specs.NewStores.{magic}
use Rattle.cp_journal.specs.declared.header.Header.{Header}
use Rattle.cp_journal.specs.declared.header.Slot.{Slot}
use Rattle.cp_journal.specs.declared.limits.TheConstants.{HEADER_SIZE, VERSION_AT}

-- What stands after the gate of a slot: its number and the offset of a checkpoint.
abbrev pub numbers_in : List ℕ → Slot
numbers_in bytes = record { seq = from_be_bytes w64 (take 8 (drop 1 bytes)); at = from_be_bytes w64 (take 8 (drop 9 bytes)) }

-- The slot in these bytes, if its gate is open.
abbrev pub slot_in : List ℕ → Option Slot
slot_in bytes = if get_or bytes 0 0 == 1 then Some (numbers_in bytes) else None

-- A slot that is open ends with zeros; one that is closed may hold any bytes.
abbrev pub IsSlot : List ℕ → Type 0
IsSlot bytes = get_or bytes 0 0 ≡ 1 → take 47 (drop 17 bytes) ≡ replicate 47 0

-- What a header says: its version, which is 2 where its gate is open and else 1, and its two slots.
abbrev pub header_in : List ℕ → Header
header_in bytes = record {
  version = if get_or bytes VERSION_AT 0 == 1 then 2 else 1;
  first = slot_in (take 64 (drop 64 bytes));
  second = slot_in (take 64 (drop 128 bytes));
}

-- Before the slots the gate is open, then comes the magic, and after the version come zeros.
pub record IsFront (bytes : List ℕ) : Type 0 where
  pub gate : get_or bytes 0 0 ≡ 1
  pub magic : take 5 (drop 1 bytes) ≡ magic
  pub zeros : take 57 (drop 7 bytes) ≡ replicate 57 0

-- Two open slots have different numbers.
abbrev pub HasOwnNumbers : Header → Type 0
HasOwnNumbers h = (a b : Slot) → h.first ≡ Some a → h.second ≡ Some b → a.seq ≡ b.seq → ⊥

-- These bytes are the header of a store.
pub record IsHeader (bytes : List ℕ) : Type 0 where
  pub front : IsFront bytes
  pub first : IsSlot (take 64 (drop 64 bytes))
  pub second : IsSlot (take 64 (drop 128 bytes))
  pub numbers : HasOwnNumbers (header_in bytes)

-- The file begins with the header of a store.
abbrev pub HasHeader : List ℕ → Type 0
HasHeader c = (HEADER_SIZE ≤ length c) × IsHeader (take HEADER_SIZE c)
