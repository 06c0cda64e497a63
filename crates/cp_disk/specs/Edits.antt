-- The edits that a disk in memory keeps, as calls, and what they make of the bytes of a file.
use Rattle.std.specs.Prelude.{ℕ, min, Bool, true, false, List, [], ◌∷◌, length, take, None, Some}
use Rattle.std.specs.declared.option.Option.{Option}
use Rattle.std.specs.List.{flat_map, fold}
use Rattle.std.proofs.Math.ListN.{replicate}
use Rattle.cp_disk.specs.Images.{DiskCall, writes, cuts, syncs}
use Rattle.cp_disk.specs.Writes.{with_bytes}
use Rattle.cp_disk.specs.declared.edit.Edit.{Edit}
use Rattle.cp_disk.specs.declared.edit.Edit.TheVariants.{Write, Cut}
use Rattle.cp_disk.specs.declared.edit.LoggedEdit.{LoggedEdit}

-- The call that made an edit.
abbrev pub call_of : Edit → DiskCall
call_of (Write at bytes) = writes at bytes.items
call_of (Cut size) = cuts size

-- A sync, where one came.
abbrev pub sync_of : Bool → List DiskCall
sync_of true = syncs ∷ []
sync_of false = []

-- The calls that made these edits, with the syncs that came after them.
abbrev pub calls_of : List LoggedEdit → List DiskCall
calls_of log = flat_map (λ e. call_of e.edit ∷ sync_of e.synced) log

-- None of these calls is a sync.
abbrev pub HasNoSync : List DiskCall → Type 0
HasNoSync [] = Unit {0}
HasNoSync (writes at bytes ∷ calls) = HasNoSync calls
HasNoSync (cuts size ∷ calls) = HasNoSync calls
HasNoSync (syncs ∷ calls) = ⊥

-- The bytes of a write, or as many times the byte that is given.
abbrev pub shown_bytes : Option ℕ → List ℕ → List ℕ
shown_bytes None bytes = bytes
shown_bytes (Some byte) bytes = replicate (length bytes) byte

-- The bytes of a file after a call, where each write writes its own bytes, or the byte that is given.
abbrev pub bytes_after : Option ℕ → List ℕ → DiskCall → List ℕ
bytes_after fill file (writes at bytes) = with_bytes file (min at (length file)) (shown_bytes fill bytes)
bytes_after fill file (cuts size) = take size file
bytes_after fill file syncs = file

-- The same after all of these calls.
unfoldable pub bytes_after_all : Option ℕ → List ℕ → List DiskCall → List ℕ
bytes_after_all fill file calls = fold (bytes_after fill) file calls
