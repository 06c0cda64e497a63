-- How many bytes of a file an entry takes, and which entries there is room for.
use Rattle.std.specs.Prelude.{ℕ, ◌+◌, Bool, ◌&&◌, List, [], ◌∷◌, length, drop}
use Rattle.std.specs.declared.option.Option.{Option}
use Rattle.std.specs.declared.option.Option.TheVariants.{None, Some}
use lib.Dec.{leb}
use Rattle.cp_model.specs.Keyed.{entries}
use Rattle.cp_model.specs.Tree.{Tree}
use Rattle.cp_model.specs.History.{Entry, start, load, commit, State, after_commit, replay, then_entry}
use Rattle.cp_model.specs.declared.op.Op.{Op}
use Rattle.cp_model.specs.declared.record.Record.{Record}
use Rattle.cp_model.specs.declared.stamp.Stamp.{Stamp}
use Rattle.cp_record.specs.Bytes.{tree_length, commit_length}
use Rattle.cp_disk.specs.declared.limits.TheConstants.{DISK_MAX}
use Rattle.cp_journal.specs.declared.limits.TheConstants.{BODY_MAX, FRAME_HEAD}

-- the bytes of a start: the number of its form, the kind, the tree
abbrev pub start_size : Tree → ℕ
start_size t = 2 + tree_length (entries t)

-- the bytes of a load: the number of its form, the name after its length, the tree
abbrev pub load_size : List ℕ → Tree → ℕ
load_size n t = 2 + length n + tree_length (entries t)

-- the bytes of a commit with its stamp: nine and the curator's more than without one
abbrev pub stamped_size : Stamp → List Op → List Record → ℕ
stamped_size s ops rs = 9 + length s.curator + commit_length ops rs

-- the records of the last commit
abbrev pub new_rows : State → State → List Record
new_rows before after = drop (length before.rows) after.rows

-- the bytes of an entry after what a history leads to
abbrev pub entry_size : Option State → Entry → ℕ
entry_size o (start k t) = start_size t
entry_size o (load n t) = load_size n t
entry_size None (commit s ops) = 0
entry_size (Some x) (commit s ops) = stamped_size s ops (new_rows x (after_commit x ops))

-- where the frames end after these entries, if they ended here before
abbrev pub end_after : ℕ → Option State → List Entry → ℕ
end_after at o [] = at
end_after at o (e ∷ es) = end_after (at + FRAME_HEAD + entry_size o e) (then_entry o e) es

-- where the frames end after this history, in a file in which they ended here after its first entries
pub record FrameEnd : Type 0 where
  pub entries : List Entry
  pub at : ℕ

abbrev pub end_of : FrameEnd → List Entry → ℕ
end_of f h = end_after f.at (replay f.entries) (drop (length f.entries) h)

-- an entry of so many bytes is within its limit, and the file with it, whose frames end here, within that of files
abbrev pub has_room : ℕ → ℕ → Bool
has_room at size = leb size BODY_MAX && leb (at + FRAME_HEAD + size + 1) DISK_MAX
