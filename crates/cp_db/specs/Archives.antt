-- All versions of the history in a file.
use Rattle.std.specs.Prelude.{ℕ, ◌≡◌, ◌≤◌, ◌+◌, Bool, IsTrue, List, length, fold, Result, Ok, Err, ⊤}
use Rattle.std.specs.List.{flat_map}
use Rattle.std.specs.declared.option.Option.TheVariants.{None, Some}
use Rattle.cp_archive.specs.Histories.{AreVersions, trees_of_history}
use Rattle.cp_archive.specs.Trees.{newest}
use Rattle.cp_model.specs.Changes.{AreNext}
use Rattle.cp_model.specs.History.{State, replay, IsLegal}
use Rattle.cp_model.specs.History.{Entry as History}
use Rattle.cp_model.specs.Tree.{Tree}
use Rattle.cp_model.specs.declared.kind.Kind.{Kind}
use Rattle.cp_frame.specs.Items.{Item, after_item, entries_in, records_in}
use Rattle.cp_frame.specs.Stands.{IsTold, OpensAndReplays}
use Rattle.cp_frame.specs.Stops.{IsNot}
use Rattle.cp_db.specs.declared.archive.Kept.{Kept}
use Rattle.cp_db.specs.declared.limits.TheConstants.{TIDS_MAX}
use Rattle.cp_db.specs.declared.fault.OpenFault.{OpenFault}
use Rattle.cp_db.specs.declared.fault.OpenFault.TheVariants.{NoStore, Disk, Memory}

-- ---- item by item

-- versions that may go on in this kind, after this Tid, from this tree, which is the last; and records of steps up to there
pub record GoesOnFrom (kept : Kept) (kind : Kind) (last : ℕ) (t : Tree) : Type 0 where
  pub of_kind : kept.kind ≡ kind
  pub few : length kept.archive ≤ last + 1
  pub newest : newest kept.archive ≡ t
  pub next : AreNext 0 last kept.rows

-- versions of steps up to some Tid within the limit, and records of these steps, in order
pub record IsWithinTids (kept : Kept) : Type 0 where
  pub last : ℕ
  pub limit : last ≤ TIDS_MAX
  pub few : length kept.archive ≤ last + 1
  pub next : AreNext 0 last kept.rows

-- the kind, the versions and the records of the history that these items tell
pub record AreVersionsOf (items : List Item) (kept : Kept) : Type 0 where
  pub of_kind : (s : State) → fold after_item None items ≡ Some s → kept.kind ≡ s.kind
  pub trees : kept.archive ≡ trees_of_history (flat_map entries_in items)
  pub rows : kept.rows ≡ flat_map records_in items

-- ---- a file

-- the kind and the versions of the history, which is legal, and the records that these items hold; where they are right, they are the history's rows
pub record HasVersions (right : Bool) (h : List History) (items : List Item) (kept : Kept) : Type 0 where
  pub legal : IsLegal h
  pub state : State
  pub replayed : replay h ≡ Some state
  pub of_kind : kept.kind ≡ state.kind
  pub versions : AreVersions h state kept.archive
  pub stored : kept.rows ≡ flat_map records_in items
  pub rows : IsTrue right → kept.rows ≡ state.rows

-- all versions of the history that the file tells, with its records; of a file that doesn't open, or of which the walk over all frames tells none, the offset is told at which it stops
abbrev pub ArchivesAs : List ℕ → Result Kept OpenFault → Type 0
ArchivesAs c (Ok kept) = OpensAndReplays c × ((right : Bool) (h : List History) (told : IsTold right h c) → HasVersions right h told.items kept)
ArchivesAs c (Err (NoStore at)) = IsNot OpensAndReplays c at
ArchivesAs c (Err Disk) = ⊤
ArchivesAs c (Err Memory) = ⊤
