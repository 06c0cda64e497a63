-- The version of a store's file, and what calls leave of it.
use Rattle.std.specs.Prelude.{ℕ, ◌≡◌, ◌≤◌, ◌⊎◌, List}
use Rattle.cp_disk.specs.Views.{View, KnownDisk, IfKnown, ViewLeaves}
use Rattle.cp_journal.specs.NewStores.{IsVacant}
use Rattle.cp_frame.specs.Stands.{header_of}

-- the version that the header says with which a file begins
abbrev pub file_version : List ℕ → ℕ
file_version c = (header_of c).version

-- the version that new files have
abbrev pub newest_version : ℕ
newest_version = 2

-- the file is of this version
abbrev pub HasVersion : ℕ → List ℕ → Type 0
HasVersion n c = file_version c ≡ n

-- the file is vacant, or of the newest version
abbrev pub IsVacantOrNewest : List ℕ → Type 0
IsVacantOrNewest c = IsVacant c ⊎ HasVersion newest_version c

-- the file is of this version, or of the newest
abbrev pub HasVersionOrNewest : ℕ → List ℕ → Type 0
HasVersionOrNewest n c = HasVersion n c ⊎ HasVersion newest_version c

-- ---- of what a disk holds

-- the content is of this version, and so is each file that a crash leaves
pub record HasFileVersion (n : ℕ) (v : View) : Type 0 where
  pub content : HasVersion n v.content
  pub images : (c : List ℕ) → v.images c → HasVersion n c

-- From v to w: the content has this property, and each file that a crash may have left has it too, or is one that it could leave at v.
pub record LeavesFiles (Property : List ℕ → Type 0) (v w : View) : Type 0 where
  pub content : Property w.content
  pub later : v.moment ≤ w.moment
  pub since : ViewLeaves Property v w
  pub now : (c : List ℕ) → w.images c → v.images c ⊎ Property c

-- from v to w the file keeps its version
abbrev pub KeepsFileVersion : View → View → Type 0
KeepsFileVersion v w = LeavesFiles (HasVersion (file_version v.content)) v w

-- ---- of disks of which it may not be known what they hold

-- the file is of this version
abbrev pub IsAtVersion : ℕ → KnownDisk → Type 0
IsAtVersion n d = IfKnown d (HasFileVersion n)

-- from d to e the file keeps its version
abbrev pub KeepsVersion : KnownDisk → KnownDisk → Type 0
KeepsVersion d e = IfKnown d (λ v. KeepsFileVersion v e.view)
