-- Files that are no stores yet, and the file of a new store.
use Rattle.std.specs.Prelude.{ℕ, ◌≡◌, ◌≤◌, ◌⊎◌, List, [], ◌∷◌, ◌++◌, length, take, drop, get_or}
use Rattle.std.proofs.Math.ListN.{replicate}
use Rattle.cp_disk.specs.Views.{View, ViewRests}
use Rattle.cp_journal.specs.Frames.{Frame, spelled}
use Rattle.cp_journal.specs.Holding.{Stands}

-- `CPDB` and the number of the format.
abbrev pub magic : List ℕ
magic = 67 ∷ 80 ∷ 68 ∷ 66 ∷ 1 ∷ []

-- The header of a new store after its gate: the magic, the version, and zeros, so that both slots are closed.
abbrev pub header_rest : List ℕ
header_rest = magic ++ 1 ∷ replicate 185 0

-- The header of a new store.
abbrev pub header : List ℕ
header = 1 ∷ header_rest

-- The file of a new store: its header, its first frame and a closed gate.
abbrev pub new_file : Frame → List ℕ
new_file f = header ++ spelled f ++ 0 ∷ []

-- A file that begins so holds no store: its first byte is 00, or it isn't 01 and the magic comes next.
abbrev pub HasNoStore : List ℕ → Type 0
HasNoStore c = (get_or c 0 0 ≡ 0) ⊎ ((get_or c 0 0 ≡ 1 → ⊥) × (take 5 (drop 1 c) ≡ magic))

-- The file is vacant: it has one byte at most, or begins as one that holds no store.
abbrev pub IsVacant : List ℕ → Type 0
IsVacant c = (length c ≤ 1) ⊎ HasNoStore c

-- The file is vacant, and stays so as long as its first bytes, 1 or 6 of them, stay.
abbrev pub StaysVacant : ℕ → List ℕ → Type 0
StaysVacant start c = ((start ≡ 1) × (1 ≤ length c) × (get_or c 0 0 ≡ 0)) ⊎ ((start ≡ 6) × (6 ≤ length c) × (get_or c 0 0 ≡ 1 → ⊥) × (take 5 (drop 1 c) ≡ magic))

-- Since some moment, no earlier than v's, each file that a crash may have left has this property.
pub record HasSettled (Property : List ℕ → Type 0) (v w : View) : Type 0 where
  pub moment : ℕ
  pub later : v.moment ≤ moment
  pub passed : moment ≤ w.moment
  pub only : (c : List ℕ) → w.since moment c → Property c

-- Nothing has changed; or since some moment a crash leaves files with this property alone.
abbrev pub SettlesInto : (List ℕ → Type 0) → View → View → Type 0
SettlesInto Property v w = ViewRests v w ⊎ HasSettled Property v w

-- The file is vacant, or a store with this one frame.
abbrev pub IsVacantOrNew : Frame → List ℕ → Type 0
IsVacantOrNew f c = IsVacant c ⊎ Stands header (f ∷ []) c

-- A crash of this disk may have left the file, or it is vacant.
abbrev pub IsOldOrVacant : View → List ℕ → Type 0
IsOldOrVacant v c = v.images c ⊎ IsVacant c

-- A crash of this disk may have left the file, or it is vacant, or it is a store with this one frame.
abbrev pub IsOldOrVacantOrNew : View → Frame → List ℕ → Type 0
IsOldOrVacantOrNew v f c = v.images c ⊎ (IsVacant c ⊎ Stands header (f ∷ []) c)
