-- Rows that are looked up by their keys.
use Rattle.std.specs.Prelude.{ℕ, ◌≡◌, ◌<◌, ◌≤◌, ◌^◌, ◌++◌, ◌∷◌, [], List}
use Rattle.std.specs.List.{AllByRecursion}
use Rattle.cp_path.specs.declared.loc.Loc.{Loc}
use Rattle.cp_model.specs.declared.kind.Kind.{Kind}
use Rattle.cp_model.specs.declared.record.Record.{Record}
use Rattle.cp_page.specs.Orders.{place_tid}
use Rattle.cp_page.specs.declared.row.PageRow.{PageRow}
use Rattle.cp_paged.specs.Held.{PagesHold}

-- the rows that are there are those of these records
pub record KeepsByKey (has_rows : (ℕ → List PageRow) → Type 0) (k : Kind) (upto : ℕ) (rs : List Record) : Type 0 where
  pub stored : ℕ → List PageRow
  pub has : has_rows stored
  pub hold : PagesHold k upto stored rs

-- so they are, of steps up to some one
abbrev pub HasRecords : ((ℕ → List PageRow) → Type 0) → Kind → List Record → Type 0
HasRecords has_rows k rs = (upto : ℕ) × KeepsByKey has_rows k upto rs

-- the key isn't that of the place and a Tid
abbrev pub IsOther : Loc → List ℕ → Type 0
IsOther q key = (t : ℕ) → t < 2 ^ 64 → key ≡ place_tid q t → ⊥

-- the key of the row is that of the place and a Tid after low up to high
pub record IsTidAt (q : Loc) (low high : ℕ) (row : PageRow) : Type 0 where
  pub tid : ℕ
  pub small : tid < 2 ^ 64
  pub key : row.key ≡ place_tid q tid
  pub after : low < tid
  pub upto : tid ≤ high

-- so is that of each row
abbrev pub AreTidsAt : Loc → ℕ → ℕ → List PageRow → Type 0
AreTidsAt q low high rows = AllByRecursion (IsTidAt q low high) rows

-- one Tid more, with which the key is that of the place
pub record IsOneMore (q : Loc) (key : List ℕ) (old new : List ℕ) : Type 0 where
  pub tid : ℕ
  pub key_is : key ≡ place_tid q tid
  pub new_is : new ≡ old ++ tid ∷ []
