-- What look-ups in rows answer.
use Rattle.std.specs.Prelude.{ℕ, ◌≡◌, true, false, List, if◌then◌else◌, Contains, IsPermutation, IsSortedByKey}
use Rattle.std.specs.Ordering.{is_le, is_lt}
use Rattle.std.specs.declared.option.Option.{Option}
use Rattle.std.specs.declared.option.Option.TheVariants.{None, Some}
use Rattle.cp_path.specs.Text.{text_cmp}
use Rattle.cp_page.specs.Ranges.{rows_between}
use Rattle.cp_page.specs.declared.row.PageRow.{PageRow}

-- of these rows, one with the greatest key that isn't above this one; none where all are above
abbrev pub IsGreatest : List ℕ → List PageRow → Option PageRow → Type 0
IsGreatest key rows None = (r : PageRow) → Contains rows r → is_le (text_cmp r.key key) ≡ false
IsGreatest key rows (Some f) = Contains rows f × (is_le (text_cmp f.key key) ≡ true)
    × ((r : PageRow) → Contains rows r → is_le (text_cmp r.key key) ≡ true → is_le (text_cmp r.key f.key) ≡ true)

-- the row with the later key; of equal keys the first
abbrev pub later : Option PageRow → Option PageRow → Option PageRow
later None f = f
later (Some b) None = Some b
later (Some b) (Some f) = if is_lt (text_cmp b.key f.key) then Some f else Some b

-- of these rows all whose keys are from the first to the second, each as often as it is there, in order of keys
pub record IsBetween (low high : List ℕ) (rows found : List PageRow) : Type 0 where
  pub same : IsPermutation (rows_between low high rows) found
  pub sorted : IsSortedByKey (λ r. r.key) text_cmp found
