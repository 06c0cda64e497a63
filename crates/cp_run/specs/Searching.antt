-- The search for the page of a run in which a key would stand.
use Rattle.std.specs.Prelude.{ℕ, suc, ◌≡◌, ◌≤◌, ◌<◌, ◌+◌, ◌*◌, ◌^◌, Bool, true, false, List}
use Rattle.std.specs.Ordering.{is_le}
use Rattle.std.specs.declared.option.Option.{Option}
use Rattle.std.specs.declared.option.Option.TheVariants.{None, Some}
use Rattle.cp_path.specs.Text.{text_cmp}
use Rattle.cp_page.specs.Keys.{first_key}
use Rattle.cp_page.specs.declared.page.TheConstants.{PAGE_SIZE}
use Rattle.cp_run.specs.Holding.{page_at}
use Rattle.cp_run.specs.declared.run.Run.{Run}

-- a page begins with a key that isn't above this one: none does that has no row, or not the key of its first
abbrev pub is_by : List ℕ → Option (Option (List ℕ)) → Bool
is_by key None = false
is_by key (Some None) = false
is_by key (Some (Some k)) = is_le (text_cmp k key)

-- the page of this number in a run does
abbrev pub begins_by : List ℕ → Run → ℕ → List ℕ → Bool
begins_by content run i key = is_by key (first_key (page_at content (run.at + i * PAGE_SIZE)))

-- the page before this number, if there is one, begins with a key that isn't above, and the page of that number, if there is
-- one, doesn't
pub record IsSplit (content : List ℕ) (run : Run) (key : List ℕ) (low high : ℕ) : Type 0 where
  pub before : (i : ℕ) → low ≡ suc i → begins_by content run i key ≡ true
  pub after : high < run.pages → begins_by content run high key ≡ false

-- a number of looks is at most the logarithm of k, rounded up, and so many more
abbrev pub IsWithinLog : ℕ → ℕ → ℕ → Type 0
IsWithinLog more k looks = (n : ℕ) → k ≤ 2 ^ n → looks ≤ more + n
