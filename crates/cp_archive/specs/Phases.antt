-- The trees of all versions, by the phases of each path.
use Rattle.std.specs.Prelude.{ℕ, zero, suc, ◌≡◌, ◌≤◌, List, [], ◌∷◌, ◌++◌, fold, nat_lt, if◌then◌else◌}
use Rattle.std.specs.List.{filter_map, AllByRecursion}
use Rattle.std.specs.Global.{Vec}
use Rattle.std.specs.BTreeMap.{BTreeMap}
use Rattle.std.specs.Option.{option_map, unwrap_or}
use Rattle.std.specs.declared.option.Option.{Option}
use Rattle.std.specs.declared.option.Option.TheVariants.{None, Some}
use Rattle.cp_model.specs.Place.{Path}
use Rattle.cp_model.specs.Keyed as keyed
use Rattle.cp_model.specs.Tree.{Tree, IsTree}
use Rattle.cp_model.specs.declared.row.Content.{Content}
use Rattle.cp_model.specs.declared.row.Row.{Row}
use Rattle.cp_tree.specs.Rows.{entry_row}
use Rattle.cp_archive.specs.declared.phase.Phase.{Phase}
use Rattle.cp_archive.specs.Ranges.{range_count}

-- the phases of each path
abbrev pub Paths : Type 0
Paths = BTreeMap Path (Vec Phase)

-- after one phase more, if it has begun in version t
abbrev pub then_phase : ℕ → Option Content → Phase → Option Content
then_phase t o x = if nat_lt t x.since then o else x.content

-- what the newest phase up to version t says
unfoldable pub content_at : List Phase → ℕ → Option Content
content_at xs t = fold (then_phase t) None xs

-- the phases of a path, and none where it was never there
unfoldable pub phases_of : Paths → Path → List Phase
phases_of m p = unwrap_or (option_map (λ v. v.items) (keyed.look p m.entries)) []

-- the content of a path in version t
abbrev pub content_of : Paths → ℕ → Path → Option Content
content_of m t p = content_at (phases_of m p) t

-- the tree of version t
unfoldable pub tree_of_version : Paths → ℕ → Tree
tree_of_version m t = keyed.from_entries (filter_map (λ e. option_map (λ c. (e.0, c)) (content_of m t e.0)) m.entries)

-- the trees of the versions from 0 to n
abbrev pub versions : Paths → ℕ → List Tree
versions m zero = tree_of_version m 0 ∷ []
versions m (suc n) = versions m n ++ tree_of_version m (suc n) ∷ []

-- the row of a path with this content, if there is one
abbrev pub row_of : Path → Option Content → List Row
row_of p None = []
row_of p (Some c) = entry_row (p, c) ∷ []

-- each phase is of the version of the one before it or of a later one
abbrev pub IsRising : List Phase → Type 0
IsRising [] = Unit {0}
IsRising (x ∷ xs) = AllByRecursion (λ y. x.since ≤ y.since) xs × IsRising xs

-- no phase is of a version after n
abbrev pub IsUpto : ℕ → List Phase → Type 0
IsUpto n xs = AllByRecursion (λ x. x.since ≤ n) xs

-- the phases of each path are of rising versions up to n, the ranges are counted, and each tree is within the limits
pub record IsKept (m : Paths) (n ranges : ℕ) : Type 0 where
  pub rise : (p : Path) → IsRising (phases_of m p)
  pub upto : (p : Path) → IsUpto n (phases_of m p)
  pub counted : ranges ≡ range_count (versions m n)
  pub trees : AllByRecursion IsTree (versions m n)
