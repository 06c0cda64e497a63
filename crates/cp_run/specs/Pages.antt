-- Pages of a file that are kept.
use Rattle.std.specs.Prelude.{ℕ, ◌≡◌, ◌≤◌, ◌+◌, List, length}
use Rattle.std.specs.List.{AllByRecursion}
use Rattle.cp_disk.specs.Views.{KnownDisk, IfKnown}
use Rattle.cp_page.specs.declared.page.Page.{Page}
use Rattle.cp_page.specs.declared.page.TheConstants.{PAGE_SIZE}
use Rattle.cp_run.specs.Holding.{page_at}

-- the page is that of the file at this offset, where it lies whole in the file
pub record IsPageAt (content : List ℕ) (at : ℕ) (page : Page) : Type 0 where
  pub bytes : page.bytes ≡ page_at content at
  pub within : at + PAGE_SIZE ≤ length content

-- the pages are those of the file at their offsets
abbrev pub ArePagesOf : List ℕ → List (ℕ × Page) → Type 0
ArePagesOf content pages = AllByRecursion (λ e. IsPageAt content e.0 e.1) pages

-- from d to e, pages that are kept stay the disk's: where the old ones are those of its file, so are the new ones
abbrev pub KeepsPages : KnownDisk → KnownDisk → List (ℕ × Page) → List (ℕ × Page) → Type 0
KeepsPages d e old new = IfKnown d (λ v. ArePagesOf v.content old → ArePagesOf e.view.content new)
