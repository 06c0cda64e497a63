-- What differs at and below the places that a step touched.
use Rattle.std.specs.Prelude.{◌≡◌, ◌+◌, ◌≤◌, Bool, List, [], ◌∷◌, ◌++◌, length, is_some, if◌then◌else◌}
use Rattle.std.proofs.Common.{T}
use Rattle.std.specs.List.{All, flat_map}
use Rattle.std.specs.FinMap.Entries.{is_sorted}
use Rattle.std.specs.declared.cmp.Ordering.TheVariants.{Less}
use Rattle.std.specs.declared.option.Option.TheVariants.{None, Some}
use Rattle.cp_path.specs.declared.limits.TheConstants.{LABELS_MAX, TEXT_MAX}
use Rattle.cp_model.specs.Place.{Path, path_cmp}
use Rattle.cp_model.specs.Keyed.{look}
use Rattle.cp_model.specs.Tree.{text_bytes}
use Rattle.cp_model.specs.declared.row.Row.{Row}
use Rattle.cp_tree.specs.Rows.{entries_in}
use Rattle.cp_archive.specs.Ranges.{is_content}
use Rattle.cp_archive.specs.declared.difference.Difference.{Difference}
use Rattle.cp_archive.specs.declared.touched.Touched.{Touched}

-- the row is within the limits where it lies, below the place
pub record FitsBelow (place : Path) (r : Row) : Type 0 where
  pub room : length place + length r.path ≤ LABELS_MAX
  pub text : text_bytes r.content ≤ TEXT_MAX

-- rows in order and within the limits
pub record CanDiffer (x : Touched) : Type 0 where
  pub before : T (is_sorted path_cmp (entries_in x.before))
  pub after : T (is_sorted path_cmp (entries_in x.after))
  pub old : All (FitsBelow x.place) x.before
  pub new : All (FitsBelow x.place) x.after

-- rows in order that have what all of them have at each path after p
pub record AreAfter (p : Path) (all left : List Row) : Type 0 where
  pub sorted : T (is_sorted path_cmp (entries_in left))
  pub same : (q : Path) → path_cmp p q ≡ Less → look q (entries_in left) ≡ look q (entries_in all)

-- the path of a row, unless it is still there
abbrev pub gone_at : Path → List Row → Row → List Difference
gone_at place after r = if is_some (look r.path (entries_in after)) then [] else record { path = place ++ r.path; content = None } ∷ []

-- the path and the content of a row, unless it was there with that content
abbrev pub begun_at : Path → List Row → Row → List Difference
begun_at place before r =
    if is_content (look r.path (entries_in before)) r.content then [] else record { path = place ++ r.path; content = Some r.content } ∷ []

-- all that differs at and below a place
abbrev pub differences_at : Touched → List Difference
differences_at x = flat_map (gone_at x.place x.after) x.before ++ flat_map (begun_at x.place x.before) x.after

-- there is a content
abbrev pub begins : Difference → Bool
begins d = is_some d.content
