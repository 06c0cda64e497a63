-- Working trees, whose places carry where they came from, and the operations of one step.
use Rattle.std.specs.Prelude.{ℕ, ◌+◌, Bool, true, false, List, fold}
use Rattle.std.specs.declared.option.Option.{Option}
use Rattle.std.specs.declared.option.Option.TheVariants.{None, Some}
use Rattle.cp_model.specs.Place.{Path, at_target, in_target, child, below_place}
use Rattle.cp_model.specs.Keyed.{Keyed}
use Rattle.cp_model.specs.Subtrees.{below, without, with_subtree, with_values, map_values}
use Rattle.cp_model.specs.Literals.{literal_rows}
use Rattle.cp_model.specs.Tree.{Tree, Source, source, subtree_at, refusal}
use Rattle.cp_path.specs.declared.loc.Loc.{Loc}
use Rattle.cp_model.specs.declared.row.Content.{Content}
use Rattle.cp_model.specs.declared.op.Op.{Op}
use Rattle.cp_model.specs.declared.op.Op.TheVariants.{Ins, Del, Copy}
use Rattle.cp_model.specs.declared.refusal.Refusal.{Refusal}
pub use Rattle.cp_model.specs.declared.origin.Origin.{Origin}
pub use Rattle.cp_model.specs.declared.origin.Origin.TheVariants.{New as new, Was as was}

-- what a place of a working tree carries
pub record Worked : Type 0 where
  pub content : Content
  pub origin : Origin

-- a working tree maps its paths to contents and origins
abbrev pub Working : Type 0
Working = Keyed Worked

-- the contents of a working tree
abbrev pub contents : Working → Tree
contents w = map_values (λ _ x. x.content) w

-- at the start of a step every place of T carries itself
abbrev pub open_tree : Tree → Working
open_tree t = map_values (λ p c. record { content = c; origin = was (at_target p) }) t

-- what is inserted is new
abbrev pub as_new : List (Path × Content) → List (Path × Worked)
as_new es = with_values (λ _ c. record { content = c; origin = new }) es

-- what is copied from a source carries its place there
abbrev pub from_source : Loc → List (Path × Content) → List (Path × Worked)
from_source q es = with_values (λ s c. record { content = c; origin = was (below_place q s) }) es

-- a copy inside T carries the origins along
abbrev pub entries_to_copy : List Source → Working → Loc → Bool → List (Path × Worked)
entries_to_copy ss w q true = below q.path w
entries_to_copy ss w q false = from_source q (subtree_at (source ss q.db) q.path)

-- the working tree after an operation that isn't refused
unfoldable pub apply_op : List Source → Working → Op → Working
apply_op ss w (Ins p a l) = with_subtree (child p.path a) (as_new (literal_rows l)) w
apply_op ss w (Del a p) = without (child p.path a) w
apply_op ss w (Copy q p) = with_subtree p.path (entries_to_copy ss w q (in_target q)) w

-- the working tree after so many operations, or the number and refusal of the first refused one
pub data Outcome : Type 0 where
  done : ℕ → Working → Outcome
  refused : ℕ → Refusal → Outcome

-- an operation that isn't refused is applied
abbrev pub judge_op : List Source → ℕ → Working → Op → Option Refusal → Outcome
judge_op ss k w op (Some r) = refused (k + 1) r
judge_op ss k w op None = done (k + 1) (apply_op ss w op)

-- one operation more
unfoldable pub then_op : List Source → Outcome → Op → Outcome
then_op ss (done k w) op = judge_op ss k w op (refusal ss (contents w) op)
then_op ss (refused n r) op = refused n r

-- the operations in order, from the tree t
unfoldable pub step : Tree → List Source → List Op → Outcome
step t ss ops = fold (then_op ss) (done 0 (open_tree t)) ops

-- nothing was refused
abbrev pub is_done : Outcome → Bool
is_done (done k w) = true
is_done (refused n r) = false
