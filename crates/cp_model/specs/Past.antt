-- Aged trees, whose places carry their whole past, and what a step adds to it.
use Rattle.std.specs.Prelude.{ℕ, Bool, true, false, not, ◌&&◌, List, [], ◌∷◌, ◌++◌, if◌then◌else◌}
use Rattle.std.specs.List.{list_any}
use Rattle.std.specs.declared.option.Option.{Option}
use Rattle.std.specs.declared.option.Option.TheVariants.{None, Some}
use Rattle.cp_model.specs.Place.{Path, in_target, path_eq, strip}
use Rattle.cp_model.specs.Keyed as keyed
use Rattle.cp_model.specs.Keyed.{Keyed}
use Rattle.cp_model.specs.Subtrees.{is_there, map_values}
use Rattle.cp_model.specs.Tree.{Tree}
use Rattle.cp_model.specs.Step.{Origin, new, was, Worked, Working}
use Rattle.cp_path.specs.declared.loc.Loc.{Loc}
use Rattle.cp_model.specs.declared.row.Content.{Content}

-- inserted in a step, copied in a step from a place, or in a step a child was lost
pub data Event : Type 0 where
  born : ℕ → Event
  copied : ℕ → Loc → Event
  lost : ℕ → Event

-- what a place of an aged tree carries, the oldest event first
pub record Aged : Type 0 where
  pub content : Content
  pub past : List Event

-- an aged tree maps its paths to contents and pasts
abbrev pub AgedTree : Type 0
AgedTree = Keyed Aged

-- the contents of an aged tree
abbrev pub tree_of : AgedTree → Tree
tree_of a = map_values (λ _ x. x.content) a

-- a start tree has no past
abbrev pub start_aged : Tree → AgedTree
start_aged t = map_values (λ _ c. record { content = c; past = [] }) t

-- the past, and none where the place isn't there
abbrev pub past_of : Option Aged → List Event
past_of None = []
past_of (Some a) = a.past

-- the past at a path
abbrev pub past_at : AgedTree → Path → List Event
past_at a p = past_of (keyed.get a p)

-- the rest is one label
abbrev pub one_label : Option Path → Bool
one_label None = false
one_label (Some []) = false
one_label (Some (a ∷ [])) = true
one_label (Some (a ∷ b ∷ s)) = false

-- r is p and one label more
abbrev pub is_child : Path → Path → Bool
is_child p r = one_label (strip p r)

-- some child of p in a isn't in w
unfoldable pub loses_child : {X Y : Type 0} → Keyed X → Keyed Y → Path → Bool
loses_child a w p = list_any (λ e. is_child p e.0 && not (is_there w e.0)) (keyed.entries a)

-- the past of what was at the place q, by whether q lies in T and whether it is p itself
abbrev pub past_by : Bool → Bool → ℕ → AgedTree → Working → Path → Loc → List Event
past_by false same t a w p q = copied t q ∷ []
past_by true false t a w p q = past_at a q.path ++ copied t q ∷ []
past_by true true t a w p q = past_at a p ++ (if loses_child a w p then lost t ∷ [] else [])

-- the past after step t, by the origin at p
abbrev pub past_after : ℕ → AgedTree → Working → Path → Origin → List Event
past_after t a w p new = born t ∷ []
past_after t a w p (was q) = past_by (in_target q) (path_eq q.path p) t a w p q

-- the content, with that past
abbrev pub settled_at : ℕ → AgedTree → Working → Path → Worked → Aged
settled_at t a w p x = record { content = x.content; past = past_after t a w p x.origin }

-- the aged tree after step t, which led from a to the working tree w
unfoldable pub settle : ℕ → AgedTree → Working → AgedTree
settle t a w = map_values (settled_at t a w) w
