-- The effects of a step, its rows in full and reduced, and what a reader makes of rows.
--
-- What was inserted is named by each type in its own way:
--     an origin    `new` (New)      an effect    `made` (New)      a row    `I` (Made)      an event    `born`
-- and what was copied, what is as it was and what is gone so:
--     an origin    `was q` (Was)    an effect    `from q` (From)   a row    `C q` (Copied)  an event    `copied`
--     an origin    `was p` at p     an effect    `same` (Same)     a row    `K` (Kept)      no event
--     no origin                     no effect, read as `gone`      a row    `D` (Gone)      an event    `lost`, of the place above
use Rattle.std.specs.Prelude.{Bool, true, false, ◌&&◌, List, [], ◌∷◌, map, if◌then◌else◌}
use Rattle.std.specs.List.{filter_map}
use Rattle.std.specs.declared.option.Option.{Option}
use Rattle.std.specs.declared.option.Option.TheVariants.{None, Some}
use Rattle.cp_model.specs.Place.{Label, Path, at_target, place_eq, below_place, nearest, over_limit, option_map, parent, last_label}
use Rattle.cp_model.specs.Keyed as keyed
use Rattle.cp_model.specs.Subtrees.{is_there, map_values, with_values}
use Rattle.cp_model.specs.Tree.{Tree}
use Rattle.cp_model.specs.Step.{Origin, new, was, Working}
use Rattle.cp_path.specs.declared.loc.Loc.{Loc}
pub use Rattle.cp_model.specs.declared.effect.Effect.{Effect}
pub use Rattle.cp_model.specs.declared.effect.Effect.TheVariants.{Same as same, New as made, From as from}
pub use Rattle.cp_model.specs.declared.record.RowMark.{RowMark as Mark}
pub use Rattle.cp_model.specs.declared.record.RowMark.TheVariants.{Made as I, Copied as C, Gone as D, Kept as K}

-- what a row tells of a place: that it is left, with what its step has done to it, or that it is gone
pub data Reading : Type 0 where
  left : Effect → Reading
  gone : Reading

-- a place that carries itself is the same, one that carries another place is from there
abbrev pub effect : Path → Origin → Effect
effect p new = made
effect p (was q) = if place_eq q (at_target p) then same else from q

-- what an effect at a parent gives its child
abbrev pub gives : Effect → Label → Effect
gives same a = same
gives made a = made
gives (from q) a = from (below_place q (a ∷ []))

-- the effect at a place that is left
abbrev pub effect_at : Working → Path → Option Effect
effect_at w p = option_map (λ x. effect p x.origin) (keyed.get w p)

-- the row that an effect has in the full rows
abbrev pub full_mark : Effect → Option Mark
full_mark same = None
full_mark made = Some I
full_mark (from q) = Some (C q)

-- the row of an effect that its parent's doesn't imply
abbrev pub reduced_mark : Effect → Mark
reduced_mark same = K
reduced_mark made = I
reduced_mark (from q) = C q

-- two effects are the same
abbrev pub effect_eq : Effect → Effect → Bool
effect_eq same same = true
effect_eq made made = true
effect_eq (from p) (from q) = place_eq p q
effect_eq _ _ = false

-- Same where there is no effect
abbrev pub or_same : Option Effect → Effect
or_same None = same
or_same (Some e) = e

-- what the parent's effect gives p; the root is compared with Same
abbrev pub effect_given_by : Working → Option Path → Label → Effect
effect_given_by w None a = same
effect_given_by w (Some r) a = gives (or_same (effect_at w r)) a

-- what the effect of p's parent gives p
abbrev pub effect_given : Working → Path → Effect
effect_given w p = effect_given_by w (parent p) (last_label p)

-- nothing has changed
abbrev pub is_same : Effect → Bool
is_same same = true
is_same made = false
is_same (from q) = false

-- there is an effect, and it is the same
abbrev pub nearest_is_same : Option (Effect × Path) → Bool
nearest_is_same None = false
nearest_is_same (Some e) = is_same e.0

-- what is left nearest above p is the same
abbrev pub same_above : Working → Path → Bool
same_above w p = nearest_is_same (nearest (effect_at w) p)

-- p was there, and what is left nearest above it is the same: so D is the row of p where p is gone
abbrev pub lost_below_same : Tree → Working → Path → Bool
lost_below_same a w p = is_there a p && same_above w p

-- the row of p in the full rows: of its effect, or D
unfoldable pub full_here : Tree → Working → Path → Option Mark
full_here a w p = elim (effect_at w p) [ Some e ↦ full_mark e | None ↦ if lost_below_same a w p then Some D else None ]

-- the parent is left
abbrev pub parent_there : Working → Option Path → Bool
parent_there w None = false
parent_there w (Some r) = is_there w r

-- the row of p in the reduced rows: where its effect differs from what its parent's gives, or D where its parent is left
unfoldable pub reduced_here : Tree → Working → Path → Option Mark
reduced_here a w p =
    elim (effect_at w p) [
      | Some e ↦ if effect_eq e (effect_given w p) then None else Some (reduced_mark e)
      | None ↦ if lost_below_same a w p && parent_there w (parent p) then Some D else None
    ]

-- the rows by place: each place of either tree that has a mark
abbrev pub rows_with_marks : (Path → Option Mark) → List Path → List (Path × Mark)
rows_with_marks f ps = filter_map (λ p. option_map (λ m. (p, m)) (f p)) ps

-- the places of either tree, in order
unfoldable pub all_paths : Tree → Working → List Path
all_paths a w = map (λ e. e.0) (keyed.entries (keyed.put_all (with_values (λ _ _. true) (keyed.entries w)) (map_values (λ _ _. true) a)))

-- the full rows of a step, in the order of their places
abbrev pub full_rows : Tree → Working → List (Path × Mark)
full_rows a w = rows_with_marks (full_here a w) (all_paths a w)

-- the reduced rows of a step, in the order of their places
abbrev pub reduced_rows : Tree → Working → List (Path × Mark)
reduced_rows a w = rows_with_marks (reduced_here a w) (all_paths a w)

-- ---- reading

-- an effect whose place would be over a limit counts as the same
abbrev pub from_if_within : Loc → Effect
from_if_within q = if over_limit q then same else from q

-- the same, of any effect
abbrev pub limited : Effect → Effect
limited same = same
limited made = made
limited (from q) = from_if_within q

-- what a row says of the place this far below it
abbrev pub read_mark : Mark → Path → Reading
read_mark I s = left made
read_mark (C q) s = left (from_if_within (below_place q s))
read_mark K s = left same
read_mark D s = gone

-- what the nearest row says; no row says that nothing has changed
abbrev pub read_nearest : Option (Mark × Path) → Reading
read_nearest None = left same
read_nearest (Some e) = read_mark e.0 e.1

-- the row at the place itself
abbrev pub read_full : (Path → Option Mark) → Path → Reading
read_full f p = read_nearest (option_map (λ m. (m, [])) (f p))

-- the row at the longest prefix that has one, carried down
abbrev pub read_reduced : (Path → Option Mark) → Path → Reading
read_reduced f p = read_nearest (nearest f p)
