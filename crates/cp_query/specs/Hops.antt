-- What it costs to follow the newest changes of a place back: the look-ups at each place that its data passed.
use Rattle.std.specs.Prelude.{ℕ, zero, suc, ◌+◌, ◌-◌, max, List, [], ◌∷◌, if◌then◌else◌}
use Rattle.std.specs.declared.option.Option.{Option}
use Rattle.std.specs.declared.option.Option.TheVariants.{None, Some}
use Rattle.cp_model.specs.Place.{Path, in_target}
use Rattle.cp_model.specs.declared.effect.Effect.TheVariants.{Same as same, New as made, From as from}
use Rattle.cp_model.specs.Rows.{Reading, left, gone}
use Rattle.cp_model.specs.declared.answer.Segment.{Segment}
use Rattle.cp_model.specs.declared.answer.Trace.{Trace}
use Rattle.cp_store.specs.Costs.{Told, rows_within}
use Rattle.cp_query.specs.Following.{NewestChange}

-- the steps within the segments that have a row which counts for the segment's place
abbrev pub rows_along : Told → List Segment → ℕ
rows_along told [] = 0
rows_along told (s ∷ ss) = rows_within (told s.loc.path) s.low s.high + rows_along told ss

-- 1, and those along the trace
abbrev pub hops : Told → Trace → ℕ
hops told tr = suc (rows_along told tr.segments)

-- where the walk goes on after a change
abbrev pub goes_on_by : (ℕ → Path → ℕ) → ℕ → Reading → ℕ
goes_on_by prev u (left same) = 0
goes_on_by prev u (left made) = 0
goes_on_by prev u (left (from q)) = if in_target q then prev (u - 1) q.path else 0
goes_on_by prev u gone = 0

abbrev pub goes_on_with : (ℕ → Path → ℕ) → Option (ℕ × Reading) → ℕ
goes_on_with prev None = 0
goes_on_with prev (Some c) = goes_on_by prev c.0 c.1

-- what the cost of one leg sums up to on the walk back, of n legs at most
abbrev pub walk_cost : NewestChange → (ℕ → Path → ℕ) → ℕ → ℕ → Path → ℕ
walk_cost look leg zero t p = 0
walk_cost look leg (suc n) t p = leg t p + goes_on_with (walk_cost look leg n) (look t p)

-- the greatest number that f gives of a segment's place
abbrev pub greatest_along : (Path → ℕ) → List Segment → ℕ
greatest_along f [] = 0
greatest_along f (s ∷ ss) = max (f s.loc.path) (greatest_along f ss)

abbrev pub greatest_of : (Path → ℕ) → Trace → ℕ
greatest_of f tr = greatest_along f tr.segments
