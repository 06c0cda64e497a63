-- How often a query reads a disk at most.
use Rattle.std.specs.Prelude.{ℕ, suc, ◌+◌, ◌*◌, ◌≤◌, Bool, true, false, List, [], ◌∷◌, map, length, filter, if◌then◌else◌, ⊤}
use Rattle.std.specs.declared.option.Option.{Option}
use Rattle.std.specs.declared.option.Option.TheVariants.{None, Some}
use Rattle.cp_path.specs.declared.loc.Loc.{Loc}
use Rattle.cp_model.specs.Place.{Path, starts_with}
use Rattle.cp_model.specs.Keyed as keyed
use Rattle.cp_model.specs.Keyed.{Keyed}
use Rattle.cp_model.specs.Past.{Event, born, copied, lost, past_at, tree_of}
use Rattle.cp_model.specs.History.{State}
use Rattle.cp_model.specs.Rows.{Reading}
use Rattle.cp_model.specs.Leaps.{last}
use Rattle.cp_model.specs.Records.{reads}
use Rattle.cp_model.specs.Answers.{trace, has_place}
use Rattle.cp_model.specs.declared.kind.Kind.{Kind}
use Rattle.cp_model.specs.declared.query.Query.{Query}
use Rattle.cp_model.specs.declared.query.Query.TheVariants as query
use Rattle.cp_model.specs.declared.record.Record.{Record}
use Rattle.cp_store.specs.Costs.{Cost, IsQuiet, has_row, change_cost, losses_cost}
use Rattle.cp_query.specs.Hops.{hops, greatest_of, walk_cost}
use Rattle.cp_query.specs.declared.walk.Leg.{Leg}

-- ---- along a walk, by the rows of a store

-- the step of the newest change, or 0
abbrev pub since_of : Option (ℕ × Reading) → ℕ
since_of None = 0
since_of (Some c) = c.0

-- no step of a leg after its newest change changed its place
abbrev pub IsQuietSince : Kind → List Record → Leg → Type 0
IsQuietSince k rs l = IsQuiet k rs l.since l.segment.high l.segment.loc.path

-- what finding the losses of a leg costs
abbrev pub losses_of : Kind → List Record → Cost → Leg → ℕ
losses_of k rs c l = losses_cost k rs c l.since l.segment.high l.segment.loc.path

-- what one leg costs whose losses are asked for too
abbrev pub leg_cost : Kind → List Record → Cost → ℕ → Path → ℕ
leg_cost k rs c t p = change_cost k rs c t p + losses_cost k rs c (since_of (last (reads k rs) t p)) t p

-- what the look-ups of the newest changes back from a version of a place cost
abbrev pub trace_cost : Kind → List Record → Cost → ℕ → Path → ℕ
trace_cost k rs c t p = walk_cost (last (reads k rs)) (change_cost k rs c) (suc t) t p

-- the same with those of the losses
abbrev pub past_cost : Kind → List Record → Cost → ℕ → Path → ℕ
past_cost k rs c t p = walk_cost (last (reads k rs)) (leg_cost k rs c) (suc t) t p

-- the places of a tree
abbrev pub paths_in : {X : Type 0} → Keyed X → List Path
paths_in t = map (λ e. e.0) (keyed.entries t)

-- ---- by a history

-- hops: 1, and the steps along the place's trace that have a row which counts for the segment's place
abbrev pub hops_of : State → Path → ℕ
hops_of s p = hops (has_row s.kind s.rows) (trace s.now s.tree p)

-- the most labels of a place of the trace
abbrev pub depth_of : State → Path → ℕ
depth_of s p = greatest_of (λ q. length q) (trace s.now s.tree p)

abbrev pub is_lost : Event → Bool
is_lost (born t) = false
is_lost (copied t q) = false
is_lost (lost t) = true

-- how many children the place's data lost
abbrev pub lost_of : State → Path → ℕ
lost_of s p = length (filter is_lost (past_at s.tree p))

-- of a query on the trace of a place
abbrev pub trace_bound : State → Cost → Path → ℕ
trace_bound s c p = hops_of s p * ((depth_of s p + 1) * c.look)

-- of a walk that asks for losses too
abbrev pub past_bound : State → Cost → Path → ℕ
past_bound s c p = hops_of s p * ((depth_of s p + 2) * (c.look + c.runs)) + lost_of s p

-- the number, or none
abbrev pub only_if : Bool → ℕ → ℕ
only_if b n = if b then n else 0

-- what a cost sums up to over those of these places that are at or below p
abbrev pub sum_below : (Path → ℕ) → Path → List Path → ℕ
sum_below cost p [] = 0
sum_below cost p (r ∷ rs) = only_if (starts_with r p) (cost r) + sum_below cost p rs

-- of a query on the places at and below one
abbrev pub below_bound : State → Cost → Path → ℕ
below_bound s c p = sum_below (past_bound s c) p (paths_in (tree_of s.tree))

-- nothing is read of a place that isn't there
abbrev pub if_there : State → Loc → ℕ → ℕ
if_there s q n = only_if (has_place s q) n

-- how often a query reads at most; of the records nothing is said
abbrev pub ReadsWithin : State → Query → Cost → ℕ → ℕ → Type 0
ReadsWithin s (query.Src q) c before now = now ≤ before + if_there s q (trace_bound s c q.path)
ReadsWithin s (query.Hist q) c before now = now ≤ before + if_there s q (trace_bound s c q.path)
ReadsWithin s (query.Mod q) c before now = now ≤ before + if_there s q (below_bound s c q.path)
ReadsWithin s (query.Trace q) c before now = now ≤ before + if_there s q (trace_bound s c q.path)
ReadsWithin s (query.From q) c before now = now ≤ before + if_there s q (trace_bound s c q.path)
ReadsWithin s (query.Records t) c before now = ⊤
ReadsWithin s query.Stats c before now = now ≤ before
