-- What a literal reaches, in numbers that stop one past their limits.
use Rattle.cp_model.specs.declared.limits.TheConstants.{NODES_MAX, WEIGHT_MAX}
use Rattle.cp_path.specs.declared.limits.TheConstants.{LABELS_MAX, LOC_MAX}
use Rattle.std.specs.Prelude.{ℕ, ◌+◌, Bool, not, ◌||◌, List, [], ◌∷◌, length, max, min, nat_lt}
use Rattle.std.specs.declared.option.Option.{Option}
use Rattle.cp_path.specs.declared.loc.Loc.{Loc}
use Rattle.cp_model.specs.Place.{Label, Path, size}
use Rattle.cp_model.specs.Subtrees.{below, is_there, with_subtree}
use Rattle.cp_model.specs.Cases.{first_case}
use Rattle.cp_model.specs.Tree.{Tree, limits_of, reaches_over}
use Rattle.cp_model.specs.Literals.{literal_rows, rows_under}
use Rattle.cp_model.specs.declared.literal.Literal.{Literal}
use Rattle.cp_model.specs.declared.refusal.Refusal.{Refusal}
use Rattle.cp_model.specs.declared.refusal.Refusal.TheVariants.{NoOrigin, TooDeep, TooMany, TooBig}
use Rattle.cp_tree.specs.Rows.{reach_of}
use Rattle.cp_tree.specs.declared.reach.Reach.{Reach}

-- each number, or one past its limit where it is over that
abbrev pub capped_reach : Reach → Reach
capped_reach r = record { nodes = min r.nodes (NODES_MAX + 1); inner = min r.inner (WEIGHT_MAX + 1); depth = min r.depth (LABELS_MAX + 1); size = min r.size (LOC_MAX + 1) }

-- with rows s one label further down, the label's size being k
abbrev pub reach_with : ℕ → Reach → Reach → Reach
reach_with k r s = capped_reach (record { nodes = r.nodes + s.nodes; inner = r.inner + s.inner; depth = max r.depth (1 + s.depth); size = max r.size (k + s.size) })

-- a place alone, with a label of n bytes and a text of m
abbrev pub alone_at : ℕ → ℕ → Reach
alone_at n m = capped_reach (record { nodes = 1; inner = 16 + n + m; depth = 1; size = n + 1 })

-- what the tree of a literal reaches below the place that gets its label
abbrev pub literal_reach : Label → Literal → Reach
literal_reach a l = capped_reach (reach_of (rows_under a (literal_rows l)))

-- some place so many labels below p, or of so much more size, is over a limit
abbrev pub over_by : Loc → ℕ → ℕ → Bool
over_by p depth more = nat_lt LABELS_MAX (length p.path + depth) || nat_lt LOC_MAX (size p + more)

-- why a tree of so many nodes and so much weight is refused, if it is
abbrev pub limit_passed : ℕ → ℕ → Option Refusal
limit_passed nodes weight = first_case ((nat_lt NODES_MAX nodes, TooMany) ∷ (nat_lt WEIGHT_MAX weight, TooBig) ∷ [])

-- the cases of a copy of what u has at q onto a place of t that is there
abbrev pub copied_cases : Tree → Path → Tree → Loc → List (Bool × Refusal)
copied_cases u q t p = (not (is_there u q), NoOrigin) ∷ (reaches_over p (below q u), TooDeep) ∷ limits_of (with_subtree p.path (below q u) t)
