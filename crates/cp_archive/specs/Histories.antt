-- The trees of all versions of a history.
use Rattle.std.specs.Prelude.{ℕ, ◌+◌, ◌≤◌, ◌≡◌, List, [], ◌∷◌, ◌++◌, length}
use Rattle.std.specs.List.{slice_get}
use Rattle.std.specs.declared.option.Option.TheVariants.{Some}
use Rattle.cp_model.specs.History.{Entry, start, load, commit, State, start_state, after_load, after_commit}
use Rattle.cp_model.specs.Past.{tree_of}
use Rattle.cp_model.specs.Tree.{Tree, Source, tree_after}
use Rattle.cp_model.specs.Versions.{version}
use Rattle.cp_model.specs.declared.kind.Kind.{Kind}
use Rattle.cp_model.specs.declared.kind.Kind.TheVariants as kind
use Rattle.cp_model.specs.declared.op.Op.{Op}
use Rattle.cp_operation.specs.Passed.{tree_until}

-- the trees after each of these operations, from the tree t
abbrev pub trees_alone : List Source → Tree → List Op → List Tree
trees_alone ss t [] = []
trees_alone ss t (op ∷ ops) = tree_after ss t op ∷ trees_alone ss (tree_after ss t op) ops

-- the trees after each step of a commit, from the tree t
abbrev pub trees_of_steps : Kind → List Source → Tree → List Op → List Tree
trees_of_steps kind.N ss t ops = trees_alone ss t ops
trees_of_steps kind.H ss t ops = trees_alone ss t ops
trees_of_steps kind.T ss t ops = tree_until ss t ops ∷ []
trees_of_steps kind.HT ss t ops = tree_until ss t ops ∷ []

-- the trees after each step of the entries that follow the state s
abbrev pub trees_from : State → List Entry → List Tree
trees_from s [] = []
trees_from s (start k t ∷ es) = t ∷ trees_from (start_state k t) es
trees_from s (load n t ∷ es) = trees_from (after_load s n t) es
trees_from s (commit stamp ops ∷ es) = trees_of_steps s.kind s.sources (tree_of s.tree) ops ++ trees_from (after_commit s ops) es

-- the start tree, and the trees after each step of a history
abbrev pub trees_of_history : List Entry → List Tree
trees_of_history [] = []
trees_of_history (start k t ∷ es) = t ∷ trees_from (start_state k t) es
trees_of_history (load n t ∷ es) = []
trees_of_history (commit stamp ops ∷ es) = []

-- these are the trees of all versions of a history that leads to the state s: one for each Tid from 0 on, and no more
pub record AreVersions (h : List Entry) (s : State) (ts : List Tree) : Type 0 where
  pub count : length ts ≡ s.now + 1
  pub each : (t : ℕ) (z : State) → t ≤ s.now → version h t ≡ Some z → slice_get ts t ≡ Some (tree_of z.tree)
