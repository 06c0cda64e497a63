-- The laws of trees, steps and histories that the crates above rest on, as statements.
use Rattle.cp_model.specs.declared.limits.TheConstants.{SOURCES_MAX}
use Rattle.std.specs.Prelude.{ℕ, suc, ◌+◌, ◌≡◌, ◌&&◌, Bool, true, List, ◌++◌, length, sum_by, ◌≤◌, false, map, filter, nat_lt, ⊤}
use Rattle.std.specs.List.{list_any, IsDistinct}
use Rattle.std.specs.declared.option.Option.TheVariants.{None, Some}
use Rattle.std.proofs.Common.{T}
use Rattle.std.specs.FinMap.Entries.{is_sorted}
use Rattle.cp_model.specs.Place.{Path, path_cmp, strip, label_eq, in_target, over_limit}
use Rattle.cp_model.specs.Keyed as keyed
use Rattle.cp_model.specs.Keyed.{look}
use Rattle.cp_model.specs.Subtrees.{below, entries_under, without, with_subtree, is_there}
use Rattle.cp_model.specs.Closed.{Closed}
use Rattle.cp_model.specs.Tree.{Tree, IsTree, Source, weight, weight_of, tree_after, refusal, source}
use Rattle.cp_model.specs.Step.{Working, contents, apply_op, step, done, Origin, new, was, Worked}
use Rattle.cp_model.specs.Past.{AgedTree, tree_of, past_at, loses_child, is_child}
use Rattle.cp_model.specs.Rows.{Effect, same, left, effect_at}
use Rattle.cp_model.specs.History.{Entry, State, replay, IsLegal, IsWritten, AreWritten, read_rows, rows_of, IsSource}
use Rattle.cp_model.specs.Records.{is_D, reads, loses}
use Rattle.cp_model.specs.Leaps.{leap_back}
use Rattle.cp_model.specs.Versions.{history_upto, version}
use Rattle.cp_model.specs.declared.kind.Kind.{Kind}
use Rattle.cp_model.specs.declared.row.Content.{Content}
use Rattle.cp_model.specs.declared.op.Op.{Op}
use Rattle.cp_model.specs.declared.record.Record.{Record}
use Rattle.std.specs.declared.option.Option.{Option}
use Rattle.cp_path.specs.declared.loc.Loc.{Loc}

-- every source is a tree
pub record AreTrees (ss : List Source) : Type 0 where
  pub trees : (n : List ℕ) (t : Tree) → source ss n ≡ Some t → IsTree t

-- the sources of a state: each may be loaded under its name, they are not too many, and their names differ
pub record AreSources (ss : List Source) : Type 0 where
  pub each : (n : List ℕ) (t : Tree) → source ss n ≡ Some t → IsSource n t
  pub few : length ss ≤ SOURCES_MAX
  pub apart : IsDistinct label_eq (map (λ s. s.name) ss)

-- a state whose tree is within every limit, and so are its sources
pub record IsSound (s : State) : Type 0 where
  pub tree : IsTree (tree_of s.tree)
  pub sources : AreSources s.sources

-- every place of the working tree has such an origin
abbrev pub Every : (Origin → Type 0) → Working → Type 0
Every P w = (p : Path) (x : Worked) → keyed.get w p ≡ Some x → P x.origin

-- a place within the limits that the tree or the source has
pub record IsOrigin (ss : List Source) (t : Tree) (q : Loc) : Type 0 where
  pub fits : over_limit q ≡ false
  pub in_tree : in_target q ≡ true → is_there t q.path ≡ true
  pub in_source : in_target q ≡ false → (s : Tree) × (source ss q.db ≡ Some s) × (is_there s q.path ≡ true)

-- new, or from a place that the tree or a source has
abbrev pub Sound : List Source → Tree → Origin → Type 0
Sound ss t new = ⊤
Sound ss t (was q) = IsOrigin ss t q

module _ {X : Type 0} where
  -- f at what follows the prefix, or else o
  abbrev pub at_rest_or : Option Path → (Path → Option X) → Option X → Option X
  at_rest_or None f o = o
  at_rest_or (Some s) f o = f s

-- what a tree answers after a subtree was put in place or dropped; and trees that answer alike are the same
pub record LookUps : Type 0 where
  pub replaced_at : (p : Path) (es : List (Path × Content)) (t : Tree) (r : Path) → keyed.get (with_subtree p es t) r ≡ at_rest_or (strip p r) (λ s. look s es) (keyed.get t r)
  pub without_at : (p : Path) (t : Tree) (r : Path) → keyed.get (without p t) r ≡ at_rest_or (strip p r) (λ _. None) (keyed.get t r)
  pub below_at : (q s : Path) (t : Tree) → look s (below q t) ≡ keyed.get t (q ++ s)
  pub alike : (t u : Tree) → ((q : Path) → keyed.get t q ≡ keyed.get u q) → t ≡ u

-- the number of nodes and the weight after a replacement
pub record CountsOfReplacement : Type 0 where
  pub nodes : (p : Path) (es : List (Path × Content)) (t : Tree) → T (is_sorted path_cmp es) → keyed.len (with_subtree p es t) + length (below p t) ≡ keyed.len t + length es
  pub weights : (p : Path) (es : List (Path × Content)) (t : Tree) → T (is_sorted path_cmp es) → weight (with_subtree p es t) + sum_by (λ e. weight_of (p ++ e.0, e.1)) (below p t) ≡ weight t + sum_by weight_of (entries_under p es)

-- an accepted operation leaves a tree within every limit, and what it does to a working tree it does to its contents
pub record OperationsKeepTrees : Type 0 where
  pub kept : (ss : List Source) (t : Tree) (op : Op) → IsTree t → AreTrees ss → IsWritten op → refusal ss t op ≡ None → IsTree (tree_after ss t op)
  pub contents_follow : (ss : List Source) (w : Working) (op : Op) → contents (apply_op ss w op) ≡ tree_after ss (contents w) op
  pub step_kept : (t : Tree) (ss : List Source) (ops : List Op) (k : ℕ) (w : Working) → IsTree t → AreTrees ss → AreWritten ops → step t ss ops ≡ done k w → IsTree (contents w)
  pub step_closed : (t : Tree) (ss : List Source) (ops : List Op) (k : ℕ) (w : Working) → IsTree t → AreTrees ss → AreWritten ops → step t ss ops ≡ done k w → Closed (keyed.get w)

-- every place that a working tree carries is a place of the tree before the step, or of a source, and within the limits
abbrev pub OriginsAreThere : Type 0
OriginsAreThere = (t : Tree) (ss : List Source) (ops : List Op) (k : ℕ) (w : Working) → IsTree t → AreSources ss → step t ss ops ≡ done k w → Every (Sound ss t) w

-- along a legal history the tree and the sources are within every limit
abbrev pub HistoriesAreSound : Type 0
HistoriesAreSound = (h : List Entry) (s : State) → IsLegal h → replay h ≡ Some s → IsSound s

-- in each kind the rows of a step read as its effects, and the rows D at children of a place that stayed are its losses
pub record RowsReadAsEffects : Type 0 where
  pub effects : (k : Kind) (t : Tree) (ss : List Source) (ops : List Op) (n : ℕ) (w : Working) → IsTree t → AreSources ss → AreWritten ops → step t ss ops ≡ done n w
      → (p : Path) (e : Effect) → effect_at w p ≡ Some e → read_rows k (λ r. look r (rows_of k t w)) p ≡ left e
  pub losses : (k : Kind) (a : AgedTree) (w : Working) (p : Path) → effect_at w p ≡ Some same → list_any (λ r. is_child p r.0 && is_D r.1) (rows_of k (tree_of a) w) ≡ loses_child a w p

-- the records of a legal history, followed back from its last step, give each place the past of the replay
abbrev pub RecordsWalkBack : Type 0
RecordsWalkBack = (h : List Entry) (s : State) → IsLegal h → replay h ≡ Some s → (p : Path) → is_there s.tree p ≡ true
    → leap_back (reads s.kind s.rows) (loses s.rows) (suc s.now) s.now p ≡ past_at s.tree p

-- a legal history is legal up to each of its steps
abbrev pub VersionsAreLegal : Type 0
VersionsAreLegal = (h : List Entry) (t : ℕ) → IsLegal h → IsLegal (history_upto h t)

-- the last version is the state that the history leads to
abbrev pub LastVersionIsAll : Type 0
LastVersionIsAll = (h : List Entry) (s : State) (t : ℕ) → IsLegal h → replay h ≡ Some s → s.now ≤ t → version h t ≡ Some s

-- a row of a step up to t
abbrev pub is_upto : ℕ → Record → Bool
is_upto t r = nat_lt r.tid (t + 1)

-- the state z, after step t, has the kind and the sources of the last state s, and of its rows those of the steps up to t
pub record IsAfterStep (s z : State) (t : ℕ) : Type 0 where
  pub kind : z.kind ≡ s.kind
  pub now : z.now ≡ t
  pub rows : z.rows ≡ filter (is_upto t) s.rows
  pub sources : z.sources ≡ s.sources

-- each version up to the last is such a state
abbrev pub VersionsAreStates : Type 0
VersionsAreStates = (h : List Entry) (s : State) (t : ℕ) → IsLegal h → replay h ≡ Some s → t ≤ s.now → (z : State) × (version h t ≡ Some z) × IsAfterStep s z t
