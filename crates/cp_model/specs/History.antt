-- Histories: their replay, what makes one legal, and the log of their commits.
use Rattle.cp_model.specs.declared.limits.TheConstants.{OPS_MAX, SOURCES_MAX}
use Rattle.cp_path.specs.declared.limits.TheConstants.{LABEL_MAX, TEXT_MAX}
use Rattle.std.specs.Prelude.{ℕ, ◌+◌, ◌≤◌, ◌≡◌, true, false, List, [], ◌∷◌, ◌++◌, map, length, fold, is_some, ⊤}
use Rattle.std.specs.declared.option.Option.{Option}
use Rattle.std.specs.declared.option.Option.TheVariants.{None, Some}
use Rattle.std.proofs.Common.{T}
use Rattle.std.specs.FinMap.Entries.{is_sorted}
use Rattle.cp_path.specs.Text.{is_name}
use Rattle.cp_model.specs.Place.{Path, at_target, target, label_eq, over_limit, path_cmp}
use Rattle.cp_model.specs.Keyed as keyed
use Rattle.cp_model.specs.Subtrees.{is_there}
use Rattle.cp_model.specs.Literals.{literal_rows}
use Rattle.cp_model.specs.Tree.{Tree, IsTree, IsRooted, Source, source, text_bytes, CanBeSpelled}
use Rattle.cp_model.specs.Step.{Working, step, Outcome, done, refused, is_done}
use Rattle.cp_model.specs.Past.{AgedTree, settle, tree_of, start_aged}
use Rattle.cp_model.specs.Rows.{Mark, I, C, D, K, full_rows, reduced_rows, Reading, read_full, read_reduced}
use Rattle.cp_model.specs.declared.row.Content.{Content}
use Rattle.cp_model.specs.declared.answer.LogLine.{LogLine}
use Rattle.cp_model.specs.declared.kind.Kind.{Kind}
use Rattle.cp_model.specs.declared.kind.Kind.TheVariants as kind
use Rattle.cp_model.specs.declared.op.Op.{Op}
use Rattle.cp_model.specs.declared.op.Op.TheVariants.{Ins, Del, Copy}
use Rattle.cp_model.specs.declared.stamp.Stamp.{Stamp}
use Rattle.cp_model.specs.declared.record.Record.{Record}
use Rattle.cp_model.specs.declared.record.RecOp.TheVariants as op

-- a history begins with its start tree; sources are loaded, and transactions committed
pub data Entry : Type 0 where
  start : Kind → Tree → Entry
  load : List ℕ → Tree → Entry
  commit : Stamp → List Op → Entry

-- ---- steps

-- each operation as a step of its own
abbrev pub each_alone : List Op → List (List Op)
each_alone ops = map (λ op. op ∷ []) ops

-- a step is one operation, or in the transactional kinds a whole transaction
abbrev pub steps_of : Kind → List Op → List (List Op)
steps_of kind.N ops = each_alone ops
steps_of kind.H ops = each_alone ops
steps_of kind.T ops = ops ∷ []
steps_of kind.HT ops = ops ∷ []

-- the rows that each kind keeps of a step
abbrev pub rows_of : Kind → Tree → Working → List (Path × Mark)
rows_of kind.N a w = full_rows a w
rows_of kind.T a w = full_rows a w
rows_of kind.H a w = reduced_rows a w
rows_of kind.HT a w = reduced_rows a w

-- what a reader of each kind makes of the rows of one step at a place
abbrev pub read_rows : Kind → (Path → Option Mark) → Path → Reading
read_rows kind.N f p = read_full f p
read_rows kind.T f p = read_full f p
read_rows kind.H f p = read_reduced f p
read_rows kind.HT f p = read_reduced f p

-- ---- records

-- the record of the step t at the path p of T
abbrev pub record_of : ℕ → Path → Mark → Record
record_of t p I = record { tid = t; op = op.I; loc = at_target p; src = None }
record_of t p (C q) = record { tid = t; op = op.C; loc = at_target p; src = Some q }
record_of t p D = record { tid = t; op = op.D; loc = at_target p; src = None }
record_of t p K = record { tid = t; op = op.K; loc = at_target p; src = None }

-- the records of a step
abbrev pub with_tid : ℕ → List (Path × Mark) → List Record
with_tid t rows = map (λ r. record_of t r.0 r.1) rows

-- ---- replay

-- what a history leads to
pub record State : Type 0 where
  pub kind : Kind
  -- in the order in which they were loaded
  pub sources : List Source
  pub tree : AgedTree
  -- the last Tid
  pub now : ℕ
  pub commits : ℕ
  -- the records of all steps
  pub rows : List Record

-- the state after a step that ends with the working tree w
unfoldable pub after_settling : State → Working → State
after_settling s w = record s { tree = settle (s.now + 1) s.tree w; now = s.now + 1; rows = s.rows ++ with_tid (s.now + 1) (rows_of s.kind (tree_of s.tree) w) }

-- a step that was refused changes nothing
abbrev pub after_outcome : State → Outcome → State
after_outcome s (done k w) = after_settling s w
after_outcome s (refused n r) = s

-- the state after the operations of one step
unfoldable pub after_step : State → List Op → State
after_step s ops = after_outcome s (step (tree_of s.tree) s.sources ops)

-- one commit more is counted
abbrev pub one_commit_more : State → State
one_commit_more s = record s { commits = s.commits + 1 }

-- the state after a commit
unfoldable pub after_commit : State → List Op → State
after_commit s ops = one_commit_more (fold after_step s (steps_of s.kind ops))

-- the state of a start tree
unfoldable pub start_state : Kind → Tree → State
start_state k t = record { kind = k; sources = []; tree = start_aged t; now = 0; commits = 0; rows = [] }

-- the state with one source more
abbrev pub after_load : State → List ℕ → Tree → State
after_load s n t = record s { sources = s.sources ++ record { name = n; tree = t } ∷ [] }

-- the state after one entry more
abbrev pub then_entry : Option State → Entry → Option State
then_entry o (start k t) = Some (start_state k t)
then_entry None (load n t) = None
then_entry None (commit stamp ops) = None
then_entry (Some s) (load n t) = Some (after_load s n t)
then_entry (Some s) (commit stamp ops) = Some (after_commit s ops)

-- the state that a history leads to; none where it is empty
unfoldable pub replay : List Entry → Option State
replay h = fold then_entry None h

-- ---- the log

-- the line of a commit after the Tid t: its first and last Tid, its stamp, and the number of its operations
abbrev pub log_line : Kind → ℕ → Stamp → List Op → LogLine
log_line k t stamp ops =
    record { low = t + 1; high = t + length (steps_of k ops); curator = stamp.curator; moment = stamp.moment; operations = length ops }

-- the lines of the commits among these entries, in a history of kind k whose last Tid before them is t
abbrev pub log_after : Kind → ℕ → List Entry → List LogLine
log_after k t [] = []
log_after k t (start j tree ∷ es) = log_after j 0 es
log_after k t (load n tree ∷ es) = log_after k t es
log_after k t (commit stamp ops ∷ es) = log_line k t stamp ops ∷ log_after k (t + length (steps_of k ops)) es

-- the log of a history; before its start entry it has no commits
abbrev pub log_of : List Entry → List LogLine
log_of h = log_after kind.N 0 h

-- ---- legal histories

-- rows that a literal may have: a tree, its places in order, its labels, numbers and texts within their limits
pub record IsLiteral (rows : List (Path × Content)) : Type 0 where
  pub sorted : T (is_sorted path_cmp rows)
  pub rooted : IsRooted (keyed.from_entries rows)
  pub texts : (p : Path) (c : Content) → keyed.look p rows ≡ Some c → text_bytes c ≤ TEXT_MAX
  pub spelled : (p : Path) (c : Content) → keyed.look p rows ≡ Some c → CanBeSpelled p c

-- an operation that a statement can write
abbrev pub IsWritten : Op → Type 0
IsWritten (Ins p a l) = (length a ≤ LABEL_MAX) × IsLiteral (literal_rows l)
IsWritten (Del a p) = ⊤
IsWritten (Copy q p) = ⊤

-- all of them can be written
abbrev pub AreWritten : List Op → Type 0
AreWritten [] = ⊤
AreWritten (o ∷ os) = IsWritten o × AreWritten os

-- a tree that may be loaded under the name
pub record IsSource (n : List ℕ) (t : Tree) : Type 0 where
  pub name : is_name n ≡ true
  pub other : label_eq n target ≡ false
  pub tree : IsTree t
  pub places : (p : Path) → is_there t p ≡ true → over_limit (record { db = n; path = p }) ≡ false

-- the tree may be loaded under this name
pub record CanLoad (s : State) (n : List ℕ) (t : Tree) : Type 0 where
  pub loadable : IsSource n t
  pub fresh : is_some (source s.sources n) ≡ false
  pub few : length s.sources + 1 ≤ SOURCES_MAX

-- the operations may be committed
pub record CanCommit (s : State) (ops : List Op) : Type 0 where
  pub some : 1 ≤ length ops
  pub few : length ops ≤ OPS_MAX
  pub written : AreWritten ops
  pub accepted : is_done (step (tree_of s.tree) s.sources ops) ≡ true

-- the start entry is first and nowhere else
abbrev pub CanFollow : Option State → Entry → Type 0
CanFollow None (start k t) = IsTree t
CanFollow None (load n t) = ⊥
CanFollow None (commit stamp ops) = ⊥
CanFollow (Some s) (start k t) = ⊥
CanFollow (Some s) (load n t) = CanLoad s n t
CanFollow (Some s) (commit stamp ops) = CanCommit s ops

-- each entry may follow the state before it
abbrev pub IsLegalFrom : Option State → List Entry → Type 0
IsLegalFrom o [] = ⊤
IsLegalFrom o (e ∷ es) = CanFollow o e × IsLegalFrom (then_entry o e) es

-- a legal history
abbrev pub IsLegal : List Entry → Type 0
IsLegal h = IsLegalFrom None h
