-- Operations one by one, each a step of its own: the tree they lead to and the records that they leave.
use Rattle.cp_model.specs.declared.limits.TheConstants.{OPS_MAX}
use Rattle.std.specs.Prelude.{ℕ, ◌+◌, ◌≡◌, ◌==◌, List, [], ◌∷◌, ◌++◌, length, fold, is_some, if◌then◌else◌, ⊤}
use Rattle.std.specs.declared.option.Option.{Option}
use Rattle.std.specs.declared.option.Option.TheVariants.{None, Some}
use Rattle.cp_model.specs.Tree.{Tree, Source, refusal, tree_after}
use Rattle.cp_model.specs.Step.{open_tree, apply_op, step, Outcome, done, refused}
use Rattle.cp_model.specs.History.{rows_of, with_tid}
use Rattle.cp_model.specs.declared.kind.Kind.{Kind}
use Rattle.cp_model.specs.declared.kind.Kind.TheVariants as kind
use Rattle.cp_model.specs.declared.op.Op.{Op}
use Rattle.cp_model.specs.declared.record.Record.{Record}
use Rattle.cp_model.specs.declared.refusal.Refusal.{Refusal}
use Rattle.cp_model.specs.declared.refusal.Refusal.TheVariants.{TooManyOps}

-- where the steps so far have led: the tree, the Tid that is next, and their records
pub record Stage : Type 0 where
  pub tree : Tree
  pub next : ℕ
  pub records : List Record

-- the records of a step of one operation in each kind, from this tree, behind those of the steps before it
abbrev pub rows_alone : Kind → List Source → Tree → Op → List Record → ℕ → List Record
rows_alone k ss t op rs n = rs ++ with_tid n (rows_of k t (apply_op ss (open_tree t) op))

-- one step more
unfoldable pub next_stage : Kind → List Source → Stage → Op → Stage
next_stage k ss x op = record { tree = tree_after ss x.tree op; next = x.next + 1; records = rows_alone k ss x.tree op x.records x.next }

-- the operations in order, from the tree t with these sources, the first with the Tid n
unfoldable pub stage_after : Kind → List Source → Tree → ℕ → List Op → Stage
stage_after k ss t n ops = fold (next_stage k ss) (record { tree = t; next = n; records = [] }) ops

-- the records in each kind of one step from the tree t, where it is done
abbrev pub outcome_records : Kind → Tree → ℕ → Outcome → List Record
outcome_records k t n (done j w) = with_tid n (rows_of k t w)
outcome_records k t n (refused j r) = []

-- the records of the steps that operations make in each kind, the first with the Tid n
abbrev pub records_of : Kind → List Source → Tree → ℕ → List Op → List Record
records_of kind.N ss t n ops = (stage_after kind.N ss t n ops).records
records_of kind.T ss t n ops = outcome_records kind.T t n (step t ss ops)
records_of kind.H ss t n ops = (stage_after kind.H ss t n ops).records
records_of kind.HT ss t n ops = outcome_records kind.HT t n (step t ss ops)

-- the refusal of an operation behind those that are held, if there is one
abbrev pub refusal_behind : Kind → List Source → Tree → ℕ → List Op → Op → Option Refusal
refusal_behind k ss t n ops op = if length ops == OPS_MAX then Some TooManyOps else refusal ss (stage_after k ss t n ops).tree op

-- none of the operations is refused, each behind those before it
abbrev pub AllAccepted : List Source → Tree → List Op → Type 0
AllAccepted ss t [] = ⊤
AllAccepted ss t (op ∷ ops) = (refusal ss t op ≡ None) × AllAccepted ss (tree_after ss t op) ops

-- the tree after the operations before the first that is refused, or after all of them where none is
abbrev pub tree_until : List Source → Tree → List Op → Tree
tree_until ss t [] = t
tree_until ss t (op ∷ ops) = if is_some (refusal ss t op) then t else tree_until ss (tree_after ss t op) ops
