-- The open transactions of several curators, each with the tree on which it began.
use Rattle.std.specs.Prelude.{ℕ, ◌+◌, ◌≡◌, ◌≤◌, List, [], if◌then◌else◌}
use Rattle.std.specs.declared.option.Option.{Option}
use Rattle.std.specs.declared.option.Option.TheVariants.{None, Some}
use Rattle.cp_path.specs.Text.{text_eq}
use Rattle.cp_model.specs.Tree.{Tree, Source}
use Rattle.cp_model.specs.declared.kind.Kind.{Kind}
use Rattle.cp_operation.specs.Passed.{stage_after}
use Rattle.cp_engine.specs.Transactions.{Progress, going, failed, held_count, after_unread}

-- an open transaction: the tree on which it began, its kind, the last Tid at that time, and how far it has come
pub record Desk : Type 0 where
  pub start : Tree
  pub kind : Kind
  pub since : ℕ
  pub progress : Progress

-- the desk of each name that has a transaction open
abbrev pub Desks : Type 0
Desks = List ℕ → Option Desk

-- no name has one
abbrev pub no_desks : Desks
no_desks n = None

-- the name has this desk or none, and the others have theirs
abbrev pub with_desk : List ℕ → Option Desk → Desks → Desks
with_desk n d desks m = if text_eq n m then d else desks m

-- a transaction that begins on the tree t after the Tid n, and holds nothing yet
abbrev pub new_desk : Tree → Kind → ℕ → Desk
new_desk t k n = record { start = t; kind = k; since = n; progress = going [] }

-- the desk that is there, or else d
abbrev pub desk_or : Option Desk → Desk → Desk
desk_or None d = d
desk_or (Some e) d = e

-- the desk, once it has come so far
abbrev pub come_to : Desk → Progress → Desk
come_to d p = record { start = d.start; kind = d.kind; since = d.since; progress = p }

-- the desk, once a text of its name couldn't be read
abbrev pub after_unread_text : Desk → Desk
after_unread_text d = come_to d (after_unread d.progress)

-- the tree to which the operations of a going transaction lead
abbrev pub tree_after_progress : List Source → Desk → Progress → Option Tree
tree_after_progress ss d (going ops) = Some (stage_after d.kind ss d.start (d.since + 1) ops).tree
tree_after_progress ss d (failed j c) = None

-- the working tree, if there is a transaction that hasn't failed
abbrev pub working_tree : List Source → Option Desk → Option Tree
working_tree ss None = None
working_tree ss (Some d) = tree_after_progress ss d d.progress

-- the number of operations that are given up with the transaction, if there is one
abbrev pub count_given_up : Option Desk → ℕ
count_given_up None = 0
count_given_up (Some d) = held_count d.progress

-- each transaction is of this kind, and began when the last Tid was n or less; one that began when it was n began on the tree t
pub record HaveBegunBy (t : Tree) (k : Kind) (n : ℕ) (desks : Desks) : Type 0 where
  pub kinds : (m : List ℕ) (d : Desk) → desks m ≡ Some d → d.kind ≡ k
  pub since : (m : List ℕ) (d : Desk) → desks m ≡ Some d → d.since ≤ n
  pub starts : (m : List ℕ) (d : Desk) → desks m ≡ Some d → d.since ≡ n → d.start ≡ t
