-- The places that use another, and what asking for them may cost.
use Rattle.std.specs.Prelude.{ℕ, ◌+◌, ◌≡◌, ◌≤◌, Bool, true, List, sum_by}
use Rattle.std.specs.List.{list_any}
use Rattle.std.specs.List.Sorted.{IsStrictlySortedBy}
use Rattle.std.specs.Ordering.{ordering_then}
use Rattle.std.specs.declared.cmp.Ordering.{Ordering}
use Rattle.cp_path.specs.Text.{text_cmp}
use Rattle.cp_path.specs.declared.loc.Loc.{Loc}
use Rattle.cp_model.specs.Place.{Path, at_target, in_target, path_cmp, place_eq}
use Rattle.cp_model.specs.Subtrees.{is_there}
use Rattle.cp_model.specs.History.{State}
use Rattle.cp_model.specs.Records.{reads}
use Rattle.cp_model.specs.Answers.{trace}
use Rattle.cp_model.specs.declared.record.Record.{Record}
use Rattle.cp_store.specs.declared.store.ProvStore as store
use Rattle.cp_tree.specs.declared.rep.TreeRep as tree
use Rattle.cp_query.specs.Asked.{IsStateOf}
use Rattle.cp_uses.specs.declared.reached.Reached.{Reached}
use Rattle.cp_uses.specs.Reach.{Reaches, passes}
use Rattle.cp_uses.specs.Closing.{Stands, AreApart}
use Rattle.cp_uses.specs.Renewals.{changes_at}

-- ---- the answer

-- the place is among them
abbrev pub is_among : Loc → List Loc → Bool
is_among p ps = list_any (place_eq p) ps

-- places are in order by name, and then by path
abbrev pub place_cmp : Loc → Loc → Ordering
place_cmp x y = ordering_then (text_cmp x.db y.db) (path_cmp x.path y.path)

-- the places of T that are there and whose trace passes through q, in order, each once
pub record AreUsers (s : State) (q : Loc) (places : List Loc) : Type 0 where
  pub order : IsStrictlySortedBy place_cmp places
  pub only : (p : Loc) → is_among p places ≡ true → (in_target p ≡ true) × (is_there s.tree p.path ≡ true)
  pub users : (p : Path) → is_there s.tree p ≡ true → is_among (at_target p) places ≡ passes q (trace s.now s.tree p)

-- ---- what is asked

-- the store and the tree are those of this state of a legal history, and the index is that of its records
pub record AreOf {P R : Type 0} (p : store.Ghosts P) (r : tree.Ghosts R) (copies : List Record) (store : P) (tree : R) (s : State) : Type 0 where
  pub state : IsStateOf p r store tree s
  pub rows : copies ≡ s.rows

-- ---- the cost

-- a list of what is reached from q, each once, for which so many calls serve: 1, the changes of q, and what each of the list costs
pub record ServesFor (s : State) (q : Loc) (cost : Reached → ℕ) (calls : ℕ) : Type 0 where
  pub pairs : List Reached
  pub apart : AreApart pairs
  pub reached : (x : Reached) → Stands pairs x → Reaches (reads s.kind s.rows) q x.place x.tid
  pub served : calls ≡ 1 + changes_at s.kind s.rows q s.now + sum_by cost pairs

-- the count of calls rose by no more than serve for q
pub record IsServed (s : State) (q : Loc) (cost : Reached → ℕ) (old new : ℕ) : Type 0 where
  pub calls : ℕ
  pub serves : ServesFor s q cost calls
  pub rose : new ≤ old + calls
