-- What a walk over a history does at its items.
use Rattle.std.specs.Prelude.{ℕ, ◌≡◌, false, List, [], ◌∷◌, length, fold}
use Rattle.std.specs.declared.option.Option.{Option}
use Rattle.std.specs.declared.option.Option.TheVariants.{None, Some}
use Rattle.cp_model.specs.Past.{tree_of}
use Rattle.cp_model.specs.Tree.{Tree, Source}
use Rattle.cp_model.specs.History.{State, commit}
use Rattle.cp_model.specs.declared.kind.Kind.{Kind}
use Rattle.cp_frame.specs.Entries as written
use Rattle.cp_frame.specs.Entries.{WrittenEntry}
use Rattle.cp_frame.specs.Items.{Item, an_entry, a_checkpoint, AllStand, CanStand, after_item, entry_meant}
use Rattle.cp_db.specs.Committed.{HoldsBatch}
use Rattle.cp_db.specs.declared.work.CommitAt.{CommitAt}
use Rattle.cp_db.specs.declared.work.Passed.{Passed}
use Rattle.cp_db.specs.declared.work.Passed.TheVariants.{Load, Checkpoint}

-- a walk begins with these items: from a state on with none, and else with one that may be first and leads to this state
abbrev pub BeginsWith : Option State → List Item → State → Type 0
BeginsWith None [] s = ⊥
BeginsWith None (i ∷ []) s = CanStand false None i × (after_item None i ≡ Some s)
BeginsWith None (i ∷ j ∷ items) s = ⊥
BeginsWith (Some z) [] s = z ≡ s
BeginsWith (Some z) (i ∷ items) s = ⊥

-- it begins with them in a state of this kind, with this last Tid and this tree
pub record IsBegun (first : Option State) (items : List Item) (s : State) (kind : Kind) (last : ℕ) (t : Tree) : Type 0 where
  pub begins : BeginsWith first items s
  pub of_kind : s.kind ≡ kind
  pub after : s.now ≡ last
  pub tree : tree_of s.tree ≡ t

-- what is passed is this item, whose frame stands at this offset
abbrev pub IsPassed : Passed → ℕ → Item → Type 0
IsPassed (Load at) place (an_entry (written.start k t)) = ⊥
IsPassed (Load at) place (an_entry (written.load n t)) = at ≡ place
IsPassed (Load at) place (an_entry (written.commit b)) = ⊥
IsPassed (Load at) place (an_entry (written.stamped s b)) = ⊥
IsPassed (Load at) place (a_checkpoint body) = ⊥
IsPassed (Checkpoint at) place (an_entry w) = ⊥
IsPassed (Checkpoint at) place (a_checkpoint body) = at ≡ place

-- from where items are passed: after this state, or from the first item on, and the offset of each that comes after
pub record Beginning : Type 0 where
  pub first : Option State
  pub place : ℕ → ℕ

-- the moment at which a commit stands: the kind, the last Tid before it, the sources and the tree
pub record CommitMoment : Type 0 where
  pub kind : Kind
  pub last : ℕ
  pub sources : List Source
  pub tree : Tree

-- from the beginning on the items lead to a state of this moment's kind, last Tid, sources and tree; the entry of the commit may follow, and stands in the next place
pub record IsAtCommit (begun : Beginning) (items : List Item) (s : State) (x : WrittenEntry) (c : CommitAt) (moment : CommitMoment) : Type 0 where
  pub stand : AllStand false begun.first items
  pub leads : fold after_item begun.first items ≡ Some s
  pub of_kind : s.kind ≡ moment.kind
  pub after : s.now ≡ moment.last
  pub sources : s.sources ≡ moment.sources
  pub tree : tree_of s.tree ≡ moment.tree
  pub holds : HoldsBatch x c.ops c.records
  pub means : entry_meant x ≡ commit c.stamp c.ops
  pub at : c.at ≡ begun.place (length items)
  pub can : CanStand false (Some s) (an_entry x)
