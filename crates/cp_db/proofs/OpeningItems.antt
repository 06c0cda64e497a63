-- What is taken of a file that is opened, frame by frame.
use Rattle.std.proofs.Common.{◌≡◌, ◌∙◌, ℕ, true, false, List, [], ◌∷◌, ◌++◌, fold, is_some, refl, sym, ap, subst, append-nil, Result, Ok, Err}
use Rattle.std.specs.List.{flat_map}
use Rattle.std.specs.declared.option.Option.{Option}
use Rattle.std.specs.declared.option.Option.TheVariants.{None, Some}
use Rattle.std.proofs.lemmas.List.Concat.{flat_map-append}
use Rattle.std.proofs.lemmas.List.Sums.{fold-append}
use Rattle.cp_format.specs.Formats.{Reads}
use Rattle.cp_model.specs.Keyed.{from_entries}
use Rattle.cp_model.specs.Literals.{literal_rows}
use Rattle.cp_model.specs.Tree.{Tree, IsTree}
use Rattle.cp_model.specs.History.{Entry as History, State, start as begun, then_entry}
use Rattle.cp_model.specs.declared.kind.Kind.{Kind}
use Rattle.cp_model.specs.declared.literal.Literal.{Literal}
use Rattle.cp_journal.specs.Frames.{Frame}
use Rattle.cp_journal.specs.declared.frame.TheConstants.{ENTRY}
use Rattle.cp_frame.specs.Entries.{WrittenEntry, IsEntry, start, load, commit, stamped, entry_format}
use Rattle.cp_frame.specs.Trees.{rows_of}
use Rattle.cp_frame.specs.declared.entry.Entry.{Entry}
use Rattle.cp_frame.specs.declared.entry.Entry.TheVariants as entry
use Rattle.cp_frame.specs.Items.{Item, an_entry, a_checkpoint, IsHeld, IsOfVersion, CanStand, after_item, records_in}
use Rattle.cp_frame.specs.Stops.{IsRefused}
use Rattle.cp_frame.proofs.Standing.{stand-append}
use Rattle.cp_db.specs.Committed.{HasTaken}
use Rattle.cp_db.specs.Opening.{IsStartOf, RefusesAs, SpellsAs, StartsAs}
use Rattle.cp_db.specs.declared.committed.Committed.{Committed}
use Rattle.cp_db.specs.declared.start.Start.{Start}
use Rattle.cp_db.specs.declared.fault.OpenFault.{OpenFault}
use Rattle.cp_db.specs.declared.fault.OpenFault.TheVariants.{NoStore, Disk, Memory}
use Rattle.cp_db.proofs.OpeningFrames.{holds_entry, holds_none}

-- ---- the first frame

-- a frame of a checkpoint holds nothing that may be first
pub other_tag_first : (v : ℕ) (f : Frame) → (f.tag ≡ ENTRY → ⊥) → IsRefused v None f
other_tag_first v f other (an_entry w) held can = other held.tag
other_tag_first v f other (a_checkpoint body) held can = let no : false ≡ true = can in absurd (cc no)

-- nor does one that spells no entry
pub unspelled_first : (v : ℕ) (f : Frame) → f.tag ≡ ENTRY → ((w : WrittenEntry) → Reads entry_format f.body w [] → ⊥) → IsRefused v None f
unspelled_first v f tag none i held can = holds_none v f i tag none held

not_first : (e : Entry) (w : WrittenEntry) → ((k : Kind) (l : Literal) → e ≡ entry.Start k l → ⊥) → IsEntry e w → CanStand false None (an_entry w) → ⊥
not_first (entry.Start k l) w other is can = other k l refl
not_first (entry.Load n l) (start k t) other is can = is
not_first (entry.Load n l) (load m t) other is can = can.0
not_first (entry.Load n l) (commit b) other is can = can.0
not_first (entry.Load n l) (stamped s b) other is can = can.0
not_first (entry.Commit os rs) (start k t) other is can = is
not_first (entry.Commit os rs) (load m t) other is can = can.0
not_first (entry.Commit os rs) (commit b) other is can = can.0
not_first (entry.Commit os rs) (stamped s b) other is can = can.0
not_first (entry.Stamped s os rs) (start k t) other is can = is
not_first (entry.Stamped s os rs) (load m t) other is can = can.0
not_first (entry.Stamped s os rs) (commit b) other is can = can.0
not_first (entry.Stamped s os rs) (stamped r b) other is can = can.0

-- nor one of an entry that is no start
pub other_entry_first : (v : ℕ) (f : Frame) (e : Entry) (w : WrittenEntry) → f.tag ≡ ENTRY → Reads entry_format f.body w [] → IsEntry e w → ((k : Kind) (l : Literal) → e ≡ entry.Start k l → ⊥) → IsRefused v None f
other_entry_first v f e w tag reads is other i held can = not_first e w other is (subst (CanStand false None) (holds_entry v f w i tag reads held).0 can)

-- what is refused of the first frame is refused of the frames that begin with it
pub starts_refused : {R : Type 0} (view : R → Tree) (from v : ℕ) (f : Frame) (rest : List Frame) → IsRefused v None f → StartsAs view from v (f ∷ rest) (Err (NoStore from))
starts_refused view from v f rest none = (refl, λ g more is. let same : f ≡ g = cc is in subst (IsRefused v None) same none)

-- what holds of an error holds where a `?` passes it on
pub passed : {T E : Type 0} (P : Result T E → Type 0) (r : Result T E) (e : E) → (y : E) × (r ≡ Err y) × (y ≡ e) → P (Err e) → P r
passed P r e p h = subst P (sym p.1) (subst (λ y. P (Err y)) (sym p.2) h)

-- ---- a frame that holds nothing that may follow

module _ (v : ℕ) (f : Frame) (o : Option State) (tag : f.tag ≡ ENTRY) where
  -- where the frame spells no entry, nothing may follow
  pub unspelled_here : (place : ℕ) (e : OpenFault) → SpellsAs f (Err e) → ((n : ℕ) → e ≡ NoStore n → n ≡ place) → RefusesAs v f o place e
  unspelled_here place (NoStore at) none here = (λ i held can. holds_none v f i tag none held, here at refl)
  unspelled_here place Disk none here = tt
  unspelled_here place Memory none here = tt

  module _ (w : WrittenEntry) (reads : Reads entry_format f.body w []) where
    -- nor where it is of another version
    pub other_version_here : (IsOfVersion v w → ⊥) → IsRefused v o f
    other_version_here other i held can = other (holds_entry v f w i tag reads held).1

    -- nor where it may not follow
    pub refused_here : (CanStand false o (an_entry w) → ⊥) → IsRefused v o f
    refused_here refused i held can = refused (subst (CanStand false o) (holds_entry v f w i tag reads held).0 can)

-- ---- what a history starts from

-- a start may stand in a file of any version
start_allowed : (v : ℕ) (k : Kind) (l : Literal) (w : WrittenEntry) → IsEntry (entry.Start k l) w → IsOfVersion v w
start_allowed v k l (start j t) is = tt
start_allowed v k l (load n t) is = absurd is
start_allowed v k l (commit b) is = absurd is
start_allowed v k l (stamped s b) is = absurd is

-- an entry that is a start's is one of its kind and its tree
pub is_start : (k : Kind) (l : Literal) (t : Tree) (w : WrittenEntry) → IsEntry (entry.Start k l) w → IsTree (from_entries (literal_rows l)) → t ≡ from_entries (literal_rows l) → IsStartOf (an_entry w) k t
is_start k l t (start j x) is tree same =
    let rows : from_entries (literal_rows l) ≡ from_entries (rows_of x) = ap from_entries (sym is.1) in
    let means : begun j (from_entries (rows_of x)) ≡ begun k t = cc (is.0, same ∙ rows) in
    record { can = (subst IsTree rows tree, tt); leads = ap (then_entry None) means }
is_start k l t (load n x) is tree same = absurd is
is_start k l t (commit b) is tree same = absurd is
is_start k l t (stamped s b) is tree same = absurd is

module _ {R : Type 0} (view : R → Tree) where
  -- the first frame holds the start that it spells
  pub starts_as : (from v : ℕ) (f : Frame) (rest : List Frame) (x : Start R) (l : Literal) (w : WrittenEntry) → f.tag ≡ ENTRY → IsEntry (entry.Start x.kind l) w → Reads entry_format f.body w [] → IsStartOf (an_entry w) x.kind (view x.tree)
      → StartsAs view from v (f ∷ rest) (Ok x)
  starts_as from v f rest x l w tag is reads begins = (f, rest, an_entry w, refl, record { tag = tag; body = reads; allowed = start_allowed v x.kind l w is }, begins)

  -- or nothing that may be first, where it spells nothing
  pub starts_not : (from v : ℕ) (f : Frame) (rest : List Frame) (e : OpenFault) → f.tag ≡ ENTRY → SpellsAs f (Err e) → ((n : ℕ) → e ≡ NoStore n → n ≡ from) → StartsAs view from v (f ∷ rest) (Err e)
  starts_not from v f rest (NoStore at) tag none here = (here at refl, (starts_refused view from v f rest (unspelled_first v f tag none)).1)
  starts_not from v f rest Disk tag none here = tt
  starts_not from v f rest Memory tag none here = tt

-- ---- a frame more

module _ {R S : Type 0} (view : R → Tree) (source_view : S → Tree) (first : Option State) (c : Committed R S) (items : List Item) (t : HasTaken view source_view first c items) where
  -- a checkpoint adds no record
  no_record_more : (body : List ℕ) → flat_map records_in (items ++ a_checkpoint body ∷ []) ≡ flat_map records_in items
  no_record_more body = flat_map-append records_in items (a_checkpoint body ∷ []) ∙ append-nil (flat_map records_in items)

  -- it adds nothing
  pub checkpoint_taken : (body : List ℕ) → HasTaken view source_view first c (items ++ a_checkpoint body ∷ [])
  checkpoint_taken body = record {
    stand = stand-append false first items (a_checkpoint body ∷ []) t.stand (ap is_some t.replayed, tt);
    state = t.state;
    replayed = fold-append after_item first items (a_checkpoint body ∷ []) ∙ t.replayed;
    keeps = t.keeps;
    kept = t.kept ∙ sym (no_record_more body);
  }
