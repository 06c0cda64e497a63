-- A new store: its start, and what a crash leaves of it.
use Rattle.std.proofs.Common.{◌≡◌, ◌⊎◌, inl, inr, ⊎_elim, T, ℕ, ◌≤◌, Bool, true, List, [], ◌∷◌, length, Result, IsErrOf, Err, refl, sym, ap, ◌∙◌, subst, arith, append-nil}
use Rattle.std.specs.FinMap.Entries.{is_sorted}
use Rattle.std.specs.declared.option.Option.TheVariants.{None}
use Rattle.cp_outside.specs.Causes.{Rose}
use Rattle.cp_model.specs.declared.kind.Kind.{Kind}
use Rattle.cp_model.specs.declared.literal.Literal.{Literal}
use Rattle.cp_model.specs.declared.row.Content.{Content}
use Rattle.cp_model.specs.Keyed.{from_entries}
use Rattle.cp_model.specs.Literals.{literal_rows}
use Rattle.cp_model.specs.Place.{Path, path_cmp}
use Rattle.cp_model.specs.Tree.{Tree, IsTree}
use Rattle.cp_model.specs.History.{Entry, CanFollow, IsLiteral, replay, start_state}
use Rattle.cp_model.specs.History as history
use Rattle.cp_disk.specs.Views.{View, ViewKeeps, ViewRests}
use Rattle.cp_disk.proofs.Composing.{keeps_none, keeps_rests, keeps_then, rests_then}
use Rattle.cp_format.specs.Formats.{Reads}
use Rattle.cp_frame.specs.Entries.{IsEntry, WrittenEntry, start, load, commit, stamped, entry_format, written_entry}
use Rattle.cp_frame.specs.Trees.{rows_of}
use Rattle.cp_frame.specs.declared.entry.Entry.TheVariants as frame
use Rattle.cp_journal.specs.Frames.{entry}
use Rattle.cp_journal.specs.Journals.{Describes}
use Rattle.cp_journal.specs.NewStores.{IsOldOrVacantOrNew, IsVacantOrNew, SettlesInto, header}
use Rattle.cp_journal.specs.declared.fault.JournalFault.{JournalFault}
use Rattle.cp_journal.specs.declared.fault.JournalFault.TheVariants as journal
use Rattle.cp_journal.specs.declared.limits.TheConstants.{BODY_MAX}
use Rattle.cp_frame.specs.Items.{CanStand, IsHeld, Tell, an_entry, entry_meant}
use Rattle.cp_frame.specs.Sizes.{start_size}
use Rattle.cp_frame.proofs.Images.{new-head, store-stands}
use Rattle.cp_frame.proofs.Measures.{start-measured, start-short}
use Rattle.cp_frame.proofs.Standing.{tell-first}
use Rattle.cp_db.specs.Committed.{LeadsTo}
use Rattle.cp_db.specs.Databases.{HoldsState, IsKept, Stands}
use Rattle.cp_db.specs.Writing.{IsOldOrVacantOrStart, IsVacantOrStart}
use Rattle.cp_db.specs.declared.database.Db.{Db}
use Rattle.cp_db.specs.declared.fault.InitFault.{InitFault}
use Rattle.cp_db.specs.declared.fault.InitFault.TheVariants as init

-- ---- the start

module _ (k : Kind) (l : Literal) (t : Tree) (literal : IsLiteral (literal_rows l)) (is : from_entries (literal_rows l) ≡ t) (body : List ℕ) where
  start_meant : (w : WrittenEntry) → IsEntry (frame.Start k l) w → entry_meant w ≡ history.start k t
  start_meant (start j u) e =
      ap (λ (i : Kind). history.start i (from_entries (rows_of u))) e.0
      ∙ ap (λ (rows : List (Path × Content)). history.start k (from_entries rows)) e.1
      ∙ ap (history.start k) is
  start_meant (load m u) e = absurd e
  start_meant (commit b) e = absurd e
  start_meant (stamped s b) e = absurd e

  start_held : (w : WrittenEntry) → IsEntry (frame.Start k l) w → Reads entry_format body w [] → IsHeld 2 (entry body) (an_entry w)
  start_held (start j u) e read = record { tag = refl; body = read; allowed = tt }
  start_held (load m u) e read = absurd e
  start_held (commit b) e read = absurd e
  start_held (stamped s b) e read = absurd e

  start_follows : (w : WrittenEntry) → IsEntry (frame.Start k l) w → CanFollow None (entry_meant w) → CanStand true None (an_entry w)
  start_follows w e can = (can, tt)

  -- its frame tells that a history starts
  pub start-told : (w : WrittenEntry) → IsTree t → IsEntry (frame.Start k l) w → Reads entry_format body w [] → Tell true 2 (entry body ∷ []) (history.start k t ∷ [])
  start-told w tree e read =
      subst (λ (x : Entry). Tell true 2 (entry body ∷ []) (x ∷ [])) (start_meant w e)
      (tell-first true 2 (entry body) w (start_held w e read) (start_follows w e (subst (CanFollow None) (sym (start_meant w e)) tree)))

  -- it has as many bytes as are counted for it
  pub start-length : (w : WrittenEntry) → IsEntry (frame.Start k l) w → Reads entry_format body w [] → length body ≡ start_size t
  start-length (start j u) e read =
      ap length (read.is ∙ append-nil (written_entry (start j u)))
      ∙ start-measured j u read.fit (subst (λ (rows : List (Path × Content)). T (is_sorted path_cmp rows)) (sym e.1) literal.sorted)
      ∙ ap (λ (rows : List (Path × Content)). start_size (from_entries rows)) e.1
      ∙ ap start_size is
  start-length (load m u) e read = absurd e
  start-length (commit b) e read = absurd e
  start-length (stamped s b) e read = absurd e

  -- and no more than an entry may have
  pub start-fits : (w : WrittenEntry) → IsEntry (frame.Start k l) w → Reads entry_format body w [] → length body ≤ BODY_MAX
  start-fits (start j u) e read = omega (arith, start-short j u read.fit, ap length (read.is ∙ append-nil (written_entry (start j u))))
  start-fits (load m u) e read = absurd e
  start-fits (commit b) e read = absurd e
  start-fits (stamped s b) e read = absurd e

-- ---- the database

-- a start leads to its state
start_leads : (k : Kind) (t : Tree) → IsTree t → LeadsTo (history.start k t ∷ []) (start_state k t)
unfolding replay
start_leads k t tree = record { legal = (tree, tt); replayed = refl }

start_rows : (k : Kind) (t : Tree) → (start_state k t).rows ≡ []
unfolding start_state
start_rows k t = refl

-- a database that holds the state of a start, without rows, stands for it
pub stands-started : {R S : Type 0} (view : R → Tree) (source_view : S → Tree) (right : Bool) (k : Kind) (t : Tree) → IsTree t → (d : Db R S) → HoldsState view source_view d (start_state k t) → d.committed.store.rows.list ≡ []
    → Stands view source_view right d (history.start k t ∷ [])
stands-started view source_view right k t tree d holds none = record {
  state = start_state k t;
  led = start_leads k t tree;
  holds = holds;
  rows = λ asked. none ∙ sym (start_rows k t);
}

-- ---- the disk

module _ (k : Kind) (t : Tree) (body : List ℕ) (told : Tell true 2 (entry body ∷ []) (history.start k t ∷ [])) where
  -- the disk holds the new store
  pub kept-started : {R S : Type 0} (d : Db R S) (v : View) → d.version ≡ 2 → Describes header (entry body ∷ []) d.journal v → IsKept true d (history.start k t ∷ []) v
  kept-started d v two described = record {
    head = header;
    is_head = rw two new-head;
    frames = entry body ∷ [];
    some = omega arith;
    described = described;
    tell = rw two told;
  }

  -- a crash leaves what it could leave before, a vacant file or the new store
  pub crash-started : (v w x : View) → ViewRests v w → ViewKeeps (IsOldOrVacantOrNew w (entry body)) w x → ViewKeeps (IsOldOrVacantOrStart v k t) v x
  crash-started v w x rests made =
      keeps_then (IsOldOrVacantOrStart v k t) (IsOldOrVacantOrNew w (entry body)) v w x
      (keeps_rests (IsOldOrVacantOrStart v k t) v v w (keeps_none (IsOldOrVacantOrStart v k t) v (λ c i. inl i)) rests)
      made
      (λ c h. ⊎_elim (λ i. inl (rests.images c i)) (λ n. ⊎_elim (λ vacant. inr (inl vacant)) (λ stands. inr (inr (store-stands 2 header (entry body ∷ []) (history.start k t ∷ []) c new-head (omega arith) told stands))) n) h)

  -- from the first sync on it leaves a vacant file or the new store
  pub settles-started : (v w x : View) → ViewRests v w → SettlesInto (IsVacantOrNew (entry body)) w x → SettlesInto (IsVacantOrStart k t) v x
  settles-started v w x rests made = ⊎_elim
      (λ still. inl (rests_then v w x rests still))
      (λ settled. inr (record {
        moment = settled.moment;
        later = omega (arith, rests.later, settled.later);
        passed = settled.passed;
        only = λ c i. ⊎_elim (λ vacant. inl vacant) (λ stands. inr (store-stands 2 header (entry body ∷ []) (history.start k t ∷ []) c new-head (omega arith) told stands)) (settled.only c i);
      })) made

-- ---- want of memory

-- what rose since later rose since earlier
rose_since : (a b n : ℕ) → a ≤ b → Rose b n → Rose a n
rose_since a b n less rose = omega (arith, less, rose)

-- the faults of a journal, as a call that makes a store tells them
abbrev pub TellsJournal : JournalFault → InitFault → Type 0
TellsJournal f e = (f ≡ journal.Disk → e ≡ init.Disk) × (f ≡ journal.Memory → e ≡ init.Memory)

-- where a new store wants memory, nothing was written or the wants have risen
pub memory-started : {J D : Type 0} (r : Result J JournalFault) (f : JournalFault) (e : InitFault) → r ≡ Err f → TellsJournal f e → e ≡ init.Memory → IsErrOf r journal.Disk ⊎ IsErrOf r journal.Memory
    → (view : D → View) (v : View) (y z : D) (a b n : ℕ) → ViewRests v (view y) → a ≤ b → (IsErrOf r journal.Memory → (z ≡ y) ⊎ Rose b n) → ViewRests v (view z) ⊎ Rose a n
memory-started {D = D} r f e failed tells memory (inl disk) view v y z a b n rests less why =
    let same : f ≡ journal.Disk = cc in
    let other : init.Disk ≡ init.Memory = sym (tells.0 same) ∙ memory in
    absurd (cc)
memory-started {D = D} r f e failed tells memory (inr want) view v y z a b n rests less why =
    ⊎_elim (λ same. inl (subst (λ (d : D). ViewRests v (view d)) (sym same) rests)) (λ rose. inr (rose_since a b n less rose)) (why want)
