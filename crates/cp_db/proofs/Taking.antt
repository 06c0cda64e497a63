-- What a database keeps in memory where one entry more is replayed.
use Rattle.std.specs.Prelude.{ℕ, ◌≡◌, ◌≤◌, ◌+◌, ◌++◌, Bool, true, false, List, [], ◌∷◌, length, fold, is_some, refl}
use Rattle.std.proofs.Common.{sym, ap, subst, ◌∙◌, arith, append-nil}
use Rattle.std.specs.List.{flat_map}
use Rattle.std.specs.declared.option.Option.{Option}
use Rattle.std.specs.Option.{option_map}
use Rattle.std.specs.declared.option.Option.TheVariants.{None, Some}
use Rattle.std.proofs.lemmas.List.Concat.{flat_map-append}
use Rattle.std.proofs.lemmas.List.Sums.{fold-append}
use Rattle.cp_path.specs.Text.{text_eq}
use Rattle.cp_model.specs.declared.limits.TheConstants.{SOURCES_MAX}
use Rattle.cp_model.specs.declared.kind.Kind.{Kind}
use Rattle.cp_model.specs.declared.literal.Literal.{Literal}
use Rattle.cp_model.specs.declared.answer.Stats.{Stats}
use Rattle.cp_model.specs.declared.record.Record.{Record}
use Rattle.cp_model.specs.Answers.{stats}
use Rattle.cp_model.specs.Keyed.{from_entries, len}
use Rattle.cp_model.specs.Literals.{literal_rows}
use Rattle.cp_model.specs.Past.{Aged}
use Rattle.cp_model.specs.Place.{target}
use Rattle.cp_model.specs.Tree.{Tree, IsTree, Source, source}
use Rattle.cp_model.specs.History.{State, load, start_state, after_load, then_entry, CanFollow, CanLoad}
use Rattle.cp_model.proofs.Contents.{tree_of-aged}
use Rattle.cp_model.proofs.Histories.{sound-begun, sound-then}
use Rattle.cp_db.proofs.TakingCounts.{len-mapped}
use Rattle.cp_frame.specs.Trees.{rows_of}
use Rattle.cp_frame.specs.Entries as written
use Rattle.cp_frame.specs.Entries.{WrittenEntry, IsEntry}
use Rattle.cp_frame.specs.Sound.{IsSoundSource}
use Rattle.cp_frame.specs.declared.entry.Entry.TheVariants as entry
use Rattle.cp_operation.specs.Loaded.{sources_in}
use Rattle.cp_frame.specs.Items.{Item, AllStand, an_entry, CanStand, after_item, entry_meant, entries_in, records_in, records_with}
use Rattle.cp_frame.proofs.Standing.{legal-items, replayed-items, stand-append}
use Rattle.cp_db.specs.Committed.{HasRows, HasTaken, IsLoaded, KeepsState, LeadsTo, LoadsSource}
use Rattle.cp_db.specs.declared.committed.Committed.{Committed}

-- nothing is found where what is looked up gives nothing
pub none-found : {X Y : Type 0} (f : X → Y) (o : Option X) (p : Option Y) (b : Bool) → option_map f o ≡ p → b ≡ is_some o → b ≡ false → is_some p ≡ false
none-found f o p b e is none = ap is_some (sym e) ∙ mapped o ∙ sym is ∙ none
  where
    mapped : (o : _) → is_some (option_map f o) ≡ is_some o
    mapped None = refl
    mapped (Some x) = refl

-- items that stand from the beginning on have a history that leads where they lead
pub led-from : (first : Option State) (items : List Item) (s : State) → first ≡ None → AllStand false first items → fold after_item first items ≡ Some s → LeadsTo (flat_map entries_in items) s
led-from first items s none stand leads = record {
  legal = legal-items false items (subst (λ (o : Option State). AllStand false o items) none stand);
  replayed = replayed-items items ∙ ap (λ (o : Option State). fold after_item o items) (sym none) ∙ leads;
}

module _ {R S : Type 0} (view : R → Tree) (source_view : S → Tree) where
  -- a tree without sources is the state of its start
  pub keeps-begun : (k : Kind) (c : Committed R S) → IsTree (view c.tree) → sources_in source_view c.sources ≡ [] → c.store.kind ≡ k → c.store.rows.upto ≡ 0 → c.commits ≡ 0 → KeepsState view source_view c (start_state k (view c.tree))
  unfolding start_state
  keeps-begun k c tree none kind upto counted = record {
    kind = kind;
    sources = none;
    tree = sym (tree_of-aged (view c.tree));
    upto = upto;
    commits = counted;
    tids = omega arith;
    few = omega arith;
    sound = sound-begun k (view c.tree) tree;
  }

  -- what is counted are the numbers of the state
  pub stats-kept : (c : Committed R S) (s : State) (z : KeepsState view source_view c s) → HasRows c s → (r : Stats) → r.kind ≡ c.store.kind → r.tid ≡ c.store.rows.upto → r.transactions ≡ c.commits → r.records ≡ length c.store.rows.list → r.nodes ≡ len (view c.tree) → r.sources ≡ length (sources_in source_view c.sources) → r ≡ stats s
  stats-kept c s z has r kind tid commits rows nodes sources = λ i. record {
    kind = (kind ∙ z.kind) i;
    tid = (tid ∙ z.upto) i;
    transactions = (commits ∙ z.commits) i;
    records = (rows ∙ ap length has) i;
    nodes = (nodes ∙ ap len z.tree ∙ len-mapped (λ _ (x : Aged). x.content) s.tree) i;
    sources = (sources ∙ ap length z.sources) i;
  }

  -- the state of items that have been taken is that of their history
  pub taken-leads : (c : Committed R S) (items : List Item) (t : HasTaken view source_view None c items) → LeadsTo (flat_map entries_in items) t.state
  taken-leads c items t = led-from None items t.state refl t.stand t.replayed

  module _ (c m : Committed R S) where
    -- a source that may be loaded has been
    pub keeps-loaded : (n : List ℕ) (t : Tree) (s : State) (z : KeepsState view source_view c s) → CanLoad s n t → m.tree ≡ c.tree → m.store ≡ c.store → m.commits ≡ c.commits
        → sources_in source_view m.sources ≡ sources_in source_view c.sources ++ record { name = n; tree = t } ∷ [] → KeepsState view source_view m (after_load s n t)
    keeps-loaded n t s z can tree store counted added = record {
      kind = ap (λ s. s.kind) store ∙ z.kind;
      sources = added ∙ ap (λ (ss : List Source). ss ++ record { name = n; tree = t } ∷ []) z.sources;
      tree = ap view tree ∙ z.tree;
      upto = ap (λ s. s.rows.upto) store ∙ z.upto;
      commits = counted ∙ z.commits;
      tids = z.tids;
      few = z.few;
      sound = sound-then (Some s) (load n t) z.sound can;
    }

  module _ (first : Option State) (c m : Committed R S) where
    -- ---- one entry more

    -- the entry is taken where it may stand, the state after it is kept, and its records are
    pub taken-more : (items : List Item) (w : WrittenEntry) (old : HasTaken view source_view first c items) → CanStand false (Some old.state) (an_entry w) → (z : State) → then_entry (Some old.state) (entry_meant w) ≡ Some z → KeepsState view source_view m z
        → m.store.rows.list ≡ c.store.rows.list ++ records_with w → HasTaken view source_view first m (items ++ an_entry w ∷ [])
    taken-more items w old can z is keeps kept = record {
      stand = stand-append false first items (an_entry w ∷ []) old.stand (subst (λ (o : Option State). CanStand false o (an_entry w)) (sym old.replayed) can, tt);
      state = z;
      replayed = fold-append after_item first items (an_entry w ∷ []) ∙ ap (λ (o : Option State). then_entry o (entry_meant w)) old.replayed ∙ is;
      keeps = keeps;
      kept =
          kept ∙ ap (λ (rs : List Record). rs ++ records_with w) old.kept
          ∙ ap (λ (rs : List Record). flat_map records_in items ++ rs) (sym (append-nil (records_with w)))
          ∙ sym (flat_map-append records_in items (an_entry w ∷ []));
    }

    -- ---- sources

    module _ (items : List Item) (old : HasTaken view source_view first c items) (n : List ℕ) (l : Literal) where
      abbrev s : State
      s = old.state

      -- a sound source may be loaded where its name is no other's and there are few
      can_load : (more : List Source) → IsSoundSource n l → IsLoaded (sources_in source_view c.sources) more n l → CanLoad s n (from_entries (literal_rows l))
      can_load more sound is =
          let few = is.few in
          record {
            loadable = record { name = sound.name; other = is.other; tree = sound.tree; places = sound.places };
            fresh = ap (λ (ss : List Source). is_some (source ss n)) (sym old.keeps.sources) ∙ is.fresh;
            few = subst (λ k. k + 1 ≤ SOURCES_MAX) (ap length old.keeps.sources) (omega (arith, few));
          }

      -- it has been taken
      pub taken-source : (w : WrittenEntry) → IsEntry (entry.Load n l) w → IsSoundSource n l → IsLoaded (sources_in source_view c.sources) (sources_in source_view m.sources) n l
          → m.tree ≡ c.tree → m.store ≡ c.store → m.commits ≡ c.commits → HasTaken view source_view first m (items ++ an_entry w ∷ [])
      taken-source (written.start k t) is sound loaded tree store counted = absurd is
      taken-source (written.load i t) is sound loaded tree store counted =
          let can = can_load (sources_in source_view m.sources) sound loaded in
          let means : load i (from_entries (rows_of t)) ≡ load n (from_entries (literal_rows l)) = λ j. load (is.0 j) (from_entries (is.1 j)) in
          taken-more items (written.load i t) old
          (subst (CanFollow (Some s)) (sym means) can, tt)
          (after_load s n (from_entries (literal_rows l)))
          (ap (then_entry (Some s)) means)
          (keeps-loaded c m n (from_entries (literal_rows l)) s old.keeps can tree store counted loaded.added)
          (ap (λ s. s.rows.list) store ∙ sym (append-nil c.store.rows.list))
      taken-source (written.commit b) is sound loaded tree store counted = absurd is
      taken-source (written.stamped r b) is sound loaded tree store counted = absurd is

      -- one that may not be loaded may not follow
      pub refused-source : (w : WrittenEntry) (more : List Source) → IsEntry (entry.Load n l) w → LoadsSource (sources_in source_view c.sources) more n l false → CanStand false (fold after_item first items) (an_entry w) → ⊥
      refused-source (written.start k t) more is none can = absurd is
      refused-source (written.load i t) more is none can =
          let may : CanLoad s i (from_entries (rows_of t)) = subst (λ (o : Option State). CanFollow o (load i (from_entries (rows_of t)))) old.replayed can.0 in
          let few = subst (λ k. k + 1 ≤ SOURCES_MAX) (sym (ap length old.keeps.sources)) may.few in
          none
          (subst (λ (j : List ℕ). text_eq j target ≡ false) is.0 may.loadable.other)
          (subst (λ (j : List ℕ). is_some (source (sources_in source_view c.sources) j) ≡ false) is.0 (ap (λ (ss : List Source). is_some (source ss i)) old.keeps.sources ∙ may.fresh))
          (omega (arith, few))
      refused-source (written.commit b) more is none can = absurd is
      refused-source (written.stamped r b) more is none can = absurd is
