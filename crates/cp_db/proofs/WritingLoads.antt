-- A source more: its entry, and what the database stands for then.
use Rattle.std.proofs.Common.{◌≡◌, T, ℕ, ◌<◌, ◌≤◌, ◌+◌, Bool, true, false, List, [], ◌∷◌, ◌++◌, length, is_some, refl, inl, inr, sym, ap, ◌∙◌, subst, arith, append-nil, Err}
use Rattle.std.proofs.lemmas.Bool.Decides.{nat_tests}
use Rattle.std.specs.Option.{option_map}
use Rattle.std.specs.Prelude.{◌==◌, ◌⊎◌, if◌then◌else◌}
use Rattle.std.specs.declared.option.Option.{Option}
use Rattle.std.specs.declared.option.Option.TheVariants.{None, Some}
use Rattle.std.specs.FinMap.Entries.{is_sorted}
use Rattle.cp_model.specs.declared.limits.TheConstants.{SOURCES_MAX}
use Rattle.cp_model.specs.declared.literal.Literal.{Literal}
use Rattle.cp_model.specs.declared.row.Content.{Content}
use Rattle.cp_model.specs.Keyed.{from_entries}
use Rattle.cp_model.specs.Literals.{literal_rows}
use Rattle.cp_model.specs.Place.{Path, path_cmp}
use Rattle.cp_model.specs.Subtrees.{is_there}
use Rattle.cp_model.specs.Tree.{Tree, Source, IsTree, source}
use Rattle.cp_model.specs.History.{Entry, State, CanFollow, CanLoad, IsLiteral, IsSource, after_load, replay, then_entry}
use Rattle.cp_model.specs.History as history
use Rattle.cp_model.proofs.Histories.{replay-snoc, legal-snoc}
use Rattle.cp_format.specs.Formats.{Reads}
use Rattle.cp_frame.specs.Entries.{IsEntry, WrittenEntry, start, load, commit, stamped, entry_format, written_entry}
use Rattle.cp_frame.specs.Sound.{IsSoundEntry}
use Rattle.cp_frame.specs.Trees.{rows_of}
use Rattle.cp_frame.specs.declared.entry.Entry.TheVariants as frame
use Rattle.cp_operation.specs.Loaded.{sources_in}
use Rattle.cp_frame.specs.Items.{IsOfVersion, CanStand, an_entry, entry_meant}
use Rattle.cp_frame.specs.Sizes.{load_size}
use Rattle.cp_frame.proofs.Measures.{load-measured}
use Rattle.cp_db.specs.Committed.{KeepsState, LeadsTo}
use Rattle.cp_db.specs.Databases.{HoldsState}
use Rattle.cp_db.specs.Writing.{HasLoaded, in_the_way}
use Rattle.cp_db.specs.declared.committed.Committed.{Committed}
use Rattle.cp_db.specs.declared.database.Db.{Db}
use Rattle.cp_db.specs.declared.fault.LoadFault.{LoadFault}
use Rattle.cp_db.specs.declared.fault.LoadFault.TheVariants as fault
use Rattle.cp_db.proofs.WritingFrames.{IsNext}

module _ (n : List ℕ) (l : Literal) (t : Tree) (literal : IsLiteral (literal_rows l)) (is : from_entries (literal_rows l) ≡ t) where
  -- the entry of a tree that may be loaded may be written
  pub load-sound : IsSource n t → IsSoundEntry (frame.Load n l)
  load-sound source = record {
    name = source.name;
    literal = literal;
    tree = subst IsTree (sym is) source.tree;
    places = λ p there. source.places p (subst (λ (u : Tree). is_there u p ≡ true) is there);
  }

  -- it means that the tree is loaded
  load_meant : (w : WrittenEntry) → IsEntry (frame.Load n l) w → entry_meant w ≡ history.load n t
  load_meant (start k u) e = absurd e
  load_meant (load m u) e =
      ap (λ (x : List ℕ). history.load x (from_entries (rows_of u))) e.0
      ∙ ap (λ (rows : List (Path × Content)). history.load n (from_entries rows)) e.1
      ∙ ap (history.load n) is
  load_meant (commit b) e = absurd e
  load_meant (stamped s b) e = absurd e

  load_allowed : (version : ℕ) (w : WrittenEntry) → IsEntry (frame.Load n l) w → IsOfVersion version w
  load_allowed version (start k u) e = absurd e
  load_allowed version (load m u) e = tt
  load_allowed version (commit b) e = absurd e
  load_allowed version (stamped s b) e = absurd e

  load_follows : (s : State) (w : WrittenEntry) → IsEntry (frame.Load n l) w → CanFollow (Some s) (entry_meant w) → CanStand true (Some s) (an_entry w)
  load_follows s (start k u) e can = absurd e
  load_follows s (load m u) e can = (can, tt)
  load_follows s (commit b) e can = absurd e
  load_follows s (stamped r b) e can = absurd e

  -- it may follow a history after which the tree may be loaded
  pub load-next : (version : ℕ) (h : List Entry) (s : State) (body : List ℕ) (w : WrittenEntry) → replay h ≡ Some s → CanLoad s n t → IsEntry (frame.Load n l) w → Reads entry_format body w [] → IsNext version h (history.load n t) body
  load-next version h s body w replayed can e read = record {
    written = w;
    read = read;
    allowed = load_allowed version w e;
    can = subst (λ (o : Option State). CanStand true o (an_entry w)) (sym replayed) (load_follows s w e (subst (CanFollow (Some s)) (sym (load_meant w e)) can));
    means = load_meant w e;
  }

  -- it has as many bytes as are counted for it
  pub load-length : (body : List ℕ) (w : WrittenEntry) → IsEntry (frame.Load n l) w → Reads entry_format body w [] → length body ≡ load_size n t
  load-length body (start k u) e read = absurd e
  load-length body (load m u) e read =
      ap length (read.is ∙ append-nil (written_entry (load m u)))
      ∙ load-measured m u read.fit (subst (λ (rows : List (Path × Content)). T (is_sorted path_cmp rows)) (sym e.1) literal.sorted)
      ∙ ap (λ (x : List ℕ). load_size x (from_entries (rows_of u))) e.0
      ∙ ap (λ (rows : List (Path × Content)). load_size n (from_entries rows)) e.1
      ∙ ap (load_size n) is
  load-length body (commit b) e read = absurd e
  load-length body (stamped s b) e read = absurd e

module _ {R S : Type 0} (view : R → Tree) (source_view : S → Tree) (c : Committed R S) (s : State) (z : KeepsState view source_view c s) (n : List ℕ) (t : Tree) (can : CanLoad s n t) where
  -- the name is new
  pub load-new : is_some (source (sources_in source_view c.sources) n) ≡ false
  load-new = ap (λ (ss : List Source). is_some (source ss n)) z.sources ∙ can.fresh

  -- and there is room for a source more
  pub load-few : length (sources_in source_view c.sources) < SOURCES_MAX
  load-few = omega (arith, ap length z.sources, can.few)

-- a history that led to the state leads, with the load, to that with the source
pub load-leads : (s : State) (n : List ℕ) (t : Tree) → CanLoad s n t → (h : List Entry) → LeadsTo h s → LeadsTo (h ++ history.load n t ∷ []) (after_load s n t)
load-leads s n t can h led = record {
  legal = legal-snoc h (history.load n t) led.legal (subst (λ (o : Option State). CanFollow o (history.load n t)) (sym led.replayed) can);
  replayed = replay-snoc h (history.load n t) ∙ ap (λ (o : Option State). then_entry o (history.load n t)) led.replayed;
}

-- ---- what is in the way of a source

-- what is found is there, in whatever way it is seen
pub is_some-seen : {A B : Type 0} (f : A → B) (o : Option A) (q : Option B) → option_map f o ≡ q → is_some q ≡ is_some o
is_some-seen f None q e = ap is_some (sym e)
is_some-seen f (Some x) q e = ap is_some (sym e)

all_taken : (n : ℕ) → n ≡ SOURCES_MAX → n == SOURCES_MAX ≡ true
all_taken n e = grind (arith, nat_tests)

not_all_taken : (n : ℕ) → (n ≡ SOURCES_MAX → ⊥) → n == SOURCES_MAX ≡ false
not_all_taken n e = grind (arith, nat_tests)

one_more : (n : ℕ) → n ≤ SOURCES_MAX → n == SOURCES_MAX ≡ false → n + 1 ≤ SOURCES_MAX
one_more n few e = grind (arith, nat_tests)

-- by whether the name is taken, and whether all sources are
abbrev way : Bool → Bool → Option LoadFault
way there many = if there then Some fault.SourceThere else if many then Some fault.TooManySources else None

way_clear : (there many : Bool) → way there many ≡ None → (there ≡ false) × (many ≡ false)
way_clear true many h = absurd (cc)
way_clear false true h = absurd (cc)
way_clear false false h = (refl, refl)

way_kinds : (there many : Bool) (e : LoadFault) → Some e ≡ way there many → (e ≡ fault.SourceThere) ⊎ (e ≡ fault.TooManySources)
way_kinds true many e h = inl (cc)
way_kinds false true e h = inr (cc)
way_kinds false false e h = absurd (cc)

module _ (s : State) (n : List ℕ) where
  module _ (ss : List Source) (loaded : ss ≡ s.sources) where
    there_is : (b : Bool) → is_some (source ss n) ≡ b → is_some (source s.sources n) ≡ b
    there_is b e = ap (λ (xs : List Source). is_some (source xs n)) (sym loaded) ∙ e

    many_is : (b : Bool) → length ss == SOURCES_MAX ≡ b → length s.sources == SOURCES_MAX ≡ b
    many_is b e = ap (λ (xs : List Source). length xs == SOURCES_MAX) (sym loaded) ∙ e

    -- a source of this name
    pub way-there : is_some (source ss n) ≡ true → Some fault.SourceThere ≡ in_the_way s n
    way-there there = sym (ap (λ b. way b (length s.sources == SOURCES_MAX)) (there_is true there))

    -- else that there are as many as may be
    pub way-many : is_some (source ss n) ≡ false → length ss ≡ SOURCES_MAX → Some fault.TooManySources ≡ in_the_way s n
    way-many new many = sym (ap (λ b. way b (length s.sources == SOURCES_MAX)) (there_is false new) ∙ ap (way false) (many_is true (all_taken (length ss) many)))

    -- else nothing
    pub way-none : is_some (source ss n) ≡ false → (length ss ≡ SOURCES_MAX → ⊥) → None ≡ in_the_way s n
    way-none new many = sym (ap (λ b. way b (length s.sources == SOURCES_MAX)) (there_is false new) ∙ ap (way false) (many_is false (not_all_taken (length ss) many)))

  -- it is one of the two
  pub way-kinds : (e : LoadFault) → Some e ≡ in_the_way s n → (e ≡ fault.SourceThere) ⊎ (e ≡ fault.TooManySources)
  way-kinds e h = way_kinds (is_some (source s.sources n)) (length s.sources == SOURCES_MAX) e h

module _ {R S : Type 0} (view : R → Tree) (source_view : S → Tree) (d : Db R S) (n : List ℕ) (t : Tree) where
  -- where nothing is in its way, the source may be loaded on whatever state the database holds
  pub can-load : (w : Option LoadFault) → IsSource n t → w ≡ None → ((s : State) → HoldsState view source_view d s → w ≡ in_the_way s n) → (s : State) → HoldsState view source_view d s → CanLoad s n t
  can-load w loadable none is s z =
      let free = way_clear (is_some (source s.sources n)) (length s.sources == SOURCES_MAX) (sym (is s z) ∙ none) in
      record { loadable = loadable; fresh = free.0; few = one_more (length s.sources) z.committed.sound.sources.few free.1 }

  module _ (s : State) where
    abbrev Loaded : Db R S → LoadFault → Type 0
    Loaded m e = HasLoaded view source_view d s n t m (Err e)

    -- what is in the way is told
    pub loaded-not : (e : LoadFault) → Some e ≡ in_the_way s n → Loaded d e
    loaded-not e h = elim (way-kinds s n e h) [
      | inl is ↦ subst (Loaded d) (sym is) (sym h ∙ ap (λ (x : LoadFault). Some x) is, refl)
      | inr is ↦ subst (Loaded d) (sym is) (sym h ∙ ap (λ (x : LoadFault). Some x) is, refl)
    ]
