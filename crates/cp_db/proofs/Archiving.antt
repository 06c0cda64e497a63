-- The versions of a history, item by item, and those of a file, of what a walk did.
use Rattle.std.specs.Prelude.{ℕ, ◌≡◌, ◌≤◌, ◌+◌, ◌++◌, Bool, false, List, [], ◌∷◌, fold, length, refl, Result, Ok, Err}
use Rattle.std.proofs.Common.{sym, ap, subst, ◌∙◌, arith, append-nil, length-append}
use Rattle.std.specs.List.{flat_map}
use Rattle.std.specs.declared.option.Option.{Option}
use Rattle.std.specs.declared.option.Option.TheVariants.{None, Some}
use Rattle.std.proofs.lemmas.List.Concat.{flat_map-append}
use Rattle.std.proofs.lemmas.List.Sums.{fold-append}
use Rattle.std.proofs.lemmas.Option.{same_Some}
use Rattle.cp_archive.specs.Histories.{AreVersions, trees_of_history, trees_from, trees_of_steps}
use Rattle.cp_archive.proofs.HistoryTrees.{steps-count, trees-are-versions, trees-more, until-stage}
use Rattle.cp_model.specs.declared.kind.Kind.{Kind}
use Rattle.cp_model.specs.declared.op.Op.{Op}
use Rattle.cp_model.specs.declared.record.Record.{Record}
use Rattle.cp_model.specs.Past.{tree_of}
use Rattle.cp_model.specs.Tree.{Tree, Source}
use Rattle.cp_model.specs.History.{Entry as History, State, start_state, after_commit, then_entry, replay, steps_of, AreWritten}
use Rattle.cp_model.proofs.Contents.{tree_of-aged}
use Rattle.cp_model.proofs.VersionLemmas.{committed-as}
use Rattle.cp_operation.specs.Passed.{AllAccepted, tree_until}
use Rattle.cp_frame.specs.Entries.{WrittenEntry, start, load, commit, stamped}
use Rattle.cp_frame.specs.Items.{Item, an_entry, a_checkpoint, AllStand, AreHeld, after_item, entry_meant, entries_in, records_in}
use Rattle.cp_frame.specs.Stands.{IsTold, header_of}
use Rattle.cp_frame.proofs.Images.{legal_history, one_history}
use Rattle.cp_frame.proofs.Standing.{held-one, replayed-items, rows-right}
use Rattle.cp_db.specs.Archives.{ArchivesAs, AreVersionsOf, HasVersions}
use Rattle.cp_db.specs.Committed.{IsReplayed, LeadsTo, TidsLieBetween}
use Rattle.cp_db.specs.Walk.{FindsAs, HasFound}
use Rattle.cp_db.specs.Work.{BeginsWith, Beginning, CommitMoment, IsAtCommit, IsBegun, IsPassed}
use Rattle.cp_db.specs.declared.archive.Kept.{Kept}
use Rattle.cp_db.specs.declared.fault.OpenFault.{OpenFault}
use Rattle.cp_db.specs.declared.fault.OpenFault.TheVariants.{NoStore, Disk, Memory}
use Rattle.cp_db.specs.declared.work.CommitAt.{CommitAt}
use Rattle.cp_db.specs.declared.work.Passed.{Passed}
use Rattle.cp_db.specs.declared.work.Passed.TheVariants.{Load, Checkpoint}
use Rattle.cp_db.proofs.Taking.{led-from}
use Rattle.cp_db.proofs.TakingCommits.{may_when}
use Rattle.cp_db.proofs.Walking.{no-record, rows-begun, rows-commit, rows-stay}

-- ---- the beginning

begun_leads : (items : List Item) (s : State) → BeginsWith None items s → fold after_item None items ≡ Some s
begun_leads [] s is = absurd is
begun_leads (i ∷ []) s is = is.1
begun_leads (i ∷ j ∷ items) s is = absurd is

start_tree : (k : Kind) (t : Tree) → tree_of (start_state k t).tree ≡ t
unfolding start_state
start_tree k t = tree_of-aged t

begun_trees : (items : List Item) (s : State) (t : Tree) → BeginsWith None items s → tree_of s.tree ≡ t → t ∷ [] ≡ trees_of_history (flat_map entries_in items)
begun_trees [] s t is e = absurd is
begun_trees (an_entry (start k u) ∷ []) s t is e = ap (λ x. x ∷ []) (sym e ∙ ap (λ (z : State). tree_of z.tree) (sym (same_Some _ s is.1)) ∙ start_tree k _)
begun_trees (an_entry (load n u) ∷ []) s t is e = absurd is.0.0
begun_trees (an_entry (commit b) ∷ []) s t is e = absurd is.0.0
begun_trees (an_entry (stamped r b) ∷ []) s t is e = absurd is.0.0
begun_trees (a_checkpoint body ∷ []) s t is e = let none : None ≡ Some s = is.1 in absurd (cc none)
begun_trees (i ∷ j ∷ items) s t is e = absurd is

-- what a walk begins with has one version
pub versions-begun : (kept : Kept) (kind : Kind) (last : ℕ) (t : Tree) → kept.kind ≡ kind → kept.archive ≡ t ∷ [] → kept.rows ≡ []
    → (first : Option State) (items : List Item) (s : State) → IsBegun first items s kind last t → first ≡ None → AreVersionsOf items kept
versions-begun kept kind last t k one none first items s is e =
    let begins : BeginsWith None items s = subst (λ (o : Option State). BeginsWith o items s) e is.begins in
    record {
      of_kind = λ z leads. k ∙ sym is.of_kind ∙ ap (λ (x : State). x.kind) (same_Some s z (sym (begun_leads items s begins) ∙ leads));
      trees = one ∙ begun_trees items s t begins is.tree;
      rows = none ∙ rows-begun None items s begins;
    }

-- ---- one item more

module _ (items : List Item) (s : State) (leads : fold after_item None items ≡ Some s) where
  -- where the kind stays, it is that of the history
  kind_more : (i : Item) (k : Kind) → k ≡ s.kind → ((z : State) → after_item (Some s) i ≡ Some z → z.kind ≡ s.kind) → (z : State) → fold after_item None (items ++ i ∷ []) ≡ Some z → k ≡ z.kind
  kind_more i k is stays z more = is ∙ sym (stays z (ap (λ (o : Option State). after_item o i) (sym leads) ∙ sym (fold-append after_item None items (i ∷ [])) ∙ more))

  passed_kind : (p : Passed) (place : ℕ) (i : Item) → IsPassed p place i → (z : State) → after_item (Some s) i ≡ Some z → z.kind ≡ s.kind
  passed_kind (Load at) place (an_entry (start k u)) is z e = absurd is
  passed_kind (Load at) place (an_entry (load n u)) is z e = ap (λ (x : State). x.kind) (sym (same_Some _ z e))
  passed_kind (Load at) place (an_entry (commit b)) is z e = absurd is
  passed_kind (Load at) place (an_entry (stamped r b)) is z e = absurd is
  passed_kind (Load at) place (a_checkpoint body) is z e = absurd is
  passed_kind (Checkpoint at) place (an_entry w) is z e = absurd is
  passed_kind (Checkpoint at) place (a_checkpoint body) is z e = ap (λ (x : State). x.kind) (sym (same_Some s z e))

-- the versions of items with an entry more
trees_item : (items : List Item) (s : State) (x : WrittenEntry) → LeadsTo (flat_map entries_in items) s → trees_of_history (flat_map entries_in (items ++ an_entry x ∷ [])) ≡ trees_of_history (flat_map entries_in items) ++ trees_from s (entry_meant x ∷ [])
trees_item items s x led = ap trees_of_history (flat_map-append entries_in items (an_entry x ∷ [])) ∙ trees-more (flat_map entries_in items) s (entry_meant x) led.legal led.replayed

trees_passed : (ts : List Tree) (items : List Item) (s : State) (p : Passed) (place : ℕ) (i : Item) → ts ≡ trees_of_history (flat_map entries_in items) → LeadsTo (flat_map entries_in items) s → IsPassed p place i → ts ≡ trees_of_history (flat_map entries_in (items ++ i ∷ []))
trees_passed ts items s (Load at) place (an_entry (start k u)) found led is = absurd is
trees_passed ts items s (Load at) place (an_entry (load n u)) found led is = found ∙ sym (append-nil (trees_of_history (flat_map entries_in items))) ∙ sym (trees_item items s (load n u) led)
trees_passed ts items s (Load at) place (an_entry (commit b)) found led is = absurd is
trees_passed ts items s (Load at) place (an_entry (stamped r b)) found led is = absurd is
trees_passed ts items s (Load at) place (a_checkpoint body) found led is = absurd is
trees_passed ts items s (Checkpoint at) place (an_entry w) found led is = absurd is
trees_passed ts items s (Checkpoint at) place (a_checkpoint body) found led is = found ∙ ap trees_of_history (sym (flat_map-append entries_in items (a_checkpoint body ∷ []) ∙ append-nil (flat_map entries_in items)))

-- what is passed adds none
pub versions-stay : (kept : Kept) (first : Option State) (items : List Item) (s : State) (p : Passed) (place : ℕ) (i : Item) → (first ≡ None → AreVersionsOf items kept) → AllStand false first items → fold after_item first items ≡ Some s → IsPassed p place i → first ≡ None → AreVersionsOf (items ++ i ∷ []) kept
versions-stay kept first items s p place i found stand leads is none =
    let old = found none in
    let here : fold after_item None items ≡ Some s = ap (λ (o : Option State). fold after_item o items) (sym none) ∙ leads in
    record {
      of_kind = kind_more items s here i kept.kind (old.of_kind s here) (passed_kind items s here p place i is);
      trees = trees_passed kept.archive items s p place i old.trees (led-from first items s none stand leads) is;
      rows = rows-stay kept.rows items i old.rows (no-record p place i is);
    }

-- ---- a commit

module _ (old new : Kept) (begun : Beginning) (items : List Item) (s : State) (x : WrittenEntry) (c : CommitAt) (moment : CommitMoment) (is : IsAtCommit begun items s x c moment) where
  -- the trees that the commit's steps lead to, each after the one before
  abbrev trees_made : List Tree
  trees_made = trees_of_steps moment.kind moment.sources moment.tree c.ops

  commit_kind : (z : State) → after_item (Some s) (an_entry x) ≡ Some z → z.kind ≡ s.kind
  commit_kind z e =
      let can = (may_when false s x c.ops c.records is.holds is.can).0 in
      let made_of : Some (after_commit s c.ops) ≡ Some z = ap (λ (h : History). then_entry (Some s) h) (sym is.means) ∙ e in
      ap (λ (y : State). y.kind) (sym (same_Some (after_commit s c.ops) z made_of)) ∙ (committed-as s c.ops can).1

  -- the trees after its steps
  commit_trees : trees_from s (entry_meant x ∷ []) ≡ trees_made
  commit_trees =
      ap (λ (h : History). trees_from s (h ∷ [])) is.means
      ∙ append-nil (trees_of_steps s.kind s.sources (tree_of s.tree) c.ops)
      ∙ ap (λ (k : Kind). trees_of_steps k s.sources (tree_of s.tree) c.ops) is.of_kind
      ∙ ap (λ (rs : List Source). trees_of_steps moment.kind rs (tree_of s.tree) c.ops) is.sources
      ∙ ap (λ (u : Tree). trees_of_steps moment.kind moment.sources u c.ops) is.tree

  -- a commit adds the versions after its steps
  pub versions-commit : (begun.first ≡ None → AreVersionsOf items old) → new.kind ≡ old.kind → new.archive ≡ old.archive ++ trees_made → new.rows ≡ old.rows ++ c.records → begun.first ≡ None → AreVersionsOf (items ++ an_entry x ∷ []) new
  versions-commit found k trees rows none =
      let before = found none in
      let here : fold after_item None items ≡ Some s = ap (λ (o : Option State). fold after_item o items) (sym none) ∙ is.leads in
      record {
        of_kind = kind_more items s here (an_entry x) new.kind (k ∙ before.of_kind s here) commit_kind;
        trees =
            trees
            ∙ ap (λ (ts : List Tree). ts ++ trees_made) before.trees
            ∙ ap (λ (ts : List Tree). trees_of_history (flat_map entries_in items) ++ ts) (sym commit_trees)
            ∙ sym (trees_item items s x (led-from begun.first items s none is.stand is.leads));
        rows = rows-commit old.rows new.rows begun items s x c moment before.rows is rows;
      }

-- after a commit there are no more versions than Tids, and one
pub versions-few : (old new : List Tree) (kind : Kind) (last : ℕ) (ss : List Source) (t : Tree) (ops : List Op) (tids : ℕ) → length old ≤ last + 1 → new ≡ old ++ trees_of_steps kind ss t ops → tids ≡ length (steps_of kind ops) → length new ≤ last + tids + 1
versions-few old new kind last ss t ops tids few added counted =
    let long = ap length added in
    let sum = length-append old (trees_of_steps kind ss t ops) in
    let count = steps-count ss kind t ops in
    omega (arith, few, counted, long, sum, count)

-- the operations of a commit that all are accepted, with records that have its Tids, are replayed
pub versions-replayed : (ss : List Source) (old new : Tree) (kind : Kind) (last : ℕ) (ops : List Op) (rs : List Record) (tids : ℕ) → AreWritten ops → AllAccepted ss old ops → new ≡ tree_until ss old ops → tids ≡ length (steps_of kind ops) → TidsLieBetween last (last + tids) rs → IsReplayed ss old new kind last ops rs tids
versions-replayed ss old new kind last ops rs tids written accepted tree counted between =
    record { written = written; accepted = accepted; tree = λ j n. tree ∙ until-stage ss j old n ops accepted; counted = counted; between = between }

-- ---- a file

one_items : (c : List ℕ) (p q : Bool) (h i : List History) (a : IsTold p h c) (b : IsTold q i c) → a.items ≡ b.items
one_items c p q h i a b =
    let frames : b.frames ≡ a.frames = sym b.stand.frames ∙ a.stand.frames in
    held-one (header_of c).version a.frames a.items b.items a.held (subst (λ fs. AreHeld (header_of c).version fs b.items) frames b.held)

-- from the beginning on they are the versions of the items
abbrev pub HasArchived : Kept → Option State → (ℕ → ℕ) → List Item → Type 0
HasArchived kept first place items = first ≡ None → AreVersionsOf items kept

module _ (c : List ℕ) (kept : Kept) (f : HasFound HasArchived c kept) (right : Bool) (h : List History) (told : IsTold right h c) where
  same_history : h ≡ f.history
  same_history = one_history c right false h f.history told f.told

  same_items : f.told.items ≡ told.items
  same_items = one_items c false right f.history h f.told told

  replayed : replay h ≡ Some f.state
  replayed = ap replay same_history ∙ f.replayed

  leads : fold after_item None told.items ≡ Some f.state
  leads = sym (replayed-items told.items) ∙ ap replay (sym told.are) ∙ replayed

  archived : HasVersions right h told.items kept
  archived =
      let are = f.done refl in
      record {
        legal = legal_history c right h told;
        state = f.state;
        replayed = replayed;
        of_kind = are.of_kind f.state (ap (fold after_item None) same_items ∙ leads);
        versions = subst (AreVersions h f.state) (ap trees_of_history (told.are ∙ ap (flat_map entries_in) (sym same_items)) ∙ sym are.trees) (trees-are-versions h f.state (legal_history c right h told) replayed);
        stored = are.rows ∙ ap (flat_map records_in) same_items;
        rows = λ asked. are.rows ∙ ap (flat_map records_in) same_items ∙ sym (rows-right told.items f.state (subst (λ (b : Bool). AllStand b None told.items) asked told.tell) leads);
      }

-- what is found is the archive of the file
pub archive-found : (c : List ℕ) (r : Result Kept OpenFault) → FindsAs HasArchived c r → ArchivesAs c r
archive-found c (Ok kept) f = ((f.opens, (f.history, f.told)), archived c kept f)
archive-found c (Err (NoStore at)) f = f
archive-found c (Err Disk) f = tt
archive-found c (Err Memory) f = tt
