-- The log of a history, item by item, and that of a file, of what a walk did.
use Rattle.std.specs.Prelude.{ℕ, ◌≡◌, ◌+◌, ◌++◌, false, List, [], ◌∷◌, fold, length, refl, Result, Ok, Err, IfOk, IfSome}
use Rattle.std.proofs.Common.{sym, ap, subst, ◌∙◌, append-nil}
use Rattle.std.specs.List.{flat_map}
use Rattle.std.specs.declared.option.Option.{Option}
use Rattle.std.specs.declared.option.Option.TheVariants.{None, Some}
use Rattle.std.proofs.lemmas.List.Concat.{flat_map-append}
use Rattle.cp_model.specs.declared.answer.LogLine.{LogLine}
use Rattle.cp_model.specs.declared.kind.Kind.{Kind}
use Rattle.cp_model.specs.declared.stamp.Stamp.{Stamp}
use Rattle.cp_model.specs.History.{Entry as History, State, start as begun, load as loaded, commit as made, start_state, after_commit, after_load, replay, then_entry, IsLegal, IsLegalFrom, log_of, log_after, log_line}
use Rattle.cp_engine.proofs.Committed.{committed, commit-accepted}
use Rattle.cp_frame.specs.Entries.{WrittenEntry, start, load, commit, stamped}
use Rattle.cp_frame.specs.Items.{Item, an_entry, a_checkpoint, AllStand, CanStand, after_item, entry_meant, entries_in}
use Rattle.cp_frame.specs.Stands.{OpensAndReplays}
use Rattle.cp_frame.proofs.Images.{one_history}
use Rattle.cp_db.specs.Committed.{LeadsTo}
use Rattle.cp_db.specs.Log.{LogsAs}
use Rattle.cp_db.specs.Walk.{HasFound}
use Rattle.cp_db.specs.Work.{BeginsWith, Beginning, CommitMoment, IsAtCommit, IsPassed}
use Rattle.cp_db.specs.declared.log.Logging.{Logging}
use Rattle.cp_db.specs.declared.work.CommitAt.{CommitAt}
use Rattle.cp_db.specs.declared.work.Passed.{Passed}
use Rattle.cp_db.specs.declared.work.Passed.TheVariants.{Load, Checkpoint}
use Rattle.cp_db.proofs.Taking.{led-from}

-- ---- the log of one entry more

log_more : (s z : State) (es : List History) (e : History) → IsLegalFrom (Some s) es → fold then_entry (Some s) es ≡ Some z → log_after s.kind s.now (es ++ e ∷ []) ≡ log_after s.kind s.now es ++ log_after z.kind z.now (e ∷ [])
log_more s z [] e legal is = let same : s ≡ z = cc is in ap (λ (x : State). log_after x.kind x.now (e ∷ [])) same
log_more s z (begun k t ∷ es) e legal is = absurd legal.0
log_more s z (loaded n t ∷ es) e legal is = log_more (after_load s n t) z es e legal.1 is
log_more s z (made r os ∷ es) e legal is =
    let a = committed s os legal.0.some (commit-accepted s os legal.0) in
    let rest = log_more (after_commit s os) z es e legal.1 is in
    let kinds = subst (λ (k : Kind). log_after k (after_commit s os).now (es ++ e ∷ []) ≡ log_after k (after_commit s os).now es ++ log_after z.kind z.now (e ∷ [])) a.kind rest in
    let nows = subst (λ (n : ℕ). log_after s.kind n (es ++ e ∷ []) ≡ log_after s.kind n es ++ log_after z.kind z.now (e ∷ [])) a.now kinds in
    ap (λ (ls : List LogLine). log_line s.kind s.now r os ∷ ls) nows

-- an entry adds its line after the last Tid of the history before it
pub log-snoc : (h : List History) (s : State) (e : History) → IsLegal h → replay h ≡ Some s → log_of (h ++ e ∷ []) ≡ log_of h ++ log_after s.kind s.now (e ∷ [])
unfolding replay start_state
log-snoc [] s e legal is = absurd (cc is)
log-snoc (begun k t ∷ es) s e legal is = log_more (start_state k t) s es e legal.1 is
log-snoc (loaded n t ∷ es) s e legal is = absurd legal.0
log-snoc (made r os ∷ es) s e legal is = absurd legal.0

-- what holds in any case holds where a commit was replayed
pub if-any : {T E P : Type 0} (r : Result (Option T) E) → P → IfOk r (λ o. IfSome o (λ t. P))
if-any (Ok (Some t)) p = p
if-any (Ok None) p = tt
if-any (Err e) p = tt

-- ---- a log as the work of a walk

-- from the beginning on the lines are the log of the items
abbrev pub HasLogged : Logging → Option State → (ℕ → ℕ) → List Item → Type 0
HasLogged work first place items = first ≡ None → work.lines ≡ log_of (flat_map entries_in items)

-- what a walk begins with has no line
pub log-begun : (first : Option State) (items : List Item) (s : State) → BeginsWith first items s → first ≡ None → [] ≡ log_of (flat_map entries_in items)
log-begun None [] s is none = absurd is
log-begun None (an_entry (start k u) ∷ []) s is none = refl
log-begun None (an_entry (load n u) ∷ []) s is none = absurd is.0.0
log-begun None (an_entry (commit b) ∷ []) s is none = absurd is.0.0
log-begun None (an_entry (stamped r b) ∷ []) s is none = absurd is.0.0
log-begun None (a_checkpoint body ∷ []) s is none = refl
log-begun None (i ∷ j ∷ items) s is none = absurd is
log-begun (Some z) items s is none = absurd (cc none)

-- the log of items with an entry more
log_item : (items : List Item) (s : State) (x : WrittenEntry) → LeadsTo (flat_map entries_in items) s → log_of (flat_map entries_in (items ++ an_entry x ∷ [])) ≡ log_of (flat_map entries_in items) ++ log_after s.kind s.now (entry_meant x ∷ [])
log_item items s x led = ap log_of (flat_map-append entries_in items (an_entry x ∷ [])) ∙ log-snoc (flat_map entries_in items) s (entry_meant x) led.legal led.replayed

log_passed : (lines : List LogLine) (items : List Item) (s : State) (p : Passed) (place : ℕ) (i : Item) → lines ≡ log_of (flat_map entries_in items) → LeadsTo (flat_map entries_in items) s → IsPassed p place i → lines ≡ log_of (flat_map entries_in (items ++ i ∷ []))
log_passed lines items s (Load at) place (an_entry (start k u)) found led is = absurd is
log_passed lines items s (Load at) place (an_entry (load n u)) found led is = found ∙ sym (append-nil (log_of (flat_map entries_in items))) ∙ sym (log_item items s (load n u) led)
log_passed lines items s (Load at) place (an_entry (commit b)) found led is = absurd is
log_passed lines items s (Load at) place (an_entry (stamped r b)) found led is = absurd is
log_passed lines items s (Load at) place (a_checkpoint body) found led is = absurd is
log_passed lines items s (Checkpoint at) place (an_entry w) found led is = absurd is
log_passed lines items s (Checkpoint at) place (a_checkpoint body) found led is = found ∙ ap log_of (sym (flat_map-append entries_in items (a_checkpoint body ∷ []) ∙ append-nil (flat_map entries_in items)))

-- nor has what it passes
pub log-stays : (lines : List LogLine) (first : Option State) (items : List Item) (s : State) (p : Passed) (place : ℕ) (i : Item) → (first ≡ None → lines ≡ log_of (flat_map entries_in items)) → AllStand false first items → fold after_item first items ≡ Some s → IsPassed p place i
    → first ≡ None → lines ≡ log_of (flat_map entries_in (items ++ i ∷ []))
log-stays lines first items s p place i found stand leads is none = log_passed lines items s p place i (found none) (led-from first items s none stand leads) is

-- a commit has one
pub log-commit : (lines more : List LogLine) (from : Beginning) (items : List Item) (s : State) (x : WrittenEntry) (c : CommitAt) (moment : CommitMoment) → (from.first ≡ None → lines ≡ log_of (flat_map entries_in items))
    → IsAtCommit from items s x c moment → more ≡ lines ++ log_line moment.kind moment.last c.stamp c.ops ∷ [] → from.first ≡ None → more ≡ log_of (flat_map entries_in (items ++ an_entry x ∷ []))
log-commit lines more from items s x c moment found is added none =
    added
    ∙ (λ j. found none j ++ log_line (sym is.of_kind j) (sym is.after j) c.stamp c.ops ∷ [])
    ∙ ap (λ (e : History). log_of (flat_map entries_in items) ++ log_after s.kind s.now (e ∷ [])) (sym is.means)
    ∙ sym (log_item items s x (led-from from.first items s none is.stand is.leads))

-- ---- a file

-- the lines that are found are the log of the file
pub lines_found : (c : List ℕ) (work : Logging) → HasFound HasLogged c work → LogsAs c (Ok work.lines)
lines_found c work h = (
  (h.opens, (h.history, h.told)),
  λ i is. h.done refl ∙ ap log_of (sym h.told.are ∙ one_history c false false h.history i h.told is),
)
