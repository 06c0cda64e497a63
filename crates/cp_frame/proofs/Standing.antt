-- Items one after another: the history that they add up to, which items frames hold, and what may stand where.
use Rattle.std.proofs.Common.{◌≡◌, ℕ, zero, suc, Bool, true, false, List, [], ◌∷◌, ◌++◌, take, fold, refl, sym, ap, ◌∙◌, subst, arith, append_assoc, append-nil}
use Rattle.std.specs.List.{flat_map, slice_get}
use Rattle.std.specs.declared.option.Option.{Option}
use Rattle.std.specs.declared.option.Option.TheVariants.{None, Some}
use Rattle.std.proofs.lemmas.List.Concat.{flat_map-append}
use Rattle.std.proofs.lemmas.List.Sums.{fold-append}
use Rattle.cp_model.specs.History.{Entry, State, IsLegal, IsLegalFrom, replay, then_entry, start_state}
use Rattle.cp_model.specs.declared.record.Record.{Record}
use Rattle.cp_journal.specs.Frames.{Frame}
use Rattle.cp_journal.specs.declared.frame.TheConstants.{ENTRY, CHECKPOINT}
use Rattle.cp_frame.specs.Entries.{WrittenEntry, start, load, commit, stamped}
use Rattle.cp_frame.proofs.EntryForms.{plain_entry}
use Rattle.cp_frame.specs.Items.{Item, an_entry, a_checkpoint, IsHeld, IsEntryFrame, AreHeld, entry_meant, entries_in, records_in, after_item, HasRecords, HasItsRecordsAfter, CanStand, AllStand, Tell}
use Rattle.cp_frame.specs.Stops.{IsRefused}

-- ---- the history of items

-- the entry of an item leads where the item leads
item_replayed : (o : Option State) (i : Item) → fold then_entry o (entries_in i) ≡ after_item o i
item_replayed o (an_entry w) = refl
item_replayed o (a_checkpoint body) = refl

replayed_from : (o : Option State) (items : List Item) → fold then_entry o (flat_map entries_in items) ≡ fold after_item o items
replayed_from o [] = refl
replayed_from o (i ∷ is) =
    fold-append then_entry o (entries_in i) (flat_map entries_in is)
    ∙ ap (λ (p : Option State). fold then_entry p (flat_map entries_in is)) (item_replayed o i)
    ∙ replayed_from (after_item o i) is

-- the history of items leads where they lead
pub replayed-items : (items : List Item) → replay (flat_map entries_in items) ≡ fold after_item None items
unfolding replay
replayed-items items = replayed_from None items

legal_from : (right : Bool) (o : Option State) (items : List Item) → AllStand right o items → IsLegalFrom o (flat_map entries_in items)
legal_from right o [] all = tt
legal_from right o (an_entry w ∷ is) all = (all.0.0, legal_from right (then_entry o (entry_meant w)) is all.1)
legal_from right o (a_checkpoint body ∷ is) all = legal_from right o is all.1

-- items that stand have a legal history
pub legal-items : (right : Bool) (items : List Item) → AllStand right None items → IsLegal (flat_map entries_in items)
legal-items right items all = legal_from right None items all

-- ---- what may stand where

-- items stand after others where they stand after the state of those
pub stand-append : (right : Bool) (o : Option State) (is js : List Item) → AllStand right o is → AllStand right (fold after_item o is) js → AllStand right o (is ++ js)
stand-append right o [] js first second = second
stand-append right o (i ∷ is) js first second = (first.0, stand-append right (after_item o i) is js first.1 second)

-- and only there
pub stand-split : (right : Bool) (o : Option State) (is js : List Item) → AllStand right o (is ++ js) → AllStand right o is × AllStand right (fold after_item o is) js
stand-split right o [] js all = (tt, all)
stand-split right o (i ∷ is) js all = let rest = stand-split right (after_item o i) is js all.1 in ((all.0, rest.0), rest.1)

-- the records of a commit, without asking whether they are right
records_weaker : (right : Bool) (s z : State) (rs : List Record) → HasRecords right s z rs → HasRecords false s z rs
records_weaker right s z rs h = record { tids = h.tids; all = λ f. cc }

entry_weaker : (right : Bool) (o : Option State) (w : WrittenEntry) → HasItsRecordsAfter right o w → HasItsRecordsAfter false o w
entry_weaker right None w h = tt
entry_weaker right (Some s) (start k t) h = tt
entry_weaker right (Some s) (load n t) h = tt
entry_weaker right (Some s) (commit b) h = records_weaker right s _ b.records h
entry_weaker right (Some s) (stamped r b) h = records_weaker right s _ b.records h

-- an item that may follow with the right records may follow
pub item-weaker : (right : Bool) (o : Option State) (i : Item) → CanStand right o i → CanStand false o i
item-weaker right o (an_entry w) h = (h.0, entry_weaker right o w h.1)
item-weaker right o (a_checkpoint body) h = h

-- and so do items one after another
pub stand-weaker : (right : Bool) (o : Option State) (is : List Item) → AllStand right o is → AllStand false o is
stand-weaker right o [] all = tt
stand-weaker right o (i ∷ is) all = (item-weaker right o i all.0, stand-weaker right (after_item o i) is all.1)

-- ---- the records

-- the rows of a state; none before the first entry
abbrev rows_at : Option State → List Record
rows_at None = []
rows_at (Some s) = s.rows

start_rows : (k : _) (t : _) → (start_state k t).rows ≡ []
unfolding start_state
start_rows k t = refl

rows_item : (o : Option State) (i : Item) → CanStand true o i → rows_at (after_item o i) ≡ rows_at o ++ records_in i
rows_item None (an_entry (start k t)) h = start_rows k _
rows_item None (an_entry (load n t)) h = absurd h.0
rows_item None (an_entry (commit b)) h = absurd h.0
rows_item None (an_entry (stamped r b)) h = absurd h.0
rows_item None (a_checkpoint body) h = refl
rows_item (Some s) (an_entry (start k t)) h = absurd h.0
rows_item (Some s) (an_entry (load n t)) h = sym (append-nil s.rows)
rows_item (Some s) (an_entry (commit b)) h = h.1.all refl
rows_item (Some s) (an_entry (stamped r b)) h = h.1.all refl
rows_item (Some s) (a_checkpoint body) h = sym (append-nil s.rows)

rows_from : (o : Option State) (is : List Item) → AllStand true o is → rows_at (fold after_item o is) ≡ rows_at o ++ flat_map records_in is
rows_from o [] all = sym (append-nil (rows_at o))
rows_from o (i ∷ is) all =
    rows_from (after_item o i) is all.1
    ∙ ap (λ (rs : List Record). rs ++ flat_map records_in is) (rows_item o i all.0)
    ∙ append_assoc (rows_at o) (records_in i) (flat_map records_in is)

-- where the records are right, they are the rows of the state
pub rows-right : (items : List Item) (s : State) → AllStand true None items → fold after_item None items ≡ Some s → s.rows ≡ flat_map records_in items
rows-right items s all is = sym (ap rows_at is) ∙ rows_from None items all

-- ---- what frames hold

-- frames one after others hold the items of both
pub held-append : (v : ℕ) (fs gs : List Frame) (is js : List Item) → AreHeld v fs is → AreHeld v gs js → AreHeld v (fs ++ gs) (is ++ js)
held-append v [] gs [] js first second = second
held-append v [] gs (i ∷ is) js first second = absurd first
held-append v (f ∷ fs) gs [] js first second = absurd first
held-append v (f ∷ fs) gs (i ∷ is) js first second = (first.0, held-append v fs gs is js first.1 second)

-- items that these frames hold, and then others
pub record IsHeldInParts (v : ℕ) (fs gs : List Frame) (items : List Item) : Type 0 where
  pub front : List Item
  pub back : List Item
  pub are : items ≡ front ++ back
  pub front_held : AreHeld v fs front
  pub back_held : AreHeld v gs back

-- what frames one after others hold falls into what each hold
pub held-split : (v : ℕ) (fs gs : List Frame) (items : List Item) → AreHeld v (fs ++ gs) items → IsHeldInParts v fs gs items
held-split v [] gs items held = record { front = []; back = items; are = refl; front_held = tt; back_held = held }
held-split v (f ∷ fs) gs [] held = absurd held
held-split v (f ∷ fs) gs (i ∷ is) held =
    let rest = held-split v fs gs is held.1 in
    record { front = i ∷ rest.front; back = rest.back; are = ap (λ (l : List Item). i ∷ l) rest.are; front_held = (held.0, rest.front_held); back_held = rest.back_held }

-- a frame is none of an entry and of a checkpoint
entry_or_checkpoint : (v : ℕ) (f : Frame) (w : WrittenEntry) (body : List ℕ) → IsEntryFrame v f w → f ≡ record { tag = CHECKPOINT; body = body } → ⊥
entry_or_checkpoint v f w body one two = let tags : ENTRY ≡ CHECKPOINT = sym one.tag ∙ ap (λ (g : Frame). g.tag) two in omega (arith, tags)

-- a frame holds one item at most
pub item-one : (v : ℕ) (f : Frame) (i j : Item) → IsHeld v f i → IsHeld v f j → i ≡ j
item-one v f (an_entry w) (an_entry x) one two =
    let same = plain_entry w x [] [] one.body.fit two.body.fit (sym one.body.is ∙ two.body.is) in ap an_entry same.0
item-one v f (an_entry w) (a_checkpoint body) one two = absurd (entry_or_checkpoint v f w body one two)
item-one v f (a_checkpoint body) (an_entry w) one two = absurd (entry_or_checkpoint v f w body two one)
item-one v f (a_checkpoint a) (a_checkpoint b) one two = ap (λ (g : Frame). a_checkpoint g.body) (sym one ∙ two)

-- frames hold one list of items at most
pub held-one : (v : ℕ) (fs : List Frame) (is js : List Item) → AreHeld v fs is → AreHeld v fs js → is ≡ js
held-one v [] [] [] one two = refl
held-one v [] [] (j ∷ js) one two = absurd two
held-one v [] (i ∷ is) js one two = absurd one
held-one v (f ∷ fs) [] js one two = absurd one
held-one v (f ∷ fs) (i ∷ is) [] one two = absurd two
held-one v (f ∷ fs) (i ∷ is) (j ∷ js) one two =
    let first = item-one v f i j one.0 two.0 in
    let rest = held-one v fs is js one.1 two.1 in
    λ k. first k ∷ rest k

-- ---- what frames tell

-- the history that frames tell leads where their items lead
pub tell-replayed : (right : Bool) (v : ℕ) (fs : List Frame) (h : List Entry) (t : Tell right v fs h) → replay h ≡ fold after_item None t.items
tell-replayed right v fs h t = ap replay t.are ∙ replayed-items t.items

-- with one frame more, which holds an entry that may follow, they tell that entry too
pub tell-added : (right : Bool) (v : ℕ) (fs : List Frame) (f : Frame) (h : List Entry) (w : WrittenEntry)
    → Tell right v fs h → IsHeld v f (an_entry w) → CanStand right (replay h) (an_entry w) → Tell right v (fs ++ f ∷ []) (h ++ entry_meant w ∷ [])
tell-added right v fs f h w t held can =
    let after : CanStand right (fold after_item None t.items) (an_entry w) = subst (λ (o : Option State). CanStand right o (an_entry w)) (tell-replayed right v fs h t) can in
    record {
      items = t.items ++ an_entry w ∷ [];
      held = held-append v fs (f ∷ []) t.items (an_entry w ∷ []) t.held (held, tt);
      stand = stand-append right None t.items (an_entry w ∷ []) t.stand (after, tt);
      are = ap (λ (l : List Entry). l ++ entry_meant w ∷ []) t.are ∙ sym (flat_map-append entries_in t.items (an_entry w ∷ []));
    }

-- one frame that holds an entry which may be first tells it
pub tell-first : (right : Bool) (v : ℕ) (f : Frame) (w : WrittenEntry) → IsHeld v f (an_entry w) → CanStand right None (an_entry w) → Tell right v (f ∷ []) (entry_meant w ∷ [])
tell-first right v f w held can = record { items = an_entry w ∷ []; held = (held, tt); stand = (can, tt); are = refl }

-- the frames before the n-th, and it and those after it
front_back : {X : Type 0} (fs : List X) (n : ℕ) (f : X) → slice_get fs n ≡ Some f → (rest : List X) × (fs ≡ take n fs ++ f ∷ rest)
front_back [] n f is = absurd (cc is)
front_back (g ∷ fs) zero f is = let same : g ≡ f = cc in (fs, ap (λ x. x ∷ fs) same)
front_back (g ∷ fs) (suc n) f is = let more = front_back fs n f is in (more.0, ap (λ l. g ∷ l) more.1)

stops_at : (right : Bool) (v : ℕ) (f : Frame) (rest : List Frame) (o : Option State) (back : List Item) → AreHeld v (f ∷ rest) back → AllStand right o back → IsRefused v o f → ⊥
stops_at right v f rest o [] held stand none = held
stops_at right v f rest o (i ∷ is) held stand none = none i held.0 (item-weaker right o i stand.0)

-- where a frame holds no item that may follow those of the frames before it, not all frames hold items that may follow each other
pub stops-here : (right : Bool) (v : ℕ) (first : Option State) (fs : List Frame) (n : ℕ) (f : Frame) (items all : List Item) → AreHeld v (take n fs) items → slice_get fs n ≡ Some f
    → IsRefused v (fold after_item first items) f → AreHeld v fs all → AllStand right first all → ⊥
stops-here right v first fs n f items all before here none held stand =
    let cut = front_back fs n f here in
    let parts = held-split v (take n fs) (f ∷ cut.0) all (subst (λ (l : List Frame). AreHeld v l all) cut.1 held) in
    let same = held-one v (take n fs) parts.front items parts.front_held before in
    let after = (stand-split right first parts.front parts.back (subst (AllStand right first) parts.are stand)).1 in
    stops_at right v f cut.0 (fold after_item first items) parts.back parts.back_held (subst (λ (l : List Item). AllStand right (fold after_item first l) parts.back) same after) none

-- ---- old frames in new files

-- what a frame holds in version 1 it holds in version 2
held_newer : (f : Frame) (i : Item) → IsHeld 1 f i → IsHeld 2 f i
held_newer f (an_entry (start k t)) h = record { tag = h.tag; body = h.body; allowed = tt }
held_newer f (an_entry (load n t)) h = record { tag = h.tag; body = h.body; allowed = tt }
held_newer f (an_entry (commit b)) h = record { tag = h.tag; body = h.body; allowed = tt }
held_newer f (an_entry (stamped s b)) h = let allowed = h.allowed in absurd (omega (arith, allowed))
held_newer f (a_checkpoint body) h = h

all_newer : (fs : List Frame) (is : List Item) → AreHeld 1 fs is → AreHeld 2 fs is
all_newer [] [] held = tt
all_newer [] (i ∷ is) held = absurd held
all_newer (f ∷ fs) [] held = absurd held
all_newer (f ∷ fs) (i ∷ is) held = (held_newer f i held.0, all_newer fs is held.1)

-- frames tell in version 2 what they tell in version 1
pub tell-newer : (right : Bool) (fs : List Frame) (h : List Entry) → Tell right 1 fs h → Tell right 2 fs h
tell-newer right fs h t = record { items = t.items; held = all_newer fs t.items t.held; stand = t.stand; are = t.are }

-- frames tell one history at most
pub tell-one : (p q : Bool) (v : ℕ) (fs : List Frame) (h i : List Entry) → Tell p v fs h → Tell q v fs i → h ≡ i
tell-one p q v fs h i t u = t.are ∙ ap (flat_map entries_in) (held-one v fs t.items u.items t.held u.held) ∙ sym u.are
