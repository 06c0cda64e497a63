-- A file that is opened is a store where a database comes of it, and none where its parts are not those of one.
use Rattle.std.proofs.Common.{◌≡◌, ◌≤◌, ◌+◌, ◌∙◌, ◌==◌, ◌⊎◌, inl, inr, ℕ, Bool, true, false, IsTrue, if◌then◌else◌, List, [], length, fold, take, drop, get_or, nat_lt, refl, sym, ap, subst, arith, length-take, Ok, Err}
use Rattle.std.specs.List.{flat_map}
use Rattle.std.specs.declared.option.Option.{Option}
use Rattle.std.specs.declared.option.Option.TheVariants.{None, Some}
use Rattle.std.proofs.lemmas.Bool.{cases_Bool}
use Rattle.cp_model.specs.Tree.{Tree}
use Rattle.cp_model.specs.History.{Entry as History, State}
use Rattle.cp_disk.specs.Views.{View, ViewRests}
use Rattle.cp_journal.specs.Frames.{Frame, Walk, frames_of, spelled_all}
use Rattle.cp_journal.specs.Headers.{HasHeader, header_in}
use Rattle.cp_journal.specs.Holding.{IsAtRest}
use Rattle.cp_journal.specs.Journals.{JournalState, Describes, HasWalked, Lists}
use Rattle.cp_journal.specs.declared.header.Header.{Header}
use Rattle.cp_journal.specs.declared.header.Slot.{Slot}
use Rattle.cp_journal.specs.declared.limits.TheConstants.{HEADER_SIZE, VERSION_AT}
use Rattle.cp_frame.specs.Items.{Item, AllStand, AreHeld, Tell, after_item, entries_in}
use Rattle.cp_frame.specs.Stands.{IsClosed, IsTold, Opens, OpensAndReplays, OpensFirst, header_of}
use Rattle.cp_frame.specs.Stops.{IsNot, StopsAt, StopsAtFrame, StopsWalk, at_gate, at_slot, open_slot}
use Rattle.cp_frame.proofs.Images.{closed_header, closed-is, held-length, told-parts}
use Rattle.cp_frame.proofs.Stopping.{stopped-not}
use Rattle.cp_frame.proofs.Standing.{held-one, rows-right}
use Rattle.cp_db.specs.Committed.{HasRows, HasTaken, LeadsTo}
use Rattle.cp_db.specs.Databases.{HoldsState, IsKept, Stands}
use Rattle.cp_db.specs.Opening.{HasOpened, OpensAs}
use Rattle.cp_db.specs.declared.committed.Committed.{Committed}
use Rattle.cp_db.specs.declared.database.Db.{Db}
use Rattle.cp_db.specs.declared.fault.OpenFault.{OpenFault}
use Rattle.cp_db.specs.declared.fault.OpenFault.TheVariants.{NoStore, Disk, Memory}
use Rattle.cp_db.proofs.Taking.{taken-leads}

-- ---- headers

-- a header says version 1 or 2
pub version_said : (bytes : List ℕ) → ((header_in bytes).version ≡ 1) ⊎ ((header_in bytes).version ≡ 2)
version_said bytes = elim (cases_Bool (get_or bytes VERSION_AT 0 == 1)) [
  | inl two ↦ inr (rw two refl)
  | inr one ↦ inl (rw one refl)
]

-- so that it is kept where one of these is
pub version_kept : (bytes : List ℕ) (h : Header) (version : ℕ) → h ≡ header_in bytes → ((h.version ≡ 1) ⊎ (h.version ≡ 2) → version ≡ h.version) → version ≡ h.version
version_kept bytes h version is kept = kept (subst (λ (x : Header). (x.version ≡ 1) ⊎ (x.version ≡ 2)) (sym is) (version_said bytes))

none_open : (a b : Option Slot) → open_slot (record { version = 0; first = a; second = b }) ≡ None → (a ≡ None) × (b ≡ None)
none_open None None none = (refl, refl)
none_open (Some a) None none = let no : Some 64 ≡ None = none in absurd (cc no)
none_open None (Some b) none = let no : Some 128 ≡ None = none in absurd (cc no)
none_open (Some a) (Some b) none = elim (cases_Bool (nat_lt b.seq a.seq)) [
  | inl first ↦ (let no : Some 64 ≡ None = rw first at none in absurd (cc no))
  | inr second ↦ (let no : Some 128 ≡ None = rw second at none in absurd (cc no))
]

-- one without an open slot says its version alone
pub closed_is : (h : Header) → open_slot h ≡ None → h ≡ closed_header h.version
closed_is h none =
    let both = none_open h.first h.second none in
    λ k. record { version = h.version; first = both.0 k; second = both.1 k }

-- ---- what the journal found

pub clean_of : (clean : Bool) (n : ℕ) (broken : Option ℕ) → broken ≡ (if clean then None else Some n) → broken ≡ None → clean ≡ true
clean_of true n broken is none = refl
clean_of false n broken is none = let no : Some n ≡ None = sym is ∙ none in absurd (cc no)

-- what a journal describes it describes after calls that leave the content
rests_describes : (head : List ℕ) (fs : List Frame) (j : JournalState) (v w : View) → ViewRests v w → Describes head fs j v → Describes head fs j w
rests_describes head fs j v w rests d =
    let same = rests.content in
    let holds = d.holds in
    record {
      holds = record {
        lawful = holds.lawful;
        size = holds.size;
        front = ap (take j.next) same ∙ holds.front;
        at_rest = rests_at_rest;
      };
      lists = subst (Lists (length head) fs j) (sym same) d.lists;
    }
  where
    rests_at_rest : IsAtRest j.next w
    rests_at_rest = record {
      inside = omega (arith, d.holds.at_rest.inside, ap length rests.content);
      closed = λ one. d.holds.at_rest.closed (ap (λ (b : List ℕ). get_or b j.next 0) (sym rests.content) ∙ one);
      settled = λ c im. d.holds.at_rest.settled c (rests.images c im) ∙ ap (take (j.next + 1)) (sym rests.content);
    }

module _ (u v w x : View) (uv : ViewRests u v) (vw : ViewRests v w) (wx : ViewRests w x) (j : JournalState) (walked : HasWalked HEADER_SIZE (frames_of (drop HEADER_SIZE v.content)) j v.content) where
  -- the walk was over what was there at first
  pub walked_first : HasWalked HEADER_SIZE (frames_of (drop HEADER_SIZE u.content)) j u.content
  walked_first = subst (λ (b : List ℕ). HasWalked HEADER_SIZE (frames_of (drop HEADER_SIZE b)) j b) uv.content walked

  -- and its frames are there after it
  pub lists_after : Lists HEADER_SIZE (frames_of (drop HEADER_SIZE u.content)).frames j w.content
  lists_after = subst (Lists HEADER_SIZE (frames_of (drop HEADER_SIZE u.content)).frames j) (sym (vw.content ∙ uv.content)) walked_first.lists

  -- what was described then is described at the end
  pub described_last : Describes (take HEADER_SIZE v.content) (frames_of (drop HEADER_SIZE v.content)).frames j w → Describes (take HEADER_SIZE u.content) (frames_of (drop HEADER_SIZE u.content)).frames j x
  described_last d = subst (λ (b : List ℕ). Describes (take HEADER_SIZE b) (frames_of (drop HEADER_SIZE b)).frames j x) uv.content (rests_describes _ _ j w x wx d)

module _ (c : List ℕ) (has : HasHeader c) where
  -- a header has its length
  pub head_long : length (take HEADER_SIZE c) ≡ HEADER_SIZE
  head_long = omega (arith, has.0, length-take HEADER_SIZE c)

  -- behind one a journal that describes the file is at rest
  pub is_ready : (j : JournalState) (fs : List Frame) (v : View) → Describes (take HEADER_SIZE c) fs j v → (HEADER_SIZE ≤ j.next) × IsAtRest j.next v
  is_ready j fs v described = (omega (arith, described.holds.size, head_long), described.holds.at_rest)

-- ---- the database

-- what a history leads to is one
one_state : (o : Option State) (s z : State) → o ≡ Some s → o ≡ Some z → s ≡ z
one_state o s z e f = let same : Some s ≡ Some z = sym e ∙ f in cc

module _ (c : List ℕ) (hd : Header) (has : HasHeader c) (said : hd ≡ header_in (take HEADER_SIZE c)) where
  version_is : (header_of c).version ≡ hd.version
  version_is = ap (λ (x : Header). x.version) (sym said)

  -- what is told is told by the frames that are found, in the version that was found
  pub told_here : (right : Bool) (h : List History) → IsTold right h c → (1 ≤ length (frames_of (drop HEADER_SIZE c)).frames) × Tell right hd.version (frames_of (drop HEADER_SIZE c)).frames h
  told_here right h is = let p = told-parts right h c is in (p.some, subst (λ (n : ℕ). Tell right n (frames_of (drop HEADER_SIZE c)).frames h) version_is p.tell)

  -- what is held in the version that was found is held in that of the file
  pub held_here : (fs : List Frame) (items : List Item) → AreHeld hd.version fs items → AreHeld (header_of c).version fs items
  held_here fs items held = subst (λ (n : ℕ). AreHeld n fs items) (sym version_is) held

  -- its slots are closed
  pub closed_here : open_slot hd ≡ None → IsClosed (header_of c)
  closed_here closed = closed-is (header_of c) hd.version (sym said ∙ closed_is hd closed)

-- ---- where a file stops

-- frames that stop a walk stop it in their walk
pub stops_in : (w : Walk) (version at : ℕ) → ((w.frames ≡ []) × (at ≡ HEADER_SIZE)) ⊎ StopsAtFrame HEADER_SIZE version None w.frames at → StopsWalk HEADER_SIZE version None w at
stops_in w version at (inl (none, place)) = inr (record {
  items = [];
  held = subst (λ (l : List Frame). AreHeld version l []) (sym none) tt;
  stand = tt;
  ended = inl none;
  place = place ∙ ap (λ (l : List Frame). HEADER_SIZE + length (spelled_all l)) (sym none);
})
stops_in w version at (inr stops) = inl stops

-- the gate at which a journal's walk ended without being closed stops it
pub stops_after : (c : List ℕ) (version at : ℕ) (j : JournalState) → HasWalked HEADER_SIZE (frames_of (drop HEADER_SIZE c)) j c → j.broken ≡ Some at → (items : List Item) → AreHeld version (frames_of (drop HEADER_SIZE c)).frames items → AllStand false None items
    → StopsWalk HEADER_SIZE version None (frames_of (drop HEADER_SIZE c)) at
stops_after c version at j walked broken items held stand =
    let cut = cut_short (frames_of (drop HEADER_SIZE c)).clean _ at (sym walked.broken ∙ broken) in
    inr (record { items = items; held = held; stand = stand; ended = inr cut.0; place = cut.1 })
  where
    cut_short : (clean : Bool) (n m : ℕ) → (if clean then None else Some n) ≡ Some m → (clean ≡ false) × (m ≡ n)
    cut_short true n m is = let no : None ≡ Some m = is in absurd (cc no)
    cut_short false n m is = let same : Some n ≡ Some m = is in (refl, cc same)

module _ (c : List ℕ) (hd : Header) (has : HasHeader c) (said : hd ≡ header_in (take HEADER_SIZE c)) where
  -- where its walk stops a file without an open slot stops
  pub stops_at_gate : open_slot hd ≡ None → (at : ℕ) → StopsWalk HEADER_SIZE hd.version None (frames_of (drop HEADER_SIZE c)) at → StopsAt c at
  stops_at_gate closed at stops =
      at_gate has (ap open_slot (sym said) ∙ closed) (subst (λ (n : ℕ). StopsWalk HEADER_SIZE n None (frames_of (drop HEADER_SIZE c)) at) (sym (version_is c hd has said)) stops)

  -- a file with an open slot stops there
  pub stops_at_slot : (at : ℕ) → open_slot hd ≡ Some at → StopsAt c at
  stops_at_slot at is = at_slot has (ap open_slot (sym said) ∙ is)

module _ (c : List ℕ) (at : ℕ) (stops : StopsAt c at) where
  -- a file that stops doesn't open
  pub opens_not : IsNot Opens c at
  opens_not = record { never = stopped-not c at stops; stops = stops }

  -- nor does it open and tell a history
  pub whole_not : IsNot OpensAndReplays c at
  whole_not = record { never = λ both. stopped-not c at stops both.0; stops = stops }

module _ {R S : Type 0} (view : R → Tree) (source_view : S → Tree) where
  module _ (c : List ℕ) (hd : Header) (has : HasHeader c) (said : hd ≡ header_in (take HEADER_SIZE c)) where
    module _ (d : Db R S) (v : View) (version : d.version ≡ hd.version) (closed : open_slot hd ≡ None) (whole : d.journal.broken ≡ None) (usable : d.journal.spent ≡ false) (idle : d.journal.begun ≡ None)
        (walked : HasWalked HEADER_SIZE (frames_of (drop HEADER_SIZE c)) d.journal c)
        (described : Describes (take HEADER_SIZE c) (frames_of (drop HEADER_SIZE c)).frames d.journal v)
        (some : 1 ≤ length (frames_of (drop HEADER_SIZE c)).frames) (items : List Item) (held_all : AreHeld hd.version (frames_of (drop HEADER_SIZE c)).frames items) (taken : HasTaken view source_view None d.committed items) where
      clean : (frames_of (drop HEADER_SIZE c)).clean ≡ true
      clean = clean_of (frames_of (drop HEADER_SIZE c)).clean _ d.journal.broken walked.broken whole

      leads : fold after_item None items ≡ Some taken.state
      leads = taken.replayed

      -- the state to which the items lead is held
      holds_taken : HoldsState view source_view d taken.state
      holds_taken = record { committed = taken.keeps; whole = whole; usable = usable; idle = idle }

      opened_holds : (s : State) → fold after_item None items ≡ Some s → HoldsState view source_view d s
      opened_holds s is = subst (HoldsState view source_view d) (one_state (fold after_item None items) taken.state s leads is) holds_taken

      -- the file opens
      opened_first : OpensFirst (header_of c).version c
      opened_first = record {
        items = items;
        some = omega (arith, some, held-length hd.version (frames_of (drop HEADER_SIZE c)).frames items held_all);
        holds = record {
          frames = (frames_of (drop HEADER_SIZE c)).frames;
          stand = record { frames = refl; clean = clean };
          held = held_here c hd has said (frames_of (drop HEADER_SIZE c)).frames items held_all;
        };
        stand = taken.stand;
      }

      module _ (right : Bool) (h : List History) (is : IsTold right h c) where
        told : Tell right hd.version (frames_of (drop HEADER_SIZE c)).frames h
        told = (told_here c hd has said right h is).1

        same_items : told.items ≡ items
        same_items = held-one hd.version (frames_of (drop HEADER_SIZE c)).frames told.items items told.held held_all

        told_is : h ≡ flat_map entries_in items
        told_is = told.are ∙ ap (flat_map entries_in) same_items

        -- where the records are right, they are the rows of the state
        opened_rows : IsTrue right → HasRows d.committed taken.state
        opened_rows asked = taken.kept ∙ sym (rows-right items taken.state (subst (λ (b : Bool). AllStand b None items) asked (subst (AllStand right None) same_items told.stand)) leads)

        opened_stands : Stands view source_view right d h
        opened_stands = record {
          state = taken.state;
          led = subst (λ (i : List History). LeadsTo i taken.state) (sym told_is) (taken-leads view source_view d.committed items taken);
          holds = holds_taken;
          rows = opened_rows;
        }

        opened_kept : IsKept right d h v
        opened_kept = record {
          head = take HEADER_SIZE c;
          is_head = record { size = head_long c has; header = has.1; says = sym said ∙ closed_is hd closed ∙ ap closed_header (sym version) };
          frames = (frames_of (drop HEADER_SIZE c)).frames;
          some = some;
          described = described;
          tell = subst (λ (n : ℕ). Tell right n (frames_of (drop HEADER_SIZE c)).frames h) (sym version) told;
        }

      -- and the database has opened it
      pub has_opened : HasOpened view source_view d c v
      unfolding opened_first
      has_opened = record {
        opens = record { header = has; closed = closed_here c hd has said closed; first = opened_first };
        holds = opened_holds;
        stands = λ right h is. (opened_stands right h is, opened_kept right h is);
      }
