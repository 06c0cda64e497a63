-- What a walk finds in a file, frame by frame.
use Rattle.std.proofs.Common.{◌≡◌, ◌≤◌, ◌+◌, ◌∙◌, ◌⊎◌, inl, inr, ℕ, zero, suc, Bool, true, false, List, [], ◌∷◌, ◌++◌, length, take, drop, refl, sym, ap, subst, arith, length-append, Result, Ok, Err}
use Rattle.std.specs.List.{slice_get, flat_map}
use Rattle.std.specs.declared.option.Option.{Option}
use Rattle.std.specs.declared.option.Option.TheVariants.{None, Some}
use Rattle.std.proofs.lemmas.List.{take_all}
use Rattle.cp_format.specs.Formats.{Reads}
use Rattle.cp_model.specs.History.{State}
use Rattle.cp_journal.specs.Frames.{Frame, frames_of, spelled, spelled_all}
use Rattle.cp_journal.specs.Headers.{HasHeader, header_in}
use Rattle.std.specs.Int.{w64, to_be_bytes}
use Rattle.cp_journal.proofs.Walks.{length-be8}
use Rattle.cp_journal.specs.Journals.{JournalState, HasWalked, Lists, places}
use Rattle.cp_journal.specs.declared.frame.FrameAt.{FrameAt}
use Rattle.cp_journal.specs.declared.header.Header.{Header}
use Rattle.cp_journal.specs.declared.limits.TheConstants.{HEADER_SIZE}
use Rattle.cp_journal.specs.declared.frame.TheConstants.{ENTRY}
use Rattle.cp_frame.specs.Entries.{WrittenEntry, entry_format}
use Rattle.cp_frame.specs.Items.{Item, an_entry, AreHeld, IsOfVersion, entries_in}
use Rattle.cp_frame.specs.Stands.{IsTold, Opens, OpensAndReplays}
use Rattle.cp_frame.specs.Stops.{IsNot, IsRefused, StopsAt, StopsAtFrame, open_slot}
use Rattle.cp_frame.proofs.Images.{told-opens}
use Rattle.cp_frame.proofs.Standing.{held-append, replayed-items}
use Rattle.cp_disk.specs.Views.{View}
use Rattle.cp_db.specs.Opening.{IsStartOf, OpensAs, StartsAs}
use Rattle.cp_db.specs.Walk.{FindsAs, GoesOnAs, HasCome, HasReached, PassesFrameAs, TellsPassedAs, WalkTerms, begun_at, frame_place}
use Rattle.cp_db.specs.Work.{Beginning}
use Rattle.cp_db.specs.declared.start.Start.{Start}
use Rattle.cp_db.specs.declared.fault.OpenFault.{OpenFault}
use Rattle.cp_db.specs.declared.fault.OpenFault.TheVariants.{NoStore, Disk, Memory}
use Rattle.cp_db.specs.declared.walk.HistoryWalk.{HistoryWalk}
use Rattle.cp_db.proofs.OpeningFrames.{taken_more}
use Rattle.cp_db.proofs.OpeningStores.{clean_of, closed_here, held_here, opens_not, stops_after, stops_at_gate, stops_in, whole_not}

-- ---- where frames stand

-- how long a frame is
length-spelled : (f : Frame) → length (spelled f) ≡ 10 + length f.body
length-spelled f = omega (arith, length-append (to_be_bytes w64 (length f.body)) f.body, length-be8 (length f.body))

-- the offset that a journal has of the frame of a number
placed_at : (from : ℕ) (fs : List Frame) (n : ℕ) (at : FrameAt) → slice_get (places from fs) n ≡ Some at → at.at ≡ frame_place from fs n
placed_at from [] n at is = absurd (cc is)
placed_at from (f ∷ fs) zero at is = let same : record { at = from; tag = f.tag; len = length f.body } ≡ at = cc is in ap (λ (x : FrameAt). x.at) (sym same) ∙ omega arith
placed_at from (f ∷ fs) (suc n) at is =
    placed_at (from + 10 + length f.body) fs n at is
    ∙ omega (arith, length-append (spelled f) (spelled_all (take n fs)), length-spelled f)

pub listed_place : (from : ℕ) (fs : List Frame) (j : JournalState) (c : List ℕ) → Lists from fs j c → (n : ℕ) (at : FrameAt) → slice_get j.frames n ≡ Some at → at.at ≡ frame_place from fs n
listed_place from fs j c lists n at is = placed_at from fs n at (ap (λ (l : List FrameAt). slice_get l n) (sym lists.frames) ∙ is)

module _ {R S W : Type 0} (terms : WalkTerms R S W) where
  -- the entry that a frame spells has been passed
  pub passed_here : (begun : Beginning) (v : ℕ) (f : Frame) (items : List Item) (new : HistoryWalk R S W) (w : WrittenEntry) → f.tag ≡ ENTRY → Reads entry_format f.body w [] → IsOfVersion v w
      → HasReached terms.view terms.source_view terms.Fits begun.first new (items ++ an_entry w ∷ []) → terms.Done new.work begun.first begun.place (items ++ an_entry w ∷ []) → PassesFrameAs terms begun v f items new (Ok tt)
  passed_here begun v f items new w tag reads allowed reached found = (an_entry w, record { tag = tag; body = reads; allowed = allowed }, record { reached = reached; done = found })

  module _ (first : Option State) (v from : ℕ) (fs : List Frame) where
    -- one frame more has been passed
    pub come_on : (n : ℕ) (f : Frame) (old new : HistoryWalk R S W) (g : HasCome terms first v from fs n old) → slice_get fs n ≡ Some f → PassesFrameAs terms (begun_at first from fs) v f g.items new (Ok tt) → HasCome terms first v from fs (n + 1) new
    come_on n f old new g here (i, held, passed) = record {
      items = g.items ++ i ∷ [];
      counted = length-append g.items (i ∷ []) ∙ ap (λ (m : ℕ). m + 1) g.counted;
      held = subst (λ (l : List Frame). AreHeld v l (g.items ++ i ∷ [])) (sym (taken_more fs n f here)) (held-append v (take n fs) (f ∷ []) g.items (i ∷ []) g.held (held, tt));
      passed = passed;
    }

    -- or a frame holds nothing that may follow
    pub come_stops : (n : ℕ) (f : Frame) (old new : HistoryWalk R S W) (g : HasCome terms first v from fs n old) → slice_get fs n ≡ Some f → (e : OpenFault) → PassesFrameAs terms (begun_at first from fs) v f g.items new (Err e)
        → GoesOnAs terms first v from fs new (Err e)
    come_stops n f old new g here (NoStore at) (refused, place) = record {
      number = n;
      frame = f;
      there = here;
      items = g.items;
      held = g.held;
      stand = g.passed.reached.taken.stand;
      refused = refused;
      place = place ∙ ap (frame_place from fs) g.counted;
    }
    come_stops n f old new g here Disk none = tt
    come_stops n f old new g here Memory none = tt

  module _ (v from : ℕ) (fs : List Frame) where
    -- the first frame, which holds the start, has been passed
    pub come_first : (x : Start R) (w : HistoryWalk R S W) → StartsAs terms.view from v fs (Ok x) → ((i : Item) → IsStartOf i x.kind (terms.view x.tree) → HasReached terms.view terms.source_view terms.Fits None w (i ∷ [])) → ((place : ℕ → ℕ) (i : Item) → IsStartOf i x.kind (terms.view x.tree) → terms.Done w.work None place (i ∷ []))
        → HasCome terms None v from fs 1 w
    come_first x w (f, rest, i, are, held, is) reached done = record {
      items = i ∷ [];
      counted = refl;
      held = subst (λ (l : List Frame). AreHeld v (take 1 l) (i ∷ [])) (sym are) (held, tt);
      passed = record { reached = reached i is; done = done (frame_place from fs) i is };
    }

    -- or there is none, or it holds no start
    pub first_stops : (e : OpenFault) → StartsAs terms.view from v fs (Err e) → TellsPassedAs terms v from fs (Err e)
    first_stops (NoStore at) (place, none) = of fs none
      where
        of : (l : List Frame) → ((f : Frame) (rest : List Frame) → l ≡ f ∷ rest → IsRefused v None f) → ((l ≡ []) × (at ≡ from)) ⊎ StopsAtFrame from v None l at
        of [] none = inl (refl, place)
        of (f ∷ rest) none = inr (record {
          number = 0;
          frame = f;
          there = refl;
          items = [];
          held = tt;
          stand = tt;
          refused = none f rest refl;
          place = place ∙ omega arith;
        })
    first_stops Disk none = tt
    first_stops Memory none = tt

    -- all have been passed that come after it, or one stops the walk
    pub tells_on : (w : HistoryWalk R S W) (e : OpenFault) → GoesOnAs terms None v from fs w (Err e) → TellsPassedAs terms v from fs (Err e)
    tells_on w (NoStore at) stops = inr stops
    tells_on w Disk none = tt
    tells_on w Memory none = tt

  -- the frames of a file hold what has been passed of them all
  pub held_all : (c : List ℕ) (hd : Header) (w : HistoryWalk R S W) (tells : TellsPassedAs terms hd.version HEADER_SIZE (frames_of (drop HEADER_SIZE c)).frames (Ok w)) → AreHeld hd.version (frames_of (drop HEADER_SIZE c)).frames tells.1.items
  held_all c hd w tells =
      let fs = (frames_of (drop HEADER_SIZE c)).frames in
      subst (λ (l : List Frame). AreHeld hd.version l tells.1.items) (take_all (length fs) fs (omega arith)) tells.1.held

  module _ (c : List ℕ) (hd : Header) (has : HasHeader c) (said : hd ≡ header_in (take HEADER_SIZE c)) (closed : open_slot hd ≡ None) where
    -- a file of which a frame stops the walk, or that has none, stops there
    stopped_at : (at : ℕ) → TellsPassedAs terms hd.version HEADER_SIZE (frames_of (drop HEADER_SIZE c)).frames (Err (NoStore at)) → StopsAt c at
    stopped_at at none = stops_at_gate c hd has said closed at (stops_in (frames_of (drop HEADER_SIZE c)) hd.version at none)

    -- nothing is found of it
    pub finds_not : (e : OpenFault) → TellsPassedAs terms hd.version HEADER_SIZE (frames_of (drop HEADER_SIZE c)).frames (Err e) → FindsAs terms.Done c (Err e)
    finds_not (NoStore at) none = whole_not c at (stopped_at at none)
    finds_not Disk none = tt
    finds_not Memory none = tt

    -- and it doesn't open
    pub opens_stopped : (v : View) (e : OpenFault) → TellsPassedAs terms hd.version HEADER_SIZE (frames_of (drop HEADER_SIZE c)).frames (Err e) → OpensAs terms.view terms.source_view c v (Err e)
    opens_stopped v (NoStore at) none = opens_not c at (stopped_at at none)
    opens_stopped v Disk none = tt
    opens_stopped v Memory none = tt

    module _ (j : JournalState) (w : HistoryWalk R S W) (walked : HasWalked HEADER_SIZE (frames_of (drop HEADER_SIZE c)) j c)
        (tells : TellsPassedAs terms hd.version HEADER_SIZE (frames_of (drop HEADER_SIZE c)).frames (Ok w)) where
      -- a file in which a frame is cut short stops there
      broken_at : (at : ℕ) → j.broken ≡ Some at → StopsAt c at
      broken_at at broken = stops_at_gate c hd has said closed at (stops_after c hd.version at j walked broken tells.1.items (held_all c hd w tells) tells.1.passed.reached.taken.stand)

      pub finds_broken : (at : ℕ) → j.broken ≡ Some at → IsNot OpensAndReplays c at
      finds_broken at broken = whole_not c at (broken_at at broken)

      pub opens_broken : (at : ℕ) → j.broken ≡ Some at → IsNot Opens c at
      opens_broken at broken = opens_not c at (broken_at at broken)

      -- what is found of all frames is found of the file
      pub finds : j.broken ≡ None → FindsAs terms.Done c (Ok w.work)
      finds whole =
          let fs = (frames_of (drop HEADER_SIZE c)).frames in
          let clean = clean_of (frames_of (drop HEADER_SIZE c)).clean _ j.broken walked.broken whole in
          let come = tells.1 in
          let items = come.items in
          let taken = come.passed.reached.taken in
          let some = tells.0 in
          let counted = come.counted in
          let told : IsTold false (flat_map entries_in items) c = record {
            header = has;
            frames = fs;
            stand = record { frames = refl; clean = clean };
            items = items;
            some = omega (arith, some, counted);
            held = held_here c hd has said fs items (held_all c hd w tells);
            tell = taken.stand;
            are = refl;
          } in
          record {
            opens = told-opens c (flat_map entries_in items) told (closed_here c hd has said closed);
            history = flat_map entries_in items;
            told = told;
            state = taken.state;
            replayed = replayed-items items ∙ taken.replayed;
            done = come.passed.done;
          }
