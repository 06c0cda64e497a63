-- One more frame of a walk.
use Rattle.std.proofs.Common.{◌≡◌, ◌≤◌, ◌<◌, ◌+◌, ◌*◌, ◌&&◌, inl, inr, ℕ, suc, Bool, true, false, if◌then◌else◌, IsTrue, None, Some, Option, get_or, take-append-drop, List, [], ◌∷◌, ◌++◌, length, take, drop, refl, sym, ◌∙◌, ap, subst, arith, append_assoc, append-nil, length-append, length-take, length-drop}
use Rattle.std.specs.Int.{w64, from_be_bytes}
use Rattle.std.proofs.lemmas.List.Concat.{flat_map-append}
use Rattle.std.proofs.lemmas.List.{take_at, get_or-drop}
use Rattle.std.proofs.lemmas.Bool.{cases_Bool}
use lib.Dec.{leb}
use Rattle.cp_disk.specs.Views.{View, Only, ViewRests}
use Rattle.cp_journal.specs.Frames.{Frame, fits, spelled, spelled_all, closed, broken, frame_of, with_length, at_open, gate_at, Walk, onto, ended, frames_of}
use Rattle.cp_journal.specs.Holding.{Holds}
use Rattle.cp_journal.specs.Journals.{JournalState, places, Lists, HasWalked, Describes}
use Rattle.cp_journal.specs.Walks.{frame_in, IsWholeAt, Stretches, end_gate}
use Rattle.cp_journal.specs.declared.frame.FrameAt.{FrameAt}
use Rattle.cp_journal.proofs.Places.{place, length-spelled, places-push}
use Rattle.cp_journal.proofs.Looks.{at_end}
use Rattle.cp_journal.proofs.Standing.{lawful-push, describes}
use Rattle.cp_journal.proofs.Walks.{frames_of-all, frames_of-ends, onto_all, frames-onto_all}

-- a frame more
pub stretch_more : (from : ℕ) (at : ℕ) (content : List ℕ) (tag len : ℕ) (old new : List FrameAt) → ((fs : List Frame) × Stretches from fs at content × (old ≡ places from fs)) → IsWholeAt at content tag len → new ≡ old ++ place at tag len ∷ []
    → (fs : List Frame) × Stretches from fs (at + (len + 10)) content × (new ≡ places from fs)
stretch_more from at content tag len old new found seen pushed =
    let fs = found.0 in
    let s = found.1 in
    let f = frame_in at content tag len in
    let n : length f.body ≡ len = omega (arith, length-take len (drop (at + 10) content), length-drop (at + 10) content, seen.inside) in
    let to : at + (len + 10) ≡ at + 10 + len = omega arith in
    let spells : spelled_all (fs ++ f ∷ []) ≡ spelled_all fs ++ spelled f = flat_map-append spelled fs (f ∷ []) ∙ ap (λ (l : List ℕ). spelled_all fs ++ l) (append-nil (spelled f)) in (
      fs ++ f ∷ [],
      record {
        lawful = lawful-push fs f s.lawful seen.lawful;
        size = omega (arith, s.size, ap length spells, length-append (spelled_all fs) (spelled f), length-spelled f, n);
        bytes = s.bytes ∙ ap (λ (l : List ℕ). spelled_all fs ++ l) seen.bytes ∙ sym (append_assoc (spelled_all fs) (spelled f) (drop (at + 10 + len) content))
            ∙ ap (λ (l : List ℕ). l ++ drop (at + 10 + len) content) (sym spells) ∙ ap (λ (k : ℕ). spelled_all (fs ++ f ∷ []) ++ drop k content) (sym to);
        inside = omega (arith, seen.inside);
      },
      pushed ∙ ap (λ (l : List FrameAt). l ++ place at tag len ∷ []) found.2
          ∙ ap (λ (k : ℕ). places from fs ++ place at tag k ∷ []) (sym n)
          ∙ ap (λ (k : ℕ). places from fs ++ place k tag (length f.body) ∷ []) s.size
          ∙ sym (places-push from fs f),
    )

never_closed : (rest : List ℕ) → at_open rest ≡ closed → ⊥
never_closed [] is = cc is
never_closed (tag ∷ xs) is = elim (cases_Bool (leb 8 (length xs))) [
  | inl room ↦ (let len = from_be_bytes w64 (take 8 xs) in let left = drop 8 xs in
      let has : with_length tag len left ≡ closed = rw room at is in
      elim (cases_Bool (fits tag len && leb len (length left))) [
        | inl holds ↦ let f : frame_of tag len left ≡ closed = rw holds at has in cc f
        | inr fails ↦ let b : broken ≡ closed = rw fails at has in cc b
      ])
  | inr short ↦ let b : broken ≡ closed = rw short at is in cc b
]

gate_closed : (bytes : List ℕ) → gate_at bytes ≡ closed → (0 < length bytes) × (get_or bytes 0 0 ≡ 1 → ⊥)
unfolding gate_at
gate_closed [] is = absurd (cc is)
gate_closed (g ∷ rest) is = (omega arith, λ one. never_closed rest (ap gate_at (ap (λ (h : ℕ). h ∷ rest) (sym one)) ∙ is))

-- a walk that ended at a closed gate of a file that is on the disk
pub stretch_holds : (head : List ℕ) (fs : List Frame) (to : ℕ) (v : View) → Stretches (length head) fs to v.content → take (length head) v.content ≡ head → gate_at (drop to v.content) ≡ closed → Only v.content v.images → Holds head fs to v
stretch_holds head fs to v s front end only =
    let n = length head in
    let all = head ++ spelled_all fs in
    let whole : v.content ≡ all ++ drop to v.content =
    sym (take-append-drop n v.content) ∙ ap (λ (l : List ℕ). l ++ drop n v.content) front ∙ ap (λ (l : List ℕ). head ++ l) s.bytes ∙ sym (append_assoc head (spelled_all fs) (drop to v.content)) in
    let long : length all ≡ to = omega (arith, length-append head (spelled_all fs), s.size) in
    let gate = gate_closed (drop to v.content) end in
    let here : get_or (drop to v.content) 0 0 ≡ get_or v.content to 0 = get_or-drop to v.content 0 0 ∙ ap (λ (k : ℕ). get_or v.content k 0) (let e : to + 0 ≡ to = omega arith in e) in
    record {
      lawful = s.lawful;
      size = s.size;
      front = ap (take to) whole ∙ take_at all (drop to v.content) to long;
      at_rest = record {
        inside = omega (arith, gate.0, length-drop to v.content);
        closed = λ one. gate.1 (here ∙ one);
        settled = λ c im. ap (take (to + 1)) (only c im);
      };
    }

onto_all-ended : (fs : List Frame) (clean : Bool) → onto_all fs (ended clean) ≡ record { frames = fs; clean = clean }
onto_all-ended [] clean = refl
onto_all-ended (f ∷ fs) clean = ap (onto f) (onto_all-ended fs clean)

-- the walk from an offset is the one that was made
pub walk_is : (from : ℕ) (fs : List Frame) (to : ℕ) (c : List ℕ) (clean : Bool) → Stretches from fs to c → gate_at (drop to c) ≡ end_gate clean → frames_of (drop from c) ≡ record { frames = fs; clean = clean }
walk_is from fs to c clean s end =
    ap frames_of s.bytes ∙ frames_of-all fs (drop to c) s.lawful ∙ ap (onto_all fs) (frames_of-ends (drop to c) clean end) ∙ onto_all-ended fs clean

-- frames that stand from an offset on, as a journal lists them
pub stretch_lists : (from : ℕ) (fs : List Frame) (to : ℕ) (j : JournalState) (c : List ℕ) → Stretches from fs to c → j.frames ≡ places from fs → Lists from fs j c
stretch_lists from fs to j c s places = record {
  lawful = s.lawful;
  frames = places;
  bytes = ap (take (length (spelled_all fs))) s.bytes ∙ take_at (spelled_all fs) (drop to c) (length (spelled_all fs)) refl;
}

module _ (at : ℕ) (fs : List Frame) (u v w : View) (clean : Bool) (j : JournalState) (uv : ViewRests u v) (vw : ViewRests v w) (s : Stretches at fs j.next v.content) (end : gate_at (drop j.next v.content) ≡ end_gate clean) (listed : j.frames ≡ places at fs) where
  here : Stretches at fs j.next u.content
  here = subst (λ (l : List ℕ). Stretches at fs j.next l) uv.content s

  end_here : gate_at (drop j.next u.content) ≡ end_gate clean
  end_here = ap (λ (l : List ℕ). gate_at (drop j.next l)) (sym uv.content) ∙ end

  pub opened : j.broken ≡ (if clean then None else Some j.next) → HasWalked at (frames_of (drop at u.content)) j u.content
  opened stops = subst (λ (k : Walk). HasWalked at k j u.content) (sym (walk_is at fs j.next u.content clean here end_here)) (record {
    lists = stretch_lists at fs j.next j u.content here listed;
    broken = stops ∙ ap (λ (n : ℕ). if clean then None else Some n) s.size;
    next = λ is. s.size;
  })

  pub opened_describes : IsTrue clean → Only u.content u.images → Describes (take at u.content) (frames_of (drop at u.content)).frames j w
  opened_describes is only =
      let same : u.content ≡ w.content = sym uv.content ∙ sym vw.content in
      let head = take at u.content in
      let long : length head ≡ at = omega (arith, length-take at u.content, here.inside, here.size) in
      let fs_is : (frames_of (drop at u.content)).frames ≡ fs = ap (λ (k : Walk). k.frames) (walk_is at fs j.next u.content clean here end_here) in
      let there : Stretches (length head) fs j.next w.content = subst (λ (l : List ℕ). Stretches (length head) fs j.next l) same (subst (λ (k : ℕ). Stretches k fs j.next u.content) (sym long) here) in
      let holds : Holds head fs j.next w = stretch_holds head fs j.next w there (ap (λ (k : ℕ). take k w.content) long ∙ ap (take at) (sym same))
      (ap (λ (l : List ℕ). gate_at (drop j.next l)) (sym same) ∙ end_here ∙ ap end_gate is) (λ c im. only c (uv.images c (vw.images c im)) ∙ same) in
      subst (λ (l : List Frame). Describes head l j w) (sym fs_is) (describes head fs j w holds (listed ∙ ap (λ (k : ℕ). places k fs) (sym long)))

-- a walk from after the end finds nothing
pub opened_past : (at : ℕ) (j : JournalState) (c : List ℕ) → length c ≤ at → j.frames ≡ [] → j.broken ≡ Some at → HasWalked at (frames_of (drop at c)) j c
opened_past at j c past none stops =
    subst (λ (k : Walk). HasWalked at k j c) (sym (frames_of-ends (drop at c) false (at_end at c past))) (record {
      lists = record { lawful = tt; frames = none; bytes = refl };
      broken = stops ∙ ap (λ (n : ℕ). Some n) (let e : at ≡ at + 0 = omega arith in e);
      next = λ is. absurd (cc is);
    })

-- a walk has ended clean where no gate is kept
pub clean_is : (clean : Bool) (n : ℕ) (kept : Option ℕ) → kept ≡ (if clean then None else Some n) → kept ≡ None → clean ≡ true
clean_is true n kept is none = refl
clean_is false n kept is none = let no : Some n ≡ None = sym is ∙ none in absurd (cc no)

-- the walk finds the frames that stand there, and others perhaps
stretch_few : (from : ℕ) (fs : List Frame) (to : ℕ) (c : List ℕ) (places_are : List FrameAt) → Stretches from fs to c → places_are ≡ places from fs → length places_are ≤ length (frames_of (drop from c)).frames
stretch_few from fs to c listed s is =
    let walk : (frames_of (drop from c)).frames ≡ fs ++ (frames_of (drop to c)).frames =
    ap (λ (l : List ℕ). (frames_of l).frames) s.bytes ∙ ap (λ (w : Walk). w.frames) (frames_of-all fs (drop to c) s.lawful) ∙ frames-onto_all fs (frames_of (drop to c)) in
    omega (arith, ap length walk, length-append fs (frames_of (drop to c)).frames, ap length is, length-places from fs)
  where
    length-places : (from : ℕ) (fs : List Frame) → length (places from fs) ≡ length fs
    length-places from [] = refl
    length-places from (f ∷ fs) = ap (λ (n : ℕ). suc n) (length-places (from + 10 + length f.body) fs)

-- the reads of a walk that stops after these frames are few beside the frames that are there
pub reads_few : (from : ℕ) (to : ℕ) (c : List ℕ) (listed : List FrameAt) (first now last : ℕ) → ((fs : List Frame) × Stretches from fs to c × (listed ≡ places from fs)) → now ≤ first + 2 * length listed → last ≤ now + 2
    → last ≤ first + 2 * length (frames_of (drop from c)).frames + 2
reads_few from to c listed first now last found so_far more =
    let few = stretch_few from found.0 to c listed found.1 found.2 in
    omega (arith, few, so_far, more)
