-- What a crash leaves while a frame is added.
use Rattle.std.proofs.Common.{◌≡◌, ◌≤◌, ◌<◌, ◌+◌, inl, inr, ⊎_elim, ℕ, true, List, [], ◌∷◌, ◌++◌, length, take, drop, get_or, sym, ◌∙◌, ap, arith, append_assoc, length-append, length-take}
use Rattle.std.specs.Int.{w64, to_be_bytes}
use Rattle.std.proofs.lemmas.List.{take_at, drop_at, drop_more, take-take, get_or-take, get_or_at}
use Rattle.std.proofs.lemmas.Bool.{cases_eq}
use Rattle.cp_disk.specs.Views.{View, Only}
use Rattle.cp_disk.specs.Writes.{Torn, with_bytes}
use Rattle.cp_journal.specs.Frames.{Frame, after_gate, spelled, Walk, onto, ended, frames_of}
use Rattle.cp_journal.specs.Holding.{IsLawful, HasFrames, IsAtRest, IsAdded, Continues, IsBeforeOrAfter}
use Rattle.cp_journal.proofs.Walks.{frames_of-closed, frames_of-whole}

-- what a walk from an offset finds, the file has there
pub found : {from : ℕ} {fs : List Frame} {c : List ℕ} → frames_of (drop from c) ≡ record { frames = fs; clean = true } → HasFrames from fs c
found is = record { frames = ap (λ (w : Walk). w.frames) is; clean = ap (λ (w : Walk). w.clean) is }

module _ (e : ℕ) (old : List ℕ) where
  -- a file with this front and a closed gate
  pub nothing_added : (c : List ℕ) → e < length c → take e c ≡ take e old → (get_or c e 0 ≡ 1 → ⊥) → Continues e old [] c
  nothing_added c le front ne =
      let here : drop e c ≡ get_or c e 0 ∷ drop (e + 1) c = drop_more c e 0 le in
      let is : frames_of (drop e c) ≡ ended true = ap frames_of here ∙ frames_of-closed (get_or c e 0) (drop (e + 1) c) ne in
      record { front = front; inside = omega arith; frames = found is }

module _ (e : ℕ) (old : List ℕ) (f : Frame) (ok : IsLawful f) where
  -- a file with this front, a gate, the frame behind it, and a closed gate
  pub one_added : (c rest : List ℕ) → e < length c → take e c ≡ take e old → drop (e + 1) c ≡ after_gate f ++ rest → IsBeforeOrAfter e old f c
  one_added c rest le front behind =
      let here : drop e c ≡ get_or c e 0 ∷ drop (e + 1) c = drop_more c e 0 le in
      ⊎_elim (λ is_open. inr (opened is_open here)) (λ ne. inl (nothing_added e old c le front ne)) (cases_eq (get_or c e 0) 1)
    where
      opened : get_or c e 0 ≡ 1 → drop e c ≡ get_or c e 0 ∷ drop (e + 1) c → Continues e old (f ∷ []) c
      opened is_open here =
          let whole : drop e c ≡ spelled f ++ 0 ∷ rest =
          here ∙ ap (λ (g : ℕ). g ∷ drop (e + 1) c) is_open ∙ ap (λ (l : List ℕ). 1 ∷ l) behind
          ∙ ap (λ (l : List ℕ). 1 ∷ f.tag ∷ l) (append_assoc (to_be_bytes w64 (length f.body) ++ f.body) (0 ∷ []) rest) in
          let is : frames_of (drop e c) ≡ onto f (ended true) = ap frames_of whole ∙ frames_of-whole f (0 ∷ rest) ok ∙ ap (onto f) (frames_of-closed 0 rest (omega arith)) in
          record { front = front; inside = omega arith; frames = found is }

-- what a front says of a shorter one
pub shorter_front : (m n : ℕ) (xs ys : List ℕ) → m ≤ n → take n xs ≡ take n ys → take m xs ≡ take m ys
shorter_front m n xs ys le same = sym (take-take m n xs le) ∙ ap (take m) same ∙ take-take m n ys le

pub front_inside : (e : ℕ) (c old : List ℕ) → e < length old → take (e + 1) c ≡ take (e + 1) old → e < length c
front_inside e c old lt same = omega (arith, ap length same, length-take (e + 1) c, length-take (e + 1) old)

pub front_gate : (e : ℕ) (c old : List ℕ) → take (e + 1) c ≡ take (e + 1) old → get_or c e 0 ≡ get_or old e 0
front_gate e c old same = sym (get_or-take (e + 1) c e 0 (omega arith)) ∙ ap (λ (l : List ℕ). get_or l e 0) same ∙ get_or-take (e + 1) old e 0 (omega arith)

module _ (e : ℕ) (v : View) (rest : IsAtRest e v) where
  -- each image has nothing more
  pub now_before : (c : List ℕ) → take (e + 1) c ≡ take (e + 1) v.content → Continues e v.content [] c
  now_before c same =
      nothing_added e v.content c (front_inside e c v.content rest.inside same) (shorter_front e (e + 1) c v.content (omega arith) same)
      (λ is_open. rest.closed (sym (front_gate e c v.content same) ∙ is_open))

  -- nor has one that a write behind the gate leaves
  pub torn_behind : (n : ℕ) (d c : List ℕ) → v.images d → Torn (e + 1) n d c → take (e + 1) c ≡ take (e + 1) v.content
  torn_behind n d c im torn = torn.before ∙ rest.settled d im

module _ (e : ℕ) (v : View) (f : Frame) (ok : IsLawful f) (rest : IsAtRest e v) where
  -- the file with the frame behind the closed gate
  abbrev pub staged : List ℕ
  staged = with_bytes v.content (e + 1) (after_gate f)

  pub staged_front : take (e + 1) staged ≡ take (e + 1) v.content
  staged_front = take_at (take (e + 1) v.content) (after_gate f ++ drop (e + 1 + length (after_gate f)) v.content) (e + 1) (let i = rest.inside in omega (arith, length-take (e + 1) v.content))

  pub staged_behind : drop (e + 1) staged ≡ after_gate f ++ drop (e + 1 + length (after_gate f)) v.content
  staged_behind = drop_at (take (e + 1) v.content) (after_gate f ++ drop (e + 1 + length (after_gate f)) v.content) (e + 1) (let i = rest.inside in omega (arith, length-take (e + 1) v.content))

  pub length-staged : e < length staged
  length-staged = front_inside e staged v.content rest.inside staged_front

  -- a crash while the gate is with_bytes leaves the frame or not
  pub torn_gate : (c : List ℕ) → Torn e 1 staged c → IsBeforeOrAfter e v.content f c
  torn_gate c torn =
      let long = length-staged in
      one_added e v.content f ok c (drop (e + 1 + length (after_gate f)) v.content) (omega (arith, torn.no_shorter))
      (torn.before ∙ shorter_front e (e + 1) staged v.content (omega arith) staged_front)
      (torn.after ∙ staged_behind)

  abbrev pub added : List ℕ
  added = with_bytes staged e (1 ∷ [])

  added_is : added ≡ (take e v.content ++ spelled f) ++ 0 ∷ drop (e + 1 + length (after_gate f)) v.content
  added_is =
      let left = drop (e + 1 + length (after_gate f)) v.content in
      let be = to_be_bytes w64 (length f.body) ++ f.body in
      ap (λ (l : List ℕ). l ++ (1 ∷ drop (e + 1) staged)) (shorter_front e (e + 1) staged v.content (omega arith) staged_front)
      ∙ ap (λ (l : List ℕ). take e v.content ++ 1 ∷ l) staged_behind
      ∙ ap (λ (l : List ℕ). take e v.content ++ 1 ∷ f.tag ∷ l) (append_assoc be (0 ∷ []) left)
      ∙ sym (append_assoc (take e v.content) (spelled f) (0 ∷ left))

  pub is_added : (w : View) (to : ℕ) → to ≡ e + length (spelled f) → w.content ≡ added → Only w.content w.images → IsAdded e f v.content to w
  is_added w to size is only =
      let left = drop (e + 1 + length (after_gate f)) v.content in
      let front = take e v.content ++ spelled f in
      let i = rest.inside in
      let len : length front ≡ to = omega (arith, length-append (take e v.content) (spelled f), length-take e v.content) in
      let content : w.content ≡ front ++ 0 ∷ left = is ∙ added_is in
      let gate : get_or w.content to 0 ≡ 0 = ap (λ (l : List ℕ). get_or l to 0) content ∙ get_or_at front 0 left 0 to len in
      record {
        size = size;
        front = ap (take to) content ∙ take_at front (0 ∷ left) to len;
        at_rest = record {
          inside = omega (arith, ap length content, length-append front (0 ∷ left), len);
          closed = λ is_open. let no : 0 ≡ 1 = sym gate ∙ is_open in absurd (omega (arith, no));
          settled = λ c im. ap (take (to + 1)) (only c im);
        };
        durable = only;
      }
