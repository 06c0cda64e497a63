-- What the bytes that were read say of a gate.
use Rattle.std.proofs.Common.{◌≡◌, ◌≤◌, ◌<◌, ◌+◌, ◌^◌, inl, inr, ℕ, suc, true, false, List, [], ◌∷◌, ◌++◌, length, take, drop, get_or, refl, sym, ◌∙◌, ap, subst, arith, append_assoc, length-take, length-drop, take-append-drop}
use Rattle.std.specs.Int.{w64, to_be_bytes, from_be_bytes}
use Rattle.std.proofs.lemmas.Nat.{be_bytes_8}
use Rattle.std.proofs.lemmas.List.{drop_more, drop_all, drop-drop, get_or-take, get_or-drop, take_all}
use Rattle.std.proofs.lemmas.Bool.{cases_Bool}
use Rattle.std.proofs.lemmas.Bool.Decides.{nat_tests}
use lib.Dec.{leb}
use Rattle.cp_journal.specs.Frames.{fits, closed, broken, with_length, at_open, gate_at}
use Rattle.cp_journal.specs.Walks.{length_in, frame_in, IsWholeAt}
use Rattle.cp_journal.proofs.Walks.{gate_at-closed}

-- after the end no frame stands
pub at_end : (at : ℕ) (content : List ℕ) → length content ≤ at → gate_at (drop at content) ≡ broken
unfolding gate_at
at_end at content le = ap gate_at (drop_all at content le)

first_is : (at : ℕ) (content : List ℕ) → at < length content → drop at content ≡ get_or content at 0 ∷ drop (at + 1) content
first_is at content lt = drop_more content at 0 lt

-- what one byte read there says
pub read_first : (at : ℕ) (content into : List ℕ) → length into ≡ 1 → into ≡ take (length into) (drop at content) → get_or into 0 0 ≡ get_or content at 0
read_first at content into len is =
    ap (λ (l : List ℕ). get_or l 0 0) is ∙ get_or-take (length into) (drop at content) 0 0 (omega (arith, len)) ∙ get_or-drop at content 0 0 ∙ ap (λ (k : ℕ). get_or content k 0) (let e : at + 0 ≡ at = omega arith in e)

pub seen_closed : (at : ℕ) (content into : List ℕ) → at < length content → length into ≡ 1 → into ≡ take (length into) (drop at content) → (get_or into 0 0 ≡ 1 → ⊥) → gate_at (drop at content) ≡ closed
seen_closed at content into lt len is ne =
    ap gate_at (first_is at content lt) ∙ gate_at-closed (get_or content at 0) (drop (at + 1) content) (λ one. ne (read_first at content into len is ∙ one))

short_gate : (zs : List ℕ) → length zs < 9 → at_open zs ≡ broken
short_gate [] lt = refl
short_gate (tag ∷ rest) lt = let no : leb 8 (length rest) ≡ false = grind (arith, nat_tests) in rw no refl

opened : (at : ℕ) (content : List ℕ) → at < length content → get_or content at 0 ≡ 1 → gate_at (drop at content) ≡ at_open (drop (at + 1) content)
unfolding gate_at
opened at content lt one = ap gate_at (first_is at content lt ∙ ap (λ (g : ℕ). g ∷ drop (at + 1) content) one)

pub seen_short : (at : ℕ) (content : List ℕ) → at < length content → length content < at + 10 → get_or content at 0 ≡ 1 → gate_at (drop at content) ≡ broken
seen_short at content lt short one = opened at content lt one ∙ short_gate (drop (at + 1) content) (omega (arith, length-drop (at + 1) content))

-- what nine bytes read after a gate are
pub nine_read : (at : ℕ) (content now into : List ℕ) → now ≡ content → length into ≡ 9 → into ≡ take (length into) (drop (at + 1) now) → into ≡ take 9 (drop (at + 1) content)
nine_read at content now into same nine is =
    is ∙ ap (λ (n : ℕ). take n (drop (at + 1) now)) nine ∙ ap (λ (l : List ℕ). take 9 (drop (at + 1) l)) same

module _ (at : ℕ) (content head : List ℕ) (room : at + 10 ≤ length content) (small : length content ≤ 2 ^ 62) (one : get_or content at 0 ≡ 1) (is : head ≡ take 9 (drop (at + 1) content)) (bytes : (i : ℕ) → get_or head i 0 < 256) where
  abbrev rest : List ℕ
  rest = drop (at + 2) content

  behind_is : drop (at + 1) content ≡ get_or content (at + 1) 0 ∷ rest
  behind_is = drop_more content (at + 1) 0 (omega arith) ∙ ap (λ (k : ℕ). get_or content (at + 1) 0 ∷ drop k content) (let e : at + 1 + 1 ≡ at + 2 = omega arith in e)

  head_is : head ≡ get_or content (at + 1) 0 ∷ take 8 rest
  head_is = is ∙ ap (take 9) behind_is

  tag_is : get_or head 0 0 ≡ get_or content (at + 1) 0
  tag_is = ap (λ (l : List ℕ). get_or l 0 0) head_is

  eight : length (take 8 rest) ≡ 8
  eight = omega (arith, length-take 8 rest, length-drop (at + 2) content)

  take_eight : take 8 (drop 1 head) ≡ take 8 rest
  take_eight = ap (λ (l : List ℕ). take 8 (drop 1 l)) head_is ∙ take_all 8 (take 8 rest) (omega (arith, eight))

  len_is : length_in head ≡ from_be_bytes w64 (take 8 rest)
  len_is = ap (from_be_bytes w64) take_eight

  left_is : drop 8 rest ≡ drop (at + 10) content
  left_is = drop-drop 8 (at + 2) content ∙ ap (λ (k : ℕ). drop k content) (let e : at + 2 + 8 ≡ at + 10 = omega arith in e)

  gate_is : gate_at (drop at content) ≡ with_length (get_or head 0 0) (length_in head) (drop (at + 10) content)
  gate_is =
      let yes_8 : leb 8 (length rest) ≡ true = let n = length-drop (at + 2) content in grind (arith, nat_tests) in
      opened at content (omega arith) one ∙ ap at_open behind_is
      ∙ (rw yes_8 refl ∙ ap (λ (n : ℕ). with_length (get_or content (at + 1) 0) n (drop 8 rest)) (sym len_is)
      ∙ ap (λ (t : ℕ). with_length t (length_in head) (drop 8 rest)) (sym tag_is)
      ∙ ap (λ (l : List ℕ). with_length (get_or head 0 0) (length_in head) l) left_is)

  byte_of : (i : ℕ) → get_or (take 8 rest) i 0 < 256
  byte_of i = subst (λ (k : ℕ). k < 256) (ap (λ (l : List ℕ). get_or l (suc i) 0) head_is) (bytes (suc i))

  module _ (len : ℕ) (says : len ≡ length_in head) where
    abbrev tag : ℕ
    tag = get_or head 0 0

    abbrev left : List ℕ
    left = drop (at + 10) content

    gate_says : gate_at (drop at content) ≡ with_length tag len left
    gate_says = gate_is ∙ ap (λ (n : ℕ). with_length tag n left) (sym says)

    -- where tag and length fit no frame
    pub seen_unfit : fits tag len ≡ false → gate_at (drop at content) ≡ broken
    seen_unfit fails = gate_says ∙ (rw fails refl)

    -- where the file ends before the body does
    pub seen_cut_short : length content < at + 10 + len → gate_at (drop at content) ≡ broken
    seen_cut_short lt =
        let short : leb len (length left) ≡ false = let n = length-drop (at + 10) content in grind (arith, nat_tests) in
        elim (cases_Bool (fits tag len)) [
          | inl holds ↦ gate_says ∙ (rw (holds, short) refl)
          | inr fails ↦ seen_unfit fails
        ]

    -- where the whole body is there
    pub seen_whole : fits tag len ≡ true → at + 10 + len ≤ length content → IsWholeAt at content tag len
    seen_whole fit le =
        let body = take len left in
        let n : length body ≡ len = omega (arith, length-take len left, length-drop (at + 10) content, le) in
        let be : to_be_bytes w64 len ≡ take 8 rest = be_bytes_8 (take 8 rest) len eight byte_of (says ∙ len_is) in
        let f = frame_in at content tag len in
        let whole_is : drop at content ≡ 1 ∷ tag ∷ (take 8 rest ++ left) =
        first_is at content (omega arith) ∙ ap (λ (g : ℕ). g ∷ drop (at + 1) content) one ∙ ap (λ (l : List ℕ). 1 ∷ l) behind_is
        ∙ ap (λ (t : ℕ). 1 ∷ t ∷ rest) (sym tag_is) ∙ ap (λ (l : List ℕ). 1 ∷ tag ∷ l) (sym (take-append-drop 8 rest) ∙ ap (λ (l : List ℕ). take 8 rest ++ l) left_is) in
        let spell : take 8 rest ++ left ≡ (to_be_bytes w64 (length body) ++ body) ++ drop (at + 10 + len) content =
        ap (λ (l : List ℕ). l ++ left) (sym be ∙ ap (to_be_bytes w64) (sym n)) ∙ ap (λ (l : List ℕ). to_be_bytes w64 (length body) ++ l) (sym (take-append-drop len left) ∙ ap (λ (l : List ℕ). body ++ l) (drop-drop len (at + 10) content))
        ∙ sym (append_assoc (to_be_bytes w64 (length body)) body (drop (at + 10 + len) content)) in
        record {
          inside = omega (arith, le);
          lawful = record { fits = ap (fits tag) n ∙ fit; short = (let k : length body < 2 ^ 64 = omega (arith, n, le, small) in k) };
          bytes = whole_is ∙ ap (λ (l : List ℕ). 1 ∷ tag ∷ l) spell;
        }
