-- The body of a frame that is written piece by piece, and the frame that it becomes.
use Rattle.std.proofs.Common.{◌≡◌, ◌≤◌, ◌+◌, inl, ℕ, Some, List, [], ◌∷◌, ◌++◌, length, take, drop, refl, sym, ◌∙◌, ap, subst, arith, append_assoc, length-append, length-take, length-drop}
use Rattle.std.specs.Int.{w64, to_be_bytes}
use Rattle.std.proofs.lemmas.List.{take_at, drop-take, take-take, take-append-le, drop-append-le}
use Rattle.cp_disk.specs.ImageLaws.{length-with_bytes}
use Rattle.cp_disk.specs.Views.{View, Only, ViewSteps, ViewKeeps}
use Rattle.cp_disk.specs.Writes.{Torn, with_bytes}
use Rattle.cp_disk.proofs.Composing.{keeps_steps, keeps_wider}
use Rattle.cp_journal.specs.Begun.{checkpoint, ViewKeepsFront, HasBegun}
use Rattle.cp_journal.specs.Frames.{Frame, after_gate, spelled}
use Rattle.cp_journal.specs.Holding.{IsLawful, IsAtRest, IsAdded, Continues, IsBeforeOrAfter}
use Rattle.cp_journal.specs.Journals.{JournalState}
use Rattle.cp_disk.specs.declared.limits.TheConstants.{DISK_MAX}
use Rattle.cp_journal.specs.declared.limits.TheConstants.{FRAME_HEAD}
use Rattle.cp_journal.proofs.Adding.{torn_gate, is_added, length-staged}
use Rattle.cp_journal.proofs.Fronts.{front_rest, front_before}
use Rattle.cp_journal.proofs.Walks.{length-be8}

-- a file may have the frame of a checkpoint whose body a file has room for
pub lawful_checkpoint : (body : List ℕ) (len : ℕ) → length body ≡ len → len ≤ DISK_MAX → IsLawful (checkpoint body)
lawful_checkpoint body len is le = record { fits = refl; short = omega (arith, le, is) }

-- the body that is begun, where its length is known
pub begun_is : (j : JournalState) (body : List ℕ) (v : View) (len : ℕ) → HasBegun j body v → j.begun ≡ Some len → (length body ≡ len) × (take len (drop (j.next + FRAME_HEAD) v.content) ≡ body)
begun_is j body v len b is =
    let same : length body ≡ len = let some : Some (length body) ≡ Some len = sym b.len ∙ is in cc some in
    (same, ap (λ (n : ℕ). take n (drop (j.next + 10) v.content)) (sym same) ∙ b.bytes)

-- the body that is begun stands in the file
pub begun_inside : (j : JournalState) (body : List ℕ) (v : View) → HasBegun j body v → j.next + FRAME_HEAD + length body ≤ length v.content
begun_inside j body v b = omega (arith, ap length b.bytes, length-take (length body) (drop (j.next + 10) v.content), length-drop (j.next + 10) v.content, b.head)

-- where zeros stand in the place of the tag and the length, a frame is begun
pub begun_none : (e : ℕ) (v w : View) (j : JournalState) (zeros : List ℕ) → IsAtRest e v → length zeros ≡ 9 → ViewKeepsFront e v w → w.content ≡ with_bytes v.content (e + 1) zeros → j.next ≡ e → j.begun ≡ Some 0 → HasBegun j [] w
begun_none e v w j zeros rest nine front is next begun =
    let i = rest.inside in
    let n = length-with_bytes v.content (e + 1) zeros (omega (arith, i)) in
    record {
      len = begun;
      head = omega (arith, ap length is, n, nine, next);
      bytes = refl;
      at_rest = subst (λ (k : ℕ). IsAtRest k w) (sym next) (front_rest e v w rest front);
    }

-- one piece more
pub begun_more : (j k : JournalState) (body bytes : List ℕ) (at : ℕ) (v w : View) → HasBegun j body v → at ≡ j.next + FRAME_HEAD + length body → ViewKeepsFront j.next v w → w.content ≡ with_bytes v.content at bytes
    → k.next ≡ j.next → k.begun ≡ Some (length body + length bytes) → HasBegun k (body ++ bytes) w
begun_more j k body bytes at v w b is_at front is next begun =
    let c = v.content in
    let n = j.next + 10 in
    let more = drop (at + length bytes) c in
    let within = begun_inside j body v b in
    let long : length (take at c) ≡ at = omega (arith, length-take at c, within, is_at) in
    let old : drop n (take at c) ≡ body = ap (λ (i : ℕ). drop n (take i c)) is_at ∙ drop-take n (length body) c ∙ b.bytes in
    let behind : drop n w.content ≡ (body ++ bytes) ++ more =
    ap (drop n) is ∙ drop-append-le n (take at c) (bytes ++ more) (omega (arith, long, is_at)) ∙ ap (λ (l : List ℕ). l ++ (bytes ++ more)) old ∙ sym (append_assoc body bytes more) in
    let total = length-append body bytes in
    let n2 = length-with_bytes c at bytes (omega (arith, within, is_at)) in
    record {
      len = begun ∙ ap (λ (i : ℕ). Some i) (sym total);
      head = omega (arith, next, ap length is, n2, b.head);
      bytes = ap (λ (i : ℕ). take (length (body ++ bytes)) (drop (i + 10) w.content)) next ∙ ap (take (length (body ++ bytes))) behind ∙ take_at (body ++ bytes) more (length (body ++ bytes)) refl;
      at_rest = subst (λ (i : ℕ). IsAtRest i w) (sym next) (front_rest j.next v w b.at_rest front);
    }

-- two writes, one after bytes that stand there and one before them, are one write of all
pub written_around : (c : List ℕ) (m k : ℕ) (h body g : List ℕ) → k ≡ m + length h + length body → k ≤ length c → take (length body) (drop (m + length h) c) ≡ body
    → with_bytes (with_bytes c k g) m h ≡ with_bytes c m (h ++ (body ++ g))
written_around c m k h body g is_k le is =
    let p = take k c in
    let rest = drop (k + length g) c in
    let n = m + length h in
    let long : length p ≡ k = omega (arith, length-take k c, le) in
    let front : take m (p ++ (g ++ rest)) ≡ take m c = take-append-le m p (g ++ rest) (omega (arith, long, is_k)) ∙ take-take m k c (omega (arith, is_k)) in
    let old : drop n p ≡ body = ap (λ (i : ℕ). drop n (take i c)) is_k ∙ drop-take n (length body) c ∙ is in
    let behind : drop n (p ++ (g ++ rest)) ≡ body ++ (g ++ rest) = drop-append-le n p (g ++ rest) (omega (arith, long, is_k)) ∙ ap (λ (l : List ℕ). l ++ (g ++ rest)) old in
    let whole : k + length g ≡ m + length (h ++ (body ++ g)) = omega (arith, is_k, length-append h (body ++ g), length-append body g) in
    ap (λ (l : List ℕ). l ++ (h ++ drop n (p ++ (g ++ rest)))) front ∙ ap (λ (l : List ℕ). take m c ++ (h ++ l)) behind
    ∙ ap (λ (l : List ℕ). take m c ++ (h ++ l)) (sym (append_assoc body g rest))
    ∙ ap (λ (l : List ℕ). take m c ++ l) (sym (append_assoc h (body ++ g) rest))
    ∙ ap (λ (i : ℕ). take m c ++ ((h ++ (body ++ g)) ++ drop i c)) whole

-- a closed gate after a body, and the tag and the length before it, make the frame
pub frame_closed : (c c1 c2 : List ℕ) (e tag len k : ℕ) (f : Frame) (h : List ℕ) → f.tag ≡ tag → length f.body ≡ len → take len (drop (e + FRAME_HEAD) c) ≡ f.body → e + FRAME_HEAD + len ≤ length c
    → h ≡ tag ∷ to_be_bytes w64 len → k ≡ e + FRAME_HEAD + len → c1 ≡ with_bytes c k (0 ∷ []) → c2 ≡ with_bytes c1 (e + 1) h → c2 ≡ with_bytes c (e + 1) (after_gate f)
frame_closed c c1 c2 e tag len k f h tagged long body le is is_k one two =
    let be = to_be_bytes w64 (length f.body) in
    let head = f.tag ∷ be in
    let is_head : h ≡ head = is ∙ ap (λ (i : ℕ). tag ∷ to_be_bytes w64 i) (sym long) ∙ ap (λ (t : ℕ). t ∷ be) (sym tagged) in
    let nine : e + 1 + length head ≡ e + 10 = omega (arith, length-be8 (length f.body)) in
    let here : take (length f.body) (drop (e + 1 + length head) c) ≡ f.body = ap (λ (i : ℕ). take (length f.body) (drop i c)) nine ∙ ap (λ (i : ℕ). take i (drop (e + 10) c)) long ∙ body in
    two ∙ ap (λ (l : List ℕ). with_bytes l (e + 1) h) one ∙ ap (with_bytes (with_bytes c k (0 ∷ [])) (e + 1)) is_head
    ∙ written_around c (e + 1) k head f.body (0 ∷ []) (omega (arith, is_k, nine, long)) (omega (arith, is_k, le)) here
    ∙ ap (λ (l : List ℕ). with_bytes c (e + 1) (f.tag ∷ l)) (sym (append_assoc be f.body (0 ∷ [])))

module _ (e : ℕ) (v : View) (f : Frame) (ok : IsLawful f) (rest : IsAtRest e v) (w x : View) (front : ViewKeepsFront e v w) where
  -- before the gate is opened each image has the frames before
  pub closed_before : ViewKeeps (IsBeforeOrAfter e v.content f) v w
  closed_before = keeps_wider (Continues e v.content []) (IsBeforeOrAfter e v.content f) v w (front_before e v w rest front) (λ c more. inl more)

  module _ (content : w.content ≡ with_bytes v.content (e + 1) (after_gate f)) where
    pub closed_long : e ≤ length w.content
    closed_long = omega (arith, length-staged e v f ok rest, ap length content)

    -- while the gate is opened, those or one more
    pub opened_gate : Only w.content w.images → ViewSteps (Torn e 1) w x → ViewKeeps (IsBeforeOrAfter e v.content f) v x
    opened_gate only steps = keeps_steps (IsBeforeOrAfter e v.content f) (Torn e 1) v w x closed_before steps
        (λ d c im torn. torn_gate e v f ok rest c (subst (λ (l : List ℕ). Torn e 1 l c) (only d im ∙ content) torn))

    -- and then one more
    pub ended : (to : ℕ) → to ≡ e + length (spelled f) → x.content ≡ with_bytes w.content e (1 ∷ []) → Only x.content x.images → IsAdded e f v.content to x
    ended to size made only = is_added e v f ok rest x to size (made ∙ ap (λ (l : List ℕ). with_bytes l e (1 ∷ [])) content) only
