-- What a crash leaves while a store is made.
use Rattle.std.proofs.Common.{◌≡◌, ◌≤◌, ◌<◌, ◌+◌, ◌⊎◌, ◌↔◌, ltb, if◌then◌else◌, inl, inr, ⊎_elim, ℕ, true, List, [], ◌∷◌, ◌++◌, length, take, drop, get_or, refl, sym, ◌∙◌, ap, subst, arith, append_assoc, append-nil, length-append, length-take, length-drop, Result}
use Rattle.std.proofs.lemmas.List.{take_at, drop_at, drop_more, drop-take, take-take, drop-append-le, get_or-take, get_or_at}
use Rattle.std.proofs.lemmas.Bool.{cases_eq, cases_Bool}
use Rattle.std.proofs.lemmas.Bool.Decides.{nat_tests}
use Rattle.cp_disk.specs.Calls.{ViewWrote}
use Rattle.cp_disk.specs.Views.{View, Only, IsDurable, ViewRests, ViewSteps, ViewKeeps}
use Rattle.cp_disk.specs.Writes.{Torn, CutShort, with_bytes}
use Rattle.cp_disk.specs.declared.disk.DiskFault.{DiskFault}
use Rattle.cp_disk.proofs.Composing.{keeps_none, keeps_steps, keeps_rests, keeps_wider, keeps_then}
use Rattle.cp_journal.specs.Frames.{Frame, spelled, onto, ended, frames_of}
use Rattle.cp_journal.proofs.Walks.{frames_of-closed, frames_of-whole}
use Rattle.cp_journal.specs.Holding.{IsLawful, Stands, Holds}
use Rattle.cp_journal.specs.Journals.{JournalState, Describes}
use Rattle.cp_journal.proofs.Places.{place}
use Rattle.cp_journal.proofs.Standing.{describes}
use Rattle.cp_journal.specs.NewStores.{header, header_rest, new_file, HasNoStore, IsVacant, StaysVacant, IsOldOrVacant, IsOldOrVacantOrNew, IsVacantOrNew, HasSettled, SettlesInto}
use Rattle.cp_journal.proofs.Adding.{found, shorter_front, front_gate}

-- two files with the same first bytes hold no store, or neither does
no_store_same : (c d : List ℕ) → get_or c 0 0 ≡ get_or d 0 0 → take 5 (drop 1 c) ≡ take 5 (drop 1 d) → HasNoStore c → HasNoStore d
no_store_same c d gate rest (inl zero) = inl (sym gate ∙ zero)
no_store_same c d gate rest (inr other) = inr ((λ one. other.0 (gate ∙ one)), sym rest ∙ other.1)

-- the bytes that a file is compared with from the second on, where only its first is read
abbrev zeros : List ℕ
zeros = 0 ∷ 0 ∷ 0 ∷ 0 ∷ 0 ∷ 0 ∷ []

-- the first byte says whether a short file is vacant
few_say : (c : List ℕ) → (length c ≤ 1 → ⊥) → length c < 6 → HasNoStore (take 1 c ++ drop 1 zeros) ↔ IsVacant c
few_say [] more small = absurd (more (omega arith))
few_say (a ∷ rest) more small = (
  λ is. ⊎_elim (λ zero. inr (inl zero)) (λ other. absurd (cc other.1)) is,
  λ vacant. ⊎_elim (λ short. absurd (more short)) (λ is. ⊎_elim (λ zero. inl zero) (λ other. absurd (let long = ap length other.1 in omega (arith, long, length-take 5 rest, small))) is) vacant,
)

-- the first six say it of a longer one
many_say : (c : List ℕ) → (length c ≤ 1 → ⊥) → HasNoStore (take 6 c) ↔ IsVacant c
many_say c more =
    let gate : get_or (take 6 c) 0 0 ≡ get_or c 0 0 = get_or-take 6 c 0 0 (omega arith) in
    let rest : take 5 (drop 1 (take 6 c)) ≡ take 5 (drop 1 c) = ap (take 5) (drop-take 1 5 c) ∙ take-take 5 5 (drop 1 c) (omega arith) in (
      λ is. inr (no_store_same (take 6 c) c gate rest is),
      λ vacant. ⊎_elim (λ short. absurd (more short)) (λ is. no_store_same c (take 6 c) (sym gate) (sym rest) is) vacant,
    )

-- the bytes that are read of a file say whether it is vacant
pub front_says : (c into : List ℕ) (size n : ℕ) → size ≡ length c → 1 < size → n ≡ (if ltb size 6 then 1 else 6) → length into ≡ n → into ≡ take (length into) c → HasNoStore (into ++ drop n zeros) ↔ IsVacant c
front_says c into size n is more len long bytes =
    let so : length c ≤ 1 → ⊥ = λ le. omega (arith, is, more, le) in
    elim (cases_Bool (ltb size 6)) [
      | inl holds ↦ (let one : n ≡ 1 = rw holds at len in
          let small : length c < 6 = grind (arith, nat_tests) in
          let front : into ++ drop n zeros ≡ take 1 c ++ drop 1 zeros = ap (λ (l : List ℕ). l ++ drop n zeros) (bytes ∙ ap (λ (k : ℕ). take k c) (long ∙ one)) ∙ ap (λ (k : ℕ). take 1 c ++ drop k zeros) one in
          subst (λ (l : List ℕ). HasNoStore l ↔ IsVacant c) (sym front) (few_say c so small))
      | inr fails ↦ (let six : n ≡ 6 = rw fails at len in
          let front : into ++ drop n zeros ≡ take 6 c = ap (λ (l : List ℕ). l ++ drop n zeros) (bytes ∙ ap (λ (k : ℕ). take k c) (long ∙ six)) ∙ ap (λ (k : ℕ). take 6 c ++ drop k zeros) six ∙ append-nil (take 6 c) in
          subst (λ (l : List ℕ). HasNoStore l ↔ IsVacant c) (sym front) (many_say c so))
    ]

-- ---- since some moment

-- a disk that leaves its content alone has settled
pub settled_only : (P : List ℕ → Type 0) (v u : View) → ViewRests v u → Only v.content u.images → ((c : List ℕ) → u.since u.moment c → u.images c) → P v.content → HasSettled P v u
settled_only P v u rests only now p = record {
  moment = u.moment;
  later = rests.later;
  passed = omega arith;
  only = λ c i. subst P (sym (only c (now c i))) p;
}

-- it stays so while nothing changes
pub settled_rests : (P : List ℕ → Type 0) (v u w : View) → HasSettled P v u → ViewRests u w → HasSettled P v w
settled_rests P v u w settled rests = record {
  moment = settled.moment;
  later = settled.later;
  passed = omega (arith, settled.passed, rests.later);
  only = λ c i. settled.only c (rests.since settled.moment c settled.passed i);
}

-- and while what a crash leaves has another property, or the same
pub settled_then : (P Q R : List ℕ → Type 0) (v u w : View) → HasSettled P v u → ViewKeeps Q u w → ((c : List ℕ) → P c → R c) → ((c : List ℕ) → Q c → R c) → HasSettled R v w
settled_then P Q R v u w settled keeps first second = record {
  moment = settled.moment;
  later = settled.later;
  passed = omega (arith, settled.passed, keeps.later);
  only = λ c i. ⊎_elim (λ old. first c (settled.only c old)) (λ new. second c new) (keeps.since settled.moment c settled.passed i);
}

-- a file of one byte at most stays vacant while its first byte is written
pub gate_vacant : (u w : View) (content : List ℕ) → Only content u.images → length content ≤ 1 → ViewSteps (Torn 0 1) u w → ViewKeeps IsVacant u w
gate_vacant u w content only short steps = keeps_steps IsVacant (Torn 0 1) u u w (keeps_none IsVacant u (λ c i. inl (omega (arith, ap length (only c i), short)))) steps
    (λ d c i torn. inl (grind (arith, nat_tests, ap length (only d i), short, torn.no_longer)))

pub vacant_front : (start : ℕ) (c0 c : List ℕ) → StaysVacant start c0 → take start c ≡ take start c0 → IsVacant c
vacant_front start c0 c (inl one) same =
    let first : take (0 + 1) c ≡ take (0 + 1) c0 = shorter_front 1 start c c0 (omega (arith, one.0)) same in
    inr (inl (front_gate 0 c c0 first ∙ one.2))
vacant_front start c0 c (inr six) same =
    let all : take (1 + 5) c ≡ take (1 + 5) c0 = shorter_front 6 start c c0 (omega (arith, six.0)) same in
    let first : take (0 + 1) c ≡ take (0 + 1) c0 = shorter_front 1 6 c c0 (omega arith) all in
    let rest : take 5 (drop 1 c) ≡ take 5 (drop 1 c0) = sym (drop-take 1 5 c) ∙ ap (drop 1) all ∙ drop-take 1 5 c0 in
    inr (inr ((λ is. six.2 (sym (front_gate 0 c c0 first) ∙ is)), rest ∙ six.3))

-- all of a new file after its header gate
abbrev file_rest : Frame → List ℕ
file_rest f = header_rest ++ spelled f ++ 0 ∷ []

module _ (start : ℕ) (v : View) (opening : StaysVacant start v.content) (only : Only v.content v.images) where
  abbrev P : List ℕ → Type 0
  P c = take start c ≡ take start v.content

  after_write : (w : View) (bs : List ℕ) (result : Result (Unit {0}) DiskFault) → ViewWrote start bs result v w → ViewKeeps P v w
  after_write w bs result wrote =
      keeps_steps P (Torn start (length bs)) v v w (keeps_none P v (λ c im. ap (take start) (only c im))) wrote.steps
      (λ d c im torn. torn.before ∙ ap (take start) (only d im))

  after_trim : (w x : View) (bs : List ℕ) (result : Result (Unit {0}) DiskFault) (len : ℕ) → start ≤ len → ViewWrote start bs result v w → ViewSteps (CutShort len) w x → ViewKeeps P v x
  after_trim w x bs result len le wrote cut =
      let so_far = after_write w bs result wrote in
      keeps_steps P (CutShort len) v w x so_far cut (λ d c im short. shorter_front start len c d le short.front ∙ so_far.now d im)

  pub trim_crash : (w x : View) (bs : List ℕ) (result : Result (Unit {0}) DiskFault) (len : ℕ) → start ≤ len → ViewWrote start bs result v w → ViewSteps (CutShort len) w x → ViewKeeps IsVacant v x
  trim_crash w x bs result len le wrote cut = keeps_wider P IsVacant v x (after_trim w x bs result len le wrote cut) (λ c same. vacant_front start v.content c opening same)

  pub sync_crash : (w x y : View) (bs : List ℕ) (result : Result (Unit {0}) DiskFault) (len : ℕ) → start ≤ len → ViewWrote start bs result v w → ViewSteps (CutShort len) w x → ViewRests x y → ViewKeeps IsVacant v y
  sync_crash w x y bs result len le wrote cut rests = keeps_rests IsVacant v x y (trim_crash w x bs result len le wrote cut) rests

pub opening_size : (start : ℕ) (c : List ℕ) → StaysVacant start c → start ≤ length c
opening_size start c (inl one) = omega (arith, one.0, one.1)
opening_size start c (inr six) = omega (arith, six.0, six.1)

pub filled : (start len : ℕ) (old bs bytes w x y : List ℕ) → start ≤ length old → len ≡ length bytes → start ≤ len → bs ≡ drop start bytes → w ≡ with_bytes old start bs → x ≡ take len w → y ≡ x → y ≡ take start old ++ drop start bytes
filled start len old bs bytes w x y le is le2 same wrote cut kept =
    let front = take start old in
    let n : length front ≡ start = omega (arith, length-take start old) in
    let m : length (front ++ bs) ≡ len = omega (arith, length-append front bs, ap length same, length-drop start bytes, n) in
    kept ∙ cut ∙ ap (take len) (wrote ∙ sym (append_assoc front bs (drop (start + length bs) old))) ∙ take_at (front ++ bs) (drop (start + length bs) old) len m ∙ ap (λ (l : List ℕ). front ++ l) same

-- behind the header gate all stands as it is to be
pub staged_rest : (start : ℕ) (c x : List ℕ) (f : Frame) → StaysVacant start c → x ≡ take start c ++ drop start (1 ∷ file_rest f) → drop 1 x ≡ file_rest f
staged_rest start c x f (inl one) is =
    let whole : x ≡ take 1 c ++ file_rest f = is ∙ ap (λ (k : ℕ). take k c ++ drop k (1 ∷ file_rest f)) one.0 in
    let n : length (take 1 c) ≡ 1 = omega (arith, length-take 1 c, one.1) in
    ap (drop 1) whole ∙ drop_at (take 1 c) (file_rest f) 1 n
staged_rest start c x f (inr six) is =
    let whole : x ≡ take 6 c ++ drop 5 (file_rest f) = is ∙ ap (λ (k : ℕ). take k c ++ drop k (1 ∷ file_rest f)) six.0 in
    let n : 1 ≤ length (take 6 c) = omega (arith, length-take 6 c, six.1) in
    ap (drop 1) whole ∙ drop-append-le 1 (take 6 c) (drop 5 (file_rest f)) n ∙ ap (λ (l : List ℕ). l ++ drop 5 (file_rest f)) (drop-take 1 5 c ∙ six.3)

module _ (f : Frame) (ok : IsLawful f) where
  pub file_is : 1 ∷ file_rest f ≡ header ++ (spelled f ++ 0 ∷ [])
  file_is = append_assoc header (spelled f) (0 ∷ [])

  stands_file : (c : List ℕ) → c ≡ 1 ∷ file_rest f → Stands header (f ∷ []) c
  stands_file c is =
      let whole : c ≡ header ++ (spelled f ++ 0 ∷ []) = is ∙ file_is in
      let behind : drop (length header) c ≡ spelled f ++ 0 ∷ [] = ap (drop (length header)) whole ∙ drop_at header (spelled f ++ 0 ∷ []) (length header) refl in
      let walk : frames_of (drop (length header) c) ≡ onto f (ended true) = ap frames_of behind ∙ frames_of-whole f (0 ∷ []) ok ∙ ap (onto f) (frames_of-closed 0 [] (λ z. absurd (omega (arith, z)))) in
      record {
        front = ap (take (length header)) whole ∙ take_at header (spelled f ++ 0 ∷ []) (length header) refl;
        frames = found walk;
      }

  -- a crash while the header gate is opened leaves the store, or a vacant file
  opened_crash : (x c : List ℕ) → 1 ≤ length x → drop 1 x ≡ file_rest f → Torn 0 1 x c → IsVacant c ⊎ Stands header (f ∷ []) c
  opened_crash x c long rest torn =
      let behind : drop 1 c ≡ file_rest f = torn.after ∙ rest in
      let whole : c ≡ get_or c 0 0 ∷ file_rest f = drop_more c 0 0 (omega (arith, torn.no_shorter)) ∙ ap (λ (l : List ℕ). get_or c 0 0 ∷ l) behind in
      ⊎_elim (λ one. inr (stands_file c (whole ∙ ap (λ (g : ℕ). g ∷ file_rest f) one))) (λ ne. inl (inr (inr (ne, ap (take 5) behind)))) (cases_eq (get_or c 0 0) 1)

  header_long : length header ≡ 192
  header_long = refl

  module _ (v w x y : View) (start : ℕ) (opening : StaysVacant start w.content) (only_x : Only x.content x.images) (bytes : List ℕ) (full : bytes ≡ 1 ∷ file_rest f) (made_x : x.content ≡ take start w.content ++ drop start bytes) where
    is : x.content ≡ take start w.content ++ drop start (1 ∷ file_rest f)
    is = made_x ∙ ap (λ (l : List ℕ). take start w.content ++ drop start l) full

    rest_x : drop 1 x.content ≡ file_rest f
    rest_x = staged_rest start w.content x.content f opening is

    long_x : 1 ≤ length x.content
    long_x = omega (arith, ap length rest_x, length-drop 1 x.content, length-append (header_rest ++ spelled f) (0 ∷ []))

    pub making_crash : ViewKeeps (IsOldOrVacant v) v w → ViewKeeps IsVacant w x → ViewSteps (Torn 0 1) x y → ViewKeeps (IsOldOrVacantOrNew v f) v y
    making_crash first second third =
        let a = keeps_wider (IsOldOrVacant v) (IsOldOrVacantOrNew v f) v w first (λ c h. ⊎_elim (λ o. inl o) (λ n. inr (inl n)) h) in
        let b = keeps_then (IsOldOrVacantOrNew v f) IsVacant v w x a second (λ c h. inr (inl h)) in
        keeps_steps (IsOldOrVacantOrNew v f) (Torn 0 1) v x y b third (λ d c im torn. inr (opened_crash x.content c long_x rest_x (subst (λ (l : List ℕ). Torn 0 1 l c) (only_x d im) torn)))

    -- what a crash leaves from the first sync on
    pub making_settles : HasSettled IsVacant v w → ViewKeeps IsVacant w x → ViewSteps (Torn 0 1) x y → HasSettled (IsVacantOrNew f) v y
    making_settles first second third =
        let vacant = settled_then IsVacant IsVacant IsVacant v w x first second (λ c h. h) (λ c h. h) in
        let opens = keeps_steps (IsVacantOrNew f) (Torn 0 1) x x y (keeps_none (IsVacantOrNew f) x (λ c im. inl (vacant_image c im))) third
        (λ d c im torn. opened_crash x.content c long_x rest_x (subst (λ (l : List ℕ). Torn 0 1 l c) (only_x d im) torn)) in
        settled_then IsVacant (IsVacantOrNew f) (IsVacantOrNew f) v x y vacant opens (λ c h. inl h) (λ c h. h)
      where
        vacant_image : (c : List ℕ) → x.images c → IsVacant c
        vacant_image c im = second.now c im

    pub made_file : y.content ≡ with_bytes x.content 0 (1 ∷ []) → y.content ≡ new_file f
    made_file made = made ∙ ap (λ (l : List ℕ). 1 ∷ l) rest_x

  -- a disk with the file of the store and nothing else holds the frame
  new_file_holds : (y : View) → IsDurable (new_file f) y → (next : ℕ) → next ≡ 192 + length (spelled f) → Holds header (f ∷ []) next y
  new_file_holds y durable next size =
      let front = header ++ spelled f in
      let whole : y.content ≡ front ++ 0 ∷ [] = durable.content in
      let len : length front ≡ next = omega (arith, size, length-append header (spelled f), header_long) in
      let gate : get_or y.content next 0 ≡ 0 = ap (λ (l : List ℕ). get_or l next 0) whole ∙ get_or_at front 0 [] 0 next len in
      record {
        lawful = (ok, tt);
        size = omega (arith, size, header_long, length-append (spelled f) []);
        front = ap (take next) whole ∙ take_at front (0 ∷ []) next len ∙ ap (λ (l : List ℕ). header ++ l) (sym (append-nil (spelled f)));
        at_rest = record {
          inside = omega (arith, ap length whole, length-append front (0 ∷ []), len);
          closed = λ one. let no : 0 ≡ 1 = sym gate ∙ one in absurd (omega (arith, no));
          settled = λ c im. ap (take (next + 1)) (durable.only c im ∙ sym whole);
        };
      }

  pub new_file_describes : (y : View) → IsDurable (new_file f) y → (j : JournalState) → j.next ≡ 192 + length (spelled f) → j.frames ≡ place 192 f.tag (length f.body) ∷ [] → Describes header (f ∷ []) j y
  new_file_describes y durable j size listed = describes header (f ∷ []) j y (new_file_holds y durable j.next size) listed
