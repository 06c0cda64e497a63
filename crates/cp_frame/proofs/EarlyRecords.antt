-- Where a record is seen not to come after another: in its Tid, or where that is the same in its path.
use Rattle.std.proofs.Common.{◌≡◌, ℕ, suc, ◌+◌, ◌*◌, ◌<◌, ◌≤◌, ◌^◌, inl, inr, ◌==◌, ◌&&◌, ◌||◌, Bool, true, false, cond, List, [], ◌∷◌, ◌++◌, Option, None, Some, refl, sym, ap, ◌∙◌, subst, append_assoc, append-nil, length, length-append, take, drop, get_or, nat_eq, nat_lt, arith}
use Rattle.std.specs.Prelude.{⊤}
use Rattle.std.specs.Int.{from_be_bytes, to_be_bytes, w64}
use Rattle.std.specs.List.{flat_map}
use Rattle.std.specs.Ordering.{is_lt}
use Rattle.std.proofs.lemmas.Bool.{cases_lt}
use Rattle.std.proofs.lemmas.Bool.Decides.{nat_tests}
use Rattle.std.proofs.lemmas.List.{drop_at, take-append-drop, take-append-le, take_at}
use Rattle.std.proofs.lemmas.List.Sums.{common_prefix_len-le}
use Rattle.std.proofs.lemmas.Nat.{from_be_bytes-to_be_bytes_8}
use Rattle.std.proofs.Math.Seq.{take-append-add}
use Rattle.cp_path.specs.Encoding.{counted_bytes, path_bytes}
use Rattle.cp_model.specs.Changes.{goes_before}
use Rattle.cp_model.specs.Place.{Label, Path, label_eq, path_cmp}
use Rattle.cp_model.specs.declared.record.Record.{Record}
use Rattle.cp_record.specs.Bytes.{letter, record_bytes, source_bytes}
use Rattle.cp_format.specs.Judging.{IsRefused, MayPass}
use Rattle.cp_format.specs.Parts.{record_format}
use Rattle.cp_frame.specs.Entries.{labels_decided_at, path_decided_at, record_decided_at, record_judged_at}
use Rattle.cp_frame.specs.OrderReading.{PathIsEarly, PathMayFollow}
use Rattle.cp_frame.specs.Trees.{decided_at}
use Rattle.cp_frame.proofs.Early.{Differ, Parted, begun_size, byte_at, common, common_front, common_no, decided_within, elder_size, no_bytes, parted}

-- ---- numbers of eight bytes

-- the number that bytes make, the highest first, after others that make this one
abbrev made_after : ℕ → List ℕ → ℕ
made_after n [] = n
made_after n (b ∷ bs) = made_after (n * 256 + b) bs

abbrev AreSmall : List ℕ → Type 0
AreSmall [] = ⊤
AreSmall (b ∷ bs) = (b < 256) × AreSmall bs

less_after : (m n : ℕ) (bs cs : List ℕ) → m < n → length bs ≡ length cs → AreSmall bs → made_after m bs < made_after n cs
less_after m n [] [] lt e h = lt
less_after m n [] (c ∷ cs) lt e h = absurd (omega (arith, e))
less_after m n (b ∷ bs) [] lt e h = absurd (omega (arith, e))
less_after m n (b ∷ bs) (c ∷ cs) lt e h = less_after (m * 256 + b) (n * 256 + c) bs cs (omega (arith, lt, h.0)) (omega (arith, e)) h.1

less_front : (n : ℕ) (f l r : List ℕ) (x y : ℕ) → x < y → length l ≡ length r → AreSmall l → made_after n (f ++ x ∷ l) < made_after n (f ++ y ∷ r)
less_front n [] l r x y lt e h = less_after (n * 256 + x) (n * 256 + y) l r (omega (arith, lt)) e h
less_front n (z ∷ f) l r x y lt e h = less_front (n * 256 + z) f l r x y lt e h

small_behind : (f l : List ℕ) → AreSmall (f ++ l) → AreSmall l
small_behind [] l h = h
small_behind (z ∷ f) l h = small_behind f l h.1

eight_made : (a b c d e f g h : ℕ) → made_after 0 (a ∷ b ∷ c ∷ d ∷ e ∷ f ∷ g ∷ h ∷ []) ≡ from_be_bytes w64 (a ∷ b ∷ c ∷ d ∷ e ∷ f ∷ g ∷ h ∷ [])
eight_made a b c d e f g h = omega arith

eight : (n : ℕ) → length (to_be_bytes w64 n) ≡ 8
eight n = refl

number_made : (n : ℕ) → n < 2 ^ 64 → made_after 0 (to_be_bytes w64 n) ≡ n
number_made n fits = eight_made _ _ _ _ _ _ _ _ ∙ from_be_bytes-to_be_bytes_8 n fits

number_small : (n : ℕ) → AreSmall (to_be_bytes w64 n)
number_small n = (omega arith, (omega arith, (omega arith, (omega arith, (omega arith, (omega arith, (omega arith, (omega arith, tt))))))))

-- of two numbers the one is less that has the lesser byte where they differ
tid_less : (m n : ℕ) (f l r : List ℕ) (x y : ℕ) → m < 2 ^ 64 → n < 2 ^ 64 → to_be_bytes w64 m ≡ f ++ x ∷ l → to_be_bytes w64 n ≡ f ++ y ∷ r → x < y → m < n
tid_less m n f l r x y a b em en lt =
    let first : m ≡ made_after 0 (f ++ x ∷ l) = sym (number_made m a) ∙ ap (made_after 0) em in
    let second : n ≡ made_after 0 (f ++ y ∷ r) = sym (number_made n b) ∙ ap (made_after 0) en in
    let size : length l ≡ length r = omega (arith, eight m, eight n, ap length em, ap length en, length-append f (x ∷ l), length-append f (y ∷ r)) in
    let small : AreSmall (x ∷ l) = small_behind f (x ∷ l) (subst AreSmall em (number_small m)) in
    let less = less_front 0 f l r x y lt size small.1 in
    omega (arith, first, second, less)

-- ---- the parts of a record

record_parts : (r : Record) → record_bytes r ≡ to_be_bytes w64 r.tid ++ (letter r.op ∷ (path_bytes r.loc.path ++ source_bytes r.src))
unfolding record_bytes
record_parts r = refl

-- what a record begins with begins the bytes of its Tid
tid_front : (r : Record) (front rest : List ℕ) → length front ≤ 8 → record_bytes r ≡ front ++ rest → to_be_bytes w64 r.tid ≡ front ++ drop (length front) (to_be_bytes w64 r.tid)
tid_front r front rest few e =
    let bytes = to_be_bytes w64 r.tid in
    let behind = letter r.op ∷ (path_bytes r.loc.path ++ source_bytes r.src) in
    let cut : take (length front) bytes ≡ front =
    sym (take-append-le (length front) bytes behind (omega (arith, few, eight r.tid))) ∙ ap (take (length front)) (sym (record_parts r) ∙ e) ∙ take_at front rest (length front) refl in
    sym (take-append-drop (length front) bytes) ∙ ap (λ l. l ++ drop (length front) bytes) cut

-- where a record is decided, by whether the Tids are the same
decided_by : (q r : Record) (same : Bool) → same ≡ (q.tid == r.tid) → record_decided_at q r ≡ cond same (9 + path_decided_at q.loc.path r.loc.path) (common (to_be_bytes w64 q.tid) (to_be_bytes w64 r.tid))
decided_by q r same e = ap (λ t. cond t (9 + path_decided_at q.loc.path r.loc.path) (common (to_be_bytes w64 q.tid) (to_be_bytes w64 r.tid))) (sym e)

module _ (q : Record) (begun : List ℕ) (fits : q.tid < 2 ^ 64) where
  -- the bytes of the Tid
  abbrev tid : List ℕ
  tid = to_be_bytes w64 q.tid

  abbrev MayCome : Type 0
  MayCome = MayPass record_format (goes_before q) (record_decided_at q) begun

  abbrev ComesEarly : ℕ → Type 0
  ComesEarly at = IsRefused record_format (goes_before q) (record_decided_at q) begun at

  -- what the order of the places says where the Tids are the same
  abbrev by_place : Record → Bool
  by_place r = is_lt (path_cmp q.loc.path r.loc.path)

  -- ---- what is there is as in the other Tid

  pub may_tid : (p : Parted tid begun) → length p.front ≡ length begun → MayCome
  may_tid p all = λ r rest f e lt. absurd (by r rest e lt (q.tid == r.tid) refl)
    where
      few : length begun ≤ 8
      few = omega (arith, all, elder_size tid begun p, eight q.tid)

      right : p.right ≡ []
      right = no_bytes p.right (omega (arith, begun_size tid begun p, all))

      begun_is : begun ≡ p.front
      begun_is = p.begun ∙ ap (λ l. p.front ++ l) right ∙ append-nil p.front

      by : (r : Record) (rest : List ℕ) → record_bytes r ≡ begun ++ rest → record_decided_at q r < length begun → (same : Bool) → same ≡ (q.tid == r.tid) → ⊥
      by r rest e lt true h = omega (arith, few, lt, decided_by q r true h)
      by r rest e lt false h =
          let w = drop (length begun) (to_be_bytes w64 r.tid) in
          let t : to_be_bytes w64 r.tid ≡ p.front ++ w = tid_front r begun rest few e ∙ ap (λ l. l ++ w) begun_is in
          let same : common tid (to_be_bytes w64 r.tid) ≡ length p.front + common p.left w = ap (common tid) t ∙ ap (λ l. common l (p.front ++ w)) p.elder ∙ common_front p.front p.left w in
          omega (arith, lt, decided_by q r false h, same, all)

  -- ---- a byte of the Tid differs

  module _ (front l w : List ℕ) (x y : ℕ) (elder : tid ≡ front ++ x ∷ l) (is : begun ≡ front ++ y ∷ w) where
    tid_is : (r : Record) (rest : List ℕ) → record_bytes r ≡ front ++ y ∷ rest → (more : List ℕ) × (to_be_bytes w64 r.tid ≡ front ++ y ∷ more)
    tid_is r rest e =
        let first = front ++ y ∷ [] in
        let few : length first ≤ 8 = omega (arith, eight q.tid, ap length elder, length-append front (x ∷ l), length-append front (y ∷ [])) in
        let more = drop (length first) (to_be_bytes w64 r.tid) in
        (more, tid_front r first rest few (e ∙ sym (append_assoc front (y ∷ []) rest)) ∙ append_assoc front (y ∷ []) more)

    later_tid : x < y → MayCome
    later_tid lt = λ r rest f e at.
        let t = tid_is r (w ++ rest) (e ∙ ap (λ u. u ++ rest) is ∙ append_assoc front (y ∷ w) rest) in
        let less : q.tid < r.tid = tid_less q.tid r.tid front l t.0 x y fits f.packable.tid elder t.1 lt in
        let above : nat_lt q.tid r.tid ≡ true = grind (arith, nat_tests) in
        ap (λ t. t || ((q.tid == r.tid) && by_place r)) above

    early_tid : y < x → ComesEarly (length front)
    early_tid lt =
        let cut : take (length front + 1) begun ≡ front ++ y ∷ [] = ap (take (length front + 1)) is ∙ take-append-add front (y ∷ w) 1 in
        let other : nat_eq x y ≡ false = grind (arith, nat_tests) in
        record {
          there = omega (arith, ap length is, length-append front (y ∷ w));
          refused = λ r rest f e.
              let t = tid_is r rest (e ∙ ap (λ u. u ++ rest) cut ∙ append_assoc front (y ∷ []) rest) in
              let less : r.tid < q.tid = tid_less r.tid q.tid front t.0 l y x f.packable.tid fits t.1 elder lt in
              let below : nat_lt q.tid r.tid ≡ false = grind (arith, nat_tests) in
              let differs : (q.tid == r.tid) ≡ false = grind (arith, nat_tests) in
              let same : common tid (to_be_bytes w64 r.tid) ≡ length front + 0 = ap (common tid) t.1 ∙ ap (λ u. common u (front ++ y ∷ t.0)) elder ∙ common_front front (x ∷ l) (y ∷ t.0) ∙ ap (λ n. length front + n) (common_no x y l t.0 other) in
              let end : length front + 0 ≡ length front = omega arith in
              (ap (λ t. t || ((q.tid == r.tid) && by_place r)) below ∙ ap (λ t. t && by_place r) differs, decided_by q r false (sym differs) ∙ same ∙ end);
        }

  module _ (p : Parted tid begun) (more : length p.front ≡ length begun → ⊥) (few : length p.front < 8) where
    -- a byte of the Tid is greater
    pub may_later : get_or tid (length p.front) 0 < get_or begun (length p.front) 0 → MayCome
    may_later h = by p.left p.right p.elder p.begun
      where
        by : (left right : List ℕ) → tid ≡ p.front ++ left → begun ≡ p.front ++ right → MayCome
        by left [] elder is = absurd (more (omega (arith, ap length is, length-append p.front [])))
        by [] (y ∷ w) elder is = absurd (omega (arith, few, eight q.tid, ap length elder, length-append p.front []))
        by (x ∷ l) (y ∷ w) elder is = later_tid p.front l w x y elder is (omega (arith, h, byte_at p.front l x tid elder, byte_at p.front w y begun is))

    -- it isn't
    pub early_byte_of_tid : get_or begun (length p.front) 0 ≤ get_or tid (length p.front) 0 → ComesEarly (length p.front)
    early_byte_of_tid le = by p.left p.right p.elder p.begun p.differ
      where
        by : (left right : List ℕ) → tid ≡ p.front ++ left → begun ≡ p.front ++ right → Differ left right → ComesEarly (length p.front)
        by left [] elder is d = absurd (more (omega (arith, ap length is, length-append p.front [])))
        by [] (y ∷ w) elder is d = absurd (omega (arith, few, eight q.tid, ap length elder, length-append p.front []))
        by (x ∷ l) (y ∷ w) elder is d =
            let least : y ≤ x = omega (arith, le, byte_at p.front l x tid elder, byte_at p.front w y begun is) in
            let lt : y < x = grind (arith, nat_tests) in
            early_tid p.front l w x y elder is lt

  -- ---- the Tid is the same

  -- what stands after it and the letter
  behind_tid : (p : Parted tid begun) → (length p.front ≡ length begun → ⊥) → (length p.front < 8 → ⊥) → (c : ℕ) × (begun ≡ tid ++ c ∷ drop (length p.front + 1) begun)
  behind_tid p more whole = by p.right p.begun
    where
      left : p.left ≡ []
      left = elim (cases_lt (length p.front) 8) [
        | inl lt ↦ absurd (whole lt)
        | inr le ↦ no_bytes p.left (omega (arith, le, elder_size tid begun p, eight q.tid))
      ]

      front_is : p.front ≡ tid
      front_is = sym (p.elder ∙ ap (λ l. p.front ++ l) left ∙ append-nil p.front)

      by : (right : List ℕ) → begun ≡ p.front ++ right → (c : ℕ) × (begun ≡ tid ++ c ∷ drop (length p.front + 1) begun)
      by [] is = absurd (more (omega (arith, ap length is, length-append p.front [])))
      by (c ∷ w) is =
          let size : length (p.front ++ c ∷ []) ≡ length p.front + 1 = length-append p.front (c ∷ []) in
          let rest : drop (length p.front + 1) begun ≡ w = ap (drop (length p.front + 1)) (is ∙ sym (append_assoc p.front (c ∷ []) w)) ∙ drop_at (p.front ++ c ∷ []) w (length p.front + 1) size in
          (c, is ∙ ap (λ l. l ++ c ∷ w) front_is ∙ ap (λ l. tid ++ c ∷ l) (sym rest))

  module _ (c : ℕ) (tail : List ℕ) (is : begun ≡ tid ++ c ∷ tail) where
    parts_of : (r : Record) (cut : List ℕ) → r.tid < 2 ^ 64 → record_bytes r ≡ tid ++ c ∷ cut → (r.tid ≡ q.tid) × (path_bytes r.loc.path ++ source_bytes r.src ≡ cut)
    parts_of r cut f e =
        let bytes = to_be_bytes w64 r.tid in
        let behind = letter r.op ∷ (path_bytes r.loc.path ++ source_bytes r.src) in
        let all : bytes ++ behind ≡ tid ++ c ∷ cut = sym (record_parts r) ∙ e in
        let same : bytes ≡ tid = sym (take_at bytes behind 8 (eight r.tid)) ∙ ap (take 8) all ∙ take_at tid (c ∷ cut) 8 (eight q.tid) in
        let after : behind ≡ c ∷ cut = sym (drop_at bytes behind 8 (eight r.tid)) ∙ ap (drop 8) all ∙ drop_at tid (c ∷ cut) 8 (eight q.tid) in
        (sym (from_be_bytes-to_be_bytes_8 r.tid f) ∙ ap (from_be_bytes w64) same ∙ from_be_bytes-to_be_bytes_8 q.tid fits, ap (drop 1) after)

    goes_same : (r : Record) → r.tid ≡ q.tid → (goes_before q r ≡ by_place r) × (record_decided_at q r ≡ 9 + path_decided_at q.loc.path r.loc.path)
    goes_same r e =
        let below : nat_lt q.tid r.tid ≡ false = grind (arith, nat_tests) in
        let same : (q.tid == r.tid) ≡ true = grind (arith, nat_tests) in
        (ap (λ t. t || ((q.tid == r.tid) && by_place r)) below ∙ ap (λ t. t && by_place r) same, decided_by q r true (sym same))

    pub early_path : (k : ℕ) → PathIsEarly q.loc.path tail k → ComesEarly (8 + 1 + k)
    early_path k h =
        let n : 8 + 1 + k + 1 ≡ length tid + suc (k + 1) = omega (arith, eight q.tid) in
        let cut : take (8 + 1 + k + 1) begun ≡ tid ++ c ∷ take (k + 1) tail = ap (take (8 + 1 + k + 1)) is ∙ ap (λ m. take m (tid ++ c ∷ tail)) n ∙ take-append-add tid (c ∷ tail) (suc (k + 1)) in
        record {
          there = omega (arith, h.there, eight q.tid, ap length is, length-append tid (c ∷ tail));
          refused = λ r rest f e.
              let z = parts_of r (take (k + 1) tail ++ rest) f.packable.tid (e ∙ ap (λ l. l ++ rest) cut ∙ append_assoc tid (c ∷ take (k + 1) tail) rest) in
              let g = goes_same r z.0 in
              let t = h.early r.loc.path (source_bytes r.src) rest z.1 in
              let end : 9 + k ≡ 8 + 1 + k = omega arith in
              (g.0 ∙ t.0, g.1 ∙ ap (λ m. 9 + m) t.1 ∙ end);
        }

    pub may_path : PathMayFollow q.loc.path tail → MayCome
    may_path h = λ r rest f e lt.
        let z = parts_of r (tail ++ rest) f.packable.tid (e ∙ ap (λ l. l ++ rest) is ∙ append_assoc tid (c ∷ tail) rest) in
        let g = goes_same r z.0 in
        g.0 ∙ h r.loc.path (source_bytes r.src) rest z.1 (omega (arith, lt, g.1, eight q.tid, ap length is, length-append tid (c ∷ tail)))

  module _ (p : Parted tid begun) (more : length p.front ≡ length begun → ⊥) (whole : length p.front < 8 → ⊥) where
    front_eight : length p.front ≡ 8
    front_eight = elim (cases_lt (length p.front) 8) [
      | inl lt ↦ absurd (whole lt)
      | inr le ↦ omega (arith, le, elder_size tid begun p, eight q.tid)
    ]

    pub early_in_path : (k : ℕ) → PathIsEarly q.loc.path (drop (length p.front + 1) begun) k → ComesEarly (length p.front + 1 + k)
    early_in_path k h =
        let b = behind_tid p more whole in
        subst (λ n. ComesEarly (n + 1 + k)) (sym front_eight) (early_path b.0 (drop (length p.front + 1) begun) b.1 k h)

    pub may_in_path : PathMayFollow q.loc.path (drop (length p.front + 1) begun) → MayCome
    may_in_path h = let b = behind_tid p more whole in may_path b.0 (drop (length p.front + 1) begun) b.1 h

-- ---- by how much the bytes of the Tid have in common with what is there

module _ (q : Record) (begun : List ℕ) (fits : q.tid < 2 ^ 64) (n : ℕ) (is : n ≡ common (to_be_bytes w64 q.tid) begun) where
  both : Parted (to_be_bytes w64 q.tid) begun
  both = parted (to_be_bytes w64 q.tid) begun

  front_size : length both.front ≡ n
  front_size = sym both.same ∙ sym is

  pub all_follow : n ≡ length begun → MayPass record_format (goes_before q) (record_decided_at q) begun
  all_follow all = may_tid q begun fits both (front_size ∙ all)

  module _ (more : n ≡ length begun → ⊥) where
    others : length both.front ≡ length begun → ⊥
    others z = more (sym front_size ∙ z)

    pub greater_tid : n < 8 → get_or (to_be_bytes w64 q.tid) n 0 < get_or begun n 0 → MayPass record_format (goes_before q) (record_decided_at q) begun
    greater_tid few lt = may_later q begun fits both others (omega (arith, few, front_size)) (subst (λ m. get_or (to_be_bytes w64 q.tid) m 0 < get_or begun m 0) (sym front_size) lt)

    pub lesser_tid : n < 8 → get_or begun n 0 ≤ get_or (to_be_bytes w64 q.tid) n 0 → IsRefused record_format (goes_before q) (record_decided_at q) begun n
    lesser_tid few le =
        subst (λ m. IsRefused record_format (goes_before q) (record_decided_at q) begun m) front_size
        (early_byte_of_tid q begun fits both others (omega (arith, few, front_size)) (subst (λ m. get_or begun m 0 ≤ get_or (to_be_bytes w64 q.tid) m 0) (sym front_size) le))

    module _ (whole : n < 8 → ⊥) where
      not_few : length both.front < 8 → ⊥
      not_few lt = whole (omega (arith, lt, front_size))

      pub lesser_path : (k : ℕ) → PathIsEarly q.loc.path (drop (n + 1) begun) k → IsRefused record_format (goes_before q) (record_decided_at q) begun (n + 1 + k)
      lesser_path k h =
          subst (λ m. IsRefused record_format (goes_before q) (record_decided_at q) begun (m + 1 + k)) front_size
          (early_in_path q begun fits both others not_few k (subst (λ m. PathIsEarly q.loc.path (drop (m + 1) begun) k) (sym front_size) h))

      pub greater_path : PathMayFollow q.loc.path (drop (n + 1) begun) → MayPass record_format (goes_before q) (record_decided_at q) begun
      greater_path h = may_in_path q begun fits both others not_few (subst (λ m. PathMayFollow q.loc.path (drop (m + 1) begun)) (sym front_size) h)

-- ---- within a record

-- where the first label decides, or what follows it
within_either : (b : Label) (p : Path) (a c : Label) (s : Path) (same : Bool) → same ≡ label_eq b a → labels_decided_at p (c ∷ s) < length (flat_map counted_bytes (c ∷ s)) → labels_decided_at (b ∷ p) (a ∷ c ∷ s) < length (flat_map counted_bytes (a ∷ c ∷ s))
within_either b p a c s true h lt =
    let size = length-append (counted_bytes a) (flat_map counted_bytes (c ∷ s)) in
    let at : labels_decided_at (b ∷ p) (a ∷ c ∷ s) ≡ length (counted_bytes a) + labels_decided_at p (c ∷ s) = ap (λ t. cond t (length (counted_bytes a) + labels_decided_at p (c ∷ s)) (decided_at b a)) (sym h) in
    let less : length (counted_bytes a) + labels_decided_at p (c ∷ s) < length (flat_map counted_bytes (a ∷ c ∷ s)) = omega (arith, size, lt) in
    subst (λ n. n < length (flat_map counted_bytes (a ∷ c ∷ s))) (sym at) less
within_either b p a c s false h lt =
    let size = length-append (counted_bytes a) (flat_map counted_bytes (c ∷ s)) in
    let at : labels_decided_at (b ∷ p) (a ∷ c ∷ s) ≡ decided_at b a = ap (λ t. cond t (length (counted_bytes a) + labels_decided_at p (c ∷ s)) (decided_at b a)) (sym h) in
    let less : decided_at b a < length (flat_map counted_bytes (a ∷ c ∷ s)) = omega (arith, size, decided_within b a) in
    subst (λ n. n < length (flat_map counted_bytes (a ∷ c ∷ s))) (sym at) less

labels_within : (p : Path) (a : Label) (s : Path) → labels_decided_at p (a ∷ s) < length (flat_map counted_bytes (a ∷ s))
labels_within [] a s = omega arith
labels_within (b ∷ p) a [] = omega (arith, decided_within b a, length-append (counted_bytes a) [])
labels_within (b ∷ p) a (c ∷ s) = within_either b p a c s (label_eq b a) refl (labels_within p c s)

path_within : (p s : Path) → path_decided_at p s < length (path_bytes s)
path_within p [] = omega arith
path_within p (a ∷ s) = omega (arith, labels_within p a s)

record_size : (r : Record) → 9 + length (path_bytes r.loc.path) ≤ length (record_bytes r)
record_size r =
    let path = path_bytes r.loc.path in
    let source = source_bytes r.src in
    omega (arith, ap length (record_parts r), length-append (to_be_bytes w64 r.tid) (letter r.op ∷ (path ++ source)), length-append path source, eight r.tid)

-- a record is judged at one of its bytes
pub judged_in_record : (elder : Option Record) (r : Record) → record_judged_at elder r < length (record_bytes r)
judged_in_record None r = omega (arith, record_size r)
judged_in_record (Some q) r = by (q.tid == r.tid) refl
  where
    by : (same : Bool) → same ≡ (q.tid == r.tid) → record_decided_at q r < length (record_bytes r)
    by true h =
        let less : 9 + path_decided_at q.loc.path r.loc.path < length (record_bytes r) = omega (arith, record_size r, path_within q.loc.path r.loc.path) in
        subst (λ n. n < length (record_bytes r)) (sym (decided_by q r true h)) less
    by false h =
        let less : common (to_be_bytes w64 q.tid) (to_be_bytes w64 r.tid) < length (record_bytes r) = omega (arith, record_size r, (common_prefix_len-le nat_eq (to_be_bytes w64 q.tid) (to_be_bytes w64 r.tid)).0, eight q.tid) in
        subst (λ n. n < length (record_bytes r)) (sym (decided_by q r false h)) less
