-- Formats one after another: where the first is read and the second stops, both stop.
use Rattle.std.proofs.Common.{◌≡◌, ℕ, ◌+◌, ◌-◌, ◌<◌, ◌≤◌, List, [], ◌∷◌, ◌++◌, ◌⊎◌, inl, inr, refl, sym, ap, ◌∙◌, subst, append_assoc, length, length-append, take, drop, arith}
use Rattle.std.proofs.lemmas.List.{take_at, drop_at, take-append-drop}
use Rattle.std.proofs.Math.Seq.{take-append-add}
use Rattle.cp_format.specs.Formats.{AllHold, Format, Reads, Goes, HoldWithin, Stops, ReadsAt, FailsAt, moved}
use Rattle.cp_format.proofs.Checks.{IsJudged, all_both, all_first, all_moved, all_second, all_within, before_moved, fewer, moved_within, part_all, part_within, within_both, within_first, within_second}

-- some value has a spelling
pub record HasSome {X : Type 0} (F : Format X) : Type 0 where
  pub first : X
  pub fit : F.fit first

-- no spelling begins another, and each is that of one value
abbrev pub IsPlain : {X : Type 0} → Format X → Type 0
IsPlain {X} F = (x y : X) (xs ys : List ℕ) → F.fit x → F.fit y → F.bytes x ++ xs ≡ F.bytes y ++ ys → (x ≡ y) × (xs ≡ ys)

-- one format, and then another that depends on the value that the first one spells
abbrev pub both : {X Y : Type 0} → Format X → (X → Format Y) → Format (X × Y)
both F G = record { fit = λ z. F.fit z.0 × (G z.0).fit z.1; bytes = λ z. F.bytes z.0 ++ (G z.0).bytes z.1; checks = λ z. F.checks z.0 ++ moved (length (F.bytes z.0)) ((G z.0).checks z.1) }

-- what is fit in the one is fit in the other, with the same spelling and the same checks
pub record Alike {X Y : Type 0} (F : Format X) (G : Format Y) (to : X → Y) : Type 0 where
  pub there : (x : X) → F.fit x → G.fit (to x) × (G.bytes (to x) ≡ F.bytes x) × (G.checks (to x) ≡ F.checks x)
  pub back : (y : Y) → G.fit y → (x : X) × F.fit x × (to x ≡ y)

-- ---- fronts of one list

-- the second list is the first and more, which the rest of the first has in front
pub record IsLonger (a b xs ys : List ℕ) : Type 0 where
  pub more : List ℕ
  pub is : b ≡ a ++ more
  pub left : xs ≡ more ++ ys

-- of two fronts of a list one is a front of the other
pub two_fronts : (a b xs ys : List ℕ) → a ++ xs ≡ b ++ ys → IsLonger a b xs ys ⊎ IsLonger b a ys xs
two_fronts [] b xs ys e = inl (record { more = b; is = refl; left = e })
two_fronts (x ∷ a) [] xs ys e = inr (record { more = x ∷ a; is = refl; left = sym e })
two_fronts (x ∷ a) (y ∷ b) xs ys e =
    let head : x ≡ y = cc in
    let tail : a ++ xs ≡ b ++ ys = cc in
    elim (two_fronts a b xs ys tail) [
      | inl l ↦ inl (record { more = l.more; is = (λ i. sym head i ∷ l.is i); left = l.left })
      | inr l ↦ inr (record { more = l.more; is = (λ i. head i ∷ l.is i); left = l.left })
    ]

-- ---- one format after another

-- the first is read, and then the second
pub reads_both : {X Y : Type 0} (F : Format X) (G : X → Format Y) (bytes mid rest : List ℕ) (x : X) (y : Y) → Reads F bytes x mid → Reads (G x) mid y rest → Reads (both F G) bytes (x, y) rest
reads_both F G bytes mid rest x y r s = record {
  fit = (r.fit, s.fit);
  checked = all_both (F.checks x) (moved (length (F.bytes x)) ((G x).checks y)) r.checked (all_moved (length (F.bytes x)) ((G x).checks y) s.checked);
  is = r.is ∙ ap (λ l. F.bytes x ++ l) s.is ∙ sym (append_assoc (F.bytes x) ((G x).bytes y) rest);
}

module _ {X Y : Type 0} (F : Format X) (G : X → Format Y) where
  pub has_both : HasSome F → ((x : X) → F.fit x → HasSome (G x)) → HasSome (both F G)
  has_both h k = record { first = (h.first, (k h.first h.fit).first); fit = (h.fit, (k h.first h.fit).fit) }

  -- where the checks of each are judged within its spelling, so are those of both
  pub judged_both : IsJudged F → ((x : X) → F.fit x → IsJudged (G x)) → IsJudged (both F G)
  judged_both j k z f h =
      let len = length (F.bytes z.0) in
      let more : length (F.bytes z.0 ++ (G z.0).bytes z.1) ≡ len + length ((G z.0).bytes z.1) = length-append (F.bytes z.0) ((G z.0).bytes z.1) in
      let first : HoldWithin len (F.checks z.0) = fewer len (length (F.bytes z.0 ++ (G z.0).bytes z.1)) (F.checks z.0) (omega (arith, more)) (within_first (length (F.bytes z.0 ++ (G z.0).bytes z.1)) (F.checks z.0) (moved len ((G z.0).checks z.1)) h) in
      let second : HoldWithin (len + length ((G z.0).bytes z.1)) (moved len ((G z.0).checks z.1)) = subst (λ n. HoldWithin n (moved len ((G z.0).checks z.1))) more (within_second (length (F.bytes z.0 ++ (G z.0).bytes z.1)) (F.checks z.0) (moved len ((G z.0).checks z.1)) h) in
      all_both (F.checks z.0) (moved len ((G z.0).checks z.1)) (j z.0 f.0 first) (all_moved len ((G z.0).checks z.1) (k z.0 f.0 z.1 f.1 (part_within len (length ((G z.0).bytes z.1)) ((G z.0).checks z.1) second)))

  same_second : (x x' : X) (y y' : Y) (xs ys : List ℕ) → IsPlain (G x) → (G x).fit y → (G x').fit y' → x ≡ x' → (G x).bytes y ++ xs ≡ (G x').bytes y' ++ ys → (◌≡◌ {A = X × Y} (x, y) (x', y')) × (xs ≡ ys)
  same_second x x' y y' xs ys p f f' e same =
      let moved : (G x).fit y' = subst (λ z. (G z).fit y') (sym e) f' in
      let found = p y y' xs ys f moved (same ∙ ap (λ z. (G z).bytes y' ++ ys) (sym e)) in
      let second = found.0 in
      ((λ i. (e i, second i)), found.1)

  pub plain_both : IsPlain F → ((x : X) → F.fit x → IsPlain (G x)) → IsPlain (both F G)
  plain_both p q x y xs ys f g e =
      let first = p x.0 y.0 ((G x.0).bytes x.1 ++ xs) ((G y.0).bytes y.1 ++ ys) f.0 g.0 (sym (append_assoc (F.bytes x.0) ((G x.0).bytes x.1) xs) ∙ e ∙ append_assoc (F.bytes y.0) ((G y.0).bytes y.1) ys) in
      same_second x.0 y.0 x.1 y.1 xs ys (q x.0 f.0) f.1 g.1 first.0 first.1

  module _ (bytes : List ℕ) (n : ℕ) where
    goes_first : IsJudged F → (z : Goes (both F G) (take (n + 1) bytes)) → Stops F bytes n → n < length bytes → ⊥
    goes_first j z s lt =
        let x = z.first.0 in
        let now : HoldWithin (length (take (n + 1) bytes)) (F.checks x) = within_first (length (take (n + 1) bytes)) (F.checks x) (moved (length (F.bytes x)) ((G x).checks z.first.1)) z.checked in
        let all : F.bytes x ++ (G x).bytes z.first.1 ≡ take (n + 1) bytes ++ z.rest = z.is in
        elim (two_fronts (F.bytes x) (take (n + 1) bytes) ((G x).bytes z.first.1) z.rest all) [
          | inl l ↦ s.none x (l.more ++ drop (n + 1) bytes) (record { fit = z.fit.0; checked = j x z.fit.0 (fewer (length (F.bytes x)) (length (take (n + 1) bytes)) (F.checks x) (omega (arith, ap length l.is, length-append (F.bytes x) l.more)) now); is = sym (take-append-drop (n + 1) bytes) ∙ ap (λ b. b ++ drop (n + 1) bytes) l.is ∙ append_assoc (F.bytes x) l.more (drop (n + 1) bytes) })
          | inr l ↦ s.stops lt (record { first = x; fit = z.fit.0; checked = now; rest = l.more; is = l.is })
        ]

    -- where the first stops, both stop, if its checks are judged within it and each of its values can be followed
    pub stops_first : IsJudged F → ((x : X) → F.fit x → HasSome (G x)) → Stops F bytes n → Stops (both F G) bytes n
    stops_first j k s =
        let b = s.begins in
        let h = k b.first b.fit in
        let len = length (F.bytes b.first) in
        let long : length (take n bytes) ≤ len = omega (arith, ap length b.is, length-append (take n bytes) b.rest) in
        let later : HoldWithin (length (take n bytes)) (moved len ((G b.first).checks h.first)) = fewer (length (take n bytes)) len (moved len ((G b.first).checks h.first)) long (before_moved len ((G b.first).checks h.first)) in
        record {
          within = s.within;
          begins = record { first = (b.first, h.first); fit = (b.fit, h.fit); checked = within_both (length (take n bytes)) (F.checks b.first) (moved len ((G b.first).checks h.first)) b.checked later; rest = b.rest ++ (G b.first).bytes h.first; is = ap (λ l. l ++ (G b.first).bytes h.first) b.is ∙ append_assoc (take n bytes) b.rest ((G b.first).bytes h.first) };
          stops = λ lt z. goes_first j z s lt;
          none = λ z rest r. s.none z.0 ((G z.0).bytes z.1 ++ rest) (record { fit = r.fit.0; checked = all_first (F.checks z.0) (moved (length (F.bytes z.0)) ((G z.0).checks z.1)) r.checked; is = r.is ∙ append_assoc (F.bytes z.0) ((G z.0).bytes z.1) rest });
        }

  module _ (p : IsPlain F) (bytes mid : List ℕ) (x : X) (r : Reads F bytes x mid) where
    -- what of a spelling of both follows x
    goes_second : (front : List ℕ) → Goes (both F G) (F.bytes x ++ front) → Goes (G x) front
    goes_second front z =
        let x' = z.first.0 in
        let y = z.first.1 in
        let all : F.bytes x' ++ (G x').bytes y ≡ F.bytes x ++ (front ++ z.rest) = z.is ∙ append_assoc (F.bytes x) front z.rest in
        let first = p x' x ((G x').bytes y) (front ++ z.rest) z.fit.0 r.fit all in
        let len = length (F.bytes x') in
        let long : length (F.bytes x ++ front) ≡ len + length front = length-append (F.bytes x) front ∙ ap (λ w. length (F.bytes w) + length front) (sym first.0) in
        let now : HoldWithin (len + length front) (moved len ((G x').checks y)) = subst (λ n. HoldWithin n (moved len ((G x').checks y))) long (within_second (length (F.bytes x ++ front)) (F.checks x') (moved len ((G x').checks y)) z.checked) in
        subst (λ w. Goes (G w) front) first.0 (record { first = y; fit = z.fit.1; checked = part_within len (length front) ((G x').checks y) now; rest = z.rest; is = first.1 })

    reads_second : (z : X × Y) (rest : List ℕ) → Reads (both F G) bytes z rest → Reads (G x) mid z.1 rest
    reads_second z rest s =
        let all : F.bytes z.0 ++ ((G z.0).bytes z.1 ++ rest) ≡ F.bytes x ++ mid = sym (append_assoc (F.bytes z.0) ((G z.0).bytes z.1) rest) ∙ sym s.is ∙ r.is in
        let first = p z.0 x ((G z.0).bytes z.1 ++ rest) mid s.fit.0 r.fit all in
        let second = all_second (F.checks z.0) (moved (length (F.bytes z.0)) ((G z.0).checks z.1)) s.checked in
        subst (λ w. Reads (G w) mid z.1 rest) first.0 (record { fit = s.fit.1; checked = part_all (length (F.bytes z.0)) ((G z.0).checks z.1) second; is = sym first.1 })

    front : (n : ℕ) → take (length (F.bytes x) + n) bytes ≡ F.bytes x ++ take n mid
    front n = ap (take (length (F.bytes x) + n)) r.is ∙ take-append-add (F.bytes x) mid n

    size : length bytes ≡ length (F.bytes x) + length mid
    size = ap length r.is ∙ length-append (F.bytes x) mid

    hold_second : (n : ℕ) (y : Y) → HoldWithin (length (take n mid)) ((G x).checks y) → HoldWithin (length (take (length (F.bytes x) + n) bytes)) (F.checks x ++ moved (length (F.bytes x)) ((G x).checks y))
    hold_second n y h =
        let len = length (F.bytes x) in
        let all = length (take (len + n) bytes) in
        let long : all ≡ len + length (take n mid) = ap length (front n) ∙ length-append (F.bytes x) (take n mid) in
        within_both all (F.checks x) (moved len ((G x).checks y)) (all_within all (F.checks x) r.checked)
        (subst (λ k. HoldWithin k (moved len ((G x).checks y))) (sym long) (moved_within len (length (take n mid)) ((G x).checks y) h))

    -- where the first is read and the second stops, both stop
    pub stops_second : (n : ℕ) → Stops (G x) mid n → Stops (both F G) bytes (length (F.bytes x) + n)
    stops_second n s =
        let b = s.begins in
        let len = length (F.bytes x) in
        let more : len + n + 1 ≡ len + (n + 1) = omega arith in
        record {
          within = omega (arith, size, s.within);
          begins = record { first = (x, b.first); fit = (r.fit, b.fit); checked = hold_second n b.first b.checked; rest = b.rest; is = ap (λ l. F.bytes x ++ l) b.is ∙ sym (append_assoc (F.bytes x) (take n mid) b.rest) ∙ ap (λ l. l ++ b.rest) (sym (front n)) };
          stops = λ lt z. s.stops (omega (arith, size, lt)) (goes_second (take (n + 1) mid) (subst (λ l. Goes (both F G) l) (ap (λ k. take k bytes) more ∙ front (n + 1)) z));
          none = λ z rest t. s.none z.1 rest (reads_second z rest t);
        }

-- ---- two formats with the same spellings

module _ {X Y : Type 0} (F : Format X) (G : Format Y) (to : X → Y) (a : Alike F G to) where
  goes_there : (bytes : List ℕ) → Goes F bytes → Goes G bytes
  goes_there bytes g = let t = a.there g.first g.fit in record { first = to g.first; fit = t.0; checked = subst (λ cs. HoldWithin (length bytes) cs) (sym t.2) g.checked; rest = g.rest; is = t.1 ∙ g.is }

  same_bytes : (y : Y) (f : G.fit y) → F.bytes (a.back y f).0 ≡ G.bytes y
  same_bytes y f = let t = a.back y f in sym (a.there t.0 t.1).1 ∙ ap G.bytes t.2

  same_checks : (y : Y) (f : G.fit y) → F.checks (a.back y f).0 ≡ G.checks y
  same_checks y f = let t = a.back y f in sym (a.there t.0 t.1).2 ∙ ap G.checks t.2

  goes_back : (bytes : List ℕ) → Goes G bytes → Goes F bytes
  goes_back bytes g = let t = a.back g.first g.fit in record { first = t.0; fit = t.1; checked = subst (λ cs. HoldWithin (length bytes) cs) (sym (same_checks g.first g.fit)) g.checked; rest = g.rest; is = same_bytes g.first g.fit ∙ g.is }

  -- where the one stops, the other does
  pub stops_alike : (bytes : List ℕ) (n : ℕ) → Stops F bytes n → Stops G bytes n
  stops_alike bytes n s = record {
    within = s.within;
    begins = goes_there (take n bytes) s.begins;
    stops = λ lt z. s.stops lt (goes_back (take (n + 1) bytes) z);
    none = λ y rest r. let t = a.back y r.fit in s.none t.0 rest (record { fit = t.1; checked = subst AllHold (sym (same_checks y r.fit)) r.checked; is = r.is ∙ ap (λ l. l ++ rest) (sym (same_bytes y r.fit)) });
  }

  pub has_alike : HasSome F → HasSome G
  has_alike h = record { first = to h.first; fit = (a.there h.first h.fit).0 }

  -- where the checks of the one are judged within its spelling, so are those of the other
  pub judged_alike : IsJudged F → IsJudged G
  judged_alike j y f h =
      let t = a.back y f in
      let now : HoldWithin (length (F.bytes t.0)) (F.checks t.0) = subst (λ n. HoldWithin n (F.checks t.0)) (ap length (sym (same_bytes y f))) (subst (λ cs. HoldWithin (length (G.bytes y)) cs) (sym (same_checks y f)) h) in
      subst AllHold (same_checks y f) (j t.0 t.1 now)

  pub plain_alike : IsPlain F → IsPlain G
  plain_alike p y z xs ys f g e =
      let b = a.back y f in
      let c = a.back z g in
      let same = p b.0 c.0 xs ys b.1 c.1 (ap (λ l. l ++ xs) (same_bytes y f) ∙ e ∙ ap (λ l. l ++ ys) (sym (same_bytes z g))) in
      (sym b.2 ∙ ap to same.0 ∙ c.2, same.1)

  pub reads_alike_at : (bytes : List ℕ) (at : ℕ) (x : X) (next : ℕ) → ReadsAt F bytes at x next → ReadsAt G bytes at (to x) next
  reads_alike_at bytes at x next r =
      let t = a.there x r.reads.fit in
      record {
        reads = record { fit = t.0; checked = subst AllHold (sym t.2) r.reads.checked; is = r.reads.is ∙ ap (λ l. l ++ drop next bytes) (sym t.1) };
        count = r.count ∙ ap (λ l. at + length l) (sym t.1);
        within = r.within;
      }

  pub fails_alike : (bytes : List ℕ) (at n : ℕ) → FailsAt F bytes at n → FailsAt G bytes at n
  fails_alike bytes at n f = record { past = f.past; stops = stops_alike (drop at bytes) (n - at) f.stops }

-- ---- at an offset of some bytes

module _ {X Y : Type 0} (F : Format X) (G : X → Format Y) (bytes : List ℕ) (at : ℕ) where
  pub reads_both_at : (mid next : ℕ) (x : X) (y : Y) → ReadsAt F bytes at x mid → ReadsAt (G x) bytes mid y next → ReadsAt (both F G) bytes at (x, y) next
  reads_both_at mid next x y r s = record {
    reads = reads_both F G (drop at bytes) (drop mid bytes) (drop next bytes) x y r.reads s.reads;
    count = omega (arith, r.count, s.count, length-append (F.bytes x) ((G x).bytes y));
    within = s.within;
  }

  -- where the first fails, both do
  pub fails_first : IsJudged F → ((x : X) → F.fit x → HasSome (G x)) → (n : ℕ) → FailsAt F bytes at n → FailsAt (both F G) bytes at n
  fails_first j k n f = record { past = f.past; stops = stops_first F G (drop at bytes) (n - at) j k f.stops }

  -- where the first is read and the second fails, both do
  pub fails_second : IsPlain F → (mid : ℕ) (x : X) → ReadsAt F bytes at x mid → (n : ℕ) → FailsAt (G x) bytes mid n → FailsAt (both F G) bytes at n
  fails_second p mid x r n f =
      let s = stops_second F G p (drop at bytes) (drop mid bytes) x r.reads (n - mid) f.stops in
      let k : length (F.bytes x) + (n - mid) ≡ n - at = omega (arith, r.count, f.past) in
      record { past = omega (arith, r.count, f.past); stops = subst (λ m. Stops (both F G) (drop at bytes) m) k s }

-- spellings of one length, each of one value
pub plain_fixed : {X : Type 0} (F : Format X) (n : ℕ) → ((x : X) → F.fit x → length (F.bytes x) ≡ n) → ((x y : X) → F.fit x → F.fit y → F.bytes x ≡ F.bytes y → x ≡ y) → IsPlain F
plain_fixed F n size one x y xs ys f g e =
    let front : F.bytes x ≡ F.bytes y = sym (take_at (F.bytes x) xs n (size x f)) ∙ ap (take n) e ∙ take_at (F.bytes y) ys n (size y g) in
    let back : xs ≡ ys = sym (drop_at (F.bytes x) xs n (size x f)) ∙ ap (drop n) e ∙ drop_at (F.bytes y) ys n (size y g) in
    (one x y f g front, back)
