-- Formats with one check more, which is judged at a byte of the spelling that tells.
use Rattle.std.proofs.Common.{◌≡◌, ℕ, ◌+◌, ◌-◌, ◌<◌, ◌≤◌, inl, inr, Bool, true, false, List, [], ◌∷◌, ◌++◌, sym, ap, ◌∙◌, subst, append_assoc, append-nil, length, length-append, take, drop, arith}
use Rattle.std.proofs.lemmas.Bool.{cases_lt}
use Rattle.std.proofs.lemmas.List.{length-drop, length-take-le, take-append-drop, take-append-le, take-take, take_at}
use Rattle.std.proofs.Math.Seq.{take-append-add}
use Rattle.cp_format.specs.Formats.{AllHold, Check, FailsAt, Format, Goes, HoldWithin, Reads, ReadsAt, Stops}
use Rattle.cp_format.specs.Judging.{IsRefused, MayPass}
use Rattle.cp_format.proofs.Checks.{IsJudged, all_both, all_first, all_second, all_within, fewer, within_both, within_first, within_second}
use Rattle.cp_format.proofs.Formats.{HasSome, IsPlain}

-- what is fit and spelled as in F, and has this one check beside those of F, judged at this byte of its spelling
abbrev pub with_check : {X : Type 0} → Format X → (X → ℕ) → (X → Bool) → Format X
with_check F last test = record { fit = F.fit; bytes = F.bytes; checks = λ x. F.checks x ++ (record { last = last x; holds = test x }) ∷ [] }

module _ {X : Type 0} (F : Format X) (last : X → ℕ) (test : X → Bool) where
  -- the check that is added
  abbrev added : X → List Check
  added x = (record { last = last x; holds = test x }) ∷ []

  -- some value is fit, as before
  pub has_checked : HasSome F → HasSome (with_check F last test)
  has_checked h = record { first = h.first; fit = h.fit }

  goes_as_before : (bytes : List ℕ) → Goes (with_check F last test) bytes → Goes F bytes
  goes_as_before bytes g = record { first = g.first; fit = g.fit; checked = within_first (length bytes) (F.checks g.first) (added g.first) g.checked; rest = g.rest; is = g.is }

  reads_as_before : (bytes : List ℕ) (x : X) (rest : List ℕ) → Reads (with_check F last test) bytes x rest → Reads F bytes x rest
  reads_as_before bytes x rest r = record { fit = r.fit; checked = all_first (F.checks x) (added x) r.checked; is = r.is }

  -- what is read passes the test
  test_holds : (x : X) → AllHold (F.checks x ++ added x) → test x ≡ true
  test_holds x h = (all_second (F.checks x) (added x) h).0

  test_holds_within : (n : ℕ) (x : X) → last x < n → HoldWithin n (F.checks x ++ added x) → test x ≡ true
  test_holds_within n x lt h = (within_second n (F.checks x) (added x) h).0 lt

  -- the checks are judged within the spelling, where those of F are
  pub judged_checked : ((x : X) → F.fit x → last x < length (F.bytes x)) → IsJudged F → IsJudged (with_check F last test)
  judged_checked within j x f h =
      all_both (F.checks x) (added x) (j x f (within_first (length (F.bytes x)) (F.checks x) (added x) h))
      (test_holds_within (length (F.bytes x)) x (within x f) h, tt)

  -- a beginning of a spelling is one still where the test may pass
  still_begins : (bytes : List ℕ) → MayPass F test last bytes → Goes F bytes → Goes (with_check F last test) bytes
  still_begins bytes may g = record {
    first = g.first;
    fit = g.fit;
    checked = within_both (length bytes) (F.checks g.first) (added g.first) g.checked ((λ lt. may g.first g.rest g.fit g.is lt), tt);
    rest = g.rest;
    is = g.is;
  }

  module _ (bytes : List ℕ) (at : ℕ) where
    -- what F reads is read with the check, where the test may pass
    pub reads_checked : (x : X) (next : ℕ) → ReadsAt F bytes at x next → last x < length (F.bytes x) → MayPass F test last (take (next - at) (drop at bytes)) → ReadsAt (with_check F last test) bytes at x next
    reads_checked x next r within may =
        let all : F.bytes x ≡ take (next - at) (drop at bytes) = sym (ap (take (next - at)) r.reads.is ∙ take_at (F.bytes x) (drop next bytes) (next - at) (omega (arith, r.count))) in
        let size = ap length all in
        let e : test x ≡ true = may x [] r.reads.fit (all ∙ sym (append-nil (take (next - at) (drop at bytes)))) (omega (arith, within, size)) in
        record {
          reads = record { fit = r.reads.fit; checked = all_both (F.checks x) (added x) r.reads.checked (e, tt); is = r.reads.is };
          count = r.count;
          within = r.within;
        }

    -- where F fails, so does it with the check, where the test may pass
    pub fails_checked : (n : ℕ) → FailsAt F bytes at n → MayPass F test last (take (n - at) (drop at bytes)) → FailsAt (with_check F last test) bytes at n
    fails_checked n f may =
        let s = f.stops in
        record {
          past = f.past;
          stops = record {
            within = s.within;
            begins = still_begins (take (n - at) (drop at bytes)) may s.begins;
            stops = λ lt z. s.stops lt (goes_as_before (take (n - at + 1) (drop at bytes)) z);
            none = λ x rest r. s.none x rest (reads_as_before (drop at bytes) x rest r);
          };
        }

  module _ (p : IsPlain F) (bytes : List ℕ) (n : ℕ) (within : n ≤ length bytes) (g : Goes F (take n bytes)) (k : ℕ) (r : IsRefused F test last (take n bytes) k) where
    size : length (take n bytes) ≡ n
    size = length-take-le n bytes within

    lies : k < n
    lies = omega (arith, size, r.there)

    front : take (k + 1) (take n bytes) ≡ take (k + 1) bytes
    front = take-take (k + 1) n bytes (omega (arith, lies))

    refused_at : (x : X) (rest : List ℕ) → F.fit x → F.bytes x ≡ take (k + 1) bytes ++ rest → (test x ≡ false) × (last x ≡ k)
    refused_at x rest f e = r.refused x rest f (e ∙ ap (λ l. l ++ rest) (sym front))

    not_both : (x : X) → test x ≡ true → test x ≡ false → ⊥
    not_both x t f = let both : true ≡ false = sym t ∙ f in absurd (cc)

    -- the spelling that begins so, behind the first k bytes
    begin_is : F.bytes g.first ≡ take k bytes ++ drop k (F.bytes g.first)
    begin_is =
        let all : take k (F.bytes g.first) ≡ take k bytes = ap (take k) g.is ∙ take-append-le k (take n bytes) g.rest (omega (arith, size, lies)) ∙ take-take k n bytes (omega (arith, lies)) in
        sym (take-append-drop k (F.bytes g.first)) ∙ ap (λ l. l ++ drop k (F.bytes g.first)) all

    last_first : last g.first ≡ k
    last_first =
        let all : take (k + 1) (F.bytes g.first) ≡ take (k + 1) bytes = ap (take (k + 1)) g.is ∙ take-append-le (k + 1) (take n bytes) g.rest (omega (arith, size, lies)) ∙ front in
        (refused_at g.first (drop (k + 1) (F.bytes g.first)) g.fit (sym (take-append-drop (k + 1) (F.bytes g.first)) ∙ ap (λ l. l ++ drop (k + 1) (F.bytes g.first)) all)).1

    none_read : (x : X) (rest : List ℕ) → Reads (with_check F last test) bytes x rest → ⊥
    none_read x rest t = elim (cases_lt k (length (F.bytes x))) [
      | inl lt ↦
          let all : take (k + 1) (F.bytes x) ≡ take (k + 1) bytes = sym (ap (take (k + 1)) t.is ∙ take-append-le (k + 1) (F.bytes x) rest (omega (arith, lt))) in
          not_both x (test_holds x t.checked) (refused_at x (drop (k + 1) (F.bytes x)) t.fit (sym (take-append-drop (k + 1) (F.bytes x)) ∙ ap (λ l. l ++ drop (k + 1) (F.bytes x)) all)).0
      | inr le ↦
          let m = n - length (F.bytes x) in
          let cut : take n bytes ≡ F.bytes x ++ take m rest = ap (take n) t.is ∙ ap (λ j. take j (F.bytes x ++ rest)) (longer le) ∙ take-append-add (F.bytes x) rest m in
          let one : F.bytes g.first ++ [] ≡ F.bytes x ++ (take m rest ++ g.rest) = append-nil (F.bytes g.first) ∙ g.is ∙ ap (λ l. l ++ g.rest) cut ∙ append_assoc (F.bytes x) (take m rest) g.rest in
          let same = p g.first x [] (take m rest ++ g.rest) g.fit t.fit one in
          let long = ap length g.is in
          let equal = ap (λ y. length (F.bytes y)) same.0 in
          absurd (omega (arith, long, length-append (take n bytes) g.rest, size, equal, le, lies))
    ]
      where
        longer : length (F.bytes x) ≤ k → n ≡ length (F.bytes x) + (n - length (F.bytes x))
        longer le = omega (arith, le, lies)

    -- what fails the test stops at the byte that tells
    pub stops_refused : Stops (with_check F last test) bytes k
    stops_refused = record {
      within = omega (arith, within, lies);
      begins = record {
        first = g.first;
        fit = g.fit;
        checked = within_both (length (take k bytes)) (F.checks g.first) (added g.first)
            (fewer (length (take k bytes)) (length (take n bytes)) (F.checks g.first) (omega (arith, size, lies, length-take-le k bytes (omega (arith, within, lies)))) g.checked)
            ((λ lt. absurd (omega (arith, lt, last_first, length-take-le k bytes (omega (arith, within, lies))))), tt);
        rest = drop k (F.bytes g.first);
        is = begin_is;
      };
      stops = λ lt z.
          let told = refused_at z.first z.rest z.fit z.is in
          not_both z.first (test_holds_within (length (take (k + 1) bytes)) z.first (omega (arith, told.1, length-take-le (k + 1) bytes (omega (arith, lt)))) z.checked) told.0;
      none = λ x rest t. none_read x rest t;
    }

-- what fails the test fails at the byte that tells
pub fails_refused : {X : Type 0} (F : Format X) (last : X → ℕ) (test : X → Bool) → IsPlain F → (bytes : List ℕ) (at end : ℕ) → at ≤ end → end ≤ length bytes → Goes F (take (end - at) (drop at bytes)) → (k : ℕ) → IsRefused F test last (take (end - at) (drop at bytes)) k → FailsAt (with_check F last test) bytes at (at + k)
fails_refused F last test p bytes at end past within g k r =
    let same : k ≡ at + k - at = omega arith in
    let few : end - at ≤ length (drop at bytes) = omega (arith, past, within, length-drop at bytes) in
    record { past = omega arith; stops = subst (λ m. Stops (with_check F last test) (drop at bytes) m) same (stops_refused F last test p (drop at bytes) (end - at) few g k r) }

-- a value that is read begins with all its bytes
pub goes_read : {X : Type 0} (F : Format X) (bytes : List ℕ) (at : ℕ) (x : X) (next : ℕ) → ReadsAt F bytes at x next → Goes F (take (next - at) (drop at bytes))
goes_read F bytes at x next r =
    let all : take (next - at) (drop at bytes) ≡ F.bytes x = ap (take (next - at)) r.reads.is ∙ take_at (F.bytes x) (drop next bytes) (next - at) (omega (arith, r.count)) in
    record {
      first = x;
      fit = r.reads.fit;
      checked = all_within (length (take (next - at) (drop at bytes))) (F.checks x) r.reads.checked;
      rest = [];
      is = sym (ap (λ l. l ++ []) all ∙ append-nil (F.bytes x));
    }
