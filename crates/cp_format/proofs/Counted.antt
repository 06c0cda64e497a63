-- So many elements one after another, each in a format that depends on what those before it left.
use Rattle.std.proofs.Common.{◌≡◌, ℕ, zero, suc, ◌+◌, ◌-◌, ◌<◌, ◌≤◌, List, [], ◌∷◌, ◌++◌, refl, sym, ap, ◌∙◌, subst, append_assoc, append-nil, length, length-append, drop, arith}
use Rattle.std.specs.List.{flat_map, AllByRecursion}
use Rattle.cp_format.specs.Formats.{AllHold, Check, Format, ReadsAt, FailsAt, moved}
use Rattle.cp_format.proofs.Checks.{IsJudged}
use Rattle.cp_format.proofs.Formats.{HasSome, IsPlain, Alike, both, has_both, has_alike, judged_alike, judged_both, plain_both, plain_alike, reads_both_at, reads_alike_at, fails_first, fails_second, fails_alike}

-- in a state that allows n elements, a list of so many is the next element, with n others to come, and the others in the state after it
pub record IsCounted {S X : Type 0} (allows : ℕ → S → Type 0) (item : ℕ → S → Format X) (after : S → X → S) (list : ℕ → S → Format (List X)) : Type 0 where
  pub none : (s : S) → (list 0 s).fit [] × ((list 0 s).bytes [] ≡ []) × ((list 0 s).checks [] ≡ [])
  pub only : (s : S) (l : List X) → (list 0 s).fit l → l ≡ []
  pub more : (n : ℕ) (s : S) → allows (suc n) s → Alike (both (item n s) (λ x. list n (after s x))) (list (suc n) s) (λ z. z.0 ∷ z.1)
  pub keeps : (n : ℕ) (s : S) (x : X) → allows (suc n) s → (item n s).fit x → allows n (after s x)
  pub some : (n : ℕ) (s : S) → allows (suc n) s → HasSome (item n s)
  pub plain : (n : ℕ) (s : S) → allows (suc n) s → IsPlain (item n s)
  pub judged : (n : ℕ) (s : S) → allows (suc n) s → IsJudged (item n s)

module _ {S X : Type 0} (allows : ℕ → S → Type 0) (item : ℕ → S → Format X) (after : S → X → S) (list : ℕ → S → Format (List X)) (c : IsCounted allows item after list) where
  pub has_counted : (n : ℕ) (s : S) → allows n s → HasSome (list n s)
  has_counted zero s h = record { first = []; fit = (c.none s).0 }
  has_counted (suc n) s h =
      has_alike (both (item n s) (λ x. list n (after s x))) (list (suc n) s) (λ z. z.0 ∷ z.1) (c.more n s h)
      (has_both (item n s) (λ x. list n (after s x)) (c.some n s h) (λ x f. has_counted n (after s x) (c.keeps n s x h f)))

  plain_none : (s : S) → IsPlain (list 0 s)
  plain_none s p q xs ys f g e =
      let a = c.only s p f in
      let b = c.only s q g in
      let none = (c.none s).1 in
      let left : (list 0 s).bytes p ≡ [] = ap (list 0 s).bytes a ∙ none in
      let right : (list 0 s).bytes q ≡ [] = ap (list 0 s).bytes b ∙ none in
      (a ∙ sym b, ap (λ l. l ++ xs) (sym left) ∙ e ∙ ap (λ l. l ++ ys) right)

  pub plain_counted : (n : ℕ) (s : S) → allows n s → IsPlain (list n s)
  plain_counted zero s h = plain_none s
  plain_counted (suc n) s h =
      plain_alike (both (item n s) (λ x. list n (after s x))) (list (suc n) s) (λ z. z.0 ∷ z.1) (c.more n s h)
      (plain_both (item n s) (λ x. list n (after s x)) (c.plain n s h) (λ x f. plain_counted n (after s x) (c.keeps n s x h f)))

  judged_none : (s : S) → IsJudged (list 0 s)
  judged_none s l f h = subst AllHold (sym (ap (list 0 s).checks (c.only s l f) ∙ (c.none s).2)) tt

  -- the checks of all elements are judged within their spelling
  pub judged_counted : (n : ℕ) (s : S) → allows n s → IsJudged (list n s)
  judged_counted zero s h = judged_none s
  judged_counted (suc n) s h =
      judged_alike (both (item n s) (λ x. list n (after s x))) (list (suc n) s) (λ z. z.0 ∷ z.1) (c.more n s h)
      (judged_both (item n s) (λ x. list n (after s x)) (c.judged n s h) (λ x f. judged_counted n (after s x) (c.keeps n s x h f)))

-- the first k of count elements are read, which left the state, and what comes of the others comes of all
pub record SoFar {S X : Type 0} (allows : ℕ → S → Type 0) (list : ℕ → S → Format (List X)) (bytes : List ℕ) (at count : ℕ) (begun : S) (k : ℕ) (now : List X) (next : ℕ) (left : S) : Type 0 where
  pub there : next ≤ length bytes
  pub number : length now ≡ k
  pub allowed : allows (count - k) left
  pub reads : (l : List X) (end : ℕ) → ReadsAt (list (count - k) left) bytes next l end → ReadsAt (list count begun) bytes at (now ++ l) end
  pub fails : (n : ℕ) → FailsAt (list (count - k) left) bytes next n → FailsAt (list count begun) bytes at n

module _ {S X : Type 0} (allows : ℕ → S → Type 0) (item : ℕ → S → Format X) (after : S → X → S) (list : ℕ → S → Format (List X)) (c : IsCounted allows item after list) (bytes : List ℕ) (at count : ℕ) (begun : S) where
  -- no element is read
  pub none_yet : (now : List X) → now ≡ [] → at ≤ length bytes → allows count begun → SoFar allows list bytes at count begun 0 now at begun
  none_yet now e le h =
      let same : count - 0 ≡ count = omega arith in
      record {
        there = le;
        number = ap length e;
        allowed = subst (λ n. allows n begun) (sym same) h;
        reads = λ l end r. subst (λ p. ReadsAt (list count begun) bytes at p end) (ap (λ p. p ++ l) (sym e)) (subst (λ n. ReadsAt (list n begun) bytes at l end) same r);
        fails = λ x f. subst (λ n. FailsAt (list n begun) bytes at x) same f;
      }

  module _ (k : ℕ) (now : List X) (next : ℕ) (left : S) (s : SoFar allows list bytes at count begun k now next left) where
    -- all elements are read
    pub all_read : count ≤ k → ReadsAt (list count begun) bytes at now next
    all_read le =
        let none : 0 ≡ count - k = omega (arith, le) in
        let empty = c.none left in
        let size : length ((list 0 left).bytes []) ≡ 0 = ap length empty.1 in
        let r : ReadsAt (list 0 left) bytes next [] next = record { reads = record { fit = empty.0; checked = subst AllHold (sym empty.2) tt; is = ap (λ l. l ++ drop next bytes) (sym empty.1) }; count = omega (arith, size); within = s.there } in
        subst (λ l. ReadsAt (list count begun) bytes at l next) (append-nil now) (s.reads [] next (subst (λ n. ReadsAt (list n left) bytes next [] next) none r))

    module _ (lt : k < count) where
      abbrev others : ℕ
      others = count - (k + 1)

      one_more : suc others ≡ count - k
      one_more = omega (arith, lt)

      allowed_more : allows (suc others) left
      allowed_more = subst (λ n. allows n left) (sym one_more) s.allowed

      -- where the next element fails, all do
      pub next_fails : (n : ℕ) → FailsAt (item others left) bytes next n → FailsAt (list count begun) bytes at n
      next_fails n f =
          let first = fails_first (item others left) (λ x. list others (after left x)) bytes next (c.judged others left allowed_more) (λ x h. has_counted allows item after list c others (after left x) (c.keeps others left x allowed_more h)) n f in
          let all = fails_alike (both (item others left) (λ x. list others (after left x))) (list (suc others) left) (λ z. z.0 ∷ z.1) (c.more others left allowed_more) bytes next n first in
          s.fails n (subst (λ m. FailsAt (list m left) bytes next n) one_more all)

      -- one element more is read
      pub next_read : (x : X) (behind : ℕ) → ReadsAt (item others left) bytes next x behind → (now' : List X) (left' : S) → now' ≡ now ++ x ∷ [] → left' ≡ after left x → SoFar allows list bytes at count begun (k + 1) now' behind left'
      next_read x behind r now' left' e f =
          let alike = c.more others left allowed_more in
          record {
            there = r.within;
            number = ap length e ∙ length-append now (x ∷ []) ∙ (let n : length now + 1 ≡ k + 1 = omega (arith, s.number) in n);
            allowed = subst (λ t. allows others t) (sym f) (c.keeps others left x allowed_more r.reads.fit);
            reads = λ l end t.
                let u : ReadsAt (list others (after left x)) bytes behind l end = subst (λ w. ReadsAt (list others w) bytes behind l end) f t in
                let two = reads_both_at (item others left) (λ y. list others (after left y)) bytes next behind end x l r u in
                let all = reads_alike_at (both (item others left) (λ y. list others (after left y))) (list (suc others) left) (λ z. z.0 ∷ z.1) alike bytes next (x, l) end two in
                let done = s.reads (x ∷ l) end (subst (λ n. ReadsAt (list n left) bytes next (x ∷ l) end) one_more all) in
                subst (λ p. ReadsAt (list count begun) bytes at p end) (sym (append_assoc now (x ∷ []) l) ∙ ap (λ p. p ++ l) (sym e)) done;
            fails = λ n t.
                let u : FailsAt (list others (after left x)) bytes behind n = subst (λ w. FailsAt (list others w) bytes behind n) f t in
                let two = fails_second (item others left) (λ y. list others (after left y)) bytes next (c.plain others left allowed_more) behind x r n u in
                let all = fails_alike (both (item others left) (λ y. list others (after left y))) (list (suc others) left) (λ z. z.0 ∷ z.1) alike bytes next n two in
                s.fails n (subst (λ m. FailsAt (list m left) bytes next n) one_more all);
          }

-- ---- so many elements of one format

-- the checks of elements one after another
abbrev pub list_checks : {X : Type 0} → Format X → List X → List Check
list_checks F [] = []
list_checks F (x ∷ l) = F.checks x ++ moved (length (F.bytes x)) (list_checks F l)

-- so many elements, one after another
abbrev pub list_format : {X : Type 0} → Format X → ℕ → Format (List X)
list_format F n = record { fit = λ l. AllByRecursion F.fit l × (length l ≡ n); bytes = λ l. flat_map F.bytes l; checks = λ l. list_checks F l }

module _ {X : Type 0} (F : Format X) (h : HasSome F) (p : IsPlain F) (j : IsJudged F) where
  no_element : (l : List X) → length l ≡ 0 → l ≡ []
  no_element [] e = refl
  no_element (x ∷ l) e = absurd (omega (arith, e))

  list_parts : (n : ℕ) (l : List X) → AllByRecursion F.fit l → length l ≡ suc n → (z : X × List X) × (both F (λ x. list_format F n)).fit z × (◌≡◌ {A = List X} (z.0 ∷ z.1) l)
  list_parts n [] all size = absurd (omega (arith, size))
  list_parts n (x ∷ l) all size = ((x, l), (all.0, (all.1, omega (arith, size))), refl)

  -- any number of elements is allowed, and each is in the same format
  pub list_counted : IsCounted {S = Unit {0}} (λ n s. Unit {0}) (λ n s. F) (λ s x. s) (λ n s. list_format F n)
  list_counted = record {
    none = λ s. ((tt, refl), refl, refl);
    only = λ s l f. no_element l f.1;
    more = λ n s a. record { there = λ z f. (((f.0, f.1.0), ap suc f.1.1), refl, refl); back = λ l f. list_parts n l f.0 f.1 };
    keeps = λ n s x a f. tt;
    some = λ n s a. h;
    plain = λ n s a. p;
    judged = λ n s a. j;
  }
