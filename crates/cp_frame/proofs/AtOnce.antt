-- A label out of order is judged as soon as its bytes decide.
use Rattle.std.proofs.Common.{◌≡◌, ℕ, zero, suc, ◌+◌, ◌-◌, ◌<◌, ◌≤◌, inl, inr, true, false, List, [], ◌∷◌, ◌++◌, refl, sym, ap, ◌∙◌, subst, append_assoc, length, length-append, take, drop, get_or, arith}
use Rattle.std.specs.Ordering.{is_lt}
use Rattle.std.specs.declared.cmp.Ordering.TheVariants.{Less}
use Rattle.std.specs.declared.option.Option.TheVariants.{Some}
use Rattle.std.proofs.lemmas.Bool.{cases_lt}
use Rattle.std.proofs.lemmas.Bool.Decides.{nat_tests}
use Rattle.std.proofs.lemmas.List.{length-take-le, take-append-drop, take-append-le, take_at}
use Rattle.cp_path.specs.Text.{text_cmp}
use Rattle.cp_model.specs.Place.{Label}
use Rattle.cp_frame.specs.Laws.{LabelsAreJudgedAtOnce}
use Rattle.cp_frame.specs.OrderReading.{LabelIsEarly}
use Rattle.cp_frame.specs.Trees.{comes_after, decided_at}
use Rattle.cp_frame.proofs.Early.{Differ, Parted, cmp_front, cmp_less, early_byte, early_whole, parted}

-- ---- a label that is out of order

module _ (b a : Label) (p : Parted b a) (late : comes_after (Some b) a ≡ false) where
  not_after : comes_after (Some b) a ≡ true → ⊥
  not_after e = let both : true ≡ false = sym e ∙ late in absurd (cc)

  after_by : (left right : List ℕ) → b ≡ p.front ++ left → a ≡ p.front ++ right → text_cmp left right ≡ Less → ⊥
  after_by left right elder begun less = not_after (ap is_lt (ap (text_cmp b) begun ∙ ap (λ l. text_cmp l (p.front ++ right)) elder ∙ cmp_front p.front left right ∙ less))

  -- its first bytes, up to the one that decides, tell so
  is_early : (k : ℕ) × LabelIsEarly b a (length a) k
  is_early = by p.left p.right p.elder p.begun p.differ
    where
      by : (left right : List ℕ) → b ≡ p.front ++ left → a ≡ p.front ++ right → Differ left right → (k : ℕ) × LabelIsEarly b a (length a) k
      by left [] elder begun d =
          let all : length p.front ≡ length a = sym (ap length begun ∙ length-append p.front [] ∙ omega arith) in
          (length a, early_whole b a (length a) p all all)
      by [] (y ∷ r) elder begun d = absurd (after_by [] (y ∷ r) elder begun refl)
      by (x ∷ l) (y ∷ r) elder begun d = elim (cases_lt x y) [
        | inl lt ↦ absurd (after_by (x ∷ l) (y ∷ r) elder begun (cmp_less x y l r lt))
        | inr le ↦
            let lt : y < x = grind (arith, nat_tests) in
            (length p.front + 1, early_byte b a (length a) p.front l r x y elder begun lt)
      ]

late_early : (b a : Label) → comes_after (Some b) a ≡ false → LabelIsEarly b a (length a) (decided_at b a)
late_early b a late =
    let e = is_early b a (parted b a) late in
    let whole : a ≡ take e.0 a ++ drop e.0 a = sym (take-append-drop e.0 a) in
    let at : decided_at b a ≡ e.0 = (e.1.early a (drop e.0 a) refl whole).1 in
    subst (λ k. LabelIsEarly b a (length a) k) (sym at) e.1

-- ---- before that another may come

abbrev many : ℕ → ℕ → List ℕ
many x zero = []
many x (suc n) = x ∷ many x n

length-many : (x n : ℕ) → length (many x n) ≡ n
length-many x zero = refl
length-many x (suc n) = ap suc (length-many x n)

-- greater bytes come after
greater : (left : List ℕ) (x n : ℕ) → 0 < n → get_or left 0 0 < x → text_cmp left (many x n) ≡ Less
greater left x zero some lt = absurd (omega (arith, some))
greater [] x (suc n) some lt = refl
greater (y ∷ l) x (suc n) some lt = cmp_less y x l (many x n) lt

module _ (b a : Label) (n : ℕ) (lt : n < decided_at b a) where
  abbrev p : Parted b a
  p = parted b a

  within : n < length a
  within = omega (arith, lt)

  in_front : n ≤ length p.front
  in_front = omega (arith, lt, p.same)

  abbrev front : List ℕ
  front = take n p.front

  abbrev left : List ℕ
  left = drop n p.front ++ p.left

  begun_is : take n a ≡ front
  begun_is = ap (take n) p.begun ∙ take-append-le n p.front p.right in_front

  elder_is : b ≡ front ++ left
  elder_is = p.elder ∙ ap (λ l. l ++ p.left) (sym (take-append-drop n p.front)) ∙ append_assoc front (drop n p.front) p.left

  abbrev fill : List ℕ
  fill = many (suc (get_or left 0 0)) (length a - n)

  front_size : length front ≡ n
  front_size = length-take-le n p.front in_front

  fill_size : length fill ≡ length a - n
  fill_size = length-many (suc (get_or left 0 0)) (length a - n)

  other : (c : Label) × (length c ≡ length a) × (take n c ≡ take n a) × (comes_after (Some b) c ≡ true)
  other = (
    front ++ fill,
    length-append front fill ∙ omega (arith, front_size, fill_size, within),
    take_at front fill n front_size ∙ sym begun_is,
    ap is_lt (ap (λ l. text_cmp l (front ++ fill)) elder_is ∙ cmp_front front left fill ∙ greater left (suc (get_or left 0 0)) (length a - n) (omega (arith, within)) (omega arith)),
  )

pub judged_at_once : LabelsAreJudgedAtOnce
judged_at_once b a late =
    let e = late_early b a late in
    let k = decided_at b a in (
      λ c size same.
          (let whole : c ≡ take k a ++ drop k c = sym (take-append-drop k c) ∙ ap (λ l. l ++ drop k c) same in
          (e.early c (drop k c) size whole).0),
      λ n lt. other b a n lt,
    )
