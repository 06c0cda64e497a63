-- Siblings that are halved: the lists, and the heights.
use Rattle.std.proofs.Common.{◌≡◌, ℕ, zero, suc, ◌+◌, ◌*◌, ◌^◌, ◌≤◌, ◌<◌, max, List, [], ◌∷◌, ◌++◌, length, refl, sym, ap, subst, ◌∙◌, append_assoc, append-nil, length-append, arith, inl, inr, Result, Ok, Err, IfOk}
use Rattle.std.proofs.lemmas.Bool.{cases_lt}
use Rattle.std.proofs.lemmas.Grind.{pow_more}
use Rattle.std.proofs.lemmas.Nat.{pow_pos}
use Rattle.std.proofs.Math.Nat.{pow-le-pow_right, pow-suc}
use Rattle.cp_model.specs.Place.{Label}
use Rattle.cp_model.specs.Tree.{Tree}
use Rattle.cp_tree.specs.Sums.{AreChildren}
use Rattle.cp_tree.proofs.SumsLemmas.{children_front, children_back}
use Rattle.cp_tree_share.specs.Siblings.{Edges, Near}
use Rattle.cp_tree_share.specs.Reading.{HaveSiblings, AreTaken, IsLow}

-- ---- lists

-- two lists that are the same with an element after each
pub ends : {A : Type 0} (xs ys : List A) (x y : A) → xs ++ x ∷ [] ≡ ys ++ y ∷ [] → (xs ≡ ys) × (x ≡ y)
ends [] [] x y e = (refl, cc)
ends [] (b ∷ []) x y e = absurd (cc)
ends [] (b ∷ c ∷ ys) x y e = absurd (cc)
ends (a ∷ []) [] x y e = absurd (cc)
ends (a ∷ c ∷ xs) [] x y e = absurd (cc)
ends (a ∷ xs) (b ∷ ys) x y e = let h : a ≡ b = cc in let t : xs ++ x ∷ [] ≡ ys ++ y ∷ [] = cc in let i = ends xs ys x y t in let j = i.0 in (cc, i.1)

-- siblings before one, it, and those after it
record IsHalved (i : ℕ) (es : Edges) : Type 0 where
  left : Edges
  middle : Label × Tree
  right : Edges
  parts : es ≡ left ++ middle ∷ right
  counted : length left ≡ i

halved : (i : ℕ) (es : Edges) → i < length es → IsHalved i es
halved zero [] h = absurd (omega arith)
halved zero (e ∷ es) h = record { left = []; middle = e; right = es; parts = refl; counted = refl }
halved (suc i) [] h = absurd (omega arith)
halved (suc i) (e ∷ es) h = let r = halved i es (omega (arith, h)) in record { left = e ∷ r.left; middle = r.middle; right = r.right; parts = ap (λ z. e ∷ z) r.parts; counted = ap suc r.counted }

-- the last n of the items are i siblings, one, and k siblings
module _ (n i k : ℕ) (count : n ≡ i + k + 1) (items front siblings : Edges) (parts : items ≡ front ++ siblings) (counted : length siblings ≡ n) where
  half : IsHalved i siblings
  half = halved i siblings (omega (arith, count, counted))

  right_counted : length half.right ≡ k
  right_counted = omega (arith, count, counted, ap length half.parts, length-append half.left (half.middle ∷ half.right), half.counted)

  in_parts : items ≡ ((front ++ half.left) ++ half.middle ∷ []) ++ half.right
  in_parts =
      parts ∙ ap (λ z. front ++ z) half.parts ∙ sym (append_assoc front half.left (half.middle ∷ half.right))
      ∙ sym (append_assoc (front ++ half.left) (half.middle ∷ []) half.right)

  pub right_siblings : AreChildren siblings → HaveSiblings k items
  right_siblings c = record {
    front = (front ++ half.left) ++ half.middle ∷ [];
    siblings = half.right;
    parts = in_parts;
    counted = right_counted;
    children = children_back (half.middle ∷ []) half.right (children_back half.left (half.middle ∷ half.right) (subst AreChildren half.parts c));
  }

  module _ (right rest : Edges) (take : AreTaken k items right rest) where
    right_is : (right ≡ half.right) × (rest ≡ (front ++ half.left) ++ half.middle ∷ [])
    right_is = take ((front ++ half.left) ++ half.middle ∷ []) half.right in_parts right_counted

    pub some_left : 0 < length rest
    some_left = omega (arith, ap length right_is.1, length-append (front ++ half.left) (half.middle ∷ []))

    module _ (middle : Label × Tree) (others : Edges) (pop : rest ≡ others ++ middle ∷ []) where
      middle_is : (others ≡ front ++ half.left) × (middle ≡ half.middle)
      middle_is = ends others (front ++ half.left) middle half.middle (sym pop ∙ right_is.1)

      pub left_siblings : AreChildren siblings → HaveSiblings i others
      left_siblings c = record {
        front = front;
        siblings = half.left;
        parts = middle_is.0;
        counted = half.counted;
        children = children_front half.left (half.middle ∷ half.right) (subst AreChildren half.parts c);
      }

      module _ (left last : Edges) (take_left : AreTaken i others left last) where
        left_is : (left ≡ half.left) × (last ≡ front)
        left_is = take_left front half.left middle_is.0 half.counted

        pub all_is : (left ++ middle ∷ right ≡ siblings) × (last ≡ front)
        all_is = (ap (λ z. z ++ middle ∷ right) left_is.0 ∙ ap (λ z. half.left ++ z ∷ right) middle_is.1 ∙ ap (λ z. half.left ++ half.middle ∷ z) right_is.0 ∙ sym half.parts, left_is.1)

-- no siblings
pub none_taken : (items : Edges) → AreTaken 0 items [] items
none_taken items front [] e n = (refl, e ∙ append-nil front)
none_taken items front (x ∷ siblings) e n = absurd (omega (arith, n))

-- ---- heights

pub low_none : IsLow 0 0
low_none = record { enough = omega arith; least = omega arith }

-- of two halves that differ by one at most
module _ (l r hl hr : ℕ) (le : r ≤ l) (ge : l ≤ r + 1) (low_l : IsLow l hl) (low_r : IsLow r hr) where
  left_near : hl ≤ hr + 1
  left_near = elim (cases_lt (hr + 1) hl) [
    | inl lt ↦ absurd (let far : 2 ^ ((hr + 1) + 1) ≤ 2 ^ hl = pow-le-pow_right (omega arith) (omega (arith, lt)) in omega (arith, far, pow_more 2 (hr + 1), pow_more 2 hr, low_l.least, low_r.enough, ge, pow_pos hr))
    | inr h ↦ h
  ]

  pub right_near : hr ≤ hl
  right_near = elim (cases_lt hl hr) [
    | inl lt ↦ absurd (let far : 2 ^ (hl + 1) ≤ 2 ^ hr = pow-le-pow_right (omega arith) (omega (arith, lt)) in omega (arith, far, pow_more 2 hl, low_r.least, low_l.enough, le))
    | inr h ↦ h
  ]

  pub near : Near 1 hl hr
  near = (left_near, omega (arith, right_near))

  low_one : IsLow (l + r + 1) (hl + 1)
  low_one = by hl refl
    where
      by : (h : ℕ) → hl ≡ h → IsLow (l + r + 1) (hl + 1)
      by zero e = (let two = pow_more 2 hl ∙ ap (λ z. 2 ^ z * 2) e in let one = ap (λ z. 2 ^ z) e in record { enough = omega (arith, two, low_l.enough, one, le); least = omega (arith, two) })
      by (suc h) e = (let two = pow_more 2 hl in let one = ap (λ z. 2 ^ z) e ∙ pow-suc 2 h in record { enough = omega (arith, two, low_l.enough, le); least = omega (arith, two, one, low_l.least, le, ge) })

  pub low_more : (n h : ℕ) → n ≡ l + r + 1 → h ≡ max hl hr + 1 → IsLow n h
  low_more n h e f = subst (λ z. IsLow z h) (sym e) (subst (IsLow (l + r + 1)) (sym (f ∙ omega (arith, right_near))) low_one)

-- ---- what is made of them

-- siblings put beside each other are those that were to be taken
pub forked : {E : Type 0} (n : ℕ) (made : Result (Edges × ℕ) E) (items edges last : Edges) (h : ℕ) → AreTaken n items edges last → IfOk made (λ t. t ≡ (edges, h)) → IfOk made (λ t. AreTaken n items t.0 last)
forked n (Ok t) items edges last h a e = λ front siblings parts counted. (let x = a front siblings parts counted in (ap (λ z. z.0) e ∙ x.0, x.1))
forked n (Err y) items edges last h a e = tt

pub forked_low : {E : Type 0} (n : ℕ) (made : Result (Edges × ℕ) E) (edges : Edges) (h : ℕ) → IsLow n h → IfOk made (λ t. t ≡ (edges, h)) → IfOk made (λ t. IsLow n t.1)
forked_low n (Ok t) edges h a e = subst (IsLow n) (sym (ap (λ z. z.1) e)) a
forked_low n (Err y) edges h a e = tt
