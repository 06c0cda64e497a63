-- The order of paths, from their labels.
use Rattle.std.proofs.Common.{◌≡◌, ℕ, ◌+◌, ◌<◌, ◌⊎◌, true, false, List, [], ◌∷◌, ◌++◌, inl, inr, refl, sym, ap, subst, ◌∙◌, length, length-append, arith}
use Rattle.std.specs.Cmp.{nat_cmp_is}
use Rattle.std.specs.Ordering.{is_eq, nat_cmp, ordering_then}
use Rattle.std.specs.declared.cmp.Ordering.{Ordering}
use Rattle.std.specs.declared.cmp.Ordering.TheVariants.{Less, Equal, Greater}
use Rattle.std.specs.List.{flat_map}
use Rattle.cp_path.specs.Encoding.{counted_bytes}
use Rattle.cp_path.specs.Place.{Path, path_cmp}
use Rattle.cp_path.specs.Text.{text_cmp}
use Rattle.cp_record.specs.Kept.{AreCounted, BeginsWith, IsAny}

-- whatever the paths are, what is left of both compares as they do
pub record SameOrder (one other left right : List ℕ) : Type 0 where
  pub left_counted : AreCounted left
  pub right_counted : AreCounted right
  pub same : (p q : Path) → one ≡ flat_map counted_bytes p → other ≡ flat_map counted_bytes q
      → (x y : Path) × (left ≡ flat_map counted_bytes x) × (right ≡ flat_map counted_bytes y) × (path_cmp p q ≡ path_cmp x y)

-- what is left of some labels begins with one
pub counted-begins : (left : List ℕ) → 0 < length left → AreCounted left → BeginsWith counted_bytes IsAny left
counted-begins left some ([], e) = let none : length left ≡ 0 = ap length e in absurd (omega (arith, some, none))
counted-begins left some (a ∷ p, e) = record { first = a; fit = tt; rest = flat_map counted_bytes p; is = e }

module _ (left label behind : List ℕ) (some : 0 < length left) (front : (xs rest : List ℕ) → left ≡ counted_bytes xs ++ rest → (label ≡ xs) × (behind ≡ rest)) where
  -- what follows a label is less
  pub counted-smaller : AreCounted left → length behind < length left
  counted-smaller h =
      let b = counted-begins left some h in
      let size : length left ≡ length (counted_bytes b.first) + length b.rest = ap length b.is ∙ length-append (counted_bytes b.first) b.rest in
      let same : length behind ≡ length b.rest = ap length (front b.first b.rest b.is).1 in
      omega (arith, size, same)

  -- and is labels
  pub counted-after : AreCounted left → AreCounted behind
  counted-after ([], e) = let none : length left ≡ 0 = ap length e in absurd (omega (arith, some, none))
  counted-after (a ∷ p, e) = (p, (front a (flat_map counted_bytes p) e).1)

-- labels that are none or more than none compare as their numbers of bytes, where one of them is none
counted-order : (x y : Path) → ((length (flat_map counted_bytes x) ≡ 0) ⊎ (length (flat_map counted_bytes y) ≡ 0)) → nat_cmp (length (flat_map counted_bytes x)) (length (flat_map counted_bytes y)) ≡ path_cmp x y
counted-order [] [] h = sym (nat_cmp_is 0 0 Equal refl)
counted-order [] (b ∷ y) h = sym (nat_cmp_is 0 (length (flat_map counted_bytes (b ∷ y))) Less (omega arith))
counted-order (a ∷ x) [] h = sym (nat_cmp_is (length (flat_map counted_bytes (a ∷ x))) 0 Greater (omega arith))
counted-order (a ∷ x) (b ∷ y) (inl e) = absurd (omega (arith, e))
counted-order (a ∷ x) (b ∷ y) (inr e) = absurd (omega (arith, e))

module _ (one other left right : List ℕ) (s : SameOrder one other left right) where
  -- nothing is left of one of the two
  pub order-ended : ((length left ≡ 0) ⊎ (length right ≡ 0)) → (r : Ordering) → r ≡ nat_cmp (length left) (length right) → (p q : Path) → one ≡ flat_map counted_bytes p → other ≡ flat_map counted_bytes q → r ≡ path_cmp p q
  order-ended h r is p q e f =
      let z = s.same p q e f in
      let none : (length (flat_map counted_bytes z.0) ≡ 0) ⊎ (length (flat_map counted_bytes z.1) ≡ 0) = subst (λ (l : List ℕ). (length l ≡ 0) ⊎ (length (flat_map counted_bytes z.1) ≡ 0)) z.2 (subst (λ (l : List ℕ). (length left ≡ 0) ⊎ (length l ≡ 0)) z.3 h) in
      is ∙ ap (λ (l : List ℕ). nat_cmp (length l) (length right)) z.2 ∙ ap (λ (l : List ℕ). nat_cmp (length (flat_map counted_bytes z.0)) (length l)) z.3 ∙ counted-order z.0 z.1 none ∙ sym z.4

  module _ (some : 0 < length left) (more : 0 < length right) (label behind there beyond : List ℕ)
      (front : (xs rest : List ℕ) → left ≡ counted_bytes xs ++ rest → (label ≡ xs) × (behind ≡ rest))
      (other_front : (xs rest : List ℕ) → right ≡ counted_bytes xs ++ rest → (there ≡ xs) × (beyond ≡ rest)) where
    -- the first labels decide, or what follows them
    abbrev Decided : Path → Path → Type 0
    Decided p q = (x y : Path) × (behind ≡ flat_map counted_bytes x) × (beyond ≡ flat_map counted_bytes y) × (path_cmp p q ≡ ordering_then (text_cmp label there) (path_cmp x y))

    decided : (p q x y : Path) → left ≡ flat_map counted_bytes x → right ≡ flat_map counted_bytes y → path_cmp p q ≡ path_cmp x y → Decided p q
    decided p q [] y e f g = let none : length left ≡ 0 = ap length e in absurd (omega (arith, some, none))
    decided p q (a ∷ x) [] e f g = let none : length right ≡ 0 = ap length f in absurd (omega (arith, more, none))
    decided p q (a ∷ x) (b ∷ y) e f g =
        let l = front a (flat_map counted_bytes x) e in
        let m = other_front b (flat_map counted_bytes y) f in
        (x, y, l.1, m.1, g ∙ ap (λ (c : List ℕ). ordering_then (text_cmp c b) (path_cmp x y)) (sym l.0) ∙ ap (λ (c : List ℕ). ordering_then (text_cmp label c) (path_cmp x y)) (sym m.0))

    decided-at : (p q : Path) → one ≡ flat_map counted_bytes p → other ≡ flat_map counted_bytes q → Decided p q
    decided-at p q e f = let z = s.same p q e f in decided p q z.0 z.1 z.2 z.3 z.4

    differs : (o r : Ordering) → is_eq o ≡ false → o ≡ ordering_then o r
    differs Less r h = refl
    differs Equal r h = absurd (cc)
    differs Greater r h = refl

    agrees : (o r : Ordering) → is_eq o ≡ true → ordering_then o r ≡ r
    agrees Less r h = absurd (cc)
    agrees Equal r h = refl
    agrees Greater r h = absurd (cc)

    -- two labels differ
    pub order-differs : (o : Ordering) → o ≡ text_cmp label there → is_eq o ≡ false → (p q : Path) → one ≡ flat_map counted_bytes p → other ≡ flat_map counted_bytes q → o ≡ path_cmp p q
    order-differs o is h p q e f =
        let z = decided-at p q e f in
        differs o (path_cmp z.0 z.1) h ∙ ap (λ (c : Ordering). ordering_then c (path_cmp z.0 z.1)) is ∙ sym z.4

    -- two labels are the same
    pub order-agrees : (o : Ordering) → o ≡ text_cmp label there → is_eq o ≡ true → SameOrder one other behind beyond
    order-agrees o is h = record {
      left_counted = counted-after left label behind some front s.left_counted;
      right_counted = counted-after right there beyond more other_front s.right_counted;
      same = λ p q e f.
          let z = decided-at p q e f in
          (z.0, z.1, z.2, z.3, z.4 ∙ ap (λ (c : Ordering). ordering_then c (path_cmp z.0 z.1)) (sym is) ∙ agrees o (path_cmp z.0 z.1) h);
    }
