-- The parts of a sum over the places below one.
use Rattle.std.proofs.Common.{arith, ◌≡◌, ◌≤◌, ◌+◌, ◌∙◌, inl, inr, sym, refl, subst, ℕ, List, [], ◌∷◌, true, false, true≢false}
use Rattle.std.specs.List.{list_any}
use Rattle.std.specs.Cmp.Lexicographic.{bytes_decides}
use Rattle.cp_model.specs.Place.{Label, Path, child, label_eq, path_eq, starts_with}
use Rattle.cp_store.proofs.RowsTold.{case_of, itself}
use Rattle.cp_query.specs.Bounds.{only_if, sum_below}

-- what a cost sums up to over those of these places that are p itself
abbrev pub sum_at : (Path → ℕ) → Path → List Path → ℕ
sum_at cost p [] = 0
sum_at cost p (r ∷ rs) = only_if (path_eq r p) (cost r) + sum_at cost p rs

-- over those at or below a child of p, by the labels of the children
abbrev pub sum_children : (Path → ℕ) → Path → List Label → List Path → ℕ
sum_children cost p [] rs = 0
sum_children cost p (a ∷ ls) rs = sum_below cost (child p a) rs + sum_children cost p ls rs

-- no label is among those that follow it
abbrev pub DifferAll : List Label → Type 0
DifferAll [] = Unit {0}
DifferAll (a ∷ ls) = (list_any (label_eq a) ls ≡ false) × DifferAll ls

-- a number for each of these children at or below which a place lies
abbrev kids : ℕ → Path → List Label → Path → ℕ
kids n p [] r = 0
kids n p (a ∷ ls) r = only_if (starts_with r (child p a)) n + kids n p ls r

split_first : (cost : Path → ℕ) (p : Path) (ls : List Label) (r : Path) (rs : List Path) → sum_children cost p ls (r ∷ rs) ≡ kids (cost r) p ls r + sum_children cost p ls rs
split_first cost p [] r rs = refl
split_first cost p (a ∷ ls) r rs = let h = split_first cost p ls r rs in omega (arith, h)

none_none : (cost : Path → ℕ) (p : Path) (ls : List Label) → sum_children cost p ls [] ≡ 0
none_none cost p [] = refl
none_none cost p (a ∷ ls) = let h = none_none cost p ls in omega (arith, h)

-- the root is below no child
root_alone : (n : ℕ) (p : Path) (ls : List Label) → kids n p ls [] ≡ 0
root_alone n [] [] = refl
root_alone n [] (a ∷ ls) = let h = root_alone n [] ls in omega (arith, h)
root_alone n (c ∷ p) [] = refl
root_alone n (c ∷ p) (a ∷ ls) = let h = root_alone n (c ∷ p) ls in omega (arith, h)

same_bytes : (a b : Label) → label_eq a b ≡ true → a ≡ b
same_bytes a b h = (bytes_decides a b).0 h

-- where none of the labels is the first, the place is below none of them
no_kid : (n : ℕ) (b : Label) (r : Path) (ls : List Label) → list_any (label_eq b) ls ≡ false → kids n [] ls (b ∷ r) ≡ 0
no_kid n b r [] h = refl
no_kid n b r (a ∷ ls) h = elim (case_of (label_eq a b)) [
  | inl same ↦ absurd (true≢false (sym (subst (λ c. list_any (label_eq b) (c ∷ ls) ≡ true) (sym (same_bytes a b same)) (rw (itself b))) ∙ h))
  | inr other ↦ rw other (elim (case_of (label_eq b a)) [
    | inl same ↦ absurd (true≢false (rw same at h))
    | inr off ↦ let k = no_kid n b r ls (rw off at h) in omega (arith, k)
  ])
]

one_kid : (n : ℕ) (b : Label) (r : Path) (ls : List Label) → DifferAll ls → kids n [] ls (b ∷ r) ≤ n
one_kid n b r [] differ = omega arith
one_kid n b r (a ∷ ls) differ = elim (case_of (label_eq a b)) [
  | inl same ↦ let k = no_kid n b r ls (subst (λ c. list_any (label_eq c) ls ≡ false) (same_bytes a b same) differ.0) in rw same (omega (arith, k))
  | inr other ↦ let k = one_kid n b r ls differ.1 in rw other (omega (arith, k))
]

kids_off : (n : ℕ) (c b : Label) (p r : Path) (ls : List Label) → label_eq c b ≡ false → kids n (c ∷ p) ls (b ∷ r) ≡ 0
kids_off n c b p r [] off = refl
kids_off n c b p r (a ∷ ls) off = let k = kids_off n c b p r ls off in rw off (omega (arith, k))

kids_on : (n : ℕ) (c b : Label) (p r : Path) (ls : List Label) → label_eq c b ≡ true → kids n (c ∷ p) ls (b ∷ r) ≡ kids n p ls r
kids_on n c b p r [] on = refl
kids_on n c b p r (a ∷ ls) on = let k = kids_on n c b p r ls on in rw on (omega (arith, k))

-- each place counts once at most
counts_once : (n : ℕ) (p : Path) (ls : List Label) (r : Path) → DifferAll ls → only_if (path_eq r p) n + kids n p ls r ≤ only_if (starts_with r p) n
counts_once n [] ls [] differ = let k = root_alone n [] ls in omega (arith, k)
counts_once n [] ls (b ∷ r) differ = let k = one_kid n b r ls differ in omega (arith, k)
counts_once n (c ∷ p) ls [] differ = let k = root_alone n (c ∷ p) ls in omega (arith, k)
counts_once n (c ∷ p) ls (b ∷ r) differ = elim (case_of (label_eq c b)) [
  | inl same ↦ let back : label_eq b c ≡ true = subst (λ d. label_eq d c ≡ true) (same_bytes c b same) (itself c) in let k = kids_on n c b p r ls same in let h = counts_once n p ls r differ in rw (back, same) (omega (arith, k, h))
  | inr off ↦ let k = kids_off n c b p r ls off in elim (case_of (label_eq b c)) [
    | inl same ↦ absurd (true≢false (sym (subst (λ d. label_eq d b ≡ true) (same_bytes b c same) (itself b)) ∙ off))
    | inr back ↦ rw (back, off) (omega (arith, k))
  ]
]

-- the place itself and the places of its children, each with those below it, make up no more than the place with those below it
pub children-add-up : (cost : Path → ℕ) (p : Path) (ls : List Label) (rs : List Path) → DifferAll ls → sum_at cost p rs + sum_children cost p ls rs ≤ sum_below cost p rs
children-add-up cost p ls [] differ = let h = none_none cost p ls in omega (arith, h)
children-add-up cost p ls (r ∷ rs) differ =
    let first = split_first cost p ls r rs in
    let here = counts_once (cost r) p ls r differ in
    let on = children-add-up cost p ls rs differ in
    omega (arith, first, here, on)
