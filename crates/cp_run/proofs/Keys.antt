-- Keys by bytes, in order.
use Rattle.std.proofs.Common.{◌≡◌, ◌∙◌, ap, sym, refl, inl, inr, true≢false, ℕ, List, true, false, is_le, is_lt, is_gt, Ordering, Less, Equal, Greater}
use Rattle.std.specs.Ordering.{ordering_reverse}
use Rattle.std.specs.Cmp.Lexicographic.{nat_list_cmp_total}
use Rattle.std.proofs.lemmas.Cmp.{upto, tied_itself}
use Rattle.cp_path.specs.Text.{text_cmp}
use Rattle.cp_page.proofs.Firsts.{case_of}

greater : (o : Ordering) → is_le o ≡ false → o ≡ Greater
greater Less h = cc
greater Equal h = cc
greater Greater h = refl

less : (o : Ordering) → is_lt o ≡ true → o ≡ Less
less Less h = refl
less Equal h = cc
less Greater h = cc

not_gt : (o : Ordering) → is_le o ≡ true → is_gt o ≡ false
not_gt Less h = refl
not_gt Equal h = refl
not_gt Greater h = cc

pub is_upto : (o : Ordering) → is_gt o ≡ false → is_le o ≡ true
is_upto Less h = refl
is_upto Equal h = refl
is_upto Greater h = cc

lt_le : (o : Ordering) → is_lt o ≡ true → is_le o ≡ true
lt_le Less h = refl
lt_le Equal h = cc
lt_le Greater h = cc

reverse_not_lt : (o : Ordering) → is_lt o ≡ false → is_le (ordering_reverse o) ≡ true
reverse_not_lt Less h = cc
reverse_not_lt Equal h = refl
reverse_not_lt Greater h = refl

pub le_itself : (a : List ℕ) → is_le (text_cmp a a) ≡ true
le_itself a = ap is_le (tied_itself nat_list_cmp_total a)

pub le_then : (a b c : List ℕ) → is_le (text_cmp a b) ≡ true → is_le (text_cmp b c) ≡ true → is_le (text_cmp a c) ≡ true
le_then a b c h k = is_upto (text_cmp a c) (upto nat_list_cmp_total a b c (not_gt (text_cmp a b) h) (not_gt (text_cmp b c) k))

pub below_le : (a b : List ℕ) → is_lt (text_cmp a b) ≡ true → is_le (text_cmp a b) ≡ true
below_le a b h = lt_le (text_cmp a b) h

-- where a key isn't below another, that one isn't above it
pub not_below : (a b : List ℕ) → is_lt (text_cmp a b) ≡ false → is_le (text_cmp b a) ≡ true
not_below a b h = ap is_le (nat_list_cmp_total.antisymm b a) ∙ reverse_not_lt (text_cmp a b) h

-- what is after a key that is above is above too
pub above_after : (key a b : List ℕ) → is_le (text_cmp a key) ≡ false → is_lt (text_cmp a b) ≡ true → is_le (text_cmp b key) ≡ false
above_after key a b above after =
    let k : text_cmp key a ≡ Less = nat_list_cmp_total.antisymm key a ∙ ap ordering_reverse (greater (text_cmp a key) above) in
    let on = nat_list_cmp_total.trans key a b k (less (text_cmp a b) after) in
    ap is_le (nat_list_cmp_total.antisymm b key ∙ ap ordering_reverse on)

-- what is above a key isn't below it
pub above_le : (key a : List ℕ) → is_le (text_cmp a key) ≡ false → is_le (text_cmp key a) ≡ true
above_le key a above = ap is_le (nat_list_cmp_total.antisymm key a ∙ ap ordering_reverse (greater (text_cmp a key) above))

le_not_gt : (o : Ordering) → is_le o ≡ false → is_gt o ≡ true
le_not_gt Less h = cc
le_not_gt Equal h = cc
le_not_gt Greater h = refl

gt_not_le : (o : Ordering) → is_gt o ≡ true → is_le o ≡ false
gt_not_le Less h = cc
gt_not_le Equal h = cc
gt_not_le Greater h = refl

pub above_gt : (a key : List ℕ) → is_le (text_cmp a key) ≡ false → is_gt (text_cmp a key) ≡ true
above_gt a key h = le_not_gt (text_cmp a key) h

pub gt_above : (a key : List ℕ) → is_gt (text_cmp a key) ≡ true → is_le (text_cmp a key) ≡ false
gt_above a key h = gt_not_le (text_cmp a key) h

pub below_then : (a b c : List ℕ) → is_lt (text_cmp a b) ≡ true → is_lt (text_cmp b c) ≡ true → is_lt (text_cmp a c) ≡ true
below_then a b c h k = ap is_lt (nat_list_cmp_total.trans a b c (less (text_cmp a b) h) (less (text_cmp b c) k))

reverse_lt : (o : Ordering) → is_lt o ≡ true → is_le (ordering_reverse o) ≡ false
reverse_lt Less h = refl
reverse_lt Equal h = cc
reverse_lt Greater h = cc

-- a key that is above isn't at or below
pub below_not_le : (a b : List ℕ) → is_lt (text_cmp a b) ≡ true → is_le (text_cmp b a) ≡ false
below_not_le a b h = ap is_le (nat_list_cmp_total.antisymm b a) ∙ reverse_lt (text_cmp a b) h

-- what is below a key is below what isn't below that key
pub le_below : (a b c : List ℕ) → is_lt (text_cmp a b) ≡ true → is_le (text_cmp b c) ≡ true → is_lt (text_cmp a c) ≡ true
le_below a b c h k = elim (case_of (is_lt (text_cmp a c))) [
  | inl is ↦ is
  | inr not ↦ absurd (true≢false (sym (le_then b c a k (not_below a c not)) ∙ below_not_le a b h))
]
