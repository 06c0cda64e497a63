-- Keys, and elements of lists.
use Rattle.std.proofs.Common.{arith, ◌≡◌, ◌∙◌, ◌⊎◌, inl, inr, ⊎_elim, ap, sym, refl, subst, ℕ, zero, suc, List, [], ◌∷◌, Bool, true, false, Ordering, Less, Equal, Greater, is_le, is_lt, Option, Some, map}
use Rattle.std.specs.List.{Contains, AllByRecursion, IsDistinct}
use Rattle.std.specs.Ordering.{ordering_reverse}
use Rattle.std.specs.Cmp.Lexicographic.{nat_list_cmp_total, bytes_decides}
use Rattle.std.proofs.lemmas.Map.Lookups.{exact_bytes}
use Rattle.cp_path.specs.Text.{text_cmp, text_eq}
use Rattle.cp_page.specs.declared.row.PageRow.{PageRow}
use Rattle.cp_page.specs.Spelled.{RiseAfter}

-- ---- elements

pub in_cons : {X : Type 0} (y : X) (ys : List X) (x : X) → Contains (y ∷ ys) x → (y ≡ x) ⊎ Contains ys x
in_cons y ys x (zero, l, is) = inl is
in_cons y ys x (suc i, l, is) = inr (i, omega (arith, l), is)

pub in_none : {X : Type 0} (x : X) → Contains [] x → ⊥
in_none x h = let l = h.1 in absurd (omega (arith, l))

pub at_first : {X : Type 0} (y : X) (ys : List X) → Contains (y ∷ ys) y
at_first y ys = (0, omega arith, refl)

pub after_first : {X : Type 0} (y : X) (ys : List X) (x : X) → Contains ys x → Contains (y ∷ ys) x
after_first y ys x h = let l = h.1 in (suc h.0, omega (arith, l), h.2)

pub all_in : {X : Type 0} (P : X → Type 0) (xs : List X) → ((x : X) → Contains xs x → P x) → AllByRecursion P xs
all_in P [] f = tt
all_in P (x ∷ xs) f = (f x (at_first x xs), all_in P xs (λ y h. f y (after_first x xs y h)))

pub in_all : {X : Type 0} (P : X → Type 0) (xs : List X) → AllByRecursion P xs → (x : X) → Contains xs x → P x
in_all P [] all x h = absurd (in_none x h)
in_all P (y ∷ ys) all x h = ⊎_elim (λ is. subst P is all.0) (λ on. in_all P ys all.1 x on) (in_cons y ys x h)

-- ---- keys

pub same_is : (x y : List ℕ) → text_eq x y ≡ true → x ≡ y
same_is x y h = (bytes_decides x y).0 h

pub is_same : (x : List ℕ) → text_eq x x ≡ true
is_same x = (bytes_decides x x).1 refl

pub equal_is : (x y : List ℕ) → text_cmp x y ≡ Equal → x ≡ y
equal_is x y h = exact_bytes x y h

not_less : (o : Ordering) → o ≡ ordering_reverse o → o ≡ Equal
not_less Less h = cc
not_less Equal h = refl
not_less Greater h = cc

pub is_equal : (x : List ℕ) → text_cmp x x ≡ Equal
is_equal x = not_less (text_cmp x x) (nat_list_cmp_total.antisymm x x)

pub less : (o : Ordering) → is_lt o ≡ true → o ≡ Less
less Less h = refl
less Equal h = cc
less Greater h = cc

pub lt_trans : (x y z : List ℕ) → is_lt (text_cmp x y) ≡ true → is_lt (text_cmp y z) ≡ true → is_lt (text_cmp x z) ≡ true
lt_trans x y z a b = ap is_lt (nat_list_cmp_total.trans x y z (less (text_cmp x y) a) (less (text_cmp y z) b))

pub lt_apart : (x y : List ℕ) → is_lt (text_cmp x y) ≡ true → x ≡ y → ⊥
lt_apart x y a is = let h : is_lt (text_cmp y y) ≡ true = subst (λ k. is_lt (text_cmp k y) ≡ true) is a in let e = ap is_lt (is_equal y) in cc

le_cases : (o : Ordering) → is_le o ≡ true → (o ≡ Less) ⊎ (o ≡ Equal)
le_cases Less h = inl refl
le_cases Equal h = inr refl
le_cases Greater h = cc

pub le_is : (x y : List ℕ) → is_le (text_cmp x y) ≡ true → (is_lt (text_cmp x y) ≡ true) ⊎ (x ≡ y)
le_is x y h = ⊎_elim (λ a. inl (ap is_lt a)) (λ e. inr (equal_is x y e)) (le_cases (text_cmp x y) h)

lt_le : (o : Ordering) → is_lt o ≡ true → is_le o ≡ true
lt_le Less h = refl
lt_le Equal h = cc
lt_le Greater h = cc

pub lt_is_le : (x y : List ℕ) → is_lt (text_cmp x y) ≡ true → is_le (text_cmp x y) ≡ true
lt_is_le x y h = lt_le (text_cmp x y) h

pub le_same : (x : List ℕ) → is_le (text_cmp x x) ≡ true
le_same x = ap is_le (is_equal x)

pub le_lt : (x y z : List ℕ) → is_le (text_cmp x y) ≡ true → is_lt (text_cmp y z) ≡ true → is_lt (text_cmp x z) ≡ true
le_lt x y z a b = ⊎_elim (λ l. lt_trans x y z l b) (λ e. subst (λ k. is_lt (text_cmp k z) ≡ true) (sym e) b) (le_is x y a)

pub le_trans : (x y z : List ℕ) → is_le (text_cmp x y) ≡ true → is_le (text_cmp y z) ≡ true → is_le (text_cmp x z) ≡ true
le_trans x y z a b = ⊎_elim (λ l. lt_is_le x z (le_lt x y z a l)) (λ e. subst (λ k. is_le (text_cmp x k) ≡ true) e a) (le_is y z b)

-- the two rows have the same key
abbrev pub has_key_of : PageRow → PageRow → Bool
has_key_of q r = text_eq q.key r.key

all_keys : (r : PageRow) (rows : List PageRow) → AllByRecursion (λ y. has_key_of r y ≡ false) rows → AllByRecursion (λ y. text_eq r.key y ≡ false) (map (λ r. r.key) rows)
all_keys r [] all = tt
all_keys r (q ∷ rows) all = (all.0, all_keys r rows all.1)

all_rows_of : (r : PageRow) (rows : List PageRow) → AllByRecursion (λ y. text_eq r.key y ≡ false) (map (λ r. r.key) rows) → AllByRecursion (λ y. has_key_of r y ≡ false) rows
all_rows_of r [] all = tt
all_rows_of r (q ∷ rows) all = (all.0, all_rows_of r rows all.1)

pub keys_distinct : (rows : List PageRow) → IsDistinct has_key_of rows → IsDistinct text_eq (map (λ r. r.key) rows)
unfolding IsDistinct
keys_distinct [] once = tt
keys_distinct (r ∷ rows) once = (all_keys r rows once.0, keys_distinct rows once.1)

pub rows_distinct : (rows : List PageRow) → IsDistinct text_eq (map (λ r. r.key) rows) → IsDistinct has_key_of rows
unfolding IsDistinct
rows_distinct [] once = tt
rows_distinct (r ∷ rows) once = (all_rows_of r rows once.0, rows_distinct rows once.1)

-- ---- rows that rise

-- a row is after the key that is given, if one is
pub rise_in : (k : List ℕ) (rows : List PageRow) (r : PageRow) → RiseAfter (Some k) rows → Contains rows r → is_lt (text_cmp k r.key) ≡ true
rise_in k [] r rise h = absurd (in_none r h)
rise_in k (q ∷ rows) r rise h = ⊎_elim (λ is. subst (λ s. is_lt (text_cmp k s.key) ≡ true) is rise.0) (λ on. lt_trans k q.key r.key rise.0 (rise_in q.key rows r rise.1 on)) (in_cons q rows r h)

bool_of : (b : Bool) → (b ≡ true → ⊥) → b ≡ false
bool_of true f = absurd (f refl)
bool_of false f = refl

pub apart_eq : (x y : List ℕ) → (x ≡ y → ⊥) → text_eq x y ≡ false
apart_eq x y f = bool_of (text_eq x y) (λ h. f (same_is x y h))

pub rise_distinct : (before : Option (List ℕ)) (rows : List PageRow) → RiseAfter before rows → IsDistinct has_key_of rows
unfolding IsDistinct
rise_distinct before [] rise = tt
rise_distinct before (r ∷ rows) rise = (all_in (λ y. has_key_of r y ≡ false) rows (λ y h. apart_eq r.key y.key (lt_apart r.key y.key (rise_in r.key rows y rise.1 h))), rise_distinct (Some r.key) rows rise.1)

true_false : (b : Bool) → b ≡ true → b ≡ false → ⊥
true_false b h k = cc

-- two rows of one key are one row
pub one_of_key : (rows : List PageRow) → IsDistinct has_key_of rows → (a b : PageRow) → Contains rows a → Contains rows b → a.key ≡ b.key → a ≡ b
unfolding IsDistinct
one_of_key [] once a b ha hb is = absurd (in_none a ha)
one_of_key (r ∷ rows) once a b ha hb is =
    let differ : (x y : PageRow) → r ≡ x → Contains rows y → x.key ≡ y.key → ⊥ = λ x y e h k.
    true_false (has_key_of r y) (subst (λ q. text_eq r.key q ≡ true) (ap (λ q. q.key) e ∙ k) (is_same r.key)) (in_all (λ z. has_key_of r z ≡ false) rows once.0 y h) in
    ⊎_elim
    (λ ea. ⊎_elim (λ eb. sym ea ∙ eb) (λ ib. absurd (differ a b ea ib is)) (in_cons r rows b hb))
    (λ ia. ⊎_elim (λ eb. absurd (differ b a eb ia (sym is))) (λ ib. one_of_key rows once.1 a b ia ib is) (in_cons r rows b hb))
    (in_cons r rows a ha)
