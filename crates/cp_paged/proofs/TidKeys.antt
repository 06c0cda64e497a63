-- The order of keys of a place and a step is that of places, and of steps at one place.
use Rattle.std.proofs.Common.{ℕ, suc, zero, ◌/◌, ◌%◌, ◌^◌, ◌<◌, ◌≡◌, ◌⊎◌, inl, inr, refl, sym, ap, ◌∙◌, arith, Ordering, Less, Equal, Greater, nat_cmp}
use Rattle.std.proofs.Math.Nat.{pow-suc}
use native.Mathlib.Nat as nat
use Rattle.std.specs.Int.{to_be_bytes, w64, byte_at, bytes_high_first}
use Rattle.std.specs.Ordering.{ordering_then}
use Rattle.cp_path.specs.Text.{text_cmp}
use Rattle.cp_model.specs.Place.{Path, path_cmp, at_target}
use Rattle.cp_page.proofs.KeyOrder.{path_keys_keep_order}
use Rattle.cp_page.specs.Orders.{place_tid}

then_assoc : (a b c : Ordering) → ordering_then (ordering_then a b) c ≡ ordering_then a (ordering_then b c)
then_assoc Less b c = refl
then_assoc Equal b c = refl
then_assoc Greater b c = refl

cmp_less : (x y : ℕ) → x < y → nat_cmp x y ≡ Less
cmp_less x y h = grind (arith, h)

cmp_same : (x y : ℕ) → x ≡ y → nat_cmp x y ≡ Equal
cmp_same x y h = grind (arith, h)

cmp_greater : (x y : ℕ) → y < x → nat_cmp x y ≡ Greater
cmp_greater x y h = grind (arith, h)

three : (x y : ℕ) → (x < y) ⊎ ((x ≡ y) ⊎ (y < x))
three x y = grind arith

-- numbers compare by what is before their last byte, and then by that byte
byte_step : (a b : ℕ) → nat_cmp a b ≡ ordering_then (nat_cmp (a / 256) (b / 256)) (nat_cmp (a % 256) (b % 256))
byte_step a b = elim (three (a / 256) (b / 256)) [
  | inl less ↦ rw (cmp_less a b (omega (arith, less)), cmp_less (a / 256) (b / 256) less) refl
  | inr (inr more) ↦ rw (cmp_greater a b (omega (arith, more)), cmp_greater (a / 256) (b / 256) more) refl
  | inr (inl same) ↦ elim (three (a % 256) (b % 256)) [
    | inl less ↦ rw (cmp_same (a / 256) (b / 256) same, cmp_less a b (omega (arith, same, less)), cmp_less (a % 256) (b % 256) less) refl
    | inr (inr more) ↦ rw (cmp_same (a / 256) (b / 256) same, cmp_greater a b (omega (arith, same, more)), cmp_greater (a % 256) (b % 256) more) refl
    | inr (inl rest) ↦ rw (cmp_same (a / 256) (b / 256) same, cmp_same a b (omega (arith, same, rest)), cmp_same (a % 256) (b % 256) rest) refl
  ]
]

byte_is : (k n : ℕ) → byte_at k n ≡ n / 256 ^ k % 256
byte_is zero n = omega arith
byte_is (suc k) n = refl

less_one : (k n : ℕ) → n / 256 ^ k / 256 ≡ n / 256 ^ suc k
less_one k n = nat.div-div-eq-div-mul n (256 ^ k) 256 ∙ ap (λ m. n / m) (sym (pow-suc 256 k))

then_equal : (o : Ordering) → ordering_then o Equal ≡ o
then_equal Less = refl
then_equal Equal = refl
then_equal Greater = refl

bytes_step : (k u v : ℕ) → ordering_then (nat_cmp (u / 256 ^ k) (v / 256 ^ k)) (text_cmp (bytes_high_first k u) (bytes_high_first k v)) ≡ nat_cmp u v
bytes_step zero u v =
    let a : u / 256 ^ 0 ≡ u = omega arith in
    let b : v / 256 ^ 0 ≡ v = omega arith in
    rw (a, b) (then_equal (nat_cmp u v))
bytes_step (suc k) u v =
    let C = text_cmp (bytes_high_first k u) (bytes_high_first k v) in
    ap (λ o. ordering_then (nat_cmp (u / 256 ^ suc k) (v / 256 ^ suc k)) (ordering_then o C)) (ap (λ x. nat_cmp x (byte_at k v)) (byte_is k u) ∙ ap (nat_cmp (u / 256 ^ k % 256)) (byte_is k v))
    ∙ sym (then_assoc (nat_cmp (u / 256 ^ suc k) (v / 256 ^ suc k)) (nat_cmp (u / 256 ^ k % 256) (v / 256 ^ k % 256)) C)
    ∙ ap (λ o. ordering_then (ordering_then o (nat_cmp (u / 256 ^ k % 256) (v / 256 ^ k % 256))) C) (ap (λ x. nat_cmp x (v / 256 ^ suc k)) (sym (less_one k u)) ∙ ap (nat_cmp (u / 256 ^ k / 256)) (sym (less_one k v)))
    ∙ ap (λ o. ordering_then o C) (sym (byte_step (u / 256 ^ k) (v / 256 ^ k)))
    ∙ bytes_step k u v

-- the bytes of Tids compare as the Tids
pub tids-order : (u v : ℕ) → u < 2 ^ 64 → v < 2 ^ 64 → text_cmp (to_be_bytes w64 u) (to_be_bytes w64 v) ≡ nat_cmp u v
tids-order u v a b =
    let x : u / 256 ^ 8 ≡ 0 = omega (arith, a) in
    let y : v / 256 ^ 8 ≡ 0 = omega (arith, b) in
    let top : nat_cmp (u / 256 ^ 8) (v / 256 ^ 8) ≡ Equal = cmp_same (u / 256 ^ 8) (v / 256 ^ 8) (x ∙ sym y) in
    sym (ap (λ o. ordering_then o (text_cmp (bytes_high_first 8 u) (bytes_high_first 8 v))) top) ∙ bytes_step 8 u v

-- keys of places of T and of steps compare by the places, and then by the steps
pub keys-order : (p q : Path) (u v : ℕ) → u < 2 ^ 64 → v < 2 ^ 64 → text_cmp (place_tid (at_target p) u) (place_tid (at_target q) v) ≡ ordering_then (path_cmp p q) (nat_cmp u v)
keys-order p q u v a b = path_keys_keep_order p q (to_be_bytes w64 u) (to_be_bytes w64 v) ∙ ap (ordering_then (path_cmp p q)) (tids-order u v a b)
