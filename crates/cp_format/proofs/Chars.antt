-- The bytes of one character in UTF-8, and which bytes begin some.
use Rattle.std.proofs.Common.{◌≡◌, ℕ, ◌+◌, ◌-◌, ◌*◌, ◌/◌, ◌%◌, ◌<◌, ◌≤◌, Bool, true, false, ◌&&◌, List, [], ◌∷◌, ◌++◌, ◌⊎◌, inl, inr, refl, sym, ap, ◌∙◌, subst, length, length-append, take, arith, IsUtf8}
use Rattle.std.proofs.lemmas.Bool.{cases_lt, cases_eq}
use Rattle.std.proofs.lemmas.Bool.Decides.{nat_tests}
use Rattle.std.proofs.lemmas.Str.{IsUtf8-encode, IsUtf8-drop, IsCharBoundary-from_take}
use Rattle.std.proofs.lemmas.List.{take_at, drop_at}
use Rattle.std.proofs.Math.Utf8.{encode, encodes, scalar, scalars, scalar_cases, low_scalar}
use Rattle.std.specs.Str.Lossy.{second_byte_min, second_byte_max}
use Rattle.cp_format.specs.Chars.{Follows, IsSecond, IsChar}

-- ---- the characters of the numbers

low_part : (x y : ℕ) → 128 ≤ y → (x ≡ 224 → 160 ≤ y) → (x ≡ 240 → 144 ≤ y) → second_byte_min x ≤ y
low_part x y l a b =
    elim (cases_eq x 224) [
      | inl e ↦ let h = a e in grind (arith, nat_tests)
      | inr n ↦ elim (cases_eq x 240) [
        | inl e ↦ let h = b e in grind (arith, nat_tests)
        | inr m ↦ grind (arith, nat_tests)
      ]
    ]

high_part : (x y : ℕ) → y < 192 → (x ≡ 237 → y < 160) → (x ≡ 244 → y < 144) → y ≤ second_byte_max x
high_part x y l a b =
    elim (cases_eq x 237) [
      | inl e ↦ let h = a e in grind (arith, nat_tests)
      | inr n ↦ elim (cases_eq x 244) [
        | inl e ↦ let h = b e in grind (arith, nat_tests)
        | inr m ↦ grind (arith, nat_tests)
      ]
    ]

second : (x y : ℕ) → Follows y → (x ≡ 224 → 160 ≤ y) → (x ≡ 237 → y < 160) → (x ≡ 240 → 144 ≤ y) → (x ≡ 244 → y < 144) → IsSecond x y
second x y f a b c d = (low_part x y f.0 a c, high_part x y f.1 b d)

-- what a second byte is
pub second_follows : (x y : ℕ) → IsSecond x y → Follows y
second_follows x y h =
    let low : 128 ≤ second_byte_min x = grind (arith, nat_tests) in
    let high : second_byte_max x < 192 = grind (arith, nat_tests) in
    (omega (arith, low, h.0), omega (arith, high, h.1))

behind_224 : (x y : ℕ) → IsSecond x y → x ≡ 224 → 160 ≤ y
behind_224 x y h e = let low : second_byte_min x ≡ 160 = grind (arith, nat_tests) in omega (arith, low, h.0)

behind_237 : (x y : ℕ) → IsSecond x y → x ≡ 237 → y < 160
behind_237 x y h e = let high : second_byte_max x ≡ 159 = grind (arith, nat_tests) in omega (arith, high, h.1)

behind_240 : (x y : ℕ) → IsSecond x y → x ≡ 240 → 144 ≤ y
behind_240 x y h e = let low : second_byte_min x ≡ 144 = grind (arith, nat_tests) in omega (arith, low, h.0)

behind_244 : (x y : ℕ) → IsSecond x y → x ≡ 244 → y < 144
behind_244 x y h e = let high : second_byte_max x ≡ 143 = grind (arith, nat_tests) in omega (arith, high, h.1)

one : (c : ℕ) → c < 128 → encode c ≡ c ∷ []
unfolding encode
one c h = grind (arith, nat_tests)

two : (c : ℕ) → 128 ≤ c → c < 2048 → encode c ≡ (192 + c / 64) ∷ (128 + c % 64) ∷ []
unfolding encode
two c l h = grind (arith, nat_tests)

three : (c : ℕ) → 2048 ≤ c → c < 65536 → encode c ≡ (224 + c / 4096) ∷ (128 + c / 64 % 64) ∷ (128 + c % 64) ∷ []
unfolding encode
three c l h = grind (arith, nat_tests)

four : (c : ℕ) → 65536 ≤ c → encode c ≡ (240 + c / 262144) ∷ (128 + c / 4096 % 64) ∷ (128 + c / 64 % 64) ∷ (128 + c % 64) ∷ []
unfolding encode
four c l = grind (arith, nat_tests)

abbrev Scalar : ℕ → Type 0
Scalar c = (c < 55296) ⊎ ((57344 ≤ c) × (c < 1114112))

is_two : (c : ℕ) → 128 ≤ c → c < 2048 → IsChar ((192 + c / 64) ∷ (128 + c % 64) ∷ [])
is_two c l h =
    (omega arith, omega arith, second (192 + c / 64) (128 + c % 64) (omega arith, omega arith) (λ e. absurd (omega arith)) (λ e. absurd (omega arith)) (λ e. absurd (omega arith)) (λ e. absurd (omega arith)))

is_three : (c : ℕ) → 2048 ≤ c → c < 65536 → Scalar c → IsChar ((224 + c / 4096) ∷ (128 + c / 64 % 64) ∷ (128 + c % 64) ∷ [])
is_three c l h s =
    let no : 224 + c / 4096 ≡ 237 → 128 + c / 64 % 64 < 160 = λ e. elim s [ inl t ↦ omega arith | inr t ↦ absurd (omega (arith, t.0)) ] in
    (omega arith, omega arith, second (224 + c / 4096) (128 + c / 64 % 64) (omega arith, omega arith) (λ e. omega arith) no (λ e. absurd (omega arith)) (λ e. absurd (omega arith)), (omega arith, omega arith))

is_four : (c : ℕ) → 65536 ≤ c → c < 1114112 → IsChar ((240 + c / 262144) ∷ (128 + c / 4096 % 64) ∷ (128 + c / 64 % 64) ∷ (128 + c % 64) ∷ [])
is_four c l h =
    (omega arith, omega arith, second (240 + c / 262144) (128 + c / 4096 % 64) (omega arith, omega arith) (λ e. absurd (omega arith)) (λ e. absurd (omega arith)) (λ e. omega arith) (λ e. omega arith), (omega arith, omega arith), (omega arith, omega arith))

-- the bytes of a character
pub char_of : (c : ℕ) → scalar c ≡ true → IsChar (encode c)
char_of c s =
    let k : Scalar c = scalar_cases c s in
    let top : c < 1114112 = elim k [ inl t ↦ omega arith | inr t ↦ t.1 ] in
    elim (cases_lt c 128) [
      | inl h ↦ subst IsChar (sym (one c h)) h
      | inr l ↦ elim (cases_lt c 2048) [
        | inl h ↦ subst IsChar (sym (two c l h)) (is_two c l h)
        | inr m ↦ elim (cases_lt c 65536) [
          | inl h ↦ subst IsChar (sym (three c m h)) (is_three c m h k)
          | inr n ↦ subst IsChar (sym (four c n)) (is_four c n top)
        ]
      ]
    ]

high_scalar : (c : ℕ) → 57344 ≤ c → c < 1114112 → scalar c ≡ true
high_scalar c l h = grind (arith, nat_tests)

any_scalar : (c : ℕ) → Scalar c → scalar c ≡ true
any_scalar c (inl h) = low_scalar c h
any_scalar c (inr h) = high_scalar c h.0 h.1

abbrev of_three : ℕ → ℕ → ℕ → ℕ
of_three x y z = (x - 224) * 4096 + (y - 128) * 64 + (z - 128)

three_least : (x y z : ℕ) → 224 ≤ x → IsSecond x y → 2048 ≤ of_three x y z
three_least x y z l s =
    let f = second_follows x y s in
    elim (cases_eq x 224) [
      | inl e ↦ let h = behind_224 x y s e in omega (arith, h)
      | inr n ↦ let m : 225 ≤ x = omega arith in omega (arith, m)
    ]

three_scalar : (x y z : ℕ) → 224 ≤ x → x < 240 → IsSecond x y → Follows z → Scalar (of_three x y z)
three_scalar x y z l h s g =
    let f = second_follows x y s in
    elim (cases_eq x 237) [
      | inl e ↦ let t = behind_237 x y s e in inl (omega (arith, t, g.1))
      | inr n ↦ elim (cases_lt x 237) [
        | inl t ↦ inl (omega (arith, t, l, f.1, g.1))
        | inr t ↦ let m : 238 ≤ x = omega arith in inr (omega (arith, m), omega (arith, h, f.1, g.1))
      ]
    ]

abbrev of_four : ℕ → ℕ → ℕ → ℕ → ℕ
of_four x y z w = (x - 240) * 262144 + (y - 128) * 4096 + (z - 128) * 64 + (w - 128)

four_least : (x y z w : ℕ) → 240 ≤ x → IsSecond x y → 65536 ≤ of_four x y z w
four_least x y z w l s =
    elim (cases_eq x 240) [
      | inl e ↦ let h = behind_240 x y s e in omega (arith, h)
      | inr n ↦ let m : 241 ≤ x = omega arith in omega (arith, m)
    ]

four_most : (x y z w : ℕ) → 240 ≤ x → x < 245 → IsSecond x y → Follows z → Follows w → of_four x y z w < 1114112
four_most x y z w l h s g k =
    let f = second_follows x y s in
    elim (cases_eq x 244) [
      | inl e ↦ let t = behind_244 x y s e in omega (arith, t, g.1, k.1)
      | inr n ↦ let m : x < 244 = omega arith in omega (arith, m, f.1, g.1, k.1)
    ]

-- the character of some bytes
pub of_char : (bytes : List ℕ) → IsChar bytes → (c : ℕ) × (scalar c ≡ true) × (encode c ≡ bytes)
of_char [] h = absurd h
of_char (x ∷ []) h = (x, low_scalar x (omega arith), one x h)
of_char (x ∷ y ∷ []) h =
    let f = second_follows x y h.2 in
    let c : ℕ = (x - 192) * 64 + (y - 128) in
    let p : 192 + c / 64 ≡ x = omega (arith, h.0, h.1, f.0, f.1) in
    let q : 128 + c % 64 ≡ y = omega (arith, h.0, h.1, f.0, f.1) in
    (c, low_scalar c (omega (arith, h.0, h.1, f.0, f.1)), two c (omega (arith, h.0, h.1, f.0, f.1)) (omega (arith, h.0, h.1, f.0, f.1)) ∙ (λ i. p i ∷ q i ∷ []))
of_char (x ∷ y ∷ z ∷ []) h =
    let f = second_follows x y h.2 in
    let g = h.3 in
    let c : ℕ = of_three x y z in
    let p : 224 + c / 4096 ≡ x = omega (arith, h.0, h.1, f.0, f.1, g.0, g.1) in
    let q : 128 + c / 64 % 64 ≡ y = omega (arith, h.0, h.1, f.0, f.1, g.0, g.1) in
    let r : 128 + c % 64 ≡ z = omega (arith, h.0, h.1, f.0, f.1, g.0, g.1) in
    (c, any_scalar c (three_scalar x y z h.0 h.1 h.2 g), three c (three_least x y z h.0 h.2) (omega (arith, h.0, h.1, f.0, f.1, g.0, g.1)) ∙ (λ i. p i ∷ q i ∷ r i ∷ []))
of_char (x ∷ y ∷ z ∷ w ∷ []) h =
    let f = second_follows x y h.2 in
    let g = h.3 in
    let k = h.4 in
    let c : ℕ = of_four x y z w in
    let low = four_least x y z w h.0 h.2 in
    let p : 240 + c / 262144 ≡ x = omega (arith, h.0, h.1, f.0, f.1, g.0, g.1, k.0, k.1) in
    let q : 128 + c / 4096 % 64 ≡ y = omega (arith, h.0, h.1, f.0, f.1, g.0, g.1, k.0, k.1) in
    let r : 128 + c / 64 % 64 ≡ z = omega (arith, h.0, h.1, f.0, f.1, g.0, g.1, k.0, k.1) in
    let t : 128 + c % 64 ≡ w = omega (arith, h.0, h.1, f.0, f.1, g.0, g.1, k.0, k.1) in
    (c, any_scalar c (inr (omega (arith, low), four_most x y z w h.0 h.1 h.2 g k)), four c low ∙ (λ i. p i ∷ q i ∷ r i ∷ t i ∷ []))
of_char (x ∷ y ∷ z ∷ w ∷ v ∷ bytes) h = absurd h

-- the bytes of a character are a text
pub utf8_char : (bytes : List ℕ) → IsChar bytes → IsUtf8 bytes
utf8_char bytes h = let c = of_char bytes h in subst IsUtf8 c.2 (IsUtf8-encode c.0 c.1)

-- a text's first character, and the text behind it
pub record FirstChar (bytes : List ℕ) : Type 0 where
  pub char : List ℕ
  pub rest : List ℕ
  pub is_char : IsChar char
  pub text : IsUtf8 rest
  pub is : bytes ≡ char ++ rest

and_parts : (a b : Bool) → (a && b) ≡ true → (a ≡ true) × (b ≡ true)
and_parts true b e = (refl, e)
and_parts false b e = absurd (cc)

first_of : (bytes cs : List ℕ) → scalars cs ≡ true → encodes cs ≡ bytes → 0 < length bytes → FirstChar bytes
first_of bytes [] s e some = let none : 0 ≡ length bytes = ap length e in absurd (omega (arith, none, some))
first_of bytes (c ∷ cs) s e some =
    let both = and_parts (scalar c) (scalars cs) s in
    record { char = encode c; rest = encodes cs; is_char = char_of c both.0; text = (cs, (both.1, refl)); is = sym e }

-- a text that isn't empty begins with a character
pub first_char : (bytes : List ℕ) → IsUtf8 bytes → 0 < length bytes → FirstChar bytes
first_char bytes u some = first_of bytes u.0 u.1.0 u.1.1 some

-- what follows a text in a text is one
pub behind_text : (a b : List ℕ) → IsUtf8 a → IsUtf8 (a ++ b) → IsUtf8 b
behind_text a b u v =
    let front : take (length a) (a ++ b) ≡ a = take_at a b (length a) refl in
    let size : length a ≤ length (a ++ b) = omega (arith, length-append a b) in
    let at = IsCharBoundary-from_take (a ++ b) (length a) v size (subst IsUtf8 (sym front) u) in
    subst IsUtf8 (drop_at a b (length a) refl) (IsUtf8-drop (a ++ b) (length a) v at)
