-- The bytes of one character in UTF-8.
use Rattle.std.specs.Prelude.{ℕ, ◌≤◌, ◌<◌, cond, nat_lt, List, [], ◌∷◌, length}
use Rattle.std.specs.Str.Lossy.{second_byte_min, second_byte_max}
use Rattle.cp_format.specs.Formats.{Format, Reads, unchecked}

-- a byte behind the first one
abbrev pub Follows : ℕ → Type 0
Follows y = (128 ≤ y) × (y < 192)

-- a second byte behind this first one
abbrev pub IsSecond : ℕ → ℕ → Type 0
IsSecond x y = (second_byte_min x ≤ y) × (y ≤ second_byte_max x)

-- the bytes are those of one character
abbrev pub IsChar : List ℕ → Type 0
IsChar [] = ⊥
IsChar (x ∷ []) = x < 128
IsChar (x ∷ y ∷ []) = (194 ≤ x) × (x < 224) × IsSecond x y
IsChar (x ∷ y ∷ z ∷ []) = (224 ≤ x) × (x < 240) × IsSecond x y × Follows z
IsChar (x ∷ y ∷ z ∷ w ∷ []) = (240 ≤ x) × (x < 245) × IsSecond x y × Follows z × Follows w
IsChar (x ∷ y ∷ z ∷ w ∷ v ∷ bytes) = ⊥

-- one character, of so many bytes at most
abbrev pub char_format : ℕ → Format (List ℕ)
char_format room = record { fit = λ w. IsChar w × (length w ≤ room); bytes = λ w. w; checks = unchecked }

-- how many bytes a character has that begins with this byte, or 0 where none does
abbrev pub width : ℕ → ℕ
width x = cond (nat_lt x 128) 1 (cond (nat_lt x 194) 0 (cond (nat_lt x 224) 2 (cond (nat_lt x 240) 3 (cond (nat_lt x 245) 4 0))))

-- no character of so many bytes at most stands at the front of the bytes
abbrev pub HasNoChar : ℕ → List ℕ → Type 0
HasNoChar room bytes = (w rest : List ℕ) → Reads (char_format room) bytes w rest → ⊥
