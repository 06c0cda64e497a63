-- Texts as lists of bytes, and which of them are names.
use Rattle.cp_path.specs.declared.limits.TheConstants.{NAME_MAX}
use Rattle.std.specs.Prelude.{ℕ, Bool, List, length, nat_eq, nat_le, ◌==◌, ◌&&◌, ◌||◌, slice_index, [], ◌∷◌}
use Rattle.std.specs.List.{list_all}
use Rattle.std.specs.declared.cmp.Ordering.{Ordering}
use Rattle.std.specs.Ordering.{nat_cmp}
use Rattle.std.specs.Cmp.Lexicographic.{slice_cmp, pointwise}

-- the same bytes, one by one
abbrev pub text_eq : List ℕ → List ℕ → Bool
text_eq = pointwise nat_eq

-- the order of the first bytes that differ; a prefix comes first
abbrev pub text_cmp : List ℕ → List ℕ → Ordering
text_cmp = slice_cmp nat_cmp

-- an ASCII letter
abbrev pub is_letter : ℕ → Bool
is_letter x = (nat_le 65 x && nat_le x 90) || (nat_le 97 x && nat_le x 122)

-- an ASCII digit
abbrev pub is_digit : ℕ → Bool
is_digit x = nat_le 48 x && nat_le x 57

-- a letter, a digit or an underscore
abbrev pub is_name_byte : ℕ → Bool
is_name_byte x = is_letter x || is_digit x || (x == 95)

-- a letter first, and letters, digits and underscores behind it, no more than a name may have
abbrev pub is_name : List ℕ → Bool
is_name w = nat_le 1 (length w) && (nat_le (length w) NAME_MAX && (is_letter (slice_index w 0) && list_all is_name_byte w))

-- the database that curators change is called T
abbrev pub target : List ℕ
target = 84 ∷ []
