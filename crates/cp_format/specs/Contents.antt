-- Contents as bytes: a number for the form, and what follows it in that form.
use Rattle.std.specs.Prelude.{ℕ, suc, ℤ, pos, negsuc, ◌≡◌, ◌≤◌, ◌<◌, ◌-◌, ◌^◌, List, [], ◌∷◌, ◌++◌, length, IsUtf8, ⊤}
use Rattle.std.specs.Int.{to_be_bytes, w32, w64}
use Rattle.cp_path.specs.Whole.{IsWhole}
use Rattle.cp_path.specs.declared.limits.TheConstants.{TEXT_MAX}
use Rattle.cp_path.specs.declared.value.Value.TheVariants.{Null, False, True, Whole, Text}
use Rattle.cp_model.specs.Tree.{text_bytes}
use Rattle.cp_model.specs.declared.row.Content.{Content}
use Rattle.cp_model.specs.declared.row.Content.TheVariants.{Node, Leaf}
use Rattle.cp_format.specs.Formats.{Format, unchecked}

-- the number of a content's form
abbrev pub content_form : Content → ℕ
content_form Node = 0
content_form (Leaf Null) = 1
content_form (Leaf False) = 2
content_form (Leaf True) = 3
content_form (Leaf (Whole (pos n))) = 4
content_form (Leaf (Whole (negsuc n))) = 5
content_form (Leaf (Text a)) = 6

-- a whole number in 64 bits, in two's complement where it is below zero
abbrev pub whole_bits : ℤ → ℕ
whole_bits (pos n) = n
whole_bits (negsuc n) = 2 ^ 64 - suc n

-- a text behind its length in four bytes
abbrev pub long_text_bytes : List ℕ → List ℕ
long_text_bytes a = to_be_bytes w32 (length a) ++ a

-- what follows the number of the form
abbrev pub content_rest : Content → List ℕ
content_rest Node = []
content_rest (Leaf Null) = []
content_rest (Leaf False) = []
content_rest (Leaf True) = []
content_rest (Leaf (Whole n)) = to_be_bytes w64 (whole_bits n)
content_rest (Leaf (Text a)) = long_text_bytes a

-- the number of the form, and what follows it
abbrev pub content_bytes : Content → List ℕ
content_bytes c = content_form c ∷ content_rest c

-- a text, if it is one, is no longer than a text may be
abbrev pub HasShortText : Content → Type 0
HasShortText Node = ⊤
HasShortText (Leaf Null) = ⊤
HasShortText (Leaf False) = ⊤
HasShortText (Leaf True) = ⊤
HasShortText (Leaf (Whole n)) = ⊤
HasShortText (Leaf (Text a)) = length a ≤ TEXT_MAX

-- a node, or a leaf whose value is within the limits
abbrev pub IsContent : Content → Type 0
IsContent Node = ⊤
IsContent (Leaf Null) = ⊤
IsContent (Leaf False) = ⊤
IsContent (Leaf True) = ⊤
IsContent (Leaf (Whole n)) = IsWhole n
IsContent (Leaf (Text a)) = IsUtf8 a × (length a ≤ TEXT_MAX)

-- a number whose highest bit of 64 is set
abbrev pub high_format : Format ℕ
high_format = record { fit = λ n. (2 ^ 63 ≤ n) × (n < 2 ^ 64); bytes = λ n. to_be_bytes w64 n; checks = unchecked }

-- a text of so many bytes at most, behind its length
abbrev pub long_text_format : ℕ → Format (List ℕ)
long_text_format room = record { fit = λ a. (IsUtf8 a × (length a ≤ TEXT_MAX)) × (length a ≤ room); bytes = λ a. long_text_bytes a; checks = unchecked }

-- a content whose text, if it is one, has so many bytes at most
abbrev pub FitsIn : ℕ → Content → Type 0
FitsIn room c = IsContent c × (text_bytes c ≤ room)

-- what follows this number of a form in a content whose text has so many bytes at most
abbrev pub content_behind : ℕ → ℕ → Format Content
content_behind room k = record { fit = λ c. FitsIn room c × (content_form c ≡ k); bytes = λ c. content_rest c; checks = unchecked }

-- a content whose text, if it is one, has so many bytes at most
abbrev pub content_format : ℕ → Format Content
content_format room = record { fit = λ c. FitsIn room c; bytes = λ c. content_bytes c; checks = unchecked }
