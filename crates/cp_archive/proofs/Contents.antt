-- Contents that are the same.
use Rattle.std.specs.Prelude.{◌≡◌, true, refl}
use Rattle.std.proofs.Common.{ap}
use Rattle.std.specs.Ordering.{int_cmp, is_eq}
use Rattle.std.specs.declared.cmp.Ordering.{Ordering}
use Rattle.std.specs.declared.cmp.Ordering.TheVariants.{Less, Equal, Greater}
use Rattle.std.specs.Cmp.Lexicographic.{nat_list_eq_equiv}
use Rattle.std.proofs.lemmas.Cmp.{int_eq_equiv}
use Rattle.std.proofs.lemmas.Map.Lookups.{exact_signed}
use Rattle.cp_path.specs.declared.value.Value.{Value}
use Rattle.cp_path.specs.declared.value.Value.TheVariants.{Null, False, True, Whole, Text}
use Rattle.cp_path.proofs.Same.{text_eq-same}
use Rattle.cp_model.specs.declared.row.Content.{Content}
use Rattle.cp_model.specs.declared.row.Content.TheVariants.{Node, Leaf}
use Rattle.cp_archive.specs.Ranges.{value_eq, content_eq}

is_equal : (o : Ordering) → is_eq o ≡ true → o ≡ Equal
is_equal Less h = absurd (cc)
is_equal Equal h = refl
is_equal Greater h = absurd (cc)

value-same : (v w : Value) → value_eq v w ≡ true → v ≡ w
value-same Null Null h = refl
value-same False False h = refl
value-same True True h = refl
value-same (Whole m) (Whole n) h = ap (λ x. Whole x) (exact_signed m n (is_equal (int_cmp m n) h))
value-same (Text s) (Text t) h = ap (λ x. Text x) (text_eq-same s t h)
value-same v w h = absurd (cc)

-- contents that pass the test are the same
pub content-same : (c d : Content) → content_eq c d ≡ true → c ≡ d
content-same Node Node h = refl
content-same (Leaf v) (Leaf w) h = ap (λ x. Leaf x) (value-same v w h)
content-same Node (Leaf w) h = absurd (cc)
content-same (Leaf v) Node h = absurd (cc)

-- a content passes the test with itself
pub content-own : (c : Content) → content_eq c c ≡ true
content-own Node = refl
content-own (Leaf v) = by v
  where
    by : (v : Value) → value_eq v v ≡ true
    by Null = refl
    by False = refl
    by True = refl
    by (Whole n) = int_eq_equiv.refl n
    by (Text s) = nat_list_eq_equiv.refl s
