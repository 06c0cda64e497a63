-- Two proofs that a tree is within its limits are equal.
use Rattle.std.specs.Prelude.{◌≡◌, pos, negsuc, Bool}
use lib.Dec.{T_prop}
use lib.Signed.{le_z}
use Rattle.std.specs.declared.option.Option.{Option}
use Rattle.std.specs.Coded.{Coded-set, coded_option, coded_bool, le_prop}
use Rattle.cp_path.specs.declared.value.Value.TheVariants.{Null, False, True, Whole, Text}
use Rattle.cp_model.specs.declared.row.Content.{Content}
use Rattle.cp_model.specs.declared.row.Content.TheVariants.{Node, Leaf}
use Rattle.cp_model.specs.Codes.{content_code}
use Rattle.cp_model.specs.Tree.{Tree, IsRooted, IsTree, IsNumber}

content_set : (a b : Option Content) → IsProp (a ≡ b)
content_set a b = Coded-set (coded_option content_code) a b

bool_set : (a b : Bool) → IsProp (a ≡ b)
bool_set a b = Coded-set coded_bool a b

-- that it is rooted
pub IsRooted-prop : (t : Tree) → IsProp (IsRooted t)
IsRooted-prop t x y = λ i. record { root = bool_set _ _ x.root y.root i; parents = λ p a e. content_set _ _ (x.parents p a e) (y.parents p a e) i }

IsNumber-prop : (c : Content) → IsProp (IsNumber c)
IsNumber-prop Node x y = λ i. tt
IsNumber-prop (Leaf Null) x y = λ i. tt
IsNumber-prop (Leaf False) x y = λ i. tt
IsNumber-prop (Leaf True) x y = λ i. tt
IsNumber-prop (Leaf (Whole n)) x y = λ i. (
  record { le = T_prop (le_z (negsuc 9223372036854775807) n) x.0.le y.0.le i },
  record { le = T_prop (le_z n (pos 18446744073709551615)) x.1.le y.1.le i },
)
IsNumber-prop (Leaf (Text bs)) x y = λ i. tt

-- that it is a tree within every limit
pub IsTree-prop : (t : Tree) → IsProp (IsTree t)
IsTree-prop t x y = λ i. record {
  rooted = IsRooted-prop t x.rooted y.rooted i;
  within = record { nodes = le_prop x.within.nodes y.within.nodes i; weighs = le_prop x.within.weighs y.within.weighs i };
  places = λ p e. bool_set _ _ (x.places p e) (y.places p e) i;
  texts = λ p c e. le_prop (x.texts p c e) (y.texts p c e) i;
  spelled = λ p c e. record {
    label = le_prop (x.spelled p c e).label (y.spelled p c e).label i;
    number = IsNumber-prop c (x.spelled p c e).number (y.spelled p c e).number i;
  };
}
