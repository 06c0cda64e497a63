-- Operations as bytes, but for insertions of trees with children: a number for the form, and what follows it in that form.
use Rattle.std.specs.Prelude.{ℕ, ◌≡◌, false, List, [], ◌∷◌, ◌++◌, ⊤}
use Rattle.cp_path.specs.Encoding.{counted_bytes, path_bytes, place_bytes}
use Rattle.cp_path.specs.Place.{at_target, over_limit}
use Rattle.cp_path.specs.declared.loc.Loc.{Loc}
use Rattle.cp_model.specs.declared.row.Content.{Content}
use Rattle.cp_model.specs.declared.row.Content.TheVariants.{Node, Leaf}
use Rattle.cp_model.specs.declared.literal.Literal.{Literal}
use Rattle.cp_model.specs.declared.literal.Literal.TheVariants as literal
use Rattle.cp_model.specs.declared.op.Op.{Op}
use Rattle.cp_model.specs.declared.op.Op.TheVariants.{Ins, Del, Copy}
use Rattle.cp_record.specs.Kept.{IsLabel, IsPath, IsPlace}
use Rattle.cp_format.specs.Contents.{IsContent, HasShortText, content_bytes}
use Rattle.cp_format.specs.Formats.{Format, unchecked}

-- what stands at the root of a tree
abbrev pub root_content : Literal → Content
root_content (literal.Leaf v) = Leaf v
root_content (literal.Node rows) = Node

-- the tree that is this content alone
abbrev pub alone : Content → Literal
alone Node = literal.Node []
alone (Leaf v) = literal.Leaf v

-- the place that an operation changes lies below this one, or is it
abbrev pub destination : Op → Loc
destination (Ins p a l) = p
destination (Del a p) = p
destination (Copy q p) = p

-- it inserts no tree with children
abbrev pub IsShort : Op → Type 0
IsShort (Ins p a l) = l ≡ alone (root_content l)
IsShort (Del a p) = ⊤
IsShort (Copy q p) = ⊤

-- a text that it inserts, if it inserts one, is no longer than a text may be
abbrev pub InsertsShortText : Op → Type 0
InsertsShortText (Ins p a l) = HasShortText (root_content l)
InsertsShortText (Del a p) = ⊤
InsertsShortText (Copy q p) = ⊤

-- its labels, its names and its content can be spelled, whatever the size of its places
abbrev pub HasSpelledParts : Op → Type 0
HasSpelledParts (Ins p a l) = IsPath p.path × IsLabel a × IsContent (root_content l)
HasSpelledParts (Del a p) = IsPath p.path × IsLabel a
HasSpelledParts (Copy q p) = IsPlace q × IsPath p.path

-- the number of an operation's form
abbrev pub op_form : Op → ℕ
op_form (Ins p a l) = 1
op_form (Del a p) = 2
op_form (Copy q p) = 3

-- what follows the number of the form
abbrev pub op_rest : Op → List ℕ
op_rest (Ins p a l) = path_bytes p.path ++ (counted_bytes a ++ content_bytes (root_content l))
op_rest (Del a p) = path_bytes p.path ++ counted_bytes a
op_rest (Copy q p) = place_bytes q ++ path_bytes p.path

-- the number of the form, and what follows it
abbrev pub op_bytes : Op → List ℕ
op_bytes o = op_form o ∷ op_rest o

-- a place of T within the limits of places
pub record IsTarget (p : Loc) : Type 0 where
  pub place : p ≡ at_target p.path
  pub path : IsPath p.path
  pub within : over_limit p ≡ false

-- a short operation that has a spelling: its places, its label and its content are within the limits
abbrev pub IsSpelledOp : Op → Type 0
IsSpelledOp (Ins p a l) = IsTarget p × IsLabel a × (l ≡ alone (root_content l)) × IsContent (root_content l)
IsSpelledOp (Del a p) = IsTarget p × IsLabel a
IsSpelledOp (Copy q p) = IsPlace q × (over_limit q ≡ false) × IsTarget p

-- a place of T, whose name isn't spelled
abbrev pub target_format : Format Loc
target_format = record { fit = λ p. IsTarget p; bytes = λ p. path_bytes p.path; checks = unchecked }

-- what follows this number of a form in a short operation
abbrev pub op_behind : ℕ → Format Op
op_behind k = record { fit = λ o. IsSpelledOp o × (op_form o ≡ k); bytes = λ o. op_rest o; checks = unchecked }

-- a short operation
abbrev pub op_format : Format Op
op_format = record { fit = λ o. IsSpelledOp o; bytes = λ o. op_bytes o; checks = unchecked }
