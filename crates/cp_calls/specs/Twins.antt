-- When another form of a tree agrees with its first.
use Rattle.std.specs.Prelude.{◌≡◌, ⊤}
use Rattle.std.specs.Coded.{Coded-set, Unit-prop}
use Rattle.std.specs.declared.option.Option.{Option}
use Rattle.std.specs.declared.option.Option.TheVariants.{None, Some}
use Rattle.cp_model.specs.Codes.{content_code}
use Rattle.cp_model.specs.Keyed.{code}
use Rattle.cp_model.specs.Tree.{Tree}

-- the second, where it is there, holds what the first does
abbrev pub AreTwins : {A B : Type 0} → (A → Tree) → (B → Tree) → A → Option B → Type 0
AreTwins a b first None = ⊤
AreTwins a b first (Some second) = b second ≡ a first

-- in at most one way
pub AreTwins-prop : {A B : Type 0} (a : A → Tree) (b : B → Tree) (first : A) (second : Option B) → IsProp (AreTwins a b first second)
AreTwins-prop a b first None = Unit-prop
AreTwins-prop a b first (Some second) = Coded-set (code content_code) (b second) (a first)
