-- With a place its parent is there.
use Rattle.std.specs.Prelude.{◌≡◌, true, [], ◌∷◌, ◌++◌, is_some}
use Rattle.std.specs.declared.option.Option.{Option}
use Rattle.cp_model.specs.Place.{Path, Label}

-- the paths at which f answers are closed upwards
pub record Closed {X : Type 0} (f : Path → Option X) : Type 0 where
  pub root : is_some (f []) ≡ true
  pub parents : (r : Path) (a : Label) → is_some (f (r ++ a ∷ [])) ≡ true → is_some (f r) ≡ true
