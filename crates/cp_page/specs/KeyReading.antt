-- What bytes are read as.
use Rattle.std.specs.Prelude.{ℕ, ◌≡◌, false, List, ◌++◌}
use Rattle.std.specs.declared.option.Option.{Option}
use Rattle.std.specs.declared.option.Option.TheVariants.{None, Some}
use Rattle.cp_path.specs.Place.{at_target, over_limit}
use Rattle.cp_path.specs.declared.loc.Loc.{Loc}
use Rattle.cp_record.specs.Kept.{IsPath}
use Rattle.cp_page.specs.PlaceKeys.{escaped_byte}

-- a value that is fit and is spelled so, or none where no such value is
abbrev pub IsReadAs : {X Y : Type 0} → (X → Type 0) → (X → Y) → Y → Option X → Type 0
IsReadAs {X} IsFit spelling y None = (x : X) → IsFit x → spelling x ≡ y → ⊥
IsReadAs {X} IsFit spelling y (Some x) = IsFit x × (spelling x ≡ y)

-- no byte of a label stands at the front
abbrev pub NoByte : List ℕ → Type 0
NoByte bytes = (b : ℕ) (rest : List ℕ) → bytes ≡ escaped_byte b ++ rest → ⊥

-- a place of T within the limits
pub record IsTargetPlace (q : Loc) : Type 0 where
  pub place : q ≡ at_target q.path
  pub path : IsPath q.path
  pub fits : over_limit q ≡ false
