-- What a clock tells: one moment after another, and 0 after the last that is known.
use Rattle.std.specs.Prelude.{ℕ, ◌≡◌, List, [], ◌∷◌, drop, Result, Ok, Err}
use Rattle.std.specs.declared.option.Option.{Option}
use Rattle.std.specs.declared.option.Option.TheVariants.{None, Some}

-- the first of these moments, and 0 where there is none
abbrev pub first_of : List ℕ → ℕ
first_of [] = 0
first_of (m ∷ ms) = m

-- this moment is the next one, where it is known which come
abbrev pub TellsOne : Option (List ℕ) → Option (List ℕ) → ℕ → Type 0
TellsOne None now m = now ≡ None
TellsOne (Some ms) now m = (m ≡ first_of ms) × (now ≡ Some (drop 1 ms))

-- a call told the next moment, or failed, and lost none
abbrev pub Tells : {E : Type 0} → Option (List ℕ) → Option (List ℕ) → Result ℕ E → Type 0
Tells before now (Ok m) = TellsOne before now m
Tells before now (Err e) = now ≡ before

-- these moments were told, one after the other
abbrev pub HasTold : Option (List ℕ) → Option (List ℕ) → List ℕ → Type 0
HasTold before now [] = now ≡ before
HasTold before now (m ∷ ms) = (between : Option (List ℕ)) × TellsOne before between m × HasTold between now ms
