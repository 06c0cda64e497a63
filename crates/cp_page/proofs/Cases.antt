-- The cases of an answer that is known.
use Rattle.std.proofs.Common.{◌≡◌, List, Option, Some, None, subst}
use Rattle.std.specs.Prelude.{MatchOption}
use Rattle.cp_page.specs.KeyReading.{IsReadAs}

pub match_some : {X : Type 0} (P : Type 0) (Q : X → Type 0) (o : Option X) (x : X) → o ≡ Some x → MatchOption o P Q → Q x
match_some P Q o x is h = subst (λ y. MatchOption y P Q) is h

pub match_none : {X : Type 0} (P : Type 0) (Q : X → Type 0) (o : Option X) → o ≡ None → MatchOption o P Q → P
match_none P Q o is h = subst (λ y. MatchOption y P Q) is h

pub read_some : {X Y : Type 0} (F : X → Type 0) (f : X → Y) (y : Y) (o : Option X) (x : X) → o ≡ Some x → IsReadAs F f y o → F x × (f x ≡ y)
read_some F f y o x is h = subst (IsReadAs F f y) is h

pub read_none : {X Y : Type 0} (F : X → Type 0) (f : X → Y) (y : Y) (o : Option X) → o ≡ None → IsReadAs F f y o → (x : X) → F x → f x ≡ y → ⊥
read_none F f y o is h = subst (IsReadAs F f y) is h
