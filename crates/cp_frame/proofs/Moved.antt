-- Checks of a part of a part, and results that pass on what holds of them.
use Rattle.std.proofs.Common.{◌≡◌, ℕ, ◌+◌, List, [], ◌∷◌, ◌++◌, refl, Result, Ok, Err, IfOk, OnOk, OnErr, arith}
use Rattle.cp_format.specs.Formats.{Check, moved}

-- a part of a part stands after the bytes before both
pub moved_twice : (a b : ℕ) (cs : List Check) → moved a (moved b cs) ≡ moved (a + b) cs
moved_twice a b [] = refl
moved_twice a b (c ∷ cs) =
    let first : a + (b + c.last) ≡ a + b + c.last = omega arith in
    let others = moved_twice a b cs in
    λ i. record { last = first i; holds = c.holds } ∷ others i

-- checks one after another are moved one after another
pub moved_both : (a : ℕ) (cs ds : List Check) → moved a (cs ++ ds) ≡ moved a cs ++ moved a ds
moved_both a [] ds = refl
moved_both a (c ∷ cs) ds =
    let others = moved_both a cs ds in
    λ i. record { last = a + c.last; holds = c.holds } ∷ others i

-- what holds of a success makes another fact hold of it
pub passed_ok : {T E : Type 0} {P Q : T → Type 0} (result : Result T E) → ((x : T) → P x → Q x) → IfOk result P → IfOk result Q
passed_ok (Ok x) f h = f x h
passed_ok (Err e) f h = tt

-- two facts that hold after success make another hold after success
pub after_both : {T E P Q R : Type 0} (result : Result T E) → (P → Q → R) → OnOk result P → OnOk result Q → OnOk result R
after_both (Ok x) f p q = f p q
after_both (Err e) f p q = tt

-- what holds holds after an error
pub on_error : {T E P : Type 0} (result : Result T E) → P → OnErr result P
on_error (Ok x) p = tt
on_error (Err e) p = p
