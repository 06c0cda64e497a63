-- What stays of a list that grows, step by step.
use Rattle.std.proofs.Common.{◌≡◌, ℕ, ◌+◌, ◌<◌, List, [], ◌∷◌, ◌++◌, length, take, get_or, flat_map, ap, sym, ◌∙◌, append_assoc, append-nil, Result, Ok, Err, OnOk}
use Rattle.std.proofs.lemmas.List.{flat_map_more, take_more}
use Rattle.cp_reply.specs.Front.{Begins}

pub begins_same : (a : List ℕ) → Begins a a
begins_same a = ([], sym (append-nil a))

pub begins_then : (a b c : List ℕ) → Begins a b → Begins b c → Begins a c
begins_then a b c f g = (f.0 ++ g.0, g.1 ∙ ap (λ w. w ++ g.0) f.1 ∙ append_assoc a f.0 g.0)

-- what a step that went well says, by what it needs
pub on_ok : {A E : Type 0} (r : Result A E) (P Q : Type 0) → (P → Q) → OnOk r P → OnOk r Q
on_ok (Ok a) P Q f h = f h
on_ok (Err e) P Q f h = h

-- one element more of a list whose elements each put their text
pub lines_step : {X : Type 0} (f : X → List ℕ) (start out new : List ℕ) (xs : List X) (i : ℕ) (x : X) → i < length xs → x ≡ get_or xs i x
    → out ≡ start ++ flat_map f (take i xs) → new ≡ out ++ f x → new ≡ start ++ flat_map f (take (i + 1) xs)
lines_step f start out new xs i x within is before step =
    step ∙ ap (λ w. w ++ f x) before ∙ flat_map_more f start (take i xs) x ∙ ap (λ w. start ++ flat_map f w) (sym (take_more xs i x within ∙ ap (λ y. take i xs ++ y ∷ []) (sym is)))
