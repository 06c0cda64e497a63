-- What a loop has made so far, turn by turn, is a fold over the part that it has passed.
use Rattle.std.proofs.Common.{◌≡◌, ◌<◌, ◌≤◌, ◌+◌, ℕ, List, [], ◌∷◌, length, take, get_or, zero, suc, refl, sym, ap, ◌∙◌, arith}
use Rattle.std.specs.List.{fold}
use Rattle.std.proofs.lemmas.List.Sums.{fold_more}

pub one_turn_more : {X Y : Type 0} (f : Y → X → Y) (a : Y) (xs : List X) (i : ℕ) (d : X) (old new : Y) → i < length xs
    → old ≡ fold f a (take i xs) → new ≡ f old (get_or xs i d) → new ≡ fold f a (take (i + 1) xs)
one_turn_more f a xs i d old new lt e step = step ∙ ap (λ y. f y (get_or xs i d)) e ∙ sym (fold_more f a xs i d lt)

past_end : {X : Type 0} (xs : List X) (i : ℕ) → length xs ≤ i → take i xs ≡ xs
past_end [] zero h = refl
past_end [] (suc i) h = refl
past_end (x ∷ xs) zero h = absurd (omega arith)
past_end (x ∷ xs) (suc i) h = ap (λ ys. x ∷ ys) (past_end xs i (omega arith))

pub all_turns : {X Y : Type 0} (f : Y → X → Y) (a : Y) (xs : List X) (i : ℕ) (made : Y) → length xs ≤ i → made ≡ fold f a (take i xs) → made ≡ fold f a xs
all_turns f a xs i made end e = e ∙ ap (fold f a) (past_end xs i end)
