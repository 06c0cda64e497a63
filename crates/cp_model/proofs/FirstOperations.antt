-- The first operations of a commit that can follow.
use Rattle.std.specs.Prelude.{ℕ, zero, suc, ◌≡◌, ◌≤◌, ◌<◌, true, List, [], ◌∷◌, length, take, fold, nat_lt, refl, if◌then◌else◌}
use Rattle.std.proofs.Common.{sym, ap, subst, ◌∙◌, arith}
use Rattle.std.proofs.lemmas.Bool.Decides.{nat_tests}
use Rattle.std.proofs.lemmas.List.{length-map}
use Rattle.cp_model.specs.declared.kind.Kind.{Kind}
use Rattle.cp_model.specs.declared.kind.Kind.TheVariants as kind
use Rattle.cp_model.specs.declared.op.Op.{Op}
use Rattle.cp_model.specs.Tree.{Source}
use Rattle.cp_model.specs.Step.{Outcome, done, refused, then_op, step, open_tree, is_done}
use Rattle.cp_model.specs.Past.{tree_of}
use Rattle.cp_model.specs.History.{State, steps_of, AreWritten, CanCommit}
use Rattle.cp_model.proofs.Folds.{refused-fold}
use Rattle.cp_model.specs.Versions.{ops_in_steps}

-- ---- the first operations

take-written : (n : ℕ) (ops : List Op) → AreWritten ops → AreWritten (take n ops)
take-written zero ops a = tt
take-written (suc n) [] a = tt
take-written (suc n) (op ∷ ops) a = (a.0, take-written n ops a.1)

take-done : (ss : List Source) (n : ℕ) (ops : List Op) (o : Outcome) → is_done (fold (then_op ss) o ops) ≡ true → is_done (fold (then_op ss) o (take n ops)) ≡ true
take-done ss zero ops (done k w) e = refl
take-done ss zero ops (refused m r) e = sym (ap is_done (refused-fold ss ops m r)) ∙ e
take-done ss (suc n) [] o e = e
take-done ss (suc n) (op ∷ ops) o e = take-done ss n ops (then_op ss o op) e

take-all : (n : ℕ) (ops : List Op) → length ops ≤ n → take n ops ≡ ops
take-all zero [] h = refl
take-all zero (op ∷ ops) h = absurd (omega (arith, h))
take-all (suc n) [] h = refl
take-all (suc n) (op ∷ ops) h = ap (λ os. op ∷ os) (take-all n ops (omega (arith, h)))

take-some : (n : ℕ) (ops : List Op) → 0 < n → 1 ≤ length ops → 1 ≤ length (take n ops)
take-some zero ops p h = absurd (omega (arith, p))
take-some (suc n) [] p h = h
take-some (suc n) (op ∷ ops) p h = omega arith

take-few : (n : ℕ) (ops : List Op) → length (take n ops) ≤ length ops
take-few zero ops = omega arith
take-few (suc n) [] = omega arith
take-few (suc n) (op ∷ ops) = let h = take-few n ops in omega (arith, h)

can-take : (s : State) (n : ℕ) (ops : List Op) → 0 < n → CanCommit s ops → CanCommit s (take n ops)
unfolding step
can-take s n ops p c = record {
  some = take-some n ops p c.some;
  few = let a = take-few n ops in let b = c.few in omega (arith, a, b);
  written = take-written n ops c.written;
  accepted = take-done s.sources n ops (done 0 (open_tree (tree_of s.tree))) c.accepted;
}

-- ---- the first steps

-- none of no step
pub ops-of-none : (k : Kind) (n : ℕ) (ops : List Op) → n ≡ 0 → ops_in_steps k n ops ≡ []
ops-of-none kind.N n ops e = ap (λ m. take m ops) e
ops-of-none kind.H n ops e = ap (λ m. take m ops) e
ops-of-none kind.T n ops e = ap (λ m. if nat_lt 0 m then ops else []) e
ops-of-none kind.HT n ops e = ap (λ m. if nat_lt 0 m then ops else []) e

whole : (n : ℕ) (ops : List Op) → 0 < n → (if nat_lt 0 n then ops else []) ≡ ops
whole n ops p = let e : nat_lt 0 n ≡ true = grind (arith, nat_tests, p) in ap (λ b. if b then ops else []) e

-- some of these can follow where all can
pub can-follow-upto : (s : State) (k : Kind) (n : ℕ) (ops : List Op) → 0 < n → CanCommit s ops → CanCommit s (ops_in_steps k n ops)
can-follow-upto s kind.N n ops p c = can-take s n ops p c
can-follow-upto s kind.H n ops p c = can-take s n ops p c
can-follow-upto s kind.T n ops p c = subst (CanCommit s) (sym (whole n ops p)) c
can-follow-upto s kind.HT n ops p c = subst (CanCommit s) (sym (whole n ops p)) c

-- all of all
pub ops-of-all : (k : Kind) (n : ℕ) (ops : List Op) → 0 < n → length (steps_of k ops) ≤ n → ops_in_steps k n ops ≡ ops
ops-of-all kind.N n ops p h = take-all n ops (let e = length-map ops (λ op. op ∷ []) in omega (arith, h, e))
ops-of-all kind.H n ops p h = take-all n ops (let e = length-map ops (λ op. op ∷ []) in omega (arith, h, e))
ops-of-all kind.T n ops p h = whole n ops p
ops-of-all kind.HT n ops p h = whole n ops p
