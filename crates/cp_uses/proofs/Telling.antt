-- What is told of whether what was reached stood at its place, and for how many look-ups.
use Rattle.std.specs.Prelude.{ℕ, ◌+◌, ◌^◌, ◌≡◌, ◌≤◌, ◌<◌, ◌&&◌, Bool, true, false, List, refl, nat_lt, nat_le}
use Rattle.std.proofs.Common.{sym, ap, ◌∙◌, arith}
use Rattle.std.proofs.lemmas.Bool.Decides.{nat_tests}
use Rattle.std.specs.declared.option.Option.TheVariants.{Some}
use Rattle.cp_model.specs.Place.{in_target}
use Rattle.cp_model.specs.Changes.{change_at}
use Rattle.cp_model.specs.declared.kind.Kind.{Kind}
use Rattle.cp_model.specs.declared.record.Record.{Record}
use Rattle.cp_uses.specs.declared.reached.Reached.{Reached}
use Rattle.cp_uses.specs.declared.stay.Stay.{Stay}
use Rattle.cp_uses.specs.Stays.{step_of, is_over, IsKnown}
use Rattle.cp_uses.specs.InTime.{calls_to_tell}
use Rattle.cp_uses.specs.Following.{Tells}
use Rattle.cp_uses.proofs.Costs.{one_if}
use Rattle.cp_uses.proofs.Staying.{told-stands, told-changed, known-still, known-changed}

never : false ≡ true → ⊥
never e = absurd (cc)

always : true ≡ false → ⊥
always e = absurd (cc)

module _ (k : Kind) (rs : List Record) (x : Reached) (v : ℕ) where
  -- it has changed, as the store says
  pub tells-changed : (cost : ℕ) (s z : Stay) (m n w : ℕ) → IsKnown k rs x s → w ≡ step_of (change_at k rs v x.place) → w ≤ v → x.tid < w → z.still ≡ s.still → z.changed ≡ Some w → n ≤ m + 1 → Tells k rs x v cost false s z m n
  tells-changed cost s z m n w h e l t a c b = record {
    stands = sym (told-changed k rs x v w e t);
    known = known-changed k rs x s z v w h e t a c;
    over = λ _. ap (is_over v) c ∙ (let y : nat_le w v ≡ true = grind (arith, nat_tests, l) in y);
    same = λ f. absurd (never f);
    calls = b;
  }

  -- a look-up was needed for it
  asked : (s : Stay) → IsKnown k rs x s → s.still < v → v < 2 ^ 64 → calls_to_tell x v ≡ 1
  asked s h l b = by (in_target x.place) refl
    where
      by : (b : Bool) → in_target x.place ≡ b → one_if (b && nat_lt x.tid v) ≡ 1
      by true i = ap one_if (let o = h.own i in let y : nat_lt x.tid v ≡ true = grind (arith, nat_tests, o, l) in y)
      by false i = absurd (let o = h.source i in omega (arith, o, l, b))

  -- it stands, as the store says
  pub tells-stood : (s z : Stay) (m n w : ℕ) → IsKnown k rs x s → s.still < v → v < 2 ^ 64 → w ≡ step_of (change_at k rs v x.place) → w ≤ x.tid → z.still ≡ v → z.changed ≡ s.changed → n ≤ m + 1 → Tells k rs x v (calls_to_tell x v) true s z m n
  tells-stood s z m n w h l b e t a c d = record {
    stands = sym (told-stands k rs x v w e t);
    known = known-still k rs x s z v w h l b e t a c;
    over = λ e. absurd (always e);
    same = λ _. c;
    calls = let y = asked s h l b in let f : n ≤ m + calls_to_tell x v = omega (arith, y, d) in f;
  }
