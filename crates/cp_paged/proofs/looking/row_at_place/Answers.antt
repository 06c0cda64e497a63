use Rattle.std.proofs.Common.{arith, ℕ, ◌≡◌, ◌<◌, ◌≤◌, ◌^◌, ◌∙◌, sym, subst}
use Rattle.std.specs.Prelude.{IfSome}
use Rattle.cp_page.proofs.Cases.{match_some, match_none}
use Rattle.cp_page.specs.Orders.{place_tid}
use Rattle.cp_paged.proofs.TidsBehind.{one-tid}
use Rattle.cp_paged.proofs.looking.row_at_place.Goals as goal

pub returns-in_default-tid_at_place-clause-none : goal.returns-in_default-tid_at_place-clause-none
returns-in_default-tid_at_place-clause-none c = λ q u e none.
    subst (λ o. IfSome o (λ r. (v : ℕ) → v < 2 ^ 64 → v ≤ c.args.t → r.key ≡ place_tid q v → ⊥)) (sym c.in-Some.is)
    (λ v small le same. match_none _ _ _ c.in_default-tid_at_place.is (c.tid_at_place.ensures q u e) v small (c.as_slice.ensures ∙ same))

pub returns-then-tid-t-clause-none : goal.returns-then-tid-t-clause-none
returns-then-tid-t-clause-none c = λ q u e none.
    subst (λ o. IfSome o (λ r. (v : ℕ) → v < 2 ^ 64 → v ≤ c.args.t → r.key ≡ place_tid q v → ⊥)) (sym c.in-Some.is)
    (λ v small le same.
    let after = c.if-tid-t.true in
    let found = match_some _ _ _ _ c.in-Some-tid_at_place.is (c.tid_at_place.ensures q u e) in
    let one = one-tid c.in-Some.row.key q c.in-Some-tid_at_place.tid v found.0 small (sym c.as_slice.ensures ∙ found.1) same in
    absurd (omega (arith, after, le, one)))
