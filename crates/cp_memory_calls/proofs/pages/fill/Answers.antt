use Rattle.std.proofs.Common.{◌≡◌, ◌∙◌, sym, subst, true, Some}
use Rattle.std.specs.Option.{option_map}
use Rattle.cp_page.specs.Rows.{is_after}
use Rattle.cp_page.proofs.Rising.{Takes, takes_any, takes_more}
use Rattle.cp_memory_calls.proofs.pages.fill.Goals as goal

pub loop-row-init : goal.loop-row-init
loop-row-init c = takes_any _ c.requires

pub loop-row-preserved : goal.loop-row-preserved
loop-row-preserved c =
    let here = c.as_slice.ensures in
    let after = subst (λ k. is_after (option_map (λ b. b.now) c.loop-row.before) k ≡ true) (sym here) (c.comes_next.ensures.after c.if-not-comes_next.false) in
    subst (λ k. Takes c.push.new.self (Some k)) (here ∙ sym c.as_slice-in-loop-row-2.ensures)
    (takes_more _ _ _ _ (c.loop-row.invariant c.as_slice.result.now c.as_slice-in-loop-row.result.now after) c.push.ensures.rows)
