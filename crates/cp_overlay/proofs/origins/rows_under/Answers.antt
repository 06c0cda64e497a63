use Rattle.std.proofs.Common.{◌++◌, ap, sym, ◌∙◌}
use Rattle.cp_model.specs.Subtrees.{entries_under}
use Rattle.cp_overlay.specs.Shown.{shown}
use Rattle.cp_overlay.proofs.Sets.{under_more, under_done, no_items}
use Rattle.cp_overlay.proofs.origins.rows_under.Goals as goal

pub loop-row-preserved : goal.loop-row-preserved
loop-row-preserved c =
    ap (λ xs. xs ++ entries_under c.args.place.now (shown c.next.new.self.rest.items)) c.in_ok-push_under.ensures
    ∙ under_more c.args.place.now (shown c.loop-row.all.items) c.in-Some.row c.next.new.self.rest.items c.loop-row.row-iterator.rest.items c.in-Some.ensures.steps.0
    ∙ c.loop-row.invariant

pub returns : goal.returns
returns c =
    under_done c.args.place.now c.loop-row.all.items c.loop-row.row-iterator.rest.items c.args.rows.items c.loop-row.invariant
    (no_items c.loop-row.row-iterator.rest.items (sym c.loop-row.row-iterator.rest.ok.0 ∙ c.in-None.ensures.steps.0))
