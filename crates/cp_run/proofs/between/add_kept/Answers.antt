use Rattle.std.proofs.Common.{◌∙◌, ap, sym, false, Err}
use Rattle.std.specs.Option.{option_map}
use Rattle.cp_page.specs.Ranges.{found_with}
use Rattle.cp_page.specs.Rows.{rows_of}
use Rattle.cp_run.proofs.BadPages.{fault_of_page}
use Rattle.cp_run.proofs.Composing.{kept_page}
use Rattle.cp_run.proofs.between.add_kept.Goals as goal

pub returns-in-Ok-clause-rows : goal.returns-in-Ok-clause-rows
returns-in-Ok-clause-rows c = λ content all.
    let page = kept_page content c.args.at c.in-Some.page.now c.args.cache.now.entries c.in-Some.ensures all in
    sym (ap (λ l. option_map (found_with c.args.range.low.now c.args.range.high.now c.args.found.now.items false) (rows_of l)) page.bytes) ∙ c.in-Ok.ensures.rows

pub returns-in-Err-clause-bad : goal.returns-in-Err-clause-bad
returns-in-Err-clause-bad c = λ content all n e.
    let page = kept_page content c.args.at c.in-Some.page.now c.args.cache.now.entries c.in-Some.ensures all in
    let fault = c.fault_at.ensures.bad n (fault_of_page _ _ e) in
    (fault.0, sym (ap rows_of page.bytes) ∙ c.in-Err.ensures.bad (ap Err fault.1))
