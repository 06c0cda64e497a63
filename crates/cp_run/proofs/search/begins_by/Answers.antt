use Rattle.std.proofs.Common.{◌∙◌, ap, sym}
use Rattle.cp_page.specs.Keys.{first_key}
use Rattle.cp_run.specs.Searching.{is_by}
use Rattle.cp_run.proofs.Composing.{kept_page}
use Rattle.cp_run.proofs.search.begins_by.Goals as goal

pub returns-in-Ok-clause-begins : goal.returns-in-Ok-clause-begins
returns-in-Ok-clause-begins c = λ content all.
    let page = kept_page content c.args.at c.in-Some.page.now c.args.cache.now.entries c.in-Some.ensures all in
    c.is_by.ensures ∙ sym (ap (is_by c.args.key.now) c.in-Ok.ensures) ∙ ap (λ l. is_by c.args.key.now (first_key l)) page.bytes

pub returns-in-Err-clause-bad : goal.returns-in-Err-clause-bad
returns-in-Err-clause-bad c = λ content all n e.
    let page = kept_page content c.args.at c.in-Some.page.now c.args.cache.now.entries c.in-Some.ensures all in
    (cc, sym (ap first_key page.bytes) ∙ c.in-Err.ensures)
