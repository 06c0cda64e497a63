use Rattle.std.proofs.Common.{◌≡◌, ap, sym, ◌∙◌}
use Rattle.std.specs.Option.{option_copied}
use Rattle.cp_query.proofs.RisingRows.{next-last, next-first}
use Rattle.cp_query.proofs.listing.comes_next.Goals as goal

pub returns-in-Some : goal.returns-in-Some
returns-in-Some c = c.goes_before.ensures ∙ sym (next-last c.args.rows.now c.in-Some.row.now c.args.next.now (sym c.last.ensures.value ∙ ap option_copied c.in-Some.is))

pub returns-in-None : goal.returns-in-None
returns-in-None c = sym (next-first c.args.rows.now c.args.next.now (sym c.last.ensures.value ∙ ap option_copied c.in-None.is))
