use Rattle.std.proofs.Common.{ap, ◌∙◌}
use Rattle.cp_model.specs.Changes.{rises}
use Rattle.cp_query.proofs.RisingRows.{taken-rise}
use Rattle.cp_query.proofs.listing.add_step.Goals as goal

pub returns-clause-order : goal.returns-clause-order
returns-clause-order g c = λ h. ap rises c.in_ok-add_rising.ensures ∙ taken-rise c.args.items.now.items c.rows.inside.items.items h
