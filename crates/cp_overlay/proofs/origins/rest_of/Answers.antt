use Rattle.cp_overlay.proofs.Runs.{stripped}
use Rattle.cp_overlay.proofs.origins.rest_of.Goals as goal

pub returns : goal.returns
returns c = stripped c.args.prefix.now c.args.place.now c.strip_prefix.result c.strip_prefix.ensures.cases
