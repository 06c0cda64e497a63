use Rattle.cp_paged.proofs.Children.{stripped}
use Rattle.cp_paged.proofs.looking.rest_of.Goals as goal

pub returns : goal.returns
returns c = stripped c.args.prefix.now c.args.place.now c.strip_prefix.result c.strip_prefix.ensures.cases
