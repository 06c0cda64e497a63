use Rattle.std.proofs.Common.{◌∙◌}
use Rattle.cp_lang.proofs.Steps.{edge_there}
use Rattle.cp_lang.proofs.parser.has_edge.Goals as goal

pub returns : goal.returns
returns c = c.contains_key.ensures ∙ edge_there c.args.label.now c.args.edges.now.entries
