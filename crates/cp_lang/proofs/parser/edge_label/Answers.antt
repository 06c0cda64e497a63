use Rattle.std.proofs.lemmas.Result.{err_from_is_err_and}
use Rattle.cp_lang.specs.Grammar.{new_edge}
use Rattle.cp_lang.specs.Parser.{within}
use Rattle.cp_lang.proofs.parser.edge_label.Goals as goal

pub returns-in_err-label-clause-reads : goal.returns-in_err-label-clause-reads
returns-in_err-label-clause-reads c = let p = err_from_is_err_and c.from_residual.result c.from_residual.ensures.1 in rw (p.1, p.2) (λ b ls h. c.in_err-label.ensures.reads (new_edge (within b c.args.edges.now.entries ls)))
