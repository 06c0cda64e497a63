use Rattle.std.proofs.Common.{◌∙◌, ap}
use Rattle.cp_lang.specs.Grammar.{Move, takes, refused_or, edge_end}
use Rattle.cp_lang.specs.Parser.{reading, within, after_edge}
use Rattle.cp_lang.proofs.Steps.{after_reads}
use Rattle.cp_lang.proofs.parser.Parser.has_more.Goals as goal

pub returns-in-Some-clause-reads : goal.returns-in-Some-clause-reads
returns-in-Some-clause-reads c = λ a es ls. after_reads _ _ _ _ _ c.in-Some.more a es ls (c.in_ok-token.ensures.reads (edge_end (within a es ls))) (c.has_next.ensures (within a es ls)) c.in-Some.is

pub returns-in-None-clause-reads : goal.returns-in-None-clause-reads
unfolding takes
returns-in-None-clause-reads c = λ ls. c.in_ok-token.ensures.reads (edge_end ls) ∙ ap (λ (u : Move). refused_or u c.in_ok-token.token.at (reading c.token.new.self)) (c.has_next.ensures ls ∙ ap (λ v. after_edge v ls) c.in-None.is)
