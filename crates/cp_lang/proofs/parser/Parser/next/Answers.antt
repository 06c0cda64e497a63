use Rattle.cp_lang.proofs.Steps.{next_more, next_none, next_last}
use Rattle.cp_lang.proofs.parser.Parser.next.Goals as goal

pub returns-clause-more : goal.returns-clause-more
returns-clause-more c = next_more c.args.self.now.end c.args.self.now.lexer c.next.new.self c.next.result c.next.ensures

pub returns-clause-none : goal.returns-clause-none
returns-clause-none c = next_none c.args.self.now.end c.args.self.now.lexer c.next.new.self c.next.result c.next.ensures

pub returns-clause-last : goal.returns-clause-last
returns-clause-last c = next_last c.args.self.now.end c.args.self.now.lexer c.next.new.self c.next.result c.next.ensures
