use Rattle.std.proofs.lemmas.Map.Iter.{rest_more}
use Rattle.cp_lang.proofs.Steps.{listed}
use Rattle.cp_lang.proofs.parser.list_of.Goals as goal

pub loop-label-preserved : goal.loop-label-preserved
loop-label-preserved c =
    listed c.loop-label.items.items c.push.new.self.items c.in-Some.label c.in-Some.tree c.loop-label.label-iterator c.next.new.self c.args.edges.entries c.loop-label.invariant
    (rest_more (λ x. x) c.loop-label.label-iterator c.next.new.self c.next.result (c.in-Some.label, c.in-Some.tree) c.in-Some.is c.next.ensures.steps) c.in_ok-push.ensures.items
