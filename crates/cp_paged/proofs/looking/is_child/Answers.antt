use Rattle.std.proofs.Common.{◌∙◌}
use Rattle.cp_paged.proofs.Children.{child-by, child-none}
use Rattle.cp_paged.proofs.looking.is_child.Goals as goal

pub returns-in-Some : goal.returns-in-Some
returns-in-Some c = c.is_one.ensures ∙ child-by c.rest_of.result c.in-Some.rest c.args.parent.now c.args.place.now c.in-Some.is c.rest_of.ensures

pub returns-in-None : goal.returns-in-None
returns-in-None c = child-none c.rest_of.result c.args.parent.now c.args.place.now c.in-None.is c.rest_of.ensures
