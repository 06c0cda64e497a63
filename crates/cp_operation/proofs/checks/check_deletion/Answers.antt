use Rattle.std.proofs.Common.{sym, ap, ◌∙◌, not, []}
use Rattle.cp_model.specs.Place.{child}
use Rattle.cp_model.specs.Subtrees.{is_there}
use Rattle.cp_model.specs.declared.refusal.Refusal.TheVariants.{NoLabel}
use Rattle.cp_operation.proofs.Cases.{del-refused, del-decided, case-is, case-not}
use Rattle.cp_operation.proofs.checks.check_deletion.Goals as goal

pub returns-in-Some : goal.returns-in-Some
returns-in-Some g c = λ ss. sym (del-refused ss (g.R.TreeRep.contents c.args.tree.now) c.args.label.now c.args.from.now c.in-Some.why (sym c.check_node.ensures ∙ c.in-Some.is))

pub returns-then-not-has_child : goal.returns-then-not-has_child
returns-then-not-has_child g c =
    let t = g.R.TreeRep.contents c.args.tree.now in
    let there = is_there t (child c.args.from.now.path c.args.label.now) in
    λ ss. sym (del-decided ss t c.args.label.now c.args.from.now (sym c.check_node.ensures ∙ c.in_default.is) ∙ case-is (not there) NoLabel [] (ap not (sym c.has_child.ensures ∙ c.if-not-has_child.true)))

pub returns : goal.returns
returns g c =
    let t = g.R.TreeRep.contents c.args.tree.now in
    let there = is_there t (child c.args.from.now.path c.args.label.now) in
    λ ss. sym (del-decided ss t c.args.label.now c.args.from.now (sym c.check_node.ensures ∙ c.in_default.is) ∙ case-not (not there) NoLabel [] (ap not (sym c.has_child.ensures ∙ c.if-not-has_child.false)))
