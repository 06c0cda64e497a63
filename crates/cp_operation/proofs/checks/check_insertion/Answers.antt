use Rattle.std.proofs.Common.{◌≡◌, ◌+◌, true, false, sym, ap, ◌∙◌}
use Rattle.cp_model.specs.Keyed.{len}
use Rattle.cp_model.specs.Place.{child}
use Rattle.cp_model.specs.Subtrees.{is_there}
use Rattle.cp_model.specs.Tree.{weight}
use Rattle.cp_operation.specs.Reaching.{over_by, limit_passed}
use Rattle.cp_operation.proofs.Cases.{ins-refused, ins-there, ins-deep, ins-fits}
use Rattle.cp_operation.proofs.Limits.{ins-over, ins-limits}
use Rattle.cp_operation.proofs.checks.check_insertion.Goals as goal

pub returns-in-Some : goal.returns-in-Some
returns-in-Some g c = λ ss. sym (ins-refused ss (g.R.TreeRep.contents c.args.tree.now) c.args.into.now c.args.label.now c.args.literal.now c.in-Some.why (sym c.check_node.ensures ∙ c.in-Some.is))

pub returns-then-has_child : goal.returns-then-has_child
returns-then-has_child g c =
    λ ss. sym (ins-there ss (g.R.TreeRep.contents c.args.tree.now) c.args.into.now c.args.label.now c.args.literal.now (sym c.check_node.ensures ∙ c.in_default.is) (sym c.has_child.ensures ∙ c.if-has_child.true))

pub returns-then-is_over : goal.returns-then-is_over
returns-then-is_over g c =
    let over : over_by c.args.into.now c.reach_of_literal-added.result.depth c.reach_of_literal-added.result.size ≡ true = sym c.is_over.ensures ∙ c.if-is_over.true in
    λ ss. sym (ins-deep ss (g.R.TreeRep.contents c.args.tree.now) c.args.into.now c.args.label.now c.args.literal.now (sym c.check_node.ensures ∙ c.in_default.is) (sym c.has_child.ensures ∙ c.if-has_child.false)
    (ins-over c.args.into.now c.args.label.now c.args.literal.now ∙ ap (λ r. over_by c.args.into.now r.depth r.size) (sym c.reach_of_literal-added.ensures) ∙ over))

pub returns : goal.returns
returns g c =
    let t = g.R.TreeRep.contents c.args.tree.now in
    let free : is_there t (child c.args.into.now.path c.args.label.now) ≡ false = sym c.has_child.ensures ∙ c.if-has_child.false in
    let over : over_by c.args.into.now c.reach_of_literal-added.result.depth c.reach_of_literal-added.result.size ≡ false = sym c.is_over.ensures ∙ c.if-is_over.false in
    let deep = ins-over c.args.into.now c.args.label.now c.args.literal.now ∙ ap (λ r. over_by c.args.into.now r.depth r.size) (sym c.reach_of_literal-added.ensures) ∙ over in
    let limits = ins-limits t c.args.into.now.path c.args.label.now c.args.literal.now (g.met.R.TreeRep.is_tree c.args.tree.now) c.requires.written free in
    let added = c.reach_of_literal-added.result in
    λ ss. c.check_limits.ensures
    ∙ ap (λ n. limit_passed (n + added.nodes) (c.weight.result + added.inner)) c.count.ensures
    ∙ ap (λ w. limit_passed (len t + added.nodes) (w + added.inner)) c.weight.ensures
    ∙ ap (λ r. limit_passed (len t + r.nodes) (weight t + r.inner)) c.reach_of_literal-added.ensures
    ∙ sym limits
    ∙ sym (ins-fits ss t c.args.into.now c.args.label.now c.args.literal.now (sym c.check_node.ensures ∙ c.in_default.is) free deep)
