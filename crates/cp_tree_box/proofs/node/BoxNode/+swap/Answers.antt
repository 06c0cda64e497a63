use Rattle.std.proofs.Common.{◌∙◌, sym, arith}
use Rattle.cp_tree.proofs.BranchLemmas.{sub-root}
use Rattle.cp_tree.proofs.GoodLemmas.{rooted-branch}
use Rattle.cp_tree_box.proofs.Maps.{no_length}
use Rattle.cp_tree_box.proofs.Edges.{replaced-root, not_there, there_below, had_below, put_below}
use Rattle.cp_tree_box.proofs.node.BoxNode.+swap.Goals as goal

pub swap-requires : goal.swap-requires
swap-requires t c =
    (omega (arith, c.in-Some.ensures.cases.1), (there_below _ _ _ c.self.view_is c.self.invariant _ _ _ _ c.in-Some.ensures.cases.0 c.in-Some-get_mut.ensures.value c.requires.there, c.requires.rooted))

pub unreachable-requires : goal.unreachable-requires
unreachable-requires t c = not_there _ _ _ c.self.view_is c.self.invariant _ _ _ c.in-Some.ensures.cases.0 c.in-None-get_mut.ensures.value c.requires.there

pub invariant_of-self : goal.invariant_of-self
invariant_of-self t c =
    (put_below _ _ _ c.self.view_is c.self.invariant _ _ _ _ c.in-Some.ensures.cases.0 c.in-Some-get_mut.ensures.value _ c.swap.new.self (c.get_mut.follows.holds c.swap.new.self).0 c.swap.ensures.whole _ c.swap.ensures.changed).good

pub returns-in-None-clause-changed : goal.returns-in-None-clause-changed
returns-in-None-clause-changed t c = rw (no_length _ c.in-None.ensures.cases) (c.replace.ensures.after ∙ sym (replaced-root c.args.new c.args.self.now))

pub returns-in-None-clause-back : goal.returns-in-None-clause-back
returns-in-None-clause-back t c = rw (no_length _ c.in-None.ensures.cases) (c.replace.ensures.value ∙ sym (sub-root c.args.self.now))

pub returns-in-Some-get_mut-clause-changed : goal.returns-in-Some-get_mut-clause-changed
returns-in-Some-get_mut-clause-changed t c =
    (put_below _ _ _ c.self.view_is c.self.invariant _ _ _ _ c.in-Some.ensures.cases.0 c.in-Some-get_mut.ensures.value _ c.swap.new.self (c.get_mut.follows.holds c.swap.new.self).0 c.swap.ensures.whole _ c.swap.ensures.changed).is

pub returns-in-Some-get_mut-clause-back : goal.returns-in-Some-get_mut-clause-back
returns-in-Some-get_mut-clause-back t c = c.swap.ensures.back ∙ sym (had_below _ _ _ c.self.view_is c.self.invariant _ _ _ _ c.in-Some.ensures.cases.0 c.in-Some-get_mut.ensures.value)

pub returns-in-Some-get_mut-clause-whole : goal.returns-in-Some-get_mut-clause-whole
returns-in-Some-get_mut-clause-whole t c =
    rooted-branch _ _ (put_below _ _ _ c.self.view_is c.self.invariant _ _ _ _ c.in-Some.ensures.cases.0 c.in-Some-get_mut.ensures.value _ c.swap.new.self (c.get_mut.follows.holds c.swap.new.self).0 c.swap.ensures.whole _ c.swap.ensures.changed).good
