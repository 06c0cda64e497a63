use Rattle.std.proofs.Common.{◌∙◌, sym, ap, arith}
use Rattle.cp_model.specs.Place.{child}
use Rattle.cp_tree.proofs.GoodLemmas.{rooted-branch}
use Rattle.cp_tree_box.proofs.Maps.{no_length}
use Rattle.cp_tree_box.proofs.Edges.{put_here, no_node, got_below, tried_below, whole_as}
use Rattle.cp_tree_box.proofs.node.BoxNode.+insert.Goals as goal

pub invariant_of-self-in-None : goal.invariant_of-self-in-None
invariant_of-self-in-None t c = (put_here _ _ _ c.self.view_is c.self.invariant _ _ c.args.label.now c.args.new (no_length _ c.in-None.ensures.cases) c.requires.node c.requires.rooted c.in_ok-put_child-in-None.ensures.ok).good

pub returns-in_ok-put_child-in-None-clause-ok : goal.returns-in_ok-put_child-in-None-clause-ok
returns-in_ok-put_child-in-None-clause-ok t c = (put_here _ _ _ c.self.view_is c.self.invariant _ _ c.args.label.now c.args.new (no_length _ c.in-None.ensures.cases) c.requires.node c.requires.rooted c.in_ok-put_child-in-None.ensures.ok).is

pub insert-requires : goal.insert-requires
insert-requires t c =
    (omega (arith, c.in-Some.ensures.cases.1), (sym (got_below _ _ _ c.self.view_is c.self.invariant _ _ _ _ c.in-Some.ensures.cases.0 c.in-Some-get_mut.ensures.value) ∙ c.requires.node, c.requires.rooted))

pub unreachable-requires : goal.unreachable-requires
unreachable-requires t c = no_node _ _ _ c.self.view_is c.self.invariant _ _ _ c.in-Some.ensures.cases.0 c.in-None-get_mut.ensures.value c.requires.node

pub invariant_of-self-in-Some : goal.invariant_of-self-in-Some
invariant_of-self-in-Some t c =
    let now = c.insert in
    (tried_below _ _ _ c.self.view_is c.self.invariant _ _ _ _ (ap (λ z. child z c.args.label.now) c.in-Some.ensures.cases.0) c.in-Some-get_mut.ensures.value _ now.new.self (c.get_mut.follows.holds now.new.self).0 now.ensures.whole now.result _ now.ensures.ok now.ensures.err).good

pub returns-in-Some-get_mut-clause-ok : goal.returns-in-Some-get_mut-clause-ok
returns-in-Some-get_mut-clause-ok t c =
    let now = c.insert in
    (tried_below _ _ _ c.self.view_is c.self.invariant _ _ _ _ (ap (λ z. child z c.args.label.now) c.in-Some.ensures.cases.0) c.in-Some-get_mut.ensures.value _ now.new.self (c.get_mut.follows.holds now.new.self).0 now.ensures.whole now.result _ now.ensures.ok now.ensures.err).ok

pub returns-in-Some-get_mut-clause-err : goal.returns-in-Some-get_mut-clause-err
returns-in-Some-get_mut-clause-err t c =
    let now = c.insert in
    (tried_below _ _ _ c.self.view_is c.self.invariant _ _ _ _ (ap (λ z. child z c.args.label.now) c.in-Some.ensures.cases.0) c.in-Some-get_mut.ensures.value _ now.new.self (c.get_mut.follows.holds now.new.self).0 now.ensures.whole now.result _ now.ensures.ok now.ensures.err).err

pub returns-in_err-put_child-in-None-clause-whole : goal.returns-in_err-put_child-in-None-clause-whole
returns-in_err-put_child-in-None-clause-whole t c = whole_as _ _ _ c.self.view_is c.self.invariant _ c.in_err-put_child-in-None.ensures.err

pub returns-in_ok-put_child-in-None-clause-whole : goal.returns-in_ok-put_child-in-None-clause-whole
returns-in_ok-put_child-in-None-clause-whole t c =
    rooted-branch _ _ (put_here _ _ _ c.self.view_is c.self.invariant _ _ c.args.label.now c.args.new (no_length _ c.in-None.ensures.cases) c.requires.node c.requires.rooted c.in_ok-put_child-in-None.ensures.ok).good

pub returns-in-Some-get_mut-clause-whole : goal.returns-in-Some-get_mut-clause-whole
returns-in-Some-get_mut-clause-whole t c =
    let now = c.insert in
    rooted-branch _ _ (tried_below _ _ _ c.self.view_is c.self.invariant _ _ _ _ (ap (λ z. child z c.args.label.now) c.in-Some.ensures.cases.0) c.in-Some-get_mut.ensures.value _ now.new.self (c.get_mut.follows.holds now.new.self).0 now.ensures.whole now.result _ now.ensures.ok now.ensures.err).good
