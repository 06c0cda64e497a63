use Rattle.std.proofs.Common.{sym, arith}
use Rattle.cp_tree_share.proofs.At.{at_full}
use Rattle.cp_tree_share.proofs.InPlace.{cut_left_less, cut_right_less, cut_left_children, cut_left_sides, cut_left_done, cut_right_children, cut_right_sides, cut_right_done}
use Rattle.cp_tree_share.proofs.forest.Forest.+cut.Goals as goal

pub cut-requires : goal.cut-requires
cut-requires t c =
    let f = at_full c.in-Full.shared c.self.view_is c.self.invariant c.in-Full.is in
    let lt = sym (rw c.in-Some.ensures.value at c.in-Less.ensures) in
    rw c.in-Some.ensures.value (omega (arith, cut_left_less _ _ f c.args.label.now c.requires, c.decreases), cut_left_children _ _ f c.args.label.now c.requires lt)

pub settle-requires-clause-children : goal.settle-requires-clause-children
settle-requires-clause-children t c =
    let f = at_full c.in-Full.shared c.self.view_is c.self.invariant c.in-Full.is in
    let lt = sym (rw c.in-Some.ensures.value at c.in-Less.ensures) in
    rw c.in-Some.ensures.value (cut_left_sides _ _ f c.args.label.now c.requires lt _ (rw (c.in-Some.ensures.value, c.if-done.true) at c.in_ok-done-in-Less.ensures.ok))

pub returns-then-done-clause-ok : goal.returns-then-done-clause-ok
returns-then-done-clause-ok t c =
    let f = at_full c.in-Full.shared c.self.view_is c.self.invariant c.in-Full.is in
    let lt = sym (rw c.in-Some.ensures.value at c.in-Less.ensures) in
    cut_left_done _ _ f c.args.label.now c.requires lt _ (rw (c.in-Some.ensures.value, c.if-done.true) at c.in_ok-done-in-Less.ensures.ok) c.settle.new.self c.settle.ensures.fork (rw c.in-Some.ensures.value at c.settle.ensures.parts)

pub cut-requires-in-Greater : goal.cut-requires-in-Greater
cut-requires-in-Greater t c =
    let f = at_full c.in-Full.shared c.self.view_is c.self.invariant c.in-Full.is in
    let gt = sym (rw c.in-Some.ensures.value at c.in-Greater.ensures) in
    rw c.in-Some.ensures.value (omega (arith, cut_right_less _ _ f c.args.label.now c.requires, c.decreases), cut_right_children _ _ f c.args.label.now c.requires gt)

pub settle-requires-then-done-2-clause-children : goal.settle-requires-then-done-2-clause-children
settle-requires-then-done-2-clause-children t c =
    let f = at_full c.in-Full.shared c.self.view_is c.self.invariant c.in-Full.is in
    let gt = sym (rw c.in-Some.ensures.value at c.in-Greater.ensures) in
    rw c.in-Some.ensures.value (cut_right_sides _ _ f c.args.label.now c.requires gt _ (rw (c.in-Some.ensures.value, c.if-done-2.true) at c.in_ok-done-in-Greater.ensures.ok))

pub returns-then-done-2-clause-ok : goal.returns-then-done-2-clause-ok
returns-then-done-2-clause-ok t c =
    let f = at_full c.in-Full.shared c.self.view_is c.self.invariant c.in-Full.is in
    let gt = sym (rw c.in-Some.ensures.value at c.in-Greater.ensures) in
    cut_right_done _ _ f c.args.label.now c.requires gt _ (rw (c.in-Some.ensures.value, c.if-done-2.true) at c.in_ok-done-in-Greater.ensures.ok) c.settle-then-done-2.new.self c.settle-then-done-2.ensures.fork (rw c.in-Some.ensures.value at c.settle-then-done-2.ensures.parts)
