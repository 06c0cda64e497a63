use Rattle.std.proofs.Common.{sym, arith}
use Rattle.cp_tree_share.proofs.At.{at_full}
use Rattle.cp_tree_share.proofs.InPlace.{left_less, right_less, left_children, left_sides, left_done, right_children, right_sides, right_done, mid_children, mid_done}
use Rattle.cp_tree_share.proofs.forest.Forest.+place.Goals as goal

pub place-requires : goal.place-requires
place-requires t c =
    let f = at_full c.in-Full.shared c.self.view_is c.self.invariant c.in-Full.is in
    let lt = sym (rw c.in-Some.ensures.value at c.in-Less.ensures) in
    rw c.in-Some.ensures.value (omega (arith, left_less _ _ f c.args.entry.now c.requires, c.decreases), left_children _ _ f c.args.entry.now c.requires lt)

pub settle-requires-clause-children : goal.settle-requires-clause-children
settle-requires-clause-children t c =
    let f = at_full c.in-Full.shared c.self.view_is c.self.invariant c.in-Full.is in
    let lt = sym (rw c.in-Some.ensures.value at c.in-Less.ensures) in
    rw c.in-Some.ensures.value (left_sides _ _ f c.args.entry.now c.requires lt _ (rw (c.in-Some.ensures.value, c.if-done.true) at c.in_ok-done-in-Less.ensures.ok))

pub settle-requires-in-Equal-clause-children : goal.settle-requires-in-Equal-clause-children
settle-requires-in-Equal-clause-children t c =
    let f = at_full c.in-Full.shared c.self.view_is c.self.invariant c.in-Full.is in
    let eq = sym (rw c.in-Some.ensures.value at c.in-Equal.ensures) in
    rw (c.in-Some.ensures.value, c.in_ok-fork-in-Equal.ensures) (mid_children _ _ f c.args.entry.now c.requires eq)

pub place-requires-in-Greater : goal.place-requires-in-Greater
place-requires-in-Greater t c =
    let f = at_full c.in-Full.shared c.self.view_is c.self.invariant c.in-Full.is in
    let gt = sym (rw c.in-Some.ensures.value at c.in-Greater.ensures) in
    rw c.in-Some.ensures.value (omega (arith, right_less _ _ f c.args.entry.now c.requires, c.decreases), right_children _ _ f c.args.entry.now c.requires gt)

pub settle-requires-then-done-2-clause-children : goal.settle-requires-then-done-2-clause-children
settle-requires-then-done-2-clause-children t c =
    let f = at_full c.in-Full.shared c.self.view_is c.self.invariant c.in-Full.is in
    let gt = sym (rw c.in-Some.ensures.value at c.in-Greater.ensures) in
    rw c.in-Some.ensures.value (right_sides _ _ f c.args.entry.now c.requires gt _ (rw (c.in-Some.ensures.value, c.if-done-2.true) at c.in_ok-done-in-Greater.ensures.ok))

pub returns-then-done-clause-ok : goal.returns-then-done-clause-ok
returns-then-done-clause-ok t c =
    let f = at_full c.in-Full.shared c.self.view_is c.self.invariant c.in-Full.is in
    let lt = sym (rw c.in-Some.ensures.value at c.in-Less.ensures) in
    left_done _ _ f c.args.entry.now c.requires lt _ (rw (c.in-Some.ensures.value, c.if-done.true) at c.in_ok-done-in-Less.ensures.ok) c.settle.new.self c.settle.ensures.fork (rw c.in-Some.ensures.value at c.settle.ensures.parts)

pub returns-in_ok-fork-in-Equal-clause-ok : goal.returns-in_ok-fork-in-Equal-clause-ok
returns-in_ok-fork-in-Equal-clause-ok t c =
    let f = at_full c.in-Full.shared c.self.view_is c.self.invariant c.in-Full.is in
    let eq = sym (rw c.in-Some.ensures.value at c.in-Equal.ensures) in
    mid_done _ _ f c.args.entry.now c.requires eq c.settle-in-Equal.new.self c.settle-in-Equal.ensures.fork (rw (c.in-Some.ensures.value, c.in_ok-fork-in-Equal.ensures) at c.settle-in-Equal.ensures.parts)

pub returns-then-done-2-clause-ok : goal.returns-then-done-2-clause-ok
returns-then-done-2-clause-ok t c =
    let f = at_full c.in-Full.shared c.self.view_is c.self.invariant c.in-Full.is in
    let gt = sym (rw c.in-Some.ensures.value at c.in-Greater.ensures) in
    right_done _ _ f c.args.entry.now c.requires gt _ (rw (c.in-Some.ensures.value, c.if-done-2.true) at c.in_ok-done-in-Greater.ensures.ok) c.settle-then-done-2.new.self c.settle-then-done-2.ensures.fork (rw c.in-Some.ensures.value at c.settle-then-done-2.ensures.parts)
