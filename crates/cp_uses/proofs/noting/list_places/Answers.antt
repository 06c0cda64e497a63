use Rattle.std.proofs.Common.{sym, subst}
use Rattle.std.specs.List.Sorted.{IsStrictlySortedBy}
use Rattle.cp_uses.specs.Users.{place_cmp}
use Rattle.cp_uses.proofs.Noted.{all-listed, listed-more}
use Rattle.cp_uses.proofs.noting.list_places.Goals as goal

pub loop-place-preserved : goal.loop-place-preserved
loop-place-preserved c = listed-more c.args.users.now.keys c.loop-place.items.items c.push.new.self.items c.loop-place.place-iterator c.next.new.self c.in-Some.place.now c.in_ok-clone.field-0 c.loop-place.invariant c.in-Some.ensures.steps c.in_ok-clone.ensures.cases c.in_ok-push.ensures.items

pub returns-clause-all : goal.returns-clause-all
returns-clause-all c = all-listed c.args.users.now.keys c.loop-place.items.items c.loop-place.place-iterator c.loop-place.invariant c.in-None.ensures.steps.0

pub returns-clause-order : goal.returns-clause-order
returns-clause-order c =
    subst (IsStrictlySortedBy place_cmp) (sym (all-listed c.args.users.now.keys c.loop-place.items.items c.loop-place.place-iterator c.loop-place.invariant c.in-None.ensures.steps.0)) c.len.ensures.ordered
