use Rattle.std.proofs.Common.{sym, ap, ◌∙◌, arith, ◌≡◌, ◌<◌, ◌||◌, length}
use Rattle.std.specs.Prelude.{sum_by}
use Rattle.std.proofs.Math.ListN.{get_or}
use Rattle.std.proofs.Math.Bool.{or-false}
use Rattle.cp_store.specs.Counts.{store_in, counted}
use Rattle.cp_uses.specs.Current.{stands_now}
use Rattle.cp_uses.specs.InTime.{calls_in_time}
use Rattle.cp_uses.specs.Users.{is_among}
use Rattle.cp_uses.proofs.Noted.{stands-next}
use Rattle.cp_store.proofs.AskLemmas.{not-asked, asked-on}
use Rattle.cp_uses.proofs.Following.{kept-on}
use Rattle.cp_uses.proofs.Taken.{fan-few}
use Rattle.cp_uses.proofs.Weights.{first-more, later-long, left-lighter}
use Rattle.cp_uses.proofs.Closed.{begins-closing, ends-closing, closing-more, calls-more, taken-all, get_or-default}
use Rattle.cp_uses.proofs.closing.close.Goals as goal

pub loop-next-init : goal.loop-next-init
loop-next-init g c = record {
  front = c.requires.front;
  kind = c.requires.kind;
  within = omega arith;
  closing = λ kept. begins-closing _ _ _ _;
  users = λ kept p. sym (or-false (is_among p c.args.users.now.keys));
  calls = λ kept. omega arith;
  asked = not-asked (counted g.P.ProvStore) c.args.store.now;
}

pub loop-next-smaller : goal.loop-next-smaller
loop-next-smaller g c =
    let now = c.loop-next.front.found.items in
    let n : c.loop-next.next < length now = omega (arith, c.loop-next-test.true, c.len.ensures) in
    left-lighter (length c.args.index.now) now c.visit.new.front.found.items c.loop-next.next c.in_ok-from.from n
    (c.in_ok-from.ensures.same ∙ c.index.ensures ∙ get_or-default now c.loop-next.next c.index.result.now c.in_ok-from.from n)
    _ c.in_ok-visit.ensures.later (fan-few c.args.kind c.args.index.now c.in_ok-from.from) c.in_ok-from.ensures.bound

pub loop-next-preserved : goal.loop-next-preserved
loop-next-preserved g c =
    let i = c.loop-next.invariant in
    let rs = c.args.index.now in
    let now = c.loop-next.front.found.items in
    let new = c.visit.new.front.found.items in
    let x = c.in_ok-from.from in
    let n : c.loop-next.next < length now = omega (arith, c.loop-next-test.true, c.len.ensures) in
    let at : x ≡ get_or now c.loop-next.next x = c.in_ok-from.ensures.same ∙ c.index.ensures ∙ get_or-default now c.loop-next.next c.index.result.now x n in
    let later = c.in_ok-visit.ensures.later in
    let first = first-more (length c.args.index.now) now new c.loop-next.next x n at _ later in
    record {
      front = c.in_ok-visit.ensures.front;
      kind = i.kind ∙ sym c.in_ok-visit.ensures.asks.kind;
      within = later-long (length c.args.index.now) now new c.loop-next.next x n at _ later;
      closing = λ kept. closing-more c.args.kind rs rs now new c.loop-next.next x n at first (c.in_ok-visit.ensures.found (kept-on g.P.ProvStore _ _ rs i.asked kept)) c.args.front.now.found.items (i.closing kept);
      users = λ kept p. stands-next c.args.kind rs (g.P.ProvStore.last_tid (store_in c.args.store.now)) _ (g.R.TreeRep.contents c.args.tree.now) now new c.loop-next.next x first i.asked.last _ _ _ p (i.users kept p) (c.in_ok-visit.ensures.users (kept-on g.P.ProvStore _ _ rs i.asked kept) p);
      calls = λ kept. calls-more (calls_in_time c.args.kind rs) now new c.loop-next.next x first _ _ _ (i.calls kept) (c.in_ok-visit.ensures.calls (kept-on g.P.ProvStore _ _ rs i.asked kept));
      asked = asked-on (counted g.P.ProvStore) _ _ _ i.asked c.in_ok-visit.ensures.asks;
    }

pub returns-clause-closed : goal.returns-clause-closed
returns-clause-closed g c = λ kept.
    let b = c.loop-next.invariant.within in
    ends-closing _ _ _ _ _ c.loop-next.next (c.loop-next.invariant.closing kept) (omega (arith, c.loop-next-test.false, c.len.ensures)) b

pub returns-clause-users : goal.returns-clause-users
returns-clause-users g c = λ kept p.
    let b = c.loop-next.invariant.within in
    let all = taken-all c.loop-next.front.found.items c.loop-next.next (omega (arith, c.loop-next-test.false, c.len.ensures)) b in
    c.loop-next.invariant.users kept p ∙ ap (λ l. is_among p c.args.users.now.keys || stands_now c.args.kind c.args.index.now (g.P.ProvStore.last_tid (store_in c.args.store.now)) (g.R.TreeRep.contents c.args.tree.now) l p) all

pub returns-clause-calls : goal.returns-clause-calls
returns-clause-calls g c = λ kept.
    let b = c.loop-next.invariant.within in
    let all = ap (sum_by (calls_in_time c.args.kind c.args.index.now)) (taken-all c.loop-next.front.found.items c.loop-next.next (omega (arith, c.loop-next-test.false, c.len.ensures)) b) in
    let most = c.loop-next.invariant.calls kept in
    omega (arith, all, most)
