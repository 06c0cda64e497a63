use Rattle.std.proofs.Common.{◌≡◌, ◌≤◌, false, length, take}
use Rattle.cp_store.specs.Calls.{Asked}
use Rattle.cp_store.specs.Counts.{store_in, counted}
use Rattle.cp_uses.specs.Front.{IsFront}
use Rattle.cp_uses.specs.Index.{copies_by}
use Rattle.cp_uses.specs.InTime.{has_late}
use Rattle.cp_uses.specs.Following.{progress, IsKept, Spreads}
use Rattle.cp_uses.specs.Onward.{AddsLater}
use Rattle.cp_uses.specs.Stays.{IsKnown}
use Rattle.cp_uses.proofs.spreading.spread_by.Given as goal

abbrev pub invariant-loop-step : goal.invariant-loop-step
invariant-loop-step g l = record {
  within : l.step-index ≤ length l.steps;
  front : IsFront l.front;
  kind : l.kind ≡ g.P.ProvStore.kept_kind (store_in l.store);
  later : AddsLater l.from.tid l.step-index l.initial.front.found.items l.front.found.items;
  in_time : IsKept g.P.ProvStore (store_in l.initial.store) l.index → IsKnown l.kind l.index l.from l.initial.stay
      → has_late l.kind l.index l.from (take l.step-index (copies_by l.index l.key l.from.tid)) ≡ false;
  spreads : IsKept g.P.ProvStore (store_in l.initial.store) l.index → IsKnown l.kind l.index l.from l.initial.stay
      → Spreads l.kind l.index l.from (take l.step-index (copies_by l.index l.key l.from.tid)) 0 (g.P.ProvStore.last_tid (store_in l.initial.store))
      (progress l.initial.front l.initial.stay l.initial.store) (progress l.front l.stay l.store);
  asked : Asked (counted g.P.ProvStore) l.initial.store l.store;
}
