use Rattle.std.proofs.Common.{◌≡◌, ◌≤◌, length}
use Rattle.cp_store.specs.Calls.{Asked}
use Rattle.cp_store.specs.Counts.{store_in, counted}
use Rattle.cp_uses.specs.Front.{IsFront}
use Rattle.cp_uses.specs.InTime.{late_sources}
use Rattle.cp_uses.specs.Following.{progress, IsKept, Spreads}
use Rattle.cp_uses.specs.Onward.{AddsLater}
use Rattle.cp_uses.specs.Stays.{IsKnown}
use Rattle.cp_uses.specs.Sources.{source_key, places_above, copies_from}
use Rattle.cp_uses.proofs.Spread.{front_at}
use Rattle.cp_uses.proofs.spreading.spread_above.Given as goal

abbrev pub invariant-loop-label : goal.invariant-loop-label
invariant-loop-label g l = record {
  within : l.label-index ≤ length l.labels;
  front : IsFront l.front;
  kind : l.kind ≡ g.P.ProvStore.kept_kind (store_in l.store);
  key : l.key.items ≡ source_key (front_at l.from.place l.label-index);
  later : AddsLater l.from.tid (length (copies_from l.index (places_above (front_at l.from.place l.label-index)) l.from.tid)) l.fn.front.found.items l.front.found.items;
  spreads : IsKept g.P.ProvStore (store_in l.fn.store) l.index → IsKnown l.kind l.index l.from l.fn.stay
      → Spreads l.kind l.index l.from (copies_from l.index (places_above (front_at l.from.place l.label-index)) l.from.tid)
      (late_sources l.kind l.index l.from (places_above (front_at l.from.place l.label-index))) (g.P.ProvStore.last_tid (store_in l.fn.store))
      (progress l.fn.front l.fn.stay l.fn.store) (progress l.front l.stay l.store);
  asked : Asked (counted g.P.ProvStore) l.fn.store l.store;
}
