use Rattle.std.proofs.Common.{◌≡◌, ◌≤◌, ◌+◌, ◌++◌, List}
use Rattle.cp_model.specs.declared.record.Record.{Record}
use Rattle.cp_store.specs.Calls.{Asked}
use Rattle.cp_store.specs.Counts.{store_in, calls_in, counted}
use Rattle.cp_uses.specs.Front.{IsFront}
use Rattle.cp_uses.specs.Renewals.{renewals_at, changes_at}
use Rattle.cp_uses.proofs.renewals.renew.Given as goal

abbrev pub invariant-loop-change : goal.invariant-loop-change
invariant-loop-change g l = record {
  front : IsFront l.front;
  found : (rs : List Record) → g.P.ProvStore.keeps (store_in l.initial.store) rs
      → l.front.found.items ++ renewals_at (g.P.ProvStore.kept_kind (store_in l.initial.store)) rs l.place l.high
      ≡ l.initial.front.found.items ++ renewals_at (g.P.ProvStore.kept_kind (store_in l.initial.store)) rs l.place (g.P.ProvStore.last_tid (store_in l.initial.store));
  calls : (rs : List Record) → g.P.ProvStore.keeps (store_in l.initial.store) rs
      → calls_in l.store + changes_at (g.P.ProvStore.kept_kind (store_in l.initial.store)) rs l.place l.high
      ≤ calls_in l.initial.store + changes_at (g.P.ProvStore.kept_kind (store_in l.initial.store)) rs l.place (g.P.ProvStore.last_tid (store_in l.initial.store));
  asked : Asked (counted g.P.ProvStore) l.initial.store l.store;
}

abbrev pub decreases-loop-change : goal.decreases-loop-change
decreases-loop-change g l = l.high
