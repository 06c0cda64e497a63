use Rattle.std.proofs.Common.{◌≡◌, ◌≤◌, ◌+◌, ◌||◌, take, drop, length}
use Rattle.std.specs.Prelude.{sum_by}
use Rattle.cp_store.specs.Calls.{Asked}
use Rattle.cp_store.specs.Counts.{store_in, calls_in, counted}
use Rattle.cp_uses.specs.Front.{IsFront}
use Rattle.cp_path.specs.declared.loc.Loc.{Loc}
use Rattle.cp_uses.specs.Current.{stands_now}
use Rattle.cp_uses.specs.InTime.{calls_in_time}
use Rattle.cp_uses.specs.Following.{IsKept}
use Rattle.cp_uses.specs.Users.{is_among}
use Rattle.cp_uses.proofs.Closed.{IsClosing}
use Rattle.cp_uses.proofs.Weights.{weight}
use Rattle.cp_uses.proofs.closing.close.Given as goal

abbrev pub invariant-loop-next : goal.invariant-loop-next
invariant-loop-next g l = record {
  front : IsFront l.front;
  kind : l.kind ≡ g.P.ProvStore.kept_kind (store_in l.store);
  within : l.next ≤ length l.front.found.items;
  closing : IsKept g.P.ProvStore (store_in l.initial.store) l.index → IsClosing l.kind l.index l.index l.initial.front.found.items l.front.found.items l.next;
  users : IsKept g.P.ProvStore (store_in l.initial.store) l.index → (p : Loc) → is_among p l.users.keys
      ≡ (is_among p l.initial.users.keys || stands_now l.kind l.index (g.P.ProvStore.last_tid (store_in l.initial.store)) (g.R.TreeRep.contents l.tree) (take l.next l.front.found.items) p);
  calls : IsKept g.P.ProvStore (store_in l.initial.store) l.index
      → calls_in l.store ≤ calls_in l.initial.store + sum_by (calls_in_time l.kind l.index) (take l.next l.front.found.items);
  asked : Asked (counted g.P.ProvStore) l.initial.store l.store;
}

abbrev pub decreases-loop-next : goal.decreases-loop-next
decreases-loop-next g l = sum_by (weight (length l.index)) (drop l.next l.front.found.items)
