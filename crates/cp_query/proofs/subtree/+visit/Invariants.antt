use Rattle.cp_path.specs.declared.limits.TheConstants.{LABELS_MAX}
use Rattle.std.proofs.Common.{◌-◌, ◌≤◌, ◌+◌, List, length, take}
use Rattle.cp_model.specs.Records.{reads, loses}
use Rattle.cp_model.specs.declared.record.Record.{Record}
use Rattle.cp_store.specs.Calls.{Asked}
use Rattle.cp_query.specs.Bounds.{past_cost, paths_in}
use Rattle.cp_query.specs.Events.{Gathers}
use Rattle.cp_query.proofs.Parts.{sum_children}
use Rattle.cp_query.proofs.Visiting.{HasAmong}
use Rattle.cp_query.proofs.subtree.+visit.Given as goal

abbrev pub decreases-visit : goal.decreases-visit
decreases-visit g l = LABELS_MAX - length l.walk.at.path

abbrev pub invariant-loop-label : goal.invariant-loop-label
invariant-loop-label g l = record {
  found : (rs : List Record) → g.P.ProvStore.keeps l.fn.store rs
      → Gathers (HasAmong (reads (g.P.ProvStore.kept_kind l.fn.store) rs) (loses rs) l.fn.walk.high (g.R.TreeRep.contents l.tree) l.fn.walk.at.path (take l.label-index l.label-items)) l.fn.found.keys l.found.keys;
  spent : (rs : List Record) → g.P.ProvStore.keeps l.fn.store rs
      → g.P.ProvStore.reads l.store ≤ g.P.ProvStore.reads l.fn.store + (past_cost (g.P.ProvStore.kept_kind l.fn.store) rs (g.P.ProvStore.cost l.fn.store) l.fn.walk.high l.fn.walk.at.path
      + sum_children (past_cost (g.P.ProvStore.kept_kind l.fn.store) rs (g.P.ProvStore.cost l.fn.store) l.fn.walk.high) l.fn.walk.at.path (take l.label-index l.label-items) (paths_in (g.R.TreeRep.contents l.tree)));
  asked : Asked g.P.ProvStore l.fn.store l.store;
}
