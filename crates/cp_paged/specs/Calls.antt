-- Calls of rows on pages, in the words of a store, and calls of rows by key.
use Rattle.std.specs.Prelude.{Result}
use Rattle.cp_store.specs.declared.store.ProvStore as store
use Rattle.cp_paged.specs.Asking.{StaysKeyed}
use Rattle.cp_paged.specs.declared.keyed.KeyedRows as keyed
use Rattle.cp_paged.specs.declared.places.PlaceRows.{Ghosts}

-- the same members
abbrev pub as_store : {K : Type 0} → Ghosts K → store.Ghosts K
as_store g = record {
  kept_kind = g.kept_kind;
  last_tid = g.last_tid;
  keeps = g.keeps;
  holds = g.holds;
  cost = g.cost;
  reads = g.reads;
  faults = g.faults;
}

-- rows by key were asked
abbrev pub AsksKeys : {L T E : Type 0} → keyed.Ghosts L → (E → Type 0) → L → L → Result T E → Type 0
AsksKeys g = StaysKeyed g.has_rows g.holds g.cost g.reads g.faults
