-- A file without an open slot that tells a history stands for it.
use Rattle.std.proofs.Common.{◌≡◌, sym, ap, ◌∙◌, subst}
use Rattle.std.specs.declared.option.Option.{Option}
use Rattle.std.specs.declared.option.Option.TheVariants.{None}
use Rattle.cp_journal.specs.declared.header.Header.{Header}
use Rattle.cp_journal.specs.declared.header.Slot.{Slot}
use Rattle.cp_frame.specs.Stands.{IsClosed, header_of}
use Rattle.cp_check.specs.Laws.{OlderStoresStand}
use Rattle.cp_journal.specs.Slots.{live_slot, newer}
use Rattle.cp_check.specs.Stands.{IsRightIf}

-- no slot is live
none-live : (h : Header) → IsClosed h → live_slot h ≡ None
none-live h closed = ap (λ (o : Option Slot). newer o h.second) closed.first ∙ ap (newer None) closed.second

pub older_stores_stand : OlderStoresStand
older_stores_stand h c s = record {
  told = s.told;
  live = subst (λ (o : Option Slot). IsRightIf o s.told.frames s.told.items c) (sym (none-live (header_of c) s.closed)) tt;
}
