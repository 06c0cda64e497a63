-- What is read of a slot, and of none.
use Rattle.std.specs.Prelude.{ℕ, []}
use Rattle.std.specs.declared.option.Option.{Option}
use Rattle.std.specs.declared.option.Option.TheVariants.{None, Some}
use Rattle.cp_tree.specs.Sums.{sums_of}
use Rattle.cp_tree.specs.declared.sums.Sums.{Sums}
use Rattle.cp_tree_arena.specs.declared.slot.Slot.{Slot}
use Rattle.cp_tree_arena.specs.declared.slot.Links.{Links}

-- the number of no slot
abbrev pub NO_SLOT : ℕ
NO_SLOT = 4294967295

-- the height of a slot, and 0 for none
abbrev pub height_in : Option Slot → ℕ
height_in None = 0
height_in (Some s) = s.height

-- what the places at a slot and below add up to, and nothing for none
abbrev pub sums_in : Option Slot → Sums
sums_in None = sums_of []
sums_in (Some s) = s.sums

-- the links of a slot, and none for none
abbrev pub links_in : Option Slot → Links
links_in None = record { left = record { number = NO_SLOT }; children = record { number = NO_SLOT }; right = record { number = NO_SLOT } }
links_in (Some s) = s.links
