-- The verdict on the records of items, and what the next records make of it.
use Rattle.std.specs.Prelude.{ℕ, ◌≡◌, ◌+◌, true, List, length}
use Rattle.std.specs.List.{flat_map}
use Rattle.std.specs.declared.option.Option.TheVariants.{None}
use Rattle.cp_model.specs.declared.record.Record.{Record}
use Rattle.cp_model.specs.declared.record.Verdict.{Verdict}
use Rattle.cp_model.specs.declared.record.Verdict.TheVariants.{Agrees, Differs, TreeDiffers, NumberDiffers}
use Rattle.cp_frame.specs.Items.{Item, AllStand, records_in}
use Rattle.cp_verify.specs.Verify.{FirstDiffer, IsFirstWrong}

-- the verdict on the records of these items, where this is the offset of each
abbrev pub IsVerdict : (ℕ → ℕ) → List Item → Verdict → Type 0
IsVerdict place items (Agrees n) = AllStand true None items × (n ≡ length (flat_map records_in items))
IsVerdict place items (Differs at a b) = (number : ℕ) × IsFirstWrong items number a b × (at ≡ place number)
IsVerdict place items (TreeDiffers at q) = ⊥
IsVerdict place items (NumberDiffers at m n) = ⊥

-- the verdict after these records at this offset, where those are expected: the first that differ decide it
abbrev pub Judges : ℕ → List Record → List Record → Verdict → Verdict → Type 0
Judges at stored expected (Agrees n) (Agrees m) = (stored ≡ expected) × (m ≡ n + length stored)
Judges at stored expected (Agrees n) (Differs k a b) = (k ≡ at) × FirstDiffer stored expected a b
Judges at stored expected (Agrees n) (TreeDiffers k q) = ⊥
Judges at stored expected (Agrees n) (NumberDiffers k m o) = ⊥
Judges at stored expected (Differs k a b) v = v ≡ Differs k a b
Judges at stored expected (TreeDiffers k q) v = v ≡ TreeDiffers k q
Judges at stored expected (NumberDiffers k m n) v = v ≡ NumberDiffers k m n
