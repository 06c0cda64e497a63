-- A verdict is on a file that opens, and whose frames tell a history.
use Rattle.std.proofs.Common.{ℕ, List, Ok}
use Rattle.cp_model.specs.declared.record.Verdict.{Verdict}
use Rattle.cp_model.specs.declared.record.Verdict.TheVariants.{Agrees, Differs, TreeDiffers, NumberDiffers}
use Rattle.cp_frame.specs.Stands.{OpensAndReplays}
use Rattle.cp_frame.proofs.Images.{files_open, told-weaker}
use Rattle.cp_verify.specs.Verify.{VerifiesAs}

pub verdict-opens : (c : List ℕ) (x : Verdict) → VerifiesAs c (Ok x) → OpensAndReplays c
verdict-opens c (Agrees n) h = (files_open c h.history h.store, (h.history, told-weaker c h.history h.store.told))
verdict-opens c (Differs at a b) h = (h.opens, (h.history, h.told))
verdict-opens c (TreeDiffers at q) h = absurd h
verdict-opens c (NumberDiffers at m n) h = absurd h
