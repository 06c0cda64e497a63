-- The worked examples, by computation.
use Rattle.std.proofs.Common.{refl}
use Rattle.std.specs.Fmt.{digits}
use Rattle.cp_model.specs.Keyed as keyed
use Rattle.cp_sources.specs.Examples.{ArraysHold}

pub arrays : ArraysHold
unfolding digits keyed.entries keyed.empty keyed.get keyed.insert keyed.retain_keys keyed.put_all keyed.len
arrays = record { numbered = refl; ordered = refl; whole = λ x y z. refl }
