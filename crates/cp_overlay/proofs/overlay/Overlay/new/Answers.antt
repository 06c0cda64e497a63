use Rattle.cp_overlay.specs.Lost.{lost_in}
use Rattle.cp_overlay.specs.Shown.{kept}
use Rattle.cp_overlay.proofs.Found.{kept_empty}
use Rattle.cp_overlay.proofs.SparseLemmas.{sparse_none}
use Rattle.cp_overlay.proofs.Standing.{stands-new}
use Rattle.cp_overlay.proofs.overlay.Overlay.new.Goals as goal

pub returns : goal.returns
returns c = λ t. stands-new (record { origins = kept c.new.result; lost = lost_in c.new-2.result }) t (kept_empty c.new.result c.new.ensures.empty)

pub invariant_of-result : goal.invariant_of-result
invariant_of-result c = record { sparse = sparse_none (kept c.new.result) (kept_empty c.new.result c.new.ensures.empty) }
