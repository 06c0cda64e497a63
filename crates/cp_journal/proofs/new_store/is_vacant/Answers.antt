use Rattle.std.proofs.Common.{rules, ◌≡◌, ◌∙◌, ap, ℕ, List, length, take}
use Rattle.cp_disk.proofs.Composing.{still}
use Rattle.cp_journal.proofs.NewStores.{front_says}
use Rattle.cp_journal.proofs.Faults.{counted_error, counted_after}
use Rattle.cp_journal.proofs.new_store.is_vacant.Goals as goal

pub returns-clause-vacant : goal.returns-clause-vacant
returns-clause-vacant g c = λ known.
    let sized = c.in_ok-size.ensures.sized known in
    let long : length c.read.new.into ≡ c.front_len.result = search rules in
    let bytes = (c.in_ok-read.ensures.filled (still c.in_ok-size.ensures.cause.same known)).bytes ∙ ap (λ (l : List ℕ). take (length c.read.new.into) l) sized.rests.content in
    let says = front_says _ c.read.new.into _ _ sized.size c.if-size-le1.false c.front_len.ensures long bytes in
    (λ yes. says.0 (c.has_no_store.ensures.0 yes), λ vacant. c.has_no_store.ensures.1 (says.1 vacant))

pub returns-in_err-size-clause-cause : goal.returns-in_err-size-clause-cause
returns-in_err-size-clause-cause g c = counted_error c.from_residual.result _ _ c.in_err-size.field-0.0 c.in_err-size.ensures.cause c.from_residual.ensures.1

pub returns-in_err-read-clause-cause : goal.returns-in_err-read-clause-cause
returns-in_err-read-clause-cause g c = counted_after c.from_residual-in_err-read.result _ _ _ _ c.in_ok-size.ensures.cause (counted_error c.from_residual-in_err-read.result _ _ c.in_err-read.field-0.0 c.in_err-read.ensures.cause c.from_residual-in_err-read.ensures.1)
