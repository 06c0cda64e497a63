use Rattle.cp_format.specs.Faults.{FaultAt}
use Rattle.cp_format.specs.Parts.{count_format, text_format, label_format}
use Rattle.cp_format.proofs.Faults.{fault_first, fault_second, fault_alike, passed_on}
use Rattle.cp_format.proofs.Formats.{both}
use Rattle.cp_format.proofs.Leaves.{plain_count}
use Rattle.cp_format.proofs.Labels.{alike_label}
use Rattle.cp_format.proofs.Texts.{has_text}
use Rattle.cp_format.proofs.place.label_text_at.Goals as goal

pub returns-in_err-count-clause-fault : goal.returns-in_err-count-clause-fault
returns-in_err-count-clause-fault c =
    let most = c.args.most in
    let bytes = c.args.bytes.now in
    let e = c.in_err-count.field-0.0 in
    passed_on (FaultAt (label_format most) bytes c.args.at) c.from_residual.result e c.from_residual.ensures
    (fault_alike (both (count_format 0 most) text_format) (label_format most) (λ z. z.1) (alike_label most) bytes c.args.at e
    (fault_first (count_format 0 most) text_format bytes c.args.at (λ x g h. tt) (λ n f. has_text n) e c.in_err-count.ensures.fault))

pub returns-in_err-text-clause-fault : goal.returns-in_err-text-clause-fault
returns-in_err-text-clause-fault c =
    let most = c.args.most in
    let bytes = c.args.bytes.now in
    let e = c.in_err-text.field-0.0 in
    passed_on (FaultAt (label_format most) bytes c.args.at) c.from_residual-in_err-text.result e c.from_residual-in_err-text.ensures
    (fault_alike (both (count_format 0 most) text_format) (label_format most) (λ z. z.1) (alike_label most) bytes c.args.at e
    (fault_second (count_format 0 most) text_format bytes c.args.at (plain_count 0 most) c.in_ok-count.at c.in_ok-count.count c.in_ok-count.ensures.read e c.in_err-text.ensures.fault))
