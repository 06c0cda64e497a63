use Rattle.cp_path.specs.declared.limits.TheConstants.{NAME_MAX}
use Rattle.cp_format.specs.Faults.{FaultAt}
use Rattle.cp_format.specs.Parts.{count_format, name_text_format, name_format}
use Rattle.cp_format.proofs.Faults.{fault_first, fault_second, fault_alike, passed_on}
use Rattle.cp_format.proofs.Formats.{both}
use Rattle.cp_format.proofs.Leaves.{plain_count}
use Rattle.cp_format.proofs.Labels.{alike_name}
use Rattle.cp_format.proofs.Names.{has_name_text}
use Rattle.cp_format.proofs.name.name_text_behind.Goals as goal

pub returns-in_err-count-clause-fault : goal.returns-in_err-count-clause-fault
returns-in_err-count-clause-fault c =
    let bytes = c.args.bytes.now in
    let e = c.in_err-count.field-0.0 in
    passed_on (FaultAt name_format bytes c.args.at) c.from_residual.result e c.from_residual.ensures
    (fault_alike (both (count_format 1 NAME_MAX) name_text_format) name_format (λ z. z.1) alike_name bytes c.args.at e
    (fault_first (count_format 1 NAME_MAX) name_text_format bytes c.args.at (λ x g h. tt) (λ n f. has_name_text n f.0 f.1) e c.in_err-count.ensures.fault))

pub returns-in_err-text-clause-fault : goal.returns-in_err-text-clause-fault
returns-in_err-text-clause-fault c =
    let bytes = c.args.bytes.now in
    let e = c.in_err-text.field-0.0 in
    passed_on (FaultAt name_format bytes c.args.at) c.from_residual-in_err-text.result e c.from_residual-in_err-text.ensures
    (fault_alike (both (count_format 1 NAME_MAX) name_text_format) name_format (λ z. z.1) alike_name bytes c.args.at e
    (fault_second (count_format 1 NAME_MAX) name_text_format bytes c.args.at (plain_count 1 NAME_MAX) c.in_ok-count.at c.in_ok-count.count c.in_ok-count.ensures.read e c.in_err-text.ensures.fault))
