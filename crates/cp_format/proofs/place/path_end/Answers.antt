use Rattle.std.proofs.Common.{arith}
use Rattle.std.proofs.lemmas.Result.{IfOk-weaker, IfErr-weaker}
use Rattle.cp_path.specs.declared.limits.TheConstants.{LABELS_MAX}
use Rattle.cp_format.specs.Faults.{FaultAt}
use Rattle.cp_format.specs.Parts.{count_format, labels_format, path_format}
use Rattle.cp_format.proofs.Faults.{fault_first, fault_second, fault_alike, passed_on}
use Rattle.cp_format.proofs.Formats.{both}
use Rattle.cp_format.proofs.Labels.{alike_path, has_labels}
use Rattle.cp_format.proofs.Leaves.{plain_count}
use Rattle.cp_format.proofs.Standing.{stands_both}
use Rattle.cp_format.proofs.place.path_end.Goals as goal

pub returns-in_err-count-clause-fault : goal.returns-in_err-count-clause-fault
returns-in_err-count-clause-fault c =
    let bytes = c.args.bytes.now in
    let room = c.args.room in
    let e = c.in_err-count.field-0.0 in
    passed_on (FaultAt (path_format room) bytes c.args.at) c.from_residual.result e c.from_residual.ensures
    (fault_alike (both (count_format 0 LABELS_MAX) (λ n. labels_format n room)) (path_format room) (λ z. z.1) (alike_path room) bytes c.args.at e
    (fault_first (count_format 0 LABELS_MAX) (λ n. labels_format n room) bytes c.args.at (λ x g h. tt) (λ n f. has_labels n room (omega (arith, f.1, c.requires.room))) e c.in_err-count.ensures.fault))

pub returns-clause-read : goal.returns-clause-read
returns-clause-read c =
    let room = c.args.room in
    IfOk-weaker c.labels_end.result _ _
    (λ next s. stands_both (count_format 0 LABELS_MAX) (λ n. labels_format n room) (path_format room) (λ z. z.1) (alike_path room) c.args.bytes.now c.args.at c.in_ok-count.at next c.in_ok-count.count c.in_ok-count.ensures.read s)
    c.labels_end.ensures.read

pub returns-clause-fault : goal.returns-clause-fault
returns-clause-fault c =
    let bytes = c.args.bytes.now in
    let room = c.args.room in
    IfErr-weaker c.labels_end.result _ _
    (λ e f. fault_alike (both (count_format 0 LABELS_MAX) (λ n. labels_format n room)) (path_format room) (λ z. z.1) (alike_path room) bytes c.args.at e
    (fault_second (count_format 0 LABELS_MAX) (λ n. labels_format n room) bytes c.args.at (plain_count 0 LABELS_MAX) c.in_ok-count.at c.in_ok-count.count c.in_ok-count.ensures.read e f))
    c.labels_end.ensures.fault
