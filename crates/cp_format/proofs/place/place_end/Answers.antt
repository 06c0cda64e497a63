use Rattle.std.proofs.Common.{◌-◌, length}
use Rattle.std.proofs.lemmas.Result.{IfOk-weaker, IfErr-weaker}
use Rattle.cp_path.specs.declared.limits.TheConstants.{LOC_MAX}
use Rattle.cp_format.specs.Faults.{FaultAt}
use Rattle.cp_format.specs.Parts.{name_format, path_format, place_format}
use Rattle.cp_format.proofs.Faults.{fault_first, fault_second, fault_alike, passed_on}
use Rattle.cp_format.proofs.Formats.{both}
use Rattle.cp_format.proofs.Labels.{alike_place, has_path, plain_name}
use Rattle.cp_format.proofs.Standing.{stands_both}
use Rattle.cp_format.proofs.place.place_end.Goals as goal

pub returns-in_err-db-clause-fault : goal.returns-in_err-db-clause-fault
returns-in_err-db-clause-fault c =
    let bytes = c.args.bytes.now in
    let e = c.in_err-db.field-0.0 in
    passed_on (FaultAt place_format bytes c.args.at) c.from_residual.result e c.from_residual.ensures
    (fault_alike (both name_format (λ a. path_format (LOC_MAX - length a))) place_format (λ z. record { db = z.0; path = z.1 }) alike_place bytes c.args.at e
    (fault_first name_format (λ a. path_format (LOC_MAX - length a)) bytes c.args.at (λ x g h. tt) (λ a f. has_path (LOC_MAX - length a)) e c.in_err-db.ensures.fault))

pub returns-clause-read : goal.returns-clause-read
returns-clause-read c =
    IfOk-weaker c.path_end.result _ _
    (λ next s. stands_both name_format (λ a. path_format (LOC_MAX - length a)) place_format (λ z. record { db = z.0; path = z.1 }) alike_place c.args.bytes.now c.args.at c.in_ok-db.at next c.in_ok-db.db.now c.in_ok-db.ensures.read s)
    c.path_end.ensures.read

pub returns-clause-fault : goal.returns-clause-fault
returns-clause-fault c =
    let bytes = c.args.bytes.now in
    IfErr-weaker c.path_end.result _ _
    (λ e f. fault_alike (both name_format (λ a. path_format (LOC_MAX - length a))) place_format (λ z. record { db = z.0; path = z.1 }) alike_place bytes c.args.at e
    (fault_second name_format (λ a. path_format (LOC_MAX - length a)) bytes c.args.at plain_name c.in_ok-db.at c.in_ok-db.db.now c.in_ok-db.ensures.read e f))
    c.path_end.ensures.fault
