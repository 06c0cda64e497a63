use Rattle.std.proofs.Common.{◌≡◌, arith}
use Rattle.cp_format.specs.Faults.{FaultAt}
use Rattle.cp_format.proofs.Faults.{passed_by, passed_on}
use Rattle.cp_frame.specs.Entries.{entry_format}
use Rattle.cp_frame.proofs.EntryForms.{entry_behind_fault, entry_form_fault, entry_read}
use Rattle.cp_frame.proofs.Moved.{passed_ok}
use Rattle.cp_frame.proofs.entry.entry_in_front.Goals as goal

pub returns-in_err-form-clause-fault : goal.returns-in_err-form-clause-fault
returns-in_err-form-clause-fault c =
    passed_on (FaultAt entry_format c.args.bytes.now 0) c.from_residual.result c.in_err-form.field-0.0 c.from_residual.ensures
    (entry_form_fault c.args.bytes.now 0 c.in_err-form.field-0.0 c.in_err-form.ensures.fault)

pub returns-in-1-clause-read : goal.returns-in-1-clause-read
returns-in-1-clause-read c =
    let form : c.in_ok-form.form ≡ 1 = omega (arith, c.in_ok-form.ensures.read.reads.fit.0, c.in_ok-form.ensures.read.reads.fit.1) in
    passed_ok c.start_at.result (λ x h. entry_read c.args.bytes.now 0 c.in_ok-form.form c.in_ok-form.at c.in_ok-form.ensures.read 1 form x.0 x.1 h) c.start_at.ensures.read

pub returns-in-1-clause-fault : goal.returns-in-1-clause-fault
returns-in-1-clause-fault c =
    let form : c.in_ok-form.form ≡ 1 = omega (arith, c.in_ok-form.ensures.read.reads.fit.0, c.in_ok-form.ensures.read.reads.fit.1) in
    passed_by c.start_at.result (λ e f. entry_behind_fault c.args.bytes.now 0 c.in_ok-form.form c.in_ok-form.at c.in_ok-form.ensures.read 1 form e f) c.start_at.ensures.fault

pub returns-in-2-clause-read : goal.returns-in-2-clause-read
returns-in-2-clause-read c =
    let form : c.in_ok-form.form ≡ 2 = omega (arith, c.in_ok-form.ensures.read.reads.fit.0, c.in_ok-form.ensures.read.reads.fit.1) in
    passed_ok c.load_at.result (λ x h. entry_read c.args.bytes.now 0 c.in_ok-form.form c.in_ok-form.at c.in_ok-form.ensures.read 2 form x.0 x.1 h) c.load_at.ensures.read

pub returns-in-2-clause-fault : goal.returns-in-2-clause-fault
returns-in-2-clause-fault c =
    let form : c.in_ok-form.form ≡ 2 = omega (arith, c.in_ok-form.ensures.read.reads.fit.0, c.in_ok-form.ensures.read.reads.fit.1) in
    passed_by c.load_at.result (λ e f. entry_behind_fault c.args.bytes.now 0 c.in_ok-form.form c.in_ok-form.at c.in_ok-form.ensures.read 2 form e f) c.load_at.ensures.fault

pub returns-in-3-clause-read : goal.returns-in-3-clause-read
returns-in-3-clause-read c =
    let form : c.in_ok-form.form ≡ 3 = omega (arith, c.in_ok-form.ensures.read.reads.fit.0, c.in_ok-form.ensures.read.reads.fit.1) in
    passed_ok c.commit_at.result (λ x h. entry_read c.args.bytes.now 0 c.in_ok-form.form c.in_ok-form.at c.in_ok-form.ensures.read 3 form x.0 x.1 h) c.commit_at.ensures.read

pub returns-in-3-clause-fault : goal.returns-in-3-clause-fault
returns-in-3-clause-fault c =
    let form : c.in_ok-form.form ≡ 3 = omega (arith, c.in_ok-form.ensures.read.reads.fit.0, c.in_ok-form.ensures.read.reads.fit.1) in
    passed_by c.commit_at.result (λ e f. entry_behind_fault c.args.bytes.now 0 c.in_ok-form.form c.in_ok-form.at c.in_ok-form.ensures.read 3 form e f) c.commit_at.ensures.fault

pub returns-in_default-clause-read : goal.returns-in_default-clause-read
returns-in_default-clause-read c =
    let form : c.in_ok-form.form ≡ 4 = omega (arith, c.in_ok-form.ensures.read.reads.fit.0, c.in_ok-form.ensures.read.reads.fit.1) in
    passed_ok c.stamped_at.result (λ x h. entry_read c.args.bytes.now 0 c.in_ok-form.form c.in_ok-form.at c.in_ok-form.ensures.read 4 form x.0 x.1 h) c.stamped_at.ensures.read

pub returns-in_default-clause-fault : goal.returns-in_default-clause-fault
returns-in_default-clause-fault c =
    let form : c.in_ok-form.form ≡ 4 = omega (arith, c.in_ok-form.ensures.read.reads.fit.0, c.in_ok-form.ensures.read.reads.fit.1) in
    passed_by c.stamped_at.result (λ e f. entry_behind_fault c.args.bytes.now 0 c.in_ok-form.form c.in_ok-form.at c.in_ok-form.ensures.read 4 form e f) c.stamped_at.ensures.fault
