use Rattle.std.proofs.Common.{◌≡◌, ◌∙◌, ap, sym}
use Rattle.cp_format.specs.Faults.{FaultAt}
use Rattle.cp_format.proofs.Faults.{passed_by, passed_on}
use Rattle.cp_frame.specs.Operations.{op_format_with}
use Rattle.cp_frame.proofs.Moved.{passed_ok}
use Rattle.cp_frame.proofs.WrittenOps.{form_fault, form_few, op_most, short_fault, short_read, tree_op_fault, tree_op_read}
use Rattle.cp_frame.proofs.operation.take_op.Goals.{then-trees, else-trees}
use Rattle.cp_frame.proofs.operation.take_op.Goals as goal

pub returns-in_err-form-clause-fault : goal.returns-in_err-form-clause-fault
returns-in_err-form-clause-fault c =
    let most : c.if-trees.most ≡ op_most c.args.trees = elim c.if-trees.branch [ then-trees w ↦ w.most-is ∙ sym (ap op_most w.if-trees.true) | else-trees w ↦ w.most-is ∙ sym (ap op_most w.if-trees.false) ] in
    passed_on (FaultAt (op_format_with c.args.trees) c.args.bytes.now c.args.at) c.from_residual.result c.in_err-form.field-0.0 c.from_residual.ensures
    (form_fault c.args.trees c.args.bytes.now c.args.at c.if-trees.most most c.in_err-form.field-0.0 c.in_err-form.ensures.fault)

pub returns-then-form-eq4-clause-read : goal.returns-then-form-eq4-clause-read
returns-then-form-eq4-clause-read c =
    let most : c.if-trees.most ≡ op_most c.args.trees = elim c.if-trees.branch [ then-trees w ↦ w.most-is ∙ sym (ap op_most w.if-trees.true) | else-trees w ↦ w.most-is ∙ sym (ap op_most w.if-trees.false) ] in
    passed_ok c.planted_at.result
    (λ x h. tree_op_read c.args.trees c.args.bytes.now c.args.at c.if-trees.most c.in_ok-form.form c.in_ok-form.at most c.in_ok-form.ensures.read c.if-form-eq4.true x.0 x.1 h)
    c.planted_at.ensures.read

pub returns-then-form-eq4-clause-fault : goal.returns-then-form-eq4-clause-fault
returns-then-form-eq4-clause-fault c =
    let most : c.if-trees.most ≡ op_most c.args.trees = elim c.if-trees.branch [ then-trees w ↦ w.most-is ∙ sym (ap op_most w.if-trees.true) | else-trees w ↦ w.most-is ∙ sym (ap op_most w.if-trees.false) ] in
    passed_by c.planted_at.result
    (λ e f. tree_op_fault c.args.trees c.args.bytes.now c.args.at c.if-trees.most c.in_ok-form.form c.in_ok-form.at most c.in_ok-form.ensures.read c.if-form-eq4.true e f)
    c.planted_at.ensures.fault

pub returns-clause-read : goal.returns-clause-read
returns-clause-read c =
    let most : c.if-trees.most ≡ op_most c.args.trees = elim c.if-trees.branch [ then-trees w ↦ w.most-is ∙ sym (ap op_most w.if-trees.true) | else-trees w ↦ w.most-is ∙ sym (ap op_most w.if-trees.false) ] in
    let few = form_few c.args.trees c.args.bytes.now c.args.at c.if-trees.most c.in_ok-form.form c.in_ok-form.at most c.in_ok-form.ensures.read c.if-form-eq4.false in
    passed_ok c.short_behind.result
    (λ x h. short_read c.args.trees c.args.bytes.now c.args.at c.if-trees.most c.in_ok-form.form c.in_ok-form.at most c.in_ok-form.ensures.read few x.0 x.1 h)
    c.short_behind.ensures.read

pub returns-clause-fault : goal.returns-clause-fault
returns-clause-fault c =
    let most : c.if-trees.most ≡ op_most c.args.trees = elim c.if-trees.branch [ then-trees w ↦ w.most-is ∙ sym (ap op_most w.if-trees.true) | else-trees w ↦ w.most-is ∙ sym (ap op_most w.if-trees.false) ] in
    let few = form_few c.args.trees c.args.bytes.now c.args.at c.if-trees.most c.in_ok-form.form c.in_ok-form.at most c.in_ok-form.ensures.read c.if-form-eq4.false in
    passed_by c.short_behind.result
    (λ e f. short_fault c.args.trees c.args.bytes.now c.args.at c.if-trees.most c.in_ok-form.form c.in_ok-form.at most c.in_ok-form.ensures.read few e f)
    c.short_behind.ensures.fault
