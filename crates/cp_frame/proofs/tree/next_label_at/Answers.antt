use Rattle.std.proofs.Common.{rules, ◌+◌, ◌-◌, ◌<◌, sym, subst, ap, ◌∙◌, refl, length, take, drop, Some, IfErr, IfOk, arith}
use Rattle.std.proofs.lemmas.List.{length-drop, length-take}
use Rattle.cp_format.specs.Faults.{FaultAt}
use Rattle.cp_format.specs.Formats.{FailsAt, ReadsAt}
use Rattle.cp_format.specs.Judging.{IsRefused, MayPass}
use Rattle.cp_format.specs.Parts.{label_format}
use Rattle.cp_frame.specs.Trees.{comes_after, decided_at}
use Rattle.cp_frame.specs.Reading.{label_in, next_label_format}
use Rattle.cp_frame.proofs.NextLabels.{early_label, label_to, later_label, later_label_fault}
use Rattle.cp_frame.proofs.tree.next_label_at.Goals as goal

pub overflow_add-result : goal.overflow_add-result
overflow_add-result c =
    let bytes = c.args.bytes.now in
    let r = c.in-Some-label_early.ensures.early c.args.most in
    let to = label_to c.args.most (label_in c.args.elder) bytes c.args.at c.requires c.label_at-read.result c.label_at-read.ensures.read c.label_at-read.ensures.fault in
    let lt : c.args.at + c.in-Some-label_early.early < length bytes = omega (arith, r.there, c.read_to.ensures, to.0, to.1, length-take (c.read_to.result - c.args.at) (drop c.args.at bytes), length-drop c.args.at bytes) in
    search (rules, lt)

pub returns-in-Some-label_early-clause-fault : goal.returns-in-Some-label_early-clause-fault
returns-in-Some-label_early-clause-fault c =
    let bytes = c.args.bytes.now in
    let elder = c.in-Some.elder.now in
    let early = c.in-Some-label_early.early in
    let same = c.as_bytes.ensures.value ∙ c.as_str.ensures.text in
    let told = subst (λ e. IsRefused (label_format c.args.most) (comes_after (Some e)) (decided_at e) (take (c.read_to.result - c.args.at) (drop c.args.at bytes)) early) same (c.in-Some-label_early.ensures.early c.args.most) in
    let refused = subst (λ n. IsRefused (label_format c.args.most) (comes_after (Some elder)) (decided_at elder) (take (n - c.args.at) (drop c.args.at bytes)) early) c.read_to.ensures told in
    subst (λ o. FailsAt (next_label_format c.args.most o) bytes c.args.at (c.args.at + early)) (sym (ap label_in c.in-Some.is))
    (early_label c.args.most (Some elder) bytes c.args.at c.requires c.label_at-read.result c.label_at-read.ensures.read c.label_at-read.ensures.fault early refused)

pub returns-in-None-clause-read : goal.returns-in-None-clause-read
returns-in-None-clause-read c =
    let bytes = c.args.bytes.now in
    let elder = c.in-Some.elder.now in
    let same = c.as_bytes.ensures.value ∙ c.as_str.ensures.text in
    let told = subst (λ e. MayPass (label_format c.args.most) (comes_after (Some e)) (decided_at e) (take (c.read_to.result - c.args.at) (drop c.args.at bytes))) same (c.in-None.ensures.follows refl c.args.most) in
    let may = subst (λ n. MayPass (label_format c.args.most) (comes_after (Some elder)) (decided_at elder) (take (n - c.args.at) (drop c.args.at bytes))) c.read_to.ensures told in
    subst (λ o. IfOk c.label_at-read.result (λ x. ReadsAt (next_label_format c.args.most o) bytes c.args.at x.0 x.1)) (sym (ap label_in c.in-Some.is))
    (later_label c.args.most (Some elder) bytes c.args.at c.requires c.label_at-read.result c.label_at-read.ensures.read c.label_at-read.ensures.fault may)

pub returns-in-None-clause-fault : goal.returns-in-None-clause-fault
returns-in-None-clause-fault c =
    let bytes = c.args.bytes.now in
    let elder = c.in-Some.elder.now in
    let same = c.as_bytes.ensures.value ∙ c.as_str.ensures.text in
    let told = subst (λ e. MayPass (label_format c.args.most) (comes_after (Some e)) (decided_at e) (take (c.read_to.result - c.args.at) (drop c.args.at bytes))) same (c.in-None.ensures.follows refl c.args.most) in
    let may = subst (λ n. MayPass (label_format c.args.most) (comes_after (Some elder)) (decided_at elder) (take (n - c.args.at) (drop c.args.at bytes))) c.read_to.ensures told in
    subst (λ o. IfErr c.label_at-read.result (FaultAt (next_label_format c.args.most o) bytes c.args.at)) (sym (ap label_in c.in-Some.is))
    (later_label_fault c.args.most (Some elder) bytes c.args.at c.requires c.label_at-read.result c.label_at-read.ensures.read c.label_at-read.ensures.fault may)
