use Rattle.std.proofs.Common.{rules, ◌≡◌, ◌+◌, ◌<◌, ◌≤◌, sym, subst, ◌∙◌, refl, length, get_or, arith}
use Rattle.cp_path.proofs.Same.{text_eq-same}
use Rattle.cp_frame.specs.OrderReading.{LabelsMayFollow}
use Rattle.cp_frame.proofs.Early.{none_there, some_by, some_bytes}
use Rattle.cp_frame.proofs.EarlyPaths.{first_within, may_longer, may_unbegun, no_labels, not_other, step_counted, step_first_early, step_first_follows, step_others_early, step_others_follow}
use Rattle.cp_frame.proofs.order.+labels.Goals.{then-is_empty-via-then-is_empty, then-is_empty-via-else-is_empty+then-is_empty-2}
use Rattle.cp_frame.proofs.order.+labels.Goals.{else-count-gt1-via-then-count-gt1+then-label-len+else-eq, else-count-gt1-via-then-count-gt1+else-label-len, else-count-gt1-via-else-count-gt1}
use Rattle.cp_frame.proofs.order.+labels.Goals as goal

pub returns-then-is_empty-clause-follows : goal.returns-then-is_empty-clause-follows
returns-then-is_empty-clause-follows t c = λ p e none.
    elim c.then-is_empty.branch [
      | then-is_empty-via-then-is_empty w ↦
          let nothing = none_there c.args.begun.now (sym c.is_empty.ensures ∙ w.if-is_empty.true) in
          subst (λ l. LabelsMayFollow p l c.args.count) (sym nothing) (may_unbegun p c.args.count)
      | then-is_empty-via-else-is_empty+then-is_empty-2 w ↦
          let nothing = none_there c.args.elder.now (sym w.is_empty-else-is_empty.ensures ∙ w.if-is_empty-2.true) in
          subst (λ s. LabelsMayFollow s c.args.begun.now c.args.count) (sym (no_labels p (sym e ∙ nothing))) (may_longer c.args.begun.now c.args.count c.requires.some)
    ]

pub split_at-requires : goal.split_at-requires
split_at-requires t c = first_within c.args.elder.now (some_bytes c.args.elder.now (sym c.is_empty-else-is_empty.ensures ∙ c.if-is_empty-2.false)) c.requires.counted

pub labels_early-requires : goal.labels_early-requires
labels_early-requires t c =
    let elder = some_bytes c.args.elder.now (sym c.is_empty-else-is_empty.ensures ∙ c.if-is_empty-2.false) in
    let begun = some_bytes c.args.begun.now (sym c.is_empty.ensures ∙ c.if-is_empty.false) in (
      omega (arith, c.decreases, c.if-count-gt1.true),
      (
        step_counted c.args.elder.now c.args.begun.now c.split_at.result.0.now c.split_at.result.1.now c.split_at-2.result.0.now c.split_at-2.result.1.now c.min.result c.args.count elder begun
            c.split_at.ensures.front c.split_at.ensures.back c.min.ensures c.split_at-2.ensures.front c.split_at-2.ensures.back c.requires.counted,
        omega (arith, c.if-count-gt1.true),
      ),
    )

pub returns-in_err-early-clause-follows : goal.returns-in_err-early-clause-follows
returns-in_err-early-clause-follows t c = λ p e none.
    (let elder = some_bytes c.args.elder.now (sym c.is_empty-else-is_empty.ensures ∙ c.if-is_empty-2.false) in
    let begun = some_bytes c.args.begun.now (sym c.is_empty.ensures ∙ c.if-is_empty.false) in
    step_others_follow c.args.elder.now c.args.begun.now c.split_at.result.0.now c.split_at.result.1.now c.split_at-2.result.0.now c.split_at-2.result.1.now c.min.result c.args.count elder begun
    c.split_at.ensures.front c.split_at.ensures.back c.min.ensures c.split_at-2.ensures.front c.split_at-2.ensures.back p e
    (omega (arith, c.if-count-gt1.true)) c.if-label-len.true (text_eq-same c.split_at-2.result.0.now c.split_at.result.0.now (sym c.eq.ensures ∙ c.if-eq.true))
    (λ s f. c.in_err-early.ensures.follows s f refl))

pub overflow_add-result-then-eq : goal.overflow_add-result-then-eq
overflow_add-result-then-eq t c =
    let elder = some_bytes c.args.elder.now (sym c.is_empty-else-is_empty.ensures ∙ c.if-is_empty-2.false) in
    let begun = some_bytes c.args.begun.now (sym c.is_empty.ensures ∙ c.if-is_empty.false) in
    let counted = c.requires.counted in
    let early =
    step_others_early c.args.elder.now c.args.begun.now c.split_at.result.0.now c.split_at.result.1.now c.split_at-2.result.0.now c.split_at-2.result.1.now c.min.result c.args.count elder begun
    c.split_at.ensures.front c.split_at.ensures.back c.min.ensures c.split_at-2.ensures.front c.split_at-2.ensures.back counted.0 counted.1
    (omega (arith, c.if-count-gt1.true)) c.if-label-len.true (text_eq-same c.split_at-2.result.0.now c.split_at.result.0.now (sym c.eq.ensures ∙ c.if-eq.true))
    c.in_ok-early.early (λ s f. c.in_ok-early.ensures.early s f) in
    let lt : 1 + get_or c.args.begun.now 0 0 + c.in_ok-early.early < length c.args.begun.now = early.there in
    search (rules, lt)

pub returns-then-eq-clause-early : goal.returns-then-eq-clause-early
returns-then-eq-clause-early t c = λ p e.
    (let elder = some_bytes c.args.elder.now (sym c.is_empty-else-is_empty.ensures ∙ c.if-is_empty-2.false) in
    let begun = some_bytes c.args.begun.now (sym c.is_empty.ensures ∙ c.if-is_empty.false) in
    step_others_early c.args.elder.now c.args.begun.now c.split_at.result.0.now c.split_at.result.1.now c.split_at-2.result.0.now c.split_at-2.result.1.now c.min.result c.args.count elder begun
    c.split_at.ensures.front c.split_at.ensures.back c.min.ensures c.split_at-2.ensures.front c.split_at-2.ensures.back p e
    (omega (arith, c.if-count-gt1.true)) c.if-label-len.true (text_eq-same c.split_at-2.result.0.now c.split_at.result.0.now (sym c.eq.ensures ∙ c.if-eq.true))
    c.in_ok-early.early (λ s f. c.in_ok-early.ensures.early s f))

pub returns-clause-early : goal.returns-clause-early
returns-clause-early t c = λ p e.
    (let elder = some_bytes c.args.elder.now (sym c.is_empty-else-is_empty.ensures ∙ c.if-is_empty-2.false) in
    let begun = some_bytes c.args.begun.now (sym c.is_empty.ensures ∙ c.if-is_empty.false) in
    let differs : 2 ≤ c.args.count → length c.split_at-2.result.0.now ≡ get_or c.args.begun.now 0 0 → c.split_at-2.result.0.now ≡ c.split_at.result.0.now → ⊥ = λ two size same.
    elim c.else-count-gt1.branch [
      | else-count-gt1-via-then-count-gt1+then-label-len+else-eq w ↦ not_other c.split_at-2.result.0.now c.split_at.result.0.now (sym w.eq.ensures ∙ w.if-eq.false) same
      | else-count-gt1-via-then-count-gt1+else-label-len w ↦ w.if-label-len.false size
      | else-count-gt1-via-else-count-gt1 w ↦ let le = w.if-count-gt1.false in omega (arith, two, le)
    ] in
    some_by c.text_early.result
    (λ k h. step_first_early c.args.elder.now c.args.begun.now c.split_at.result.0.now c.split_at.result.1.now c.split_at-2.result.0.now c.split_at-2.result.1.now c.min.result c.args.count elder begun
    c.split_at.ensures.front c.split_at.ensures.back c.min.ensures c.split_at-2.ensures.front c.split_at-2.ensures.back p e c.requires.some differs k h)
    c.text_early.ensures.early)

pub returns-clause-follows : goal.returns-clause-follows
returns-clause-follows t c = λ p e none.
    (let elder = some_bytes c.args.elder.now (sym c.is_empty-else-is_empty.ensures ∙ c.if-is_empty-2.false) in
    let begun = some_bytes c.args.begun.now (sym c.is_empty.ensures ∙ c.if-is_empty.false) in
    let differs : 2 ≤ c.args.count → length c.split_at-2.result.0.now ≡ get_or c.args.begun.now 0 0 → c.split_at-2.result.0.now ≡ c.split_at.result.0.now → ⊥ = λ two size same.
    elim c.else-count-gt1.branch [
      | else-count-gt1-via-then-count-gt1+then-label-len+else-eq w ↦ not_other c.split_at-2.result.0.now c.split_at.result.0.now (sym w.eq.ensures ∙ w.if-eq.false) same
      | else-count-gt1-via-then-count-gt1+else-label-len w ↦ w.if-label-len.false size
      | else-count-gt1-via-else-count-gt1 w ↦ let le = w.if-count-gt1.false in omega (arith, two, le)
    ] in
    step_first_follows c.args.elder.now c.args.begun.now c.split_at.result.0.now c.split_at.result.1.now c.split_at-2.result.0.now c.split_at-2.result.1.now c.min.result c.args.count elder begun
    c.split_at.ensures.front c.split_at.ensures.back c.min.ensures c.split_at-2.ensures.front c.split_at-2.ensures.back p e c.requires.some differs (c.text_early.ensures.follows none))
