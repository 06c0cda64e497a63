use Rattle.std.proofs.Common.{◌≡◌, ◌++◌, [], ◌∷◌, drop, sym, ap, ◌∙◌, append_assoc}
use Rattle.csv.specs.Records.{field_at, fields_of}
use Rattle.cp_model.proofs.Strips.{append-nil}
use Rattle.cp_sources.specs.CsvTrees.{is_long_label}
use Rattle.cp_sources.proofs.Lists.{some_at, none_at, none_pass_at}
use Rattle.cp_sources.proofs.Placing.{short_so}
use Rattle.cp_sources.proofs.columns.labels_of.Goals as goal

pub copy_of-requires : goal.copy_of-requires
copy_of-requires c =
    let fs = fields_of c.args.fields.now in
    let at = c.loop-field.field-iterator.at in
    let e = sym (c.in-Some.ensures.steps.1 ∙ ap (λ r. field_at (fields_of r) at) c.loop-field.invariant.row) in
    record { short = short_so c.in-Some.field.now (none_pass_at is_long_label fs at c.in-Some.field.now c.requires.short e) }

pub loop-field-preserved : goal.loop-field-preserved
loop-field-preserved c =
    let fs = fields_of c.args.fields.now in
    let at = c.loop-field.field-iterator.at in
    let old = c.loop-field.labels.items in
    let f = c.in-Some.field.now in
    let inv = c.loop-field.invariant in
    let steps = c.in-Some.ensures.steps in
    let e = sym (steps.1 ∙ ap (λ r. field_at (fields_of r) at) inv.row) in
    let label : c.in_ok-copy_of.field-0 ≡ f = c.in_ok-copy_of.ensures in
    record {
      next = tt;
      finite = tt;
      row = ap (λ b. b.now) steps.0 ∙ inv.row;
      all = ap (λ z. z ++ drop c.next.new.self.at fs) c.in_ok-push.ensures.items ∙ append_assoc old (c.in_ok-copy_of.field-0 ∷ []) (drop c.next.new.self.at fs) ∙ ap (λ l. old ++ (l ∷ drop c.next.new.self.at fs)) label
          ∙ ap (λ i. old ++ (f ∷ drop i fs)) steps.2 ∙ ap (λ z. old ++ z) (sym (some_at fs at f e)) ∙ inv.all;
    }

pub returns : goal.returns
returns c =
    let fs = fields_of c.args.fields.now in
    let at = c.loop-field.field-iterator.at in
    let old = c.loop-field.labels.items in
    let inv = c.loop-field.invariant in
    let e = sym (c.in-None.ensures.steps.1 ∙ ap (λ r. field_at (fields_of r) at) inv.row) in
    sym (append-nil old) ∙ ap (λ z. old ++ z) (sym (none_at fs at e)) ∙ inv.all
