use Rattle.std.proofs.Common.{◌+◌, ◌||◌, ℕ, List, Bool, nat_lt, length, drop, sym, ap, ◌∙◌, lt-ltb, le-ltb}
use Rattle.std.specs.List.{list_any}
use Rattle.csv.specs.Records.{field_at, fields_of}
use Rattle.cp_sources.proofs.Lists.{some_at, none_at}
use Rattle.cp_sources.proofs.columns.has_longer.Goals as goal

pub returns-then-field-most : goal.returns-then-field-most
returns-then-field-most c =
    let fs = fields_of c.args.fields.now in
    let at = c.loop-field.field-iterator.at in
    let p : List ℕ → Bool = λ f. nat_lt c.args.most (length f) in
    let inv = c.loop-field.invariant in
    let e = sym (c.in-Some.ensures.steps.1 ∙ ap (λ r. field_at (fields_of r) at) inv.row) in
    sym (inv.rest ∙ ap (list_any p) (some_at fs at c.in-Some.field.now e) ∙ ap (λ b. b || list_any p (drop (at + 1) fs)) (lt-ltb c.args.most (length c.in-Some.field.now) c.if-field-most.true))

pub loop-field-preserved : goal.loop-field-preserved
loop-field-preserved c =
    let fs = fields_of c.args.fields.now in
    let at = c.loop-field.field-iterator.at in
    let p : List ℕ → Bool = λ f. nat_lt c.args.most (length f) in
    let inv = c.loop-field.invariant in
    let steps = c.in-Some.ensures.steps in
    let e = sym (steps.1 ∙ ap (λ r. field_at (fields_of r) at) inv.row) in
    record {
      next = tt;
      finite = tt;
      row = ap (λ b. b.now) steps.0 ∙ inv.row;
      rest = inv.rest ∙ ap (list_any p) (some_at fs at c.in-Some.field.now e) ∙ ap (λ b. b || list_any p (drop (at + 1) fs)) (le-ltb c.args.most (length c.in-Some.field.now) c.if-field-most.false) ∙ ap (λ i. list_any p (drop i fs)) (sym steps.2);
    }

pub returns : goal.returns
returns c =
    let fs = fields_of c.args.fields.now in
    let at = c.loop-field.field-iterator.at in
    let p : List ℕ → Bool = λ f. nat_lt c.args.most (length f) in
    let inv = c.loop-field.invariant in
    let e = sym (c.in-None.ensures.steps.1 ∙ ap (λ r. field_at (fields_of r) at) inv.row) in
    sym (inv.rest ∙ ap (list_any p) (none_at fs at e))
