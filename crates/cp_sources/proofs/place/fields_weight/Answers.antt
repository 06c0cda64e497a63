use Rattle.std.proofs.Common.{◌≡◌, ◌+◌, ◌≤◌, ◌<◌, ◌∷◌, None, Some, length, drop, sym, ap, ◌∙◌, arith}
use Rattle.std.proofs.lemmas.List.{drop_more}
use Rattle.csv.specs.Records.{field_at, fields_of}
use Rattle.cp_sources.specs.CsvTrees.{is_long_text}
use Rattle.cp_sources.specs.Steps.{fields_weight}
use Rattle.cp_sources.proofs.Lists.{some_at, field_in, none_pass_at}
use Rattle.cp_sources.proofs.Placing.{text_so}
use Rattle.cp_sources.proofs.place.fields_weight.Goals as goal

pub unreachable-requires : goal.unreachable-requires
unreachable-requires c =
    let fs = fields_of c.args.row.now.fields in
    let i = c.loop-label.label-index in
    let inv = c.loop-label.invariant in
    let e : field_at fs i ≡ None = sym (c.in-None.ensures.steps.1 ∙ ap (λ r. field_at (fields_of r) c.loop-label.texts.at) inv.row ∙ ap (field_at fs) inv.at) in
    let inside : i < length fs = omega (arith, c.loop-label-test.true, ap length c.deref-label-items.ensures.value, c.requires.even) in
    absurd (let no = field_in fs i e inside in cc)

pub loop-label-preserved : goal.loop-label-preserved
loop-label-preserved c =
    let fs = fields_of c.args.row.now.fields in
    let hs = c.args.columns.now.labels.items in
    let i = c.loop-label.label-index in
    let h = c.label-item.result in
    let f = c.in-Some.text.now in
    let inv = c.loop-label.invariant in
    let steps = c.in-Some.ensures.steps in
    let items = c.deref-label-items.ensures.value in
    let e : field_at fs i ≡ Some f = sym (steps.1 ∙ ap (λ r. field_at (fields_of r) c.loop-label.texts.at) inv.row ∙ ap (field_at fs) inv.at) in
    let label : drop i hs ≡ h ∷ drop (i + 1) hs = ap (drop i) (sym items) ∙ drop_more c.deref-label-items.result.now i h c.loop-label-test.true ∙ ap (λ x. x ∷ drop (i + 1) c.deref-label-items.result.now) (sym c.label-item.is) ∙ ap (λ z. h ∷ drop (i + 1) z) items in
    let text : drop i fs ≡ f ∷ drop (i + 1) fs = some_at fs i f e in
    let step : fields_weight (drop i hs) (drop i fs) ≡ 16 + length h + length f + fields_weight (drop (i + 1) hs) (drop (i + 1) fs) = ap (λ z. fields_weight z (drop i fs)) label ∙ ap (fields_weight (h ∷ drop (i + 1) hs)) text in
    let short : length f ≤ 1048576 = text_so f (none_pass_at is_long_text fs i f c.requires.texts e) in
    record {
      next = tt;
      finite = tt;
      row = ap (λ b. b.now) steps.0 ∙ inv.row;
      at = steps.2 ∙ ap (λ n. n + 1) inv.at;
      sum = omega (arith, inv.sum, step, ap length c.as_str.ensures.text);
      bound = omega (arith, inv.bound, short, c.as_str.ensures.short, ap length c.as_str.ensures.text);
    }
