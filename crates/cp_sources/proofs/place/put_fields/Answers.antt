use Rattle.std.proofs.Common.{◌≡◌, ◌+◌, ◌≤◌, ◌<◌, ◌∷◌, [], None, Some, length, drop, sym, ap, subst, ◌∙◌, arith}
use Rattle.std.proofs.lemmas.List.{drop_more}
use Rattle.csv.specs.Records.{field_at, fields_of}
use Rattle.cp_path.specs.declared.value.Value.TheVariants.{Text}
use Rattle.cp_model.specs.declared.row.Content.TheVariants.{Leaf}
use Rattle.cp_model.specs.Place.{child}
use Rattle.cp_model.specs.Subtrees.{with_subtree}
use Rattle.cp_tree.specs.Rows.{root_entries}
use Rattle.cp_sources.specs.CsvTrees.{is_long_label, is_long_text, with_fields}
use Rattle.cp_sources.specs.Steps.{IsEmptyRow, fields_weight}
use Rattle.cp_sources.proofs.Lists.{some_at, field_in, none_pass_at, none_left_pass}
use Rattle.cp_sources.proofs.Placing.{leaf_fits, next_put, text_so, short_so}
use Rattle.cp_sources.proofs.place.put_fields.Goals as goal

pub unreachable-requires : goal.unreachable-requires
unreachable-requires g c =
    let fs = fields_of c.args.row.now.fields in
    let i = c.loop-label.label-index in
    let inv = c.loop-label.invariant in
    let e : field_at fs i ≡ None = sym (c.in-None.ensures.steps.1 ∙ ap (λ r. field_at (fields_of r) c.loop-label.texts.at) inv.row ∙ ap (field_at fs) inv.at) in
    let inside : i < length fs = omega (arith, c.loop-label-test.true, ap length c.deref-label-items.ensures.value, c.requires.even) in
    absurd (let no = field_in fs i e inside in cc)

pub insert_leaf-requires-clause-fits : goal.insert_leaf-requires-clause-fits
insert_leaf-requires-clause-fits g c =
    let fs = fields_of c.args.row.now.fields in
    let hs = c.args.columns.now.labels.items in
    let i = c.loop-label.label-index in
    let h = c.label-item.result in
    let f = c.in-Some.text.now in
    let inv = c.loop-label.invariant in
    let t = g.R.TreeRep.contents c.loop-label.tree in
    let items = c.deref-label-items.ensures.value in
    let e : field_at fs i ≡ Some f = sym (c.in-Some.ensures.steps.1 ∙ ap (λ r. field_at (fields_of r) c.loop-label.texts.at) inv.row ∙ ap (field_at fs) inv.at) in
    let label : drop i hs ≡ h ∷ drop (i + 1) hs = ap (drop i) (sym items) ∙ drop_more c.deref-label-items.result.now i h c.loop-label-test.true ∙ ap (λ x. x ∷ drop (i + 1) c.deref-label-items.result.now) (sym c.label-item.is) ∙ ap (λ z. h ∷ drop (i + 1) z) items in
    let text : drop i fs ≡ f ∷ drop (i + 1) fs = some_at fs i f e in
    let step : fields_weight (drop i hs) (drop i fs) ≡ 16 + length h + length f + fields_weight (drop (i + 1) hs) (drop (i + 1) fs) = ap (λ z. fields_weight z (drop i fs)) label ∙ ap (fields_weight (h ∷ drop (i + 1) hs)) text in
    let short : length f ≤ 1048576 = text_so f (none_pass_at is_long_text fs i f c.requires.texts e) in
    let narrow : length h ≤ 255 = short_so h (none_left_pass is_long_label hs i h (drop (i + 1) hs) c.requires.headers label) in
    let fits = leaf_fits t (c.args.row.now.label ∷ []) h (Leaf (Text f)) (g.met.R.TreeRep.is_tree c.loop-label.tree) inv.bare.node (omega arith) (omega (arith, c.requires.short)) narrow (omega (arith, short)) tt
    (omega (arith, inv.few, ap length label)) (omega (arith, inv.light, step)) in
    let place : c.in_ok-place.place ≡ c.args.row.now.label ∷ [] = c.in_ok-place.ensures ∙ ap (λ r. child r c.args.row.now.label) c.root.ensures in
    rw (place, c.in_ok-leaf_of-in-Some.ensures) fits

pub loop-label-preserved : goal.loop-label-preserved
loop-label-preserved g c =
    let fs = fields_of c.args.row.now.fields in
    let hs = c.args.columns.now.labels.items in
    let row = c.args.row.now.label in
    let i = c.loop-label.label-index in
    let h = c.label-item.result in
    let f = c.in-Some.text.now in
    let inv = c.loop-label.invariant in
    let steps = c.in-Some.ensures.steps in
    let t = g.R.TreeRep.contents c.loop-label.tree in
    let t1 = g.R.TreeRep.contents c.insert_leaf.new.self in
    let items = c.deref-label-items.ensures.value in
    let e : field_at fs i ≡ Some f = sym (steps.1 ∙ ap (λ r. field_at (fields_of r) c.loop-label.texts.at) inv.row ∙ ap (field_at fs) inv.at) in
    let label : drop i hs ≡ h ∷ drop (i + 1) hs = ap (drop i) (sym items) ∙ drop_more c.deref-label-items.result.now i h c.loop-label-test.true ∙ ap (λ x. x ∷ drop (i + 1) c.deref-label-items.result.now) (sym c.label-item.is) ∙ ap (λ z. h ∷ drop (i + 1) z) items in
    let text : drop i fs ≡ f ∷ drop (i + 1) fs = some_at fs i f e in
    let step : fields_weight (drop i hs) (drop i fs) ≡ 16 + length h + length f + fields_weight (drop (i + 1) hs) (drop (i + 1) fs) = ap (λ z. fields_weight z (drop i fs)) label ∙ ap (fields_weight (h ∷ drop (i + 1) hs)) text in
    let place : c.in_ok-place.place ≡ row ∷ [] = c.in_ok-place.ensures ∙ ap (λ r. child r row) c.root.ensures in
    let put : t1 ≡ with_subtree (row ∷ h ∷ []) (root_entries (Leaf (Text f))) t = c.in_ok-insert_leaf-in-Some.ensures.ok ∙ ap (λ p. with_subtree (child p h) (root_entries c.in_ok-leaf_of-in-Some.field-0) t) place ∙ ap (λ d. with_subtree (row ∷ h ∷ []) (root_entries d) t) c.in_ok-leaf_of-in-Some.ensures in
    let is = next_put t1 t row h f (drop (i + 1) hs) (g.met.R.TreeRep.is_tree c.loop-label.tree) (subst (IsEmptyRow t row) label inv.bare) put in
    record {
      next = tt;
      finite = tt;
      row = ap (λ b. b.now) steps.0 ∙ inv.row;
      at = steps.2 ∙ ap (λ n. n + 1) inv.at;
      bare = is.bare;
      goes = ap (with_fields row (drop (i + 1) hs) (drop (i + 1) fs)) is.same ∙ sym (ap (λ z. with_fields row z (drop i fs) t) label ∙ ap (λ z. with_fields row (h ∷ drop (i + 1) hs) z t) text) ∙ inv.goes;
      few = omega (arith, inv.few, ap length label, is.count);
      light = omega (arith, inv.light, step, is.weighs);
    }
