use Rattle.std.proofs.Common.{◌≡◌, ◌∷◌, [], false, length, inr, sym, ap, subst, ◌∙◌, arith, rules}
use Rattle.csv.specs.Records.{fields_of}
use Rattle.cp_model.specs.declared.row.Content.TheVariants.{Node}
use Rattle.cp_model.specs.Keyed as keyed
use Rattle.cp_model.specs.Place.{child}
use Rattle.cp_model.specs.Subtrees.{with_subtree, is_there}
use Rattle.cp_model.proofs.SumsLemmas.{len_insert_new, weight_insert_new}
use Rattle.cp_model.specs.Tree.{weight}
use Rattle.cp_tree.specs.Rows.{root_entries}
use Rattle.cp_sources.specs.CsvTrees.{with_fields}
use Rattle.cp_sources.specs.Steps.{IsEmptyRow}
use Rattle.cp_model.proofs.Accepted.{none_is}
use Rattle.cp_tree.proofs.Leaves.{leaf-insert}
use Rattle.cp_sources.proofs.Placing.{leaf_fits, new_bare, is_many, is_big, is_fit}
use Rattle.cp_sources.proofs.place.put_row.Goals as goal

pub returns-then-len-from-clause-told : goal.returns-then-len-from-clause-told
returns-then-len-from-clause-told g c =
    let t = g.R.TreeRep.contents c.args.tree.now in
    let row = c.args.row.now.label in
    let hs = c.args.columns.now.labels.items in
    let fs = fields_of c.args.row.now.fields in
    let tree = g.met.R.TreeRep.is_tree c.args.tree.now in
    let free : is_there t (row ∷ []) ≡ false = search rules in
    let none = none_is (keyed.get t (row ∷ [])) free in
    inr (is_many t row hs fs tree.rooted none c.requires.columns.apart c.requires.even c.args.number (omega (arith, c.if-len-from.true, c.len.ensures, c.count.ensures, c.from.ensures, tree.within.nodes)))

pub returns-then-weight-clause-told : goal.returns-then-weight-clause-told
returns-then-weight-clause-told g c =
    let t = g.R.TreeRep.contents c.args.tree.now in
    let row = c.args.row.now.label in
    let hs = c.args.columns.now.labels.items in
    let fs = fields_of c.args.row.now.fields in
    let tree = g.met.R.TreeRep.is_tree c.args.tree.now in
    let free : is_there t (row ∷ []) ≡ false = search rules in
    let none = none_is (keyed.get t (row ∷ [])) free in
    inr (is_big t row hs fs tree.rooted none c.requires.columns.apart c.requires.even c.args.number (omega (arith, c.if-len-from.false, c.len.ensures, c.count.ensures, c.from.ensures, tree.within.nodes))
    (omega (arith, c.if-weight.true, c.weight.ensures, ap length c.as_str.ensures.text, c.fields_weight.ensures.weight, tree.within.weighs)))

pub insert_leaf-requires-clause-fits : goal.insert_leaf-requires-clause-fits
insert_leaf-requires-clause-fits g c =
    let t = g.R.TreeRep.contents c.args.tree.now in
    let row = c.args.row.now.label in
    let tree = g.met.R.TreeRep.is_tree c.args.tree.now in
    let fits = leaf_fits t [] row Node tree c.requires.root (omega arith) (omega arith) c.as_str.ensures.short (omega arith) tt (omega (arith, c.if-len-from.false, c.len.ensures, c.count.ensures, c.from.ensures, tree.within.nodes))
    (omega (arith, c.if-weight.false, c.weight.ensures, ap length c.as_str.ensures.text, tree.within.weighs)) in
    rw c.root-root.ensures fits

pub put_fields-requires-clause-bare : goal.put_fields-requires-clause-bare
put_fields-requires-clause-bare g c =
    let t = g.R.TreeRep.contents c.args.tree.now in
    let t1 = g.R.TreeRep.contents c.insert_leaf.new.self in
    let row = c.args.row.now.label in
    let hs = c.args.columns.now.labels.items in
    let tree = g.met.R.TreeRep.is_tree c.args.tree.now in
    let free : is_there t (row ∷ []) ≡ false = search rules in
    let none = none_is (keyed.get t (row ∷ [])) free in
    let same : t1 ≡ keyed.insert t (row ∷ []) Node = c.in_ok-insert_leaf.ensures.ok ∙ ap (λ p. with_subtree (child p row) (root_entries Node) t) c.root-root.ensures ∙ leaf-insert t (row ∷ []) Node tree.rooted none in
    subst (λ z. IsEmptyRow z row hs) (sym same) (new_bare t row hs tree.rooted none c.requires.columns.apart)

pub put_fields-requires-clause-few : goal.put_fields-requires-clause-few
put_fields-requires-clause-few g c =
    let t = g.R.TreeRep.contents c.args.tree.now in
    let t1 = g.R.TreeRep.contents c.insert_leaf.new.self in
    let row = c.args.row.now.label in
    let tree = g.met.R.TreeRep.is_tree c.args.tree.now in
    let free : is_there t (row ∷ []) ≡ false = search rules in
    let none = none_is (keyed.get t (row ∷ [])) free in
    let same : t1 ≡ keyed.insert t (row ∷ []) Node = c.in_ok-insert_leaf.ensures.ok ∙ ap (λ p. with_subtree (child p row) (root_entries Node) t) c.root-root.ensures ∙ leaf-insert t (row ∷ []) Node tree.rooted none in
    omega (arith, ap keyed.len same, len_insert_new t (row ∷ []) Node none, c.if-len-from.false, c.len.ensures, c.count.ensures, c.from.ensures, tree.within.nodes)

pub put_fields-requires-clause-light : goal.put_fields-requires-clause-light
put_fields-requires-clause-light g c =
    let t = g.R.TreeRep.contents c.args.tree.now in
    let t1 = g.R.TreeRep.contents c.insert_leaf.new.self in
    let row = c.args.row.now.label in
    let tree = g.met.R.TreeRep.is_tree c.args.tree.now in
    let free : is_there t (row ∷ []) ≡ false = search rules in
    let none = none_is (keyed.get t (row ∷ [])) free in
    let same : t1 ≡ keyed.insert t (row ∷ []) Node = c.in_ok-insert_leaf.ensures.ok ∙ ap (λ p. with_subtree (child p row) (root_entries Node) t) c.root-root.ensures ∙ leaf-insert t (row ∷ []) Node tree.rooted none in
    omega (arith, ap weight same, weight_insert_new t (row ∷ []) Node none, c.if-weight.false, c.weight.ensures, ap length c.as_str.ensures.text, c.fields_weight.ensures.weight, tree.within.weighs)

pub returns-clause-put : goal.returns-clause-put
returns-clause-put g c =
    let t = g.R.TreeRep.contents c.args.tree.now in
    let t1 = g.R.TreeRep.contents c.insert_leaf.new.self in
    let row = c.args.row.now.label in
    let hs = c.args.columns.now.labels.items in
    let fs = fields_of c.args.row.now.fields in
    let tree = g.met.R.TreeRep.is_tree c.args.tree.now in
    let free : is_there t (row ∷ []) ≡ false = search rules in
    let none = none_is (keyed.get t (row ∷ [])) free in
    let same : t1 ≡ keyed.insert t (row ∷ []) Node = c.in_ok-insert_leaf.ensures.ok ∙ ap (λ p. with_subtree (child p row) (root_entries Node) t) c.root-root.ensures ∙ leaf-insert t (row ∷ []) Node tree.rooted none in
    c.in_ok-put_fields.ensures.put ∙ ap (with_fields row hs fs) same

pub returns-clause-told : goal.returns-clause-told
returns-clause-told g c =
    let t = g.R.TreeRep.contents c.args.tree.now in
    let row = c.args.row.now.label in
    let hs = c.args.columns.now.labels.items in
    let fs = fields_of c.args.row.now.fields in
    let tree = g.met.R.TreeRep.is_tree c.args.tree.now in
    let free : is_there t (row ∷ []) ≡ false = search rules in
    let none = none_is (keyed.get t (row ∷ [])) free in
    is_fit t row hs fs tree.rooted none c.requires.columns.apart c.requires.even c.args.number (omega (arith, c.if-len-from.false, c.len.ensures, c.count.ensures, c.from.ensures, tree.within.nodes))
    (omega (arith, c.if-weight.false, c.weight.ensures, ap length c.as_str.ensures.text, c.fields_weight.ensures.weight, tree.within.weighs))
