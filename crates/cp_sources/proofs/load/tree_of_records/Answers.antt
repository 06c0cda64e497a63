use Rattle.std.proofs.Common.{◌≡◌, [], ◌∷◌, inr, sym, ap, subst, ◌∙◌, rules}
use Rattle.std.proofs.lemmas.Result.{err_from_is_err_and}
use Rattle.csv.specs.Records.{fields_of}
use Rattle.cp_model.specs.declared.row.Content.TheVariants.{Node}
use Rattle.cp_model.specs.Keyed as keyed
use Rattle.cp_model.specs.Place.{option_map}
use Rattle.cp_tree.specs.Rows.{single}
use Rattle.cp_sources.specs.CsvTrees.{records_tree, rows_tree}
use Rattle.cp_sources.specs.Steps.{IsShallow, key_of, records_left}
use Rattle.cp_sources.proofs.Placing.{single_root, single_shallow, good_header, header_told, rows_told}
use Rattle.cp_sources.proofs.load.tree_of_records.Goals as goal

pub returns-in-None-clause-answers : goal.returns-in-None-clause-answers
returns-in-None-clause-answers g c =
    let none : records_left c.args.records.now ≡ [] = search rules in
    inr (ap (λ rs. records_tree rs (option_map (λ k. k.now) c.args.key)) none)

pub returns-in_err-columns-clause-answers : goal.returns-in_err-columns-clause-answers
returns-in_err-columns-clause-answers g c =
    let key = option_map (λ k. k.now) c.args.key in
    let all = records_left c.args.records.now in
    let h = fields_of c.in-Some.header in
    let rest = records_left c.next_record.new.records in
    let next : all ≡ h ∷ rest = search rules in
    let p = err_from_is_err_and c.from_residual-in_err-columns.result c.from_residual-in_err-columns.ensures.1 in
    rw (p.1, p.2) (header_told all key h rest c.in_err-columns.field-0.0 next c.in_err-columns.ensures.told)

pub put_rows-requires-clause-root : goal.put_rows-requires-clause-root
put_rows-requires-clause-root g c = ap (λ z. keyed.get z []) c.in_ok-tree.ensures ∙ single_root

pub put_rows-requires-clause-shallow : goal.put_rows-requires-clause-shallow
put_rows-requires-clause-shallow g c = subst IsShallow (sym c.in_ok-tree.ensures) single_shallow

pub returns-in_err-put_rows-clause-answers : goal.returns-in_err-put_rows-clause-answers
returns-in_err-put_rows-clause-answers g c =
    let key = option_map (λ k. k.now) c.args.key in
    let all = records_left c.args.records.now in
    let h = fields_of c.in-Some.header in
    let rest = records_left c.next_record.new.records in
    let hs = c.in_ok-columns.columns.labels.items in
    let at = c.in_ok-columns.columns.key in
    let t = g.R.TreeRep.contents c.in_ok-tree.tree in
    let next : all ≡ h ∷ rest = search rules in
    let good = good_header all key h rest next c.in_ok-columns.ensures.told in
    let same : rows_tree hs (key_of hs at) 1 rest t ≡ rows_tree h key 1 rest (single Node) = ap (λ z. rows_tree z (key_of z at) 1 rest t) c.in_ok-columns.ensures.made ∙ ap (λ k. rows_tree h k 1 rest t) c.in_ok-columns.ensures.keyed ∙ ap (rows_tree h key 1 rest) c.in_ok-tree.ensures in
    let p = err_from_is_err_and c.from_residual-in_err-put_rows.result c.from_residual-in_err-put_rows.ensures.1 in
    let f = c.in_err-put_rows.field-0.0 in
    rw (p.1, p.2) (rows_told (rows_tree hs (key_of hs at) 1 rest t) (records_tree all key) f (good ∙ sym same) c.in_err-put_rows.ensures.answers)

pub returns-clause-answers : goal.returns-clause-answers
returns-clause-answers g c =
    let key = option_map (λ k. k.now) c.args.key in
    let all = records_left c.args.records.now in
    let h = fields_of c.in-Some.header in
    let rest = records_left c.next_record.new.records in
    let hs = c.in_ok-columns.columns.labels.items in
    let at = c.in_ok-columns.columns.key in
    let t = g.R.TreeRep.contents c.in_ok-tree.tree in
    let next : all ≡ h ∷ rest = search rules in
    let good = good_header all key h rest next c.in_ok-columns.ensures.told in
    let same : rows_tree hs (key_of hs at) 1 rest t ≡ rows_tree h key 1 rest (single Node) = ap (λ z. rows_tree z (key_of z at) 1 rest t) c.in_ok-columns.ensures.made ∙ ap (λ k. rows_tree h k 1 rest t) c.in_ok-columns.ensures.keyed ∙ ap (rows_tree h key 1 rest) c.in_ok-tree.ensures in
    good ∙ sym same ∙ c.in_ok-put_rows.ensures.answers
