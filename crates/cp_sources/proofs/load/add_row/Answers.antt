use Rattle.cp_path.specs.declared.limits.TheConstants.{LABEL_MAX}
use Rattle.std.proofs.Common.{◌≤◌, [], length, sym, ap, subst, ◌∙◌, arith}
use Rattle.csv.specs.Records.{fields_of}
use Rattle.cp_model.specs.Keyed as keyed
use Rattle.cp_sources.specs.Steps.{IsShallow, key_of}
use Rattle.cp_sources.proofs.Placing.{count_row, root_stays, shallow_row, fit_free, fit_short}
use Rattle.cp_sources.proofs.load.add_row.Goals as goal

pub returns-clause-root : goal.returns-clause-root
returns-clause-root g c =
    ap (λ z. keyed.get z []) c.in_ok-put_row.ensures.put ∙ root_stays c.in_ok-row.row.label c.args.columns.now.labels.items (fields_of c.in_ok-row.row.fields) (g.R.TreeRep.contents c.args.tree.now) c.requires.root

pub returns-clause-grows : goal.returns-clause-grows
returns-clause-grows g c =
    let t = g.R.TreeRep.contents c.args.tree.now in
    let row = c.in_ok-row.row.label in
    let hs = c.args.columns.now.labels.items in
    let fs = fields_of c.in_ok-row.row.fields in
    let tree = g.met.R.TreeRep.is_tree c.args.tree.now in
    omega (arith, ap keyed.len c.in_ok-put_row.ensures.put, count_row t row hs fs tree.rooted (fit_free row hs c.args.number fs t c.in_ok-put_row.ensures.told) c.requires.columns.apart c.in_ok-row.ensures.even)

pub returns-clause-shallow : goal.returns-clause-shallow
returns-clause-shallow g c =
    let t = g.R.TreeRep.contents c.args.tree.now in
    let row = c.in_ok-row.row.label in
    let hs = c.args.columns.now.labels.items in
    let fs = fields_of c.in_ok-row.row.fields in
    let short : length row ≤ LABEL_MAX = omega (arith, ap length c.in_ok-row.ensures.label, fit_short hs (key_of hs c.args.columns.now.key) c.args.number (fields_of c.args.raw) c.in_ok-row.ensures.told) in
    subst IsShallow (sym c.in_ok-put_row.ensures.put) (shallow_row row hs fs t short c.requires.columns.short c.requires.shallow)
