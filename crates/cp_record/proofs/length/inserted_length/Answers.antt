use Rattle.std.proofs.Common.{◌≡◌, ◌+◌, ◌<◌, length, sym, ap, ◌∙◌, arith}
use Rattle.std.proofs.lemmas.Bool.Decides.{nat_tests}
use Rattle.cp_model.specs.Literals.{edge_rows}
use Rattle.cp_record.proofs.Lengths.{edges_some, inserted_light, node_light, node_inserted}
use Rattle.cp_record.proofs.length.inserted_length.Goals as goal

pub overflow_add-result : goal.overflow_add-result
overflow_add-result c = omega (arith, node_light c.args.tree.now c.in-Node.list c.in-Node.is c.requires, c.edges_length.ensures.length)

pub returns-else-is_empty : goal.returns-else-is_empty
returns-else-is_empty c =
    let edges = c.list.inside.items.items in
    let rows : length c.in-Node.list ≡ length (edge_rows edges) = ap length (sym c.list.view_is) in
    let some : 0 < length edges = grind (arith, nat_tests) in
    record {
      length = ap (λ n. 5 + n) c.edges_length.ensures.length ∙ node_inserted c.args.tree.now c.in-Node.list c.in-Node.is (omega (arith, rows, edges_some edges some));
      bound = inserted_light c.args.tree.now c.requires;
    }
