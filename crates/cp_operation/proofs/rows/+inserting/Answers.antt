use Rattle.std.proofs.Common.{◌≡◌, ◌+◌, drop, length, ap, ◌∙◌, rules}
use Rattle.std.specs.declared.option.Option.TheVariants.{None}
use Rattle.cp_model.specs.Place.{Path}
use Rattle.cp_model.specs.Literals.{edge_rows}
use Rattle.cp_model.specs.declared.row.Content.{Content}
use Rattle.cp_model.specs.declared.record.RecOp.TheVariants as letter
use Rattle.cp_record.specs.Bytes.{record_below}
use Rattle.cp_tree.proofs.Edges.{drop-one, edge-fewer}
use Rattle.cp_operation.proofs.Depths.{edge-within, edge-room}
use Rattle.cp_operation.proofs.Recorded.{edges-none, appended-then, appended-is, edges-more, edges-all, leaf-added, node-added}
use Rattle.cp_operation.proofs.rows.+inserting.Goals as goal

pub push_edges-loop-edge-preserved : goal.push_edges-loop-edge-preserved
push_edges-loop-edge-preserved t c =
    let f = λ (e : Path × Content). record_below c.args.tid letter.I c.args.base.now e.0 None in
    appended-is _ _ _ _ (edges-more f c.args.at.now c.in_ok-path.path c.deref-edge-items.result.now c.loop-edge.edge-index c.edge-item.result c.loop-edge-test.true c.edge-item.is c.in_ok-path.ensures)
    (appended-then _ _ _ _ _ c.loop-edge.invariant c.in_ok-push_literal.ensures.ok)

pub push_edges-push_literal-requires : goal.push_edges-push_literal-requires
push_edges-push_literal-requires t c =
    let edges = c.deref-edge-items.result.now in
    let i = c.loop-edge.edge-index in
    let e = c.edge-item.result in
    let split = drop-one edges i e c.loop-edge-test.true c.edge-item.is in
    let all : edge_rows edges ≡ c.args.below.now = ap edge_rows c.deref-edge-items.ensures.value ∙ c.below.view_is in
    let shallow = edge-within (length c.args.base.now) c.args.at.now c.in_ok-path.path e (drop (i + 1) edges) i edges c.args.below.now split all c.in_ok-path.ensures c.requires.shallow in
    let fewer = edge-fewer e (drop (i + 1) edges) i edges split in
    let long : length (edge_rows edges) ≡ length c.args.below.now = ap length all in
    search rules

pub push_edges-returns-clause-ok : goal.push_edges-returns-clause-ok
push_edges-returns-clause-ok t c =
    let f = λ (e : Path × Content). record_below c.args.tid letter.I c.args.base.now e.0 None in
    let edges = c.deref-edge-items.result.now in
    let all : edge_rows edges ≡ c.args.below.now = ap edge_rows c.deref-edge-items.ensures.value ∙ c.below.view_is in
    appended-is _ _ _ _ (edges-all f c.args.at.now edges c.loop-edge.edge-index c.args.below.now c.loop-edge-test.false all) c.loop-edge.invariant

pub push_literal-returns-in-Leaf-clause-ok : goal.push_literal-returns-in-Leaf-clause-ok
push_literal-returns-in-Leaf-clause-ok t c =
    let f = λ (e : Path × Content). record_below c.args.tid letter.I c.args.base.now e.0 None in
    leaf-added f c.args.at c.args.literal.now c.in-Leaf.field-0 _ _ c.in-Leaf.is (record { is = c.in_ok-push.ensures.ok })

pub push_literal-returns-clause-ok : goal.push_literal-returns-clause-ok
push_literal-returns-clause-ok t c =
    let f = λ (e : Path × Content). record_below c.args.tid letter.I c.args.base.now e.0 None in
    node-added c.push_edges.result f c.args.at c.args.literal.now c.in-Node.below _ _ _ c.in-Node.is (record { is = c.in_ok-push.ensures.ok }) c.push_edges.ensures.ok

pub push_edges-loop-edge-init : goal.push_edges-loop-edge-init
push_edges-loop-edge-init t c =
    let f = λ (e : Path × Content). record_below c.args.tid letter.I c.args.base.now e.0 None in
    edges-none f c.args.at.now c.deref-edge-items.result.now c.args.rows.now

pub push_edges-child-requires : goal.push_edges-child-requires
push_edges-child-requires t c =
    let edges = c.deref-edge-items.result.now in
    let i = c.loop-edge.edge-index in
    let e = c.edge-item.result in
    let split = drop-one edges i e c.loop-edge-test.true c.edge-item.is in
    record { room = edge-room (length c.args.base.now) c.args.at.now e (drop (i + 1) edges) i edges c.args.below.now split (ap edge_rows c.deref-edge-items.ensures.value ∙ c.below.view_is) c.requires.shallow }
