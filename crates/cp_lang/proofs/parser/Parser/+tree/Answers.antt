use Rattle.std.proofs.Common.{◌∙◌, List, [], inr, refl, ap, sym, arith}
use Rattle.std.proofs.lemmas.Result.{err_from_is_err_and}
use Rattle.cp_model.specs.declared.row.Content.{Content}
use Rattle.cp_model.specs.Literals.{edge_rows}
use Rattle.cp_model.specs.declared.literal.LitEdge.{LitEdge}
use Rattle.cp_model.specs.declared.literal.Literal.TheVariants as literal
use Rattle.cp_path.specs.Place.{Path}
use Rattle.cp_lang.specs.Grammar.{Move, Edges, goes, refused_or, tree, tree_colon, first_edge, next_edge, edge_end, after_tree}
use Rattle.cp_lang.specs.Parser.{reading, edge_reading, within}
use Rattle.cp_lang.specs.Tokenized.{shape_of}
use Rattle.cp_lang.proofs.Steps.{past, tree_joined, fails_past, first_close, first_label, next_label, tree_opens, tree_value, label_leads, deeper, at_tree_colon}
use Rattle.cp_lang.proofs.parser.Parser.+tree.Goals as goal

pub edges-loop-self-init : goal.edges-loop-self-init
edges-loop-self-init t c = record { fewer = c.in_ok-edge.ensures.fewer; read = c.in_ok-edge.ensures.reads }

pub edges-loop-self-preserved : goal.edges-loop-self-preserved
edges-loop-self-preserved t c = record {
  fewer = omega (arith, c.loop-self.invariant.fewer, c.in_ok-has_more.ensures.fewer, c.in_ok-token.ensures.fewer, c.in_ok-edge-2.ensures.fewer);
  read = λ a ls h. c.loop-self.invariant.read a ls h ∙ next_label c.loop-self.self c.has_more.new.self c.token.new.self c.in_ok-token.token c.in_ok-has_more.field-0 a c.loop-self.edges.entries ls (c.in_ok-has_more.ensures.reads a c.loop-self.edges.entries ls) c.if-branch.true (c.in_ok-token.ensures.reads (next_edge (within a c.loop-self.edges.entries ls))) ∙ c.in_ok-edge-2.ensures.reads a ls h;
}

pub node-returns-then-is_empty_end-clause-reads : goal.node-returns-then-is_empty_end-clause-reads
node-returns-then-is_empty_end-clause-reads t c = λ a ls h.
    first_close c.args.self.now c.token.new.self (shape_of c.in_ok-token.token.shape) c.in_ok-token.token.at c.is_empty_end.result a ls (c.in_ok-token.ensures.reads (first_edge (within a [] ls))) (c.is_empty_end.ensures (within a [] ls)) c.if-is_empty_end.true
    ∙ ap (λ (xs : List LitEdge). reading c.token.new.self (after_tree a (literal.Node (edge_rows xs)) ls)) (sym c.new.ensures.items)

pub node-returns-in_err-edges-clause-reads : goal.node-returns-in_err-edges-clause-reads
node-returns-in_err-edges-clause-reads t c = let p = err_from_is_err_and c.from_residual-in_err-edges.result c.from_residual-in_err-edges.ensures.1 in rw (p.1, p.2) (λ a ls h. past _ _ _ (first_label c.args.self.now c.token.new.self c.in_ok-token.token c.is_empty_end.result a ls (c.in_ok-token.ensures.reads (first_edge (within a [] ls))) (c.is_empty_end.ensures (within a [] ls)) c.if-is_empty_end.false ∙ ap (λ (es : Edges). edge_reading c.token.new.self c.in_ok-token.token a es ls) (sym c.new-edges.ensures.empty)) (c.in_err-edges.ensures.reads a ls h))

pub node-returns-clause-reads : goal.node-returns-clause-reads
node-returns-clause-reads t c = λ a ls h.
    first_label c.args.self.now c.token.new.self c.in_ok-token.token c.is_empty_end.result a ls (c.in_ok-token.ensures.reads (first_edge (within a [] ls))) (c.is_empty_end.ensures (within a [] ls)) c.if-is_empty_end.false ∙ ap (λ (es : Edges). edge_reading c.token.new.self c.in_ok-token.token a es ls) (sym c.new-edges.ensures.empty) ∙ c.in_ok-edges.ensures.reads a ls h
    ∙ ap (λ (rows : List (Path × Content)). reading c.edges.new.self (after_tree a (literal.Node rows) ls)) (sym c.in_ok-list_of.ensures)

pub tree-returns-then-opens_node-clause-reads : goal.tree-returns-then-opens_node-clause-reads
tree-returns-then-opens_node-clause-reads t c =
    tree_joined _ _ _ _ _ (λ a ls. first_edge (within a [] ls)) c.node.result
    (λ a ls h. tree_opens c.args.self.now c.token.new.self (shape_of c.in_ok-token.token.shape) c.in_ok-token.token.at c.opens_node.result a ls (c.in_ok-token.ensures.reads (tree a ls)) (c.opens_node.ensures a ls) c.if-opens_node.true)
    c.node.ensures.reads

pub tree-returns-in_err-value_of-clause-reads : goal.tree-returns-in_err-value_of-clause-reads
tree-returns-in_err-value_of-clause-reads t c = let p = err_from_is_err_and c.from_residual-in_err-value_of.result c.from_residual-in_err-value_of.ensures.1 in rw (p.1, p.2) (λ a ls h. fails_past _ _ _ (reading c.token.new.self) _ (tree_value c.args.self.now c.token.new.self (shape_of c.in_ok-token.token.shape) c.in_ok-token.token.at c.opens_node.result a ls (c.in_ok-token.ensures.reads (tree a ls)) (c.opens_node.ensures a ls) c.if-opens_node.false) (c.in_err-value_of.ensures.reads (λ v. goes (after_tree a (literal.Leaf v) ls))))

pub tree-returns-clause-reads : goal.tree-returns-clause-reads
tree-returns-clause-reads t c = λ a ls h.
    tree_value c.args.self.now c.token.new.self (shape_of c.in_ok-token.token.shape) c.in_ok-token.token.at c.opens_node.result a ls (c.in_ok-token.ensures.reads (tree a ls)) (c.opens_node.ensures a ls) c.if-opens_node.false ∙ ap (λ (u : Move). refused_or u c.in_ok-token.token.at (reading c.token.new.self)) (c.in_ok-value_of.ensures.reads (λ v. goes (after_tree a (literal.Leaf v) ls)))

pub edge-returns-in_err-label-clause-reads : goal.edge-returns-in_err-label-clause-reads
edge-returns-in_err-label-clause-reads t c = let p = err_from_is_err_and c.from_residual.result c.from_residual.ensures.1 in rw (p.1, p.2) (λ a ls h. fails_past _ _ _ (reading c.args.self.now) _ refl (c.in_err-label.ensures.reads a ls h))

pub edge-returns-in_err-colon-clause-reads : goal.edge-returns-in_err-colon-clause-reads
edge-returns-in_err-colon-clause-reads t c = let p = err_from_is_err_and c.from_residual-in_err-colon.result c.from_residual-in_err-colon.ensures.1 in rw (p.1, p.2) (λ a ls h. past _ _ _ (label_leads c.args.self.now c.args.token c.in_ok-label.label a c.args.edges.now.entries ls (c.in_ok-label.ensures.reads a ls h)) (inr (c.in_err-colon.ensures.reads (tree_colon c.in_ok-label.label (within a c.args.edges.now.entries ls)) (tree c.in_ok-label.label (within a c.args.edges.now.entries ls)) (at_tree_colon c.in_ok-label.label (within a c.args.edges.now.entries ls)))))

pub edge-returns-in_err-tree-clause-reads : goal.edge-returns-in_err-tree-clause-reads
edge-returns-in_err-tree-clause-reads t c = let p = err_from_is_err_and c.from_residual-in_err-tree.result c.from_residual-in_err-tree.ensures.1 in rw (p.1, p.2) (λ a ls h. past _ _ _ (label_leads c.args.self.now c.args.token c.in_ok-label.label a c.args.edges.now.entries ls (c.in_ok-label.ensures.reads a ls h) ∙ c.in_ok-colon.ensures.reads (tree_colon c.in_ok-label.label (within a c.args.edges.now.entries ls)) (tree c.in_ok-label.label (within a c.args.edges.now.entries ls)) (at_tree_colon c.in_ok-label.label (within a c.args.edges.now.entries ls))) (c.in_err-tree.ensures.reads c.in_ok-label.label (within a c.args.edges.now.entries ls) (deeper a c.args.edges.now.entries ls c.args.depth h)))

pub edge-returns-clause-reads : goal.edge-returns-clause-reads
edge-returns-clause-reads t c = λ a ls h.
    label_leads c.args.self.now c.args.token c.in_ok-label.label a c.args.edges.now.entries ls (c.in_ok-label.ensures.reads a ls h) ∙ c.in_ok-colon.ensures.reads (tree_colon c.in_ok-label.label (within a c.args.edges.now.entries ls)) (tree c.in_ok-label.label (within a c.args.edges.now.entries ls)) (at_tree_colon c.in_ok-label.label (within a c.args.edges.now.entries ls)) ∙ c.in_ok-tree.ensures.reads c.in_ok-label.label (within a c.args.edges.now.entries ls) (deeper a c.args.edges.now.entries ls c.args.depth h)
    ∙ ap (λ (es : Edges). reading c.tree.new.self (edge_end (within a es ls))) (sym c.in_ok-insert.ensures.entries)

pub edges-returns-in_err-edge-2-clause-reads : goal.edges-returns-in_err-edge-2-clause-reads
edges-returns-in_err-edge-2-clause-reads t c = let p = err_from_is_err_and c.from_residual-in_err-edge-2.result c.from_residual-in_err-edge-2.ensures.1 in rw (p.1, p.2) (λ a ls h. past _ _ _ (c.loop-self.invariant.read a ls h ∙ next_label c.loop-self.self c.has_more.new.self c.token.new.self c.in_ok-token.token c.in_ok-has_more.field-0 a c.loop-self.edges.entries ls (c.in_ok-has_more.ensures.reads a c.loop-self.edges.entries ls) c.if-branch.true (c.in_ok-token.ensures.reads (next_edge (within a c.loop-self.edges.entries ls)))) (c.in_err-edge-2.ensures.reads a ls h))
