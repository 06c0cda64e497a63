-- Each literal has fewer rows than the one that holds it.
use Rattle.std.specs.Prelude.{◌≡◌, ◌≤◌, List, [], ◌∷◌, length}
use Rattle.std.proofs.Common.{arith, length-append}
use Rattle.std.proofs.lemmas.List.{length-map}
use denote.Param.Weighed.{most}
use Rattle.cp_model.specs.declared.literal.Literal.TheVariants as literal
use Rattle.cp_model.specs.declared.literal.LitEdge.{LitEdge}
use Rattle.cp_model.specs.declared.literal.LitList.TheInside.{Inside}
use Rattle.cp_model.specs.declared.literal.LitList.TheDeep.{deep-LitEdge, deep-LitList}
use Rattle.cp_model.specs.Literals.{literal_rows, rows_under, edge_rows}

length-rows_under : (e : LitEdge) → length (rows_under e.label (literal_rows e.tree)) ≡ length (literal_rows e.tree)
length-rows_under e = length-map (literal_rows e.tree) (λ r. (e.label ∷ r.0, r.1))

edge_falls : (e : LitEdge) → deep-LitEdge e ≤ length (literal_rows e.tree)
edge_falls e = elim e.tree as (λ t. deep-LitEdge (record { label = e.label; tree = t }) ≤ length (literal_rows t)) [ literal.Leaf v ↦ omega arith | literal.Node below ↦ omega arith ]

edges_fall : (es : List LitEdge) → most (λ e. deep-LitEdge e) es ≤ length (edge_rows es)
edges_fall [] = omega arith
edges_fall (e ∷ es) = omega (arith, edges_fall es, edge_falls e, length-rows_under e, length-append (rows_under e.label (literal_rows e.tree)) (edge_rows es))

pub list_falls : (a : Inside) → deep-LitList a ≤ length (edge_rows a.items.items)
list_falls a = omega (arith, edges_fall a.items.items)
