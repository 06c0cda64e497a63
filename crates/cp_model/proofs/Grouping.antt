-- The rows of edges with different neighbours are grouped into the edges again.
use Rattle.std.specs.Prelude.{◌≡◌, Bool, true, false, not, ◌&&◌, List, [], ◌∷◌, ◌++◌, map, refl}
use Rattle.std.proofs.Common.{ap, sym, ◌∙◌}
use Rattle.std.specs.Cmp.Lexicographic.{nat_list_eq_equiv}
use Rattle.cp_path.specs.Place.{Label, Path, label_eq}
use Rattle.cp_model.specs.declared.row.Content.{Content}
use Rattle.cp_model.specs.declared.row.Content.TheVariants.{Node, Leaf}
use Rattle.cp_model.specs.declared.literal.Literal.{Literal}
use Rattle.cp_model.specs.declared.literal.Literal.TheVariants as literal
use Rattle.cp_model.specs.declared.literal.LitEdge.{LitEdge}
use Rattle.cp_model.specs.Literals.{literal_rows, rows_under, edge_rows}
use Rattle.cp_model.specs.Trees.{Group, into_groups, groups}

-- no label is its neighbour's
abbrev pub neighbours_differ : List Label → Bool
neighbours_differ [] = true
neighbours_differ (a ∷ []) = true
neighbours_differ (a ∷ b ∷ ls) = not (label_eq a b) && neighbours_differ (b ∷ ls)

-- an edge, as the group of its rows
abbrev pub edge_group : LitEdge → Group
edge_group e = record { label = e.label; rows = literal_rows e.tree }

-- a row joins the group of its label
pub joins : (a : Label) (r : Path × Content) (rows : List (Path × Content)) (gs : List Group) → into_groups a r (record { label = a; rows = rows } ∷ gs) ≡ record { label = a; rows = r ∷ rows } ∷ gs
joins a r rows gs = rw (nat_list_eq_equiv.refl a) refl

-- a row before these groups begins one of its own
abbrev Begins : Label → List Group → Type 0
Begins a gs = (r : Path × Content) → into_groups a r gs ≡ record { label = a; rows = r ∷ [] } ∷ gs

under : (a : Label) (r : Path × Content) (rows rest : List (Path × Content)) → Begins a (groups rest)
    → groups (rows_under a (r ∷ rows) ++ rest) ≡ record { label = a; rows = r ∷ rows } ∷ groups rest
under a r [] rest begins = begins r
under a r (x ∷ rows) rest begins = ap (into_groups a r) (under a x rows rest begins) ∙ joins a r (x ∷ rows) (groups rest)

under_literal : (a : Label) (l : Literal) (rest : List (Path × Content)) → Begins a (groups rest)
    → groups (rows_under a (literal_rows l) ++ rest) ≡ record { label = a; rows = literal_rows l } ∷ groups rest
under_literal a (literal.Leaf v) rest begins = under a ([], Leaf v) [] rest begins
under_literal a (literal.Node below) rest begins = under a ([], Node) below rest begins

differs : (a b : Bool) → (not a && b) ≡ true → a ≡ false
differs true b e = sym e
differs false b e = refl

others : (a b : Bool) → (not a && b) ≡ true → b ≡ true
others true b e = absurd (let no : false ≡ true = e in cc)
others false b e = e

begins_apart : (a : Label) (es : List LitEdge) → neighbours_differ (a ∷ map (λ e. e.label) es) ≡ true → Begins a (map edge_group es)
begins_apart a [] apart r = refl
begins_apart a (e ∷ es) apart r = rw (differs (label_eq a e.label) (neighbours_differ (map (λ d. d.label) (e ∷ es))) apart) refl

later : (a : Label) (es : List LitEdge) → neighbours_differ (a ∷ map (λ e. e.label) es) ≡ true → neighbours_differ (map (λ e. e.label) es) ≡ true
later a [] apart = refl
later a (e ∷ es) apart = others (label_eq a e.label) (neighbours_differ (map (λ d. d.label) (e ∷ es))) apart

-- the groups are the edges, one by one
pub groups-edges : (es : List LitEdge) → neighbours_differ (map (λ e. e.label) es) ≡ true → groups (edge_rows es) ≡ map edge_group es
groups-edges [] apart = refl
groups-edges (e ∷ es) apart =
    let more : groups (edge_rows es) ≡ map edge_group es = groups-edges es (later e.label es apart) in
    let begins : Begins e.label (groups (edge_rows es)) = λ r. rw more (begins_apart e.label es apart r) in
    under_literal e.label e.tree (edge_rows es) begins ∙ ap (λ gs. edge_group e ∷ gs) more
