-- A literal's text is read as the literal.
use Rattle.cp_path.specs.declared.limits.TheConstants.{LABELS_MAX, LABEL_MAX}
use Rattle.std.specs.Prelude.{ℕ, suc, zero, ◌≤◌, ◌+◌, ◌≡◌, List, [], ◌∷◌, ◌++◌, true, false, ◌||◌, nat_le, map, length, codes, ⊤, refl, if◌then◌else◌}
use Rattle.std.proofs.Common.{ap, sym, ◌∙◌, arith, append_assoc}
use Rattle.std.proofs.lemmas.Bool.{lt-leb}
use Rattle.std.specs.Ordering.{ordering_reverse, match_ordering}
use Rattle.std.specs.declared.cmp.Ordering.TheVariants.{Less}
use Rattle.std.specs.Cmp.Lexicographic.{nat_list_cmp_total, nat_list_eq_equiv}
use Rattle.std.specs.BTreeMap.{insert_entry}
use Rattle.cp_path.specs.Text.{text_cmp}
use Rattle.cp_path.specs.Place.{Label}
use Rattle.cp_path.specs.Spelling.{label_text, value_text}
use Rattle.cp_spelling.specs.Words.{label_reading, value_reading}
use Rattle.cp_spelling.proofs.WordLaws.{label_reads_back, label_shape}
use Rattle.cp_spelling.proofs.ValueLaws.{value_reads_back, value_shape}
use Rattle.cp_model.specs.Literals.{literal_rows, rows_under}
use Rattle.cp_model.specs.Trees.{Group, groups, between, tree_at}
use Rattle.cp_model.specs.declared.row.Content.TheVariants.{Node, Leaf}
use Rattle.cp_model.specs.declared.literal.Literal.{Literal}
use Rattle.cp_model.specs.declared.literal.Literal.TheVariants as literal
use Rattle.cp_lang.specs.Lexer.{word, quotes}
use Rattle.cp_lang.proofs.LexerLaws.{stops_word}
use Rattle.cp_lang.specs.Grammar.{Edges, Level, rows_of_edges, node, has_edge, Spot, tree_colon, tree, first_edge, next_edge, edge_end, takes, goes, cant, after_tree, new_edge, by_reading}
use Rattle.cp_lang.specs.Printed.{Rows, group_text}
use Rattle.cp_lang.proofs.Layers.{Each, Rising, rows_of, Layered, less-apart}
use Rattle.cp_lang.proofs.Reached.{Reaches, on, from_same, to_same, space_on, mark_on, read_on}

-- the literal of these rows
abbrev pub literal_of : Rows → Literal
literal_of [] = literal.Node []
literal_of ((p, Leaf v) ∷ rows) = literal.Leaf v
literal_of ((p, Node) ∷ rows) = literal.Node rows

-- the edges to the literals of these groups
abbrev pub edges_of : List Group → Edges
edges_of gs = map (λ g. (g.label, literal_of g.rows)) gs

-- its rows are these
rows-literal_of : (d : ℕ) (rows : Rows) → Layered d rows → literal_rows (literal_of rows) ≡ rows
rows-literal_of zero rows h = absurd h
rows-literal_of (suc d) [] h = absurd h
rows-literal_of (suc d) ((p, Leaf v) ∷ rows) h = ap (λ q. (q, Leaf v) ∷ []) (sym h.0) ∙ ap (λ rs. (p, Leaf v) ∷ rs) (sym h.1)
rows-literal_of (suc d) ((p, Node) ∷ rows) h = ap (λ q. (q, Node) ∷ rows) (sym h.0)

-- a group within its limits
abbrev IsGroup : ℕ → Group → Type 0
IsGroup d g = (length g.label ≤ LABEL_MAX) × Layered d g.rows

rows-edges_of : (d : ℕ) (gs : List Group) → Each (IsGroup d) gs → rows_of_edges (edges_of gs) ≡ rows_of gs
rows-edges_of d [] h = refl
rows-edges_of d (g ∷ gs) h = ap (λ rs. rows_under g.label rs ++ rows_of_edges (edges_of gs)) (rows-literal_of d g.rows h.0.1) ∙ ap (λ rs. rows_under g.label g.rows ++ rs) (rows-edges_of d gs h.1)

-- ---- edges that rise

-- the label comes after all of them
abbrev Before : Edges → Label → Type 0
Before [] a = ⊤
Before (e ∷ es) a = (text_cmp e.0 a ≡ Less) × Before es a

no_edge : (a : Label) (es : Edges) → Before es a → has_edge a es ≡ false
no_edge a [] h = refl
no_edge a (e ∷ es) h = ap (λ b. b || has_edge a es) (nat_list_eq_equiv.symm a e.0 ∙ less-apart e.0 a h.0) ∙ no_edge a es h.1

entry_last : (a : Label) (t : Literal) (es : Edges) → Before es a → insert_entry text_cmp es a t ≡ es ++ (a, t) ∷ []
entry_last a t [] h = refl
entry_last a t (e ∷ es) h =
    ap (λ o. match_ordering o ((a, t) ∷ e ∷ es) ((e.0, t) ∷ es) (e ∷ insert_entry text_cmp es a t)) (nat_list_cmp_total.antisymm a e.0 ∙ ap ordering_reverse h.0)
    ∙ ap (λ rs. e ∷ rs) (entry_last a t es h.1)

before-more : (a b : Label) (t : Literal) (es : Edges) → Before es b → text_cmp a b ≡ Less → Before (es ++ (a, t) ∷ []) b
before-more a b t [] h l = (l, tt)
before-more a b t (e ∷ es) h l = (h.0, before-more a b t es h.1 l)

each-pair : (P Q R : Group → Type 0) → ((g : Group) → P g → Q g → R g) → (gs : List Group) → Each P gs → Each Q gs → Each R gs
each-pair P Q R f [] h k = tt
each-pair P Q R f (g ∷ gs) h k = (f g h.0 k.0, each-pair P Q R f gs h.1 k.1)

-- ---- reading

-- a node whose closing brace is still to come
abbrev level : Label → Edges → Level
level a es = record { label = a; edges = es }

-- the tree of a group is read within any nodes that aren't too deep
abbrev TreesRead : ℕ → ℕ → Type 0
TreesRead d m = (rows : Rows) (a : Label) (ls : List Level) (rest : List ℕ) → Layered d rows → length ls + d ≤ LABELS_MAX → stops_word rest ≡ true →
    Reaches (tree a ls) (tree_at m rows ++ rest) (after_tree a (literal_of rows) ls) rest

-- a label is wanted
record WantsLabel (s : Spot) (ls : List Level) : Type 0 where
  bare : (u : List ℕ) → takes s (word u) ≡ by_reading (label_reading u) (new_edge ls)
  inside : (u : List ℕ) → takes s (quotes u) ≡ by_reading (label_reading u) (new_edge ls)

first_wants : (ls : List Level) → WantsLabel (first_edge ls) ls
unfolding takes
first_wants ls = record { bare = λ u. refl; inside = λ u. refl }

next_wants : (ls : List Level) → WantsLabel (next_edge ls) ls
unfolding takes
next_wants ls = record { bare = λ u. refl; inside = λ u. refl }

new_goes : (a b : Label) (es : Edges) (ls : List Level) → length ls + 2 ≤ LABELS_MAX → has_edge a es ≡ false → new_edge (level b es ∷ ls) a ≡ goes (tree_colon a (level b es ∷ ls))
new_goes a b es ls h n =
    let few : nat_le LABELS_MAX (suc (length ls)) ≡ false = lt-leb LABELS_MAX (suc (length ls)) (omega (arith, h)) in
    ap (λ c. if c || has_edge a es then cant else goes (tree_colon a (level b es ∷ ls))) few ∙ ap (λ c. if c then cant else goes (tree_colon a (level b es ∷ ls))) n

-- an edge is read
edge_on : (d m : ℕ) (g : Group) (b : Label) (es : Edges) (ls : List Level) (s : Spot) (rest : List ℕ) →
    TreesRead d m → IsGroup d g → Before es g.label → length ls + suc d ≤ LABELS_MAX → WantsLabel s (level b es ∷ ls) → stops_word rest ≡ true →
    Reaches s (group_text m g ++ rest) (edge_end (level b (es ++ (g.label, literal_of g.rows) ∷ []) ∷ ls)) rest
unfolding takes
edge_on d m g b es ls s rest read h n l w e =
    let below = level b es ∷ ls in
    let after = tree_at m g.rows ++ rest in
    let apart = no_edge g.label es n in
    from_same (append_assoc (label_text g.label) (codes " : " ++ tree_at m g.rows) rest)
    (on (read_on label_reading (new_edge below) (label_text g.label) g.label s (tree_colon g.label below) (codes " : " ++ after)
    (label_shape g.label) refl w.bare w.inside (label_reads_back g.label h.0) (new_goes g.label b es ls (deep d h.1 l) apart))
    (on (space_on (tree_colon g.label below) (codes ": " ++ after))
    (on (mark_on 58 (tree_colon g.label below) (tree g.label below) (32 ∷ after) refl refl refl refl)
    (on (space_on (tree g.label below) after)
    (to_same (read g.rows g.label below rest h.1 (omega (arith, l)) e) (ap (λ fs. edge_end (level b fs ∷ ls)) (entry_last g.label (literal_of g.rows) es n)))))))
  where
    deep : (d : ℕ) → Layered d g.rows → length ls + suc d ≤ LABELS_MAX → length ls + 2 ≤ LABELS_MAX
    deep zero k l = absurd k
    deep (suc d) k l = omega (arith, l)

-- edges and the closing brace are read
edges_on : (d m : ℕ) (g : Group) (gs : List Group) (b : Label) (es : Edges) (ls : List Level) (s : Spot) (rest : List ℕ) →
    TreesRead d m → Each (IsGroup d) (g ∷ gs) → Rising (g ∷ gs) → Each (λ h. Before es h.label) (g ∷ gs) → length ls + suc d ≤ LABELS_MAX → WantsLabel s (level b es ∷ ls) → stops_word rest ≡ true →
    Reaches s (between (codes ", ") (map (group_text m) (g ∷ gs)) ++ 125 ∷ rest) (after_tree b (node (es ++ edges_of (g ∷ gs))) ls) rest
unfolding takes
edges_on d m g [] b es ls s rest read h r n l w e =
    on (edge_on d m g b es ls s (125 ∷ rest) read h.0 n.0 l w refl)
    (mark_on 125 (edge_end (level b (es ++ edges_of (g ∷ [])) ∷ ls)) (after_tree b (node (es ++ edges_of (g ∷ []))) ls) rest refl refl refl refl)
edges_on d m g (h ∷ gs) b es ls s rest read k r n l w e =
    let more = es ++ (g.label, literal_of g.rows) ∷ [] in
    let later = between (codes ", ") (map (group_text m) (h ∷ gs)) in
    let above = level b more ∷ ls in
    from_same (append_assoc (group_text m g) (codes ", " ++ later) (125 ∷ rest))
    (on (edge_on d m g b es ls s (codes ", " ++ (later ++ 125 ∷ rest)) read k.0 n.0 l w refl)
    (on (mark_on 44 (edge_end above) (next_edge above) (32 ∷ later ++ 125 ∷ rest) refl refl refl refl)
    (on (space_on (next_edge above) (later ++ 125 ∷ rest))
    (to_same (edges_on d m h gs b more ls (next_edge above) rest read k.1 r.1
    (each-pair (λ i. Before es i.label) (λ i. text_cmp g.label i.label ≡ Less) (λ i. Before more i.label) (λ i. before-more g.label i.label (literal_of g.rows) es) (h ∷ gs) n.1 r.0) l (next_wants above) e)
    (ap (λ fs. after_tree b (node fs) ls) (append_assoc es ((g.label, literal_of g.rows) ∷ []) (edges_of (h ∷ gs))))))))

all_before : (gs : List Group) → Each (λ h. Before [] h.label) gs
all_before [] = tt
all_before (g ∷ gs) = (tt, all_before gs)

-- a node is read
node_on : (d m : ℕ) (gs : List Group) (rows : Rows) (a : Label) (ls : List Level) (rest : List ℕ) →
    TreesRead d m → Each (IsGroup d) gs → Rising gs → rows_of gs ≡ rows → length ls + suc d ≤ LABELS_MAX → stops_word rest ≡ true →
    Reaches (tree a ls) (123 ∷ between (codes ", ") (map (group_text m) gs) ++ 125 ∷ rest) (after_tree a (literal.Node rows) ls) rest
unfolding takes
node_on d m [] rows a ls rest read h r s l e =
    on (mark_on 123 (tree a ls) (first_edge (level a [] ∷ ls)) (125 ∷ rest) refl refl refl refl)
    (to_same (mark_on 125 (first_edge (level a [] ∷ ls)) (after_tree a (node []) ls) rest refl refl refl refl) (ap (λ rs. after_tree a (literal.Node rs) ls) s))
node_on d m (g ∷ gs) rows a ls rest read h r s l e =
    on (mark_on 123 (tree a ls) (first_edge (level a [] ∷ ls)) (between (codes ", ") (map (group_text m) (g ∷ gs)) ++ 125 ∷ rest) refl refl refl refl)
    (to_same (edges_on d m g gs a [] ls (first_edge (level a [] ∷ ls)) rest read h r (all_before (g ∷ gs)) l (first_wants (level a [] ∷ ls)) e)
    (ap (λ rs. after_tree a (literal.Node rs) ls) (rows-edges_of d (g ∷ gs) h ∙ s)))

-- the text of a tree is read, within nodes that aren't too deep
pub tree_on : (d m : ℕ) → d ≤ m → TreesRead d m
unfolding takes tree_at
tree_on zero m n rows a ls rest h l e = absurd h
tree_on (suc d) zero n rows a ls rest h l e = absurd (omega (arith, n))
tree_on (suc d) (suc m) n [] a ls rest h l e = absurd h
tree_on (suc d) (suc m) n ((p, Leaf v) ∷ rows) a ls rest h l e =
    read_on value_reading (λ x. goes (after_tree a (literal.Leaf x) ls)) (value_text v) v (tree a ls) (after_tree a (literal.Leaf v) ls) rest (value_shape v) e (λ u. refl) (λ u. refl) (value_reads_back v h.2) refl
tree_on (suc d) (suc m) n ((p, Node) ∷ rows) a ls rest h l e =
    from_same (ap (λ bs. 123 ∷ bs) (append_assoc (between (codes ", ") (map (group_text m) (groups rows))) (codes "}") rest))
    (node_on d m (groups rows) rows a ls rest (λ rs b ks more. tree_on d m (omega (arith, n)) rs b ks more) h.3 h.2 h.1 l e)
