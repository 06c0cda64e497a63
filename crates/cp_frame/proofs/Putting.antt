-- Trees that are written: a leaf, a node, and one child after another.
use Rattle.std.proofs.Common.{◌≡◌, ℕ, zero, suc, ◌+◌, ◌<◌, ◌≤◌, ◌^◌, List, [], ◌∷◌, ◌++◌, refl, sym, ap, subst, ◌∙◌, append_assoc, append-nil, length, length-append, drop, get_or, arith}
use Rattle.std.proofs.lemmas.List.{drop_more, length-map}
use Rattle.std.specs.Int.{to_be_bytes, w32}
use Rattle.std.specs.List.{AllByRecursion}
use Rattle.cp_path.specs.Encoding.{counted_bytes}
use Rattle.cp_path.specs.declared.limits.TheConstants.{TEXT_MAX}
use Rattle.cp_path.specs.declared.value.Value.{Value}
use Rattle.cp_path.specs.declared.value.Value.TheVariants.{Null, False, True, Whole, Text}
use Rattle.cp_model.specs.Literals.{literal_rows, rows_under, edge_rows}
use Rattle.cp_model.specs.Place.{Label, Path}
use Rattle.cp_model.specs.Tree.{text_bytes}
use Rattle.cp_model.specs.declared.literal.Literal.{Literal}
use Rattle.cp_model.specs.declared.literal.Literal.TheVariants as literal
use Rattle.cp_model.specs.declared.literal.LitEdge.{LitEdge}
use Rattle.cp_model.specs.declared.row.Content.{Content}
use Rattle.cp_model.specs.declared.row.Content.TheVariants.{Node, Leaf}
use Rattle.cp_record.specs.Kept.{IsLabel}
use Rattle.cp_record.specs.Packed.{Grew}
use Rattle.cp_format.specs.Contents.{HasShortText, IsContent, content_bytes}
use Rattle.cp_frame.specs.Trees.{leaf, node, no_more, child, number_of, rows_below, tree_bytes, children_bytes, HasPutTree, HasPutChildren}

-- ---- the rows of edges

-- no text of these rows is too long
abbrev pub HaveShortTexts : List (Path × Content) → Type 0
HaveShortTexts rows = AllByRecursion (λ e. text_bytes e.1 ≤ TEXT_MAX) rows

texts_first : (xs ys : List (Path × Content)) → HaveShortTexts (xs ++ ys) → HaveShortTexts xs
texts_first [] ys h = tt
texts_first (x ∷ xs) ys h = (h.0, texts_first xs ys h.1)

texts_second : (xs ys : List (Path × Content)) → HaveShortTexts (xs ++ ys) → HaveShortTexts ys
texts_second [] ys h = h
texts_second (x ∷ xs) ys h = texts_second xs ys h.1

texts_under : (a : Label) (rows : List (Path × Content)) → HaveShortTexts (rows_under a rows) → HaveShortTexts rows
texts_under a [] h = tt
texts_under a (e ∷ es) h = (h.0, texts_under a es h.1)

edge_count : (e : LitEdge) (es : List LitEdge) → length (edge_rows (e ∷ es)) ≡ length (literal_rows e.tree) + length (edge_rows es)
edge_count e es = omega (arith, length-append (rows_under e.label (literal_rows e.tree)) (edge_rows es), length-map {B = Path × Content} (literal_rows e.tree) (λ (r : Path × Content). (e.label ∷ r.0, r.1)))

-- each edge has a row at least
pub edges_few : (es : List LitEdge) → length es ≤ length (edge_rows es)
edges_few [] = omega arith
edges_few (e ∷ es) = omega (arith, edges_few es, edge_count e es, some e.tree)
  where
    some : (t : Literal) → 1 ≤ length (literal_rows t)
    some (literal.Leaf v) = omega arith
    some (literal.Node rows) = omega arith

-- the rows of a node, and those below it
pub node_count : (t : Literal) (rows : List (Path × Content)) → t ≡ literal.Node rows → length (literal_rows t) ≡ 1 + length rows
node_count t rows e = ap (λ (x : Literal). length (literal_rows x)) e ∙ omega arith

drop_one : (es : List LitEdge) (i : ℕ) (e : LitEdge) → i < length es → e ≡ get_or es i e → drop i es ≡ e ∷ drop (i + 1) es
drop_one es i e h f = drop_more es i e h ∙ ap (λ (x : LitEdge). x ∷ drop (i + 1) es) (sym f)

-- those left have no more rows than all
left_few : (es : List LitEdge) (i : ℕ) → length (edge_rows (drop i es)) ≤ length (edge_rows es)
left_few es zero = omega arith
left_few [] (suc i) = omega arith
left_few (e ∷ es) (suc i) = omega (arith, left_few es i, edge_count e es)

module _ (es : List LitEdge) (i : ℕ) (e : LitEdge) (h : i < length es) (f : e ≡ get_or es i e) where
  -- the rows of the edges left are those of the next and those of the others
  pub next_count : length (edge_rows (drop i es)) ≡ length (literal_rows e.tree) + length (edge_rows (drop (i + 1) es))
  next_count = ap (λ (l : List LitEdge). length (edge_rows l)) (drop_one es i e h f) ∙ edge_count e (drop (i + 1) es)

  -- the next edge's tree has no more rows than all edges
  pub next_few : length (literal_rows e.tree) ≤ length (edge_rows es)
  next_few = omega (arith, next_count, left_few es i)

  next_texts : HaveShortTexts (edge_rows (drop i es)) → HaveShortTexts (edge_rows (e ∷ drop (i + 1) es))
  next_texts t = subst (λ (l : List LitEdge). HaveShortTexts (edge_rows l)) (drop_one es i e h f) t

  pub tree_texts : HaveShortTexts (edge_rows (drop i es)) → HaveShortTexts (literal_rows e.tree)
  tree_texts t = texts_under e.label (literal_rows e.tree) (texts_first (rows_under e.label (literal_rows e.tree)) (edge_rows (drop (i + 1) es)) (next_texts t))

  pub other_texts : HaveShortTexts (edge_rows (drop i es)) → HaveShortTexts (edge_rows (drop (i + 1) es))
  other_texts t = texts_second (rows_under e.label (literal_rows e.tree)) (edge_rows (drop (i + 1) es)) (next_texts t)

-- ---- bytes that come after others

pub grew_more : (old mid new : List ℕ) → Grew old mid → Grew mid new → Grew old new
grew_more old mid new g k = record { added = g.added ++ k.added; is = k.is ∙ ap (λ l. l ++ k.added) g.is ∙ append_assoc old g.added k.added }

pub grew_by : (old new added : List ℕ) → new ≡ old ++ added → Grew old new
grew_by old new added e = record { added = added; is = e }

pub grew_tree : (l : Literal) (old new : List ℕ) → HasPutTree l old new → Grew old new
grew_tree l old new p = record { added = tree_bytes p.tree; is = p.bytes }

-- ---- a leaf, a node, a child

-- a leaf's text is short where those of the tree's rows are
pub leaf_short : (l : Literal) (v : Value) → l ≡ literal.Leaf v → HaveShortTexts (literal_rows l) → HasShortText (Leaf v)
leaf_short l v e h = short_text (Leaf v) (subst (λ (x : Literal). HaveShortTexts (literal_rows x)) e h).0
  where
    short_text : (c : Content) → text_bytes c ≤ TEXT_MAX → HasShortText c
    short_text Node le = tt
    short_text (Leaf Null) le = tt
    short_text (Leaf False) le = tt
    short_text (Leaf True) le = tt
    short_text (Leaf (Whole n)) le = tt
    short_text (Leaf (Text a)) le = le

pub leaf_put : (l : Literal) (v : Value) (old new : List ℕ) → l ≡ literal.Leaf v → IsContent (Leaf v) → new ≡ old ++ content_bytes (Leaf v) → HasPutTree l old new
leaf_put l v old new e c b = subst (λ (x : Literal). HasPutTree x old new) (sym e) (record { tree = leaf v; rows = refl; parts = c; bytes = b })

pub node_put : (l : Literal) (rows : List (Path × Content)) (es : List LitEdge) (n : ℕ) (old a b new : List ℕ) → l ≡ literal.Node rows → edge_rows es ≡ rows → n ≡ length es → n < 2 ^ 32 →
    a ≡ old ++ content_bytes Node → b ≡ a ++ to_be_bytes w32 n → HasPutChildren es b new → HasPutTree l old new
node_put l rows es n old a b new e r k few f g p =
    let front = content_bytes Node in
    let number : to_be_bytes w32 n ≡ to_be_bytes w32 (number_of p.children) = ap (to_be_bytes w32) (k ∙ sym p.number) in
    subst (λ (x : Literal). HasPutTree x old new) (sym e) (record {
      tree = node p.children;
      rows = ap (λ (z : List (Path × Content)). ([], Node) ∷ z) (p.rows ∙ r);
      parts = (omega (arith, k, few, p.number), p.parts);
      bytes =
          p.bytes ∙ ap (λ z. z ++ children_bytes p.children) (g ∙ ap (λ z. z ++ to_be_bytes w32 n) f)
          ∙ ap (λ z. z ++ children_bytes p.children) (append_assoc old front (to_be_bytes w32 n)) ∙ append_assoc old (front ++ to_be_bytes w32 n) (children_bytes p.children)
          ∙ ap (λ z. old ++ z) (append_assoc front (to_be_bytes w32 n) (children_bytes p.children)) ∙ ap (λ z. old ++ (front ++ (z ++ children_bytes p.children))) number;
    })

-- no edges are written
pub none_put : (es : List LitEdge) (i : ℕ) (out : List ℕ) → length es ≤ i → HasPutChildren (drop i es) out out
none_put [] zero out h = record { children = no_more; rows = refl; parts = tt; number = refl; bytes = sym (append-nil out) }
none_put [] (suc i) out h = record { children = no_more; rows = refl; parts = tt; number = refl; bytes = sym (append-nil out) }
none_put (e ∷ es) zero out h = absurd (omega arith)
none_put (e ∷ es) (suc i) out h = none_put es i out (omega (arith, h))

-- an edge is written, and then the others
child_put : (e : LitEdge) (es : List LitEdge) (old a b new : List ℕ) → IsLabel e.label → a ≡ old ++ counted_bytes e.label → HasPutTree e.tree a b → HasPutChildren es b new → HasPutChildren (e ∷ es) old new
child_put e es old a b new l f p q =
    let front = counted_bytes e.label in
    let tree = tree_bytes p.tree in
    let others = children_bytes q.children in
    record {
      children = child e.label p.tree q.children;
      rows = ap (λ (z : List (Path × Content)). rows_under e.label z ++ rows_below q.children) p.rows ∙ ap (λ (z : List (Path × Content)). rows_under e.label (literal_rows e.tree) ++ z) q.rows;
      parts = (l, p.parts, q.parts);
      number = ap suc q.number;
      bytes =
          q.bytes ∙ ap (λ z. z ++ others) (p.bytes ∙ ap (λ z. z ++ tree) f ∙ append_assoc old front tree)
          ∙ append_assoc old (front ++ tree) others ∙ ap (λ z. old ++ z) (append_assoc front tree others);
    }

pub next_put : (es : List LitEdge) (i : ℕ) (e : LitEdge) (old a b new : List ℕ) → i < length es → e ≡ get_or es i e → IsLabel e.label → a ≡ old ++ counted_bytes e.label → HasPutTree e.tree a b →
    HasPutChildren (drop (i + 1) es) b new → HasPutChildren (drop i es) old new
next_put es i e old a b new h g l f p q = subst (λ (z : List LitEdge). HasPutChildren z old new) (sym (drop_one es i e h g)) (child_put e (drop (i + 1) es) old a b new l f p q)
