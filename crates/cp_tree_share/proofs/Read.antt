-- Rows that are read in order into the edges of a tree.
use Rattle.cp_path.specs.declared.limits.TheConstants.{TEXT_MAX}
use Rattle.std.proofs.Common.{◌≡◌, ℕ, suc, ◌+◌, ◌-◌, ◌≤◌, ◌<◌, List, [], ◌∷◌, ◌++◌, length, map, refl, sym, ap, subst, ◌∙◌, append_assoc, append-nil, length-append, arith, get_or}
use Rattle.std.proofs.lemmas.List.{map-append}
use Rattle.cp_model.specs.Place.{Label, Path, child}
use Rattle.cp_model.specs.Keyed as keyed
use Rattle.cp_model.specs.Subtrees.{entries_under}
use Rattle.cp_model.specs.Tree.{Tree, text_bytes}
use Rattle.cp_model.specs.History.{IsLiteral}
use Rattle.cp_model.specs.declared.row.Content.{Content}
use Rattle.cp_model.specs.declared.row.Content.TheVariants.{Node}
use Rattle.cp_model.specs.declared.row.Row.{Row}
use Rattle.cp_tree.specs.Branch.{branch, child_rows, below_label}
use Rattle.cp_tree.specs.Good.{IsGood}
use Rattle.cp_tree.specs.Rows.{entry_row, entries_in, tree_of_rows}
use Rattle.cp_tree.specs.Sums.{AreChildren, IsSmall}
use Rattle.cp_tree.proofs.ListingLemmas.{moved-append, moved-below_label, moved-branch, moved-root}
use Rattle.cp_tree.proofs.BranchLemmas.{entries-branch}
use Rattle.cp_tree.proofs.Built.{entries-tree_of_rows}
use Rattle.cp_tree.proofs.FewRows.{row_text}
use Rattle.cp_tree.proofs.Small.{children_of}
use Rattle.cp_tree.proofs.SumsLemmas.{children_back}
use Rattle.cp_tree_share.specs.Siblings.{Edges}
use Rattle.cp_tree_share.specs.Reading.{AreShort, BeginAbove, rows_at, AreBelow, HaveEdges, HaveTree, HaveEdge, AreRead, IsRead, IsEdgeRead, HaveSiblings, AreTaken}
use Rattle.cp_tree_share.proofs.Apart.{IsApart, apart}
use Rattle.cp_tree_share.proofs.Halved.{ends}

-- ---- edges that are read so far

-- some edges are read, and the rows of the others and what comes after them are left
pub record IsReadSoFar (depth : ℕ) (edges : Edges) (others : List Row) (old new : Edges) (left : List Row) : Type 0 where
  pub done : Edges
  pub to_do : Edges
  pub parts : edges ≡ done ++ to_do
  pub put : new ≡ old ++ done
  pub below : AreBelow depth left to_do others

-- so it is of those that the rows have
pub record AreReadSoFar (depth : ℕ) (rows : List Row) (old new : Edges) (left : List Row) : Type 0 where
  pub read : (edges : Edges) (others : List Row) → AreBelow depth rows edges others → IsReadSoFar depth edges others old new left
  pub texts : AreShort left
  pub shorter : length left ≤ length rows

-- ---- the texts

short_back : (xs ys : List Row) → AreShort (xs ++ ys) → AreShort ys
short_back [] ys h = h
short_back (x ∷ xs) ys h = short_back xs ys h.1

-- ---- the first edge

no_rows : (p : Path) → rows_at p [] ≡ []
unfolding entries_under
no_rows p = refl

rows_edge : (p : Path) (a : Label) (k : Tree) (es : Edges) → rows_at p ((a, k) ∷ es) ≡ map entry_row (entries_under (child p a) (keyed.entries k)) ++ rows_at p es
rows_edge p a k es =
    ap (map entry_row) (moved-append p (below_label a (keyed.entries k)) (child_rows es) ∙ ap (λ z. z ++ entries_under p (child_rows es)) (moved-below_label p a (keyed.entries k)))
    ∙ map-append entry_row (entries_under (child p a) (keyed.entries k)) (entries_under p (child_rows es))

deeper : (p : Path) (a : Label) (d : ℕ) → length p ≡ d → length (child p a) ≡ d + 1
deeper p a d e = length-append p (a ∷ []) ∙ omega (arith, e)

small_edge : (e : Label × Tree) (es : Edges) → AreChildren (e ∷ es) → IsSmall e.1
small_edge e es k = record { nodes = omega (arith, k.small.nodes); inner = omega (arith, k.small.inner); size = omega (arith, k.small.size); depth = omega (arith, k.small.depth) }

first_rows : (p : Path) (e : Label × Tree) (es : Edges) (others : List Row) (t : IsApart e.1) →
    rows_at p (e ∷ es) ++ others ≡ record { path = child p e.0; content = t.root } ∷ (rows_at (child p e.0) t.edges ++ (rows_at p es ++ others))
first_rows p e es others t =
    let q = child p e.0 in
    let row : Row = record { path = q; content = t.root } in
    let own : map entry_row (entries_under q (keyed.entries e.1)) ≡ row ∷ rows_at q t.edges =
    ap (λ z. map entry_row (entries_under q (keyed.entries z))) (sym t.is) ∙ ap (map entry_row) (moved-branch q t.root t.edges t.good.sorted) in
    ap (λ z. z ++ others) (rows_edge p e.0 e.1 es ∙ ap (λ z. z ++ rows_at p es) own) ∙ append_assoc (row ∷ rows_at q t.edges) (rows_at p es) others

above_next : (d : ℕ) (p : Path) (es : Edges) (others : List Row) → length p ≡ d → AreChildren es → BeginAbove d others → BeginAbove (d + 1) (rows_at p es ++ others)
above_next d p [] others k c h = subst (λ z. BeginAbove (d + 1) (z ++ others)) (sym (no_rows p)) (by others h)
  where
    by : (rows : List Row) → BeginAbove d rows → BeginAbove (d + 1) rows
    by [] h = tt
    by (r ∷ rows) h = (let few : length r.path ≤ d = h in omega (arith, few))
above_next d p (e ∷ es) others k c h =
    let t = apart e.1 c.rooted.0 in
    subst (BeginAbove (d + 1)) (sym (first_rows p e es others t)) (let n = deeper p e.0 d k in omega (arith, n))

-- a row that is the first of the first edge, and the tree of that edge
pub record IsFirst (row : Row) (after : List Row) (place : Path) (depth : ℕ) (edge : Label × Tree) (left : List Row) : Type 0 where
  pub tree : IsApart edge.1
  pub path : row.path ≡ child place edge.0
  pub deep : length row.path ≡ depth + 1
  pub content : row.content ≡ tree.root
  pub parts : after ≡ rows_at row.path tree.edges ++ left
  pub below : AreBelow (length row.path) after tree.edges left

module _ (d : ℕ) (row : Row) (below : List Row) (e : Label × Tree) (es : Edges) (others : List Row) (b : AreBelow d (row ∷ below) (e ∷ es) others) where
  abbrev pub past : List Row
  past = rows_at b.place es ++ others

  pub first : IsFirst row below b.place d e past
  first =
      let t = apart e.1 b.children.rooted.0 in
      let q = child b.place e.0 in
      let all : row ∷ below ≡ record { path = q; content = t.root } ∷ (rows_at q t.edges ++ past) = b.parts ∙ first_rows b.place e es others t in
      let path : row.path ≡ q = ap first_path all in
      let n : length row.path ≡ d + 1 = ap length path ∙ deeper b.place e.0 d b.deep in
      let parts : below ≡ rows_at row.path t.edges ++ past = ap others_of all ∙ ap (λ z. rows_at z t.edges ++ past) (sym path) in
      record {
        tree = t;
        path = path;
        deep = n;
        content = ap first_content all;
        parts = parts;
        below = record {
          place = row.path;
          deep = refl;
          parts = parts;
          above = subst (λ z. BeginAbove z past) (sym n) (above_next d b.place es others b.deep (children_back (e ∷ []) es b.children) b.above);
          children = children_of t.root t.edges t.good (subst IsSmall (sym t.is) (small_edge e es b.children));
        };
      }
    where
      first_path : List Row → Path
      first_path [] = []
      first_path (r ∷ rows) = r.path

      first_content : List Row → Content
      first_content [] = Node
      first_content (r ∷ rows) = r.content

      others_of : List Row → List Row
      others_of [] = []
      others_of (r ∷ rows) = rows

  -- what is past begins with the other edges
  pub left_below : AreBelow d past es others
  left_below = record { place = b.place; deep = b.deep; parts = refl; above = b.above; children = children_back (e ∷ []) es b.children }

  pub left_shorter : length past ≤ length below
  left_shorter = omega (arith, ap length first.parts, length-append (rows_at row.path first.tree.edges) past)

  pub left_short : AreShort below → AreShort past
  left_short h = short_back (rows_at row.path first.tree.edges) past (subst AreShort first.parts h)

-- ---- a further edge

-- rows that begin below the place have an edge more
pub record HasMore (depth : ℕ) (row : Row) (after : List Row) (edges : Edges) (others : List Row) : Type 0 where
  pub edge : Label × Tree
  pub more : Edges
  pub parts : edges ≡ edge ∷ more
  pub below : AreBelow depth (row ∷ after) (edge ∷ more) others

none_below : (d : ℕ) (left others : List Row) → AreBelow d left [] others → left ≡ others
none_below d left others b = b.parts ∙ ap (λ z. z ++ others) (no_rows b.place)

pub has_more : (d : ℕ) (left : List Row) (row : Row) (below : List Row) (es : Edges) (others : List Row) → AreBelow d left es others → left ≡ row ∷ below → d < length row.path → HasMore d row below es others
has_more d left row below (e ∷ es) others b is h = record { edge = e; more = es; parts = refl; below = subst (λ z. AreBelow d z (e ∷ es) others) is b }
has_more d left row below [] others b is h = absurd (let few : BeginAbove d (row ∷ below) = subst (BeginAbove d) (sym (none_below d left others b) ∙ is) b.above in let le : length row.path ≤ d = few in omega (arith, le, h))

-- and those that don't have none
pub has_none : (d : ℕ) (left : List Row) (es : Edges) (others : List Row) → AreBelow d left es others → BeginAbove d left → (es ≡ []) × (left ≡ others)
has_none d left [] others b h = (refl, none_below d left others b)
has_none d left (e ∷ es) others b h =
    let t = apart e.1 b.children.rooted.0 in
    let few : length (child b.place e.0) ≤ d = subst (BeginAbove d) (b.parts ∙ first_rows b.place e es others t) h in
    absurd (omega (arith, few, deeper b.place e.0 d b.deep))

-- ---- the loop over edges

pub none_read : (d : ℕ) (rows : List Row) (old new : Edges) → new ≡ old → AreShort rows → AreReadSoFar d rows old new rows
none_read d rows old new e h = record {
  read = λ es others b. record { done = []; to_do = es; parts = refl; put = e ∙ sym (append-nil old); below = b };
  texts = h;
  shorter = omega arith;
}

module _ (d : ℕ) (rows : List Row) (old new : Edges) (left : List Row) (inv : AreReadSoFar d rows old new left) (row : Row) (below : List Row) (cut : left ≡ row ∷ below) (deep : d < length row.path) where
  pub more_at : (es : Edges) (others : List Row) (b : AreBelow d rows es others) → HasMore d row below (inv.read es others b).to_do others
  more_at es others b = has_more d left row below (inv.read es others b).to_do others (inv.read es others b).below cut deep

  pub texts_here : (text_bytes row.content ≤ TEXT_MAX) × AreShort below
  texts_here = subst AreShort cut inv.texts

  pub shorter_here : length below + 1 ≤ length rows
  shorter_here = omega (arith, inv.shorter, ap length cut)

  pub have_edge : HaveEdges d rows → HaveEdge row below
  have_edge have = let m = more_at have.edges have.others have.below in record { depth = d; edge = m.edge; edges = m.more; others = have.others; below = m.below }

  module _ (have : HaveEdges d rows) (newer : Edges) (next : List Row) (is : IsEdgeRead row below new newer next) where
    h : HasMore d row below (inv.read have.edges have.others have.below).to_do have.others
    h = more_at have.edges have.others have.below

    next_is : next ≡ rows_at h.below.place h.more ++ have.others
    next_is = (is d h.edge h.more have.others h.below).1

    pub next_shorter : length next ≤ length below
    next_shorter = omega (arith, ap length next_is, left_shorter d row below h.edge h.more have.others h.below)

    pub one_read : AreReadSoFar d rows old newer next
    one_read = record {
      read = λ es others b.
          let r = inv.read es others b in
          let m = more_at es others b in
          let x = is d m.edge m.more others m.below in
          record {
            done = r.done ++ m.edge ∷ [];
            to_do = m.more;
            parts = r.parts ∙ ap (λ z. r.done ++ z) m.parts ∙ sym (append_assoc r.done (m.edge ∷ []) m.more);
            put = x.0 ∙ ap (λ z. z ++ m.edge ∷ []) r.put ∙ append_assoc old r.done (m.edge ∷ []);
            below = subst (λ z. AreBelow d z m.more others) (sym x.1) (left_below d row below m.edge m.more others m.below);
          };
      texts = subst AreShort (sym next_is) (left_short d row below h.edge h.more have.others h.below texts_here.1);
      shorter = omega (arith, next_shorter, shorter_here);
    }

-- a row with few labels doesn't begin below the place
pub begins_above : (d : ℕ) (left : List Row) (row : Row) (below : List Row) → left ≡ row ∷ below → length row.path ≤ d → BeginAbove d left
begins_above d left row below cut h = subst (BeginAbove d) (sym cut) h

pub none_above : (d : ℕ) (left : List Row) → length left ≡ 0 → BeginAbove d left
none_above d [] e = tt
none_above d (r ∷ left) e = absurd (omega (arith, e))

-- when no edge is left all are read
pub all_read : (d : ℕ) (rows : List Row) (old new : Edges) (left : List Row) → AreReadSoFar d rows old new left → BeginAbove d left → AreRead d rows old new left
all_read d rows old new left inv h es others b =
    let r = inv.read es others b in
    let n = has_none d left r.to_do others r.below h in
    (r.put ∙ ap (λ z. old ++ z) (sym (r.parts ∙ ap (λ z. r.done ++ z) n.0 ∙ append-nil r.done)), n.1)

-- ---- an edge

module _ (row : Row) (below : List Row) where
  pub have_tree : (labels : Path) → labels ≡ row.path → HaveEdge row below → HaveTree (length labels) row.content below
  have_tree labels is have =
      let f = first have.depth row below have.edge have.edges have.others have.below in
      record {
        edges = f.tree.edges;
        others = past have.depth row below have.edge have.edges have.others have.below;
        below = subst (λ z. AreBelow (length z) below f.tree.edges (past have.depth row below have.edge have.edges have.others have.below)) (sym is) f.below;
        good = subst (λ z. IsGood z f.tree.edges) (sym f.content) f.tree.good;
      }

  pub no_root : (labels : Path) → labels ≡ row.path → HaveEdge row below → length labels ≡ 0 → ⊥
  no_root labels is have none = (let f = first have.depth row below have.edge have.edges have.others have.below in omega (arith, none, ap length is, f.deep))

  -- the tree that is read, put behind the entries with the last label
  pub edge_read : (labels init : Path) (label kept : Label) (node : Tree) (after : List Row) (old same new : Edges) → labels ≡ row.path → labels ≡ init ++ label ∷ [] → kept ≡ label →
      IsRead (length labels) row.content below node after → same ≡ old → new ≡ same ++ (kept, node) ∷ [] → IsEdgeRead row below old new after
  edge_read labels init label kept node after old same new is split k read s put d e es others b =
      let f = first d row below e es others b in
      let x = read f.tree.edges (past d row below e es others b) (subst (λ z. AreBelow (length z) below f.tree.edges (past d row below e es others b)) (sym is) f.below) in
      let name : kept ≡ e.0 = k ∙ (ends init b.place label e.0 (sym split ∙ is ∙ f.path)).1 in
      let tree : node ≡ e.1 = x.0 ∙ ap (λ z. branch z f.tree.edges) f.content ∙ f.tree.is in
      (put ∙ ap (λ z. z ++ (kept, node) ∷ []) s ∙ ap (λ z. old ++ (z, node) ∷ []) name ∙ ap (λ z. old ++ (e.0, z) ∷ []) tree, x.1)

-- ---- a node

module _ (d : ℕ) (root : Content) (rows : List Row) (have : HaveTree d root rows) (old new : Edges) (left_rows : List Row) (read : AreRead d rows old new left_rows) where
  put : new ≡ old ++ have.edges
  put = (read have.edges have.others have.below).0

  pub more_entries : length old ≤ length new
  more_entries = omega (arith, ap length put, length-append old have.edges)

  counted : length have.edges ≡ length new - length old
  counted = omega (arith, ap length put, length-append old have.edges)

  pub have_siblings : HaveSiblings (length new - length old) new
  have_siblings = record { front = old; siblings = have.edges; parts = put; counted = counted; children = have.below.children }

  module _ (taken last : Edges) (take : AreTaken (length new - length old) new taken last) where
    pub good_node : IsGood root taken
    good_node = subst (IsGood root) (sym (take old have.edges put counted).0) have.good

    pub same_entries : last ≡ old
    same_entries = (take old have.edges put counted).1

    pub node_read : (n : Tree) → branch root taken ≡ n → IsRead d root rows n left_rows
    node_read n is es others b =
        let r = read es others b in
        let t = take old es r.0 (omega (arith, ap length r.0, length-append old es)) in
        (sym is ∙ ap (branch root) t.0, r.1)

-- ---- the whole

pub short_each : (rows : List Row) → ((i : ℕ) (row : Row) → i < length rows → row ≡ get_or rows i row → text_bytes row.content ≤ TEXT_MAX) → AreShort rows
short_each [] h = tt
short_each (r ∷ rows) h = (h 0 r (omega arith) refl, short_each rows (λ i row lt at. h (suc i) row (omega (arith, lt)) at))

same_rows : (rows : List Row) → map entry_row (entries_in rows) ≡ rows
same_rows [] = refl
same_rows (r ∷ rows) = ap (λ z. r ∷ z) (same_rows rows)

module _ (rows rest : List Row) (first_row : Row) (e : rows ≡ first_row ∷ rest) (l : IsLiteral (entries_in rows)) where
  pub all_short : AreShort rest
  all_short = short_each rest (λ i row lt at. row_text rows rest first_row e l i row lt at)

  whole : IsApart (tree_of_rows rows)
  whole = apart (tree_of_rows rows) l.rooted

  whole_rows : first_row ∷ rest ≡ entry_row ([], whole.root) ∷ (rows_at [] whole.edges ++ [])
  whole_rows =
      sym e ∙ sym (same_rows rows) ∙ ap (map entry_row) (sym (entries-tree_of_rows rows l) ∙ ap keyed.entries (sym whole.is) ∙ entries-branch whole.root whole.edges whole.good.sorted)
      ∙ ap (λ z. entry_row ([], whole.root) ∷ z) (ap (map entry_row) (sym (moved-root (child_rows whole.edges))) ∙ sym (append-nil (rows_at [] whole.edges)))

  root_is : first_row.content ≡ whole.root
  root_is = ap content_of whole_rows
    where
      content_of : List Row → Content
      content_of [] = Node
      content_of (r ∷ rows) = r.content

  whole_below : IsSmall (tree_of_rows rows) → AreBelow 0 rest whole.edges []
  whole_below s = record {
    place = [];
    deep = refl;
    parts = ap others_of whole_rows;
    above = tt;
    children = children_of whole.root whole.edges whole.good (subst IsSmall (sym whole.is) s);
  }
    where
      others_of : List Row → List Row
      others_of [] = []
      others_of (r ∷ rows) = rows

  pub have_whole : IsSmall (tree_of_rows rows) → HaveTree 0 first_row.content rest
  have_whole s = record { edges = whole.edges; others = []; below = whole_below s; good = subst (λ z. IsGood z whole.edges) (sym root_is) whole.good }

  pub whole_read : IsSmall (tree_of_rows rows) → (n : Tree) (after : List Row) → IsRead 0 first_row.content rest n after → n ≡ tree_of_rows rows
  whole_read s n after read = (read whole.edges [] (whole_below s)).0 ∙ ap (λ z. branch z whole.edges) root_is ∙ whole.is
