-- The rows of a written tree tell which tree it is.
use Rattle.std.proofs.Common.{◌≡◌, ◌<◌, ◌≤◌, List, [], ◌∷◌, ◌++◌, refl, sym, ap, ◌∙◌, length, arith}
use Rattle.cp_model.specs.declared.row.Content.{Content}
use Rattle.cp_model.specs.declared.row.Content.TheVariants.{Node, Leaf}
use Rattle.cp_model.specs.Literals.{rows_under}
use Rattle.cp_model.specs.Place.{Label, Path}
use Rattle.cp_record.specs.Packed.{AreBelow}
use Rattle.cp_frame.specs.Trees.{Written, leaf, node, Children, no_more, child, rows_of, rows_below}
use Rattle.cp_frame.specs.Laws.{RowsTellTrees}
use Rattle.cp_frame.proofs.Rows.{child_count, children_below, some_rows}

-- what stands at the root
abbrev pub root_of : Written → Content
root_of (leaf v) = Leaf v
root_of (node cs) = Node

-- the rows below the root
abbrev pub others_of : Written → List (Path × Content)
others_of (leaf v) = []
others_of (node cs) = rows_below cs

-- the root comes first
pub root_first : (t : Written) → rows_of t ≡ ([], root_of t) ∷ others_of t
root_first (leaf v) = refl
root_first (node cs) = refl

pub others_below : (t : Written) → AreBelow (others_of t)
others_below (leaf v) = tt
others_below (node cs) = children_below cs

-- the first row, if there is one, lies a label down
abbrev BeginsNear : List (Path × Content) → Type 0
BeginsNear [] = Unit {0}
BeginsNear (e ∷ es) = length e.0 ≤ 1

near : (cs : Children) → BeginsNear (rows_below cs)
near no_more = tt
near (child a (leaf v) cs) = omega arith
near (child a (node ds) cs) = omega arith

-- where rows that lie deeper begin, no other child does
far : (b : Label) (u : Path × Content) (us R S : List (Path × Content)) → 0 < length u.0 → BeginsNear R → R ≡ (b ∷ u.0, u.1) ∷ (rows_under b us ++ S) → ⊥
far b u us [] S h n e = absurd (cc)
far b u us (r ∷ R) S h n e =
    let same : r ≡ (b ∷ u.0, u.1) = cc in
    let size : length r.0 ≡ length (b ∷ u.0) = ap (λ (x : Path × Content). length x.0) same in
    absurd (omega (arith, size, n, h))

-- the rows below one label and those of the other children, apart
apart : (a b : Label) (xs ys R S : List (Path × Content)) → AreBelow xs → AreBelow ys → BeginsNear R → BeginsNear S → rows_under a xs ++ R ≡ rows_under b ys ++ S → (xs ≡ ys) × (R ≡ S)
apart a b [] [] R S h k m n e = (refl, e)
apart a b [] (u ∷ us) R S h k m n e = absurd (far b u us R S k.0 m e)
apart a b (u ∷ us) [] R S h k m n e = absurd (far a u us S R h.0 n (sym e))
apart a b (t ∷ ts) (u ∷ us) R S h k m n e =
    let head : ◌≡◌ {A = Path × Content} (a ∷ t.0, t.1) (b ∷ u.0, u.1) = cc in
    let tail : rows_under a ts ++ R ≡ rows_under b us ++ S = cc in
    let long : ◌≡◌ {A = Path} (a ∷ t.0) (b ∷ u.0) = ap (λ (x : Path × Content). x.0) head in
    let path : t.0 ≡ u.0 = cc in
    let content : t.1 ≡ u.1 = ap (λ (x : Path × Content). x.1) head in
    let found = apart a b ts us R S h.1 k.1 m n tail in
    let rest = found.0 in
    ((λ i. (path i, content i) ∷ rest i), found.1)

mutual
  same_tree : (s t : Written) → rows_of s ≡ rows_of t → s ≡ t
  same_tree (leaf v) (leaf w) e =
      let head : ◌≡◌ {A = Path × Content} ([], Leaf v) ([], Leaf w) = cc in
      let content : Leaf v ≡ Leaf w = ap (λ (x : Path × Content). x.1) head in
      let value : v ≡ w = cc in
      ap leaf value
  same_tree (leaf v) (node ds) e =
      let head : ◌≡◌ {A = Path × Content} ([], Leaf v) ([], Node) = cc in
      let content : Leaf v ≡ Node = ap (λ (x : Path × Content). x.1) head in
      absurd (cc)
  same_tree (node cs) (leaf w) e =
      let head : ◌≡◌ {A = Path × Content} ([], Node) ([], Leaf w) = cc in
      let content : Node ≡ Leaf w = ap (λ (x : Path × Content). x.1) head in
      absurd (cc)
  same_tree (node cs) (node ds) e = let tail : rows_below cs ≡ rows_below ds = cc in ap node (same_children cs ds tail)

  same_children : (cs ds : Children) → rows_below cs ≡ rows_below ds → cs ≡ ds
  same_children no_more no_more e = refl
  same_children no_more (child b u ds) e = absurd (omega (arith, ap length e, child_count b u ds, some_rows u))
  same_children (child a t cs) no_more e = absurd (omega (arith, ap length e, child_count a t cs, some_rows t))
  same_children (child a t cs) (child b u ds) e =
      let R = rows_below cs in
      let S = rows_below ds in
      let all : (a ∷ [], root_of t) ∷ (rows_under a (others_of t) ++ R) ≡ (b ∷ [], root_of u) ∷ (rows_under b (others_of u) ++ S) =
      sym (ap (λ (rows : List (Path × Content)). rows_under a rows ++ R) (root_first t)) ∙ e ∙ ap (λ (rows : List (Path × Content)). rows_under b rows ++ S) (root_first u) in
      let head : ◌≡◌ {A = Path × Content} (a ∷ [], root_of t) (b ∷ [], root_of u) = cc in
      let tail : rows_under a (others_of t) ++ R ≡ rows_under b (others_of u) ++ S = cc in
      let path : ◌≡◌ {A = Path} (a ∷ []) (b ∷ []) = ap (λ (x : Path × Content). x.0) head in
      let label : a ≡ b = cc in
      let root : root_of t ≡ root_of u = ap (λ (x : Path × Content). x.1) head in
      let found = apart a b (others_of t) (others_of u) R S (others_below t) (others_below u) (near cs) (near ds) tail in
      let below = found.0 in
      let rows : rows_of t ≡ rows_of u = root_first t ∙ (λ i. ([], root i) ∷ below i) ∙ sym (root_first u) in
      let tree = same_tree t u rows in
      let others = same_children cs ds found.1 in
      λ i. child (label i) (tree i) (others i)

-- two written trees with the same rows are one
pub rows_tell : RowsTellTrees
rows_tell s t e = same_tree s t e
