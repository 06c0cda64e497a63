-- The tests of limits by what a subtree reaches.
use Rattle.cp_model.specs.declared.limits.TheConstants.{NODES_MAX, WEIGHT_MAX}
use Rattle.cp_path.specs.declared.limits.TheConstants.{LABELS_MAX, LOC_MAX}
use Rattle.std.specs.Prelude.{ℕ, ◌+◌, ◌-◌, ◌≤◌, ◌≡◌, Bool, true, false, ◌||◌, List, [], ◌∷◌, length, max, min, nat_lt, sum_by, is_some, if◌then◌else◌, refl}
use Rattle.std.proofs.Common.{sym, ap, ◌∙◌, arith, length-append, append_assoc, T}
use Rattle.std.proofs.lemmas.Bool.Decides.{nat_tests}
use Rattle.std.specs.declared.option.Option.TheVariants.{None, Some}
use Rattle.std.proofs.lemmas.List.{length-map}
use Rattle.std.proofs.lemmas.List.Sums.{sum_by-append}
use Rattle.cp_path.specs.declared.loc.Loc.{Loc}
use Rattle.cp_model.specs.declared.row.Content.{Content}
use Rattle.cp_model.specs.declared.row.Content.TheVariants.{Node, Leaf}
use Rattle.cp_model.specs.Place.{Label, Path, below_place, over_limit, child, size}
use Rattle.std.specs.FinMap.Entries.{is_sorted}
use Rattle.cp_path.specs.Place.{path_cmp}
use Rattle.cp_model.specs.declared.literal.Literal.{Literal}
use Rattle.cp_model.specs.declared.literal.Literal.TheVariants as literal
use Rattle.cp_model.specs.declared.refusal.Refusal.TheVariants.{TooMany, TooBig}
use Rattle.cp_model.specs.Keyed as keyed
use Rattle.cp_model.specs.Keyed.{look}
use Rattle.cp_model.specs.Subtrees.{below, entries_under, with_subtree, is_there}
use Rattle.cp_model.specs.Literals.{literal_rows, rows_under}
use Rattle.cp_model.specs.History.{IsLiteral}
use Rattle.cp_model.proofs.Sorted.{sorted-below}
use Rattle.cp_model.proofs.SumsLemmas.{len-replaced, len-replaced_new, len-without, weight-without, sum_by-moved, last_bytes_child}
use Rattle.cp_model.proofs.Weights.{weight-moved, weight-put, weight-swapped}
use Rattle.cp_model.proofs.Accepted.{none_is}
use Rattle.cp_model.proofs.Kept.{closed-tree}
use Rattle.cp_model.proofs.Rooted.{rows-literal}
use Rattle.cp_model.specs.Cases.{first_case}
use Rattle.cp_model.specs.Tree.{Tree, IsTree, limits_of, reaches_over, weight, weight_of}
use Rattle.cp_tree.specs.Rows.{path_size, greatest, reach_of, reach_at}
use Rattle.cp_tree.specs.declared.reach.Reach.{Reach}
use Rattle.cp_operation.proofs.RowsAloneLemmas.{root-below}
use Rattle.cp_operation.specs.Reaching.{over_by, limit_passed, literal_reach}

-- a sum with the greater of two is over where it is with one of them
lt-max : (k n a b : ℕ) → nat_lt k (n + max a b) ≡ (nat_lt k (n + a) || nat_lt k (n + b))
lt-max k n a b = grind (arith, nat_tests)

or_mixed : (a b c d : Bool) → ((a || b) || (c || d)) ≡ ((a || c) || (b || d))
or_mixed true b c d = refl
or_mixed false true true d = refl
or_mixed false true false d = refl
or_mixed false false true d = refl
or_mixed false false false d = refl

-- of two reaches the greater numbers decide
over-max : (p : Loc) (d s e r : ℕ) → (over_by p d s || over_by p e r) ≡ over_by p (max d e) (max s r)
over-max p d s e r =
    or_mixed (nat_lt LABELS_MAX (length p.path + d)) (nat_lt LOC_MAX (size p + s)) (nat_lt LABELS_MAX (length p.path + e)) (nat_lt LOC_MAX (size p + r))
    ∙ ap (λ b. b || (nat_lt LOC_MAX (size p + s) || nat_lt LOC_MAX (size p + r))) (sym (lt-max LABELS_MAX (length p.path) d e))
    ∙ ap (λ b. nat_lt LABELS_MAX (length p.path + max d e) || b) (sym (lt-max LOC_MAX (size p) s r))

-- a place below p is over a limit by its labels and their size
over-below : (p : Loc) (s : Path) → over_limit (below_place p s) ≡ over_by p (length s) (path_size s)
over-below p s =
    let bytes : size (below_place p s) ≡ size p + path_size s = omega (arith, sum_by-append (λ a. length a + 1) p.path s) in
    ap (λ n. nat_lt LABELS_MAX n || nat_lt LOC_MAX (size (below_place p s))) (length-append p.path s) ∙ ap (λ n. nat_lt LABELS_MAX (length p.path + length s) || nat_lt LOC_MAX n) bytes

or_false : (b : Bool) → (b || false) ≡ b
or_false true = refl
or_false false = refl

over-numbers : (p : Loc) (d e s r : ℕ) → d ≡ e → s ≡ r → over_by p d s ≡ over_by p e r
over-numbers p d e s r h i = ap (λ n. over_by p n s) h ∙ ap (over_by p e) i

-- some place below p is over a limit where the farthest numbers are
pub over-reached : (p : Loc) (e : Path × Content) (es : List (Path × Content)) →
    reaches_over p (e ∷ es) ≡ over_by p (greatest (λ e. length e.0) (e ∷ es)) (greatest (λ e. path_size e.0) (e ∷ es))
over-reached p e [] =
    or_false (over_limit (below_place p e.0)) ∙ over-below p e.0
    ∙ over-numbers p (length e.0) (max (length e.0) 0) (path_size e.0) (max (path_size e.0) 0) (omega arith) (omega arith)
over-reached p e (f ∷ es) =
    ap (λ b. over_limit (below_place p e.0) || b) (over-reached p f es)
    ∙ ap (λ b. b || over_by p (greatest (λ e. length e.0) (f ∷ es)) (greatest (λ e. path_size e.0) (f ∷ es))) (over-below p e.0)
    ∙ over-max p (length e.0) (path_size e.0) (greatest (λ e. length e.0) (f ∷ es)) (greatest (λ e. path_size e.0) (f ∷ es))

-- a number that stops one past the limit passes it where the number does
capped-over : (k n m : ℕ) → nat_lt k (n + min m (k + 1)) ≡ nat_lt k (n + m)
capped-over k n m = grind (arith, nat_tests)

over-capped : (p : Loc) (d s : ℕ) → over_by p (min d 65) (min s 1025) ≡ over_by p d s
over-capped p d s =
    ap (λ b. b || nat_lt LOC_MAX (size p + min s 1025)) (capped-over LABELS_MAX (length p.path) d) ∙ ap (λ b. nat_lt LABELS_MAX (length p.path + d) || b) (capped-over LOC_MAX (size p) s)

limit-capped : (n m w v : ℕ) → limit_passed (n + min m 1048577) (w + min v 33554433) ≡ limit_passed (n + m) (w + v)
limit-capped n m w v =
    ap (λ b. if b then Some TooMany else if nat_lt WEIGHT_MAX (w + min v 33554433) then Some TooBig else None) (capped-over NODES_MAX n m)
    ∙ ap (λ b. if nat_lt NODES_MAX (n + m) then Some TooMany else if b then Some TooBig else None) (capped-over WEIGHT_MAX w v)

-- rows at a child are rows below a label
under_label : (p : Loc) (a : Label) (es : List (Path × Content)) → reaches_over (below_place p (a ∷ [])) es ≡ reaches_over p (rows_under a es)
under_label p a [] = refl
under_label p a (e ∷ es) =
    ap (λ q. over_limit (record { db = p.db; path = q }) || reaches_over (below_place p (a ∷ [])) es) (append_assoc p.path (a ∷ []) e.0)
    ∙ ap (λ b. over_limit (below_place p (a ∷ e.0)) || b) (under_label p a es)

-- an insertion is over a limit of places where its literal reaches over it
pub ins-over : (p : Loc) (a : Label) (l : Literal) → reaches_over (below_place p (a ∷ [])) (literal_rows l) ≡ over_by p (literal_reach a l).depth (literal_reach a l).size
unfolding reach_of
ins-over p a l =
    under_label p a (literal_rows l) ∙ by_rows l
    ∙ sym (over-capped p (greatest (λ e. length e.0) (rows_under a (literal_rows l))) (greatest (λ e. path_size e.0) (rows_under a (literal_rows l))))
  where
    by_rows : (l : Literal) → reaches_over p (rows_under a (literal_rows l)) ≡
        over_by p (greatest (λ e. length e.0) (rows_under a (literal_rows l))) (greatest (λ e. path_size e.0) (rows_under a (literal_rows l)))
    by_rows (literal.Leaf v) = over-reached p (a ∷ [], Leaf v) []
    by_rows (literal.Node es) = over-reached p (a ∷ [], Node) (rows_under a es)

pub under_weight : (a : Label) (es : List (Path × Content)) → T (is_sorted path_cmp es) → is_some (look [] es) ≡ true → sum_by weight_of (rows_under a es) ≡ length a + sum_by weight_of es
unfolding entries_under
under_weight a es h i = weight-moved (a ∷ []) es h i

-- the numbers after an insertion at a free label
pub ins-numbers : (t : Tree) (p : Path) (a : Label) (l : Literal) → IsTree t → IsLiteral (literal_rows l) → is_there t (child p a) ≡ false →
    (keyed.len (with_subtree (child p a) (literal_rows l) t) ≡ keyed.len t + length (rows_under a (literal_rows l)))
    × (weight (with_subtree (child p a) (literal_rows l) t) ≡ weight t + sum_by weight_of (rows_under a (literal_rows l)))
ins-numbers t p a l h w n =
    let rows = literal_rows l in
    let closed = closed-tree t h.rooted in
    let free : keyed.get t (child p a) ≡ None = none_is (keyed.get t (child p a)) n in
    let root = (rows-literal rows w).root in
    let count : length (rows_under a rows) ≡ length rows = length-map rows (λ r. (a ∷ r.0, r.1)) in (
      len-replaced_new (child p a) rows t w.sorted closed free ∙ ap (λ n. keyed.len t + n) (sym count),
      omega (arith, weight-put (child p a) rows t w.sorted root closed free, last_bytes_child p a, under_weight a rows w.sorted root),
    )

-- why an insertion at a free label is over a limit of trees, if it is
pub ins-limits : (t : Tree) (p : Path) (a : Label) (l : Literal) → IsTree t → IsLiteral (literal_rows l) → is_there t (child p a) ≡ false →
    first_case (limits_of (with_subtree (child p a) (literal_rows l) t)) ≡ limit_passed (keyed.len t + (literal_reach a l).nodes) (weight t + (literal_reach a l).inner)
unfolding reach_of
ins-limits t p a l h w n =
    let both = ins-numbers t p a l h w n in
    ap (λ k. limit_passed k (weight (with_subtree (child p a) (literal_rows l) t))) both.0
    ∙ ap (limit_passed (keyed.len t + length (rows_under a (literal_rows l)))) both.1
    ∙ sym (limit-capped (keyed.len t) (length (rows_under a (literal_rows l))) (weight t) (sum_by weight_of (rows_under a (literal_rows l))))

-- a copy is over a limit of places where what is copied reaches over it
pub copy-over : (t : Tree) (q : Path) (p : Loc) → is_there t q ≡ true → reaches_over p (below q t) ≡ over_by p (reach_at t q).depth (reach_at t q).size
unfolding reach_of
copy-over t q p h = not_empty (below q t) (root-below t q h)
  where
    not_empty : (es : List (Path × Content)) → is_some (look [] es) ≡ true → reaches_over p es ≡ over_by p (greatest (λ e. length e.0) es) (greatest (λ e. path_size e.0) es)
    not_empty [] i = absurd (cc)
    not_empty (e ∷ es) i = over-reached p e es

-- the same, of a reach that was told
pub copy-reaches : (u : Tree) (q : Path) (p : Loc) (r : Reach) (b : Bool) → is_there u q ≡ true → r ≡ reach_at u q → over_by p r.depth r.size ≡ b → reaches_over p (below q u) ≡ b
copy-reaches u q p r b h e o = copy-over u q p h ∙ ap (λ r. over_by p r.depth r.size) (sym e) ∙ o

-- the numbers after a copy of what u has at q
pub copy-numbers : (t u : Tree) (q p : Path) → is_there u q ≡ true → is_there t p ≡ true →
    (keyed.len (with_subtree p (below q u) t) + (reach_at t p).nodes ≡ keyed.len t + (reach_at u q).nodes)
    × (weight (with_subtree p (below q u) t) + (reach_at t p).inner ≡ weight t + (reach_at u q).inner)
unfolding reach_of
copy-numbers t u q p h i =
    (len-replaced p (below q u) t (sorted-below q u), weight-swapped p (below q u) t (sorted-below q u) (root-below u q h) i)

-- a subtree has no more nodes and no more weight than the tree
pub reach-within : (t : Tree) (p : Path) → is_there t p ≡ true → ((reach_at t p).nodes ≤ keyed.len t) × ((reach_at t p).inner ≤ weight t)
unfolding reach_of
reach-within t p h =
    (omega (arith, len-without p t), omega (arith, weight-without p t, sum_by-moved weight_of p (below p t), weight-moved p (below p t) (sorted-below p t) (root-below t p h)))

-- why a tree is over a limit after a copy of what u has at q, if it is
pub copy-limits : (t u : Tree) (q p : Path) → is_there u q ≡ true → is_there t p ≡ true →
    first_case (limits_of (with_subtree p (below q u) t)) ≡ limit_passed (keyed.len t - (reach_at t p).nodes + (reach_at u q).nodes) (weight t - (reach_at t p).inner + (reach_at u q).inner)
copy-limits t u q p h i =
    let both = copy-numbers t u q p h i in
    let most = reach-within t p i in
    let nodes : keyed.len (with_subtree p (below q u) t) ≡ keyed.len t - (reach_at t p).nodes + (reach_at u q).nodes = omega (arith, both.0, most.0) in
    let weighs : weight (with_subtree p (below q u) t) ≡ weight t - (reach_at t p).inner + (reach_at u q).inner = omega (arith, both.1, most.1) in
    ap (λ n. limit_passed n (weight (with_subtree p (below q u) t))) nodes ∙ ap (limit_passed (keyed.len t - (reach_at t p).nodes + (reach_at u q).nodes)) weighs

-- the same, of numbers that were told
pub copy-passed : (t u : Tree) (q p : Path) (n w : ℕ) (old new : Reach) → is_there u q ≡ true → is_there t p ≡ true → n ≡ keyed.len t → w ≡ weight t → old ≡ reach_at t p → new ≡ reach_at u q →
    limit_passed (n - old.nodes + new.nodes) (w - old.inner + new.inner) ≡ first_case (limits_of (with_subtree p (below q u) t))
copy-passed t u q p n w old new h i a b c d =
    ap (λ n. limit_passed (n - old.nodes + new.nodes) (w - old.inner + new.inner)) a
    ∙ ap (λ w. limit_passed (keyed.len t - old.nodes + new.nodes) (w - old.inner + new.inner)) b
    ∙ ap (λ (r : Reach). limit_passed (keyed.len t - r.nodes + new.nodes) (weight t - r.inner + new.inner)) c
    ∙ ap (λ (r : Reach). limit_passed (keyed.len t - (reach_at t p).nodes + r.nodes) (weight t - (reach_at t p).inner + r.inner)) d
    ∙ sym (copy-limits t u q p h i)

-- what is inserted weighs no more than a tree may
pub literal-small : (t : Tree) (p : Loc) (a : Label) (l : Literal) → IsTree t → IsLiteral (literal_rows l) → is_there t (child p.path a) ≡ false → weight (with_subtree (child p.path a) (literal_rows l) t) ≤ WEIGHT_MAX → sum_by weight_of (literal_rows l) ≤ WEIGHT_MAX
literal-small t p a l h w n m =
    let rows = literal_rows l in
    omega (arith, m, (ins-numbers t p.path a l h w n).1, under_weight a rows w.sorted (rows-literal rows w).root)
