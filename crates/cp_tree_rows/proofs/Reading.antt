-- How rows read: row by row, and one stretch after another.
use Rattle.std.specs.Prelude.{◌≡◌, ℕ, zero, suc, ◌≤◌, ◌<◌, Bool, true, false, ◌&&◌, nat_lt, List, [], ◌∷◌, ◌++◌, take, drop, length, refl}
use Rattle.std.proofs.Common.{sym, ap, subst, ◌∙◌, T, arith, length-append, append_assoc}
use Rattle.std.proofs.lemmas.List.{length-drop, take-append-drop, length-take}
use Rattle.std.proofs.Math.Seq.{take-append_seam, drop-append_seam}
use Rattle.std.proofs.lemmas.Bool.Decides.{nat_tests}
use Rattle.cp_model.proofs.Sorted.{parts_of, all_of}
use Rattle.cp_tree.proofs.GoodLemmas.{rooted-branch}
use Rattle.std.specs.FinMap.Entries.{is_sorted}
use Rattle.cp_path.specs.Text.{text_cmp}
use Rattle.cp_model.specs.declared.row.Content.{Content}
use Rattle.cp_model.specs.declared.row.Content.TheVariants.{Node, Leaf}
use Rattle.cp_tree.specs.Branch.{branch}
use Rattle.cp_tree.specs.Good.{IsGood, IsBare, AllRooted}
use Rattle.cp_tree_rows.specs.declared.row.TreeRow.{TreeRow}
use Rattle.cp_tree_rows.specs.Forest.{edges_in, edges, is_last, points_to_last, is_bare, nests_in, nests, is_part, SortedRows}

-- a stretch is no longer than the list
pub shorter_take : {X : Type 0} (n : ℕ) (xs : List X) → length (take n xs) ≤ length xs
shorter_take n xs = omega (arith, length-take n xs)

pub shorter_drop : {X : Type 0} (n : ℕ) (xs : List X) → length (drop n xs) ≤ length xs
shorter_drop n xs = omega (arith, length-drop n xs)

-- more steps than rows read the same
same_edges : (j k : ℕ) (rs : List TreeRow) → length rs ≤ j → length rs ≤ k → edges_in j rs ≡ edges_in k rs
same_edges j k [] h g = refl
same_edges zero k (r ∷ rs) h g = absurd (omega arith)
same_edges (suc j) zero (r ∷ rs) h g = absurd (omega arith)
same_edges (suc j) (suc k) (r ∷ rs) h g =
    let a = same_edges j k (take r.below rs) (omega (arith, shorter_take r.below rs)) (omega (arith, shorter_take r.below rs)) in
    let b = same_edges j k (drop r.below rs) (omega (arith, shorter_drop r.below rs)) (omega (arith, shorter_drop r.below rs)) in
    λ i. (r.label, branch r.item (a i)) ∷ b i

same_points : (f g : List TreeRow → Bool) (n : ℕ) (rs : List TreeRow) → ((i : ℕ) → f (take i rs) ≡ g (take i rs)) → points_to_last f n rs ≡ points_to_last g n rs
same_points f g zero rs h = refl
same_points f g (suc i) rs h = ap (λ b. b && is_last (drop i rs)) (h i)

same_nests : (j k : ℕ) (rs : List TreeRow) → length rs ≤ j → length rs ≤ k → nests_in j rs ≡ nests_in k rs
same_nests j k [] h g = refl
same_nests zero k (r ∷ rs) h g = absurd (omega arith)
same_nests (suc j) zero (r ∷ rs) h g = absurd (omega arith)
same_nests (suc j) (suc k) (r ∷ rs) h g =
    let t = shorter_take r.below rs in
    let d = shorter_drop r.below rs in
    let e = same_edges j k (take r.below rs) (omega (arith, t)) (omega (arith, t)) in
    let p = same_points (nests_in j) (nests_in k) r.last (take r.below rs) (λ i. same_nests j k (take i (take r.below rs)) (omega (arith, t, shorter_take i (take r.below rs))) (omega (arith, t, shorter_take i (take r.below rs)))) in
    let a = same_nests j k (take r.below rs) (omega (arith, t)) (omega (arith, t)) in
    let b = same_nests j k (drop r.below rs) (omega (arith, d)) (omega (arith, d)) in
    λ i. nat_lt r.below (suc (length rs)) && is_bare r.item (take r.below rs) && is_sorted text_cmp (e i) && p i && a i && b i

-- no rows make no edges
pub edges-none : edges [] ≡ []
unfolding edges
edges-none = refl

-- a row and those after it
pub edges-row : (r : TreeRow) (rs : List TreeRow) → edges (r ∷ rs) ≡ (r.label, branch r.item (edges (take r.below rs))) ∷ edges (drop r.below rs)
unfolding edges
edges-row r rs =
    let a = same_edges (length rs) (length (take r.below rs)) (take r.below rs) (shorter_take r.below rs) (omega arith) in
    let b = same_edges (length rs) (length (drop r.below rs)) (drop r.below rs) (shorter_drop r.below rs) (omega arith) in
    λ i. (r.label, branch r.item (a i)) ∷ b i

-- a row has its own below it, and the others after these
pub record IsRow (r : TreeRow) (inner rest : List TreeRow) : Type 0 where
  pub below : r.below ≡ length inner
  pub part : T (is_part r.item r.last inner)
  pub others : T (nests rest)

nests-row : (r : TreeRow) (rs : List TreeRow) → nests (r ∷ rs) ≡ (nat_lt r.below (suc (length rs)) && is_bare r.item (take r.below rs) && is_sorted text_cmp (edges (take r.below rs)) && points_to_last nests r.last (take r.below rs) && nests (take r.below rs) && nests (drop r.below rs))
unfolding edges nests
nests-row r rs =
    let t = shorter_take r.below rs in
    let e = same_edges (length rs) (length (take r.below rs)) (take r.below rs) t (omega arith) in
    let p = same_points (nests_in (length rs)) nests r.last (take r.below rs) (λ i. same_nests (length rs) (length (take i (take r.below rs))) (take i (take r.below rs)) (omega (arith, t, shorter_take i (take r.below rs))) (omega arith)) in
    let a = same_nests (length rs) (length (take r.below rs)) (take r.below rs) t (omega arith) in
    let b = same_nests (length rs) (length (drop r.below rs)) (drop r.below rs) (shorter_drop r.below rs) (omega arith) in
    λ i. nat_lt r.below (suc (length rs)) && is_bare r.item (take r.below rs) && is_sorted text_cmp (e i) && p i && a i && b i

four : (a b c d : Bool) → T (a && b && c && d) → T a × T b × T c × T d
four a b c d h =
    let x = parts_of (a && b && c) d h in
    let y = parts_of (a && b) c x.0 in
    let z = parts_of a b y.0 in
    (z.0, z.1, y.1, x.1)

four_all : (a b c d : Bool) → T a → T b → T c → T d → T (a && b && c && d)
four_all a b c d h g k l = all_of (a && b && c) d (all_of (a && b) c (all_of a b h g) k) l

-- what is asked of the rows below a root
pub record Facts (x : Content) (last : ℕ) (rs : List TreeRow) : Type 0 where
  pub bare : T (is_bare x rs)
  pub sorted : SortedRows rs
  pub points : T (points_to_last nests last rs)
  pub nested : T (nests rs)

pub facts : (x : Content) (last : ℕ) (rs : List TreeRow) → T (is_part x last rs) → Facts x last rs
facts x last rs h =
    let f = four (is_bare x rs) (is_sorted text_cmp (edges rs)) (points_to_last nests last rs) (nests rs) h in
    record { bare = f.0; sorted = f.1; points = f.2; nested = f.3 }

pub part_of : (x : Content) (last : ℕ) (rs : List TreeRow) → Facts x last rs → T (is_part x last rs)
part_of x last rs f = four_all (is_bare x rs) (is_sorted text_cmp (edges rs)) (points_to_last nests last rs) (nests rs) f.bare f.sorted f.points f.nested

good_from : (x : Content) (last : ℕ) (rs : List TreeRow) → T (is_part x last rs) → AllRooted (edges rs) → IsGood x (edges rs)
good_from x last rs h t =
    let f = facts x last rs h in
    record { sorted = f.sorted; bare = bare x rs f.bare; trees = t }
  where
    bare : (y : Content) (zs : List TreeRow) → T (is_bare y zs) → IsBare y (edges zs)
    bare Node zs b = tt
    bare (Leaf v) [] b = edges-none
    bare (Leaf v) (z ∷ zs) b = absurd b

below_length : (m n : ℕ) → T (nat_lt m (suc n)) → m < suc n
below_length m n h = by (nat_lt m (suc n)) refl h
  where
    by : (b : Bool) → nat_lt m (suc n) ≡ b → T b → m < suc n
    by true e t = grind (arith, nat_tests)
    by false e t = absurd t

-- what is below a row that nests, and after that
pub row_parts : (r : TreeRow) (rs : List TreeRow) → T (nests (r ∷ rs)) → IsRow r (take r.below rs) (drop r.below rs) × (take r.below rs ++ drop r.below rs ≡ rs)
row_parts r rs h =
    let all = subst T (nests-row r rs) h in
    let inner = take r.below rs in
    let f = parts_of (nat_lt r.below (suc (length rs)) && is_bare r.item inner && is_sorted text_cmp (edges inner) && points_to_last nests r.last inner && nests inner) (nests (drop r.below rs)) all in
    let g = four (nat_lt r.below (suc (length rs)) && is_bare r.item inner) (is_sorted text_cmp (edges inner)) (points_to_last nests r.last inner) (nests inner) f.0 in
    let a = parts_of (nat_lt r.below (suc (length rs))) (is_bare r.item inner) g.0 in
    let lt : r.below < suc (length rs) = below_length r.below (length rs) a.0 in
    (record { below = omega (arith, length-take r.below rs); part = four_all (is_bare r.item inner) (is_sorted text_cmp (edges inner)) (points_to_last nests r.last inner) (nests inner) a.1 g.1 g.2 g.3; others = f.1 }, take-append-drop r.below rs)

module _ (r : TreeRow) (inner rest : List TreeRow) (b : r.below ≡ length inner) where
  take_inner : take r.below (inner ++ rest) ≡ inner
  take_inner = ap (λ n. take n (inner ++ rest)) b ∙ take-append_seam inner rest

  drop_inner : drop r.below (inner ++ rest) ≡ rest
  drop_inner = ap (λ n. drop n (inner ++ rest)) b ∙ drop-append_seam inner rest

  -- the edges of a row, those below it and those after
  pub edges_around : edges (r ∷ inner ++ rest) ≡ (r.label, branch r.item (edges inner)) ∷ edges rest
  edges_around = edges-row r (inner ++ rest) ∙ (λ i. (r.label, branch r.item (edges (take_inner i))) ∷ edges (drop_inner i))

-- a row with its own below it nests
pub nests_around : (r : TreeRow) (inner rest : List TreeRow) → IsRow r inner rest → T (nests (r ∷ inner ++ rest))
nests_around r inner rest h =
    let t = take_inner r inner rest h.below in
    let d = drop_inner r inner rest h.below in
    let f = facts r.item r.last inner h.part in
    let long = length-append inner rest in
    let fits : r.below < suc (length (inner ++ rest)) = omega (arith, h.below, long) in
    let lt : nat_lt r.below (suc (length (inner ++ rest))) ≡ true = grind (arith, nat_tests) in
    let all : T (true && is_bare r.item inner && is_sorted text_cmp (edges inner) && points_to_last nests r.last inner && nests inner && nests rest) =
    all_of (is_bare r.item inner && is_sorted text_cmp (edges inner) && points_to_last nests r.last inner && nests inner) (nests rest) h.part h.others in
    subst T (sym (nests-row r (inner ++ rest))) (subst T (λ i. sym lt i && is_bare r.item (sym t i) && is_sorted text_cmp (edges (sym t i)) && points_to_last nests r.last (sym t i) && nests (sym t i) && nests (sym d i)) all)

-- what holds of no rows, and of a row with its own and the others, holds of all that nest
pub rows_ind : (P : List TreeRow → Type 0) → P [] → ((r : TreeRow) (inner rest : List TreeRow) → IsRow r inner rest → P inner → P rest → P (r ∷ inner ++ rest)) → (rs : List TreeRow) → T (nests rs) → P rs
rows_ind P none more rs h = by (length rs) rs (omega arith) h
  where
    by : (k : ℕ) (rs : List TreeRow) → length rs ≤ k → T (nests rs) → P rs
    by k [] le h = none
    by zero (r ∷ rs) le h = absurd (omega arith)
    by (suc k) (r ∷ rs) le h =
        let p = row_parts r rs h in
        subst (λ z. P (r ∷ z)) p.1 (more r (take r.below rs) (drop r.below rs) p.0
        (by k (take r.below rs) (omega (arith, shorter_take r.below rs)) (facts r.item r.last (take r.below rs) p.0.part).nested)
        (by k (drop r.below rs) (omega (arith, shorter_drop r.below rs)) p.0.others))

-- one stretch after another
pub edges-append : (l m : List TreeRow) → T (nests l) → edges (l ++ m) ≡ edges l ++ edges m
edges-append l m h = rows_ind (λ l. edges (l ++ m) ≡ edges l ++ edges m) (ap (λ z. z ++ edges m) (sym edges-none)) step l h
  where
    step : (r : TreeRow) (inner rest : List TreeRow) → IsRow r inner rest → edges (inner ++ m) ≡ edges inner ++ edges m → edges (rest ++ m) ≡ edges rest ++ edges m → edges ((r ∷ inner ++ rest) ++ m) ≡ edges (r ∷ inner ++ rest) ++ edges m
    step r inner rest w a b =
        ap (λ z. edges (r ∷ z)) (append_assoc inner rest m)
        ∙ edges_around r inner (rest ++ m) w.below
        ∙ ap (λ z. (r.label, branch r.item (edges inner)) ∷ z) b
        ∙ ap (λ z. z ++ edges m) (sym (edges_around r inner rest w.below))

pub nests-append : (l m : List TreeRow) → T (nests l) → T (nests m) → T (nests (l ++ m))
nests-append l m h g = rows_ind (λ l. T (nests (l ++ m))) g step l h
  where
    step : (r : TreeRow) (inner rest : List TreeRow) → IsRow r inner rest → T (nests (inner ++ m)) → T (nests (rest ++ m)) → T (nests ((r ∷ inner ++ rest) ++ m))
    step r inner rest w a b = subst (λ z. T (nests (r ∷ z))) (sym (append_assoc inner rest m)) (nests_around r inner (rest ++ m) (record { below = w.below; part = w.part; others = b }))

pub nests-back : (l m : List TreeRow) → T (nests l) → T (nests (l ++ m)) → T (nests m)
nests-back l m h = rows_ind (λ l. T (nests (l ++ m)) → T (nests m)) (λ g. g) step l h
  where
    step : (r : TreeRow) (inner rest : List TreeRow) → IsRow r inner rest → (T (nests (inner ++ m)) → T (nests m)) → (T (nests (rest ++ m)) → T (nests m)) → T (nests ((r ∷ inner ++ rest) ++ m)) → T (nests m)
    step r inner rest w a b g = b (subst (λ z. T (nests z)) (drop_inner r inner (rest ++ m) w.below) (row_parts r (inner ++ (rest ++ m)) (subst (λ z. T (nests (r ∷ z))) (append_assoc inner rest m) g)).0.others)

-- every edge leads to a rooted tree
pub all_rooted : (rs : List TreeRow) → T (nests rs) → AllRooted (edges rs)
all_rooted rs h = rows_ind (λ l. AllRooted (edges l)) (subst AllRooted (sym edges-none) tt) step rs h
  where
    step : (r : TreeRow) (inner rest : List TreeRow) → IsRow r inner rest → AllRooted (edges inner) → AllRooted (edges rest) → AllRooted (edges (r ∷ inner ++ rest))
    step r inner rest w a b = subst AllRooted (sym (edges_around r inner rest w.below)) (rooted-branch r.item (edges inner) (good_from r.item r.last inner w.part a), b)

-- a root and the rows below it
pub good_part : (x : Content) (last : ℕ) (rs : List TreeRow) → T (is_part x last rs) → IsGood x (edges rs)
good_part x last rs h = good_from x last rs h (all_rooted rs (facts x last rs h).nested)
