-- The groups of rows in order, found run by run.
use Rattle.cp_path.specs.declared.limits.TheConstants.{LABELS_MAX}
use Rattle.std.proofs.Common.{◌≡◌, ℕ, zero, suc, ◌+◌, ◌-◌, ◌≤◌, ◌<◌, Bool, true, false, not, List, [], ◌∷◌, ◌++◌, length, map, take, drop, get_or, codes, refl, ap, sym, ◌∙◌, subst, arith, add-one, append_assoc, append-nil, if◌then◌else◌}
use Rattle.std.proofs.Math.Seq.{drop-cons}
use Rattle.std.proofs.lemmas.List.{take-map, drop-map, length-drop}
use Rattle.std.specs.List.{slice_get}
use Rattle.std.specs.declared.option.Option.TheVariants.{Some, None}
use Rattle.std.specs.declared.result.Result.{Result}
use Rattle.std.specs.declared.result.Result.TheVariants.{Ok, Err}
use Rattle.std.specs.Result.{OnOk, is_ok}
use Rattle.std.specs.Cmp.Lexicographic.{nat_list_eq_equiv}
use Rattle.cp_path.specs.Place.{Label, Path, label_eq}
use Rattle.cp_path.specs.Spelling.{label_text, value_text}
use Rattle.cp_path.proofs.Same.{text_eq-same}
use Rattle.cp_path.specs.declared.value.Value.{Value}
use Rattle.cp_model.specs.declared.row.Row.{Row}
use Rattle.cp_model.specs.declared.row.Content.{Content}
use Rattle.cp_model.specs.declared.row.Content.TheVariants.{Node, Leaf}
use Rattle.cp_model.proofs.Grouping.{joins}
use Rattle.cp_model.specs.Trees.{Group, between, into_groups, groups, tree_at}
use Rattle.cp_reply.specs.Runs.{rows_seen, all_seen, leaves, run_length, edge_text, edge_texts, IsNextRun}

-- a row, seen one label further down
pub down : Path × Content → Path × Content
down ([], c) = ([], c)
down (a ∷ p, c) = (p, c)

-- the rows that have a label, without it
pub kept : List (Path × Content) → List (Path × Content)
kept [] = []
kept (([], c) ∷ rows) = kept rows
kept ((a ∷ p, c) ∷ rows) = (p, c) ∷ kept rows

-- rows without a label stand in no group, so none is missed
pub groups_kept : (rows : List (Path × Content)) → groups (kept rows) ≡ groups (map down rows)
unfolding kept down
groups_kept [] = refl
groups_kept (([], c) ∷ rows) = groups_kept rows
groups_kept (([] ∷ [], c) ∷ rows) = groups_kept rows
groups_kept (((x ∷ a) ∷ [], c) ∷ rows) = groups_kept rows
groups_kept ((a ∷ b ∷ p, c) ∷ rows) = ap (into_groups b (p, c)) (groups_kept rows)

pub tree_kept : (n : ℕ) (r : Path × Content) (rows : List (Path × Content)) → tree_at n (r ∷ kept rows) ≡ tree_at n (r ∷ map down rows)
unfolding tree_at
tree_kept zero r rows = refl
tree_kept (suc n) (p, Leaf v) rows = refl
tree_kept (suc n) (p, Node) rows =
    ap (λ gs. codes "{" ++ (between (codes ", ") (map (λ (g : Group). label_text g.label ++ (codes " : " ++ tree_at n g.rows)) gs) ++ codes "}")) (groups_kept rows)

-- what another label's group begins with
apart_if : (t : Bool) (a b : Label) (r : Path × Content) (with_it alone : List (Path × Content)) (gs gs2 : List Group) → label_eq a b ≡ false
    → into_groups a r (if t then record { label = b; rows = with_it } ∷ gs else record { label = b; rows = alone } ∷ gs2)
    ≡ record { label = a; rows = r ∷ [] } ∷ (if t then record { label = b; rows = with_it } ∷ gs else record { label = b; rows = alone } ∷ gs2)
apart_if true a b r with_it alone gs gs2 e = rw e refl
apart_if false a b r with_it alone gs gs2 e = rw e refl

apart : (a b : Label) (r x : Path × Content) (gs : List Group) → label_eq a b ≡ false → into_groups a r (into_groups b x gs) ≡ record { label = a; rows = r ∷ [] } ∷ into_groups b x gs
apart a b r x [] e = rw e refl
apart a b r x (g ∷ gs) e = apart_if (label_eq b g.label) a b r (x ∷ g.rows) (x ∷ []) gs (g ∷ gs) e

flip : (t : Bool) (a b : Label) → label_eq a b ≡ t → label_eq b a ≡ false → label_eq a b ≡ false
flip true a b e f =
    let same : a ≡ b = text_eq-same a b e in
    let again : label_eq b a ≡ true = ap (label_eq b) same ∙ nat_list_eq_equiv.refl b in
    cc
flip false a b e f = e

-- the run of rows below a label is its group
abbrev IsRun : Label → Path × Content → List (Path × Content) → ℕ → Type 0
IsRun a r rows k = into_groups a r (groups rows) ≡ record { label = a; rows = r ∷ kept (take k rows) } ∷ groups (drop k rows)

run_next : (t : Bool) (a b : Label) (r : Path × Content) (p : Path) (c : Content) (rows : List (Path × Content)) (k : ℕ) → label_eq b a ≡ t
    → ((x : Path × Content) → IsRun a x rows k) → IsRun a r ((b ∷ p, c) ∷ rows) (if not t then 0 else k + 1)
unfolding kept
run_next true a b r p c rows k e more =
    let same : b ≡ a = text_eq-same b a e in
    rw add-one
    (ap (λ l. into_groups a r (into_groups l (p, c) (groups rows))) same ∙ ap (into_groups a r) (more (p, c)) ∙ joins a r ((p, c) ∷ kept (take k rows)) (groups (drop k rows)))
run_next false a b r p c rows k e more = apart a b r (p, c) (groups rows) (flip (label_eq a b) a b refl e)

pub run_groups : (a : Label) (r : Path × Content) (rows : List (Path × Content)) → IsRun a r rows (run_length a rows)
unfolding kept
run_groups a r [] = refl
run_groups a r (([], c) ∷ rows) = rw add-one (run_groups a r rows)
run_groups a r ((b ∷ p, c) ∷ rows) = run_next (label_eq b a) a b r p c rows (run_length a rows) refl (λ x. run_groups a x rows)

-- ---- rows, one label further down

down_seen : (d : ℕ) (p : Path) (c : Content) → down (drop d p, c) ≡ (drop (suc d) p, c)
unfolding down
down_seen zero [] c = refl
down_seen zero (a ∷ p) c = refl
down_seen (suc d) [] c = refl
down_seen (suc d) (a ∷ p) c = down_seen d p c

pub down_all : (d : ℕ) (rows : List Row) → map down (all_seen d rows) ≡ all_seen (d + 1) rows
down_all d [] = refl
down_all d (r ∷ rows) =
    let here : down (rows_seen d r) ≡ rows_seen (d + 1) r = rw add-one (down_seen d r.path r.content) in
    rw (here, down_all d rows) refl

pub drop_some : (d : ℕ) (p : Path) (a : Label) → slice_get p d ≡ Some a → drop d p ≡ a ∷ drop (suc d) p
drop_some zero [] a e = cc
drop_some (suc d) [] a e = cc
drop_some zero (b ∷ p) a e = let same : b ≡ a = cc in ap (λ l. l ∷ p) same
drop_some (suc d) (b ∷ p) a e = drop_some d p a e

pub drop_none : (d : ℕ) (p : Path) → slice_get p d ≡ None → drop d p ≡ []
drop_none zero [] e = refl
drop_none (suc d) [] e = refl
drop_none zero (b ∷ p) e = cc
drop_none (suc d) (b ∷ p) e = drop_none d p e

pub leaves_some : (a b : Label) (d : ℕ) (r : Row) → slice_get r.path d ≡ Some b → leaves a (rows_seen d r) ≡ not (label_eq b a)
leaves_some a b d r e = ap (λ p. leaves a (p, r.content)) (drop_some d r.path b e)

pub leaves_none : (a : Label) (d : ℕ) (r : Row) → slice_get r.path d ≡ None → leaves a (rows_seen d r) ≡ false
leaves_none a d r e = ap (λ p. leaves a (p, r.content)) (drop_none d r.path e)

-- a row without a label is in no group
pub groups_none : (d : ℕ) (r : Row) (rows : List Row) → slice_get r.path d ≡ None → groups (all_seen d (r ∷ rows)) ≡ groups (all_seen d rows)
groups_none d r rows e = ap (λ p. groups ((p, r.content) ∷ all_seen d rows)) (drop_none d r.path e)

-- the first group is the run that the first row begins
pub edges_some : (d n : ℕ) (a : Label) (r : Row) (rows : List Row) → slice_get r.path d ≡ Some a
    → edge_texts n (all_seen d (r ∷ rows)) ≡ edge_text n a (all_seen (d + 1) (r ∷ take (run_length a (all_seen d rows)) rows)) ∷ edge_texts n (all_seen d (drop (run_length a (all_seen d rows)) rows))
edges_some d n a r rows e =
    let k : ℕ = run_length a (all_seen d rows) in
    let q : Path = drop (suc d) r.path in
    let first : groups (all_seen d (r ∷ rows)) ≡ record { label = a; rows = (q, r.content) ∷ kept (take k (all_seen d rows)) } ∷ groups (drop k (all_seen d rows)) =
    ap (λ p. groups ((p, r.content) ∷ all_seen d rows)) (drop_some d r.path a e) ∙ run_groups a (q, r.content) (all_seen d rows) in
    let one : suc d ≡ d + 1 = omega arith in
    let head : (q, r.content) ≡ rows_seen (d + 1) r = ap (λ m. (drop m r.path, r.content)) one in
    let tail : map down (take k (all_seen d rows)) ≡ all_seen (d + 1) (take k rows) = ap (map down) (take-map (rows_seen d) k rows) ∙ down_all d (take k rows) in
    let below : tree_at n ((q, r.content) ∷ kept (take k (all_seen d rows))) ≡ tree_at n (all_seen (d + 1) (r ∷ take k rows)) =
    tree_kept n (q, r.content) (take k (all_seen d rows)) ∙ ap (λ x. tree_at n (x ∷ map down (take k (all_seen d rows)))) head ∙ ap (λ xs. tree_at n (rows_seen (d + 1) r ∷ xs)) tail in
    ap (map (λ (g : Group). edge_text n g.label g.rows)) first ∙ ap (λ t. (label_text a ++ (codes " : " ++ t)) ∷ edge_texts n (drop k (all_seen d rows))) below
    ∙ ap (λ xs. edge_text n a (all_seen (d + 1) (r ∷ take k rows)) ∷ edge_texts n xs) (drop-map (rows_seen d) k rows)

-- ---- the walk over the rows

pub groups_pass : (d : ℕ) (rows : List Row) (i : ℕ) (row : Row) → i < length rows → row ≡ get_or rows i row → slice_get row.path d ≡ None
    → groups (all_seen d rows) ≡ groups (all_seen d (drop i rows)) → groups (all_seen d rows) ≡ groups (all_seen d (drop (i + 1) rows))
groups_pass d rows i row within is none before =
    let cut : drop i rows ≡ row ∷ drop (i + 1) rows = rw add-one (drop-cons rows i row within ∙ ap (λ x. x ∷ drop (suc i) rows) (sym is)) in
    before ∙ ap (λ xs. groups (all_seen d xs)) cut ∙ groups_none d row (drop (i + 1) rows) none

-- a row stands in the run of its own label
own_run : (a : Label) (d : ℕ) (r : Row) (rows : List Row) → slice_get r.path d ≡ Some a → run_length a (all_seen d (r ∷ rows)) ≡ suc (run_length a (all_seen d rows))
own_run a d r rows e =
    let stays : leaves a (rows_seen d r) ≡ false = leaves_some a a d r e ∙ ap not (nat_list_eq_equiv.refl a) in
    rw (stays, add-one) refl

pub edges_run : (d n : ℕ) (a : Label) (r : Row) (rows : List Row) (k : ℕ) → slice_get r.path d ≡ Some a → k ≡ run_length a (all_seen d (r ∷ rows))
    → edge_texts n (all_seen d (r ∷ rows)) ≡ edge_text n a (all_seen (d + 1) (take k (r ∷ rows))) ∷ edge_texts n (all_seen d (drop k (r ∷ rows)))
edges_run d n a r rows k e is =
    edges_some d n a r rows e ∙ ap (λ m. edge_text n a (all_seen (d + 1) (take m (r ∷ rows))) ∷ edge_texts n (all_seen d (drop m (r ∷ rows)))) (sym (is ∙ own_run a d r rows e))

pub next_is : (d : ℕ) (rows : List Row) (i : ℕ) (row : Row) (a : Label) (below run after : List Row) (k : ℕ) → i < length rows → row ≡ get_or rows i row → slice_get row.path d ≡ Some a → d < LABELS_MAX
    → groups (all_seen d rows) ≡ groups (all_seen d (drop i rows)) → below ≡ drop i rows → k ≡ run_length a (all_seen d below) → run ≡ take k below → after ≡ drop k below
    → IsNextRun d rows a run after
next_is d rows i row a below run after k within is label deep before cut length_is run_is after_is =
    let open_cut : below ≡ row ∷ drop (suc i) rows = cut ∙ drop-cons rows i row within ∙ ap (λ x. x ∷ drop (suc i) rows) (sym is) in
    let own : k ≡ suc (run_length a (all_seen d (drop (suc i) rows))) = length_is ∙ ap (λ xs. run_length a (all_seen d xs)) open_cut ∙ own_run a d row (drop (suc i) rows) label in
    let whole : length below + i ≡ length rows = rw cut (let l : length (drop i rows) ≡ length rows - i = length-drop i rows in omega arith) in
    let less : length after < length rows = rw after_is (let l : length (drop k below) ≡ length below - k = length-drop k below in omega arith) in
    let part : (n : ℕ) → edge_texts n (all_seen d below) ≡ edge_text n a (all_seen (d + 1) (take k below)) ∷ edge_texts n (all_seen d (drop k below)) =
    λ n. subst (λ (xs : List Row). edge_texts n (all_seen d xs) ≡ edge_text n a (all_seen (d + 1) (take k xs)) ∷ edge_texts n (all_seen d (drop k xs))) (sym open_cut)
    (edges_run d n a row (drop (suc i) rows) k label (length_is ∙ ap (λ xs. run_length a (all_seen d xs)) open_cut)) in
    record {
      edges_are = λ n. ap (map (λ (g : Group). edge_text n g.label g.rows)) (before ∙ ap (λ xs. groups (all_seen d xs)) (sym cut)) ∙ part n
          ∙ ap (λ xs. edge_text n a (all_seen (d + 1) xs) ∷ edge_texts n (all_seen d (drop k below))) (sym run_is) ∙ ap (λ xs. edge_text n a (all_seen (d + 1) run) ∷ edge_texts n (all_seen d xs)) (sym after_is);
      fewer = less;
      deep = deep;
    }

-- ---- what is written

-- the edges, with this text before the first and the separator before each other one
abbrev pub pending : List ℕ → List (List ℕ) → List ℕ
pending s [] = []
pending s (e ∷ es) = s ++ (e ++ pending (codes ", ") es)

pub pending_first : (es : List (List ℕ)) → pending [] es ≡ between (codes ", ") es
pending_first [] = refl
pending_first (e ∷ []) = append-nil e
pending_first (e ∷ f ∷ es) = ap (λ w. e ++ (codes ", " ++ w)) (pending_first (f ∷ es))

one_more : (t s a b w : List ℕ) → (t ++ (s ++ a)) ++ (b ++ w) ≡ t ++ (s ++ ((a ++ b) ++ w))
one_more t s a b w = simp append_assoc

label_first : (l t : List ℕ) → (l ++ codes " : ") ++ t ≡ l ++ (codes " : " ++ t)
label_first l t = append_assoc l (codes " : ") t

pub edge_step : (n m d : ℕ) (a : Label) (rest run after : List Row) (s before front whole text : List ℕ) → m ≡ n → IsNextRun d rest a run after
    → before ++ pending s (edge_texts n (all_seen d rest)) ≡ whole → front ≡ before ++ (s ++ (label_text a ++ codes " : ")) → text ≡ front ++ tree_at m (all_seen (d + 1) run)
    → text ++ pending (codes ", ") (edge_texts n (all_seen d after)) ≡ whole
edge_step n m d a rest run after s before front whole text level next inv label tree =
    let others : List ℕ = pending (codes ", ") (edge_texts n (all_seen d after)) in
    let below : List ℕ = tree_at n (all_seen (d + 1) run) in
    let all : text ≡ (before ++ (s ++ (label_text a ++ codes " : "))) ++ below = tree ∙ ap (λ k. front ++ tree_at k (all_seen (d + 1) run)) level ∙ ap (λ w. w ++ below) label in
    ap (λ w. w ++ others) all ∙ append_assoc (before ++ (s ++ (label_text a ++ codes " : "))) below others ∙ one_more before s (label_text a ++ codes " : ") below others
    ∙ ap (λ w. before ++ (s ++ (w ++ others))) (label_first (label_text a) below) ∙ ap (λ es. before ++ pending s es) (sym (next.edges_are n)) ∙ inv

pub edges_end : (n d : ℕ) (rest : List Row) (s text whole : List ℕ) → groups (all_seen d rest) ≡ [] → text ++ pending s (edge_texts n (all_seen d rest)) ≡ whole → text ≡ whole
edges_end n d rest s text whole none inv =
    sym (append-nil text) ∙ ap (λ gs. text ++ pending s (map (λ (g : Group). edge_text n g.label g.rows) gs)) (sym none) ∙ inv

tree_node : (d n : ℕ) (p : Path) (rows : List (Path × Content)) → n ≡ suc (LABELS_MAX - d) → tree_at n ((p, Node) ∷ rows) ≡ codes "{" ++ (between (codes ", ") (edge_texts (LABELS_MAX - d) rows) ++ codes "}")
unfolding tree_at
tree_node d n p rows e = ap (λ k. tree_at k ((p, Node) ∷ rows)) e

tree_leaf : (d n : ℕ) (p : Path) (v : Value) (rows : List (Path × Content)) → n ≡ suc (LABELS_MAX - d) → tree_at n ((p, Leaf v) ∷ rows) ≡ value_text v
unfolding tree_at
tree_leaf d n p v rows e = ap (λ k. tree_at k ((p, Leaf v) ∷ rows)) e

tree_none : (d n : ℕ) → n ≡ suc (LABELS_MAX - d) → tree_at n [] ≡ []
unfolding tree_at
tree_none d n e = ap (λ k. tree_at k []) e

pub no_rows : (d : ℕ) (rows : List Row) → d ≤ LABELS_MAX → length rows ≡ 0 → tree_at (65 - d) (all_seen d rows) ≡ []
no_rows d [] within e = tree_none d (65 - d) (omega arith)
no_rows d (r ∷ rows) within e = absurd (omega arith)

pub leaf_row : (d : ℕ) (rows : List Row) (r : Row) (below : List Row) (v : Value) → d ≤ LABELS_MAX → rows ≡ r ∷ below → r.content ≡ Leaf v → tree_at (65 - d) (all_seen d rows) ≡ value_text v
leaf_row d rows r below v within cut is =
    ap (λ xs. tree_at (65 - d) (all_seen d xs)) cut ∙ ap (λ c. tree_at (65 - d) ((drop d r.path, c) ∷ all_seen d below)) is
    ∙ tree_leaf d (65 - d) (drop d r.path) v (all_seen d below) (omega arith)

pub node_row : (d : ℕ) (rows : List Row) (r : Row) (below : List Row) → d ≤ LABELS_MAX → rows ≡ r ∷ below → r.content ≡ Node
    → tree_at (65 - d) (all_seen d rows) ≡ codes "{" ++ (between (codes ", ") (edge_texts (LABELS_MAX - d) (all_seen d below)) ++ codes "}")
node_row d rows r below within cut is =
    ap (λ xs. tree_at (65 - d) (all_seen d xs)) cut ∙ ap (λ c. tree_at (65 - d) ((drop d r.path, c) ∷ all_seen d below)) is
    ∙ tree_node d (65 - d) (drop d r.path) (all_seen d below) (omega arith)

braced : (t a b z : List ℕ) → ((t ++ a) ++ b) ++ z ≡ t ++ (a ++ (b ++ z))
braced t a b z = simp append_assoc

pub node_put : (t open_put edges_put a b z tree : List ℕ) → open_put ≡ t ++ a → edges_put ≡ open_put ++ b → tree ≡ a ++ (b ++ z) → edges_put ++ z ≡ t ++ tree
node_put t open_put edges_put a b z tree first second is = ap (λ w. w ++ z) (second ∙ ap (λ w. w ++ b) first) ∙ braced t a b z ∙ ap (λ w. t ++ w) (sym is)

-- what the last write put, where it succeeded
pub last_put : {E : Type 0} (r : Result (Unit {0}) E) (new before put whole : List ℕ) → new ≡ (if is_ok r then before ++ put else before) → before ++ put ≡ whole → OnOk r (new ≡ whole)
last_put (Ok u) new before put whole e f = e ∙ f
last_put (Err x) new before put whole e f = tt
