-- The rows of a literal, level by level: a value, or a node with the rows below each of its labels.
use Rattle.cp_path.specs.declared.limits.TheConstants.{LABEL_MAX, TEXT_MAX}
use Rattle.std.specs.Prelude.{ℕ, suc, zero, ◌≤◌, ◌≡◌, Bool, true, false, cond, ◌&&◌, List, [], ◌∷◌, ◌++◌, length, nat_lt, ⊤, is_some, refl, if◌then◌else◌}
use Rattle.std.proofs.Common.{T, ap, sym, subst, ◌∙◌, arith, ◌⊎◌, inl, inr, ⊎_elim}
use Rattle.std.proofs.lemmas.Bool.{or_parts, ltb-false}
use Rattle.std.specs.declared.option.Option.{Option}
use Rattle.std.specs.declared.option.Option.TheVariants.{None, Some}
use Rattle.std.specs.declared.cmp.Ordering.{Ordering}
use Rattle.std.specs.declared.cmp.Ordering.TheVariants.{Less, Equal, Greater}
use Rattle.std.specs.Ordering.{is_lt, is_eq, ordering_then}
use Rattle.std.specs.Cmp.Lexicographic.{nat_list_cmp_total, nat_list_eq_equiv, texts_ties}
use Rattle.std.specs.FinMap.Entries.{is_sorted, below_all}
use Rattle.cp_path.specs.Text.{text_cmp, text_eq}
use Rattle.cp_path.specs.Place.{Label, Path, label_eq, path_cmp, path_eq}
use Rattle.cp_path.specs.PathOrder.{path_eq_equiv}
use Rattle.cp_spelling.specs.Reading.{any_long}
use Rattle.cp_spelling.specs.Laws.{IsValueWithin}
use Rattle.cp_path.specs.declared.value.Value.{Value}
use Rattle.cp_path.specs.declared.value.Value.TheVariants as value
use Rattle.cp_model.specs.Place.{or_else}
use Rattle.cp_path.proofs.Same.{text_eq-same}
use Rattle.cp_model.specs.Keyed.{look}
use Rattle.cp_model.specs.Tree.{text_bytes, CanBeSpelled, IsNumber}
use Rattle.cp_model.specs.History.{IsLiteral}
use Rattle.cp_model.proofs.Rooted.{AreRows, rows-literal, spelled-after}
use Rattle.cp_model.proofs.Sorted.{path_cmp-append, parts_of, all_of, root-first}
use Rattle.cp_model.proofs.Strips.{path_ind}
use Rattle.cp_model.proofs.Lookups.{or_none}
use Rattle.cp_model.specs.Literals.{rows_under}
use Rattle.cp_model.specs.Trees.{Group, into_groups, groups}
use Rattle.cp_model.specs.declared.row.Content.{Content}
use Rattle.cp_model.specs.declared.row.Content.TheVariants.{Node, Leaf}
use Rattle.cp_lang.specs.Printer.{AreShort}
use Rattle.cp_lang.specs.Printed.{Rows}

-- ---- the levels

-- it holds of each group
abbrev pub Each : (Group → Type 0) → List Group → Type 0
Each P [] = ⊤
Each P (g ∷ gs) = P g × Each P gs

-- the labels rise strictly
abbrev pub Rising : List Group → Type 0
Rising [] = ⊤
Rising (g ∷ gs) = Each (λ h. text_cmp g.label h.label ≡ Less) gs × Rising gs

-- the rows of each group below its label, group by group
abbrev pub rows_of : List Group → Rows
rows_of [] = []
rows_of (g ∷ gs) = rows_under g.label g.rows ++ rows_of gs

-- a value, or a node with rising groups of one level less
abbrev pub Layered : ℕ → Rows → Type 0
Layered zero rows = ⊥
Layered (suc d) [] = ⊥
Layered (suc d) ((p, Leaf v) ∷ rows) = (p ≡ []) × (rows ≡ []) × IsValueWithin v
Layered (suc d) ((p, Node) ∷ rows) =
    (p ≡ []) × (rows_of (groups rows) ≡ rows) × Rising (groups rows) × Each (λ g. (length g.label ≤ LABEL_MAX) × Layered d g.rows) (groups rows)

-- ---- groups of rows

pub each-map : (P Q : Group → Type 0) → ((g : Group) → P g → Q g) → (gs : List Group) → Each P gs → Each Q gs
each-map P Q f [] h = tt
each-map P Q f (g ∷ gs) h = (f g h.0, each-map P Q f gs h.1)

less_is : (o : Ordering) → T (is_lt o) → o ≡ Less
less_is Less h = refl
less_is Equal h = absurd h
less_is Greater h = absurd h

first_less : (o p : Ordering) → T (is_lt (ordering_then o p)) → (o ≡ Less) ⊎ (o ≡ Equal)
first_less Less p h = inl refl
first_less Equal p h = inr refl
first_less Greater p h = absurd h

-- labels that aren't in order are apart
pub less-apart : (a b : Label) → text_cmp a b ≡ Less → text_eq a b ≡ false
less-apart a b h = texts_ties a b ∙ ap is_eq h

-- labels that tie are equal
tie-equal : (a b : Label) → text_cmp a b ≡ Equal → label_eq a b ≡ true
tie-equal a b h = texts_ties a b ∙ ap is_eq h

-- no row stands at the root
abbrev pub NoRoot : Rows → Type 0
NoRoot rows = T (below_all path_cmp [] rows)

rows_of-into : (a : Label) (r : Path × Content) (gs : List Group) → rows_of (into_groups a r gs) ≡ (a ∷ r.0, r.1) ∷ rows_of gs
rows_of-into a r [] = refl
rows_of-into a r (g ∷ gs) =
    elim (label_eq a g.label) as (λ b. label_eq a g.label ≡ b →
    rows_of (if b then record { label = a; rows = r ∷ g.rows } ∷ gs else record { label = a; rows = r ∷ [] } ∷ g ∷ gs) ≡ (a ∷ r.0, r.1) ∷ rows_of (g ∷ gs)) [
      | true ↦ λ k. ap (λ l. (a ∷ r.0, r.1) ∷ rows_under l g.rows ++ rows_of gs) (text_eq-same a g.label k)
      | false ↦ λ _. refl
    ] refl

-- the groups of rows have these rows
pub rows_of-groups : (rows : Rows) → NoRoot rows → rows_of (groups rows) ≡ rows
rows_of-groups [] h = refl
rows_of-groups (([], c) ∷ rows) h = absurd (parts_of false (below_all path_cmp [] rows) h).0
rows_of-groups ((a ∷ p, c) ∷ rows) h = rows_of-into a (p, c) (groups rows) ∙ ap (λ rs. (a ∷ p, c) ∷ rs) (rows_of-groups rows h)

-- the first label is this one or greater
abbrev pub AtLeast : Label → List Group → Type 0
AtLeast a [] = ⊤
AtLeast a (g ∷ gs) = (text_cmp a g.label ≡ Less) ⊎ (text_cmp a g.label ≡ Equal)

at_least-into : (a b : Label) (r : Path × Content) (gs : List Group) → (text_cmp a b ≡ Less) ⊎ (text_cmp a b ≡ Equal) → AtLeast a (into_groups b r gs)
at_least-into a b r [] h = h
at_least-into a b r (g ∷ gs) h =
    elim (label_eq b g.label) as (λ c. AtLeast a (if c then record { label = b; rows = r ∷ g.rows } ∷ gs else record { label = b; rows = r ∷ [] } ∷ g ∷ gs)) [ true ↦ h | false ↦ h ]

at_least-groups : (a : Label) (p : Path) (rows : Rows) → NoRoot rows → T (below_all path_cmp (a ∷ p) rows) → AtLeast a (groups rows)
at_least-groups a p [] n h = tt
at_least-groups a p (([], c) ∷ rows) n h = absurd (parts_of false (below_all path_cmp [] rows) n).0
at_least-groups a p ((b ∷ q, c) ∷ rows) n h =
    at_least-into a b (q, c) (groups rows) (first_less (text_cmp a b) (path_cmp p q) (parts_of (is_lt (path_cmp (a ∷ p) (b ∷ q))) (below_all path_cmp (a ∷ p) rows) h).0)

rising-into : (a : Label) (r : Path × Content) (gs : List Group) → AtLeast a gs → Rising gs → Rising (into_groups a r gs)
rising-into a r [] l h = (tt, tt)
rising-into a r (g ∷ gs) l h =
    elim (label_eq a g.label) as (λ b. label_eq a g.label ≡ b → Rising (if b then record { label = a; rows = r ∷ g.rows } ∷ gs else record { label = a; rows = r ∷ [] } ∷ g ∷ gs)) [
      | true ↦ λ k. (subst (λ x. Each (λ h. text_cmp x h.label ≡ Less) gs) (sym (text_eq-same a g.label k)) h.0, h.1)
      | false ↦ λ k.
          let below : text_cmp a g.label ≡ Less = ⊎_elim (λ e. e) (λ e. let t = tie-equal a g.label e in absurd (cc)) l in
          ((below, each-map (λ i. text_cmp g.label i.label ≡ Less) (λ i. text_cmp a i.label ≡ Less) (λ i e. nat_list_cmp_total.trans a g.label i.label below e) gs h.0), h)
    ] refl

-- the groups of rows in order rise
pub rising-groups : (rows : Rows) → NoRoot rows → T (is_sorted path_cmp rows) → Rising (groups rows)
rising-groups [] n h = tt
rising-groups (([], c) ∷ rows) n h = absurd (parts_of false (below_all path_cmp [] rows) n).0
rising-groups ((a ∷ p, c) ∷ rows) n h =
    let parts = parts_of (below_all path_cmp (a ∷ p) rows) (is_sorted path_cmp rows) h in
    rising-into a (p, c) (groups rows) (at_least-groups a p rows n parts.0) (rising-groups rows n parts.1)

-- some row is there
abbrev pub IsFilled : Rows → Type 0
IsFilled rows = (r : Path × Content) × (rest : Rows) × (rows ≡ r ∷ rest)

filled-into : (a : Label) (r : Path × Content) (gs : List Group) → Each (λ g. IsFilled g.rows) gs → Each (λ g. IsFilled g.rows) (into_groups a r gs)
filled-into a r [] h = ((r, [], refl), tt)
filled-into a r (g ∷ gs) h =
    elim (label_eq a g.label) as (λ b. Each (λ g. IsFilled g.rows) (if b then record { label = a; rows = r ∷ g.rows } ∷ gs else record { label = a; rows = r ∷ [] } ∷ g ∷ gs)) [
      | true ↦ ((r, g.rows, refl), h.1)
      | false ↦ ((r, [], refl), h)
    ]

-- each group has a row
pub filled-groups : (rows : Rows) → Each (λ g. IsFilled g.rows) (groups rows)
filled-groups [] = tt
filled-groups (([], c) ∷ rows) = filled-groups rows
filled-groups ((a ∷ p, c) ∷ rows) = filled-into a (p, c) (groups rows) (filled-groups rows)

-- ---- the order below a label

below-under : (a : Label) (k : Path) (rs more : Rows) → T (below_all path_cmp (a ∷ k) (rows_under a rs ++ more)) → T (below_all path_cmp k rs)
below-under a k [] more h = tt
below-under a k (r ∷ rs) more h =
    let parts = parts_of (is_lt (path_cmp (a ∷ k) (a ∷ r.0))) (below_all path_cmp (a ∷ k) (rows_under a rs ++ more)) h in
    all_of (is_lt (path_cmp k r.0)) (below_all path_cmp k rs) (subst (λ o. T (is_lt o)) (path_cmp-append (a ∷ []) k r.0) parts.0) (below-under a k rs more parts.1)

-- rows below a label are in order as they are there
pub sorted-under : (a : Label) (rs more : Rows) → T (is_sorted path_cmp (rows_under a rs ++ more)) → T (is_sorted path_cmp rs)
sorted-under a [] more h = tt
sorted-under a (r ∷ rs) more h =
    let parts = parts_of (below_all path_cmp (a ∷ r.0) (rows_under a rs ++ more)) (is_sorted path_cmp (rows_under a rs ++ more)) h in
    all_of (below_all path_cmp r.0 rs) (is_sorted path_cmp rs) (below-under a r.0 rs more parts.0) (sorted-under a rs more parts.1)

-- and so are those behind others
pub sorted-after : (xs ys : Rows) → T (is_sorted path_cmp (xs ++ ys)) → T (is_sorted path_cmp ys)
sorted-after [] ys h = h
sorted-after (x ∷ xs) ys h = sorted-after xs ys (parts_of (below_all path_cmp x.0 (xs ++ ys)) (is_sorted path_cmp (xs ++ ys)) h).1

-- ---- what stands below a label

look-chosen : (b : Bool) (v : Content) (o p : Option Content) → cond b (Some v) (or_else o p) ≡ or_else (cond b (Some v) o) p
look-chosen true v o p = refl
look-chosen false v o p = refl

-- at a label is what stands there among its rows, else among the others
pub look-same : (a : Label) (q : Path) (rs more : Rows) → look (a ∷ q) (rows_under a rs ++ more) ≡ or_else (look q rs) (look (a ∷ q) more)
look-same a q [] more = refl
look-same a q (r ∷ rs) more =
    ap (λ b. cond (b && path_eq q r.0) (Some r.1) (look (a ∷ q) (rows_under a rs ++ more))) (nat_list_eq_equiv.refl a)
    ∙ ap (cond (path_eq q r.0) (Some r.1)) (look-same a q rs more)
    ∙ look-chosen (path_eq q r.0) r.1 (look q rs) (look (a ∷ q) more)

-- rows below another label change nothing
pub look-other : (a b : Label) (q : Path) (rs more : Rows) → text_eq b a ≡ false → look (b ∷ q) (rows_under a rs ++ more) ≡ look (b ∷ q) more
look-other a b q [] more n = refl
look-other a b q (r ∷ rs) more n =
    ap (λ c. cond (c && path_eq q r.0) (Some r.1) (look (b ∷ q) (rows_under a rs ++ more))) n ∙ look-other a b q rs more n

look-none : (a : Label) (q : Path) (gs : List Group) → Each (λ h. text_cmp a h.label ≡ Less) gs → look (a ∷ q) (rows_of gs) ≡ None
look-none a q [] h = refl
look-none a q (g ∷ gs) h = look-other g.label a q g.rows (rows_of gs) (less-apart a g.label h.0) ∙ look-none a q gs h.1

-- rows below a root: what is above a row is a node, and labels, numbers and texts are within their limits
record IsForest (rows : Rows) : Type 0 where
  parents : (a : Label) (r : Path) (b : Label) → is_some (look (a ∷ r ++ b ∷ []) rows) ≡ true → look (a ∷ r) rows ≡ Some Node
  texts : (a : Label) (r : Path) (c : Content) → look (a ∷ r) rows ≡ Some c → text_bytes c ≤ TEXT_MAX
  spelled : (a : Label) (r : Path) (c : Content) → look (a ∷ r) rows ≡ Some c → CanBeSpelled (a ∷ r) c

-- no row stands at or below the label
abbrev Lacks : Label → Rows → Type 0
Lacks a rows = (q : Path) → look (a ∷ q) rows ≡ None

forest-under : (a : Label) (rs more : Rows) → IsFilled rs → Lacks a more → IsForest (rows_under a rs ++ more) → AreRows rs
forest-under a rs more f n h = record { root = root; parents = parents; texts = λ r c e. h.texts a r c (same r ∙ e); spelled = λ r c e. spelled-after (a ∷ []) r c (h.spelled a r c (same r ∙ e)) }
  where
    same : (q : Path) → look (a ∷ q) (rows_under a rs ++ more) ≡ look q rs
    same q = look-same a q rs more ∙ ap (or_else (look q rs)) (n q) ∙ or_none (look q rs)

    parents : (r : Path) (b : Label) → is_some (look (r ++ b ∷ []) rs) ≡ true → look r rs ≡ Some Node
    parents r b i = sym (same r) ∙ h.parents a r b (ap is_some (same (r ++ b ∷ [])) ∙ i)

    there : is_some (look f.0.0 rs) ≡ true
    there = ap (λ es. is_some (look f.0.0 es)) f.2 ∙ ap (λ b. is_some (cond b (Some f.0.1) (look f.0.0 f.1))) (path_eq_equiv.refl f.0.0)

    root : is_some (look [] rs) ≡ true
    root = path_ind (λ p. is_some (look p rs) ≡ true → is_some (look [] rs) ≡ true) (λ i. i) (λ r b up i. up (ap is_some (parents r b i))) f.0.0 there

forest-after : (a : Label) (rs more : Rows) → Lacks a more → IsForest (rows_under a rs ++ more) → IsForest more
forest-after a rs more n h = record {
  parents = λ b r c i. let e = apart b (r ++ c ∷ []) (text_eq b a) refl i in
      sym (look-other a b r rs more e) ∙ h.parents b r c (ap is_some (look-other a b (r ++ c ∷ []) rs more e) ∙ i);
  texts = λ b r c k. let e = apart b r (text_eq b a) refl (ap is_some k) in h.texts b r c (look-other a b r rs more e ∙ k);
  spelled = λ b r c k. let e = apart b r (text_eq b a) refl (ap is_some k) in h.spelled b r c (look-other a b r rs more e ∙ k);
}
  where
    apart : (b : Label) (q : Path) (t : Bool) → text_eq b a ≡ t → is_some (look (b ∷ q) more) ≡ true → text_eq b a ≡ false
    apart b q false e i = e
    apart b q true e i = let none : look (b ∷ q) more ≡ None = ap (λ l. look (l ∷ q) more) (text_eq-same b a e) ∙ n q in absurd (cc)

-- ---- limits below a label

short-front : (n : ℕ) (xs ys : Rows) → AreShort n (xs ++ ys) → AreShort n xs
short-front n [] ys h = tt
short-front n (x ∷ xs) ys h = (h.0, h.1, h.2, short-front n xs ys h.3)

short-after : (n : ℕ) (xs ys : Rows) → AreShort n (xs ++ ys) → AreShort n ys
short-after n [] ys h = h
short-after n (x ∷ xs) ys h = short-after n xs ys h.3

short-under : (n : ℕ) (a : Label) (rs : Rows) → AreShort (suc n) (rows_under a rs) → AreShort n rs
short-under n a [] h = tt
short-under n a (r ∷ rs) h = (omega (arith, h.0), (or_parts (nat_lt LABEL_MAX (length a)) (any_long r.0) h.1).1, h.2, short-under n a rs h.3)

short-label : (n : ℕ) (a : Label) (rs : Rows) → IsFilled rs → AreShort n (rows_under a rs) → length a ≤ LABEL_MAX
short-label n a rs f h =
    let s : AreShort n (rows_under a (f.0 ∷ f.1)) = subst (λ es. AreShort n (rows_under a es)) f.2 h in
    ltb-false LABEL_MAX (length a) (or_parts (nat_lt LABEL_MAX (length a)) (any_long f.0.0) s.1).0

-- ---- a literal's rows

-- rows in order of a whole tree, of at most so many labels on a way
record IsShortTree (n : ℕ) (rows : Rows) : Type 0 where
  sorted : T (is_sorted path_cmp rows)
  tree : AreRows rows
  short : AreShort n rows

-- a group of such rows below a label within its limit
abbrev IsShortGroup : ℕ → Group → Type 0
IsShortGroup n g = (length g.label ≤ LABEL_MAX) × IsShortTree n g.rows

parted : (n : ℕ) (gs : List Group) → Each (λ g. IsFilled g.rows) gs → Rising gs → T (is_sorted path_cmp (rows_of gs)) → IsForest (rows_of gs) → AreShort (suc n) (rows_of gs) → Each (IsShortGroup n) gs
parted n [] f r s t h = tt
parted n (g ∷ gs) f r s t h =
    let lacks : Lacks g.label (rows_of gs) = λ q. look-none g.label q gs r.0 in
    let front = short-front (suc n) (rows_under g.label g.rows) (rows_of gs) h in (
      (
        short-label (suc n) g.label g.rows f.0 front,
        record {
          sorted = sorted-under g.label g.rows (rows_of gs) s;
          tree = forest-under g.label g.rows (rows_of gs) f.0 lacks t;
          short = short-under n g.label g.rows front;
        },
      ),
      parted n gs f.1 r.1 (sorted-after (rows_under g.label g.rows) (rows_of gs) s) (forest-after g.label g.rows (rows_of gs) lacks t) (short-after (suc n) (rows_under g.label g.rows) (rows_of gs) h),
    )

-- the root is the first row
root_row : (p : Path) (c : Content) (rows : Rows) → T (is_sorted path_cmp ((p, c) ∷ rows)) → AreRows ((p, c) ∷ rows) → p ≡ []
root_row [] c rows s t = refl
root_row (a ∷ p) c rows s t =
    let none = root-first (a ∷ p) rows (parts_of (below_all path_cmp (a ∷ p) rows) (is_sorted path_cmp rows) s).0 in
    let there = t.root in absurd (cc)

-- what is below a root is below a node
above-node : (rows : Rows) (a : Label) → AreRows rows → (p : Path) → is_some (look (a ∷ p) rows) ≡ true → look [] rows ≡ Some Node
above-node rows a t = path_ind (λ p. is_some (look (a ∷ p) rows) ≡ true → look [] rows ≡ Some Node)
    (λ i. t.parents [] a i) (λ r b up i. up (ap is_some (t.parents (a ∷ r) b i)))

-- nothing is below a value
no_row : (v : Value) (rows : Rows) → AreRows (([], Leaf v) ∷ rows) → NoRoot rows → rows ≡ []
no_row v [] t n = refl
no_row v (([], c) ∷ rows) t n = absurd (parts_of false (below_all path_cmp [] rows) n).0
no_row v ((a ∷ p, c) ∷ rows) t n =
    let there : is_some (look (a ∷ p) ((a ∷ p, c) ∷ rows)) ≡ true = ap (λ b. is_some (cond b (Some c) (look (a ∷ p) rows))) (path_eq_equiv.refl (a ∷ p)) in
    let bad : Some (Leaf v) ≡ Some Node = above-node (([], Leaf v) ∷ (a ∷ p, c) ∷ rows) a t p there in absurd (cc)

-- a value is within its limits
fit : (v : Value) → text_bytes (Leaf v) ≤ TEXT_MAX → IsNumber (Leaf v) → IsValueWithin v
fit value.Null h n = tt
fit value.False h n = tt
fit value.True h n = tt
fit (value.Whole k) h n = n
fit (value.Text t) h n = h

forest : (rows : Rows) → AreRows (([], Node) ∷ rows) → IsForest rows
forest rows t = record { parents = λ a r b i. t.parents (a ∷ r) b i; texts = λ a r c e. t.texts (a ∷ r) c e; spelled = λ a r c e. t.spelled (a ∷ r) c e }

-- rows without labels are none
none_below : (rows : Rows) → NoRoot rows → AreShort zero rows → rows ≡ []
none_below [] n h = refl
none_below (([], c) ∷ rows) n h = absurd (parts_of false (below_all path_cmp [] rows) n).0
none_below ((a ∷ p, c) ∷ rows) n h = absurd (omega (arith, h.0))

-- such rows have one level more than labels on a way
layers : (n : ℕ) (rows : Rows) → IsShortTree n rows → Layered (suc n) rows
layers n [] h = let e = h.tree.root in absurd (cc)
layers n ((p, Leaf v) ∷ rows) h =
    let e = root_row p (Leaf v) rows h.sorted h.tree in
    let t : AreRows (([], Leaf v) ∷ rows) = subst (λ q. AreRows ((q, Leaf v) ∷ rows)) e h.tree in
    let s : T (is_sorted path_cmp (([], Leaf v) ∷ rows)) = subst (λ q. T (is_sorted path_cmp ((q, Leaf v) ∷ rows))) e h.sorted in
    (e, no_row v rows t (parts_of (below_all path_cmp [] rows) (is_sorted path_cmp rows) s).0, fit v (t.texts [] (Leaf v) refl) h.short.2)
layers zero ((p, Node) ∷ rows) h =
    let e = root_row p Node rows h.sorted h.tree in
    let s : T (is_sorted path_cmp (([], Node) ∷ rows)) = subst (λ q. T (is_sorted path_cmp ((q, Node) ∷ rows))) e h.sorted in
    let n = (parts_of (below_all path_cmp [] rows) (is_sorted path_cmp rows) s).0 in
    let k = none_below rows n h.short.3 in (
      e,
      rows_of-groups rows n,
      rising-groups rows n (parts_of (below_all path_cmp [] rows) (is_sorted path_cmp rows) s).1,
      subst (λ rs. Each (λ g. (length g.label ≤ LABEL_MAX) × Layered zero g.rows) (groups rs)) (sym k) tt,
    )
layers (suc n) ((p, Node) ∷ rows) h =
    let e = root_row p Node rows h.sorted h.tree in
    let t : AreRows (([], Node) ∷ rows) = subst (λ q. AreRows ((q, Node) ∷ rows)) e h.tree in
    let s : T (is_sorted path_cmp (([], Node) ∷ rows)) = subst (λ q. T (is_sorted path_cmp ((q, Node) ∷ rows))) e h.sorted in
    let parts = parts_of (below_all path_cmp [] rows) (is_sorted path_cmp rows) s in
    let same = rows_of-groups rows parts.0 in
    let rising = rising-groups rows parts.0 parts.1 in
    let each = parted n (groups rows) (filled-groups rows) rising
    (subst (λ rs. T (is_sorted path_cmp rs)) (sym same) parts.1) (subst IsForest (sym same) (forest rows t)) (subst (AreShort (suc n)) (sym same) h.short.3) in
    (e, same, rising, each-map (IsShortGroup n) (λ g. (length g.label ≤ LABEL_MAX) × Layered (suc n) g.rows) (λ g k. (k.0, layers n g.rows k.1)) (groups rows) each)

-- a literal's rows have one level more than labels on a way
pub literal-layers : (n : ℕ) (rows : Rows) → IsLiteral rows → AreShort n rows → Layered (suc n) rows
literal-layers n rows h s = layers n rows (record { sorted = h.sorted; tree = rows-literal rows h; short = s })
