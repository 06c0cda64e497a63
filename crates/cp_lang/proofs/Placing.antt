-- A node whose edges rise, and lead to literals within their limits, is a literal within its limits.
use Rattle.cp_path.specs.declared.limits.TheConstants.{LABEL_MAX, TEXT_MAX}
use Rattle.std.specs.Prelude.{ℕ, suc, ◌≤◌, ◌+◌, ◌≡◌, Bool, true, false, ◌||◌, cond, nat_lt, [], ◌∷◌, ◌++◌, length, ⊤, is_some, refl}
use Rattle.std.proofs.Common.{T, ap, sym, subst, ◌∙◌, arith}
use Rattle.std.proofs.lemmas.Bool.{le-ltb, ltb-false, or_parts}
use Rattle.std.specs.declared.option.Option.TheVariants.{None, Some}
use Rattle.std.specs.declared.cmp.Ordering.{Ordering}
use Rattle.std.specs.declared.cmp.Ordering.TheVariants.{Less, Equal, Greater}
use Rattle.std.specs.Ordering.{is_lt, is_eq, ordering_then, ordering_reverse, match_ordering}
use Rattle.std.specs.BTreeMap.{insert_entry}
use Rattle.std.specs.Cmp.Lexicographic.{nat_list_cmp_total, texts_ties}
use Rattle.std.specs.FinMap.Entries.{is_sorted, below_all}
use Rattle.cp_path.specs.Text.{text_cmp, text_eq}
use Rattle.cp_path.specs.Place.{Label, Path, path_cmp, path_eq}
use Rattle.cp_spelling.specs.Reading.{any_long}
use Rattle.cp_spelling.specs.Laws.{IsValueWithin}
use Rattle.cp_path.specs.declared.value.Value.{Value}
use Rattle.cp_path.specs.declared.value.Value.TheVariants as value
use Rattle.cp_model.specs.Place.{or_else}
use Rattle.cp_path.proofs.Same.{text_eq-same, path_eq-same}
use Rattle.cp_model.specs.Keyed.{look}
use Rattle.cp_model.specs.History.{IsLiteral}
use Rattle.cp_model.proofs.Rooted.{AreRows, rows-literal}
use Rattle.cp_model.proofs.Sorted.{path_cmp-append, parts_of, all_of}
use Rattle.cp_model.proofs.Lookups.{or_none, find-from_entries}
use Rattle.cp_model.specs.Literals.{literal_rows, rows_under}
use Rattle.cp_model.specs.declared.row.Content.{Content}
use Rattle.cp_model.specs.declared.row.Content.TheVariants.{Node, Leaf}
use Rattle.cp_model.specs.declared.literal.Literal.{Literal}
use Rattle.cp_model.specs.declared.literal.Literal.TheVariants as literal
use Rattle.cp_lang.specs.Grammar.{Edges, rows_of_edges, node, has_edge}
use Rattle.cp_model.specs.Tree.{text_bytes, IsNumber, CanBeSpelled, last_bytes}
use Rattle.cp_lang.specs.Printer.{AreShort, IsShortTree}
use Rattle.cp_lang.specs.Printed.{Rows}
use Rattle.cp_lang.proofs.Layers.{NoRoot, less-apart, look-same, look-other}

-- ---- a literal below so many labels

-- rows whose labels and numbers are within their limits, where so many labels lead to their root, and at most 63 to each
abbrev pub AreDeep : ℕ → Rows → Type 0
AreDeep k [] = ⊤
AreDeep k (r ∷ rows) = (length r.0 + k ≤ 63) × (any_long r.0 ≡ false) × IsNumber r.1 × AreDeep k rows

-- a literal below so many labels
pub record IsBelow (k : ℕ) (t : Literal) : Type 0 where
  pub written : IsLiteral (literal_rows t)
  pub deep : AreDeep k (literal_rows t)

-- the label comes after none of them
abbrev pub Precedes : Label → Edges → Type 0
Precedes a [] = ⊤
Precedes a (e ∷ es) = (text_cmp a e.0 ≡ Less) × Precedes a es

-- edges that rise, to literals below one label more than this
abbrev pub AreEdges : ℕ → Edges → Type 0
AreEdges k [] = ⊤
AreEdges k (e ∷ es) = (length e.0 ≤ LABEL_MAX) × IsBelow (suc k) e.1 × Precedes e.0 es × AreEdges k es

-- ---- their order

all-below : (k : Path) (a : Label) (p : Path) (b : Label) → text_cmp a b ≡ Less → (q : Path) → T (is_lt (path_cmp (a ∷ p) (b ∷ q)))
all-below k a p b e q = subst (λ o. T (is_lt (ordering_then o (path_cmp p q)))) (sym e) tt

below-later : (a : Label) (p : Path) (b : Label) (rs more : Rows) → text_cmp a b ≡ Less → T (below_all path_cmp (a ∷ p) more) → T (below_all path_cmp (a ∷ p) (rows_under b rs ++ more))
below-later a p b [] more e h = h
below-later a p b (r ∷ rs) more e h =
    all_of (is_lt (path_cmp (a ∷ p) (b ∷ r.0))) (below_all path_cmp (a ∷ p) (rows_under b rs ++ more)) (all-below [] a p b e r.0) (below-later a p b rs more e h)

below-edges : (a : Label) (p : Path) (es : Edges) → Precedes a es → T (below_all path_cmp (a ∷ p) (rows_of_edges es))
below-edges a p [] h = tt
below-edges a p (e ∷ es) h = below-later a p e.0 (literal_rows e.1) (rows_of_edges es) h.0 (below-edges a p es h.1)

below-front : (a : Label) (k : Path) (rs more : Rows) → T (below_all path_cmp k rs) → T (below_all path_cmp (a ∷ k) more) → T (below_all path_cmp (a ∷ k) (rows_under a rs ++ more))
below-front a k [] more h m = m
below-front a k (r ∷ rs) more h m =
    let parts = parts_of (is_lt (path_cmp k r.0)) (below_all path_cmp k rs) h in
    all_of (is_lt (path_cmp (a ∷ k) (a ∷ r.0))) (below_all path_cmp (a ∷ k) (rows_under a rs ++ more)) (subst (λ o. T (is_lt o)) (sym (path_cmp-append (a ∷ []) k r.0)) parts.0) (below-front a k rs more parts.1 m)

sorted-front : (a : Label) (rs : Rows) (es : Edges) → Precedes a es → T (is_sorted path_cmp rs) → T (is_sorted path_cmp (rows_of_edges es)) → T (is_sorted path_cmp (rows_under a rs ++ rows_of_edges es))
sorted-front a [] es n h m = m
sorted-front a (r ∷ rs) es n h m =
    let parts = parts_of (below_all path_cmp r.0 rs) (is_sorted path_cmp rs) h in
    all_of (below_all path_cmp (a ∷ r.0) (rows_under a rs ++ rows_of_edges es)) (is_sorted path_cmp (rows_under a rs ++ rows_of_edges es))
    (below-front a r.0 rs (rows_of_edges es) parts.0 (below-edges a r.0 es n)) (sorted-front a rs es n parts.1 m)

sorted-edges : (k : ℕ) (es : Edges) → AreEdges k es → T (is_sorted path_cmp (rows_of_edges es))
sorted-edges k [] h = tt
sorted-edges k (e ∷ es) h = sorted-front e.0 (literal_rows e.1) es h.2 h.1.written.sorted (sorted-edges k es h.3)

no_root-under : (a : Label) (rs more : Rows) → NoRoot more → NoRoot (rows_under a rs ++ more)
no_root-under a [] more h = h
no_root-under a (r ∷ rs) more h = no_root-under a rs more h

no_root-edges : (es : Edges) → NoRoot (rows_of_edges es)
no_root-edges [] = tt
no_root-edges (e ∷ es) = no_root-under e.0 (literal_rows e.1) (rows_of_edges es) (no_root-edges es)

-- ---- what stands below them

look-edges-none : (a : Label) (q : Path) (es : Edges) → Precedes a es → look (a ∷ q) (rows_of_edges es) ≡ None
look-edges-none a q [] h = refl
look-edges-none a q (e ∷ es) h = look-other e.0 a q (literal_rows e.1) (rows_of_edges es) (less-apart a e.0 h.0) ∙ look-edges-none a q es h.1

look-first : (e : Label × Literal) (q : Path) (es : Edges) → Precedes e.0 es → look (e.0 ∷ q) (rows_of_edges (e ∷ es)) ≡ look q (literal_rows e.1)
look-first e q es h = look-same e.0 q (literal_rows e.1) (rows_of_edges es) ∙ ap (or_else (look q (literal_rows e.1))) (look-edges-none e.0 q es h) ∙ or_none (look q (literal_rows e.1))

parents-edges : (k : ℕ) (es : Edges) → AreEdges k es → (b : Label) (r : Path) (c : Label) → is_some (look (b ∷ r ++ c ∷ []) (rows_of_edges es)) ≡ true → look (b ∷ r) (rows_of_edges es) ≡ Some Node
parents-edges k [] h b r c i = absurd (cc)
parents-edges k (e ∷ es) h b r c i = by (parents-edges k es h.3 b r c) (text_eq b e.0) refl
  where
    first : b ≡ e.0 → look (b ∷ r) (rows_of_edges (e ∷ es)) ≡ Some Node
    first s =
        let there : is_some (look (r ++ c ∷ []) (literal_rows e.1)) ≡ true = ap is_some (sym (look-first e (r ++ c ∷ []) es h.2) ∙ ap (λ l. look (l ∷ r ++ c ∷ []) (rows_of_edges (e ∷ es))) (sym s)) ∙ i in
        ap (λ l. look (l ∷ r) (rows_of_edges (e ∷ es))) s ∙ look-first e r es h.2 ∙ (rows-literal (literal_rows e.1) h.1.written).parents r c there

    by : (is_some (look (b ∷ r ++ c ∷ []) (rows_of_edges es)) ≡ true → look (b ∷ r) (rows_of_edges es) ≡ Some Node) → (t : Bool) → text_eq b e.0 ≡ t → look (b ∷ r) (rows_of_edges (e ∷ es)) ≡ Some Node
    by later true s = first (text_eq-same b e.0 s)
    by later false n =
        look-other e.0 b r (literal_rows e.1) (rows_of_edges es) n
        ∙ later (ap is_some (sym (look-other e.0 b (r ++ c ∷ []) (literal_rows e.1) (rows_of_edges es) n)) ∙ i)

texts-edges : (k : ℕ) (es : Edges) → AreEdges k es → (b : Label) (r : Path) (c : Content) → look (b ∷ r) (rows_of_edges es) ≡ Some c → text_bytes c ≤ TEXT_MAX
texts-edges k [] h b r c i = absurd (cc)
texts-edges k (e ∷ es) h b r c i = by (texts-edges k es h.3 b r c) (text_eq b e.0) refl
  where
    by : (look (b ∷ r) (rows_of_edges es) ≡ Some c → text_bytes c ≤ TEXT_MAX) → (t : Bool) → text_eq b e.0 ≡ t → text_bytes c ≤ TEXT_MAX
    by later true s = h.1.written.texts r c (sym (look-first e r es h.2) ∙ ap (λ l. look (l ∷ r) (rows_of_edges (e ∷ es))) (sym (text_eq-same b e.0 s)) ∙ i)
    by later false n = later (sym (look-other e.0 b r (literal_rows e.1) (rows_of_edges es) n) ∙ i)

same_content : (c d : Content) → Some c ≡ Some d → c ≡ d
same_content c d e = cc

-- ---- limits

deep-append : (k : ℕ) (xs ys : Rows) → AreDeep k xs → AreDeep k ys → AreDeep k (xs ++ ys)
deep-append k [] ys h m = m
deep-append k (x ∷ xs) ys h m = (h.0, h.1, h.2, deep-append k xs ys h.3 m)

deep-under : (k : ℕ) (a : Label) (rs : Rows) → length a ≤ LABEL_MAX → AreDeep (suc k) rs → AreDeep k (rows_under a rs)
deep-under k a [] l h = tt
deep-under k a (r ∷ rs) l h =
    (omega (arith, h.0), ap (λ b. b || any_long r.0) (le-ltb LABEL_MAX (length a) l) ∙ h.1, h.2, deep-under k a rs l h.3)

deep-edges : (k : ℕ) (es : Edges) → AreEdges k es → AreDeep k (rows_of_edges es)
deep-edges k [] h = tt
deep-edges k (e ∷ es) h = deep-append k (rows_under e.0 (literal_rows e.1)) (rows_of_edges es) (deep-under k e.0 (literal_rows e.1) h.0 h.1.deep) (deep-edges k es h.3)

short_last : (p : Path) → any_long p ≡ false → last_bytes p ≤ LABEL_MAX
short_last [] h = omega arith
short_last (a ∷ []) h = ltb-false LABEL_MAX (length a) (or_parts (nat_lt LABEL_MAX (length a)) false h).0
short_last (a ∷ b ∷ p) h = short_last (b ∷ p) (or_parts (nat_lt LABEL_MAX (length a)) (any_long (b ∷ p)) h).1

-- such rows can be spelled
deep-spelled : (k : ℕ) (rows : Rows) → AreDeep k rows → (r : Path) (c : Content) → look r rows ≡ Some c → CanBeSpelled r c
deep-spelled k [] h r c e = absurd (cc)
deep-spelled k (x ∷ rows) h r c e =
    elim (path_eq r x.0) as (λ b. path_eq r x.0 ≡ b → cond b (Some x.1) (look r rows) ≡ Some c → CanBeSpelled r c) [
      | true ↦ λ s e. (let same : x.1 ≡ c = cc in record { label = omega (arith, ap last_bytes (path_eq-same r x.0 s), short_last x.0 h.1); number = subst IsNumber same h.2 })
      | false ↦ λ _ e. deep-spelled k rows h.3 r c e
    ] refl e

-- ---- nodes and leaves

-- rows of a whole tree in order are those of a literal
literal-rows : (es : Rows) → T (is_sorted path_cmp es) → AreRows es → IsLiteral es
literal-rows es s h = record {
  sorted = s;
  rooted = record {
    root = ap is_some (find-from_entries es []) ∙ h.root;
    parents = λ r a i. find-from_entries es r ∙ h.parents r a (ap is_some (sym (find-from_entries es (r ++ a ∷ []))) ∙ i);
  };
  texts = h.texts;
  spelled = h.spelled;
}

node-written : (k : ℕ) (es : Edges) → AreEdges k es → IsLiteral (literal_rows (node es))
node-written k es h = literal-rows (([], Node) ∷ rows_of_edges es)
    (all_of (below_all path_cmp [] (rows_of_edges es)) (is_sorted path_cmp (rows_of_edges es)) (no_root-edges es) (sorted-edges k es h))
    (record { root = refl; parents = parents; texts = texts; spelled = spelled })
  where
    parents : (r : Path) (a : Label) → is_some (look (r ++ a ∷ []) (([], Node) ∷ rows_of_edges es)) ≡ true → look r (([], Node) ∷ rows_of_edges es) ≡ Some Node
    parents [] a i = refl
    parents (b ∷ r) a i = parents-edges k es h b r a i

    texts : (r : Path) (c : Content) → look r (([], Node) ∷ rows_of_edges es) ≡ Some c → text_bytes c ≤ TEXT_MAX
    texts [] c e = subst (λ d. text_bytes d ≤ TEXT_MAX) (same_content Node c e) (omega arith)
    texts (b ∷ r) c e = texts-edges k es h b r c e

    spelled : (r : Path) (c : Content) → look r (([], Node) ∷ rows_of_edges es) ≡ Some c → CanBeSpelled r c
    spelled [] c e = record { label = omega arith; number = subst IsNumber (same_content Node c e) tt }
    spelled (b ∷ r) c e = deep-spelled k (rows_of_edges es) (deep-edges k es h) (b ∷ r) c e

-- a node of edges within their limits is within its own
pub node-below : (k : ℕ) (es : Edges) → k ≤ 63 → AreEdges k es → IsBelow k (node es)
node-below k es l h = record { written = node-written k es h; deep = (omega (arith, l), refl, tt, deep-edges k es h) }

-- a value within its limits is a literal within them
pub leaf-below : (k : ℕ) (v : Value) → k ≤ 63 → IsValueWithin v → IsBelow k (literal.Leaf v)
leaf-below k v l h = record {
  written = literal-rows (([], Leaf v) ∷ []) tt (record { root = refl; parents = parents; texts = texts; spelled = spelled });
  deep = (omega (arith, l), refl, number v h, tt);
}
  where
    parents : (r : Path) (a : Label) → is_some (look (r ++ a ∷ []) (([], Leaf v) ∷ [])) ≡ true → look r (([], Leaf v) ∷ []) ≡ Some Node
    parents [] a i = absurd (cc)
    parents (b ∷ r) a i = absurd (cc)

    bytes : (v : Value) → IsValueWithin v → text_bytes (Leaf v) ≤ TEXT_MAX
    bytes value.Null h = omega arith
    bytes value.False h = omega arith
    bytes value.True h = omega arith
    bytes (value.Whole n) h = omega arith
    bytes (value.Text t) h = h

    texts : (r : Path) (c : Content) → look r (([], Leaf v) ∷ []) ≡ Some c → text_bytes c ≤ TEXT_MAX
    texts [] c e = subst (λ d. text_bytes d ≤ TEXT_MAX) (same_content (Leaf v) c e) (bytes v h)
    texts (b ∷ r) c e = absurd (cc)

    number : (v : Value) → IsValueWithin v → IsNumber (Leaf v)
    number value.Null h = tt
    number value.False h = tt
    number value.True h = tt
    number (value.Whole n) h = h
    number (value.Text t) h = tt

    spelled : (r : Path) (c : Content) → look r (([], Leaf v) ∷ []) ≡ Some c → CanBeSpelled r c
    spelled [] c e = record { label = omega arith; number = subst IsNumber (same_content (Leaf v) c e) (number v h) }
    spelled (b ∷ r) c e = absurd (cc)

short-deep : (rows : Rows) → AreDeep 0 rows → AreShort 63 rows
short-deep [] h = tt
short-deep (r ∷ rows) h = (omega (arith, h.0), h.1, h.2, short-deep rows h.3)

-- a literal below no label is one that a statement spells
pub short-below : (t : Literal) → IsBelow 0 t → IsShortTree t
short-below t h = (h.written, short-deep (literal_rows t) h.deep)

-- ---- one edge more

precedes-later : (a b : Label) (es : Edges) → text_cmp a b ≡ Less → Precedes b es → Precedes a es
precedes-later a b [] l h = tt
precedes-later a b (e ∷ es) l h = (nat_list_cmp_total.trans a b e.0 l h.0, precedes-later a b es l h.1)

precedes-insert : (b a : Label) (t : Literal) (es : Edges) → Precedes b es → text_cmp b a ≡ Less → Precedes b (insert_entry text_cmp es a t)
precedes-insert b a t [] h l = (l, tt)
precedes-insert b a t (e ∷ es) h l =
    elim (text_cmp a e.0) as (λ o. Precedes b (match_ordering o ((a, t) ∷ e ∷ es) ((e.0, t) ∷ es) (e ∷ insert_entry text_cmp es a t))) [
      | Less ↦ (l, h)
      | Equal ↦ h
      | Greater ↦ (h.0, precedes-insert b a t es h.1 l)
    ]

-- an edge of another label in its place
pub edges-insert : (k : ℕ) (a : Label) (t : Literal) (es : Edges) → length a ≤ LABEL_MAX → IsBelow (suc k) t → has_edge a es ≡ false → AreEdges k es → AreEdges k (insert_entry text_cmp es a t)
edges-insert k a t [] l b n h = (l, b, tt, tt)
edges-insert k a t (e ∷ es) l b n h = by (edges-insert k a t es l b (or_parts (text_eq a e.0) (has_edge a es) n).1 h.3) (text_cmp a e.0) refl
  where
    by : AreEdges k (insert_entry text_cmp es a t) → (o : Ordering) → text_cmp a e.0 ≡ o → AreEdges k (match_ordering o ((a, t) ∷ e ∷ es) ((e.0, t) ∷ es) (e ∷ insert_entry text_cmp es a t))
    by later Less o = (l, b, (o, precedes-later a e.0 es o h.2), h)
    by later Equal o =
        let same : text_eq a e.0 ≡ true = texts_ties a e.0 ∙ ap is_eq o in
        let other = (or_parts (text_eq a e.0) (has_edge a es) n).0 in absurd (cc)
    by later Greater o = (h.0, h.1, precedes-insert e.0 a t es h.2 (nat_list_cmp_total.antisymm e.0 a ∙ ap ordering_reverse o), later)
