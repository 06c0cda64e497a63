-- Rows as they are noted, place by place.
use Rattle.cp_path.specs.declared.limits.TheConstants.{LABELS_MAX, LOC_MAX}
use Rattle.std.specs.Prelude.{ℕ, zero, suc, ◌+◌, ◌≡◌, ◌<◌, ◌≤◌, Bool, true, false, cond, not, ◌&&◌, ◌||◌, List, [], ◌∷◌, ◌++◌, map, length, is_some, nat_lt, refl}
use Rattle.std.proofs.Common.{sym, ap, ◌∙◌, append_assoc, arith, get_or, take}
use Rattle.std.proofs.lemmas.Bool.Decides.{nat_tests}
use Rattle.std.proofs.lemmas.List.Folds.{list_any_more}
use Rattle.std.specs.List.{list_any}
use Rattle.std.specs.Global.{Vec}
use Rattle.std.specs.Option.{MatchOption, IfSome, IfNone}
use Rattle.std.specs.declared.option.Option.{Option}
use Rattle.std.specs.declared.option.Option.TheVariants.{None, Some}
use Rattle.cp_path.proofs.Same.{path_eq-same}
use Rattle.cp_path.specs.PathOrder.{path_eq_equiv}
use Rattle.cp_model.specs.declared.row.Content.{Content}
use Rattle.cp_model.specs.declared.row.Row.{Row}
use Rattle.cp_model.specs.declared.origin.Origin.{Origin}
use Rattle.cp_model.specs.declared.record.RowMark.{RowMark as Mark}
use Rattle.cp_model.specs.declared.record.RowMark.TheVariants.{Made as I, Copied as C}
use Rattle.cp_model.specs.declared.effect.Effect.{Effect}
use Rattle.cp_model.specs.declared.effect.Effect.TheVariants.{Same as same, New as made, From as from}
use Rattle.cp_path.specs.declared.loc.Loc.{Loc}
use Rattle.cp_model.specs.Place.{Path, Label, path_eq, strip, starts_with, nearest, parent, or_else, with_rest}
use Rattle.cp_model.specs.Closed.{Closed}
use Rattle.cp_model.specs.Keyed as keyed
use Rattle.cp_model.specs.Keyed.{look}
use Rattle.cp_model.specs.Laws.{at_rest_or}
use Rattle.cp_model.specs.Subtrees.{is_there, below, entries_under}
use Rattle.cp_model.specs.Tree.{Tree, IsTree}
use Rattle.cp_model.specs.Rows.{effect, full_mark}
use Rattle.cp_model.specs.Rows.{limited}
use Rattle.cp_model.proofs.Kept.{closed-tree}
use Rattle.cp_model.proofs.Passing.{and_both, or_true}
use Rattle.cp_model.proofs.Lookups.{find-moved, find-below, starts_with-strip}
use Rattle.cp_model.proofs.Strips.{strip_is, strip-append, append-nil, path_ind, nearest-snoc, further, parent-snoc}
use Rattle.cp_tree.specs.Rows.{entry_row}
use Rattle.cp_overlay.specs.Kept.{Kept, Origins, origin_at}
use Rattle.cp_overlay.specs.Shown.{OriginMap, shown, joined, kept}
use Rattle.cp_overlay.specs.Net.{mark_kept, noted, none_kept, is_topmost, is_within}
use Rattle.cp_overlay.proofs.EffectLemmas.{told-none}

-- ---- one row after another

-- with nothing to be noted, nothing changes
pub noted-none : (b : Bool) (o : Option Mark) → noted b None o ≡ o
noted-none true o = refl
noted-none false o = refl

-- noted by one test and then by another is noted where either passes
pub noted-both : (b c : Bool) (m o : Option Mark) → noted c m (noted b m o) ≡ noted (b || c) m o
noted-both true true (Some m) o = refl
noted-both true true None o = refl
noted-both true false m o = refl
noted-both false c m o = refl

-- what is left to note after the first
pub noted-first : (b c : Bool) (m o n z : Option Mark) → n ≡ noted b m o → noted (b || c) m o ≡ z → noted c m n ≡ z
noted-first b c m o n z e f = ap (noted c m) e ∙ noted-both b c m o ∙ f

-- where a first test fails, nothing is noted
pub noted-not : (b c : Bool) (m o : Option Mark) → b ≡ false → o ≡ noted (b && c) m o
noted-not b c m o e = ap (λ b. noted (b && c) m o) (sym e)

-- where it passes, what is noted is by the second
pub noted-then : (b c : Bool) (m o n : Option Mark) → b ≡ true → n ≡ noted c m o → n ≡ noted (b && c) m o
noted-then b c m o n e h = h ∙ ap (λ b. noted (b && c) m o) (sym e)

-- ---- what lies below a place

module _ {X : Type 0} where
  -- below a place that isn't there nothing is there
  pub none-below : (f : Path → Option X) → Closed f → (p s : Path) → is_some (f p) ≡ false → is_some (f (p ++ s)) ≡ false
  none-below f h p s n = path_ind (λ s. is_some (f (p ++ s)) ≡ false) (ap (λ q. is_some (f q)) (append-nil p) ∙ n) (λ r a i. more r a i (is_some (f (p ++ (r ++ a ∷ [])))) refl) s
    where
      more : (r : Path) (a : Label) → is_some (f (p ++ r)) ≡ false → (b : Bool) → is_some (f (p ++ (r ++ a ∷ []))) ≡ b → b ≡ false
      more r a i false e = refl
      more r a i true e = let t : is_some (f (p ++ r)) ≡ true = h.parents (p ++ r) a (ap (λ q. is_some (f q)) (append_assoc p r (a ∷ [])) ∙ e) in absurd (cc)

-- r lies at or below p where s follows p in it
within-of : (t : Tree) (p r : Path) (o : Option Path) → strip p r ≡ o → is_within t p r ≡ (is_some o && is_there t r)
unfolding is_within
within-of t p r o e = ap (λ b. b && is_there t r) (starts_with-strip r p ∙ ap is_some e)

-- a place that is there lies within each place above it
pub within-there : (t : Tree) (p s : Path) → is_there t (p ++ s) ≡ true → is_within t p (p ++ s) ≡ true
within-there t p s h = within-of t p (p ++ s) (Some s) (strip-append p s) ∙ h

-- what lies within a place is there
pub within-is_there : (t : Tree) (p r : Path) → is_within t p r ≡ true → is_there t r ≡ true
unfolding is_within
within-is_there t p r h = second (starts_with r p) (is_there t r) h
  where
    second : (a b : Bool) → (a && b) ≡ true → b ≡ true
    second true b e = e
    second false b e = absurd (cc)

-- what lies within a place goes on from it
pub within-rest : (t : Tree) (p r : Path) → is_within t p r ≡ true → (s : Path) × (r ≡ p ++ s)
within-rest t p r h =
    elim (strip p r) as (λ o. strip p r ≡ o → (s : Path) × (r ≡ p ++ s)) [
      | None ↦ λ e. let n = within-of t p r None e in absurd (cc)
      | Some s ↦ λ e. (s, strip_is p r s e)
    ] refl

-- nothing lies within a place that isn't there
pub within-none : (t : Tree) (p r : Path) → IsTree t → is_there t p ≡ false → is_within t p r ≡ false
within-none t p r h n =
    elim (is_within t p r) as (λ b. is_within t p r ≡ b → b ≡ false) [
      | false ↦ λ _. refl
      | true ↦ λ e. let s = within-rest t p r e in let i = none-below (keyed.get t) (closed-tree t h.rooted) p s.0 n in let j = within-is_there t p r e in absurd (cc (ap (is_there t) s.1))
    ] refl

-- the labels of a place of a tree aren't too many
pub few-labels : (t : Tree) (p : Path) → IsTree t → is_there t p ≡ true → length p ≤ LABELS_MAX
few-labels t p h i = few (length p) (nat_lt LOC_MAX _) (h.places p i)
  where
    few : (n : ℕ) (b : Bool) → (nat_lt LABELS_MAX n || b) ≡ false → n ≤ LABELS_MAX
    few n b e = grind (arith, nat_tests)

-- a place with too many labels isn't there, and nothing is below it
pub within-deep : (t : Tree) (p r : Path) → IsTree t → LABELS_MAX < length p → is_within t p r ≡ false
within-deep t p r h d =
    within-none t p r h (elim (is_there t p) as (λ b. is_there t p ≡ b → b ≡ false) [
      | false ↦ λ _. refl
      | true ↦ λ e. let f = few-labels t p h e in absurd (omega arith)
    ] refl)

-- ---- the rows of a subtree

-- r is the place of one of these rows below p
abbrev pub any_row : Path → Path → List Row → Bool
any_row p r rows = list_any (λ row. path_eq r (p ++ row.path)) rows

some-cond : {X : Type 0} (b : Bool) (x : X) (o : Option X) → (b || is_some o) ≡ is_some (cond b (Some x) o)
some-cond true x o = refl
some-cond false x o = refl

-- and so do the entries moved below p
any-under : (p r : Path) (es : List (Path × Content)) → any_row p r (map entry_row es) ≡ is_some (look r (entries_under p es))
unfolding entries_under
any-under p r [] = refl
any-under p r (e ∷ es) = ap (λ b. path_eq r (p ++ e.0) || b) (any-under p r es) ∙ some-cond (path_eq r (p ++ e.0)) e.1 (look r (map (λ e. (p ++ e.0, e.1)) es))

-- the rows of a subtree have each place within it
pub any-within : (t : Tree) (p r : Path) → any_row p r (map entry_row (below p t)) ≡ is_within t p r
any-within t p r =
    any-under p r (below p t) ∙ ap is_some (find-moved p r (below p t))
    ∙ elim (strip p r) as (λ o. strip p r ≡ o → is_some (at_rest_or o (λ s. look s (below p t)) None) ≡ is_within t p r) [
      | None ↦ λ e. sym (within-of t p r None e)
      | Some s ↦ λ e. ap is_some (find-below p s t) ∙ ap (is_there t) (sym (strip_is p r s e)) ∙ sym (within-of t p r (Some s) e)
    ] refl

-- one that passes is among those that do
any-at : {A : Type 0} (f : A → Bool) (xs : List A) (i : ℕ) (x : A) → i < length xs → x ≡ get_or xs i x → f x ≡ true → list_any f xs ≡ true
any-at f [] i x h e k = absurd (omega arith)
any-at f (y ∷ xs) zero x h e k = ap (λ b. b || list_any f xs) (ap f (sym e) ∙ k)
any-at f (y ∷ xs) (suc i) x h e k = or_true (f y) (list_any f xs) (any-at f xs i x (omega arith) e k)

-- the place of a row of a subtree is there
pub row-there : (t : Tree) (p : Path) (rows : List Row) (i : ℕ) (x : Row) → rows ≡ map entry_row (below p t) → i < length rows → x ≡ get_or rows i x → is_there t (p ++ x.path) ≡ true
row-there t p rows i x e h g =
    within-is_there t p (p ++ x.path) (sym (any-within t p (p ++ x.path)) ∙ ap (any_row p (p ++ x.path)) (sym e) ∙ any-at (λ (row : Row). path_eq (p ++ x.path) (p ++ row.path)) rows i x h g (path_eq_equiv.refl (p ++ x.path)))

-- one row more
pub row-more : (p r : Path) (rows : List Row) (i : ℕ) (x : Row) (m o n z : Option Mark) → i < length rows → x ≡ get_or rows i x → z ≡ noted (path_eq r (p ++ x.path)) m n → n ≡ noted (any_row p r (take i rows)) m o → z ≡ noted (any_row p r (take (i + 1) rows)) m o
row-more p r rows i x m o n z h g e f =
    e ∙ ap (noted (path_eq r (p ++ x.path)) m) f ∙ noted-both (any_row p r (take i rows)) (path_eq r (p ++ x.path)) m o
    ∙ ap (λ (y : Row). noted (any_row p r (take i rows) || path_eq r (p ++ y.path)) m o) g
    ∙ ap (λ b. noted b m o) (sym (list_any_more (λ (row : Row). path_eq r (p ++ row.path)) rows i x h))

-- all rows of a subtree
pub row-all : (t : Tree) (p q k r : Path) (rows : List Row) (i : ℕ) (m o n : Option Mark) → rows ≡ map entry_row (below q t) → p ≡ q → q ≡ k → take i rows ≡ rows → n ≡ noted (any_row p r (take i rows)) m o → n ≡ noted (is_within t k r) m o
row-all t p q k r rows i m o n e d h a f =
    f ∙ ap (λ rs. noted (any_row p r rs) m o) (a ∙ e) ∙ ap (λ p. noted (any_row p r (map entry_row (below q t))) m o) d ∙ ap (λ b. noted b m o) (any-within t q r) ∙ ap (λ q. noted (is_within t q r) m o) h

-- ---- topmost places

-- what is nearest to a place lies at or below a topmost one
pub topmost-above : (f : Origins) (r : Path) → is_some (nearest f r) ≡ true → (q : Path) × (s : Path) × (r ≡ q ++ s) × (is_some (f q) ≡ true) × (is_topmost f q ≡ true)
unfolding is_topmost
topmost-above f = path_ind (λ r. is_some (nearest f r) ≡ true → (q : Path) × (s : Path) × (r ≡ q ++ s) × (is_some (f q) ≡ true) × (none_kept f (parent q) ≡ true))
    (λ h. ([], [], refl, sym (rests (f []) []) ∙ h, refl))
    (λ r l ih h. elim (is_some (nearest f r)) as (λ b. is_some (nearest f r) ≡ b → (q : Path) × (s : Path) × (r ++ l ∷ [] ≡ q ++ s) × (is_some (f q) ≡ true) × (none_kept f (parent q) ≡ true)) [
      | true ↦ λ e. let t = ih e in (t.0, t.1 ++ l ∷ [], ap (λ q. q ++ l ∷ []) t.2 ∙ append_assoc t.0 t.1 (l ∷ []), t.3, t.4)
      | false ↦ λ e. (r ++ l ∷ [], [], sym (append-nil (r ++ l ∷ [])), here (f (r ++ l ∷ [])) (nearest f r) l e (sym (ap is_some (nearest-snoc f r l)) ∙ h), ap (none_kept f) (parent-snoc r l) ∙ ap not e)
    ] refl)
  where
    rests : (o : Option Origin) (s : Path) → is_some (with_rest o s) ≡ is_some o
    rests None s = refl
    rests (Some x) s = refl

    here : (o : Option Origin) (n : Option (Origin × Path)) (l : Label) → is_some n ≡ false → is_some (or_else (with_rest o []) (further (l ∷ []) n)) ≡ true → is_some o ≡ true
    here (Some x) n l e h = refl
    here None None l e h = h
    here None (Some x) l e h = absurd (cc)

-- whether nothing is kept above, by the labels above
pub topmost-snoc : (f : Origins) (p r : Path) (l : Label) → p ≡ r ++ l ∷ [] → not (is_some (nearest f r)) ≡ is_topmost f p
unfolding is_topmost
topmost-snoc f p r l e = sym (ap (λ q. none_kept f (parent q)) e ∙ ap (none_kept f) (parent-snoc r l))

-- nothing is above the root
pub topmost-root : (f : Origins) (p : Path) → length p ≡ 0 → true ≡ is_topmost f p
unfolding is_topmost
topmost-root f [] e = refl
topmost-root f (a ∷ p) e = absurd (omega arith)

-- nothing was found where nothing is near
pub none-found : {A : Type 0} (f : Origins) (r : Path) (x : Option A) (Q : A → Type 0) (b : Bool) → MatchOption x (nearest f r ≡ None) Q → ((a : A) → Q a → is_some (nearest f r) ≡ true) → is_some x ≡ not b → b ≡ not (is_some (nearest f r))
none-found f r None Q true m h e = sym (ap (λ o. not (is_some o)) m)
none-found f r None Q false m h e = absurd (cc)
none-found f r (Some a) Q true m h e = absurd (cc)
none-found f r (Some a) Q false m h e = sym (ap not (h a m))

-- ---- the subtrees of topmost keys

-- r lies within one of the topmost keys
abbrev pub any_top : Kept → Tree → Path → List (Vec Label × Option Origin) → Bool
any_top k t r es = list_any (λ e. is_topmost k.origins e.0.items && is_within t e.0.items r) es

-- a place with nothing kept near has no row
pub mark-none : (k : Kept) (p : Path) → nearest k.origins p ≡ None → mark_kept k p ≡ None
unfolding mark_kept
mark-none k p n = ap full_mark (sym (told-none k.origins p n))

-- a key that passes the test is among those that do
any-key : (g : Path → Bool) (q : Path) (es : List (Vec Label × Option Origin)) → is_some (look q (shown es)) ≡ true → g q ≡ true → list_any (λ e. g e.0.items) es ≡ true
any-key g q [] i h = absurd (cc)
any-key g q (e ∷ es) i h =
    elim (path_eq q e.0.items) as (λ b. path_eq q e.0.items ≡ b → is_some (cond b (Some e.1) (look q (shown es))) ≡ true → (g e.0.items || list_any (λ e. g e.0.items) es) ≡ true) [
      | true ↦ λ k _. ap (λ b. b || list_any (λ e. g e.0.items) es) (ap g (sym (path_eq-same q e.0.items k)) ∙ h)
      | false ↦ λ _ i. or_true (g e.0.items) (list_any (λ e. g e.0.items) es) (any-key g q es i h)
    ] refl i

-- where no path passes, no key does
none-any : (g : Path → Bool) (es : List (Vec Label × Option Origin)) → ((q : Path) → g q ≡ false) → list_any (λ e. g e.0.items) es ≡ false
none-any g [] n = refl
none-any g (e ∷ es) n = ap (λ b. b || list_any (λ e. g e.0.items) es) (n e.0.items) ∙ none-any g es n

-- what is kept has its key
key-there : (m : OriginMap) (q : Path) → is_some (kept m q) ≡ true → is_some (look q (shown m.entries)) ≡ true
unfolding kept
key-there m q h = outer (look q (shown m.entries)) h
  where
    outer : (o : Option (Option Origin)) → is_some (joined o) ≡ true → is_some o ≡ true
    outer None h = h
    outer (Some x) h = refl

-- within the topmost keys all rows are
pub tops-all : (m : OriginMap) (k : Kept) (t : Tree) (r : Path) (o : Option Mark) → k.origins ≡ kept m → noted (any_top k t r m.entries) (mark_kept k r) o ≡ noted (is_there t r) (mark_kept k r) o
tops-all m k t r o i =
    elim (nearest k.origins r) as (λ n. nearest k.origins r ≡ n → noted (any_top k t r m.entries) (mark_kept k r) o ≡ noted (is_there t r) (mark_kept k r) o) [
      | None ↦ λ n. ap (λ x. noted (any_top k t r m.entries) x o) (mark-none k r n) ∙ noted-none (any_top k t r m.entries) o ∙ sym (ap (λ x. noted (is_there t r) x o) (mark-none k r n) ∙ noted-none (is_there t r) o)
      | Some x ↦ λ n. ap (λ b. noted b (mark_kept k r) o) (by (topmost-above k.origins r (ap is_some n)) (is_there t r) refl)
    ] refl
  where
    and_false : (a b : Bool) → b ≡ false → (a && b) ≡ false
    and_false true b e = e
    and_false false b e = refl

    apart : (q : Path) → is_there t r ≡ false → is_within t q r ≡ false
    apart q e = elim (is_within t q r) as (λ b. is_within t q r ≡ b → b ≡ false) [ false ↦ λ _. refl | true ↦ λ h. let j = within-is_there t q r h in absurd (cc) ] refl

    by : (q : Path) × (s : Path) × (r ≡ q ++ s) × (is_some (k.origins q) ≡ true) × (is_topmost k.origins q ≡ true) → (b : Bool) → is_there t r ≡ b → any_top k t r m.entries ≡ b
    by x true e = any-key (λ q. is_topmost k.origins q && is_within t q r) x.0 m.entries (key-there m x.0 (ap (λ (f : Path → Option Origin). is_some (f x.0)) (sym i) ∙ x.3))
        (and_both _ _ x.4 (ap (is_within t x.0) x.2 ∙ within-there t x.0 x.1 (ap (is_there t) (sym x.2) ∙ e)))
    by x false e = none-any (λ q. is_topmost k.origins q && is_within t q r) m.entries (λ q. and_false _ _ (apart q e))

-- ---- one place

-- the row of an effect at the place that has it
pub noted-place : (k : Kept) (p r : Path) (e : Effect) (o : Option Mark) → e ≡ limited (effect p (origin_at k.origins p)) → noted (path_eq r p) (full_mark e) o ≡ noted (path_eq r p) (mark_kept k r) o
unfolding mark_kept
noted-place k p r e o h =
    elim (path_eq r p) as (λ b. path_eq r p ≡ b → noted b (full_mark e) o ≡ noted b (full_mark (limited (effect r (origin_at k.origins r)))) o) [
      | true ↦ λ i. ap (λ d. or_else (full_mark d) o) h ∙ ap (λ q. or_else (full_mark (limited (effect q (origin_at k.origins q)))) o) (sym (path_eq-same r p i))
      | false ↦ λ _. refl
    ] refl

-- a place that is the same has no row
pub noted-same : (k : Kept) (p r : Path) (o : Option Mark) → same ≡ limited (effect p (origin_at k.origins p)) → o ≡ noted (path_eq r p) (mark_kept k r) o
noted-same k p r o h = sym (noted-none (path_eq r p) o) ∙ noted-place k p r same o h

-- a place that is new has that row
pub noted-made : (k : Kept) (p r : Path) (o n : Option Mark) → made ≡ limited (effect p (origin_at k.origins p)) → n ≡ cond (path_eq r p) (Some I) o → n ≡ noted (path_eq r p) (mark_kept k r) o
noted-made k p r o n h e = e ∙ noted-place k p r made o h

-- and so with one that is from another
pub noted-from : (k : Kept) (p r : Path) (q x : Loc) (o n : Option Mark) → from q ≡ limited (effect p (origin_at k.origins p)) → x ≡ q → n ≡ cond (path_eq r p) (Some (C x)) o → n ≡ noted (path_eq r p) (mark_kept k r) o
noted-from k p r q x o n h i e = e ∙ ap (λ x. cond (path_eq r p) (Some (C x)) o) i ∙ noted-place k p r (from q) o h

-- ---- what the code finds

-- the path that was made of some labels
pub some-path : (o : Option Path) (p q : Path) → IfSome o (λ x. x ≡ q) → o ≡ Some p → p ≡ q
some-path None p q h e = absurd (cc)
some-path (Some x) p q h e = let i : x ≡ p = cc in sym i ∙ h

-- where none was made they are too many
pub none-path : (o : Option Path) (n : ℕ) → IfNone o (LABELS_MAX < n) → o ≡ None → LABELS_MAX < n
none-path None n h e = h
none-path (Some x) n h e = absurd (cc)

-- no place of a tree has too many labels
pub row-fits : (t : Tree) (q l : Path) (rows : List Row) (i : ℕ) (x : Row) → IsTree t → rows ≡ map entry_row (below q t) → i < length rows → x ≡ get_or rows i x → l ≡ x.path → length (q ++ l) ≤ LABELS_MAX
row-fits t q l rows i x h e g k s =
    let few = few-labels t (q ++ x.path) h (row-there t q rows i x e g k) in
    let same : length (q ++ l) ≡ length (q ++ x.path) = ap (λ r. length (q ++ r)) s in
    omega arith

-- a row noted at the place of the next row of a subtree
pub row-noted : (p q l r : Path) (rows : List Row) (i : ℕ) (x : Row) (place : Path) (m old mid next : Option Mark) → p ≡ q → i < length rows → x ≡ get_or rows i x → l ≡ x.path → place ≡ q ++ l →
    next ≡ noted (path_eq r place) m mid → mid ≡ noted (any_row p r (take i rows)) m old → next ≡ noted (any_row p r (take (i + 1) rows)) m old
row-noted p q l r rows i x place m old mid next d h g s z e f =
    row-more p r rows i x m old mid next h g (e ∙ ap (λ k. noted (path_eq r k) m mid) (z ∙ ap (λ k. q ++ k) s ∙ ap (λ k. k ++ x.path) (sym d))) f

-- all of a list
pub take-all : {A : Type 0} (xs : List A) (n : ℕ) → length xs ≤ n → take n xs ≡ xs
take-all [] zero h = refl
take-all [] (suc n) h = refl
take-all (x ∷ xs) zero h = absurd (omega arith)
take-all (x ∷ xs) (suc n) h = ap (λ ys. x ∷ ys) (take-all xs n (omega arith))

-- nothing is noted where nothing is within
pub noted-nothing : (t : Tree) (p q r : Path) (m o : Option Mark) → IsTree t → is_there t q ≡ false → q ≡ p → o ≡ noted (is_within t p r) m o
noted-nothing t p q r m o h n e = ap (λ b. noted b m o) (sym (within-none t p r h (ap (is_there t) (sym e) ∙ n)))

-- nor where the labels are too many
pub noted-deep : (t : Tree) (p r : Path) (m o : Option Mark) → IsTree t → LABELS_MAX < length p → o ≡ noted (is_within t p r) m o
noted-deep t p r m o h d = ap (λ b. noted b m o) (sym (within-deep t p r h d))

-- what is left to note after a key
pub tops-next : (k : Kept) (t : Tree) (r p : Path) (key : Vec Label) (x : Option Origin) (it rest : List (Vec Label × Option Origin)) (m n z next : Option Mark) → it ≡ (key, x) ∷ rest → p ≡ key.items → next ≡ noted (is_topmost k.origins p && is_within t p r) m n → noted (any_top k t r it) m n ≡ z → noted (any_top k t r rest) m next ≡ z
tops-next k t r p key x it rest m n z next i d e h =
    noted-first (is_topmost k.origins key.items && is_within t key.items r) (any_top k t r rest) m n next z
    (e ∙ ap (λ p. noted (is_topmost k.origins p && is_within t p r) m n) d) (ap (λ es. noted (any_top k t r es) m n) (sym i) ∙ h)

-- with no key left all is noted
pub tops-end : (k : Kept) (t : Tree) (r : Path) (it : List (Vec Label × Option Origin)) (m n z : Option Mark) → it ≡ [] → noted (any_top k t r it) m n ≡ z → n ≡ z
tops-end k t r it m n z i h = ap (λ es. noted (any_top k t r es) m n) (sym i) ∙ h
