-- What the touched places cover.
use Rattle.std.specs.Prelude.{ℕ, suc, ◌+◌, ◌-◌, ◌≡◌, ◌||◌, ◌⊎◌, Bool, true, false, cond, List, [], ◌∷◌, ◌++◌, length, map, take, fold, is_some, nat_lt, refl, if◌then◌else◌}
use Rattle.std.proofs.Common.{sym, ap, subst, ◌∙◌, arith, get_or, inl, inr, add-one}
use Rattle.std.proofs.lemmas.List.Folds.{list_any_kept, list_any_more}
use Rattle.std.proofs.lemmas.Option.{slice_get_within, get_or_from_slice_get}
use Rattle.std.proofs.Math.Seq.{take-suc}
use Rattle.std.specs.List.Sorted.{IsSorted}
use Rattle.std.specs.List.{AllByRecursion, slice_get}
use Rattle.std.specs.Ordering.{is_lt, is_eq, ordering_then, ordering_reverse}
use Rattle.std.specs.declared.cmp.Ordering.{Ordering}
use Rattle.std.specs.declared.cmp.Ordering.TheVariants.{Less, Equal, Greater}
use Rattle.std.specs.declared.option.Option.{Option}
use Rattle.std.specs.declared.option.Option.TheVariants.{None, Some}
use Rattle.std.specs.Cmp.Lexicographic.{nat_list_eq_equiv, nat_list_cmp_total, texts_ties}
use Rattle.cp_path.specs.PathOrder.{path_eq_equiv, path_total}
use Rattle.cp_path.specs.declared.limits.TheConstants.{LABELS_MAX}
use Rattle.cp_path.specs.Text.{text_cmp}
use Rattle.cp_path.proofs.Same.{text_eq-same, path_same}
use Rattle.cp_model.specs.Place.{Label, Path, label_eq, path_eq, path_cmp, strip, starts_with, child}
use Rattle.cp_model.specs.Keyed as keyed
use Rattle.cp_model.specs.Keyed.{look}
use Rattle.cp_model.specs.Literals.{literal_rows}
use Rattle.cp_model.specs.Laws.{at_rest_or}
use Rattle.cp_model.specs.Step.{Working, Outcome, done, refused, contents, then_op, judge_op, step, open_tree}
use Rattle.cp_model.specs.Tree.{Tree, Source, database, subtree_at, tree_after, refusal}
use Rattle.cp_model.specs.declared.op.Op.{Op}
use Rattle.cp_model.specs.declared.op.Op.TheVariants.{Ins, Del, Copy}
use Rattle.cp_model.specs.declared.refusal.Refusal.{Refusal}
use Rattle.cp_model.proofs.Contents.{contents-applied, contents-opened}
use Rattle.cp_model.proofs.Lookups.{get-without, get-replaced, starts_with-strip}
use Rattle.cp_model.proofs.Strips.{strip-append, strip-itself}
use Rattle.cp_operation.specs.Passed.{AllAccepted, tree_until}
use Rattle.cp_archive.specs.Laws.{TouchedPlacesCover}
use Rattle.cp_archive.specs.Topmost.{IsUpTo, AreInOrder, is_below_last, kept_with}
use Rattle.cp_archive.specs.Touching.{IsApart, AreApart, AreAmong, is_among, is_covered, Covers, child_within, looked_at, touched_by, AreTouched}

-- ---- prefixes

cond_true : (b c : Bool) → cond b c false ≡ true → (b ≡ true) × (c ≡ true)
cond_true true c h = (refl, h)
cond_true false c h = absurd (cc)

-- what lies below a place lies below all that the place lies below
pub below-further : (q p r : Path) → starts_with q p ≡ true → starts_with p r ≡ true → starts_with q r ≡ true
below-further q p [] a b = refl
below-further q [] (x ∷ r) a b = absurd (cc)
below-further [] (y ∷ p) (x ∷ r) a b = absurd (cc)
below-further (z ∷ q) (y ∷ p) (x ∷ r) a b =
    let first = cond_true (label_eq y z) (starts_with q p) a in
    let second = cond_true (label_eq x y) (starts_with p r) b in
    ap (λ l. cond (label_eq x l) (starts_with q r) false) (sym (text_eq-same y z first.0)) ∙ ap (λ b. cond b (starts_with q r) false) second.0 ∙ below-further q p r first.1 second.1

-- a place lies at or below itself
pub own-place : (p : Path) → starts_with p p ≡ true
own-place p = starts_with-strip p p ∙ ap is_some (strip-itself p)

or_true : (a b : Bool) → (a || b) ≡ true → (a ≡ true) ⊎ (b ≡ true)
or_true true b h = inl refl
or_true false b h = inr h

or_first : (a b : Bool) → a ≡ true → (a || b) ≡ true
or_first true b h = refl
or_first false b h = absurd (cc)

or_second : (a b : Bool) → b ≡ true → (a || b) ≡ true
or_second true b h = refl
or_second false b h = h

-- where a place is covered, what lies below it is
pub covered-below : (ps : List Path) (p q : Path) → is_covered ps p ≡ true → starts_with q p ≡ true → is_covered ps q ≡ true
covered-below [] p q h s = absurd (cc)
covered-below (r ∷ ps) p q h s = elim (or_true (starts_with p r) (is_covered ps p) h) [
  | inl a ↦ or_first (starts_with q r) (is_covered ps q) (below-further q p r s a)
  | inr a ↦ or_second (starts_with q r) (is_covered ps q) (covered-below ps p q a s)
]

pub covered-more : (ps : List Path) (k q : Path) → is_covered ps q ≡ true → is_covered (ps ++ k ∷ []) q ≡ true
covered-more [] k q h = absurd (cc)
covered-more (p ∷ ps) k q h = elim (or_true (starts_with q p) (is_covered ps q) h) [
  | inl a ↦ or_first (starts_with q p) (is_covered (ps ++ k ∷ []) q) a
  | inr a ↦ or_second (starts_with q p) (is_covered (ps ++ k ∷ []) q) (covered-more ps k q a)
]

pub covered-last : (ps : List Path) (k q : Path) → starts_with q k ≡ true → is_covered (ps ++ k ∷ []) q ≡ true
covered-last [] k q h = or_first (starts_with q k) false h
covered-last (p ∷ ps) k q h = or_second (starts_with q p) (is_covered (ps ++ k ∷ []) q) (covered-last ps k q h)

-- ---- one operation

none_below : (ps : List Path) (p q : Path) → is_covered ps p ≡ true → is_covered ps q ≡ false → strip p q ≡ None
none_below ps p q a b = elim (strip p q) as (λ o. strip p q ≡ o → o ≡ None) [
  | None ↦ λ _. refl
  | Some s ↦ λ e. absurd (let c = covered-below ps p q a (starts_with-strip q p ∙ ap is_some e) in cc)
] refl

-- an operation changes nothing but at and below the place that it touches
pub one-covers : (ss : List Source) (t : Tree) (op : Op) (ps : List Path) → is_covered ps (touched_by op) ≡ true → Covers ps t (tree_after ss t op)
unfolding tree_after
one-covers ss t (Ins p a l) ps h q n = get-replaced (child p.path a) (literal_rows l) t q ∙ ap (λ o. at_rest_or o (λ s. look s (literal_rows l)) (keyed.get t q)) (none_below ps (child p.path a) q h n)
one-covers ss t (Del a p) ps h q n = get-without (child p.path a) t q ∙ ap (λ o. at_rest_or o (λ _. None) (keyed.get t q)) (none_below ps (child p.path a) q h n)
one-covers ss t (Copy r p) ps h q n = get-replaced p.path (subtree_at (database ss t r) r.path) t q ∙ ap (λ o. at_rest_or o (λ s. look s (subtree_at (database ss t r) r.path)) (keyed.get t q)) (none_below ps p.path q h n)

-- ---- a step

abbrev IsCoveredFrom : List Path → Tree → Outcome → Type 0
IsCoveredFrom ps t (done k w) = Covers ps t (contents w)
IsCoveredFrom ps t (refused n r) = Unit {0}

judged : (ps : List Path) (t : Tree) (ss : List Source) (k : ℕ) (w : Working) (op : Op) (o : Option Refusal) → is_covered ps (touched_by op) ≡ true → Covers ps t (contents w) → IsCoveredFrom ps t (judge_op ss k w op o)
judged ps t ss k w op None h c = λ q n. ap (λ u. keyed.get u q) (contents-applied ss w op) ∙ one-covers ss (contents w) op ps h q n ∙ c q n
judged ps t ss k w op (Some r) h c = tt

all-covered : (ps : List Path) (t : Tree) (ss : List Source) (ops : List Op) (o : Outcome) → AreTouched ops ps → IsCoveredFrom ps t o → IsCoveredFrom ps t (fold (then_op ss) o ops)
unfolding then_op
all-covered ps t ss [] o h c = c
all-covered ps t ss (op ∷ ops) (done k w) h c = all-covered ps t ss ops (judge_op ss k w op (refusal ss (contents w) op)) h.1 (judged ps t ss k w op (refusal ss (contents w) op) h.0 c)
all-covered ps t ss (op ∷ ops) (refused n r) h c = all-covered ps t ss ops (refused n r) h.1 tt

pub touched-places-cover : TouchedPlacesCover
unfolding step
touched-places-cover t ss ops k w ps e h =
    subst (IsCoveredFrom ps t) e (all-covered ps t ss ops (done 0 (open_tree t)) h (λ q n. ap (λ u. keyed.get u q) (contents-opened t)))

-- ---- places in order

text_less : (o : Ordering) → is_lt o ≡ false → is_lt (ordering_reverse o) ≡ false → o ≡ Equal
text_less Less a b = absurd (cc)
text_less Equal a b = refl
text_less Greater a b = absurd (cc)

then_not_less : (o p : Ordering) → is_lt (ordering_then o p) ≡ false → is_lt o ≡ false
then_not_less Less p h = h
then_not_less Equal p h = refl
then_not_less Greater p h = refl

then_equal : (o p : Ordering) → o ≡ Equal → is_lt (ordering_then o p) ≡ false → is_lt p ≡ false
then_equal o p e h = ap (λ q. is_lt (ordering_then q p)) (sym e) ∙ h

label_equal : (a b : Label) → text_cmp a b ≡ Equal → label_eq a b ≡ true
label_equal a b e = texts_ties a b ∙ ap is_eq e

label_own : (a b : Label) → label_eq a b ≡ true → text_cmp a b ≡ Equal
label_own a b e = equal (text_cmp a b) (sym (texts_ties a b) ∙ e)
  where
    equal : (o : Ordering) → is_eq o ≡ true → o ≡ Equal
    equal Less h = absurd (cc)
    equal Equal h = refl
    equal Greater h = absurd (cc)

-- what lies in order between a place and one below it lies below it too
pub between-below : (p r q : Path) → starts_with q p ≡ true → IsUpTo p r → IsUpTo r q → starts_with r p ≡ true
between-below [] r q s a b = refl
between-below (x ∷ p) r [] s a b = absurd (cc)
between-below (x ∷ p) [] (z ∷ q) s a b = absurd (cc)
between-below (x ∷ p) (y ∷ r) (z ∷ q) s a b =
    let first = cond_true (label_eq x z) (starts_with q p) s in
    let same : x ≡ z = text_eq-same x z first.0 in
    let not_less : is_lt (text_cmp y x) ≡ false = then_not_less (text_cmp y x) (path_cmp r p) a in
    let not_more : is_lt (ordering_reverse (text_cmp y x)) ≡ false = ap is_lt (sym (nat_list_cmp_total.antisymm x y)) ∙ ap (λ l. is_lt (text_cmp l y)) same ∙ then_not_less (text_cmp z y) (path_cmp q r) b in
    let tie : text_cmp y x ≡ Equal = text_less (text_cmp y x) not_less not_more in
    let eq : y ≡ x = text_eq-same y x (label_equal y x tie) in
    let tie_z : text_cmp z y ≡ Equal = ap (λ l. text_cmp l y) (sym same) ∙ ap (λ l. text_cmp l y) (sym eq) ∙ label_own y y (nat_list_eq_equiv.refl y) in
    ap (λ c. cond c (starts_with r p) false) (ap (label_eq x) eq ∙ nat_list_eq_equiv.refl x)
    ∙ between-below p r q first.1 (then_equal (text_cmp y x) (path_cmp r p) tie a) (then_equal (text_cmp z y) (path_cmp q r) tie_z b)

-- a place that comes no later than one above it is that one
pub prefix-same : (q k : Path) → starts_with k q ≡ true → IsUpTo k q → starts_with q k ≡ true
prefix-same [] [] s h = refl
prefix-same [] (y ∷ k) s h = absurd (cc)
prefix-same (x ∷ q) [] s h = absurd (cc)
prefix-same (x ∷ q) (y ∷ k) s h =
    let first = cond_true (label_eq x y) (starts_with k q) s in
    let same : x ≡ y = text_eq-same x y first.0 in
    ap (λ c. cond c (starts_with q k) false) (ap (label_eq y) same ∙ nat_list_eq_equiv.refl y)
    ∙ prefix-same q k first.1 (then_equal (text_cmp x y) (path_cmp q k) (label_own x y first.0) h)

not_true : (b : Bool) → (b ≡ true → ⊥) → b ≡ false
not_true true h = absurd (h refl)
not_true false h = refl

is_apart : (k q : Path) → IsUpTo k q → starts_with q k ≡ false → IsApart k q
is_apart k q le n = record {
  not_below = not_true (starts_with k q) (λ s. let c = prefix-same q k s le in cc);
  not_above = n;
}

-- the first place lies apart from one that comes after all and doesn't lie below the last
far : (k q : Path) (ks : List Path) → AllByRecursion (IsApart k) ks → AllByRecursion (IsUpTo k) ks → AllByRecursion (λ l. IsUpTo l q) ks → is_below_last (k ∷ ks) q ≡ false → starts_with q k ≡ false
far k q [] a u b n = n
far k q (l ∷ ks) a u b n = not_true (starts_with q k) (λ s. let c = between-below k l q s u.0 b.0 in let d = a.0.not_above in cc)

last_rest : (k q : Path) (ks : List Path) → is_below_last (k ∷ ks) q ≡ false → is_below_last ks q ≡ false
last_rest k q [] h = refl
last_rest k q (l ∷ ks) h = h

all-more : (P : Path → Type 0) (ks : List Path) (q : Path) → AllByRecursion P ks → P q → AllByRecursion P (ks ++ q ∷ [])
all-more P [] q a h = (h, tt)
all-more P (k ∷ ks) q a h = (a.0, all-more P ks q a.1 h)

pub apart-more : (ks : List Path) (q : Path) → AreApart ks → AreInOrder ks → AllByRecursion (λ l. IsUpTo l q) ks → is_below_last ks q ≡ false → AreApart (ks ++ q ∷ [])
apart-more [] q a o b n = (tt, tt)
apart-more (k ∷ ks) q a o b n = (all-more (IsApart k) ks q a.0 (is_apart k q b.0 (far k q ks a.0 o.0 b.1 n)), apart-more ks q a.1 o.1 b.1 (last_rest k q ks n))

pub order-more : (ks : List Path) (q : Path) → AreInOrder ks → AllByRecursion (λ l. IsUpTo l q) ks → AreInOrder (ks ++ q ∷ [])
order-more [] q o b = (tt, tt)
order-more (k ∷ ks) q o b = (all-more (IsUpTo k) ks q o.0 b.0, order-more ks q o.1 b.1)

-- a place below the last is covered
pub below-last : (ks : List Path) (q : Path) → is_below_last ks q ≡ true → is_covered ks q ≡ true
below-last [] q h = absurd (cc)
below-last (k ∷ []) q h = or_first (starts_with q k) false h
below-last (k ∷ l ∷ ks) q h = or_second (starts_with q k) (is_covered (l ∷ ks) q) (below-last (l ∷ ks) q h)

-- ---- where operations are looked at

-- the place at a label, or the one above it, lies at or above the place at the label
within_above : (p : Path) (a : Label) → starts_with (child p a) (child_within p a) ≡ true
within_above p a = elim (nat_lt (length p) LABELS_MAX) as (λ b. starts_with (child p a) (if b then child p a else p) ≡ true) [
  | true ↦ own-place (child p a)
  | false ↦ starts_with-strip (child p a) p ∙ ap is_some (strip-append p (a ∷ []))
]

-- an operation is looked at at or above the place that it touches
looked_above : (op : Op) → starts_with (touched_by op) (looked_at op) ≡ true
looked_above (Ins p a l) = within_above p.path a
looked_above (Del a p) = within_above p.path a
looked_above (Copy q p) = own-place p.path

touched_front : (ops : List Op) (p : Path) (ps : List Path) → AreTouched ops ps → AreTouched ops (p ∷ ps)
touched_front [] p ps h = tt
touched_front (op ∷ ops) p ps h = (or_second (starts_with (touched_by op) p) (is_covered ps (touched_by op)) h.0, touched_front ops p ps h.1)

-- so each operation touches one of these places, or below it
pub looked-touched : (ops : List Op) → AreTouched ops (map looked_at ops)
looked-touched [] = tt
looked-touched (op ∷ ops) = (
  or_first (starts_with (touched_by op) (looked_at op)) (is_covered (map looked_at ops) (touched_by op)) (looked_above op),
  touched_front ops (looked_at op) (map looked_at ops) (looked-touched ops),
)

-- places among these are among others that have the same
pub among-same : (ps rs qs : List Path) → ((p : Path) → is_among ps p ≡ is_among rs p) → AreAmong ps qs → AreAmong rs qs
among-same ps rs [] f h = tt
among-same ps rs (q ∷ qs) f h = (sym (f q) ∙ h.0, among-same ps rs qs f h.1)

-- ---- the topmost places

not_less_trans : (p q r : Path) → IsUpTo p q → IsUpTo q r → IsUpTo p r
not_less_trans p q r a b = by (path_cmp q p) refl
  where
    by : (o : Ordering) → path_cmp q p ≡ o → is_lt (path_cmp r p) ≡ false
    by Less e = absurd (let n = a in cc)
    by Equal e = ap (λ x. is_lt (path_cmp r x)) (sym (path_same q p e)) ∙ b
    by Greater e = not_true (is_lt (path_cmp r p)) (λ l. let less = path_total.trans r p q (is_less (path_cmp r p) l) (path_total.antisymm p q ∙ ap ordering_reverse e) in let n = b in cc)
      where
        is_less : (o : Ordering) → is_lt o ≡ true → o ≡ Less
        is_less Less h = refl
        is_less Equal h = absurd (cc)
        is_less Greater h = absurd (cc)

-- what comes no later than a place comes no later than one after it
up-to-next : (p q : Path) (ks : List Path) → IsUpTo p q → AllByRecursion (λ k. IsUpTo k p) ks → AllByRecursion (λ k. IsUpTo k q) ks
up-to-next p q [] b h = tt
up-to-next p q (k ∷ ks) b h = (not_less_trans k p q h.0 b, up-to-next p q ks b h.1)

-- a place comes no later than itself
pub up-to-own : (p : Path) → IsUpTo p p
up-to-own p = own (path_cmp p p) (path_total.antisymm p p)
  where
    own : (o : Ordering) → o ≡ ordering_reverse o → is_lt o ≡ false
    own Less h = absurd (cc)
    own Equal h = refl
    own Greater h = refl

any_last : (ps : List Path) (q p : Path) → is_covered (ps ++ q ∷ []) p ≡ true → (is_covered ps p ≡ true) ⊎ (starts_with p q ≡ true)
any_last [] q p h = elim (or_true (starts_with p q) false h) [ inl a ↦ inr a | inr a ↦ absurd (cc) ]
any_last (k ∷ ps) q p h = elim (or_true (starts_with p k) (is_covered (ps ++ q ∷ []) p) h) [
  | inl a ↦ inl (or_first (starts_with p k) (is_covered ps p) a)
  | inr a ↦ elim (any_last ps q p a) [ inl b ↦ inl (or_second (starts_with p k) (is_covered ps p) b) | inr b ↦ inr b ]
]

-- those that are kept of the first places are among them, lie apart, come no later than the next, and cover them
pub record IsTop (all ks : List Path) (i : ℕ) : Type 0 where
  pub apart : AreApart ks
  pub order : AreInOrder ks
  pub among : AreAmong (take i all) ks
  pub next : (p : Path) → slice_get all i ≡ Some p → AllByRecursion (λ k. IsUpTo k p) ks
  pub covers : (p : Path) → is_covered (take i all) p ≡ true → is_covered ks p ≡ true

module _ (all ks : List Path) (i : ℕ) (q : Path) (sorted : IsSorted path_cmp all) (at : slice_get all i ≡ Some q) (h : IsTop all ks i) where
  after : (p : Path) → slice_get all (i + 1) ≡ Some p → IsUpTo q p
  after p e =
      let within = slice_get_within all (i + 1) p e in
      ap (λ x. is_lt (path_cmp p x)) (sym (get_or_from_slice_get all i q q at)) ∙ ap (λ x. is_lt (path_cmp x (get_or all i q))) (sym (get_or_from_slice_get all (i + 1) p q e)) ∙ sorted i q (omega arith) within

  one_more : take (i + 1) all ≡ take i all ++ q ∷ []
  one_more = ap (λ n. take n all) (add-one i) ∙ take-suc all i q (slice_get_within all i q at) ∙ ap (λ x. take i all ++ x ∷ []) (get_or_from_slice_get all i q q at)

  covers_more : (ls : List Path) → ((p : Path) → is_covered ks p ≡ true → is_covered ls p ≡ true) → is_covered ls q ≡ true → (p : Path) → is_covered (take (i + 1) all) p ≡ true → is_covered ls p ≡ true
  covers_more ls f c p e = elim (any_last (take i all) q p (ap (λ ps. is_covered ps p) (sym one_more) ∙ e)) [
    | inl a ↦ f p (h.covers p a)
    | inr a ↦ covered-below ls q p c a
  ]

  among_next : (ls : List Path) → AreAmong (take i all) ls → AreAmong (take (i + 1) all) ls
  among_next [] a = tt
  among_next (l ∷ ls) a = (list_any_kept (path_eq l) all i a.0, among_next ls a.1)

  among_own : is_among (take (i + 1) all) q ≡ true
  among_own = list_any_more (path_eq q) all i q (slice_get_within all i q at) ∙ or_second (is_among (take i all) q) (path_eq q (get_or all i q)) (ap (path_eq q) (get_or_from_slice_get all i q q at) ∙ path_eq_equiv.refl q)

  top_by : (b : Bool) → is_below_last ks q ≡ b → IsTop all (if b then ks else ks ++ q ∷ []) (i + 1)
  top_by true e = record { apart = h.apart; order = h.order; among = among_next ks h.among; next = λ p n. up-to-next q p ks (after p n) (h.next q at); covers = covers_more ks (λ p c. c) (below-last ks q e) }
  top_by false e = record {
    apart = apart-more ks q h.apart h.order (h.next q at) e;
    order = order-more ks q h.order (h.next q at);
    among = all-more (λ k. is_among (take (i + 1) all) k ≡ true) ks q (among_next ks h.among) among_own;
    next = λ p n. up-to-next q p (ks ++ q ∷ []) (after p n) (all-more (λ k. IsUpTo k q) ks q (h.next q at) (up-to-own q));
    covers = covers_more (ks ++ q ∷ []) (λ p c. covered-more ks q p c) (covered-last ks q q (own-place q));
  }

  -- with one place more
  pub top-more : (ls : List Path) → ls ≡ kept_with ks q → IsTop all ls (i + 1)
  top-more ls e = subst (λ l. IsTop all l (i + 1)) (sym e) (top_by (is_below_last ks q) refl)

-- before the first place
pub top-none : (all : List Path) → IsTop all [] 0
top-none all = record { apart = tt; order = tt; among = tt; next = λ p e. tt; covers = λ p e. e }

-- the last of the places is the one that counts
pub below-last-is : (ks : List Path) (q k : Path) → slice_get ks (length ks - 1) ≡ Some k → starts_with q k ≡ is_below_last ks q
below-last-is [] q k e = absurd (cc)
below-last-is (l ∷ []) q k e = let same : l ≡ k = cc in ap (starts_with q) (sym same)
below-last-is (l ∷ m ∷ ks) q k e =
    let less : length (l ∷ m ∷ ks) - 1 ≡ suc (length (m ∷ ks) - 1) = omega arith in
    below-last-is (m ∷ ks) q k (ap (slice_get (l ∷ m ∷ ks)) (sym less) ∙ e)

-- where more is covered, so are the operations
pub touched-by : (ps qs : List Path) → ((p : Path) → is_covered ps p ≡ true → is_covered qs p ≡ true) → (ops : List Op) → AreTouched ops ps → AreTouched ops qs
touched-by ps qs f [] h = tt
touched-by ps qs f (op ∷ ops) h = (f (touched_by op) h.0, touched-by ps qs f ops h.1)

-- ---- the operations of a step

-- what accepted operations lead to differs at and below the places that they touch alone
pub until-covers : (ss : List Source) (t : Tree) (ops : List Op) (ps : List Path) → AllAccepted ss t ops → AreTouched ops ps → Covers ps t (tree_until ss t ops)
until-covers ss t [] ps a h = λ q n. refl
until-covers ss t (op ∷ ops) ps a h = λ q n.
    ap (λ o. keyed.get (if is_some o then t else tree_until ss (tree_after ss t op) ops) q) a.0 ∙ until-covers ss (tree_after ss t op) ops ps a.1 h.1 q n ∙ one-covers ss t op ps h.0 q n
