-- Places that are noted, and their order.
use Rattle.std.specs.Prelude.{ℕ, ◌+◌, ◌≡◌, ◌&&◌, ◌||◌, Bool, true, false, cond, List, [], ◌∷◌, ◌++◌, refl, take}
use Rattle.std.proofs.Common.{sym, ap, ◌∙◌, append_assoc}
use Rattle.std.specs.List.{list_any}
use Rattle.std.specs.declared.cmp.Ordering.{Ordering}
use Rattle.std.specs.declared.cmp.Ordering.TheVariants.{Less, Equal, Greater}
use Rattle.std.specs.Ordering.{is_eq, ordering_then}
use Rattle.std.specs.BTreeMap.{is_at}
use Rattle.std.specs.BTreeSet.{BTreeSet, contains}
use Rattle.std.specs.Cmp.Lexicographic.{texts_ties, nat_list_eq_equiv}
use Rattle.std.proofs.lemmas.List.{append-nil}
use Rattle.std.proofs.lemmas.List.Folds.{list_any-append}
use Rattle.std.proofs.Math.Bool.{or_assoc}
use Rattle.cp_path.specs.PathOrder.{path_ties, path_eq_equiv}
use Rattle.cp_path.specs.Text.{text_cmp}
use Rattle.cp_path.specs.declared.loc.Loc.{Loc}
use Rattle.cp_model.specs.Place.{path_cmp, path_eq, place_eq, label_eq}
use Rattle.cp_model.specs.Tree.{Tree}
use Rattle.cp_model.specs.declared.kind.Kind.{Kind}
use Rattle.cp_model.specs.declared.record.Record.{Record}
use Rattle.cp_uses.specs.declared.reached.Reached.{Reached}
use Rattle.cp_uses.specs.Current.{stands_now}
use Rattle.cp_uses.specs.Users.{is_among, place_cmp}
use Rattle.cp_uses.proofs.Fronts.{same-loc}

then_eq : (o p : Ordering) → is_eq (ordering_then o p) ≡ (is_eq o && is_eq p)
then_eq Less p = refl
then_eq Equal p = refl
then_eq Greater p = refl

tests : (x y : Loc) → is_at (place_cmp x) y ≡ place_eq x y
tests x y =
    then_eq (text_cmp x.db y.db) (path_cmp x.path y.path)
    ∙ ap (λ b. b && is_eq (path_cmp x.path y.path)) (sym (texts_ties x.db y.db))
    ∙ ap (λ b. label_eq x.db y.db && b) (sym (path_ties x.path y.path))

any_test : (x : Loc) (ys : List Loc) → list_any (is_at (place_cmp x)) ys ≡ is_among x ys
any_test x [] = refl
any_test x (y ∷ ys) = ap (λ b. b || list_any (is_at (place_cmp x)) ys) (tests x y) ∙ ap (λ b. place_eq x y || b) (any_test x ys)

symm : (x y : Loc) → place_eq x y ≡ place_eq y x
symm x y = ap (λ b. b && path_eq x.path y.path) (nat_list_eq_equiv.symm x.db y.db) ∙ ap (λ b. label_eq y.db x.db && b) (path_eq_equiv.symm x.path y.path)

-- one place more
pub user-more : (m n : BTreeSet Loc) (z y : Loc) → (z.db ≡ y.db) × (z.path ≡ y.path) → ((x : Loc) → contains place_cmp n x ≡ cond (is_at (place_cmp z) x) true (contains place_cmp m x)) → (p : Loc) → is_among p n.keys ≡ (is_among p m.keys || place_eq p y)
user-more m n z y e u p =
    sym (any_test p n.keys)
    ∙ u p
    ∙ ap (λ w. cond (is_at (place_cmp w) p) true (contains place_cmp m p)) (same-loc z y e)
    ∙ ap (λ b. cond b true (contains place_cmp m p)) (tests y p ∙ symm y p)
    ∙ or_is (place_eq p y) (contains place_cmp m p)
    ∙ ap (λ b. b || place_eq p y) (any_test p m.keys)
  where
    or_is : (a b : Bool) → cond a true b ≡ (b || a)
    or_is true true = refl
    or_is true false = refl
    or_is false true = refl
    or_is false false = refl

-- one more of what was reached, in a list that grows
pub stands-next : (k : Kind) (rs : List Record) (last late : ℕ) (t : Tree) (now later : List Reached) (n : ℕ) (x : Reached) → take (n + 1) later ≡ take n now ++ x ∷ [] → late ≡ last → (a b c : Bool) (p : Loc) →
    b ≡ (a || stands_now k rs last t (take n now) p) → c ≡ (b || stands_now k rs late t (x ∷ []) p) → c ≡ (a || stands_now k rs last t (take (n + 1) later) p)
stands-next k rs last late t now later n x first h a b c p u v =
    v
    ∙ ap (λ b. b || stands_now k rs late t (x ∷ []) p) u
    ∙ ap (λ m. (a || stands_now k rs last t (take n now) p) || stands_now k rs m t (x ∷ []) p) h
    ∙ or_assoc a (stands_now k rs last t (take n now) p) (stands_now k rs last t (x ∷ []) p)
    ∙ ap (λ b. a || b) (sym (list_any-append _ (take n now) (x ∷ [])) ∙ ap (λ ys. stands_now k rs last t ys p) (sym first))

-- a list of all keys of a set is in order
pub all-listed : (ks ps rest : List Loc) → ps ++ rest ≡ ks → rest ≡ [] → ps ≡ ks
all-listed ks ps rest e n = sym (append-nil ps) ∙ ap (λ l. ps ++ l) (sym n) ∙ e

-- one place more is listed
pub listed-more : (ks ps new rest more : List Loc) (p q : Loc) → ps ++ rest ≡ ks → rest ≡ p ∷ more → (q.db ≡ p.db) × (q.path ≡ p.path) → new ≡ ps ++ q ∷ [] → new ++ more ≡ ks
listed-more ks ps new rest more p q e n c a =
    ap (λ l. l ++ more) a
    ∙ append_assoc ps (q ∷ []) more
    ∙ ap (λ x. ps ++ x ∷ more) (same-loc q p c)
    ∙ ap (λ l. ps ++ l) (sym n)
    ∙ e
