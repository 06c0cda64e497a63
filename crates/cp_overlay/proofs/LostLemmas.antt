-- One lost child more.
use Rattle.std.specs.Prelude.{◌≡◌, Bool, true, false, cond, ◌&&◌, ◌||◌, List, [], ◌∷◌, refl}
use Rattle.std.proofs.Common.{sym, ap, ◌∙◌}
use Rattle.std.specs.declared.cmp.Ordering.{Ordering}
use Rattle.std.specs.declared.cmp.Ordering.TheVariants.{Less, Equal, Greater}
use Rattle.std.specs.declared.option.Option.TheVariants.{Some}
use Rattle.std.specs.Ordering.{is_eq, ordering_then}
use Rattle.std.specs.List.{list_any}
use Rattle.std.specs.BTreeMap.{is_at}
use Rattle.std.specs.BTreeSet.{BTreeSet, contains}
use Rattle.std.specs.Cmp.Lexicographic.{texts_ties, nat_list_eq_equiv}
use Rattle.cp_path.specs.Text.{text_cmp}
use Rattle.cp_path.specs.PathOrder.{path_ties, path_eq_equiv}
use Rattle.cp_model.specs.Place.{Path, Label, path_eq, path_cmp, label_eq}
use Rattle.cp_overlay.specs.Lost.{lost_in}
use Rattle.cp_overlay.specs.declared.lost.LostChild.{LostChild}

-- by the parent, and then by the label
abbrev pub lost_cmp : LostChild → LostChild → Ordering
lost_cmp x y = ordering_then (path_cmp x.parent y.parent) (text_cmp x.label y.label)

then_eq : (o p : Ordering) → is_eq (ordering_then o p) ≡ (is_eq o && is_eq p)
then_eq Less p = refl
then_eq Equal p = refl
then_eq Greater p = refl

tests : (q : Path) (l : Label) (c : LostChild) → is_at (lost_cmp (record { parent = q; label = l })) c ≡ (path_eq q c.parent && label_eq l c.label)
tests q l c =
    then_eq (path_cmp q c.parent) (text_cmp l c.label)
    ∙ ap (λ b. b && is_eq (text_cmp l c.label)) (sym (path_ties q c.parent))
    ∙ ap (λ b. path_eq q c.parent && b) (sym (texts_ties l c.label))

any_test : (q : Path) (l : Label) (cs : List LostChild) → list_any (is_at (lost_cmp (record { parent = q; label = l }))) cs ≡ list_any (λ c. path_eq q c.parent && label_eq l c.label) cs
any_test q l [] = refl
any_test q l (c ∷ cs) =
    ap (λ b. b || list_any (is_at (lost_cmp (record { parent = q; label = l }))) cs) (tests q l c)
    ∙ ap (λ b. (path_eq q c.parent && label_eq l c.label) || b) (any_test q l cs)

-- with one child more
pub lost_more : (m n : BTreeSet LostChild) (c : LostChild) → ((x : LostChild) → contains lost_cmp n x ≡ cond (is_at (lost_cmp c) x) true (contains lost_cmp m x)) → (q : Path) (l : Label) → lost_in n q l ≡ ((path_eq q c.parent && label_eq l c.label) || lost_in m q l)
unfolding lost_in
lost_more m n c u q l =
    sym (any_test q l n.keys)
    ∙ u (record { parent = q; label = l })
    ∙ ap (λ b. cond b true (contains lost_cmp m (record { parent = q; label = l }))) (tests c.parent c.label (record { parent = q; label = l }))
    ∙ ap (λ b. cond (b && label_eq c.label l) true (contains lost_cmp m (record { parent = q; label = l }))) (path_eq_equiv.symm c.parent q)
    ∙ ap (λ b. cond (path_eq q c.parent && b) true (contains lost_cmp m (record { parent = q; label = l }))) (nat_list_eq_equiv.symm c.label l)
    ∙ or_is (path_eq q c.parent && label_eq l c.label) (contains lost_cmp m (record { parent = q; label = l }))
    ∙ ap (λ b. (path_eq q c.parent && label_eq l c.label) || b) (any_test q l m.keys)
  where
    or_is : (a b : Bool) → cond a true b ≡ (a || b)
    or_is true b = refl
    or_is false b = refl

-- the same children
pub lost_same : (m n : BTreeSet LostChild) → n.keys ≡ m.keys → (q : Path) (l : Label) → lost_in n q l ≡ lost_in m q l
unfolding lost_in
lost_same m n e q l = ap (list_any (λ c. path_eq q c.parent && label_eq l c.label)) e

-- the child that is one more
pub lost_now : (f g : Path → Label → Bool) (p q : Path) (k l : Label) → ((s : Path) (b : Label) → f s b ≡ ((path_eq s p && label_eq b k) || g s b)) → Some p ≡ Some q → k ≡ l → f q l ≡ true
lost_now f g p q k l h e d =
    let s : p ≡ q = cc in
    h q l
    ∙ ap (λ s. (path_eq q s && label_eq l k) || g q l) s
    ∙ ap (λ b. (path_eq q q && label_eq l b) || g q l) d
    ∙ ap (λ c. (c && label_eq l l) || g q l) (path_eq_equiv.refl q)
    ∙ ap (λ c. c || g q l) (nat_list_eq_equiv.refl l)
