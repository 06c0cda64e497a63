-- Equal by the test is equal.
use Rattle.std.specs.Prelude.{ℕ, ◌≡◌, Bool, true, false, ◌&&◌, List, ◌↔◌, IsTrue, refl}
use Rattle.std.proofs.Common.{sym, ap, ◌∙◌}
use Rattle.std.specs.declared.cmp.Ordering.{Ordering}
use Rattle.std.specs.declared.cmp.Ordering.TheVariants.{Less, Equal, Greater}
use Rattle.std.specs.Ordering.{is_eq}
use Rattle.std.specs.FinMap.{IsAntisymmetric, nat_cmp-IsAntisymmetric, slice_cmp-IsAntisymmetric}
use Rattle.std.specs.Cmp.Lexicographic.{texts_ties, nat_list_eq_equiv}
use Rattle.cp_path.specs.Text.{text_eq, text_cmp}
use Rattle.cp_path.specs.Place.{path_eq, path_cmp, place_eq}
use Rattle.cp_path.specs.PathOrder.{path_ties, path_eq_equiv}
use Rattle.cp_path.specs.declared.loc.Loc.{Loc}

is_eq-Equal : (o : Ordering) → is_eq o ≡ true → o ≡ Equal
is_eq-Equal Less e = cc
is_eq-Equal Equal e = refl
is_eq-Equal Greater e = cc

pub path_same : IsAntisymmetric path_cmp
path_same = slice_cmp-IsAntisymmetric (slice_cmp-IsAntisymmetric nat_cmp-IsAntisymmetric)

pub text_eq-same : (a b : List ℕ) → text_eq a b ≡ true → a ≡ b
text_eq-same a b e = slice_cmp-IsAntisymmetric nat_cmp-IsAntisymmetric a b (is_eq-Equal (text_cmp a b) (sym (texts_ties a b) ∙ e))

pub path_eq-same : (p q : List (List ℕ)) → path_eq p q ≡ true → p ≡ q
path_eq-same p q e = path_same p q (is_eq-Equal (path_cmp p q) (sym (path_ties p q) ∙ e))

and_both : (a b : Bool) → (a && b) ≡ true → (a ≡ true) × (b ≡ true)
and_both true true e = (refl, refl)
and_both true false e = cc
and_both false b e = cc

pub place_eq-same : (p q : Loc) → place_eq p q ≡ true → p ≡ q
place_eq-same p q e =
    let parts = and_both (text_eq p.db q.db) (path_eq p.path q.path) e in
    let db = text_eq-same p.db q.db parts.0 in
    let path = path_eq-same p.path q.path parts.1 in
    λ i. record { db = db i; path = path i }

pub place_eq-refl : (p : Loc) → place_eq p p ≡ true
place_eq-refl p = ap (λ b. b && path_eq p.path p.path) (nat_list_eq_equiv.refl p.db) ∙ path_eq_equiv.refl p.path

true_so : (b : Bool) → IsTrue b → b ≡ true
true_so b h = h

so_true : (b : Bool) → b ≡ true → IsTrue b
so_true b h = h

pub place_eq-iff : (b : Bool) (p q : Loc) → b ≡ place_eq p q → IsTrue b ↔ (p ≡ q)
place_eq-iff b p q e = (λ h. place_eq-same p q (sym e ∙ true_so b h), λ k. so_true b (e ∙ ap (place_eq p) (sym k) ∙ place_eq-refl p))
