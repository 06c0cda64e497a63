-- Tests over lists of paths.
use Rattle.std.specs.Prelude.{◌≡◌, Bool, true, false, ◌&&◌, ◌||◌, List, [], ◌∷◌, map, refl, is_some}
use Rattle.std.proofs.Common.{sym, ap, ◌∙◌}
use Rattle.std.specs.List.{list_any}
use Rattle.cp_model.specs.Place.{Path, path_eq}
use Rattle.cp_path.proofs.Same.{path_eq-same}
use Rattle.cp_path.specs.PathOrder.{path_eq_equiv}
use Rattle.cp_model.proofs.KeyedLemmas.{get-entries, is_some-look}
use Rattle.cp_model.specs.Keyed as keyed
use Rattle.cp_model.specs.Keyed.{Keyed}
use Rattle.cp_model.specs.Subtrees.{is_there}

-- tests that answer alike pass alike
pub any-alike : {A : Type 0} (g h : A → Bool) → ((x : A) → g x ≡ h x) → (xs : List A) → list_any g xs ≡ list_any h xs
any-alike g h e [] = refl
any-alike g h e (x ∷ xs) = ap (λ b. b || list_any g xs) (e x) ∙ ap (λ b. h x || b) (any-alike g h e xs)

-- with one side true, either is
pub or_true : (a b : Bool) → b ≡ true → (a || b) ≡ true
or_true true b e = refl
or_true false b e = e

-- what passes the test is found among those that pass
pub any_intro : (h : Path → Bool) (q : Path) (qs : List Path) → list_any (path_eq q) qs ≡ true → h q ≡ true → list_any h qs ≡ true
any_intro h q [] i e = absurd (cc)
any_intro h q (r ∷ qs) i e =
    elim (path_eq q r) as (λ b. path_eq q r ≡ b → (b || list_any (path_eq q) qs) ≡ true → (h r || list_any h qs) ≡ true) [
      | true ↦ λ k _. ap (λ b. b || list_any h qs) (ap h (sym (path_eq-same q r k)) ∙ e)
      | false ↦ λ _ i. or_true (h r) _ (any_intro h q qs i e)
    ] refl i

-- a path is equal to itself
pub itself : (q : Path) → path_eq q q ≡ true
itself = path_eq_equiv.refl

-- where something passes, there is one that passes
pub any_elim : (h : Path → Bool) (qs : List Path) → list_any h qs ≡ true → (q : Path) × (list_any (path_eq q) qs ≡ true) × (h q ≡ true)
any_elim h [] e = absurd (cc)
any_elim h (r ∷ qs) e =
    elim (h r) as (λ b. h r ≡ b → (b || list_any h qs) ≡ true → (q : Path) × ((path_eq q r || list_any (path_eq q) qs) ≡ true) × (h q ≡ true)) [
      | true ↦ λ k _. (r, ap (λ b. b || list_any (path_eq r) qs) (itself r), k)
      | false ↦ λ _ e. let t = any_elim h qs e in (t.0, or_true (path_eq t.0 r) _ t.1, t.2)
    ] refl e

-- two tests over two lists, where what passes the one passes the other
pub any_two : (h g : Path → Bool) (ps qs : List Path) →
    ((q : Path) → h q ≡ true → (list_any (path_eq q) qs ≡ true) × (g q ≡ true)) →
    ((q : Path) → list_any (path_eq q) qs ≡ true → g q ≡ true → (list_any (path_eq q) ps ≡ true) × (h q ≡ true)) →
    list_any h ps ≡ list_any g qs
any_two h g ps qs there back =
    elim (list_any h ps) as (λ b. list_any h ps ≡ b → b ≡ list_any g qs) [
      | true ↦ λ e. let t = any_elim h ps e in let u = there t.0 t.2 in sym (any_intro g t.0 qs u.0 u.1)
      | false ↦ λ e. elim (list_any g qs) as (λ c. list_any g qs ≡ c → false ≡ c) [
        | true ↦ λ k. let t = any_elim g qs k in let u = back t.0 t.1 t.2 in sym e ∙ any_intro h t.0 ps u.0 u.1
        | false ↦ λ _. refl
      ] refl
    ] refl

-- a path is among the keys where something is there
pub key_there : {X : Type 0} (m : Keyed X) (q : Path) → list_any (path_eq q) (map (λ e. e.0) (keyed.entries m)) ≡ is_there m q
key_there m q = sym (is_some-look q (keyed.entries m)) ∙ ap is_some (sym (get-entries m q))

-- a test of the keys is a test of the entries
pub any_map : {A : Type 0} (g : Path → Bool) (es : List (Path × A)) → list_any g (map (λ e. e.0) es) ≡ list_any (λ e. g e.0) es
any_map g [] = refl
any_map g (e ∷ es) = ap (λ b. g e.0 || b) (any_map g es)

-- where both hold, each holds
pub and_true : (a b : Bool) → (a && b) ≡ true → (a ≡ true) × (b ≡ true)
and_true true true e = (refl, refl)
and_true true false e = absurd (cc)
and_true false b e = absurd (cc)

-- where each holds, both hold
pub and_both : (a b : Bool) → a ≡ true → b ≡ true → (a && b) ≡ true
and_both true true e f = refl
and_both true false e f = f
and_both false b e f = e

-- a test over two lists with the same paths
pub any_same : (g : Path → Bool) (ps qs : List Path) → ((q : Path) → list_any (path_eq q) ps ≡ true → list_any (path_eq q) qs ≡ true) → ((q : Path) → list_any (path_eq q) qs ≡ true → list_any (path_eq q) ps ≡ true) → list_any g ps ≡ list_any g qs
any_same g ps qs there back = elim (list_any g ps) as (λ b. list_any g ps ≡ b → b ≡ list_any g qs) [
  | true ↦ λ e. let t = any_elim g ps e in sym (any_intro g t.0 qs (there t.0 t.1) t.2)
  | false ↦ λ e. elim (list_any g qs) as (λ c. list_any g qs ≡ c → false ≡ c) [
    | true ↦ λ k. let t = any_elim g qs k in sym e ∙ any_intro g t.0 ps (back t.0 t.1) t.2
    | false ↦ λ _. refl
  ] refl
] refl
