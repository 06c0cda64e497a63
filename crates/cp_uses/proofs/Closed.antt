-- What was reached, while it is followed one after another.
use Rattle.std.specs.Prelude.{ℕ, zero, suc, ◌+◌, ◌≤◌, ◌<◌, ◌≡◌, ◌⊎◌, ◌||◌, ◌&&◌, ◌==◌, Bool, true, false, List, [], ◌∷◌, ◌++◌, refl, sum_by, length, take, drop, if◌then◌else◌}
use Rattle.std.proofs.Common.{sym, ap, subst, ◌∙◌, arith, append_assoc, inl, inr}
use Rattle.std.proofs.lemmas.List.{append-nil, take-append-drop}
use Rattle.std.proofs.lemmas.List.Sums.{sum_by-append}
use Rattle.std.proofs.lemmas.List.Folds.{list_any-append}
use Rattle.std.proofs.Math.Seq.{drop-cons, take-length}
use Rattle.std.proofs.Math.ListN.{get_or}
use Rattle.std.proofs.Math.Bool.{or-true}
use Rattle.std.proofs.lemmas.Bool.Decides.{nat_tests}
use Rattle.cp_path.proofs.Same.{place_eq-refl}
use Rattle.cp_model.specs.Place.{place_eq, path_eq, label_eq}
use Rattle.cp_path.specs.declared.loc.Loc.{Loc}
use Rattle.cp_path.specs.PathOrder.{path_eq_equiv}
use Rattle.std.specs.Cmp.Lexicographic.{nat_list_eq_equiv}
use Rattle.std.proofs.Math.Bool.{or-false}
use Rattle.cp_model.specs.declared.kind.Kind.{Kind}
use Rattle.cp_model.specs.declared.record.Record.{Record}
use Rattle.cp_uses.specs.declared.reached.Reached.{Reached}
use Rattle.cp_uses.specs.Front.{same_reached, is_reached}
use Rattle.cp_uses.specs.Onward.{add_one, add_new}
use Rattle.cp_uses.specs.Closing.{nexts, Stands, AreApart, Closes}
use Rattle.cp_uses.proofs.Weights.{sum-cons}

-- ---- standing in a list

stands-left : (xs ys : List Reached) (x : Reached) → Stands xs x → Stands (xs ++ ys) x
stands-left [] ys x s = absurd s
stands-left (z ∷ xs) ys x (inl e) = inl e
stands-left (z ∷ xs) ys x (inr s) = inr (stands-left xs ys x s)

stands-right : (xs ys : List Reached) (x : Reached) → Stands ys x → Stands (xs ++ ys) x
stands-right [] ys x s = s
stands-right (z ∷ xs) ys x s = inr (stands-right xs ys x s)

stands-either : (xs ys : List Reached) (x : Reached) → Stands (xs ++ ys) x → Stands xs x ⊎ Stands ys x
stands-either [] ys x s = inr s
stands-either (z ∷ xs) ys x (inl e) = inl (inl e)
stands-either (z ∷ xs) ys x (inr s) =
    elim (stands-either xs ys x s) as (λ _. Stands (z ∷ xs) x ⊎ Stands ys x) [
      | inl a ↦ inl (inr a)
      | inr b ↦ inr b
    ]

eq_itself : (n : ℕ) → (n == n) ≡ true
eq_itself n = grind (arith, nat_tests)

same-itself : (x : Reached) → same_reached x x ≡ true
same-itself x = ap (λ b. b && (x.tid == x.tid)) (place_eq-refl x.place) ∙ eq_itself x.tid

-- what stands in the list is among it
pub stands-reached : (xs : List Reached) (x : Reached) → Stands xs x → is_reached x xs ≡ true
stands-reached [] x s = absurd s
stands-reached (z ∷ xs) x (inl e) = ap (λ b. b || is_reached x xs) (ap (same_reached x) e ∙ same-itself x)
stands-reached (z ∷ xs) x (inr s) = ap (λ b. same_reached x z || b) (stands-reached xs x s) ∙ or-true (same_reached x z)

-- and stays so with more
reached-more : (xs ys : List Reached) (x : Reached) → is_reached x xs ≡ true → is_reached x (xs ++ ys) ≡ true
reached-more xs ys x h = list_any-append (same_reached x) xs ys ∙ ap (λ b. b || is_reached x ys) h

reached-right : (xs ys : List Reached) (x : Reached) → is_reached x ys ≡ true → is_reached x (xs ++ ys) ≡ true
reached-right xs ys x h = list_any-append (same_reached x) xs ys ∙ ap (λ b. is_reached x xs || b) h ∙ or-true (is_reached x xs)

-- ---- apart

eq_symm : (m n : ℕ) → (m == n) ≡ (n == m)
eq_symm m n =
    elim (m == n) as (λ b. (m == n) ≡ b → b ≡ (n == m)) [
      | true ↦ λ h. let k : (n == m) ≡ true = grind (arith, nat_tests) in sym k
      | false ↦ λ h. let k : (n == m) ≡ false = grind (arith, nat_tests) in sym k
    ] refl

place-symm : (p q : Loc) → place_eq p q ≡ place_eq q p
place-symm p q = ap (λ b. b && path_eq p.path q.path) (nat_list_eq_equiv.symm p.db q.db) ∙ ap (λ b. label_eq q.db p.db && b) (path_eq_equiv.symm p.path q.path)

same-symm : (x y : Reached) → same_reached x y ≡ same_reached y x
same-symm x y = ap (λ b. b && (x.tid == y.tid)) (place-symm x.place y.place) ∙ ap (λ b. place_eq y.place x.place && b) (eq_symm x.tid y.tid)

or_none : (a b : Bool) → (a || b) ≡ false → (a ≡ false) × (b ≡ false)
or_none true b h = absurd (cc)
or_none false b h = (refl, h)

-- one more that isn't among them
apart-more : (xs : List Reached) (y : Reached) → AreApart xs → is_reached y xs ≡ false → AreApart (xs ++ y ∷ [])
apart-more [] y a h = (refl, tt)
apart-more (x ∷ xs) y a h =
    let p = or_none (same_reached y x) (is_reached y xs) h in (
      list_any-append (same_reached x) xs (y ∷ []) ∙ ap (λ b. b || is_reached x (y ∷ [])) a.0 ∙ or-false (same_reached x y) ∙ same-symm x y ∙ p.0,
      apart-more xs y a.1 p.1,
    )

-- ---- what is new

-- those that are new, behind the others
record Adds (xs ys : List Reached) : Type 0 where
  more : List Reached
  added : add_new xs ys ≡ xs ++ more
  from : (y : Reached) → Stands more y → Stands ys y
  apart : AreApart xs → AreApart (xs ++ more)

adds : (xs ys : List Reached) → Adds xs ys
adds xs [] = record { more = []; added = sym (append-nil xs); from = λ y s. s; apart = λ a. subst AreApart (sym (append-nil xs)) a }
adds xs (y ∷ ys) =
    elim (is_reached y xs) as (λ b. is_reached y xs ≡ b → Adds xs (y ∷ ys)) [
      | true ↦ λ e.
          let r = adds xs ys in
          let one : add_one xs y ≡ xs = ap (λ b. if b then xs else xs ++ y ∷ []) e in
          record { more = r.more; added = ap (λ zs. add_new zs ys) one ∙ r.added; from = λ z s. inr (r.from z s); apart = r.apart }
      | false ↦ λ e.
          let r = adds (xs ++ y ∷ []) ys in
          let one : add_one xs y ≡ xs ++ y ∷ [] = ap (λ b. if b then xs else xs ++ y ∷ []) e in
          record {
            more = y ∷ r.more;
            added = ap (λ zs. add_new zs ys) one ∙ r.added ∙ append_assoc xs (y ∷ []) r.more;
            from = λ z s. elim s as (λ _. Stands (y ∷ ys) z) [ inl k ↦ inl k | inr k ↦ inr (r.from z k) ];
            apart = λ a. subst AreApart (append_assoc xs (y ∷ []) r.more) (r.apart (apart-more xs y a e));
          }
    ] refl

-- all of them are among the others then
reached-new : (xs ys : List Reached) (y : Reached) → is_reached y xs ≡ true → is_reached y (add_new xs ys) ≡ true
reached-new xs ys y h = let r = adds xs ys in ap (is_reached y) r.added ∙ reached-more xs r.more y h

one-reached : (xs : List Reached) (y : Reached) → is_reached y (add_one xs y) ≡ true
one-reached xs y =
    elim (is_reached y xs) as (λ b. is_reached y xs ≡ b → is_reached y (if b then xs else xs ++ y ∷ []) ≡ true) [
      | true ↦ λ e. e
      | false ↦ λ _. reached-right xs (y ∷ []) y (stands-reached (y ∷ []) y (inl refl))
    ] refl

all-reached : (xs ys : List Reached) (y : Reached) → Stands ys y → is_reached y (add_new xs ys) ≡ true
all-reached xs [] y s = absurd s
all-reached xs (z ∷ ys) y (inl e) = subst (λ w. is_reached w (add_new (add_one xs z) ys) ≡ true) e (reached-new (add_one xs z) ys z (one-reached xs z))
all-reached xs (z ∷ ys) y (inr s) = all-reached (add_one xs z) ys y s

-- ---- one after another

-- to what was reached others were added, and what the first n of all lead to is among them
pub record IsClosing (k : Kind) (rs rows : List Record) (old now : List Reached) (n : ℕ) : Type 0 where
  more : List Reached
  kept : now ≡ old ++ more
  closed : (x y : Reached) → Stands (take n now) x → Stands (nexts k rs rows x) y → is_reached y now ≡ true
  from : (y : Reached) → Stands more y → (x : Reached) × Stands now x × Stands (nexts k rs rows x) y
  apart : AreApart old → AreApart now

pub begins-closing : (k : Kind) (rs rows : List Record) (old : List Reached) → IsClosing k rs rows old old 0
begins-closing k rs rows old = record { more = []; kept = sym (append-nil old); closed = λ x y s t. absurd s; from = λ y s. absurd s; apart = λ a. a }

pub ends-closing : (k : Kind) (rs rows : List Record) (old now : List Reached) (n : ℕ) → IsClosing k rs rows old now n → length now ≤ n → n ≤ length now → Closes k rs rows old now
ends-closing k rs rows old now n c a b =
    let e : n ≡ length now = omega (arith, a, b) in
    record { more = c.more; kept = c.kept; closed = λ x y s t. c.closed x y (subst (λ xs. Stands xs x) (sym (ap (λ m. take m now) e ∙ take-length now)) s) t; from = c.from; apart = c.apart }

module _ (k : Kind) (rs rows : List Record) (now later : List Reached) (n : ℕ) (x : Reached) (b : n < length now) (is : x ≡ get_or now n x) (first : take (n + 1) later ≡ take n now ++ x ∷ []) where
  x-stands : Stands now x
  x-stands = subst (λ xs. Stands xs x) (take-append-drop n now) (stands-right (take n now) (drop n now) x (subst (λ xs. Stands xs x) (sym (drop-cons now n x b)) (inl (sym is))))

  -- one more is followed
  pub closing-more : later ≡ add_new now (nexts k rs rows x) → (old : List Reached) → IsClosing k rs rows old now n → IsClosing k rs rows old later (n + 1)
  closing-more e old c =
      let step : Adds now (nexts k rs rows x) = adds now (nexts k rs rows x) in
      let later-is : later ≡ now ++ step.more = e ∙ step.added in
      record {
        more = c.more ++ step.more;
        kept = later-is ∙ ap (λ xs. xs ++ step.more) c.kept ∙ append_assoc old c.more step.more;
        apart = λ a. subst AreApart (sym later-is) (step.apart (c.apart a));
        closed = λ z y s t.
            elim (stands-either (take n now) (x ∷ []) z (subst (λ xs. Stands xs z) first s)) as (λ _. is_reached y later ≡ true) [
              | inl a ↦ ap (is_reached y) later-is ∙ reached-more now step.more y (c.closed z y a t)
              | inr a ↦ elim a as (λ _. is_reached y later ≡ true) [
                | inl same ↦ ap (is_reached y) e ∙ all-reached now (nexts k rs rows x) y (subst (λ w. Stands (nexts k rs rows w) y) (sym same) t)
                | inr none ↦ absurd none
              ]
            ];
        from = λ y s.
            elim (stands-either c.more step.more y s) as (λ _. (w : Reached) × Stands later w × Stands (nexts k rs rows w) y) [
              | inl a ↦ let f = c.from y a in (f.0, subst (λ xs. Stands xs f.0) (sym later-is) (stands-left now step.more f.0 f.1), f.2)
              | inr a ↦ (x, subst (λ xs. Stands xs x) (sym later-is) (stands-left now step.more x x-stands), step.from y a)
            ];
      }

-- one more is asked for
pub calls-more : (f : Reached → ℕ) (now later : List Reached) (n : ℕ) (x : Reached) → take (n + 1) later ≡ take n now ++ x ∷ [] → (a b c : ℕ) → b ≤ a + sum_by f (take n now) → c ≤ b + f x → c ≤ a + sum_by f (take (n + 1) later)
calls-more f now later n x first a b c g h =
    let more : sum_by f (take (n + 1) later) ≡ sum_by f (take n now) + sum_by f (x ∷ []) = ap (sum_by f) first ∙ sum_by-append f (take n now) (x ∷ []) in
    let one : sum_by f (x ∷ []) ≡ f x + 0 = sum-cons f x [] in
    omega (arith, g, h, more, one)

-- all of a list, at the end
pub taken-all : (now : List Reached) (n : ℕ) → length now ≤ n → n ≤ length now → take n now ≡ now
taken-all now n h i = let e : n ≡ length now = omega (arith, h, i) in ap (λ m. take m now) e ∙ take-length now

-- an element within a list doesn't wait for another
pub get_or-default : (xs : List Reached) (i : ℕ) (d e : Reached) → i < length xs → get_or xs i d ≡ get_or xs i e
get_or-default [] i d e h = absurd (omega (arith, h))
get_or-default (x ∷ xs) zero d e h = refl
get_or-default (x ∷ xs) (suc i) d e h = get_or-default xs i d e (omega (arith, h))
