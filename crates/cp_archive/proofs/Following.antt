-- A step of a history, as the archive sees it.
use Rattle.std.specs.Prelude.{ℕ, suc, zero, ◌+◌, ◌≡◌, ◌≤◌, ◌<◌, false, List, [], ◌∷◌, ◌++◌, length, map, take, drop, is_some, refl}
use Rattle.std.proofs.Common.{sym, ap, subst, ◌∙◌, arith, get_or, set, add-one}
use Rattle.std.proofs.lemmas.List.{append-nil, length-map, take_all}
use Rattle.std.specs.List.{AllByRecursion}
use Rattle.std.specs.declared.option.Option.{Option}
use Rattle.std.specs.declared.option.Option.TheVariants.{None, Some}
use Rattle.cp_model.specs.Place.{Path}
use Rattle.cp_model.specs.Keyed as keyed
use Rattle.cp_model.specs.Subtrees.{below, is_there}
use Rattle.cp_model.specs.Tree.{Tree, Source, IsTree}
use Rattle.cp_model.specs.declared.op.Op.{Op}
use Rattle.cp_model.specs.declared.row.Content.{Content}
use Rattle.cp_operation.specs.Passed.{AllAccepted, tree_until}
use Rattle.cp_tree.proofs.ListingLemmas.{entries_in-rows}
use Rattle.cp_archive.specs.Touching.{AreApart, Covers, places_of, touched_before, with_after, IsToldOf, Leads}
use Rattle.cp_archive.specs.declared.touched.Touched.{Touched}

-- where a place isn't there, nothing stands
pub gone-none : (t : Tree) (p : Path) → is_there t p ≡ false → keyed.get t p ≡ None
gone-none t p h = by (keyed.get t p) h
  where
    by : (o : Option Content) → is_some o ≡ false → o ≡ None
    by None h = refl
    by (Some c) h = absurd (cc)

-- the places that are told of
told_places : (old new : Tree) (ps : List Path) → places_of (map (with_after new) (map (touched_before old) ps)) ≡ ps
told_places old new [] = refl
told_places old new (p ∷ ps) = ap (λ qs. p ∷ qs) (told_places old new ps)

told_all : (old new : Tree) (ps : List Path) → AllByRecursion (IsToldOf old new) (map (with_after new) (map (touched_before old) ps))
told_all old new [] = tt
told_all old new (p ∷ ps) = (record { before = entries_in-rows (below p old); after = entries_in-rows (below p new) }, told_all old new ps)

-- the rows at the touched places before and after accepted operations lead from the one tree to the other
pub replay-leads : (ss : List Source) (old new last : Tree) (ops : List Op) (ps : List Path) (xs ys : List Touched) → last ≡ old → AllAccepted ss old ops → new ≡ tree_until ss old ops → IsTree new → AreApart ps → ((us : List Source) → AllAccepted us old ops → Covers ps old (tree_until us old ops))
    → xs ≡ map (touched_before old) ps → ys ≡ map (with_after new) xs → Leads ys last new
replay-leads ss old new last ops ps xs ys l a n t apart covers x y =
    let told : ys ≡ map (with_after new) (map (touched_before old) ps) = y ∙ ap (map (with_after new)) x in
    let places : places_of ys ≡ ps = ap places_of told ∙ told_places old new ps in
    subst (λ u. Leads ys u new) (sym l) (record {
      apart = subst AreApart (sym places) apart;
      told = subst (AllByRecursion (IsToldOf old new)) (sym told) (told_all old new ps);
      covers = subst (λ qs. Covers qs old new) (sym places) (λ q c. ap (λ u. keyed.get u q) n ∙ covers ss a q c);
      tree = t;
    })

made_next : {X : Type 0} (f : X → X) (xs : List X) (i : ℕ) (y d : X) → i < length xs → y ≡ f (get_or (map f (take i xs) ++ drop i xs) i d) → set (map f (take i xs) ++ drop i xs) i y ≡ map f (take (suc i) xs) ++ drop (suc i) xs
made_next f [] i y d l h = absurd (omega (arith, l))
made_next f (x ∷ xs) zero y d l h = ap (λ z. z ∷ xs) h
made_next f (x ∷ xs) (suc i) y d l h = ap (λ zs. f x ∷ zs) (made_next f xs i y d (omega (arith, l)) h)

-- one element more is what f makes of it
pub made-more : {X : Type 0} (f : X → X) (xs ys : List X) (i : ℕ) (y d : X) → i < length xs → ys ≡ map f (take i xs) ++ drop i xs → y ≡ f (get_or ys i d) → set ys i y ≡ map f (take (i + 1) xs) ++ drop (i + 1) xs
made-more f xs ys i y d l e h =
    ap (λ zs. set zs i y) e
    ∙ made_next f xs i y d l (h ∙ ap (λ zs. f (get_or zs i d)) e)
    ∙ ap (λ n. map f (take n xs) ++ drop n xs) (sym (add-one i))

drop_past : {X : Type 0} (xs : List X) (i : ℕ) → length xs ≤ i → drop i xs ≡ []
drop_past [] zero l = refl
drop_past [] (suc i) l = refl
drop_past (x ∷ xs) zero l = absurd (omega (arith, l))
drop_past (x ∷ xs) (suc i) l = drop_past xs i (omega (arith, l))

-- at the end each is
pub made-all : {X : Type 0} (f : X → X) (xs ys : List X) (i : ℕ) → length xs ≤ i → ys ≡ map f (take i xs) ++ drop i xs → ys ≡ map f xs
made-all f xs ys i l e = e ∙ ap (λ zs. map f zs ++ drop i xs) (take_all i xs l) ∙ ap (λ zs. map f xs ++ zs) (drop_past xs i l) ∙ append-nil (map f xs)

-- a vector whose elements are all written has what was made of each
pub whole-made : {X : Type 0} (f : X → X) (n : ℕ) (ys xs : List X) → n ≡ length xs → ys ≡ map f xs → take n (ys ++ drop (length ys) xs) ≡ map f xs
whole-made f n ys xs size e =
    let same : length ys ≡ length xs = ap length e ∙ length-map xs f in
    ap (λ zs. take n (ys ++ zs)) (drop_past xs (length ys) (omega (arith, same)))
    ∙ ap (take n) (append-nil ys)
    ∙ take_all n ys (omega (arith, size, same))
    ∙ e
