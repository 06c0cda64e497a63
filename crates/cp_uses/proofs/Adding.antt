-- Adding what was reached, one after another.
use Rattle.std.specs.Prelude.{ℕ, ◌+◌, ◌≡◌, ◌≤◌, ◌<◌, ◌&&◌, true, List, [], ◌∷◌, ◌++◌, length, take, drop, nat_lt, refl}
use Rattle.std.proofs.Common.{sym, ap, ◌∙◌, arith, append_assoc, length-append}
use Rattle.std.specs.List.{list_all, flat_map}
use Rattle.std.proofs.lemmas.Bool.Decides.{nat_tests}
use Rattle.std.proofs.lemmas.List.{append-nil, take_more, take-append-drop}
use Rattle.std.proofs.lemmas.List.Folds.{list_all-append}
use Rattle.std.proofs.lemmas.Grind.{flat_map-append}
use Rattle.std.proofs.Math.ListN.{get_or}
use Rattle.std.proofs.Math.Seq.{take-length}
use Rattle.cp_model.specs.declared.record.Record.{Record}
use Rattle.cp_uses.specs.declared.reached.Reached.{Reached}
use Rattle.cp_uses.specs.Onward.{add_one, add_new, AddsLater}

-- ---- at most so many, from later steps on

-- none is added
pub adds-none : (t n : ℕ) (xs ys : List Reached) → ys ≡ xs → AddsLater t n xs ys
adds-none t n xs ys e = record { more = []; kept = e ∙ sym (append-nil xs); later = refl; few = omega arith }

-- one is added
pub adds-one : (t : ℕ) (xs ys : List Reached) (y : Reached) → t < y.tid → ys ≡ xs ++ y ∷ [] → AddsLater t 1 xs ys
adds-one t xs ys y l e = record { more = y ∷ []; kept = e; later = ap (λ b. b && true) (let z : nat_lt t y.tid ≡ true = grind (arith, nat_tests) in z); few = omega arith }

-- some are added, and then others
pub adds-then : (t m n : ℕ) (xs ys zs : List Reached) → AddsLater t m xs ys → AddsLater t n ys zs → AddsLater t (m + n) xs zs
adds-then t m n xs ys zs a b = record {
  more = a.more ++ b.more;
  kept = b.kept ∙ ap (λ l. l ++ b.more) a.kept ∙ append_assoc xs a.more b.more;
  later = list_all-append (λ y. nat_lt t y.tid) a.more b.more ∙ ap (λ c. c && list_all (λ y. nat_lt t y.tid) b.more) a.later ∙ b.later;
  few = let l = length-append a.more b.more in omega (arith, l, a.few, b.few);
}

-- no more than so many more
pub adds-few : (t m n : ℕ) (xs ys : List Reached) → m ≤ n → AddsLater t m xs ys → AddsLater t n xs ys
adds-few t m n xs ys l a = record { more = a.more; kept = a.kept; later = a.later; few = omega (arith, l, a.few) }

-- ---- those that are new

-- what is new, part by part
pub add_new-append : (xs ys zs : List Reached) → add_new xs (ys ++ zs) ≡ add_new (add_new xs ys) zs
add_new-append xs [] zs = refl
add_new-append xs (y ∷ ys) zs = add_new-append (add_one xs y) ys zs

-- one row more is followed
pub row-more : (f : Record → List Reached) (rows : List Record) (i : ℕ) (r : Record) (init mid new : List Reached) → i < length rows → r ≡ get_or rows i r →
    mid ≡ add_new init (flat_map f (take i rows)) → new ≡ add_new mid (f r) → new ≡ add_new init (flat_map f (take (i + 1) rows))
row-more f rows i r init mid new b is m n =
    n
    ∙ ap (λ xs. add_new xs (f r)) m
    ∙ sym (add_new-append init (flat_map f (take i rows)) (f r))
    ∙ ap (add_new init) (ap (λ ys. flat_map f (take i rows) ++ ys) (sym (append-nil (f r))) ∙ sym (flat_map-append f (take i rows) (r ∷ [])) ∙ ap (flat_map f) (sym (take_more rows i r b ∙ ap (λ x. take i rows ++ x ∷ []) (sym is))))

-- all of a list
pub take-whole : (i : ℕ) (xs : List Record) → i ≡ length xs → take i xs ≡ xs
take-whole i xs e = ap (λ n. take n xs) e ∙ take-length xs

-- one more of a list
pub taken-more : (xs : List Record) (i : ℕ) (r x : Record) (old new : List Record) → i < length xs → r ≡ get_or xs i r → x ≡ r → old ≡ take i xs → new ≡ old ++ x ∷ [] → new ≡ take (i + 1) xs
taken-more xs i r x old new b is same e n = n ∙ ap (λ l. l ++ x ∷ []) e ∙ ap (λ y. take i xs ++ y ∷ []) (same ∙ is) ∙ sym (take_more xs i r b)

-- where the rest leads nowhere, all was added
pub cut-rest : (f : Record → List Reached) (rows : List Record) (i : ℕ) (r : Record) (init mid new : List Reached) → flat_map f (drop i rows) ≡ [] → f r ≡ [] → mid ≡ add_new init (flat_map f (take i rows)) → new ≡ add_new mid (f r) → new ≡ add_new init (flat_map f rows)
cut-rest f rows i r init mid new none here m n =
    n
    ∙ ap (add_new mid) here
    ∙ m
    ∙ ap (add_new init) (sym (append-nil (flat_map f (take i rows))) ∙ ap (λ l. flat_map f (take i rows) ++ l) (sym none) ∙ sym (flat_map-append f (take i rows) (drop i rows)) ∙ ap (flat_map f) (take-append-drop i rows))

-- what is new, one part more
pub part-more : (f : Record → List Reached) (xs ys zs : List Record) (init mid new : List Reached) → zs ≡ xs ++ ys → mid ≡ add_new init (flat_map f xs) → new ≡ add_new mid (flat_map f ys) → new ≡ add_new init (flat_map f zs)
part-more f xs ys zs init mid new e m n =
    n
    ∙ ap (λ l. add_new l (flat_map f ys)) m
    ∙ sym (add_new-append init (flat_map f xs) (flat_map f ys))
    ∙ ap (add_new init) (sym (ap (flat_map f) e ∙ flat_map-append f xs ys))
