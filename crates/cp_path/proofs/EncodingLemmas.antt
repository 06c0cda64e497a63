-- The bytes of labels, paths, names and places in stored data, each behind its length or number.
use Rattle.std.specs.Prelude.{ℕ, ◌≡◌, List, [], ◌∷◌, ◌++◌, length, refl}
use Rattle.std.specs.List.{flat_map}
use Rattle.std.proofs.Common.{sym, ap, ◌∙◌, append_assoc, arith}
use Rattle.cp_path.specs.Place.{Path}
use Rattle.cp_path.specs.Encoding.{counted_bytes, path_bytes, NoneBeginsAnother}

-- two lists of one length that are followed by something are the same
same_front : (a b xs ys : List ℕ) → length a ≡ length b → a ++ xs ≡ b ++ ys → (a ≡ b) × (xs ≡ ys)
same_front [] [] xs ys l e = (refl, e)
same_front [] (y ∷ b) xs ys l e = absurd (cc)
same_front (x ∷ a) [] xs ys l e = absurd (cc)
same_front (x ∷ a) (y ∷ b) xs ys l e =
    let head : x ≡ y = cc in
    let tail : a ++ xs ≡ b ++ ys = cc in
    let rest = same_front a b xs ys (omega (arith, l)) tail in
    (ap (λ z. z ∷ a) head ∙ ap (λ z. y ∷ z) rest.0, rest.1)

-- counted bytes don't begin other counted bytes
pub counted_front : (a b xs ys : List ℕ) → counted_bytes a ++ xs ≡ counted_bytes b ++ ys → (a ≡ b) × (xs ≡ ys)
counted_front a b xs ys e =
    let size : length a ≡ length b = cc in
    let rest : a ++ xs ≡ b ++ ys = cc in
    same_front a b xs ys size rest

-- as many labels, one after another
labels_front : (p q : Path) (xs ys : List ℕ) → length p ≡ length q → flat_map counted_bytes p ++ xs ≡ flat_map counted_bytes q ++ ys → (p ≡ q) × (xs ≡ ys)
labels_front [] [] xs ys l e = (refl, e)
labels_front [] (b ∷ q) xs ys l e = absurd (cc)
labels_front (a ∷ p) [] xs ys l e = absurd (cc)
labels_front (a ∷ p) (b ∷ q) xs ys l e =
    let first = counted_front a b (flat_map counted_bytes p ++ xs) (flat_map counted_bytes q ++ ys) (sym (append_assoc (counted_bytes a) (flat_map counted_bytes p) xs) ∙ e ∙ append_assoc (counted_bytes b) (flat_map counted_bytes q) ys) in
    let rest = labels_front p q xs ys (omega (arith, l)) first.1 in
    (ap (λ z. z ∷ p) first.0 ∙ ap (λ z. b ∷ z) rest.0, rest.1)

-- what follows the one also follows the other
pub none_begins_another : NoneBeginsAnother
none_begins_another p q xs ys e =
    let name = counted_front p.db q.db (path_bytes p.path ++ xs) (path_bytes q.path ++ ys) (sym (append_assoc (counted_bytes p.db) (path_bytes p.path) xs) ∙ e ∙ append_assoc (counted_bytes q.db) (path_bytes q.path) ys) in
    let size : length p.path ≡ length q.path = ap (λ (bs : List ℕ). first_of bs) name.1 in
    let more : flat_map counted_bytes p.path ++ xs ≡ flat_map counted_bytes q.path ++ ys = ap (λ (bs : List ℕ). rest_of bs) name.1 in
    let labels = labels_front p.path q.path xs ys size more in
    let db = name.0 in
    let path = labels.0 in
    (λ i. record { db = db i; path = path i }, labels.1)
  where
    first_of : List ℕ → ℕ
    first_of [] = 0
    first_of (x ∷ xs) = x

    rest_of : List ℕ → List ℕ
    rest_of [] = []
    rest_of (x ∷ xs) = xs
