-- The order of keys is that of places.
use Rattle.std.proofs.Common.{arith, ◌≡◌, ◌<◌, ◌+◌, ◌∙◌, ap, sym, refl, ℕ, zero, suc, List, [], ◌∷◌, ◌++◌, append_assoc, Bool, true, false, Ordering, Less, Equal, Greater, nat_cmp}
use Rattle.std.specs.Prelude.{◌&&◌, length, nat_le, slice_index}
use Rattle.std.specs.List.{flat_map, list_all}
use Rattle.std.specs.Ordering.{ordering_then}
use Rattle.cp_path.specs.Place.{Label, Path, path_cmp}
use Rattle.cp_path.specs.Text.{text_cmp, is_letter, is_name, is_name_byte}
use Rattle.cp_path.specs.declared.limits.TheConstants.{NAME_MAX}
use Rattle.cp_page.specs.PlaceKeys.{escaped, label_key, path_key, place_key, PlaceKeysKeepOrder}

then_assoc : (a b c : Ordering) → ordering_then (ordering_then a b) c ≡ ordering_then a (ordering_then b c)
then_assoc Less b c = refl
then_assoc Equal b c = refl
then_assoc Greater b c = refl

zero_less : (y : ℕ) → nat_cmp 0 (suc y) ≡ Less
zero_less y = grind arith

zero_greater : (y : ℕ) → nat_cmp (suc y) 0 ≡ Greater
zero_greater y = grind arith

labels : (a b s t : List ℕ) → text_cmp (escaped a ++ 0 ∷ 1 ∷ s) (escaped b ++ 0 ∷ 1 ∷ t) ≡ ordering_then (text_cmp a b) (text_cmp s t)
labels [] [] s t = refl
labels [] (zero ∷ b) s t = refl
labels [] (suc y ∷ b) s t = rw (zero_less y)
labels (zero ∷ a) [] s t = refl
labels (suc x ∷ a) [] s t = rw (zero_greater x)
labels (zero ∷ a) (zero ∷ b) s t = labels a b s t
labels (zero ∷ a) (suc y ∷ b) s t = rw (zero_less y)
labels (suc x ∷ a) (zero ∷ b) s t = rw (zero_greater x)
labels (suc x ∷ a) (suc y ∷ b) s t = ap (ordering_then (nat_cmp (suc x) (suc y))) (labels a b s t) ∙ sym (then_assoc (nat_cmp (suc x) (suc y)) (text_cmp a b) (text_cmp s t))

-- the key of a path is that of its first label, and then that of the others
pub front : (a : Label) (p : Path) (s : List ℕ) → path_key (a ∷ p) ++ s ≡ escaped a ++ 0 ∷ 1 ∷ (path_key p ++ s)
front a p s =
    ap (λ l. l ++ s) (append_assoc (label_key a) (flat_map label_key p) (0 ∷ 0 ∷ []))
    ∙ append_assoc (label_key a) (path_key p) s
    ∙ append_assoc (escaped a) (0 ∷ 1 ∷ []) (path_key p ++ s)

first_less : (b : List ℕ) (s t : List ℕ) → text_cmp (0 ∷ 0 ∷ s) (escaped b ++ 0 ∷ 1 ∷ t) ≡ Less
first_less [] s t = refl
first_less (zero ∷ b) s t = refl
first_less (suc y ∷ b) s t = rw (zero_less y)

first_greater : (a : List ℕ) (s t : List ℕ) → text_cmp (escaped a ++ 0 ∷ 1 ∷ s) (0 ∷ 0 ∷ t) ≡ Greater
first_greater [] s t = refl
first_greater (zero ∷ b) s t = refl
first_greater (suc y ∷ b) s t = rw (zero_greater y)

-- keys of paths with whatever follows them compare as the paths, and of one path as what follows
pub path_keys_keep_order : (p q : Path) (s t : List ℕ) → text_cmp (path_key p ++ s) (path_key q ++ t) ≡ ordering_then (path_cmp p q) (text_cmp s t)
path_keys_keep_order [] [] s t = refl
path_keys_keep_order [] (b ∷ q) s t = rw (front b q t) (first_less b s (path_key q ++ t))
path_keys_keep_order (a ∷ p) [] s t = rw (front a p s) (first_greater a (path_key p ++ s) t)
path_keys_keep_order (a ∷ p) (b ∷ q) s t = rw (front a p s, front b q t)
    (labels a b (path_key p ++ s) (path_key q ++ t)
    ∙ ap (ordering_then (text_cmp a b)) (path_keys_keep_order p q s t)
    ∙ sym (then_assoc (text_cmp a b) (path_cmp p q) (text_cmp s t)))

-- ---- names have no zeros

pub zero_ends : (b : Bool) → (false && b) ≡ true → ⊥
zero_ends b h = cc

all_but_first : (b c : Bool) → (b && c) ≡ true → c ≡ true
all_but_first true c h = h
all_but_first false c h = cc

rest_of : (x : ℕ) (a : List ℕ) → list_all is_name_byte (suc x ∷ a) ≡ true → list_all is_name_byte a ≡ true
rest_of x a h = all_but_first (is_name_byte (suc x)) (list_all is_name_byte a) h

pub name_bytes : (a : List ℕ) → is_name a ≡ true → list_all is_name_byte a ≡ true
name_bytes a h =
    let letter = is_letter (slice_index a 0) && list_all is_name_byte a in
    all_but_first (is_letter (slice_index a 0)) (list_all is_name_byte a)
    (all_but_first (nat_le (length a) NAME_MAX) letter (all_but_first (nat_le 1 (length a)) (nat_le (length a) NAME_MAX && letter) h))

names : (a b s t : List ℕ) → list_all is_name_byte a ≡ true → list_all is_name_byte b ≡ true → text_cmp (a ++ 0 ∷ 1 ∷ s) (b ++ 0 ∷ 1 ∷ t) ≡ ordering_then (text_cmp a b) (text_cmp s t)
names [] [] s t h k = refl
names [] (zero ∷ b) s t h k = absurd (zero_ends (list_all is_name_byte b) k)
names [] (suc y ∷ b) s t h k = rw (zero_less y)
names (zero ∷ a) b s t h k = absurd (zero_ends (list_all is_name_byte a) h)
names (suc x ∷ a) [] s t h k = rw (zero_greater x)
names (suc x ∷ a) (zero ∷ b) s t h k = absurd (zero_ends (list_all is_name_byte b) k)
names (suc x ∷ a) (suc y ∷ b) s t h k =
    ap (ordering_then (nat_cmp (suc x) (suc y))) (names a b s t (rest_of x a h) (rest_of y b k))
    ∙ sym (then_assoc (nat_cmp (suc x) (suc y)) (text_cmp a b) (text_cmp s t))

pub place_keys_keep_order : PlaceKeysKeepOrder
place_keys_keep_order p q s t first second =
    ap (λ l. text_cmp l (place_key q ++ t)) (append_assoc p.db (0 ∷ 1 ∷ path_key p.path) s)
    ∙ ap (text_cmp (p.db ++ 0 ∷ 1 ∷ (path_key p.path ++ s))) (append_assoc q.db (0 ∷ 1 ∷ path_key q.path) t)
    ∙ names p.db q.db (path_key p.path ++ s) (path_key q.path ++ t) (name_bytes p.db first) (name_bytes q.db second)
    ∙ ap (ordering_then (text_cmp p.db q.db)) (path_keys_keep_order p.path q.path s t)
