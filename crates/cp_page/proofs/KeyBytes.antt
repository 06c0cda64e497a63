-- The bytes of a key come apart in one way.
use Rattle.std.proofs.Common.{arith, ◌≡◌, ◌<◌, ◌≤◌, ◌+◌, ◌∙◌, ap, sym, refl, subst, ℕ, zero, suc, List, [], ◌∷◌, ◌++◌, append_assoc, append-nil, length, length-append}
use Rattle.std.specs.List.{flat_map, AllByRecursion}
use Rattle.std.proofs.lemmas.Grind.{flat_map-append}
use Rattle.cp_path.specs.Place.{Label, Path}
use Rattle.cp_page.specs.KeyReading.{NoByte}
use Rattle.cp_page.specs.PlaceKeys.{escaped_byte, escaped, label_key, path_key}

byte_front : (x b : ℕ) (s t : List ℕ) → escaped_byte x ++ s ≡ escaped_byte b ++ t → (x ≡ b) × (s ≡ t)
byte_front zero zero s t e = (refl, cc)
byte_front zero (suc b) s t e = absurd (cc)
byte_front (suc x) zero s t e = absurd (cc)
byte_front (suc x) (suc b) s t e = (cc, cc)

front : (x : ℕ) (a t : List ℕ) → escaped (x ∷ a) ++ t ≡ escaped_byte x ++ (escaped a ++ t)
front x a t = append_assoc (escaped_byte x) (escaped a) t

-- bytes of labels that end where no byte stands
pub same_label : (l a r t : List ℕ) → NoByte r → NoByte t → escaped l ++ r ≡ escaped a ++ t → (l ≡ a) × (r ≡ t)
same_label [] [] r t first second e = (refl, e)
same_label [] (b ∷ a) r t first second e = absurd (first b (escaped a ++ t) (e ∙ front b a t))
same_label (x ∷ l) [] r t first second e = absurd (second x (escaped l ++ r) (sym e ∙ front x l r))
same_label (x ∷ l) (b ∷ a) r t first second e =
    let on = byte_front x b (escaped l ++ r) (escaped a ++ t) (sym (front x l r) ∙ e ∙ front b a t) in
    let rest = same_label l a r t first second on.1 in
    (ap (λ y. y ∷ l) on.0 ∙ ap (λ m. b ∷ m) rest.0, rest.1)

-- no byte stands at the end of a label
pub no_byte_at_end : (rest : List ℕ) → NoByte (0 ∷ 1 ∷ rest)
no_byte_at_end rest zero t e = absurd (cc)
no_byte_at_end rest (suc b) t e = absurd (cc)

-- nor at that of a path
pub no_byte_at_last : (rest : List ℕ) → NoByte (0 ∷ 0 ∷ rest)
no_byte_at_last rest zero t e = absurd (cc)
no_byte_at_last rest (suc b) t e = absurd (cc)

pub label_front : (a rest : List ℕ) → label_key a ++ rest ≡ escaped a ++ 0 ∷ 1 ∷ rest
label_front a rest = append_assoc (escaped a) (0 ∷ 1 ∷ []) rest

-- the keys of two labels with what follows them
pub same_key : (a b s t : List ℕ) → label_key a ++ s ≡ label_key b ++ t → (a ≡ b) × (s ≡ t)
same_key a b s t e =
    let found = same_label a b (0 ∷ 1 ∷ s) (0 ∷ 1 ∷ t) (no_byte_at_end s) (no_byte_at_end t) (sym (label_front a s) ∙ e ∙ label_front b t) in
    (found.0, (let on = found.1 in cc))

-- one byte more
pub one_byte : (bytes l rest next : List ℕ) (b : ℕ) → bytes ≡ escaped l ++ rest → rest ≡ escaped_byte b ++ next → bytes ≡ escaped (l ++ b ∷ []) ++ next
one_byte bytes l rest next b is on =
    is ∙ ap (λ r. escaped l ++ r) on ∙ sym (append_assoc (escaped l) (escaped_byte b) next)
    ∙ ap (λ m. m ++ next) (ap (λ m. escaped l ++ m) (sym (append-nil (escaped_byte b))) ∙ sym (flat_map-append escaped_byte l (b ∷ [])))

-- where the bytes of a label end badly, no label's key stands at the front
pub no_label : (bytes l rest : List ℕ) → bytes ≡ escaped l ++ rest → NoByte rest → ((s : List ℕ) → rest ≡ 0 ∷ 1 ∷ s → ⊥) → (a s : List ℕ) → bytes ≡ label_key a ++ s → ⊥
no_label bytes l rest is none other a s e =
    let found = same_label l a rest (0 ∷ 1 ∷ s) none (no_byte_at_end s) (sym is ∙ e ∙ label_front a s) in
    other s found.1

pub a_label : (bytes l rest after : List ℕ) → bytes ≡ escaped l ++ rest → rest ≡ 0 ∷ 1 ∷ after → bytes ≡ label_key l ++ after
a_label bytes l rest after is on = is ∙ ap (λ r. escaped l ++ r) on ∙ sym (label_front l after)

-- a byte takes one or two
pub shorter : (rest next : List ℕ) (b : ℕ) → rest ≡ escaped_byte b ++ next → length next < length rest
shorter rest next zero e = let l = ap length e in omega (arith, l)
shorter rest next (suc b) e = let l = ap length e in omega (arith, l)
