-- The texts that the parts take are those of places and of labels.
use Rattle.std.proofs.Common.{◌≡◌, ℕ, List, [], ◌∷◌, ◌++◌, Bool, true, false, ◌&&◌, ◌||◌, ◌==◌, refl, ap, sym, ◌∙◌, cond, Option, Some, None, subst, append-nil, append_assoc}
use Rattle.std.proofs.lemmas.Bool.{eqb-true}
use Rattle.std.proofs.lemmas.Grind.{flat_map-append}
use Rattle.cp_path.specs.Place.{Label}
use Rattle.cp_path.specs.Spelling.{escape_label_byte, escaped_text, label_word, label_text}
use Rattle.cp_spelling.specs.Scan.{part_step, label_step, may_end, is_label}
use Rattle.cp_spelling.proofs.ScanLemmas.{part_run}
use Rattle.cp_spelling.specs.Reading.{IsLabelSpelling}
use Rattle.cp_spelling.specs.declared.scan.Part.{Part}
use Rattle.cp_spelling.specs.declared.scan.Part.TheVariants as part
use Rattle.cp_spelling.proofs.Runs.{part_run_on, next_part}
use Rattle.cp_spelling.proofs.Sound.{Spelt}

pub part_split : {P : Type 0} (b : Bool) (m n : Option Part) (u : Part) → cond b m n ≡ Some u → (b ≡ true → m ≡ Some u → P) → (b ≡ false → n ≡ Some u → P) → P
part_split true m n u h f g = f refl h
part_split false m n u h f g = g refl h

pub same_part : (a b : Part) → Some a ≡ Some b → a ≡ b
same_part a b e = cc

pub no_part : {P : Type 0} (u : Part) → None ≡ Some u → P
no_part u e = absurd (cc)

-- ---- behind the bytes pre: an escaped label, and one with a `~` behind it

abbrev pub InLabel : List ℕ → List ℕ → Type 0
InLabel pre r = (a : Label) × (r ≡ pre ++ escaped_text a)

abbrev pub InTilde : List ℕ → List ℕ → Type 0
InTilde pre r = (a : Label) × (r ≡ pre ++ (escaped_text a ++ 126 ∷ []))

one_more : (a : Label) (c : ℕ) → escaped_text (a ++ c ∷ []) ≡ escaped_text a ++ escape_label_byte c
one_more a c = flat_map-append escape_label_byte a (c ∷ []) ∙ ap (λ v. escaped_text a ++ v) (append-nil (escape_label_byte c))

pub grow : (pre r : List ℕ) (x : ℕ) → InLabel pre r → (x == 126) ≡ false → (x == 47) ≡ false → InLabel pre (r ++ x ∷ [])
grow pre r x h t s =
    let itself : escape_label_byte x ≡ x ∷ [] = rw (t, s) refl in
    (h.0 ++ x ∷ [], ap (λ v. v ++ x ∷ []) h.1 ∙ append_assoc pre (escaped_text h.0) (x ∷ []) ∙ ap (λ v. pre ++ v) (ap (λ v. escaped_text h.0 ++ v) (sym itself) ∙ sym (one_more h.0 x)))

pub tilde : (pre r : List ℕ) (x : ℕ) → InLabel pre r → (x == 126) ≡ true → InTilde pre (r ++ x ∷ [])
tilde pre r x h t = (h.0, ap (λ v. v ++ x ∷ []) h.1 ∙ append_assoc pre (escaped_text h.0) (x ∷ []) ∙ ap (λ y. pre ++ (escaped_text h.0 ++ y ∷ [])) (eqb-true x 126 t))

untilde_with : (pre r : List ℕ) (x y c : ℕ) → InTilde pre r → (x == y) ≡ true → escape_label_byte c ≡ 126 ∷ y ∷ [] → InLabel pre (r ++ x ∷ [])
untilde_with pre r x y c h e w = (
  h.0 ++ c ∷ [],
  ap (λ v. v ++ x ∷ []) h.1 ∙ append_assoc pre (escaped_text h.0 ++ 126 ∷ []) (x ∷ [])
      ∙ ap (λ v. pre ++ v) (append_assoc (escaped_text h.0) (126 ∷ []) (x ∷ []) ∙ ap (λ z. escaped_text h.0 ++ (126 ∷ z ∷ [])) (eqb-true x y e) ∙ ap (λ v. escaped_text h.0 ++ v) (sym w) ∙ sym (one_more h.0 c)),
)

pub untilde : (pre r : List ℕ) (x : ℕ) → InTilde pre r → ((x == 48) || (x == 49)) ≡ true → InLabel pre (r ++ x ∷ [])
untilde pre r x h e = by (x == 48) refl e
  where
    by : (b : Bool) → (x == 48) ≡ b → (b || (x == 49)) ≡ true → InLabel pre (r ++ x ∷ [])
    by true f g = untilde_with pre r x 48 126 h f refl
    by false f g = untilde_with pre r x 49 47 h g refl

-- ---- a label that stands alone

abbrev AtLabel : Part → List ℕ → Type 0
AtLabel part.Begin r = ⊥
AtLabel (part.Name n) r = ⊥
AtLabel part.Empty r = r ≡ []
AtLabel part.Label r = InLabel [] r
AtLabel part.Tilde r = InTilde [] r

in_label : (x : ℕ) (q : Part) (r : List ℕ) → InLabel [] r → label_step false x ≡ Some q → AtLabel q (r ++ x ∷ [])
in_label x q r h e = part_split (x == 126) (Some part.Tilde) (cond ((x == 47) && true) None (Some part.Label)) q e
    (λ f n. subst (λ v. AtLabel v (r ++ x ∷ [])) (same_part part.Tilde q n) (tilde [] r x h f))
    (λ f n. part_split ((x == 47) && true) None (Some part.Label) q n
    (λ g m. no_part q m)
    (λ g m. subst (λ v. AtLabel v (r ++ x ∷ [])) (same_part part.Label q m) (grow [] r x h f (and_true (x == 47) g))))
  where
    and_true : (b : Bool) → (b && true) ≡ false → b ≡ false
    and_true true k = k
    and_true false k = refl

label_more : (p q : Part) (x : ℕ) (r : List ℕ) → AtLabel p r → part_step false p x ≡ Some q → AtLabel q (r ++ x ∷ [])
label_more part.Begin q x r h e = absurd h
label_more (part.Name n) q x r h e = absurd h
label_more part.Empty q x r h e = in_label x q r ([], h) e
label_more part.Label q x r h e = in_label x q r h e
label_more part.Tilde q x r h e = part_split ((x == 48) || (x == 49)) (Some part.Label) None q e
    (λ f n. subst (λ v. AtLabel v (r ++ x ∷ [])) (same_part part.Label q n) (untilde [] r x h f))
    (λ f n. no_part q n)

label_on : (p q : Part) (r w : List ℕ) → AtLabel p r → part_run false p w ≡ Some q → AtLabel q (r ++ w)
label_on p q r [] h e = subst (λ a. AtLabel q a) (sym (append-nil r)) (subst (λ a. AtLabel a r) (same_part p q e) h)
label_on p q r (x ∷ w) h e =
    let n = next_part false p q x w e in
    subst (λ a. AtLabel q a) (append_assoc r (x ∷ []) w) (label_on n.0 q (r ++ x ∷ []) w (label_more p n.0 x r h n.1) n.2)

label_ends : (p : Part) (r : List ℕ) → AtLabel p r → may_end p ≡ true → InLabel [] r
label_ends part.Begin r h e = absurd h
label_ends (part.Name n) r h e = absurd h
label_ends part.Empty r h e = ([], h)
label_ends part.Label r h e = h
label_ends part.Tilde r h e = cc

pub label_spelled : (w : List ℕ) → Spelt false part.Empty w → IsLabelSpelling w
label_spelled w h =
    let l = label_ends h.1 h.0 (label_on part.Empty h.1 [] h.0 refl h.2) h.3 in
    (l.0, h.4 ∙ ap label_word l.1)

byte_run : (d : Bool) (p : Part) (x : ℕ) → is_label p ≡ true → part_run d p (escape_label_byte x) ≡ Some part.Label
byte_run d p x l = by (x == 126) (x == 47) refl refl p l
  where
    by : (b c : Bool) → (x == 126) ≡ b → (x == 47) ≡ c → (q : Part) → is_label q ≡ true → part_run d q (escape_label_byte x) ≡ Some part.Label
    by true c e f part.Empty k = rw e refl
    by true c e f part.Label k = rw e refl
    by false true e f part.Empty k = rw (e, f) refl
    by false true e f part.Label k = rw (e, f) refl
    by false false e f part.Empty k = rw (e, f) (rw (e, f) refl)
    by false false e f part.Label k = rw (e, f) (rw (e, f) refl)
    by b c e f part.Begin k = cc
    by b c e f (part.Name n) k = cc
    by b c e f part.Tilde k = cc

pub label_run : (d : Bool) (a : Label) → part_run d part.Label (escaped_text a) ≡ Some part.Label
label_run d [] = refl
label_run d (x ∷ a) = part_run_on d part.Label part.Label (escape_label_byte x) (escaped_text a) (byte_run d part.Label x refl) ∙ label_run d a

pub spelled_label : (w : List ℕ) → IsLabelSpelling w → Spelt false part.Empty w
spelled_label w h = subst (Spelt false part.Empty) (sym h.1) (by h.0)
  where
    by : (a : Label) → Spelt false part.Empty (label_text a)
    by [] = ([], part.Empty, refl, refl, refl)
    by (x ∷ a) = (escaped_text (x ∷ a), part.Label, part_run_on false part.Empty part.Label (escape_label_byte x) (escaped_text a) (byte_run false part.Empty x refl) ∙ label_run false a, refl, refl)
