-- Where the scan stands: what the word was so far, and the text that it spells.
use Rattle.cp_path.specs.declared.limits.TheConstants.{NAME_MAX}
use Rattle.std.proofs.Common.{◌≡◌, ℕ, ◌+◌, ◌<◌, ◌≤◌, List, [], ◌∷◌, ◌++◌, Bool, true, false, ◌&&◌, ◌||◌, ◌==◌, nat_lt, not, length, refl, ap, sym, ◌∙◌, arith, cond, Option, Some, None, subst, append-nil, append_assoc, length-append}
use Rattle.std.proofs.lemmas.Bool.{and_parts, ltb-false, eqb-true, ne_eqb}
use Rattle.std.proofs.lemmas.Bool.Decides.{nat_tests}
use Rattle.std.proofs.lemmas.Grind.{flat_map-append}
use Rattle.std.specs.Option.{option_map}
use Rattle.std.specs.Char.{digit_value}
use Rattle.json.specs.Print.{escape_byte, escape, quoted}
use Rattle.cp_path.specs.Text.{text_eq, is_letter, is_name_byte}
use Rattle.cp_path.proofs.Same.{text_eq-same}
use Rattle.cp_path.specs.Spelling.{is_trigger, has_trigger, label_word}
use Rattle.cp_spelling.specs.Scan.{part_step, label_step, step, scan_over, bare_step, quoted_step, escape_step, is_label, closes, may_end, accepts, ends_low, ends_high, is_letter_escape}
use Rattle.cp_spelling.proofs.ScanLemmas.{part_run}
use Rattle.cp_spelling.specs.declared.scan.Part.{Part}
use Rattle.cp_spelling.specs.declared.scan.Part.TheVariants as part
use Rattle.cp_spelling.specs.declared.scan.Spot.{Spot}
use Rattle.cp_spelling.specs.declared.scan.Spot.TheVariants as spot
use Rattle.cp_spelling.proofs.Runs.{part_more, trigger_more, if_split, map_split, all_below, below, when, next_part, next_spot, part_run_one, or_false}

-- ---- bytes and their escapes, by trying each

-- the byte that stands for itself in quotation marks
pub plain_escape : (x : ℕ) → (x == 34) ≡ false → (x == 92) ≡ false → nat_lt x 32 ≡ false → escape_byte x ≡ x ∷ []
unfolding escape_byte
plain_escape x q b c =
    let large : 32 ≤ x = ltb-false x 32 c in
    rw (q, b, ne_eqb x 8 (λ e. omega arith), ne_eqb x 12 (λ e. omega arith), ne_eqb x 10 (λ e. omega arith), ne_eqb x 13 (λ e. omega arith), ne_eqb x 9 (λ e. omega arith), c) refl

-- the byte that `\` and this letter stand for
abbrev letter_byte : ℕ → ℕ
letter_byte x = cond (x == 34) 34 (cond (x == 98) 8 (cond (x == 102) 12 (cond (x == 110) 10 (cond (x == 114) 13 9))))

-- the byte c is written so in quotation marks, asks for them, and is neither `~` nor `/`
abbrev is_written : ℕ → List ℕ → Bool
is_written c w = text_eq w (escape_byte c) && (is_trigger c && (not (c == 126) && not (c == 47)))

abbrev Written : ℕ → List ℕ → Type 0
Written c w = (w ≡ escape_byte c) × (is_trigger c ≡ true) × ((c == 126) ≡ false) × ((c == 47) ≡ false)

not_true : (b : Bool) → not b ≡ true → b ≡ false
not_true true e = cc
not_true false e = refl

written : (c : ℕ) (w : List ℕ) → is_written c w ≡ true → Written c w
written c w h =
    let a = and_parts (text_eq w (escape_byte c)) _ h in
    let b = and_parts (is_trigger c) _ a.1 in
    let d = and_parts (not (c == 126)) _ b.1 in
    (text_eq-same w (escape_byte c) a.0, b.0, not_true (c == 126) d.0, not_true (c == 47) d.1)

letters_tried : all_below (λ x. not (is_letter_escape x) || is_written (letter_byte x) (92 ∷ x ∷ [])) 117 ≡ true
unfolding escape_byte
letters_tried = refl

low_tried : all_below (λ x. not (ends_low x) || is_written (digit_value x) (92 ∷ 117 ∷ 48 ∷ 48 ∷ 48 ∷ x ∷ [])) 117 ≡ true
unfolding escape_byte
low_tried = refl

high_tried : all_below (λ x. not (ends_high x) || is_written (digit_value x + 16) (92 ∷ 117 ∷ 48 ∷ 48 ∷ 49 ∷ x ∷ [])) 117 ≡ true
unfolding escape_byte
high_tried = refl

small_letter : (x : ℕ) → is_letter_escape x ≡ true → x < 117
small_letter x h = grind (arith, nat_tests)

small_low : (x : ℕ) → ends_low x ≡ true → x < 117
small_low x h = grind (arith, nat_tests)

small_high : (x : ℕ) → ends_high x ≡ true → x < 117
small_high x h = grind (arith, nat_tests)

pub letter_written : (x : ℕ) → is_letter_escape x ≡ true → Written (letter_byte x) (92 ∷ x ∷ [])
letter_written x h = written (letter_byte x) (92 ∷ x ∷ []) (when (is_letter_escape x) (is_written (letter_byte x) (92 ∷ x ∷ [])) (below (λ x. not (is_letter_escape x) || is_written (letter_byte x) (92 ∷ x ∷ [])) 117 letters_tried x (small_letter x h)) h)

pub low_written : (x : ℕ) → ends_low x ≡ true → Written (digit_value x) (92 ∷ 117 ∷ 48 ∷ 48 ∷ 48 ∷ x ∷ [])
low_written x h = written (digit_value x) (92 ∷ 117 ∷ 48 ∷ 48 ∷ 48 ∷ x ∷ []) (when (ends_low x) (is_written (digit_value x) (92 ∷ 117 ∷ 48 ∷ 48 ∷ 48 ∷ x ∷ [])) (below (λ x. not (ends_low x) || is_written (digit_value x) (92 ∷ 117 ∷ 48 ∷ 48 ∷ 48 ∷ x ∷ [])) 117 low_tried x (small_low x h)) h)

pub high_written : (x : ℕ) → ends_high x ≡ true → Written (digit_value x + 16) (92 ∷ 117 ∷ 48 ∷ 48 ∷ 49 ∷ x ∷ [])
high_written x h = written (digit_value x + 16) (92 ∷ 117 ∷ 48 ∷ 48 ∷ 49 ∷ x ∷ []) (when (ends_high x) (is_written (digit_value x + 16) (92 ∷ 117 ∷ 48 ∷ 48 ∷ 49 ∷ x ∷ [])) (below (λ x. not (ends_high x) || is_written (digit_value x + 16) (92 ∷ 117 ∷ 48 ∷ 48 ∷ 49 ∷ x ∷ [])) 117 high_tried x (small_high x h)) h)

backslash_escape : escape_byte 92 ≡ 92 ∷ 92 ∷ []
unfolding escape_byte
backslash_escape = refl

-- ---- where the scan stands

-- inside quotation marks: the text so far, then the bytes of an escape that is not ended
abbrev pub Held : Bool → Part → List ℕ → Part → Bool → List ℕ → Type 0
Held d s pend p t w = (r : List ℕ) × (w ≡ 34 ∷ (escape r ++ pend)) × (part_run d s r ≡ Some p) × (has_trigger r ≡ t)

abbrev pub HeldLabel : Bool → Part → List ℕ → List ℕ → Type 0
HeldLabel d s pend w = (p : Part) × (t : Bool) × (is_label p ≡ true) × Held d s pend p t w

abbrev pub Seen : Bool → Part → Spot → List ℕ → Type 0
Seen d s (spot.Start p) w = (w ≡ []) × (p ≡ s)
Seen d s (spot.Bare p) w = (part_run d s w ≡ Some p) × (has_trigger w ≡ false) × (0 < length w)
Seen d s (spot.Quoted p t) w = Held d s [] p t w
Seen d s (spot.Backslash t) w = (p : Part) × (is_label p ≡ true) × Held d s (92 ∷ []) p t w
Seen d s spot.Unicode w = HeldLabel d s (92 ∷ 117 ∷ []) w
Seen d s spot.Zero w = HeldLabel d s (92 ∷ 117 ∷ 48 ∷ []) w
Seen d s spot.Zeros w = HeldLabel d s (92 ∷ 117 ∷ 48 ∷ 48 ∷ []) w
Seen d s spot.Low w = HeldLabel d s (92 ∷ 117 ∷ 48 ∷ 48 ∷ 48 ∷ []) w
Seen d s spot.High w = HeldLabel d s (92 ∷ 117 ∷ 48 ∷ 48 ∷ 49 ∷ []) w
Seen d s spot.Ended w = (r : List ℕ) × (p : Part) × (w ≡ quoted r) × (part_run d s r ≡ Some p) × (closes p (has_trigger r) ≡ true)

some_same : (a b : Spot) → Some a ≡ Some b → a ≡ b
some_same a b e = cc

none_some : {P : Type 0} (u : Spot) → None ≡ Some u → P
none_some u e = absurd (cc)

-- the next byte of an escape
pend_more : (d : Bool) (s : Part) (pend : List ℕ) (p : Part) (t : Bool) (w : List ℕ) (x : ℕ) → Held d s pend p t w → Held d s (pend ++ x ∷ []) p t (w ++ x ∷ [])
pend_more d s pend p t w x h = (h.0, ap (λ v. v ++ x ∷ []) h.1 ∙ ap (λ v. 34 ∷ v) (append_assoc (escape h.0) pend (x ∷ [])), h.2, h.3)

label_pend : (d : Bool) (s : Part) (pend w : List ℕ) (x : ℕ) → HeldLabel d s pend w → HeldLabel d s (pend ++ x ∷ []) (w ++ x ∷ [])
label_pend d s pend w x h = (h.0, h.1, h.2, pend_more d s pend h.0 h.1 w x h.3)

-- the last byte of an escape, or a byte that stands for itself
escape_done : (d : Bool) (s : Part) (pend : List ℕ) (p q : Part) (t : Bool) (w : List ℕ) (x c : ℕ)
    → Held d s pend p t w → pend ++ x ∷ [] ≡ escape_byte c → part_step d p c ≡ Some q → Held d s [] q (t || is_trigger c) (w ++ x ∷ [])
escape_done d s pend p q t w x c h e g =
    let r = h.0 in (
      r ++ c ∷ [],
      ap (λ v. v ++ x ∷ []) h.1
          ∙ ap (λ v. 34 ∷ v) (append_assoc (escape r) pend (x ∷ []) ∙ ap (λ v. escape r ++ v) (e ∙ sym (append-nil (escape_byte c))) ∙ sym (flat_map-append escape_byte r (c ∷ [])) ∙ sym (append-nil (escape (r ++ c ∷ [])))),
      part_more d s p q r c h.2 g,
      trigger_more r c ∙ ap (λ b. b || is_trigger c) h.3,
    )

label_takes : (d : Bool) (p : Part) (c : ℕ) → is_label p ≡ true → (c == 126) ≡ false → (c == 47) ≡ false → part_step d p c ≡ Some part.Label
label_takes d part.Begin c h t s = cc
label_takes d (part.Name n) c h t s = cc
label_takes d part.Tilde c h t s = cc
label_takes d part.Empty c h t s = rw (t, s) refl
label_takes d part.Label c h t s = rw (t, s) refl

or_true : (b : Bool) → (b || true) ≡ true
or_true true = refl
or_true false = refl

escape_written : (d : Bool) (s : Part) (pend w : List ℕ) (x c : ℕ) → HeldLabel d s pend w → Written c (pend ++ x ∷ []) → Held d s [] part.Label true (w ++ x ∷ [])
escape_written d s pend w x c h g =
    let now = escape_done d s pend h.0 part.Label h.1 w x c h.3 g.0 (label_takes d h.0 c h.2 g.2 g.3) in
    subst (λ b. Held d s [] part.Label b (w ++ x ∷ [])) (ap (λ b. h.1 || b) g.1 ∙ or_true h.1) now

-- ---- one byte more

bare_seen : (d : Bool) (s p : Part) (x : ℕ) (u : Spot) (w : List ℕ) → part_run d s w ≡ Some p → has_trigger w ≡ false → bare_step d p x ≡ Some u → Seen d s u (w ++ x ∷ [])
bare_seen d s p x u w e t h = if_split (is_trigger x) None (option_map spot.Bare (part_step d p x)) u h
    (λ f n. none_some u n)
    (λ f n. let q = map_split spot.Bare (part_step d p x) u n in
    subst (λ v. Seen d s v (w ++ x ∷ [])) q.2
    (part_more d s p q.0 w x e q.1, trigger_more w x ∙ ap (λ b. b || is_trigger x) t ∙ f, omega (arith, length-append w (x ∷ []))))

inside_seen : (d : Bool) (s p : Part) (t : Bool) (x : ℕ) (u : Spot) (w : List ℕ) → Held d s [] p t w → quoted_step d p t x ≡ Some u → Seen d s u (w ++ x ∷ [])
inside_seen d s p t x u w h g =
    let plain : Option Spot = option_map (λ q. spot.Quoted q (t || is_trigger x)) (part_step d p x) in
    let third : Option Spot = cond (nat_lt x 32) None plain in
    let second : Option Spot = cond (x == 92) (cond (is_label p) (Some (spot.Backslash t)) None) third in
    if_split (x == 34) (cond (closes p t) (Some spot.Ended) None) second u g
    (λ e n. if_split (closes p t) (Some spot.Ended) None u n
    (λ k m. subst (λ v. Seen d s v (w ++ x ∷ [])) (some_same spot.Ended u m)
    (h.0, p, ap (λ v. v ++ x ∷ []) h.1 ∙ ap (λ v. 34 ∷ v) (append_assoc (escape h.0) [] (x ∷ []) ∙ ap (λ y. escape h.0 ++ y ∷ []) (eqb-true x 34 e)), h.2, subst (λ b. closes p b ≡ true) (sym h.3) k))
    (λ k m. none_some u m))
    (λ e n. if_split (x == 92) (cond (is_label p) (Some (spot.Backslash t)) None) third u n
    (λ f m. if_split (is_label p) (Some (spot.Backslash t)) None u m
    (λ k o. subst (λ v. Seen d s v (w ++ x ∷ [])) (some_same (spot.Backslash t) u o)
    (p, k, subst (λ y. Held d s (y ∷ []) p t (w ++ x ∷ [])) (eqb-true x 92 f) (pend_more d s [] p t w x h)))
    (λ k o. none_some u o))
    (λ f m. if_split (nat_lt x 32) None plain u m
    (λ l o. none_some u o)
    (λ l o. let q = map_split (λ q. spot.Quoted q (t || is_trigger x)) (part_step d p x) u o in
    subst (λ v. Seen d s v (w ++ x ∷ [])) q.2 (escape_done d s [] p q.0 t w x x h (sym (plain_escape x e f l)) q.1))))

pend_to : (d : Bool) (s : Part) (pend w : List ℕ) (x y : ℕ) → HeldLabel d s pend w → (x == y) ≡ true → HeldLabel d s (pend ++ y ∷ []) (w ++ x ∷ [])
pend_to d s pend w x y h e = subst (λ z. HeldLabel d s (pend ++ z ∷ []) (w ++ x ∷ [])) (eqb-true x y e) (label_pend d s pend w x h)

escape_seen : (d : Bool) (s p : Part) (t : Bool) (x : ℕ) (u : Spot) (w : List ℕ) → is_label p ≡ true → Held d s (92 ∷ []) p t w → escape_step t x ≡ Some u → Seen d s u (w ++ x ∷ [])
escape_seen d s p t x u w k h g =
    let third : Option Spot = cond (x == 117) (Some spot.Unicode) None in
    let second : Option Spot = cond (is_letter_escape x) (Some (spot.Quoted part.Label true)) third in
    if_split (x == 92) (Some (spot.Quoted part.Label t)) second u g
    (λ e n. subst (λ v. Seen d s v (w ++ x ∷ [])) (some_same (spot.Quoted part.Label t) u n)
    (subst (λ b. Held d s [] part.Label b (w ++ x ∷ [])) (or_false t)
    (escape_done d s (92 ∷ []) p part.Label t w x 92 h (ap (λ y. 92 ∷ y ∷ []) (eqb-true x 92 e) ∙ sym backslash_escape) (label_takes d p 92 k refl refl))))
    (λ e n. if_split (is_letter_escape x) (Some (spot.Quoted part.Label true)) third u n
    (λ f m. subst (λ v. Seen d s v (w ++ x ∷ [])) (some_same (spot.Quoted part.Label true) u m)
    (escape_written d s (92 ∷ []) w x (letter_byte x) (p, t, k, h) (letter_written x f)))
    (λ f m. if_split (x == 117) (Some spot.Unicode) None u m
    (λ l o. subst (λ v. Seen d s v (w ++ x ∷ [])) (some_same spot.Unicode u o) (pend_to d s (92 ∷ []) w x 117 (p, t, k, h) l))
    (λ l o. none_some u o)))

seen_step : (d : Bool) (s : Part) (t : Spot) (x : ℕ) (u : Spot) (w : List ℕ) → Seen d s t w → step d t x ≡ Some u → Seen d s u (w ++ x ∷ [])
seen_step d s (spot.Start p) x u w h g = if_split (x == 34) (Some (spot.Quoted p false)) (bare_step d p x) u g
    (λ e n. subst (λ v. Seen d s v (w ++ x ∷ [])) (some_same (spot.Quoted p false) u n)
    ([], ap (λ v. v ++ x ∷ []) h.0 ∙ ap (λ y. y ∷ []) (eqb-true x 34 e), ap (λ q. Some q) (sym h.1), refl))
    (λ e n. bare_seen d s p x u w (ap (part_run d s) h.0 ∙ ap (λ q. Some q) (sym h.1)) (ap has_trigger h.0) n)
seen_step d s (spot.Bare p) x u w h g = bare_seen d s p x u w h.0 h.1 g
seen_step d s (spot.Quoted p t) x u w h g = inside_seen d s p t x u w h g
seen_step d s (spot.Backslash t) x u w h g = escape_seen d s h.0 t x u w h.1 h.2 g
seen_step d s spot.Unicode x u w h g = if_split (x == 48) (Some spot.Zero) None u g
    (λ e n. subst (λ v. Seen d s v (w ++ x ∷ [])) (some_same spot.Zero u n) (pend_to d s (92 ∷ 117 ∷ []) w x 48 h e))
    (λ e n. none_some u n)
seen_step d s spot.Zero x u w h g = if_split (x == 48) (Some spot.Zeros) None u g
    (λ e n. subst (λ v. Seen d s v (w ++ x ∷ [])) (some_same spot.Zeros u n) (pend_to d s (92 ∷ 117 ∷ 48 ∷ []) w x 48 h e))
    (λ e n. none_some u n)
seen_step d s spot.Zeros x u w h g = if_split (x == 48) (Some spot.Low) (cond (x == 49) (Some spot.High) None) u g
    (λ e n. subst (λ v. Seen d s v (w ++ x ∷ [])) (some_same spot.Low u n) (pend_to d s (92 ∷ 117 ∷ 48 ∷ 48 ∷ []) w x 48 h e))
    (λ e n. if_split (x == 49) (Some spot.High) None u n
    (λ f m. subst (λ v. Seen d s v (w ++ x ∷ [])) (some_same spot.High u m) (pend_to d s (92 ∷ 117 ∷ 48 ∷ 48 ∷ []) w x 49 h f))
    (λ f m. none_some u m))
seen_step d s spot.Low x u w h g = if_split (ends_low x) (Some (spot.Quoted part.Label true)) None u g
    (λ e n. subst (λ v. Seen d s v (w ++ x ∷ [])) (some_same (spot.Quoted part.Label true) u n)
    (escape_written d s (92 ∷ 117 ∷ 48 ∷ 48 ∷ 48 ∷ []) w x (digit_value x) h (low_written x e)))
    (λ e n. none_some u n)
seen_step d s spot.High x u w h g = if_split (ends_high x) (Some (spot.Quoted part.Label true)) None u g
    (λ e n. subst (λ v. Seen d s v (w ++ x ∷ [])) (some_same (spot.Quoted part.Label true) u n)
    (escape_written d s (92 ∷ 117 ∷ 48 ∷ 48 ∷ 49 ∷ []) w x (digit_value x + 16) h (high_written x e)))
    (λ e n. none_some u n)
seen_step d s spot.Ended x u w h g = none_some u g

seen_on : (d : Bool) (s : Part) (t u : Spot) (v w : List ℕ) → Seen d s t v → scan_over d t w ≡ Some u → Seen d s u (v ++ w)
seen_on d s t u v [] h g = subst (λ a. Seen d s u a) (sym (append-nil v)) (subst (λ a. Seen d s a v) (some_same t u g) h)
seen_on d s t u v (x ∷ w) h g =
    let n = next_spot d t u x w g in
    subst (λ a. Seen d s u a) (append_assoc v (x ∷ []) w) (seen_on d s n.0 u (v ++ x ∷ []) w (seen_step d s t x n.0 v h n.1) n.2)

pub seen : (d : Bool) (s : Part) (u : Spot) (w : List ℕ) → scan_over d (spot.Start s) w ≡ Some u → Seen d s u w
seen d s u w e = seen_on d s (spot.Start s) u [] w (refl, refl) e

-- ---- where the scan may end, the word is a spelling

-- a text that the parts take, and its spelling
abbrev pub Spelt : Bool → Part → List ℕ → Type 0
Spelt d s w = (r : List ℕ) × (p : Part) × (part_run d s r ≡ Some p) × (may_end p ≡ true) × (w ≡ label_word r)

never : (b : Bool) (m n : Option Part) → (m ≡ Some part.Empty → ⊥) → (n ≡ Some part.Empty → ⊥) → cond b m n ≡ Some part.Empty → ⊥
never true m n f g e = f e
never false m n f g e = g e

never_label : (d : Bool) (x : ℕ) → label_step d x ≡ Some part.Empty → ⊥
never_label d x e =
    never (x == 126) (Some part.Tilde) (cond ((x == 47) && not d) None (Some part.Label)) (λ h. cc)
    (λ h. never ((x == 47) && not d) None (Some part.Label) (λ k. cc) (λ k. cc) h) e

never_empty : (d : Bool) (p : Part) (x : ℕ) → part_step d p x ≡ Some part.Empty → ⊥
never_empty d part.Begin x e = never (is_letter x) (Some (part.Name 1)) None (λ h. cc) (λ h. cc) e
never_empty d (part.Name n) x e =
    never (x == 47) (Some part.Label) (cond (nat_lt n NAME_MAX && is_name_byte x) (Some (part.Name (n + 1))) None) (λ h. cc)
    (λ h. never (nat_lt n NAME_MAX && is_name_byte x) (Some (part.Name (n + 1))) None (λ k. cc) (λ k. cc) h) e
never_empty d part.Empty x e = never_label d x e
never_empty d part.Label x e = never_label d x e
never_empty d part.Tilde x e = never ((x == 48) || (x == 49)) (Some part.Label) None (λ h. cc) (λ h. cc) e

empty_first : (d : Bool) (s : Part) (x : ℕ) (w : List ℕ) → part_run d s (x ∷ w) ≡ Some part.Empty → ⊥
empty_first d s x [] e = never_empty d s x (sym (part_run_one d s x) ∙ e)
empty_first d s x (y ∷ w) e = let n = next_part d s part.Empty x (y ∷ w) e in empty_first d n.0 y w n.2

closes_ends : (p : Part) (t : Bool) → closes p t ≡ true → may_end p ≡ true
closes_ends part.Begin t e = e
closes_ends (part.Name n) t e = refl
closes_ends part.Empty t e = refl
closes_ends part.Label t e = refl
closes_ends part.Tilde t e = e

closed_word : (d : Bool) (s p : Part) (r : List ℕ) → part_run d s r ≡ Some p → closes p (has_trigger r) ≡ true → quoted r ≡ label_word r
closed_word d s p [] e h = refl
closed_word d s part.Begin (x ∷ r) e h = cc
closed_word d s (part.Name n) (x ∷ r) e h = let P : Bool → Type 0 = λ b. quoted (x ∷ r) ≡ cond b (quoted (x ∷ r)) (x ∷ r) in subst P (sym h) refl
closed_word d s part.Tilde (x ∷ r) e h = cc
closed_word d s part.Empty (x ∷ r) e h = absurd (empty_first d s x r e)
closed_word d s part.Label (x ∷ r) e h = let P : Bool → Type 0 = λ b. quoted (x ∷ r) ≡ cond b (quoted (x ∷ r)) (x ∷ r) in subst P (sym h) refl

bare_word : (w : List ℕ) → has_trigger w ≡ false → 0 < length w → w ≡ label_word w
bare_word [] t l = absurd (omega arith)
bare_word (x ∷ w) t l = let P : Bool → Type 0 = λ b. x ∷ w ≡ cond b (quoted (x ∷ w)) (x ∷ w) in subst P (sym t) refl

pub spelt : (d : Bool) (s : Part) (u : Spot) (w : List ℕ) → Seen d s u w → accepts u ≡ true → Spelt d s w
spelt d s (spot.Start p) w h a = cc
spelt d s (spot.Bare p) w h a = (w, p, h.0, a, bare_word w h.1 h.2)
spelt d s (spot.Quoted p t) w h a = cc
spelt d s (spot.Backslash t) w h a = cc
spelt d s spot.Unicode w h a = cc
spelt d s spot.Zero w h a = cc
spelt d s spot.Zeros w h a = cc
spelt d s spot.Low w h a = cc
spelt d s spot.High w h a = cc
spelt d s spot.Ended w h a = (h.0, h.1, h.3, closes_ends h.1 (has_trigger h.0) h.4, h.2 ∙ closed_word d s h.1 h.0 h.3 h.4)
