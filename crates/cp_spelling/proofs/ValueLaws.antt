-- The laws of the readings of values and of JSON strings.
use Rattle.cp_path.specs.declared.limits.TheConstants.{TEXT_MAX}
use Rattle.std.proofs.Common.{◌≡◌, ℕ, zero, suc, ◌+◌, ◌/◌, ◌%◌, not, ◌<◌, ◌≤◌, inl, ℤ, pos, negsuc, neg_ℤ, List, [], ◌∷◌, Bool, true, false, ◌&&◌, ◌||◌, ◌==◌, nat_le, length, refl, ap, sym, ◌∙◌, arith, cond, subst, codes, decimal, add-one, Option, Some, None, Result, Ok, Err, slice_index}
use Rattle.std.proofs.lemmas.Bool.{ltb-true, lt-ltb, leb-true, le-leb, ne_eqb}
use Rattle.std.proofs.lemmas.Fmt.{decimal_is_IsNumeral_wide}
use Rattle.std.proofs.lemmas.Str.Parse.{digit_from_value}
use Rattle.std.proofs.lemmas.Int.{ints}
use Rattle.std.specs.Str.Parse.{IsNumeral, digits_value, signed_digits_value}
use Rattle.std.specs.Option.{option_and_then}
use Rattle.std.specs.Cmp.Lexicographic.{nat_list_eq_equiv}
use Rattle.json.specs.Print.{quoted}
use Rattle.serde_json.specs.Data.{Data, string}
use Rattle.serde_json.specs.Data as data_of
use Rattle.serde_json.specs.Find.{as_str}
use Rattle.serde_json.specs.Read.{read}
use Rattle.cp_path.specs.Text.{text_eq}
use Rattle.cp_path.proofs.Same.{text_eq-same}
use Rattle.cp_path.specs.Whole.{IsWhole}
use Rattle.cp_path.specs.Spelling.{is_trigger, has_trigger, whole_text, value_text}
use Rattle.cp_spelling.specs.Reading.{IsNoWord, IsNoWhole, IsNoString, IsNoText, SpellsString, SpellsText, SpellsValue, is_in_quotes}
use Rattle.cp_spelling.specs.Words.{string_reading, word_reading, is_whole, whole_reading, text_reading, text_or_bad, whole_or, value_or, value_reading}
use Rattle.cp_spelling.proofs.Accepted.{quoted_spells, string_reading_spelled}
use Rattle.cp_spelling.proofs.Runs.{all_below, below}
use Rattle.cp_spelling.specs.Laws.{IsTokenShape, IsNoValue, IsValueWithin}
use Rattle.cp_spelling.proofs.WordLaws.{quoted_shape}
use Rattle.std.specs.Fmt.{digits, digits_onto, digit_glyph}
use Rattle.cp_path.specs.declared.fault.PathFault.{PathFault}
use Rattle.cp_path.specs.declared.fault.PathFault.TheVariants as fault
use Rattle.cp_path.specs.declared.value.Value.{Value}
use Rattle.cp_path.specs.declared.value.Value.TheVariants.{Null, False, True, Whole, Text}

text_differs : (v w : List ℕ) → ¬ (v ≡ w) → text_eq v w ≡ false
text_differs v w h = by (text_eq v w) refl
  where
    by : (b : Bool) → text_eq v w ≡ b → b ≡ false
    by true e = absurd (h (text_eq-same v w e))
    by false e = refl

-- ---- the three words

pub word_reading_none : (w : List ℕ) → IsNoWord w → word_reading w ≡ None
word_reading_none w h = rw (text_differs w (codes "null") h.0, text_differs w (codes "false") h.1, text_differs w (codes "true") h.2) refl

abbrev by_words : Bool → Bool → Bool → Option Value
by_words a b c = cond a (Some Null) (cond b (Some False) (cond c (Some True) None))

some_value : {A : Type 0} (a b : A) (o : Option A) → o ≡ Some a → o ≡ Some b → a ≡ b
some_value a b o e f = cc

not_both : {A P : Type 0} (a : A) (o : Option A) → o ≡ Some a → o ≡ None → P
not_both a o e f = absurd (cc)

word_spells : (w : List ℕ) (v : Value) → word_reading w ≡ Some v → SpellsValue w v
word_spells w v h = by (text_eq w (codes "null")) (text_eq w (codes "false")) (text_eq w (codes "true")) refl refl refl h
  where
    by : (a b c : Bool) → text_eq w (codes "null") ≡ a → text_eq w (codes "false") ≡ b → text_eq w (codes "true") ≡ c → by_words a b c ≡ Some v → SpellsValue w v
    by true b c e f g k = subst (SpellsValue w) (some_value Null v (Some Null) refl k) (text_eq-same w (codes "null") e)
    by false true c e f g k = subst (SpellsValue w) (some_value False v (Some False) refl k) (text_eq-same w (codes "false") f)
    by false false true e f g k = subst (SpellsValue w) (some_value True v (Some True) refl k) (text_eq-same w (codes "true") g)
    by false false false e f g k = absurd (cc)

word_null : word_reading (codes "null") ≡ Some Null
word_null = refl

word_false : word_reading (codes "false") ≡ Some False
word_false = refl

word_true : word_reading (codes "true") ≡ Some True
word_true = refl

-- no value of the three is spelled by a word that is none of them
none_of_three : (w : List ℕ) → word_reading w ≡ None → IsNoWord w
none_of_three w h = (
  λ e. not_both Null (word_reading w) (ap word_reading e ∙ word_null) h,
  λ e. not_both False (word_reading w) (ap word_reading e ∙ word_false) h,
  λ e. not_both True (word_reading w) (ap word_reading e ∙ word_true) h,
)

-- ---- whole numbers

is_whole-so : (n : ℤ) → is_whole n ≡ true → IsWhole n
is_whole-so (pos n) h = let l = ltb-true n 18446744073709551616 h in (omega (arith, ints), omega (arith, ints, l))
is_whole-so (negsuc n) h = let l = ltb-true n 9223372036854775808 h in (omega (arith, ints, l), omega (arith, ints))

whole-is_whole : (n : ℤ) → IsWhole n → is_whole n ≡ true
whole-is_whole (pos n) h = let l : n < 18446744073709551616 = omega (arith, ints, h.1) in lt-ltb n 18446744073709551616 l
whole-is_whole (negsuc n) h = let l : n < 9223372036854775808 = omega (arith, ints, h.0) in lt-ltb n 9223372036854775808 l

-- digits are read as their number, and behind a minus as its negative
abbrev FirstDigit : List ℕ → Type 0
FirstDigit ds = (x : ℕ) × (r : List ℕ) × (ds ≡ x ∷ r) × (48 ≤ x) × (x ≤ 57)

first_digit : (ds : List ℕ) → IsNumeral 10 ds → FirstDigit ds
first_digit [] h = absurd (omega (arith, h.0))
first_digit (x ∷ r) h = let d = digit_from_value x h.1.0 in (x, r, refl, d.0, d.1)

plain_value : (ds : List ℕ) → FirstDigit ds → signed_digits_value 10 ds ≡ pos (digits_value 10 ds)
plain_value ds h = subst (λ v. signed_digits_value 10 v ≡ pos (digits_value 10 v)) (sym h.2) (rw (ne_eqb h.0 45 (λ e. omega (arith, h.3)), ne_eqb h.0 43 (λ e. omega (arith, h.3))) refl)

whole_value : (n : ℤ) → IsWhole n → signed_digits_value 10 (whole_text n) ≡ n
whole_value (pos n) fits =
    let small : n < 18446744073709551616 = omega (arith, ints, fits.1) in
    let k = decimal_is_IsNumeral_wide n (omega arith) in
    plain_value (decimal n) (first_digit (decimal n) k.0) ∙ ap pos k.1
whole_value (negsuc n) fits =
    let small : n < 9223372036854775808 = omega (arith, ints, fits.0) in
    let k = decimal_is_IsNumeral_wide (suc n) (omega arith) in
    ap (λ m. signed_digits_value 10 (45 ∷ decimal m)) (add-one n) ∙ ap (λ m. neg_ℤ (pos m)) k.1

pub whole_reading_spelled : (w : List ℕ) (n : ℤ) → IsWhole n → w ≡ whole_text n → whole_reading w ≡ Some n
whole_reading_spelled w n fits e =
    let value : signed_digits_value 10 w ≡ n = ap (signed_digits_value 10) e ∙ whole_value n fits in
    let same : text_eq w (whole_text n) ≡ true = ap (λ v. text_eq v (whole_text n)) e ∙ nat_list_eq_equiv.refl (whole_text n) in
    ap (λ m. cond (is_whole m && text_eq w (whole_text m)) (Some m) None) value ∙ rw (whole-is_whole n fits, same) refl

whole_spells : (w : List ℕ) (n : ℤ) → whole_reading w ≡ Some n → IsWhole n × (w ≡ whole_text n)
whole_spells w n h = by (signed_digits_value 10 w) (is_whole (signed_digits_value 10 w)) (text_eq w (whole_text (signed_digits_value 10 w))) refl refl h
  where
    by : (m : ℤ) (a b : Bool) → is_whole m ≡ a → text_eq w (whole_text m) ≡ b → cond (a && b) (Some m) None ≡ Some n → IsWhole n × (w ≡ whole_text n)
    by m true true e f k =
        let same = some_value m n (Some m) refl k in
        (subst IsWhole same (is_whole-so m e), text_eq-same w (whole_text m) f ∙ ap whole_text same)
    by m true false e f k = absurd (cc)
    by m false b e f k = absurd (cc)

pub whole_reading_none : (w : List ℕ) → IsNoWhole w → whole_reading w ≡ None
whole_reading_none w h = by (whole_reading w) refl
  where
    by : (o : Option ℤ) → whole_reading w ≡ o → o ≡ None
    by None e = refl
    by (Some n) e = let s = whole_spells w n e in absurd (h n s.0 s.1)

no_whole : (w : List ℕ) → whole_reading w ≡ None → IsNoWhole w
no_whole w h = λ n fits e. not_both n (whole_reading w) (whole_reading_spelled w n fits e) h

-- ---- texts

pub string_reads_back : (t : List ℕ) → string_reading (quoted t) ≡ Some t
string_reads_back t = string_reading_spelled (quoted t) t (quoted_spells t)

as_string : (d : Data) (t : List ℕ) → as_str d ≡ Some t → d ≡ string t
as_string data_of.null t e = absurd (cc)
as_string (data_of.boolean b) t e = absurd (cc)
as_string (data_of.number n) t e = absurd (cc)
as_string (data_of.string s) t e = ap string (some_value s t (Some s) refl e)
as_string (data_of.array ds) t e = absurd (cc)
as_string (data_of.object ms) t e = absurd (cc)

pub string_spells : (w t : List ℕ) → string_reading w ≡ Some t → SpellsString w t
string_spells w t h = by (is_in_quotes w) refl h
  where
    at : (o : Option Data) → option_and_then as_str o ≡ Some t → o ≡ Some (string t)
    at None k = absurd (cc)
    at (Some d) k = ap (λ v. Some v) (as_string d t k)

    by : (b : Bool) → is_in_quotes w ≡ b → cond b (option_and_then as_str (read w)) None ≡ Some t → SpellsString w t
    by true e k = (e, at (read w) k)
    by false e k = absurd (cc)

pub string_reading_none : (w : List ℕ) → IsNoString w → string_reading w ≡ None
string_reading_none w h = by (string_reading w) refl
  where
    by : (o : Option (List ℕ)) → string_reading w ≡ o → o ≡ None
    by None e = refl
    by (Some t) e = absurd (h t (string_spells w t e))

abbrev bounded : List ℕ → Option (List ℕ)
bounded t = cond (nat_le (length t) TEXT_MAX) (Some t) None

pub text_reading_spelled : (w t : List ℕ) → SpellsText w t → text_reading w ≡ Some t
text_reading_spelled w t h = ap (option_and_then bounded) (string_reading_spelled w t h.0) ∙ rw (le-leb (length t) TEXT_MAX h.1) refl

text_spells : (w t : List ℕ) → text_reading w ≡ Some t → SpellsText w t
text_spells w t h = by (string_reading w) refl h
  where
    at : (s : List ℕ) → string_reading w ≡ Some s → (b : Bool) → nat_le (length s) TEXT_MAX ≡ b → cond b (Some s) None ≡ Some t → SpellsText w t
    at s e true f k = subst (SpellsText w) (some_value s t (Some s) refl k) (string_spells w s e, leb-true (length s) TEXT_MAX f)
    at s e false f k = absurd (cc)

    by : (o : Option (List ℕ)) → string_reading w ≡ o → option_and_then bounded o ≡ Some t → SpellsText w t
    by None e k = absurd (cc)
    by (Some s) e k = at s e (nat_le (length s) TEXT_MAX) refl k

pub text_reading_none : (w : List ℕ) → IsNoText w → text_reading w ≡ None
text_reading_none w h = by (text_reading w) refl
  where
    by : (o : Option (List ℕ)) → text_reading w ≡ o → o ≡ None
    by None e = refl
    by (Some t) e = absurd (h t (text_spells w t e))

no_text : (w : List ℕ) → text_reading w ≡ None → IsNoText w
no_text w h = λ t s. not_both t (text_reading w) (text_reading_spelled w t s) h

-- ---- values

abbrev Reading : Type 0
Reading = Result Value PathFault

ok_value : (p q : Value) (r : Reading) → r ≡ Ok p → r ≡ Ok q → p ≡ q
ok_value p q r e f = cc

-- a word that is read as a value spells it
pub value_read : (w : List ℕ) (v : Value) → value_reading w ≡ Ok v → SpellsValue w v
value_read w v h = by (word_reading w) refl h
  where
    third : (o : Option (List ℕ)) → text_reading w ≡ o → text_or_bad o ≡ Ok v → SpellsValue w v
    third None e k = absurd (cc)
    third (Some t) e k = subst (SpellsValue w) (ok_value (Text t) v (Ok (Text t)) refl k) (text_spells w t e)

    second : (o : Option ℤ) → whole_reading w ≡ o → whole_or (text_or_bad (text_reading w)) o ≡ Ok v → SpellsValue w v
    second None e k = third (text_reading w) refl k
    second (Some n) e k = subst (SpellsValue w) (ok_value (Whole n) v (Ok (Whole n)) refl k) (whole_spells w n e)

    by : (o : Option Value) → word_reading w ≡ o → value_or (whole_or (text_or_bad (text_reading w)) (whole_reading w)) o ≡ Ok v → SpellsValue w v
    by None e k = second (whole_reading w) refl k
    by (Some u) e k = subst (SpellsValue w) (ok_value u v (Ok u) refl k) (word_spells w u e)

none_spelled : (w : List ℕ) → IsNoWord w → IsNoWhole w → IsNoText w → IsNoValue w
none_spelled w a b c Null h = a.0 h
none_spelled w a b c False h = a.1 h
none_spelled w a b c True h = a.2 h
none_spelled w a b c (Whole n) h = b n h.0 h.1
none_spelled w a b c (Text t) h = c t h

err_fault : (e f : PathFault) (r : Reading) → r ≡ Err e → r ≡ Err f → e ≡ f
err_fault e f r h k = cc

-- a word that is read as no value spells none
pub value_refused : (w : List ℕ) (e : PathFault) → value_reading w ≡ Err e → (e ≡ fault.BadValue) × IsNoValue w
value_refused w f h = by (word_reading w) refl h
  where
    third : IsNoWord w → IsNoWhole w → (o : Option (List ℕ)) → text_reading w ≡ o → text_or_bad o ≡ Err f → (f ≡ fault.BadValue) × IsNoValue w
    third a b None e k = (err_fault f fault.BadValue (Err fault.BadValue) k refl, none_spelled w a b (no_text w e))
    third a b (Some t) e k = absurd (cc)

    second : IsNoWord w → (o : Option ℤ) → whole_reading w ≡ o → whole_or (text_or_bad (text_reading w)) o ≡ Err f → (f ≡ fault.BadValue) × IsNoValue w
    second a None e k = third a (no_whole w e) (text_reading w) refl k
    second a (Some n) e k = absurd (cc)

    by : (o : Option Value) → word_reading w ≡ o → value_or (whole_or (text_or_bad (text_reading w)) (whole_reading w)) o ≡ Err f → (f ≡ fault.BadValue) × IsNoValue w
    by None e k = second (none_of_three w e) (whole_reading w) refl k
    by (Some u) e k = absurd (cc)

-- the reading of a word by what comes before
pub value_reading_word : (w : List ℕ) (v : Value) → word_reading w ≡ Some v → value_reading w ≡ Ok v
value_reading_word w v h = ap (value_or (whole_or (text_or_bad (text_reading w)) (whole_reading w))) h

pub value_reading_whole : (w : List ℕ) (n : ℤ) → word_reading w ≡ None → whole_reading w ≡ Some n → value_reading w ≡ Ok (Whole n)
value_reading_whole w n h k = ap (value_or (whole_or (text_or_bad (text_reading w)) (whole_reading w))) h ∙ ap (whole_or (text_or_bad (text_reading w))) k

pub value_reading_text : (w : List ℕ) → word_reading w ≡ None → whole_reading w ≡ None → value_reading w ≡ text_or_bad (text_reading w)
value_reading_text w h k = ap (value_or (whole_or (text_or_bad (text_reading w)) (whole_reading w))) h ∙ ap (whole_or (text_or_bad (text_reading w))) k

no_letter : (w : List ℕ) → slice_index w 0 < 58 → IsNoWord w
no_letter w h = (
  λ e. let bad : slice_index w 0 ≡ 110 = ap (λ v. slice_index v 0) e in omega arith,
  λ e. let bad : slice_index w 0 ≡ 102 = ap (λ v. slice_index v 0) e in omega arith,
  λ e. let bad : slice_index w 0 ≡ 116 = ap (λ v. slice_index v 0) e in omega arith,
)

whole_first : (n : ℤ) → IsWhole n → (45 ≤ slice_index (whole_text n) 0) × (slice_index (whole_text n) 0 < 58)
whole_first (pos n) fits =
    let small : n < 18446744073709551616 = omega (arith, ints, fits.1) in
    let k = decimal_is_IsNumeral_wide n (omega arith) in
    let d = first_digit (decimal n) k.0 in
    let same : slice_index (decimal n) 0 ≡ d.0 = ap (λ v. slice_index v 0) d.2 in
    (omega (arith, d.3), omega (arith, d.3))
whole_first (negsuc n) fits = (omega arith, omega arith)

pub value_reads_back : (v : Value) → IsValueWithin v → value_reading (value_text v) ≡ Ok v
value_reads_back Null h = value_reading_word (codes "null") Null word_null
value_reads_back False h = value_reading_word (codes "false") False word_false
value_reads_back True h = value_reading_word (codes "true") True word_true
value_reads_back (Whole n) h =
    let first = whole_first n h in
    value_reading_whole (whole_text n) n (word_reading_none (whole_text n) (no_letter (whole_text n) first.1)) (whole_reading_spelled (whole_text n) n h refl)
value_reads_back (Text t) h =
    let none : IsNoWhole (quoted t) = λ n fits e. let first = whole_first n fits in let same : 34 ≡ slice_index (whole_text n) 0 = ap (λ v. slice_index v 0) e in omega (arith, first.0) in
    value_reading_text (quoted t) (word_reading_none (quoted t) (no_letter (quoted t) (omega arith))) (whole_reading_none (quoted t) none)
    ∙ ap text_or_bad (text_reading_spelled (quoted t) t (quoted_spells t, h))

-- two values are never spelled alike
pub value_spelled_once : (u v : Value) → IsValueWithin u → IsValueWithin v → value_text u ≡ value_text v → u ≡ v
value_spelled_once u v h k e = ok_value u v (value_reading (value_text u)) (value_reads_back u h) (ap value_reading e ∙ value_reads_back v k)

-- ---- what a spelling looks like

glyphs_tried : all_below (λ d. not (is_trigger (digit_glyph false d))) 10 ≡ true
glyphs_tried = refl

glyph : (n : ℕ) → is_trigger (digit_glyph false (n % 10)) ≡ false
glyph n =
    let small : n % 10 < 10 = omega arith in
    let tried : not (is_trigger (digit_glyph false (n % 10))) ≡ true = below (λ d. not (is_trigger (digit_glyph false d))) 10 glyphs_tried (n % 10) small in
    by (is_trigger (digit_glyph false (n % 10))) tried
  where
    by : (b : Bool) → not b ≡ true → b ≡ false
    by true e = cc
    by false e = refl

one_more : (n : ℕ) (acc : List ℕ) → has_trigger acc ≡ false → has_trigger (digit_glyph false (n % 10) ∷ acc) ≡ false
one_more n acc h = ap (λ b. b || has_trigger acc) (glyph n) ∙ h

abbrev IsBare : List ℕ → Type 0
IsBare w = (0 < length w) × (has_trigger w ≡ false)

bare_digits : (k n : ℕ) (acc : List ℕ) → IsBare acc → IsBare (digits_onto k 10 false n acc)
bare_digits zero n acc h = h
bare_digits (suc k) n acc h = by (n / 10 == 0) (bare_digits k (n / 10) (digit_glyph false (n % 10) ∷ acc) (omega arith, one_more n acc h.1))
  where
    by : (b : Bool) → IsBare (digits_onto k 10 false (n / 10) (digit_glyph false (n % 10) ∷ acc))
        → IsBare (cond b (digit_glyph false (n % 10) ∷ acc) (digits_onto k 10 false (n / 10) (digit_glyph false (n % 10) ∷ acc)))
    by true f = (omega arith, one_more n acc h.1)
    by false f = f

bare_decimal : (n : ℕ) → IsBare (decimal n)
unfolding digits
bare_decimal n = by (n / 10 == 0) (bare_digits 63 (n / 10) (digit_glyph false (n % 10) ∷ []) (omega arith, one_more n [] refl))
  where
    by : (b : Bool) → IsBare (digits_onto 63 10 false (n / 10) (digit_glyph false (n % 10) ∷ []))
        → IsBare (cond b (digit_glyph false (n % 10) ∷ []) (digits_onto 63 10 false (n / 10) (digit_glyph false (n % 10) ∷ [])))
    by true f = (omega arith, one_more n [] refl)
    by false f = f

pub value_shape : (v : Value) → IsTokenShape (value_text v)
value_shape Null = (omega arith, inl refl)
value_shape False = (omega arith, inl refl)
value_shape True = (omega arith, inl refl)
value_shape (Whole (pos n)) = let b = bare_decimal n in (b.0, inl b.1)
value_shape (Whole (negsuc n)) = let b = bare_decimal (n + 1) in (omega arith, inl b.1)
value_shape (Text t) = quoted_shape t
