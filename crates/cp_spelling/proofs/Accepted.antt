-- What the reading of words rests on: the scan's answers, and the text in quotation marks.
use Rattle.std.proofs.Common.{◌≡◌, ◌==◌, ◌-◌, ◌++◌, ℕ, suc, List, [], ◌∷◌, length, length-append, slice_index, Bool, true, false, ◌||◌, get_or, refl, ap, sym, ◌∙◌, rules, arith, cond, subst, append-nil, Some, None}
use Rattle.std.specs.Option.{option_and_then}
use Rattle.json.specs.Print.{quoted, escape, print, print_from, ArePrintable}
use Rattle.json.specs.Lex.{tokens}
use Rattle.json.specs.Json as json
use Rattle.json.specs.Token.{Token}
use Rattle.json.proofs.Printed.Tokens.{tokens-print}
use Rattle.serde_json.specs.Data.{string}
use Rattle.serde_json.specs.Read.{read, of_json, max_depth}
use Rattle.cp_path.specs.Spelling.{is_trigger, has_trigger, label_word}
use Rattle.cp_spelling.specs.Scan.{Accepts, StopsAt}
use Rattle.cp_spelling.specs.Reading.{IsLabelSpelling, IsPlaceSpelling, IsBadAt, SpellsString}
use Rattle.cp_spelling.specs.Words.{string_reading}
use Rattle.serde_json.specs.Find.{as_str}
use Rattle.cp_spelling.specs.declared.scan.Part.TheVariants as part
use Rattle.cp_spelling.specs.declared.scan.Spot.TheVariants as spot
use Rattle.cp_spelling.proofs.Sound.{Spelt}
use Rattle.cp_spelling.proofs.Complete.{stops, goes_through, bad_by}
use Rattle.cp_spelling.proofs.Spelled.{label_spelled, spelled_label}
use Rattle.cp_spelling.proofs.Placed.{place_spelled, spelled_place}

pub label_accepted : (w : List ℕ) → Accepts false (spot.Start part.Empty) w → IsLabelSpelling w
label_accepted w h = label_spelled w (goes_through false part.Empty w h.0 h.1 h.2)

pub label_stopped : (w : List ℕ) (at : ℕ) → StopsAt false (spot.Start part.Empty) w at → IsBadAt IsLabelSpelling w at
label_stopped w at h = bad_by (Spelt false part.Empty) IsLabelSpelling w at label_spelled spelled_label (stops false part.Empty w at refl h)

pub place_accepted : (w : List ℕ) → Accepts true (spot.Start part.Begin) w → IsPlaceSpelling w
place_accepted w h = place_spelled w (goes_through true part.Begin w h.0 h.1 h.2)

pub place_stopped : (w : List ℕ) (at : ℕ) → StopsAt true (spot.Start part.Begin) w at → IsBadAt IsPlaceSpelling w at
place_stopped w at h = bad_by (Spelt true part.Begin) IsPlaceSpelling w at place_spelled spelled_place (stops true part.Begin w at refl h)

printed_string : (s : List ℕ) → print (Token.string s ∷ []) ≡ quoted s
unfolding print_from
printed_string s = append-nil (quoted s)

can_print : (s : List ℕ) → ArePrintable (Token.string s ∷ [])
unfolding ArePrintable
can_print s = search rules

pub read_quoted : (s : List ℕ) → read (quoted s) ≡ Some (string s)
unfolding json.value
read_quoted s =
    let cut : tokens (quoted s) ≡ Token.string s ∷ [] = ap tokens (sym (printed_string s)) ∙ tokens-print (Token.string s ∷ []) (can_print s) in
    ap (λ ts. option_and_then of_json (option_and_then (λ p. json.if_last p.0 p.1) (json.value max_depth ts))) cut

quoted_or_bare : (w r : List ℕ) → w ≡ label_word r → (b : Bool) → has_trigger r ≡ b → get_or w 0 0 ≡ 34 → w ≡ quoted r
quoted_or_bare w [] e b t f = e
quoted_or_bare w (x ∷ r) e true t f = e ∙ ap (λ c. cond c (quoted (x ∷ r)) (x ∷ r)) t
quoted_or_bare w (x ∷ r) e false t f =
    let same : w ≡ x ∷ r = e ∙ ap (λ c. cond c (quoted (x ∷ r)) (x ∷ r)) t in
    let first : x ≡ 34 = ap (λ v. get_or v 0 0) (sym same) ∙ f in
    let bad : true ≡ false = sym (ap (λ y. is_trigger y || has_trigger r) first) ∙ t in absurd (cc)

last_of_quotes : (s : List ℕ) (x : ℕ) → get_or (s ++ x ∷ []) (length s) 0 ≡ x
last_of_quotes [] x = refl
last_of_quotes (y ∷ s) x = last_of_quotes s x

last_mark : (s : List ℕ) → slice_index (quoted s) (length (quoted s) - 1) ≡ 34
last_mark s =
    let n : length (quoted s) - 1 ≡ suc (length (escape s)) = omega (arith, length-append (escape s) (34 ∷ [])) in
    ap (λ k. slice_index (quoted s) k) n ∙ last_of_quotes (escape s) 34

-- what stands in quotation marks is a JSON string of the text, with nothing round it
pub quoted_spells : (s : List ℕ) → SpellsString (quoted s) s
quoted_spells s = (ap (λ x. x == 34) (last_mark s), read_quoted s)

-- behind a quotation mark stands a JSON string of the text
pub quoted_word : (w r : List ℕ) → w ≡ label_word r → get_or w 0 0 ≡ 34 → SpellsString w r
quoted_word w r e f = subst (λ v. SpellsString v r) (sym (quoted_or_bare w r e (has_trigger r) refl f)) (quoted_spells r)

-- a JSON string is read as its text
pub string_reading_spelled : (w t : List ℕ) → SpellsString w t → string_reading w ≡ Some t
string_reading_spelled w t h = ap (λ b. cond b (option_and_then as_str (read w)) None) h.0 ∙ ap (option_and_then as_str) h.1

bare_or_quoted : (w r : List ℕ) → w ≡ label_word r → (b : Bool) → has_trigger r ≡ b → ¬ (get_or w 0 0 ≡ 34) → w ≡ r
bare_or_quoted w [] e b t f = absurd (f (ap (λ v. get_or v 0 0) e))
bare_or_quoted w (x ∷ r) e true t f = absurd (f (ap (λ v. get_or v 0 0) (e ∙ ap (λ c. cond c (quoted (x ∷ r)) (x ∷ r)) t)))
bare_or_quoted w (x ∷ r) e false t f = e ∙ ap (λ c. cond c (quoted (x ∷ r)) (x ∷ r)) t

pub bare_text : (w r : List ℕ) → w ≡ label_word r → ¬ (get_or w 0 0 ≡ 34) → w ≡ r
bare_text w r e f = bare_or_quoted w r e (has_trigger r) refl f
