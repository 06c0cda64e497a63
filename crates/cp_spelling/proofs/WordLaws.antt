-- The laws of the readings of places and labels: what was written is read back, a word spells one thing, and what a fault says of its word.
use Rattle.cp_path.specs.declared.limits.TheConstants.{LABELS_MAX, LABEL_MAX, LOC_MAX}
use Rattle.std.proofs.Common.{◌≡◌, ℕ, suc, ◌≤◌, ◌⊎◌, inl, inr, List, [], ◌∷◌, Bool, true, false, ◌==◌, nat_lt, length, take, slice_get, refl, ap, sym, ◌∙◌, arith, cond, subst, Option, Some, None, Result, Ok, Err, slice_index, slice_index_or}
use Rattle.std.proofs.lemmas.Bool.{ltb-true, ltb-false, lt-ltb, eqb-true}
use Rattle.std.proofs.lemmas.Bool.Decides.{nat_tests}
use Rattle.std.specs.Option.{option_map, option_and_then, unwrap_or}
use Rattle.json.specs.Print.{quoted}
use Rattle.cp_path.specs.Text.{is_name}
use Rattle.cp_path.specs.Place.{Label, size}
use Rattle.cp_path.specs.Spelling.{escaped_text, raw_place, label_word, label_text, place_text, has_trigger}
use Rattle.cp_spelling.specs.Scan.{step, scan_over, accepts, Accepts, StopsAt, pieces, place_from}
use Rattle.cp_spelling.specs.Reading.{any_long, IsLabelSpelling, IsPlaceSpelling, SpellsPlace, IsBadAt, IsOver, PlaceFault, LabelFault}
use Rattle.cp_spelling.specs.Words.{string_reading, unquoted_text, is_accepted, reach, place_within, place_reading, label_within, label_reading}
use Rattle.cp_path.specs.declared.loc.Loc.{Loc}
use Rattle.cp_path.specs.declared.fault.PathFault.{PathFault}
use Rattle.cp_path.specs.declared.fault.PathFault.TheVariants as fault
use Rattle.cp_spelling.specs.declared.scan.Part.TheVariants as part
use Rattle.cp_spelling.specs.declared.scan.Spot.{Spot}
use Rattle.cp_spelling.specs.declared.scan.Spot.TheVariants as spot
use Rattle.cp_spelling.proofs.Placed.{word_place}
use Rattle.cp_spelling.proofs.PiecesLemmas.{pieces_of_label, pieces_of_place}
use Rattle.cp_spelling.proofs.Accepted.{label_accepted, label_stopped, place_accepted, place_stopped, quoted_word, bare_text, string_reading_spelled}
use Rattle.cp_spelling.specs.Laws.{IsSpelling, IsTokenShape}

-- ---- the scan as a function

accepted_accepts : (d : Bool) (s : Spot) (w : List ℕ) → is_accepted d s w ≡ true → Accepts d s w
accepted_accepts d s w h = by (scan_over d s w) refl h
  where
    by : (o : Option Spot) → scan_over d s w ≡ o → unwrap_or (option_map accepts o) false ≡ true → Accepts d s w
    by None r e = cc
    by (Some t) r e = (t, r, e)

-- the scan stands after that many bytes, and goes no further, or may not end there
abbrev Halts : Bool → Spot → List ℕ → ℕ → Type 0
Halts d t w at = ((at ≡ length w) × (accepts t ≡ false)) ⊎ ((y : ℕ) × (slice_get w at ≡ Some y) × (step d t y ≡ None))

further : (d : Bool) (t : Spot) (x : ℕ) (w : List ℕ) (at : ℕ) → Halts d t w at → Halts d t (x ∷ w) (suc at)
further d t x w at (inl k) = inl (ap suc k.0, k.1)
further d t x w at (inr k) = inr k

reach_next : (d : Bool) (s : Spot) (x : ℕ) (w : List ℕ) (o : Option Spot) → step d s x ≡ o → reach d s (x ∷ w) ≡ unwrap_or (option_map (λ t. suc (reach d t w)) o) 0
reach_next d s x w o h = ap (λ o. unwrap_or (option_map (λ t. suc (reach d t w)) o) 0) h

halts_here : (d : Bool) (s : Spot) (x : ℕ) (w : List ℕ) → step d s x ≡ None → StopsAt d s (x ∷ w) (reach d s (x ∷ w))
halts_here d s x w h = subst (StopsAt d s (x ∷ w)) (sym (reach_next d s x w None h)) (s, refl, inr (x, refl, h))

halts_later : (d : Bool) (s u : Spot) (x : ℕ) (w : List ℕ) → step d s x ≡ Some u → StopsAt d u w (reach d u w) → StopsAt d s (x ∷ w) (reach d s (x ∷ w))
halts_later d s u x w h k =
    subst (StopsAt d s (x ∷ w)) (sym (reach_next d s x w (Some u) h))
    (k.0, ap (λ o. option_and_then (λ t. scan_over d t (take (reach d u w) w)) o) h ∙ k.1, further d k.0 x w (reach d u w) k.2)

accepted_next : (d : Bool) (s u : Spot) (x : ℕ) (w : List ℕ) → step d s x ≡ Some u → is_accepted d s (x ∷ w) ≡ is_accepted d u w
accepted_next d s u x w h = ap (λ o. unwrap_or (option_map accepts (option_and_then (λ t. scan_over d t w) o)) false) h

reach_stops : (d : Bool) (s : Spot) (w : List ℕ) → is_accepted d s w ≡ false → StopsAt d s w (reach d s w)
reach_stops d s [] e = (s, refl, inl (refl, e))
reach_stops d s (x ∷ w) e = by (step d s x) refl (λ u k. reach_stops d u w k)
  where
    by : (o : Option Spot) → step d s x ≡ o → ((u : Spot) → is_accepted d u w ≡ false → StopsAt d u w (reach d u w)) → StopsAt d s (x ∷ w) (reach d s (x ∷ w))
    by None h f = halts_here d s x w h
    by (Some u) h f = halts_later d s u x w h (f u (sym (accepted_next d s u x w h) ∙ e))

-- a word is bad at one byte only
bad_once : (S : List ℕ → Type 0) (w : List ℕ) (m n : ℕ) → IsBadAt S w m → IsBadAt S w n → m ≡ n
bad_once S w m n f g = by (nat_lt m n) (nat_lt n m) refl refl
  where
    by : (b c : Bool) → nat_lt m n ≡ b → nat_lt n m ≡ c → m ≡ n
    by true c h k = absurd (f.3 n (ltb-true m n h) g.1 g.2)
    by false true h k = absurd (g.3 m (ltb-true n m k) f.1 f.2)
    by false false h k = omega (arith, ltb-false m n h, ltb-false n m k)

-- what a spelling's quotation marks hold
pub unquoted_spelling : (w r : List ℕ) → w ≡ label_word r → unquoted_text w ≡ r
unquoted_spelling w r e = by (slice_index w 0 == 34) refl
  where
    by : (b : Bool) → (slice_index w 0 == 34) ≡ b → unquoted_text w ≡ r
    by true h =
        ap (λ c. cond c (unwrap_or (string_reading w) []) w) h ∙ ap (λ o. unwrap_or o []) (string_reading_spelled w r (quoted_word w r e (eqb-true (slice_index w 0) 34 h)))
    by false h = ap (λ c. cond c (unwrap_or (string_reading w) []) w) h ∙ bare_text w r e (λ k. let bad : true ≡ false = sym (ap (λ x. x == 34) k) ∙ h in cc)

-- ---- places

place_bad : (w : List ℕ) → is_accepted true (spot.Start part.Begin) w ≡ false → IsBadAt IsPlaceSpelling w (reach true (spot.Start part.Begin) w)
place_bad w e = place_stopped w (reach true (spot.Start part.Begin) w) (reach_stops true (spot.Start part.Begin) w e)

place_goes : (w : List ℕ) → IsPlaceSpelling w → is_accepted true (spot.Start part.Begin) w ≡ true
place_goes w h = by (is_accepted true (spot.Start part.Begin) w) refl
  where
    by : (b : Bool) → is_accepted true (spot.Start part.Begin) w ≡ b → b ≡ true
    by true e = refl
    by false e = absurd ((place_bad w e).0 h)

-- a spelling is read as its place, unless that is over a limit
pub place_reading_spelled : (w : List ℕ) (q : Loc) → SpellsPlace w q → place_reading w ≡ place_within q
place_reading_spelled w q h =
    let text : unquoted_text w ≡ raw_place q = unquoted_spelling w (raw_place q) (h.1 ∙ sym (word_place q h.0)) in
    ap (λ b. cond b (place_within (place_from (pieces false [] (unquoted_text w)))) (Err (fault.BadEscape (reach true (spot.Start part.Begin) w)))) (place_goes w (q, h))
    ∙ ap place_within (ap (λ v. place_from (pieces false [] v)) text ∙ ap place_from (pieces_of_place q h.0))

place_reading-bad : (w : List ℕ) → is_accepted true (spot.Start part.Begin) w ≡ false → place_reading w ≡ Err (fault.BadEscape (reach true (spot.Start part.Begin) w))
place_reading-bad w e = ap (λ b. cond b (place_within (place_from (pieces false [] (unquoted_text w)))) (Err (fault.BadEscape (reach true (spot.Start part.Begin) w)))) e

not_over : (m n : ℕ) → n ≤ m → nat_lt m n ≡ false
not_over m n h = grind (arith, nat_tests)

pub place_within_limits : (q : Loc) → any_long q.path ≡ false → length q.path ≤ LABELS_MAX → size q ≤ LOC_MAX → place_within q ≡ Ok q
place_within_limits q short few small = rw (short, not_over LABELS_MAX (length q.path) few, not_over LOC_MAX (size q) small) refl

pub place_reads_back : (q : Loc) → is_name q.db ≡ true → any_long q.path ≡ false → length q.path ≤ LABELS_MAX → size q ≤ LOC_MAX → place_reading (place_text q) ≡ Ok q
place_reads_back q name short few small = place_reading_spelled (place_text q) q (name, refl) ∙ place_within_limits q short few small

-- within every limit of a place
abbrev IsWithinLimits : Loc → Type 0
IsWithinLimits q = (size q ≤ LOC_MAX) × (length q.path ≤ LABELS_MAX) × (any_long q.path ≡ false)

abbrev Read : Type 0 → Type 0
Read A = Result A PathFault

same_value : {A : Type 0} (p q : A) (r : Read A) → r ≡ Ok p → r ≡ Ok q → p ≡ q
same_value p q r e f = cc

same_fault : {A : Type 0} (e f : PathFault) (r : Read A) → r ≡ Err e → r ≡ Err f → e ≡ f
same_fault e f r h k = cc

abbrev by_limits : Bool → Bool → Bool → Loc → Result Loc PathFault
by_limits a b c q = cond a (Err fault.LabelTooLong) (cond b (Err fault.TooDeep) (cond c (Err fault.PathTooLong) (Ok q)))

within_is : (p q : Loc) → place_within p ≡ Ok q → (p ≡ q) × IsWithinLimits p
within_is p q h = by (any_long p.path) (nat_lt LABELS_MAX (length p.path)) (nat_lt LOC_MAX (size p)) refl refl refl h
  where
    by : (a b c : Bool) → any_long p.path ≡ a → nat_lt LABELS_MAX (length p.path) ≡ b → nat_lt LOC_MAX (size p) ≡ c → by_limits a b c p ≡ Ok q → (p ≡ q) × IsWithinLimits p
    by true b c e f g k = absurd (cc)
    by false true c e f g k = absurd (cc)
    by false false true e f g k = absurd (cc)
    by false false false e f g k = (same_value p q (Ok p) refl k, (ltb-false LOC_MAX (size p) g, ltb-false LABELS_MAX (length p.path) f, e))

within_not : (q : Loc) (e : PathFault) → place_within q ≡ Err e → IsOver e q
within_not q e h = by (any_long q.path) (nat_lt LABELS_MAX (length q.path)) (nat_lt LOC_MAX (size q)) refl refl refl h
  where
    by : (a b c : Bool) → any_long q.path ≡ a → nat_lt LABELS_MAX (length q.path) ≡ b → nat_lt LOC_MAX (size q) ≡ c → by_limits a b c q ≡ Err e → IsOver e q
    by true b c f g k m = subst (λ v. IsOver v q) (same_fault {A = Loc} fault.LabelTooLong e (Err fault.LabelTooLong) refl m) f
    by false true c f g k m = subst (λ v. IsOver v q) (same_fault {A = Loc} fault.TooDeep e (Err fault.TooDeep) refl m) (f, ltb-true LABELS_MAX (length q.path) g)
    by false false true f g k m = subst (λ v. IsOver v q) (same_fault {A = Loc} fault.PathTooLong e (Err fault.PathTooLong) refl m) (f, ltb-false LABELS_MAX (length q.path) g, ltb-true LOC_MAX (size q) k)
    by false false false f g k m = absurd (cc)

over_within : (e : PathFault) (q : Loc) → IsOver e q → (e ≡ fault.Memory) ⊎ (place_within q ≡ Err e)
over_within (fault.BadEscape at) q h = absurd h
over_within fault.LabelTooLong q h = inr (rw h refl)
over_within fault.TooDeep q h = inr (rw (h.0, lt-ltb LABELS_MAX (length q.path) h.1) refl)
over_within fault.PathTooLong q h = inr (rw (h.0, not_over LABELS_MAX (length q.path) h.1, lt-ltb LOC_MAX (size q) h.2) refl)
over_within fault.BadValue q h = absurd h
over_within fault.BadName q h = absurd h
over_within fault.Memory q h = inl refl

pub over_fault : (e : PathFault) (q : Loc) (w : List ℕ) → SpellsPlace w q → IsOver e q → PlaceFault e w
over_fault (fault.BadEscape at) q w s o = absurd o
over_fault fault.LabelTooLong q w s o = (q, s, o)
over_fault fault.TooDeep q w s o = (q, s, o)
over_fault fault.PathTooLong q w s o = (q, s, o)
over_fault fault.BadValue q w s o = o
over_fault fault.BadName q w s o = o
over_fault fault.Memory q w s o = o

spelling_of : (w : List ℕ) (p q : Loc) → SpellsPlace w p → (p ≡ q) × IsWithinLimits p → IsSpelling w q
spelling_of w p q s k = subst (IsSpelling w) k.0 (sym s.1, k.1.0, k.1.1, s.0, k.1.2)

-- a word that is read as a place is its spelling
pub place_read : (w : List ℕ) (q : Loc) → place_reading w ≡ Ok q → IsSpelling w q
place_read w q h = by (is_accepted true (spot.Start part.Begin) w) refl
  where
    by : (b : Bool) → is_accepted true (spot.Start part.Begin) w ≡ b → IsSpelling w q
    by true e =
        let p = place_accepted w (accepted_accepts true (spot.Start part.Begin) w e) in
        spelling_of w p.0 q p.1 (within_is p.0 q (sym (place_reading_spelled w p.0 p.1) ∙ h))
    by false e = let bad : Err (fault.BadEscape (reach true (spot.Start part.Begin) w)) ≡ Ok q = sym (place_reading-bad w e) ∙ h in absurd (cc)

-- why a word is read as no place
pub place_refused : (w : List ℕ) (e : PathFault) → place_reading w ≡ Err e → PlaceFault e w
place_refused w f h = by (is_accepted true (spot.Start part.Begin) w) refl
  where
    by : (b : Bool) → is_accepted true (spot.Start part.Begin) w ≡ b → PlaceFault f w
    by true e =
        let p = place_accepted w (accepted_accepts true (spot.Start part.Begin) w e) in
        over_fault f p.0 w p.1 (within_not p.0 f (sym (place_reading_spelled w p.0 p.1) ∙ h))
    by false e = subst (λ v. PlaceFault v w) (same_fault (fault.BadEscape (reach true (spot.Start part.Begin) w)) f (place_reading w) (place_reading-bad w e) h) (place_bad w e)

place_not_over : (e : PathFault) (w : List ℕ) (q : Loc) → SpellsPlace w q → IsOver e q → (e ≡ fault.Memory) ⊎ (place_reading w ≡ Err e)
place_not_over e w q s o = by (over_within e q o)
  where
    by : (e ≡ fault.Memory) ⊎ (place_within q ≡ Err e) → (e ≡ fault.Memory) ⊎ (place_reading w ≡ Err e)
    by (inl k) = inl k
    by (inr k) = inr (place_reading_spelled w q s ∙ k)

pub place_bad_at : (w : List ℕ) (at : ℕ) → IsBadAt IsPlaceSpelling w at → place_reading w ≡ Err (fault.BadEscape at)
place_bad_at w at h = by (is_accepted true (spot.Start part.Begin) w) refl
  where
    by : (b : Bool) → is_accepted true (spot.Start part.Begin) w ≡ b → place_reading w ≡ Err (fault.BadEscape at)
    by true e = absurd (h.0 (place_accepted w (accepted_accepts true (spot.Start part.Begin) w e)))
    by false e =
        place_reading-bad w e ∙ ap (λ n. Err (fault.BadEscape n)) (bad_once IsPlaceSpelling w (reach true (spot.Start part.Begin) w) at (place_bad w e) h)

-- a fault of a word is what its reading says
pub place_fault_reading : (e : PathFault) (w : List ℕ) → PlaceFault e w → (e ≡ fault.Memory) ⊎ (place_reading w ≡ Err e)
place_fault_reading (fault.BadEscape at) w h = inr (place_bad_at w at h)
place_fault_reading fault.LabelTooLong w h = place_not_over fault.LabelTooLong w h.0 h.1 h.2
place_fault_reading fault.TooDeep w h = place_not_over fault.TooDeep w h.0 h.1 h.2
place_fault_reading fault.PathTooLong w h = place_not_over fault.PathTooLong w h.0 h.1 h.2
place_fault_reading fault.BadValue w h = absurd h
place_fault_reading fault.BadName w h = absurd h
place_fault_reading fault.Memory w h = inl refl

-- ---- labels

label_bad : (w : List ℕ) → is_accepted false (spot.Start part.Empty) w ≡ false → IsBadAt IsLabelSpelling w (reach false (spot.Start part.Empty) w)
label_bad w e = label_stopped w (reach false (spot.Start part.Empty) w) (reach_stops false (spot.Start part.Empty) w e)

label_goes : (w : List ℕ) → IsLabelSpelling w → is_accepted false (spot.Start part.Empty) w ≡ true
label_goes w h = by (is_accepted false (spot.Start part.Empty) w) refl
  where
    by : (b : Bool) → is_accepted false (spot.Start part.Empty) w ≡ b → b ≡ true
    by true e = refl
    by false e = absurd ((label_bad w e).0 h)

label_reading-with : (w : List ℕ) (b : Bool) → is_accepted false (spot.Start part.Empty) w ≡ b
    → label_reading w ≡ cond b (label_within (slice_index_or (pieces false [] (unquoted_text w)) 0 [])) (Err (fault.BadEscape (reach false (spot.Start part.Empty) w)))
label_reading-with w b e = ap (λ b. cond b (label_within (slice_index_or (pieces false [] (unquoted_text w)) 0 [])) (Err (fault.BadEscape (reach false (spot.Start part.Empty) w)))) e

-- a spelling is read as its label, unless that is too long
pub label_reading_spelled : (w : List ℕ) (a : Label) → w ≡ label_text a → label_reading w ≡ label_within a
label_reading_spelled w a h =
    let text : unquoted_text w ≡ escaped_text a = unquoted_spelling w (escaped_text a) h in
    label_reading-with w true (label_goes w (a, h))
    ∙ ap (λ ps. label_within (slice_index_or ps 0 [])) (ap (λ v. pieces false [] v) text ∙ pieces_of_label a)

pub label_reads_back : (a : Label) → length a ≤ LABEL_MAX → label_reading (label_text a) ≡ Ok a
label_reads_back a short = label_reading_spelled (label_text a) a refl ∙ rw (not_over LABEL_MAX (length a) short) refl

-- a word that is read as a label is its spelling
pub label_read : (w : List ℕ) (a : Label) → label_reading w ≡ Ok a → (w ≡ label_text a) × (length a ≤ LABEL_MAX)
label_read w a h = by (is_accepted false (spot.Start part.Empty) w) refl
  where
    at : (b : Label) → w ≡ label_text b → (c : Bool) → nat_lt LABEL_MAX (length b) ≡ c → cond c (Err fault.LabelTooLong) (Ok b) ≡ Ok a → (w ≡ label_text a) × (length a ≤ LABEL_MAX)
    at b s true e k = absurd (cc)
    at b s false e k =
        let same = same_value b a (Ok b) refl k in
        (s ∙ ap label_text same, subst (λ v. length v ≤ LABEL_MAX) same (ltb-false LABEL_MAX (length b) e))

    by : (b : Bool) → is_accepted false (spot.Start part.Empty) w ≡ b → (w ≡ label_text a) × (length a ≤ LABEL_MAX)
    by true e =
        let p = label_accepted w (accepted_accepts false (spot.Start part.Empty) w e) in
        at p.0 p.1 (nat_lt LABEL_MAX (length p.0)) refl (sym (label_reading_spelled w p.0 p.1) ∙ h)
    by false e = let bad : Err (fault.BadEscape (reach false (spot.Start part.Empty) w)) ≡ Ok a = sym (label_reading-with w false e) ∙ h in absurd (cc)

-- why a word is read as no label
pub label_refused : (w : List ℕ) (e : PathFault) → label_reading w ≡ Err e → LabelFault e w
label_refused w f h = by (is_accepted false (spot.Start part.Empty) w) refl
  where
    at : (b : Label) → w ≡ label_text b → (c : Bool) → nat_lt LABEL_MAX (length b) ≡ c → cond c (Err fault.LabelTooLong) (Ok b) ≡ Err f → LabelFault f w
    at b s true e k = subst (λ v. LabelFault v w) (same_fault {A = Label} fault.LabelTooLong f (Err fault.LabelTooLong) refl k) (b, s, ltb-true LABEL_MAX (length b) e)
    at b s false e k = absurd (cc)

    by : (b : Bool) → is_accepted false (spot.Start part.Empty) w ≡ b → LabelFault f w
    by true e =
        let p = label_accepted w (accepted_accepts false (spot.Start part.Empty) w e) in
        at p.0 p.1 (nat_lt LABEL_MAX (length p.0)) refl (sym (label_reading_spelled w p.0 p.1) ∙ h)
    by false e = subst (λ v. LabelFault v w) (same_fault (fault.BadEscape (reach false (spot.Start part.Empty) w)) f (label_reading w) (label_reading-with w false e) h) (label_bad w e)

pub label_bad_at : (w : List ℕ) (at : ℕ) → IsBadAt IsLabelSpelling w at → label_reading w ≡ Err (fault.BadEscape at)
label_bad_at w at h = by (is_accepted false (spot.Start part.Empty) w) refl
  where
    by : (b : Bool) → is_accepted false (spot.Start part.Empty) w ≡ b → label_reading w ≡ Err (fault.BadEscape at)
    by true e = absurd (h.0 (label_accepted w (accepted_accepts false (spot.Start part.Empty) w e)))
    by false e =
        label_reading-with w false e ∙ ap (λ n. Err (fault.BadEscape n)) (bad_once IsLabelSpelling w (reach false (spot.Start part.Empty) w) at (label_bad w e) h)

-- a fault of a word is what its reading says
pub label_fault_reading : (e : PathFault) (w : List ℕ) → LabelFault e w → (e ≡ fault.Memory) ⊎ (label_reading w ≡ Err e)
label_fault_reading (fault.BadEscape at) w h = inr (label_bad_at w at h)
label_fault_reading fault.LabelTooLong w h = inr (label_reading_spelled w h.0 h.1 ∙ rw (lt-ltb LABEL_MAX (length h.0) h.2) refl)
label_fault_reading fault.TooDeep w h = absurd h
label_fault_reading fault.PathTooLong w h = absurd h
label_fault_reading fault.BadValue w h = absurd h
label_fault_reading fault.BadName w h = absurd h
label_fault_reading fault.Memory w h = inl refl

-- ---- a word spells one thing

-- a word spells one place only
pub place_spelled_once : (w : List ℕ) (p q : Loc) → SpellsPlace w p → SpellsPlace w q → p ≡ q
place_spelled_once w p q h k =
    let raw : raw_place p ≡ raw_place q = sym (unquoted_spelling w (raw_place p) (h.1 ∙ sym (word_place p h.0))) ∙ unquoted_spelling w (raw_place q) (k.1 ∙ sym (word_place q k.0)) in
    ap place_from (sym (pieces_of_place p h.0) ∙ ap (pieces false []) raw ∙ pieces_of_place q k.0)

-- two labels are never spelled alike
pub label_spelled_once : (a b : Label) → label_text a ≡ label_text b → a ≡ b
label_spelled_once a b e =
    let raw : escaped_text a ≡ escaped_text b = sym (unquoted_spelling (label_text a) (escaped_text a) refl) ∙ unquoted_spelling (label_text a) (escaped_text b) e in
    ap (λ ps. slice_index_or ps 0 []) (sym (pieces_of_label a) ∙ ap (pieces false []) raw ∙ pieces_of_label b)

-- ---- what a spelling looks like

pub quoted_shape : (t : List ℕ) → IsTokenShape (quoted t)
quoted_shape t = (omega arith, inr (t, refl))

word_shape : (r : List ℕ) → IsTokenShape (label_word r)
word_shape [] = quoted_shape []
word_shape (x ∷ r) = by (has_trigger (x ∷ r)) refl
  where
    by : (b : Bool) → has_trigger (x ∷ r) ≡ b → IsTokenShape (cond b (quoted (x ∷ r)) (x ∷ r))
    by true e = quoted_shape (x ∷ r)
    by false e = (omega arith, inl e)

pub label_shape : (a : Label) → IsTokenShape (label_text a)
label_shape a = word_shape (escaped_text a)

pub place_shape : (q : Loc) → is_name q.db ≡ true → IsTokenShape (place_text q)
place_shape q n = subst IsTokenShape (word_place q n) (word_shape (raw_place q))
