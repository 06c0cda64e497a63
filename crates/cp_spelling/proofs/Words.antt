-- What the reading of words rests on, at the calls' results.
use Rattle.cp_path.specs.declared.limits.TheConstants.{LABELS_MAX, LABEL_MAX, LOC_MAX}
use Rattle.std.proofs.Common.{◌≡◌, ℕ, List, ◌∷◌, true, false, ap, sym, ◌∙◌, subst, Option, Some, None, Result, Ok, Err, MatchResult, MatchOption, IfOk, IfErr, ◌≤◌, ◌<◌, ◌⊎◌, inl, inr, length, get_or, nat_lt}
use Rattle.std.proofs.lemmas.Bool.{lt-ltb}
use Rattle.std.proofs.lemmas.List.Folds.{list_any_at}
use Rattle.cp_spelling.specs.Scan.{Accepts, StopsAt, place_from}
use Rattle.cp_path.specs.Answers.{Answers}
use Rattle.cp_spelling.specs.Reading.{IsLabelSpelling, IsPlaceSpelling, SpellsPlace, IsBadAt, IsOver, PlaceFault, LabelFault, any_long}
use Rattle.cp_path.specs.declared.loc.Loc.{Loc}
use Rattle.cp_path.specs.declared.fault.PathFault.{PathFault}
use Rattle.cp_path.specs.declared.fault.PathFault.TheVariants as fault
use Rattle.cp_spelling.specs.declared.scan.Part.TheVariants as part
use Rattle.cp_spelling.specs.declared.scan.Spot.TheVariants as spot
use Rattle.cp_path.specs.Place.{Label, size}
use Rattle.cp_path.specs.Spelling.{label_text}
use Rattle.cp_spelling.specs.Words.{place_reading, place_within, label_reading}
use Rattle.cp_spelling.proofs.WordLaws.{place_reading_spelled, place_within_limits, label_reads_back, label_fault_reading, place_fault_reading, over_fault}
use Rattle.cp_spelling.proofs.Accepted.{label_accepted, label_stopped, place_accepted, place_stopped}

pub label_checked : (v w : List ℕ) (r : Result (Unit {0}) ℕ) → v ≡ w
    → MatchResult r (λ _. Accepts false (spot.Start part.Empty) v) (λ at. StopsAt false (spot.Start part.Empty) v at)
    → MatchResult r (λ _. IsLabelSpelling w) (λ at. IsBadAt IsLabelSpelling w at)
label_checked v w (Ok u) e h = label_accepted w (subst (Accepts false (spot.Start part.Empty)) e h)
label_checked v w (Err at) e h = label_stopped w at (subst (λ a. StopsAt false (spot.Start part.Empty) a at) e h)

pub place_checked : (v w : List ℕ) (r : Result (Unit {0}) ℕ) → v ≡ w
    → MatchResult r (λ _. Accepts true (spot.Start part.Begin) v) (λ at. StopsAt true (spot.Start part.Begin) v at)
    → MatchResult r (λ _. IsPlaceSpelling w) (λ at. IsBadAt IsPlaceSpelling w at)
place_checked v w (Ok u) e h = place_accepted w (subst (Accepts true (spot.Start part.Begin)) e h)
place_checked v w (Err at) e h = place_stopped w at (subst (λ a. StopsAt true (spot.Start part.Begin) a at) e h)

pub no_text : {S : Type 0} (o : Option S) (P : Type 0) (Q : S → Type 0) → o ≡ None → MatchOption o P Q → P
no_text None P Q e h = h
no_text (Some s) P Q e h = absurd (cc)

pub place_fault : {X : Type 0} (r : Result X PathFault) (ps v : List (List ℕ)) (w : List ℕ) → ps ≡ v → (q : Loc) × SpellsPlace w q × (v ≡ q.db ∷ q.path)
    → IfErr r (λ e. IsOver e (place_from ps)) → IfErr r (λ e. PlaceFault e w)
place_fault (Ok x) ps v w e h k = k
place_fault (Err f) ps v w e h k = over_fault f h.0 w h.1 (subst (IsOver f) (ap place_from (e ∙ h.2)) k)

pub place_made : (w : List ℕ) (ps v : List (List ℕ)) (r : Result Loc PathFault) → ps ≡ v → (q : Loc) × SpellsPlace w q × (v ≡ q.db ∷ q.path)
    → IfOk r (λ q. (q ≡ place_from ps) × (size q ≤ LOC_MAX)) → IfOk r (λ q. (any_long q.path ≡ false) × (length q.path ≤ LABELS_MAX)) → IfOk r (λ q. place_reading w ≡ Ok q)
place_made w ps v (Err f) e h k m = tt
place_made w ps v (Ok p) e h k m =
    let same : p ≡ h.0 = k.0 ∙ ap place_from (e ∙ h.2) in
    place_reading_spelled w h.0 h.1 ∙ ap place_within (sym same) ∙ place_within_limits p m.0 m.1 k.1

-- what a word that spells a label is read as
pub label_answers : (w : List ℕ) (r : Result Label PathFault) → IfOk r (λ a. label_text a ≡ w) → IfErr r (λ e. LabelFault e w) → IfOk r (λ a. length a ≤ LABEL_MAX)
    → Answers fault.Memory (label_reading w) r
label_answers w (Err f) h k s = label_fault_reading f w k
label_answers w (Ok a) h k s = subst (λ v. label_reading v ≡ Ok a) h (label_reads_back a s)

-- what a word that spells a place is read as
pub place_answers : (w : List ℕ) (r : Result Loc PathFault) → IfOk r (λ q. place_reading w ≡ Ok q) → IfErr r (λ e. PlaceFault e w) → Answers fault.Memory (place_reading w) r
place_answers w (Err f) h k = place_fault_reading f w k
place_answers w (Ok q) h k = h

-- ---- labels

-- a label that is too long
pub long_label : (ps : List (List ℕ)) (i : ℕ) (d : List ℕ) → i < length ps → LABEL_MAX < length (get_or ps i d) → any_long ps ≡ true
long_label ps i d within long = list_any_at (λ a. nat_lt LABEL_MAX (length a)) ps i d within (lt-ltb LABEL_MAX (length (get_or ps i d)) long)

-- a label can be too long, or memory ran out
pub long_or_memory : (e : PathFault) (ps : List (List ℕ)) → (e ≡ fault.LabelTooLong → any_long ps ≡ true)
    → (e ≡ fault.LabelTooLong) ⊎ (e ≡ fault.Memory) → ((e ≡ fault.LabelTooLong) × (any_long ps ≡ true)) ⊎ (e ≡ fault.Memory)
long_or_memory e ps f (inl q) = inl (q, f q)
long_or_memory e ps f (inr q) = inr q
