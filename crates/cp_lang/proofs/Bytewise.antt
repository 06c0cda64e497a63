-- What a cutter keeps, and what it cuts, byte by byte is what the scan brings.
use Rattle.cp_lang.specs.declared.limits.TheConstants.{STATEMENT_MAX}
use Rattle.std.proofs.Common.{◌≡◌, ℕ, List, [], ◌∷◌, ◌++◌, Bool, true, false, ◌&&◌, length, nat_lt, if◌then◌else◌, refl, ap, sym, ◌∙◌, arith}
use Rattle.std.proofs.lemmas.Bool.{ltb-true, ltb-false, lt-ltb, le-ltb}
use Rattle.std.proofs.lemmas.List.{length_push}
use Rattle.std.proofs.lemmas.List.Folds.{list_all-append}
use Rattle.cp_lang.specs.declared.cut.Mode.{Mode}
use Rattle.cp_lang.specs.Spaces.{is_space, is_blank}
use Rattle.cp_lang.specs.Cuts.{ends, after, Scan, scan_byte}
use Rattle.cp_lang.specs.CutterState.{CutterState, held_of, grow, byte_cuts, byte_held}

-- the text under a limit, else nothing
abbrev kept : ℕ → List ℕ → List ℕ
kept m t = if nat_lt m (length t) then [] else t

over : (m : ℕ) (t : List ℕ) (b : ℕ) → nat_lt m (length t) ≡ true → nat_lt m (length (t ++ b ∷ [])) ≡ true
over m t b e = let h = ltb-true m (length t) e in let k = length_push t b in lt-ltb m (length (t ++ b ∷ [])) (omega arith)

under : (m : ℕ) (t : List ℕ) (b : ℕ) → nat_lt (length t) m ≡ true → nat_lt m (length (t ++ b ∷ [])) ≡ false
under m t b e = let h = ltb-true (length t) m e in let k = length_push t b in le-ltb m (length (t ++ b ∷ [])) (omega arith)

reached : (m : ℕ) (t : List ℕ) (b : ℕ) → nat_lt (length t) m ≡ false → nat_lt m (length (t ++ b ∷ [])) ≡ true
reached m t b e = let h = ltb-false (length t) m e in let k = length_push t b in lt-ltb m (length (t ++ b ∷ [])) (omega arith)

kept_more : (m : ℕ) (t : List ℕ) (b : ℕ) (p q : Bool) → nat_lt m (length t) ≡ p → nat_lt (length t) m ≡ q
    → (if nat_lt m (length t) then kept m t else (if nat_lt (length (kept m t)) m then kept m t ++ b ∷ [] else [])) ≡ kept m (t ++ b ∷ [])
kept_more m t b true q e f = rw (over m t b e, e) refl
kept_more m t b false true e f = rw (under m t b f, e, f) refl
kept_more m t b false false e f = rw (reached m t b f, e, f) refl

long_more : (m : ℕ) (t : List ℕ) (b : ℕ) (p q : Bool) → nat_lt m (length t) ≡ p → nat_lt (length t) m ≡ q
    → (if nat_lt m (length t) then nat_lt m (length t) else (if nat_lt (length (kept m t)) m then nat_lt m (length t) else true)) ≡ nat_lt m (length (t ++ b ∷ []))
long_more m t b true q e f = rw (over m t b e, e) refl
long_more m t b false true e f = rw (under m t b f, e, f) refl
long_more m t b false false e f = rw (reached m t b f, e, f) refl

abbrev held : Mode → List ℕ → Bool → Bool → CutterState
held mode t p q = record { mode = mode; text = t; blank = p; long = q }

same_held : (mode : Mode) (t u : List ℕ) (p q k l : Bool) → t ≡ u → p ≡ q → k ≡ l → held mode t p k ≡ held mode u q l
same_held mode t u p q k l e f g = rw (e, f, g) refl

-- behind a byte that ends no statement
grown_is : (s : Scan) (b : ℕ) → grow (held_of s) b ≡ held_of (record { text = s.text ++ b ∷ []; mode = after s.mode b })
grown_is s b =
    same_held (after s.mode b) _ _ _ _ _ _
    (kept_more STATEMENT_MAX s.text b _ _ refl refl)
    (sym (list_all-append is_space s.text (b ∷ []) ∙ ap (λ (x : Bool). is_blank s.text && x) (and_end (is_space b))))
    (long_more STATEMENT_MAX s.text b _ _ refl refl)
  where
    and_end : (x : Bool) → (x && true) ≡ x
    and_end true = refl
    and_end false = refl

-- behind any byte
pub byte_held-is : (s : Scan) (b : ℕ) → byte_held (held_of s) b ≡ held_of (scan_byte s b).scan
byte_held-is s b = cases (ends s.mode b) refl
  where
    cases : (p : Bool) → ends s.mode b ≡ p → byte_held (held_of s) b ≡ held_of (scan_byte s b).scan
    cases true e = rw e refl
    cases false e = rw e (grown_is s b)

-- the cuts that end with a byte
pub byte_cuts-is : (s : Scan) (b : ℕ) → byte_cuts (held_of s) b ≡ (scan_byte s b).cuts
byte_cuts-is s b = cases (ends s.mode b) (nat_lt STATEMENT_MAX (length s.text)) refl refl
  where
    cases : (p q : Bool) → ends s.mode b ≡ p → nat_lt STATEMENT_MAX (length s.text) ≡ q → byte_cuts (held_of s) b ≡ (scan_byte s b).cuts
    cases true true e f = rw (e, f) refl
    cases true false e f = rw (e, f) refl
    cases false q e f = rw e refl
