-- How the input is cut into the texts of statements.
use Rattle.cp_lang.specs.declared.limits.TheConstants.{STATEMENT_MAX}
use Rattle.std.specs.Prelude.{ℕ, ◌==◌, List, [], ◌∷◌, ◌++◌, Bool, false, length, nat_lt, if◌then◌else◌}
use Rattle.cp_lang.specs.Spaces.{is_blank}
use Rattle.cp_lang.specs.declared.cut.Mode.{Mode}
use Rattle.cp_lang.specs.declared.cut.Mode.TheVariants.{Outside, Inside, Escaped}
use Rattle.cp_lang.specs.declared.cut.Cut.{Cut}
use Rattle.cp_lang.specs.declared.cut.Cut.TheVariants.{Text, TooLong, Unfinished}

-- outside quotation marks a semicolon ends the statement
abbrev pub ends : Mode → ℕ → Bool
ends Outside b = b == 59
ends Inside b = false
ends Escaped b = false

-- a quotation mark goes inside and out again, and inside a backslash passes over the next byte
abbrev pub after : Mode → ℕ → Mode
after Outside b = if b == 34 then Inside else Outside
after Inside b = if b == 34 then Outside else (if b == 92 then Escaped else Inside)
after Escaped b = Inside

-- the bytes since the last statement's end, and where the scan stands
pub record Scan : Type 0 where
  pub text : List ℕ
  pub mode : Mode

-- no byte yet, outside quotation marks
abbrev pub scan_start : Scan
scan_start = record { text = []; mode = Outside }

-- white space alone is no statement, however long; any other text is a cut of this sort, or too long
abbrev pub cut_by : (List ℕ → Cut) → List ℕ → List Cut
cut_by sort text = if is_blank text then [] else (if nat_lt STATEMENT_MAX (length text) then TooLong ∷ [] else sort text ∷ [])

-- a text that a semicolon ends
abbrev pub cut_of : List ℕ → List Cut
cut_of text = cut_by Text text

-- what bytes bring: the cuts that end in them, and where the scan stands then
pub record ScanResult : Type 0 where
  pub cuts : List Cut
  pub scan : Scan

-- one byte ends a statement, or is gathered
abbrev pub scan_byte : Scan → ℕ → ScanResult
scan_byte s b =
    if ends s.mode b then record { cuts = cut_of s.text; scan = scan_start }
    else record { cuts = []; scan = record { text = s.text ++ b ∷ []; mode = after s.mode b } }

-- what was scanned, and then what the scan brings from there
abbrev pub scan_on : ScanResult → (Scan → ScanResult) → ScanResult
scan_on x next = record { cuts = x.cuts ++ (next x.scan).cuts; scan = (next x.scan).scan }

-- the bytes one after another
unfoldable pub scan_bytes : Scan → List ℕ → ScanResult
scan_bytes s [] = record { cuts = []; scan = s }
scan_bytes s (b ∷ bs) = scan_on (scan_byte s b) (λ t. scan_bytes t bs)

-- what is left at the end of the input
abbrev pub rest_of : Scan → List Cut
rest_of s = cut_by Unfinished s.text

-- the cuts that end in these bytes
abbrev pub cuts_in : List ℕ → List Cut
cuts_in bytes = (scan_bytes scan_start bytes).cuts

-- the cuts of a whole input
abbrev pub cuts_of : List ℕ → List Cut
cuts_of bytes = cuts_in bytes ++ rest_of (scan_bytes scan_start bytes).scan
