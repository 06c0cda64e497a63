-- What a cutter keeps of a scan: a text that is short enough, and of a longer one only whether it is white space alone.
use Rattle.cp_lang.specs.declared.limits.TheConstants.{STATEMENT_MAX}
use Rattle.std.specs.Prelude.{ℕ, ◌≡◌, List, [], ◌∷◌, ◌++◌, Bool, true, ◌&&◌, length, nat_lt, if◌then◌else◌}
use Rattle.cp_lang.specs.Spaces.{is_space, is_blank}
use Rattle.cp_lang.specs.Cuts.{ends, after, Scan, scan_start}
use Rattle.cp_lang.specs.declared.cut.Mode.{Mode}
use Rattle.cp_lang.specs.declared.cut.Cut.{Cut}
use Rattle.cp_lang.specs.declared.cut.Cut.TheVariants.{Text, TooLong}

-- the text that is kept, none of a long one; whether the text is white space alone; whether it is over the limit
pub record CutterState : Type 0 where
  pub mode : Mode
  pub text : List ℕ
  pub blank : Bool
  pub long : Bool

-- longer than a statement may be
abbrev pub is_long : List ℕ → Bool
is_long text = nat_lt STATEMENT_MAX (length text)

-- what is kept of a scan
abbrev pub held_of : Scan → CutterState
held_of s = record {
  mode = s.mode;
  text = if is_long s.text then [] else s.text;
  blank = is_blank s.text;
  long = is_long s.text;
}

-- what is kept behind one byte more of the text
abbrev pub grow : CutterState → ℕ → CutterState
grow h b = record {
  mode = after h.mode b;
  text = if h.long then h.text else (if nat_lt (length h.text) STATEMENT_MAX then h.text ++ b ∷ [] else []);
  blank = h.blank && is_space b;
  long = if h.long then h.long else (if nat_lt (length h.text) STATEMENT_MAX then h.long else true);
}

-- the cut that the kept text gives at its end
abbrev pub held_cut : CutterState → List Cut
held_cut h = if h.blank then [] else (if h.long then TooLong ∷ [] else Text h.text ∷ [])

-- the cuts that end with one byte more
abbrev pub byte_cuts : CutterState → ℕ → List Cut
byte_cuts h b = if ends h.mode b then held_cut h else []

-- what is kept behind one byte more
abbrev pub byte_held : CutterState → ℕ → CutterState
byte_held h b = if ends h.mode b then held_of scan_start else grow h b

-- a list that begins with another
abbrev pub Begins : List Cut → List Cut → Type 0
Begins front whole = (more : List Cut) × (whole ≡ front ++ more)
