-- What a call writes: the lines of replies, one after another, and the last line of an end that is no answer.
use Rattle.std.specs.Prelude.{ℕ, ◌≡◌, ◌⊎◌, ◌++◌, ◌||◌, List, [], ◌∷◌, Bool, true, false, codes, Result, Ok, Err, ⊤}
use Rattle.std.specs.List.{flat_map, list_any}
use Rattle.std.specs.declared.option.Option.{Option}
use Rattle.std.specs.declared.option.Option.TheVariants.{None, Some}
use Rattle.std.specs.Io.KnownBytes.{Appends}
use Rattle.cp_path.specs.Text.{is_name}
use Rattle.cp_reply.specs.Lines.{line, said_lines, whose_text}
use Rattle.cp_reply.specs.declared.said.Said.{Said}
use Rattle.cp_interpreter.specs.Job.{says_refusal}
use Rattle.cp_interpreter.specs.Outside.{KnownOutput}
use Rattle.cp_interpreter.specs.Story.{Writes, StopsAfter, WritesLast}
use Rattle.cp_interpreter.specs.Texts.{input_line, file_line, disk_line, no_store_line, memory_line, too_long_line, clock_line}
use Rattle.cp_interpreter.specs.declared.end.End.{End}
use Rattle.cp_interpreter.specs.declared.end.End.TheVariants as how
use Rattle.cp_interpreter.specs.declared.stop.Stop.{Stop}
use Rattle.cp_interpreter.specs.declared.stop.Stop.TheVariants.{Output, Full}

-- ---- replies

-- nobody, or somebody with a name
abbrev pub IsNamed : Option (List ℕ) → Type 0
IsNamed None = ⊤
IsNamed (Some n) = is_name n ≡ true

-- each of them goes to nobody, or to somebody with a name
abbrev pub AreNamed : List Said → Type 0
AreNamed [] = ⊤
AreNamed (x ∷ xs) = IsNamed x.whose × AreNamed xs

-- their lines
abbrev pub lines_of : List Said → List ℕ
lines_of xs = flat_map said_lines xs

-- one of them is a refusal, or a verdict that tells of a difference
abbrev pub has_refusal : List Said → Bool
has_refusal xs = list_any says_refusal xs

-- The output refused a write of the lines of one reply more, once it had taken those of these.
pub record StopsInReply (xs : List Said) (before now : KnownOutput) : Type 0 where
  pub next : Said
  pub named : IsNamed next.whose
  pub stops : StopsAfter before now (lines_of xs) (lines_of (xs ++ next ∷ []))

-- ---- what a session wrote

-- The lines of these replies were written, and it is known whether a refusal is among them and those before; or the output stopped in one reply more; or nothing more was written.
abbrev pub SendsAs : List Said → Bool → Bool → KnownOutput → KnownOutput → Result ⊤ Stop → Type 0
SendsAs xs old new before now (Ok y) =
    Writes before now (lines_of xs) × (new ≡ (old || has_refusal xs))
SendsAs xs old new before now (Err Output) = StopsInReply xs before now
SendsAs xs old new before now (Err Full) = StopsInReply xs before now
SendsAs xs old new before now (Err stop) = Writes before now (lines_of xs)

-- The same of some replies.
pub record SendsReplies (old new : Bool) (before now : KnownOutput)
    (result : Result ⊤ Stop) : Type 0 where
  pub said : List Said
  pub named : AreNamed said
  pub sent : SendsAs said old new before now result

-- ---- what a call wrote

-- The lines of these replies were written, and nothing else but the last line of an end that is no answer. Where all was done the end says whether a refusal is among them and those before.
abbrev pub WroteAs : List Said → Bool → KnownOutput → KnownOutput → End → Type 0
WroteAs xs refused before now how.Done =
    ((refused || has_refusal xs) ≡ false) × Writes before now (lines_of xs)
WroteAs xs refused before now how.Refused =
    ((refused || has_refusal xs) ≡ true) × Writes before now (lines_of xs)
WroteAs xs refused before now how.Usage = ⊥
WroteAs xs refused before now how.Input = WritesLast before now (lines_of xs) input_line
WroteAs xs refused before now how.File = WritesLast before now (lines_of xs) file_line
WroteAs xs refused before now how.Output = StopsInReply xs before now
WroteAs xs refused before now how.Disk = WritesLast before now (lines_of xs) disk_line
WroteAs xs refused before now (how.NoStore at) =
    WritesLast before now (lines_of xs) (no_store_line at)
WroteAs xs refused before now how.Memory =
    StopsInReply xs before now ⊎ WritesLast before now (lines_of xs) memory_line
WroteAs xs refused before now how.TooLong = WritesLast before now (lines_of xs) too_long_line
WroteAs xs refused before now how.Clock = WritesLast before now (lines_of xs) clock_line

-- The same of some replies.
pub record WroteReplies (refused : Bool) (before now : KnownOutput) (end : End) : Type 0 where
  pub said : List Said
  pub named : AreNamed said
  pub wrote : WroteAs said refused before now end

-- ---- the lines of refusals

-- a line among these bytes begins so, or it does behind the name of the curator whom it answers
pub record HasLine (begins bytes : List ℕ) : Type 0 where
  pub before : List ℕ
  pub whose : Option (List ℕ)
  pub named : IsNamed whose
  pub after : List ℕ
  pub is : bytes ≡ before ++ (whose_text whose ++ (begins ++ after))
  pub starts : (before ≡ []) ⊎ ((front : List ℕ) × (before ≡ line front))

-- a line that begins with `refused` or with `differs`, the name aside
abbrev pub HasRefusalLine : List ℕ → Type 0
HasRefusalLine bytes = HasLine (codes "refused") bytes ⊎ HasLine (codes "differs") bytes

-- The output took bytes with such a line.
pub record TookRefusal (before now : Option (List ℕ)) : Type 0 where
  pub bytes : List ℕ
  pub took : Appends before now bytes
  pub refusal : HasRefusalLine bytes
