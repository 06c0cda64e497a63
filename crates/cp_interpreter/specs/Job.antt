-- What a call replies: the session over its whole input.
use Rattle.std.specs.Prelude.{ℕ, ◌+◌, List, [], ◌∷◌, Bool, true, false}
use Rattle.std.specs.List.{flat_map, list_any}
use Rattle.cp_model.specs.History.{Entry}
use Rattle.cp_model.specs.declared.record.Verdict.{Verdict}
use Rattle.cp_model.specs.declared.record.Verdict.TheVariants.{Agrees}
use Rattle.cp_lang.specs.Cuts.{cuts_in, cuts_of}
use Rattle.cp_lang.specs.declared.cut.Cut.{Cut}
use Rattle.cp_reply.specs.Lines.{said_lines}
use Rattle.cp_reply.specs.declared.reply.Reply.{Reply}
use Rattle.cp_reply.specs.declared.reply.Reply.TheVariants as reply
use Rattle.cp_reply.specs.declared.said.Said.{Said}
use Rattle.cp_reply.specs.Session.{Setting, Session, turn, replies_to, session_after}
use Rattle.cp_workspace.specs.Texts.{Terms, setting}
use Rattle.cp_workspace.specs.Loads.{cut_reads}
use Rattle.cp_workspace.specs.Commits.{cut_asks}

-- the verdict tells of a difference
abbrev pub is_difference : Verdict → Bool
is_difference (Agrees n) = false
is_difference v = true

-- the reply is a refusal, or a verdict that tells of a difference
abbrev pub is_refusal : Reply → Bool
is_refusal (reply.Refused o w) = true
is_refusal (reply.Verified v) = is_difference v
is_refusal r = false

-- and so is the one that is said, to whomever
abbrev pub says_refusal : Said → Bool
says_refusal x = is_refusal x.reply

-- how many files cuts read, one after another
unfoldable pub reads_in : Setting → Session → List Cut → ℕ
reads_in c s [] = 0
reads_in c s (x ∷ xs) = cut_reads c s x + reads_in c (turn c s x).next xs

-- how often they ask the clock
unfoldable pub asks_in : Setting → Session → List Cut → ℕ
asks_in c s [] = 0
asks_in c s (x ∷ xs) = cut_asks c s x + asks_in c (turn c s x).next xs

-- what is written, whether some line is a refusal, how many files are read, how often the clock is asked, and the history to which it comes
pub record Report : Type 0 where
  pub out : List ℕ
  pub refused : Bool
  pub reads : ℕ
  pub asks : ℕ
  pub history : List Entry

-- what cuts do
abbrev pub report_of : Terms → Session → List Cut → Report
report_of terms s cuts =
    let said = replies_to (setting terms) s cuts in
    record {
      out = flat_map said_lines said;
      refused = list_any says_refusal said;
      reads = reads_in (setting terms) s cuts;
      asks = asks_in (setting terms) s cuts;
      history = (session_after (setting terms) s cuts).history;
    }

-- what the statements do that end in these bytes
unfoldable pub job_so_far : Terms → Session → List ℕ → Report
job_so_far terms s bytes = report_of terms s (cuts_in bytes)

-- what all statements of a whole input do
unfoldable pub job : Terms → Session → List ℕ → Report
job terms s bytes = report_of terms s (cuts_of bytes)
