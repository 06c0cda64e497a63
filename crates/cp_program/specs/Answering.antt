-- Calls that answer and change nothing: queries, what stands at a place, the log of a store, and the verdict on its records; and what a generated workload comes to.
use Rattle.std.specs.Prelude.{◌≡◌, ◌⊎◌, ℕ, List, [], true, false, IsTrue, Ok}
use Rattle.cp_model.specs.History.{Entry, log_of}
use Rattle.cp_model.specs.declared.kind.Kind.{Kind}
use Rattle.cp_model.specs.declared.record.Verdict.{Verdict}
use Rattle.cp_disk.specs.Views.{Rests, KnownDisk}
use Rattle.cp_frame.specs.Stands.{IsStore, IsTold}
use Rattle.cp_frame.specs.Stops.{IsNot}
use Rattle.cp_verify.specs.Verify.{VerifiesAs}
use Rattle.cp_lang.specs.declared.syntax_tree.Stmt.{Stmt}
use Rattle.cp_reply.specs.Lines.{lines}
use Rattle.cp_reply.specs.Session.{no_supply}
use Rattle.cp_reply.specs.declared.reply.Reply.{Reply}
use Rattle.cp_reply.specs.declared.reply.Reply.TheVariants as reply
use Rattle.cp_scratch.specs.Workloads.{ComesTo}
use Rattle.cp_interpreter.specs.Job.{is_refusal}
use Rattle.cp_interpreter.specs.Outside.{Outside}
use Rattle.cp_interpreter.specs.Texts.{memory_line}
use Rattle.cp_interpreter.specs.Story.{SaidLine, EndedEarly, WritesLast}
use Rattle.cp_interpreter.specs.Alone.{report_on}
use Rattle.cp_interpreter.specs.declared.end.End.{End}
use Rattle.cp_interpreter.specs.declared.end.End.TheVariants as how

-- the reply is that to the statement, which reads no file, in the session that begins on the history for which the content stands
abbrev pub IsAnswerTo : Stmt → List ℕ → Reply → Type 0
IsAnswerTo x c y = (h : List Entry) → IsStore h c → (lines y ≡ (report_on no_supply h c x).out) × (is_refusal y ≡ (report_on no_supply h c x).refused)

-- the reply lists the commits of the history that the content tells, be its records right or not
abbrev pub IsLogOf : List ℕ → Reply → Type 0
IsLogOf c y = (h : List Entry) → IsTold false h c → y ≡ reply.Logged (log_of h)

-- the reply is the verdict on the records of the content
abbrev pub IsVerdictOn : List ℕ → Reply → Type 0
IsVerdictOn c y = (x : Verdict) × (y ≡ reply.Verified x) × VerifiesAs c (Ok x)

-- The lines of a reply were written, unless the output stopped in them, or memory ran out before them.
abbrev pub SaidReply : Reply → Outside → Outside → End → Type 0
SaidReply y before now end = SaidLine (lines y) (is_refusal y) before.output now.output end

-- A call that was to answer from a store took no input, read no file, asked no clock, and left the disk as it was.
-- Of the contents from which it answers each has a reply, of which this is so; of any other the offset is told at which it stops.
pub record Answered (Answers : List ℕ → Type 0) (IsReply : List ℕ → Reply → Type 0) (before now : Outside) (v w : KnownDisk) (end : End) : Type 0 where
  pub input : now.input ≡ before.input
  pub files : now.files ≡ before.files
  pub clock : now.clock ≡ before.clock
  pub rests : Rests v w
  pub no_store : IsTrue v.known → (at : ℕ) → end ≡ how.NoStore at → EndedEarly before now end × IsNot Answers v.view.content at
  pub ended : EndedEarly before now end
      ⊎ ((y : Reply) × SaidReply y before now end × (IsTrue v.known → Answers v.view.content × IsReply v.view.content y))

-- ---- generated workloads

-- A call that was to run a generated workload in memory took no input, read no file and asked no clock. It wrote what the workload comes to; or the output stopped in that, or memory ran out.
pub record Generated (k : Kind) (seed count : ℕ) (before now : Outside) (end : End) : Type 0 where
  pub input : now.input ≡ before.input
  pub files : now.files ≡ before.files
  pub clock : now.clock ≡ before.clock
  pub said : ((end ≡ how.Memory) × WritesLast before.output now.output [] memory_line) ⊎ ((r : Reply) × ComesTo k seed count r × SaidLine (lines r) false before.output now.output end)
