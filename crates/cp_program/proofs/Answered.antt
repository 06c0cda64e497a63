-- Calls that answer from a store, and leave it as it is.
use Rattle.std.proofs.Common.{◌≡◌, ℕ, List, [], Ok, Err, inl, inr, refl, sym, ◌∙◌, ap, subst}
use Rattle.std.specs.Prelude.{IsTrue, IfErr, Result, ◌≤◌}
use Rattle.std.specs.declared.option.Option.TheVariants.{Some}
use Rattle.cp_outside.specs.Causes.{Accounts}
use Rattle.cp_model.specs.Tree.{Tree}
use Rattle.cp_disk.specs.Counts.{UsesDisk}
use Rattle.cp_disk.specs.Views.{Rests, KnownDisk}
use Rattle.cp_frame.specs.Stands.{Opens, OpensAndReplays}
use Rattle.cp_frame.specs.Stops.{IsNot}
use Rattle.cp_model.specs.declared.answer.LogLine.{LogLine}
use Rattle.cp_model.specs.declared.record.Verdict.{Verdict}
use Rattle.cp_db.specs.Log.{LogsAs}
use Rattle.cp_verify.specs.Verify.{VerifiesAs}
use Rattle.cp_lang.specs.declared.syntax_tree.Stmt.{Stmt}
use Rattle.cp_reply.specs.Lines.{lines}
use Rattle.cp_reply.specs.declared.reply.Reply.{Reply}
use Rattle.cp_reply.specs.declared.reply.Reply.TheVariants as reply
use Rattle.cp_reply.specs.Session.{no_supply, Session, says, turn_of}
use Rattle.cp_workspace.specs.Texts.{Terms, setting}
use Rattle.cp_workspace.specs.Files.{KnownFiles}
use Rattle.cp_workspace.specs.Workspaces.{Stands, Turned, of_nobody, opened_session}
use Rattle.cp_workspace.specs.declared.workspace.Workspace.{Workspace}
use Rattle.cp_interpreter.specs.Job.{is_refusal}
use Rattle.cp_interpreter.specs.Outside.{KnownInput, KnownClock, KnownOutput, Outside}
use Rattle.cp_interpreter.specs.Story.{SaidLine, HasCauses, DiskCauses, result_of, one_curator, store_terms}
use Rattle.cp_program.specs.Answering.{IsAnswerTo, IsLogOf, IsVerdictOn, Answered}
use Rattle.cp_interpreter.specs.Begins.{IsOpeningStop, OpenedAlone, AnsweredAs, GaveAnswer}
use Rattle.cp_interpreter.specs.Turns.{TellsStop, end_of_stop}
use Rattle.cp_interpreter.specs.declared.end.End.{End}
use Rattle.cp_interpreter.specs.declared.end.End.TheVariants as how
use Rattle.cp_interpreter.specs.declared.stop.Stop.{Stop}
use Rattle.cp_interpreter.specs.declared.stop.Stop.TheVariants.{Output, Full, File, Disk, NoStore, Clock, Memory}
use Rattle.cp_interpreter.proofs.Opened.{stop-early, stop-disk, causes-early-end, early-not-long}
use Rattle.cp_interpreter.proofs.Said.{statement-said, said-short, said-opened, causes-said, disk-said}
use Rattle.cp_program.proofs.Verdicts.{verdict-opens}

-- ---- what a store answers

-- a statement was run on the workspace that was opened
pub answered-statement : {R S : Type 0} (view : R → Tree) (source_view : S → Tree) (v m : KnownDisk) (old new : Workspace R S) (x : Stmt) (y : Reply) → OpenedAlone view source_view v m (Ok old)
    → ((terms : Terms) (s : Session) → Stands view source_view terms old s → Turned view source_view terms (turn_of (setting terms) s (says x)) new (of_nobody y))
    → AnsweredAs Opens (IsAnswerTo x) v (Ok y)
answered-statement view source_view v m old new x y o f = (
  o.0,
  λ h store. statement-said (store_terms h v.view.content (one_curator [])) (opened_session h no_supply) x y (f (store_terms h v.view.content (one_curator [])) (opened_session h no_supply) (o.1 h no_supply store).0).0,
)

-- the records of a store were compared
pub answered-verdict : (v : KnownDisk) (x : Verdict) → VerifiesAs v.view.content (Ok x) → AnsweredAs OpensAndReplays IsVerdictOn v (Ok (reply.Verified x))
answered-verdict v x h = (verdict-opens v.view.content x h, (x, refl, h))

-- the commits of a store were listed
pub answered-log : (v : KnownDisk) (commits : List LogLine) → LogsAs v.view.content (Ok commits) → AnsweredAs OpensAndReplays IsLogOf v (Ok (reply.Logged commits))
answered-log v commits o = (o.0, λ h store. ap (λ z. reply.Logged z) (o.1 h store))

-- ---- calls that answer

module _ (Answers : List ℕ → Type 0) (IsReply : List ℕ → Reply → Type 0) (i : KnownInput) (f : KnownFiles) (k : KnownClock) (o p : KnownOutput) (v w : KnownDisk) where
  abbrev b : Outside
  b = record { input = i; files = f; clock = k; output = o }

  abbrev a : Outside
  a = record { input = i; files = f; clock = k; output = p }

  -- what isn't opened is no store
  none-at : (stop : Stop) (at : ℕ) → end_of_stop stop ≡ how.NoStore at → AnsweredAs Answers IsReply v (Err stop) → IsNot Answers v.view.content at
  none-at Output at h n = absurd (cc)
  none-at Full at h n = absurd (cc)
  none-at File at h n = absurd (cc)
  none-at Disk at h n = absurd (cc)
  none-at (NoStore m) at h n = let same : m ≡ at = cc h in subst (IsNot Answers v.view.content) same n
  none-at Clock at h n = absurd (cc)
  none-at Memory at h n = absurd (cc)

  -- the answer was written
  answered-line : (y : Reply) (e : End) → (IsTrue v.known → AnsweredAs Answers IsReply v (Ok y)) → (Rests v w) → SaidLine (lines y) (is_refusal y) o p e → Answered Answers IsReply b a v w e
  answered-line y e answered rests s = record {
    input = refl;
    files = refl;
    clock = refl;
    rests = rests;
    no_store = λ known at h. absurd (said-opened (lines y) (is_refusal y) o p e at s h);
    ended = inr (y, s, answered);
  }

  -- the call was stopped
  answered-early : (stop : Stop) → IsOpeningStop stop → (IsTrue v.known → AnsweredAs Answers IsReply v (Err stop)) → (Rests v w) → TellsStop o p stop → Answered Answers IsReply b a v w (end_of_stop stop)
  answered-early stop kind none rests tells = (let early = stop-early o p stop kind tells in record {
    input = refl;
    files = refl;
    clock = refl;
    rests = rests;
    no_store = λ known at h. (early, none-at stop at h (none known));
    ended = inl early;
  })

  -- what came of the answer
  pub answered-end : (r : Result Reply Stop) (e : End) → IfErr r IsOpeningStop → (IsTrue v.known → AnsweredAs Answers IsReply v r) → (Rests v w) → GaveAnswer r o p e → Answered Answers IsReply b a v w e
  answered-end (Ok y) e kind answered rests gave = answered-line y e answered rests gave
  answered-end (Err stop) e kind answered rests gave = subst (Answered Answers IsReply b a v w) (sym gave.0) (answered-early stop kind answered rests gave.1)

-- the causes of its end
pub causes-answer : (i : KnownInput) (f : KnownFiles) (k : KnownClock) (o p : KnownOutput) (r : Result Reply Stop) (e : End) → IfErr r IsOpeningStop → GaveAnswer r o p e → Accounts (λ z. z ≡ how.Output) o.faults p.faults (result_of e)
    → HasCauses (record { input = i; files = f; clock = k; output = o }) (record { input = i; files = f; clock = k; output = p }) e
causes-answer i f k o p (Ok y) e kind gave cause = causes-said i f f k o p (lines y) (is_refusal y) e refl refl gave cause
causes-answer i f k o p (Err stop) e kind gave cause =
    subst (HasCauses (record { input = i; files = f; clock = k; output = o }) (record { input = i; files = f; clock = k; output = p })) (sym gave.0)
    (causes-early-end i f k o p (end_of_stop stop) (stop-early o p stop kind gave.1).0 cause.later)

-- a disk after a call that gave no error, and then what follows
pub disk-then : {T E : Type 0} {Blames : E → Type 0} {x : T} (v m w : KnownDisk) (e : End) → UsesDisk {T = T} Blames v m (Ok x) → DiskCauses m w e → DiskCauses v w e
disk-then v m w e first next = record {
  same = next.same ∙ first.same;
  account = subst (λ n. Accounts (λ d. d ≡ how.Disk) n w.counts.faults (result_of e)) first.account.steady next.account;
}

-- the disk's account of it
pub disk-answer : (v w : KnownDisk) (o p : KnownOutput) (r : Result Reply Stop) (e : End) → IfErr r IsOpeningStop → GaveAnswer r o p e → UsesDisk (λ e. e ≡ Disk) v w r → DiskCauses v w e
disk-answer v w o p (Ok y) e kind gave cause = disk-said v w (lines y) (is_refusal y) o p e cause.same cause.account.steady gave
disk-answer v w o p (Err stop) e kind gave cause = subst (λ z. DiskCauses v w z) (sym gave.0) (stop-disk v w stop kind cause)

-- it takes no input, so not too much came
pub short-answer : (o p : KnownOutput) (r : Result Reply Stop) (e : End) → IfErr r IsOpeningStop → GaveAnswer r o p e → e ≡ how.TooLong → ⊥
short-answer o p (Ok y) e kind gave = said-short (lines y) (is_refusal y) o p e gave
short-answer o p (Err stop) e kind gave = subst (λ z. z ≡ how.TooLong → ⊥) (sym gave.0) (early-not-long (end_of_stop stop) (stop-early o p stop kind gave.1).0)

-- ---- the last line

-- the output's account where a call was stopped that opened no store
pub stopped-output : (n m : ℕ) (stop : Stop) → IsOpeningStop stop → n ≤ m → Accounts (λ z. z ≡ how.Output) n m (result_of (end_of_stop stop))
stopped-output n m Output kind le = elim kind [ inl e ↦ absurd (cc) | inr l ↦ elim l [ inl x ↦ (let y = x.1 in absurd (cc)) | inr e ↦ absurd (cc) ] ]
stopped-output n m Full kind le = record { later = le; blamed = λ h. absurd (cc); steady = tt }
stopped-output n m File kind le = record { later = le; blamed = λ h. absurd (cc); steady = tt }
stopped-output n m Disk kind le = record { later = le; blamed = λ h. absurd (cc); steady = tt }
stopped-output n m (NoStore at) kind le = record { later = le; blamed = λ h. absurd (cc); steady = tt }
stopped-output n m Clock kind le = record { later = le; blamed = λ h. absurd (cc); steady = tt }
stopped-output n m Memory kind le = record { later = le; blamed = λ h. absurd (cc); steady = tt }
