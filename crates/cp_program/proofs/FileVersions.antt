-- What a call leaves of the version of its file, and that it writes lines of replies alone.
use Rattle.std.proofs.Common.{◌≡◌, ◌⊎◌, inl, inr, ⊎_elim, ℕ, List, [], Bool, true, false, Result, Ok, Err, IfErr, OnErr, IfOk, OnOk, refl, sym, ap, ◌∙◌, subst}
use Rattle.std.specs.Prelude.{IsTrue}
use Rattle.cp_disk.specs.Views.{View, KnownDisk, ViewRests, Rests}
use Rattle.cp_journal.specs.NewStores.{IsVacant}
use Rattle.cp_db.specs.FileVersions.{file_version, newest_version, HasVersion, HasVersionOrNewest, HasFileVersion, IsVacantOrNewest, KeepsFileVersion, LeavesFiles}
use Rattle.cp_db.proofs.FileVersions.{leaves-none, leaves-then, leaves-wider, version-held}
use Rattle.cp_outside.specs.declared.files.FilesFault.{FilesFault}
use Rattle.cp_outside.specs.declared.files.FilesFault.TheVariants as files
use Rattle.cp_workspace.specs.Files.{KnownFiles}
use Rattle.cp_model.specs.declared.kind.Kind.{Kind}
use Rattle.cp_reply.specs.Lines.{lines}
use Rattle.cp_reply.specs.declared.reply.Reply.{Reply}
use Rattle.cp_scratch.specs.Workloads.{ComesTo}
use Rattle.cp_interpreter.specs.Begins.{IsOpeningStop, IsMakingStop}
use Rattle.cp_interpreter.specs.Job.{is_refusal}
use Rattle.cp_interpreter.specs.Outside.{KnownInput, KnownClock, KnownOutput, Outside}
use Rattle.cp_interpreter.specs.Replied.{WroteReplies}
use Rattle.cp_interpreter.specs.Story.{HasNotBegun, IsEarly, SaidLine, WritesLast, early_line}
use Rattle.cp_interpreter.specs.Turns.{TellsStop, end_of_stop}
use Rattle.cp_interpreter.specs.declared.end.End.{End}
use Rattle.cp_interpreter.specs.declared.end.End.TheVariants as how
use Rattle.cp_interpreter.specs.declared.stop.Stop.{Stop}
use Rattle.cp_interpreter.specs.declared.stop.Stop.TheVariants.{Output, Full, File, Disk, NoStore, Clock, Memory}
use Rattle.cp_interpreter.proofs.Opened.{same-rests}
use Rattle.cp_interpreter.proofs.Replied.{replied-early, replied-memory, replied-said, replied-unbegun}
use Rattle.cp_interpreter.proofs.Runs.{parts}
use Rattle.cp_program.specs.Answering.{Answered, Generated}
use Rattle.cp_program.specs.FileVersions.{MakesNewest, RunsOnNewest}

-- ---- sessions on a store

-- a call that ran no session
pub newest-unbegun : (i : KnownInput) (f : KnownFiles) (k : KnownClock) (o p : KnownOutput) (v w : KnownDisk) (e : End) → IsEarly e → WritesLast o p [] (early_line e)
    → LeavesFiles (HasVersionOrNewest (file_version v.view.content)) v.view w.view → (HasVersion newest_version v.view.content → ViewRests v.view w.view) → RunsOnNewest (parts i f k o) (parts i f k p) v w e
newest-unbegun i f k o p v w e early wrote leaves kept = record {
  leaves = leaves;
  begun = inr (record { early = early; none_taken = refl; none_told = refl; files = refl; clock = refl; wrote = wrote }, kept);
}

-- one that didn't touch the disk
pub newest-untouched : (i : KnownInput) (f : KnownFiles) (k : KnownClock) (o p : KnownOutput) (v : KnownDisk) (e : End) → IsEarly e → WritesLast o p [] (early_line e) → RunsOnNewest (parts i f k o) (parts i f k p) v v e
newest-untouched i f k o p v e early wrote =
    newest-unbegun i f k o p v v e early wrote (leaves-none (HasVersionOrNewest (file_version v.view.content)) v.view (inl refl)) (λ newest. same-rests v.view)

-- one that ran its session on a file of the newest version
pub newest-begun : (b a : Outside) (v m w : KnownDisk) (e : End) → LeavesFiles (HasVersionOrNewest (file_version v.view.content)) v.view m.view → HasFileVersion newest_version m.view → KeepsFileVersion m.view w.view → RunsOnNewest b a v w e
newest-begun b a v m w e leaves holds keeps =
    let P = HasVersionOrNewest (file_version v.view.content) in
    record {
      leaves = leaves-then P v.view m.view w.view leaves (leaves-wider (HasVersion (file_version m.view.content)) P m.view w.view (λ c is. inr (is ∙ holds.content)) keeps);
      begun = inl (version-held newest_version m.view w.view holds keeps);
    }

-- ---- results

-- what holds where an error comes holds of an error
pub on-err : {T E P : Type 0} (r : Result T E) → P → OnErr r P
on-err (Ok x) p = tt
on-err (Err e) p = p

-- and what follows from it
pub on-err-then : {T E P Q : Type 0} (r : Result T E) → (P → Q) → OnErr r P → OnErr r Q
on-err-then (Ok x) f p = tt
on-err-then (Err e) f p = f p

-- ---- new stores

-- the store was made
pub makes-done : (v w : KnownDisk) → HasFileVersion newest_version w.view → ((IsVacant v.view.content → ⊥) → ViewRests v.view w.view) → (IsVacant v.view.content → LeavesFiles IsVacantOrNewest v.view w.view) → MakesNewest v w how.Done
makes-done v w newest exists vacant = record { done = λ e. newest; refused = λ e. absurd (cc e); exists = exists; vacant = vacant }

-- it was refused
pub makes-refused : (v w : KnownDisk) → ViewRests v.view w.view → ((IsVacant v.view.content → ⊥) → ViewRests v.view w.view) → (IsVacant v.view.content → LeavesFiles IsVacantOrNewest v.view w.view) → MakesNewest v w how.Refused
makes-refused v w rests exists vacant = record { done = λ e. absurd (cc e); refused = λ e. rests; exists = exists; vacant = vacant }

-- another end came
pub makes-neither : (v w : KnownDisk) (e : End) → (e ≡ how.Done → ⊥) → (e ≡ how.Refused → ⊥) → ((IsVacant v.view.content → ⊥) → ViewRests v.view w.view) → (IsVacant v.view.content → LeavesFiles IsVacantOrNewest v.view w.view) → MakesNewest v w e
makes-neither v w e done refused exists vacant = record { done = λ h. absurd (done h); refused = λ h. absurd (refused h); exists = exists; vacant = vacant }

-- by the line that was said
pub makes-said : (line : List ℕ) (flag : Bool) (o p : KnownOutput) (v w : KnownDisk) (e : End) → SaidLine line flag o p e → (flag ≡ false → HasFileVersion newest_version w.view) → (flag ≡ true → ViewRests v.view w.view)
    → ((IsVacant v.view.content → ⊥) → ViewRests v.view w.view) → (IsVacant v.view.content → LeavesFiles IsVacantOrNewest v.view w.view) → MakesNewest v w e
makes-said line flag o p v w how.Done s newest rests exists vacant = makes-done v w (newest s.0) exists vacant
makes-said line flag o p v w how.Refused s newest rests exists vacant = makes-refused v w (rests s.0) exists vacant
makes-said line flag o p v w how.Usage s newest rests exists vacant = absurd s
makes-said line flag o p v w how.Input s newest rests exists vacant = absurd s
makes-said line flag o p v w how.File s newest rests exists vacant = absurd s
makes-said line flag o p v w how.Output s newest rests exists vacant = makes-neither v w how.Output (λ h. absurd (cc h)) (λ h. absurd (cc h)) exists vacant
makes-said line flag o p v w how.Disk s newest rests exists vacant = absurd s
makes-said line flag o p v w (how.NoStore at) s newest rests exists vacant = absurd s
makes-said line flag o p v w how.Memory s newest rests exists vacant = makes-neither v w how.Memory (λ h. absurd (cc h)) (λ h. absurd (cc h)) exists vacant
makes-said line flag o p v w how.TooLong s newest rests exists vacant = absurd s
makes-said line flag o p v w how.Clock s newest rests exists vacant = absurd s

-- something stopped it
pub makes-stopped : (v w : KnownDisk) (stop : Stop) → ((IsVacant v.view.content → ⊥) → ViewRests v.view w.view) → (IsVacant v.view.content → LeavesFiles IsVacantOrNewest v.view w.view) → MakesNewest v w (end_of_stop stop)
makes-stopped v w Output exists vacant = makes-neither v w how.Output (λ h. absurd (cc h)) (λ h. absurd (cc h)) exists vacant
makes-stopped v w Full exists vacant = makes-neither v w how.Memory (λ h. absurd (cc h)) (λ h. absurd (cc h)) exists vacant
makes-stopped v w File exists vacant = makes-neither v w how.File (λ h. absurd (cc h)) (λ h. absurd (cc h)) exists vacant
makes-stopped v w Disk exists vacant = makes-neither v w how.Disk (λ h. absurd (cc h)) (λ h. absurd (cc h)) exists vacant
makes-stopped v w (NoStore at) exists vacant = makes-neither v w (how.NoStore at) (λ h. absurd (cc h)) (λ h. absurd (cc h)) exists vacant
makes-stopped v w Clock exists vacant = makes-neither v w how.Clock (λ h. absurd (cc h)) (λ h. absurd (cc h)) exists vacant
makes-stopped v w Memory exists vacant = makes-neither v w how.Memory (λ h. absurd (cc h)) (λ h. absurd (cc h)) exists vacant

-- ---- what is written where something stopped the opening, or the making

opening-other : (stop : Stop) → IsOpeningStop stop → (stop ≡ Output → ⊥) × (stop ≡ Full → ⊥)
opening-other stop (inl e) = (λ h. absurd (cc), λ h. absurd (cc))
opening-other stop (inr (inl n)) = (let e : stop ≡ NoStore n.0 = n.1 in (λ h. absurd (cc), λ h. absurd (cc)))
opening-other stop (inr (inr e)) = (λ h. absurd (cc), λ h. absurd (cc))

pub replied-unopened : (o p : KnownOutput) (stop : Stop) → IsOpeningStop stop → TellsStop o p stop → WroteReplies false o p (end_of_stop stop)
replied-unopened o p stop kind tells = let other = opening-other stop kind in replied-unbegun false o p stop other.0 other.1 tells

making-other : (stop : Stop) → IsMakingStop stop → (stop ≡ Output → ⊥) × (stop ≡ Full → ⊥)
making-other stop (inl e) = (λ h. absurd (cc), λ h. absurd (cc))
making-other stop (inr (inl e)) = (λ h. absurd (cc), λ h. absurd (cc))
making-other stop (inr (inr e)) = (λ h. absurd (cc), λ h. absurd (cc))

pub replied-unmade : (o p : KnownOutput) (stop : Stop) → IsMakingStop stop → TellsStop o p stop → WroteReplies false o p (end_of_stop stop)
replied-unmade o p stop kind tells = let other = making-other stop kind in replied-unbegun false o p stop other.0 other.1 tells

-- the same where a file failed, or memory ran out as it was read
unread-other : (fault : FilesFault) (stop : Stop) → (fault ≡ files.Failed → stop ≡ File) × (fault ≡ files.Memory → stop ≡ Memory) → (stop ≡ Output → ⊥) × (stop ≡ Full → ⊥)
unread-other files.Failed stop becomes = let e = becomes.0 refl in (λ h. absurd (cc), λ h. absurd (cc))
unread-other files.Memory stop becomes = let e = becomes.1 refl in (λ h. absurd (cc), λ h. absurd (cc))

pub replied-unread : (o p : KnownOutput) (fault : FilesFault) (stop : Stop) → (fault ≡ files.Failed → stop ≡ File) × (fault ≡ files.Memory → stop ≡ Memory) → TellsStop o p stop → WroteReplies false o p (end_of_stop stop)
replied-unread o p fault stop becomes tells = let other = unread-other fault stop becomes in replied-unbegun false o p stop other.0 other.1 tells

-- an answer from a store, or what stopped it
pub replied-answered : (Answers : List ℕ → Type 0) (IsReply : List ℕ → Reply → Type 0) (before now : Outside) (v w : KnownDisk) (e : End) → Answered Answers IsReply before now v w e → WroteReplies false before.output now.output e
replied-answered Answers IsReply before now v w e r = elim r.ended [
  | inl early ↦ replied-early before.output now.output e early.0 early.1
  | inr said ↦ replied-said said.0 before.output now.output e said.1
]

-- the numbers of a workload are no refusal
summary-accepts : (k : Kind) (seed count : ℕ) (r : Reply) → ComesTo k seed count r → false ≡ is_refusal r
summary-accepts k seed count r comes = ap is_refusal (sym comes.is)

-- what a workload comes to, or that memory ran out
pub replied-generated : (k : Kind) (seed count : ℕ) (before now : Outside) (e : End) → Generated k seed count before now e → WroteReplies false before.output now.output e
replied-generated k seed count before now e r = elim r.said [
  | inl out ↦ subst (λ (z : End). WroteReplies false before.output now.output z) (sym out.0) (replied-memory false before.output now.output out.1)
  | inr line ↦ replied-said line.0 before.output now.output e (subst (λ (z : Bool). SaidLine (lines line.0) z before.output now.output e) (summary-accepts k seed count line.0 line.1) line.2)
]
