-- One call: what its end says, and what it has to do with the words.
use Rattle.cp_interpreter.specs.declared.limits.TheConstants.{INPUT_MAX}
use Rattle.std.proofs.Common.{◌≡◌, ℕ, ◌+◌, ◌≤◌, ◌<◌, List, [], length, Bool, false, refl, inl, inr, sym, ap, subst, ◌∙◌, arith}
use Rattle.std.specs.Prelude.{◌⊎◌, ◌↔◌, IsTrue}
use Rattle.std.specs.declared.option.Option.{Option}
use Rattle.std.specs.declared.option.Option.TheVariants.{None, Some}
use Rattle.cp_words.specs.declared.command.Command.{Command}
use Rattle.cp_words.specs.declared.command.Command.TheVariants as words
use Rattle.cp_workspace.specs.Files.{KnownFiles}
use Rattle.cp_disk.specs.Views.{KnownDisk}
use Rattle.cp_frame.specs.Stands.{Opens, OpensAndReplays}
use Rattle.cp_program.specs.Texts.{usage_text}
use Rattle.cp_interpreter.specs.Texts.{memory_line}
use Rattle.cp_interpreter.specs.Outside.{KnownInput, KnownClock, KnownOutput, Outside}
use Rattle.cp_interpreter.specs.Story.{WritesLast, SaidLine, IsFaultless, HasCauses, DiskCauses}
use Rattle.cp_model.specs.declared.kind.Kind.{Kind}
use Rattle.cp_lang.specs.declared.syntax_tree.Stmt.TheVariants as stmt
use Rattle.cp_reply.specs.Lines.{lines}
use Rattle.cp_reply.specs.declared.reply.Reply.{Reply}
use Rattle.cp_program.specs.Answering.{Answered, Generated, IsAnswerTo, IsLogOf, IsVerdictOn}
use Rattle.cp_program.specs.Using.{IsUsesOf}
use Rattle.cp_program.specs.Versions.{IsAnswerAt, IsArchiveOf}
use Rattle.cp_program.specs.Calls.{DidCommand, HasItsStore, IsShort, Called}
use Rattle.cp_program.specs.FileVersions.{LeavesVersion, VersionLeft}
use Rattle.cp_db.specs.FileVersions.{IsVacantOrNewest}
use Rattle.cp_db.proofs.FileVersions.{leaves-none, version-none}
use Rattle.cp_interpreter.specs.Replied.{TookRefusal, WroteReplies}
use Rattle.cp_interpreter.specs.declared.stop.Stop.TheVariants.{Memory}
use Rattle.cp_interpreter.proofs.Replied.{refusal-told, replied-memory}
use Rattle.cp_program.proofs.FileVersions.{makes-stopped, newest-untouched}
use Rattle.cp_interpreter.specs.Job.{is_refusal}
use Rattle.cp_interpreter.specs.Ends.{code_of}
use Rattle.cp_interpreter.specs.declared.end.End.{End}
use Rattle.cp_interpreter.specs.declared.end.End.TheVariants as how
use Rattle.cp_interpreter.proofs.Runs.{parts}
use Rattle.cp_interpreter.proofs.Opened.{same-rests, early-not-usage, causes-early-end, out-disk}
use Rattle.cp_interpreter.proofs.Whole.{disk-still}

-- more came than a call takes
pub too-long : (given now : ℕ) (taken : List ℕ) (e : End) → now ≡ given + length taken → (e ≡ how.TooLong) ↔ (INPUT_MAX < length taken) → e ≡ how.TooLong → given + INPUT_MAX < now
too-long given now taken e counted much h = omega (arith, much.0 h, counted)

-- a line that is said doesn't end the call with the usage
said-not-usage : (line : List ℕ) (refused : Bool) (o p : KnownOutput) (e : End) → SaidLine line refused o p e → e ≡ how.Usage → ⊥
said-not-usage line refused o p e s h = subst (SaidLine line refused o p) h s

-- nor as no store
said-not-none : (line : List ℕ) (refused : Bool) (o p : KnownOutput) (e : End) → SaidLine line refused o p e → (at : ℕ) → e ≡ how.NoStore at → ⊥
said-not-none line refused o p e s at h = subst (SaidLine line refused o p) h s

-- an answer from a store doesn't end with the usage
answered-fits : (Answers : List ℕ → Type 0) (IsReply : List ℕ → Reply → Type 0) (before now : Outside) (v w : KnownDisk) (e : End) → Answered Answers IsReply before now v w e → e ≡ how.Usage → ⊥
answered-fits Answers IsReply before now v w e r h = elim r.ended [
  | inl early ↦ early-not-usage e early.0 h
  | inr said ↦ said-not-usage (lines said.0) (is_refusal said.0) before.output now.output e said.1 h
]

-- nor does a run of a workload end so
generated-not : (k : Kind) (seed count : ℕ) (before now : Outside) (e d : End) → Generated k seed count before now e → (how.Memory ≡ d → ⊥) → ((line : List ℕ) → SaidLine line false before.output now.output e → e ≡ d → ⊥) → e ≡ d → ⊥
generated-not k seed count before now e d r memory said h = elim r.said [ inl out ↦ memory (sym out.0 ∙ h) | inr line ↦ said (lines line.0) line.2 h ]

-- with words that fit the call doesn't end with the usage
fits : (x : Command) (before now : Outside) (v w : KnownDisk) (e : End) → DidCommand x before now v w e → e ≡ how.Usage → ⊥
fits (words.Scratch k s) before now v w e r = r.0.running.fitting
fits (words.Init k s) before now v w e r = r.0.running.fitting
fits (words.Run curator) before now v w e r = r.fitting
fits (words.Commit file curator) before now v w e r = r.fitting
fits (words.Load l) before now v w e r = r.fitting
fits (words.Ask q) before now v w e r = answered-fits Opens (IsAnswerTo (stmt.Ask q)) before now v w e r
fits (words.Show p) before now v w e r = answered-fits Opens (IsAnswerTo (stmt.Show p)) before now v w e r
fits (words.Generate seed count k) before now v w e r = generated-not k seed count before now e how.Usage r (λ h. absurd (cc)) (λ line said h. said-not-usage line false before.output now.output e said h)
fits words.Log before now v w e r = answered-fits OpensAndReplays IsLogOf before now v w e r
fits words.Verify before now v w e r = answered-fits OpensAndReplays IsVerdictOn before now v w e r
fits (words.At tid asked) before now v w e r = answered-fits OpensAndReplays (IsAnswerAt tid asked) before now v w e r
fits words.Archive before now v w e r = answered-fits OpensAndReplays IsArchiveOf before now v w e r
fits words.Share before now v w e r = r.fitting
fits (words.Uses q) before now v w e r = answered-fits Opens (IsUsesOf q) before now v w e r

-- where there is a store, if there is to be one, it is found
opens : (x : Command) (before now : Outside) (v w : KnownDisk) (e : End) → DidCommand x before now v w e → HasItsStore x v → (at : ℕ) → e ≡ how.NoStore at → ⊥
opens (words.Scratch k s) before now v w e r has at h = r.0.running.opened at h
opens (words.Init k s) before now v w e r has at h = r.0.running.opened at h
opens (words.Run curator) before now v w e r has at h = (r.no_store has.0 at h).2.never has.1
opens (words.Commit file curator) before now v w e r has at h = (r.no_store has.0 at h).2.never has.1
opens (words.Load l) before now v w e r has at h = (r.no_store has.0 at h).2.never has.1
opens (words.Ask q) before now v w e r has at h = (r.no_store has.0 at h).1.never has.1
opens (words.Show p) before now v w e r has at h = (r.no_store has.0 at h).1.never has.1
opens (words.Generate seed count k) before now v w e r has at h = generated-not k seed count before now e (how.NoStore at) r (λ g. absurd (cc)) (λ line said g. said-not-none line false before.output now.output e said at g) h
opens words.Log before now v w e r has at h = (r.no_store has.0 at h).1.never has.1
opens words.Verify before now v w e r has at h = (r.no_store has.0 at h).1.never has.1
opens (words.At tid asked) before now v w e r has at h = (r.no_store has.0 at h).1.never has.1
opens words.Archive before now v w e r has at h = (r.no_store has.0 at h).1.never has.1
opens words.Share before now v w e r has at h = (r.no_store has.0 at h).2.never has.1
opens (words.Uses q) before now v w e r has at h = (r.no_store has.0 at h).1.never has.1

-- where nothing failed and little came, the call ends with an answer
complete : (x : Command) (before now : Outside) (v w : KnownDisk) (e : End) → DidCommand x before now v w e → HasCauses before now e → DiskCauses v w e → (e ≡ how.TooLong → before.input.given + INPUT_MAX < now.input.given)
    → HasItsStore x v → IsShort before.input now.input → IsFaultless before now v w → (e ≡ how.Done) ⊎ (e ≡ how.Refused) ⊎ (e ≡ how.Memory)
complete x before now v w how.Done r c d few has short calm = inl refl
complete x before now v w how.Refused r c d few has short calm = inr (inl refl)
complete x before now v w how.Usage r c d few has short calm = absurd (fits x before now v w how.Usage r refl)
complete x before now v w how.Input r c d few has short calm = absurd (calm.input (c.input.blamed refl))
complete x before now v w how.File r c d few has short calm = absurd (calm.files (c.world.files.blamed refl))
complete x before now v w how.Output r c d few has short calm = absurd (calm.output (c.world.output.blamed refl))
complete x before now v w how.Disk r c d few has short calm = absurd (calm.disk (d.account.blamed refl))
complete x before now v w (how.NoStore at) r c d few has short calm = absurd (opens x before now v w (how.NoStore at) r has at refl)
complete x before now v w how.Memory r c d few has short calm = inr (inr refl)
complete x before now v w how.TooLong r c d few has short calm = absurd (omega (arith, few refl, short))
complete x before now v w how.Clock r c d few has short calm = absurd (calm.clock (c.world.clock.blamed refl))

-- a call with words that fit
pub called : (x : Command) (before now : Outside) (v w : KnownDisk) (e : End) (code : ℕ) → code ≡ code_of e → DidCommand x before now v w e → HasCauses before now e → DiskCauses v w e → (e ≡ how.TooLong → before.input.given + INPUT_MAX < now.input.given)
    → WroteReplies false before.output now.output e → (IsTrue v.known → LeavesVersion x before now v w e) → Called (Some x) before now v w code
called x before now v w e code n r c d few replied file = record {
  end = e;
  number = n;
  ran = inr r;
  complete = λ has short calm. complete x before now v w e r c d few has short calm;
  causes = c;
  disk = d;
  replied = λ other. replied;
  file = file;
}

-- a call with other words
pub called-usage : (i : KnownInput) (f : KnownFiles) (k : KnownClock) (o p : KnownOutput) (v : KnownDisk) (code : ℕ) → code ≡ 2 → WritesLast o p [] usage_text → o.faults ≤ p.faults → Called None (parts i f k o) (parts i f k p) v v code
called-usage i f k o p v code n w later = record {
  end = how.Usage;
  number = n;
  ran = inr (record { usage = refl; input = refl; files = refl; clock = refl; wrote = w });
  complete = λ has short calm. absurd has;
  causes = record {
    input = record { later = omega arith; blamed = λ e. absurd (cc); steady = tt };
    world = record {
      same = refl;
      files = record { later = omega arith; blamed = λ e. absurd (cc); steady = tt };
      clock = record { later = omega arith; blamed = λ e. absurd (cc); steady = tt };
      output = record { later = later; blamed = λ e. absurd (cc); steady = tt };
    };
  };
  disk = disk-still v how.Usage (λ e. absurd (cc));
  replied = λ other. absurd (other refl);
  file = λ known. version-none v.view;
}

-- whatever the words were, a call that went no further leaves the version as it was
left-out : (o : Option Command) (i : KnownInput) (f : KnownFiles) (k : KnownClock) (o1 o2 : KnownOutput) (v : KnownDisk) → WritesLast o1 o2 [] memory_line → VersionLeft o (parts i f k o1) (parts i f k o2) v v how.Memory
left-out None i f k o1 o2 v w = version-none v.view
left-out (Some (words.Scratch kind s)) i f k o1 o2 v w = version-none v.view
left-out (Some (words.Init kind s)) i f k o1 o2 v w =
    makes-stopped v v Memory (λ none. same-rests v.view) (λ vacant. leaves-none IsVacantOrNewest v.view (inl vacant))
left-out (Some (words.Run curator)) i f k o1 o2 v w = newest-untouched i f k o1 o2 v how.Memory (inr (inr refl)) w
left-out (Some (words.Commit file curator)) i f k o1 o2 v w = newest-untouched i f k o1 o2 v how.Memory (inr (inr refl)) w
left-out (Some (words.Load l)) i f k o1 o2 v w = version-none v.view
left-out (Some (words.Ask q)) i f k o1 o2 v w = version-none v.view
left-out (Some (words.Show p)) i f k o1 o2 v w = version-none v.view
left-out (Some (words.Generate seed count kind)) i f k o1 o2 v w = version-none v.view
left-out (Some words.Log) i f k o1 o2 v w = version-none v.view
left-out (Some words.Verify) i f k o1 o2 v w = version-none v.view
left-out (Some (words.At tid asked)) i f k o1 o2 v w = version-none v.view
left-out (Some words.Archive) i f k o1 o2 v w = version-none v.view
left-out (Some words.Share) i f k o1 o2 v w = newest-untouched i f k o1 o2 v how.Memory (inr (inr refl)) w
left-out (Some (words.Uses q)) i f k o1 o2 v w = version-none v.view

-- a call whose words took too much memory
pub called-out : (o : Option Command) (i : KnownInput) (f : KnownFiles) (k : KnownClock) (o1 o2 : KnownOutput) (v : KnownDisk) (code : ℕ) → code ≡ 7 → WritesLast o1 o2 [] memory_line → o1.faults ≤ o2.faults → Called o (parts i f k o1) (parts i f k o2) v v code
called-out o i f k o1 o2 v code n w later = record {
  end = how.Memory;
  number = n;
  ran = inl (record { memory = refl; input = refl; files = refl; clock = refl; wrote = w; rests = same-rests v.view });
  complete = λ has short calm. inr (inr refl);
  causes = causes-early-end i f k o1 o2 how.Memory (inr (inr refl)) later;
  disk = out-disk v;
  replied = λ other. replied-memory false o1 o2 w;
  file = λ known. left-out o i f k o1 o2 v w;
}

-- ---- numbers

-- the usage alone has the number 2
pub usage_number : (e : End) → code_of e ≡ 2 → e ≡ how.Usage
usage_number how.Done h = absurd (cc)
usage_number how.Refused h = absurd (cc)
usage_number how.Usage h = refl
usage_number how.Input h = absurd (cc)
usage_number how.File h = absurd (cc)
usage_number how.Output h = absurd (cc)
usage_number how.Disk h = absurd (cc)
usage_number (how.NoStore at) h = absurd (cc)
usage_number how.Memory h = absurd (cc)
usage_number how.TooLong h = absurd (cc)
usage_number how.Clock h = absurd (cc)

-- so words that fit don't have it
pub fitting-number : (x : Command) (before now : Outside) (v w : KnownDisk) (e : End) (code : ℕ) → code ≡ code_of e → DidCommand x before now v w e → code ≡ 2 → ⊥
fitting-number x before now v w e code n r h = fits x before now v w e r (usage_number e (sym n ∙ h))

-- a call whose status is 1 has written a line of a refusal
refused_number : (e : End) → code_of e ≡ 1 → e ≡ how.Refused
refused_number how.Done h = absurd (cc)
refused_number how.Refused h = refl
refused_number how.Usage h = absurd (cc)
refused_number how.Input h = absurd (cc)
refused_number how.File h = absurd (cc)
refused_number how.Output h = absurd (cc)
refused_number how.Disk h = absurd (cc)
refused_number (how.NoStore at) h = absurd (cc)
refused_number how.Memory h = absurd (cc)
refused_number how.TooLong h = absurd (cc)
refused_number how.Clock h = absurd (cc)

pub called-refused : (e : End) (code : ℕ) (b a : KnownOutput) → code ≡ code_of e → WroteReplies false b a e → code ≡ 1 → TookRefusal b.contents a.contents
called-refused e code b a number replied one = refusal-told b a (subst (λ (z : End). WroteReplies false b a z) (refused_number e (sym number ∙ one)) replied)
