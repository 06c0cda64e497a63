-- What a session does from its start on is the job of its input; and calls that run none.
use Rattle.std.proofs.Common.{◌≡◌, ℕ, ◌+◌, ◌≤◌, List, [], Bool, true, false, refl, inl, inr, sym, ap, subst, ◌∙◌, arith}
use Rattle.std.specs.Prelude.{IfErr}
use Rattle.cp_outside.specs.Causes.{Accounts, Rose}
use Rattle.cp_outside.specs.declared.files.FilesFault.{FilesFault}
use Rattle.cp_outside.specs.declared.files.FilesFault.TheVariants as fails
use Rattle.cp_reply.specs.Session.{Session}
use Rattle.cp_workspace.specs.Files.{KnownFiles, HasRead}
use Rattle.cp_disk.specs.Views.{KnownDisk}
use Rattle.cp_workspace.specs.Texts.{Terms}
use Rattle.cp_workspace.specs.Spending.{HasSpent}
use Rattle.cp_workspace.proofs.Spent.{spent-sum}
use Rattle.cp_workspace.proofs.Standing.{on-ok}
use Rattle.cp_interpreter.specs.Job.{job_so_far, job}
use Rattle.cp_interpreter.specs.Outside.{KnownInput, KnownClock, KnownOutput, Outside}
use Rattle.cp_interpreter.specs.Play.{begun, plays, plays_all}
use Rattle.cp_interpreter.specs.Story.{SaidLine, Leaving, unseen, AllDone, OutputStopped, OutOfMemory, Did, work_on, IsRunning, HasCauses, DiskCauses, result_of}
use Rattle.cp_interpreter.specs.Turns.{work_from, end_of_stop}
use Rattle.cp_interpreter.specs.declared.end.End.{End}
use Rattle.cp_interpreter.specs.declared.end.End.TheVariants as how
use Rattle.cp_interpreter.specs.declared.stop.Stop.{Stop}
use Rattle.cp_interpreter.specs.declared.stop.Stop.TheVariants.{File, Memory}
use Rattle.cp_interpreter.proofs.Runs.{parts}
use Rattle.cp_interpreter.proofs.Plays.{plays-none}

-- no byte of the input writes nothing
pub played-none : (terms : Terms) (s : Session) → (job_so_far terms s []).out ≡ []
unfolding plays job_so_far
played-none terms s = (plays-none (begun terms s)).0

-- ---- from the start on

-- what a session does from its start is what the whole session does, after what was read for its start
module _ (terms : Terms) (s : Session) (k : ℕ) (taken : List ℕ) (i : KnownInput) (f fb : KnownFiles) (c : KnownClock) (o : KnownOutput) (a : Outside) (L : Leaving) (r : HasRead f fb k) where
  spent_all : {n j : ℕ} → HasSpent n j fb a.files c a.clock → HasSpent (k + n) j f a.files c a.clock
  spent_all {n} {j} w = spent-sum f fb a.files c c a.clock k 0 n j (k + n) j refl (omega arith) (record { read = r; asked = refl }) w

  start_done : (t : Bool) → AllDone (work_from (begun terms s) false) L taken (parts i fb c o) a t → AllDone (work_on terms s k) unseen taken (parts i f c o) a t
  unfolding plays plays_all job_so_far job
  start_done t w = record { refused_is = w.refused_is; wrote = w.wrote; spent = spent_all w.spent; left = tt }

  start_stopped : OutputStopped (work_from (begun terms s) false) L taken (parts i fb c o) a → OutputStopped (work_on terms s k) unseen taken (parts i f c o) a
  unfolding plays plays_all job_so_far job
  start_stopped (inl w) = inl (record { at = w.at; inside = w.inside; wrote = w.wrote; spent = spent_all w.spent; left = tt })
  start_stopped (inr w) = inr (record { ended = w.ended; wrote = w.wrote; spent = spent_all w.spent; left = tt })

  start_inside : OutOfMemory (work_from (begun terms s) false) L taken (parts i fb c o) a → OutOfMemory (work_on terms s k) unseen taken (parts i f c o) a
  unfolding plays plays_all job_so_far job
  start_inside w = record { at = w.at; within = w.within; wrote = w.wrote; spent = elim w.spent [ inl none ↦ inl (spent_all none) | inr all ↦ inr (spent_all all) ]; left = tt }

  pub did-start : (e : End) → Did (work_from (begun terms s) false) L 0 taken (parts i fb c o) a e → Did (work_on terms s k) unseen 0 taken (parts i f c o) a e
  unfolding plays plays_all job_so_far job
  did-start how.Done w = start_done _ w
  did-start how.Refused w = start_done _ w
  did-start how.Usage w = absurd w
  did-start how.Input w = record { wrote = w.wrote; spent = spent_all w.spent; left = tt }
  did-start how.File w = record {
    at = w.at;
    inside = w.inside;
    load = omega (arith, w.load);
    wrote = w.wrote;
    spent = spent_all w.spent;
    left = tt;
  }
  did-start how.Output w = start_stopped w
  did-start how.Disk w = record { at = w.at; inside = w.inside; writing = omega (arith, w.writing); wrote = w.wrote; spent = spent_all w.spent; left = tt }
  did-start (how.NoStore at) w = absurd w
  did-start how.Memory w = elim w [ inl full ↦ inl (start_stopped full) | inr ran ↦ inr (start_inside ran) ]
  did-start how.TooLong w = record { at = w.at; within = w.within; last_piece = w.last_piece; wrote = w.wrote; spent = spent_all w.spent; left = tt }
  did-start how.Clock w = record { at = w.at; inside = w.inside; commit = w.commit; wrote = w.wrote; spent = spent_all w.spent; left = tt }

-- ---- calls that run no session

-- one line ends in few ways
module _ (line : List ℕ) (refused : Bool) (o p : KnownOutput) where
  said_not : (e d : End) → (SaidLine line refused o p d → ⊥) → SaidLine line refused o p e → e ≡ d → ⊥
  said_not e d never w same = never (subst (λ z. SaidLine line refused o p z) same w)

  pub said-running : (e : End) → SaidLine line refused o p e → IsRunning e
  said-running e w = record { fitting = said_not e how.Usage (λ z. z) w; opened = λ at. said_not e (how.NoStore at) (λ z. z) w }

  pub said-short : (e : End) → SaidLine line refused o p e → e ≡ how.TooLong → ⊥
  said-short e w = said_not e how.TooLong (λ z. z) w

-- ---- causes

-- an end that isn't this one doesn't blame for it
not-blamed : (d e : End) (m n : ℕ) → (e ≡ d → ⊥) → IfErr (result_of e) (λ z. z ≡ d → Rose m n)
not-blamed d how.Done m n never = tt
not-blamed d how.Refused m n never = tt
not-blamed d how.Usage m n never = λ h. absurd (never h)
not-blamed d how.Input m n never = λ h. absurd (never h)
not-blamed d how.File m n never = λ h. absurd (never h)
not-blamed d how.Output m n never = λ h. absurd (never h)
not-blamed d how.Disk m n never = λ h. absurd (never h)
not-blamed d (how.NoStore at) m n never = λ h. absurd (never h)
not-blamed d how.Memory m n never = λ h. absurd (never h)
not-blamed d how.TooLong m n never = λ h. absurd (never h)
not-blamed d how.Clock m n never = λ h. absurd (never h)

-- so a count that stayed has its account
quiet : (d e : End) (m n : ℕ) → n ≡ m → (e ≡ d → ⊥) → Accounts (λ z. z ≡ d) m n (result_of e)
quiet d e m n same never = record { later = omega (arith, same); blamed = not-blamed d e m n never; steady = on-ok (result_of e) same }

-- a disk that wasn't touched isn't blamed
pub disk-still : (v : KnownDisk) (e : End) → (e ≡ how.Disk → ⊥) → DiskCauses v v e
disk-still v e never = record { same = refl; account = quiet how.Disk e v.counts.faults v.counts.faults refl never }

module _ (i : KnownInput) (f fb : KnownFiles) (k : KnownClock) (o p : KnownOutput) where
  -- the causes where a start tree is refused
  pub causes-refused : (line : List ℕ) (e : End) → fb.found ≡ f.found → fb.faults ≡ f.faults → SaidLine line true o p e → Accounts (λ z. z ≡ how.Output) o.faults p.faults (result_of e) → HasCauses (parts i f k o) (parts i fb k p) e
  causes-refused line e found same w c = record {
    input = quiet how.Input e i.faults i.faults refl (said_not line true o p e how.Input (λ z. z) w);
    world = record {
      same = found;
      files = quiet how.File e f.faults fb.faults same (said_not line true o p e how.File (λ z. z) w);
      clock = quiet how.Clock e k.faults k.faults refl (said_not line true o p e how.Clock (λ z. z) w);
      output = c;
    };
  }

  -- the causes where a call was stopped before it took a byte
  pub causes-early : (fault : FilesFault) (stop : Stop) → (fault ≡ fails.Failed → stop ≡ File) × (fault ≡ fails.Memory → stop ≡ Memory) → fb.found ≡ f.found → f.faults ≤ fb.faults → (fault ≡ fails.Failed → Rose f.faults fb.faults) → o.faults ≤ p.faults
      → HasCauses (parts i f k o) (parts i fb k p) (end_of_stop stop)
  causes-early fails.Failed stop becomes found more rose later =
      subst (λ z. HasCauses (parts i f k o) (parts i fb k p) (end_of_stop z)) (sym (becomes.0 refl)) (record {
        input = quiet how.Input how.File i.faults i.faults refl (λ h. absurd (cc));
        world = record {
          same = found;
          files = record { later = more; blamed = λ h. rose refl; steady = tt };
          clock = quiet how.Clock how.File k.faults k.faults refl (λ h. absurd (cc));
          output = record { later = later; blamed = λ h. absurd (cc); steady = tt };
        };
      })
  causes-early fails.Memory stop becomes found more rose later =
      subst (λ z. HasCauses (parts i f k o) (parts i fb k p) (end_of_stop z)) (sym (becomes.1 refl)) (record {
        input = quiet how.Input how.Memory i.faults i.faults refl (λ h. absurd (cc));
        world = record {
          same = found;
          files = record { later = more; blamed = λ h. absurd (cc); steady = tt };
          clock = quiet how.Clock how.Memory k.faults k.faults refl (λ h. absurd (cc));
          output = record { later = later; blamed = λ h. absurd (cc); steady = tt };
        };
      })

-- nor does it end so at a disk
pub early-no-disk : (fault : FilesFault) (stop : Stop) → (fault ≡ fails.Failed → stop ≡ File) × (fault ≡ fails.Memory → stop ≡ Memory) → end_of_stop stop ≡ how.Disk → ⊥
early-no-disk fails.Failed stop becomes h = let e = sym (ap end_of_stop (becomes.0 refl)) ∙ h in absurd (cc)
early-no-disk fails.Memory stop becomes h = let e = sym (ap end_of_stop (becomes.1 refl)) ∙ h in absurd (cc)
