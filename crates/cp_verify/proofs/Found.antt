-- The verdict on a file, of what a walk did.
use Rattle.std.proofs.Common.{◌≡◌, ◌∙◌, ℕ, true, false, List, length, refl, sym, ap, Ok}
use Rattle.std.specs.declared.option.Option.{Option}
use Rattle.std.specs.declared.option.Option.TheVariants.{None}
use Rattle.cp_model.specs.History.{State, replay}
use Rattle.cp_model.specs.declared.record.Verdict.{Verdict}
use Rattle.cp_model.specs.declared.record.Verdict.TheVariants.{Agrees, Differs, TreeDiffers, NumberDiffers}
use Rattle.cp_frame.specs.Items.{Item, AllStand}
use Rattle.cp_frame.specs.Stands.{IsStore}
use Rattle.cp_frame.proofs.Standing.{replayed-items, rows-right}
use Rattle.cp_db.specs.Walk.{HasFound, frame_place}
use Rattle.cp_journal.specs.declared.limits.TheConstants.{HEADER_SIZE}
use Rattle.cp_verify.specs.Verdicts.{IsVerdict}
use Rattle.cp_verify.specs.Verify.{VerifiesAs}
use Rattle.cp_verify.specs.declared.verification.Verifying.{Verifying}

-- ---- what is found of a file

-- from the beginning on it is the verdict on the items
abbrev pub HasJudged : Verifying → Option State → (ℕ → ℕ) → List Item → Type 0
HasJudged work first place items = first ≡ None → IsVerdict place items work.verdict

module _ (c : List ℕ) where
  -- where the records are right, the file stands for the history
  found-store : {W : Type 0} (Done : W → Option State → (ℕ → ℕ) → List Item → Type 0) (f : W) (h : HasFound Done c f) → AllStand true None h.told.items → IsStore h.history c
  found-store Done f h right = record {
    told = record {
      header = h.told.header;
      frames = h.told.frames;
      stand = h.told.stand;
      items = h.told.items;
      some = h.told.some;
      held = h.told.held;
      tell = right;
      are = h.told.are;
    };
    closed = h.opens.closed;
  }

  -- the verdict that is found is that on the file
  verdict_on : (work : Verifying) (h : HasFound HasJudged c work) (v : Verdict) → IsVerdict (frame_place HEADER_SIZE h.told.frames) h.told.items v → VerifiesAs c (Ok v)
  verdict_on work h (Agrees n) done = record {
    history = h.history;
    store = found-store HasJudged work h done.0;
    state = h.state;
    replayed = h.replayed;
    counted = done.1 ∙ ap length (sym (rows-right h.told.items h.state done.0 (sym (replayed-items h.told.items) ∙ ap replay (sym h.told.are) ∙ h.replayed)));
  }
  verdict_on work h (Differs at a b) done = record {
    opens = h.opens;
    history = h.history;
    told = h.told;
    number = done.0;
    wrong = done.1;
    place = done.2;
  }
  verdict_on work h (TreeDiffers at q) done = absurd done
  verdict_on work h (NumberDiffers at m n) done = absurd done

  pub verdict_found : (work : Verifying) → HasFound HasJudged c work → VerifiesAs c (Ok work.verdict)
  verdict_found work h = verdict_on work h work.verdict (h.done refl)
