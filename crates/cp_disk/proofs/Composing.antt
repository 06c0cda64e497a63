-- How several calls of a disk go together: what the layers above compose their own promises of.
use Rattle.std.proofs.Common.{inl, inr, ⊎_elim, ℕ, ◌≡◌, Bool, IsTrue, List, Result, Ok, Err, OnOk, refl, sym, subst, ◌∙◌, arith}
use Rattle.cp_disk.specs.Views.{View, KnownDisk, Only, IsSettled, ViewRests, ViewSteps, ViewKeeps}
use Rattle.cp_disk.specs.Writes.{Torn, CutShort}

-- where a write left nothing, the file is as it was
pub torn_none : (at n : ℕ) (c : List ℕ) → Torn at n c c
torn_none at n c = record { before = refl; after = refl; no_shorter = omega arith; no_longer = omega arith }

-- where a cut took nothing, the file is as it was
pub cut_none : (size : ℕ) (c : List ℕ) → CutShort size c c
cut_none size c = record { front = refl; no_shorter = omega arith; no_longer = omega arith }

module _ (Step : List ℕ → List ℕ → Type 0) where
  -- a step, and then a call that leaves no new image
  pub steps_rests : (v w x : View) → ViewSteps Step v w → ViewRests w x → ViewSteps Step v x
  steps_rests v w x steps rests = record {
    later = omega (arith, steps.later, rests.later);
    since = λ t c le h. steps.since t c le (rests.since t c (omega (arith, le, steps.later)) h);
    now = λ c h. steps.now c (rests.images c h);
  }

module _ (P : List ℕ → Type 0) where
  -- nothing is done where each image has the property
  pub keeps_none : (v : View) → ((c : List ℕ) → v.images c → P c) → ViewKeeps P v v
  keeps_none v here = record { later = omega arith; since = λ t c le h. inl h; now = here }

  -- a call follows that leaves no new image
  pub keeps_rests : (v w x : View) → ViewKeeps P v w → ViewRests w x → ViewKeeps P v x
  keeps_rests v w x keeps rests = record {
    later = omega (arith, keeps.later, rests.later);
    since = λ t c le h. keeps.since t c le (rests.since t c (omega (arith, le, keeps.later)) h);
    now = λ c h. keeps.now c (rests.images c h);
  }

  -- a step follows after which each image still has the property
  pub keeps_steps : (Step : List ℕ → List ℕ → Type 0) (v w x : View) → ViewKeeps P v w → ViewSteps Step w x → ((d c : List ℕ) → w.images d → Step d c → P c) → ViewKeeps P v x
  keeps_steps Step v w x keeps steps next = record {
    later = omega (arith, keeps.later, steps.later);
    since = λ t c le h.
        ⊎_elim (λ past. keeps.since t c le past) (λ now. inr (next now.0 c now.1 now.2)) (steps.since t c (omega (arith, le, keeps.later)) h);
    now = λ c h. let from = steps.now c h in next from.0 c from.1 from.2;
  }

  -- more calls follow that keep a property with this one in it
  pub keeps_then : (Q : List ℕ → Type 0) (v w x : View) → ViewKeeps P v w → ViewKeeps Q w x → ((c : List ℕ) → Q c → P c) → ViewKeeps P v x
  keeps_then Q v w x keeps more next = record {
    later = omega (arith, keeps.later, more.later);
    since = λ t c le h.
        ⊎_elim (λ past. keeps.since t c le past) (λ now. inr (next c now)) (more.since t c (omega (arith, le, keeps.later)) h);
    now = λ c h. next c (more.now c h);
  }

-- a property that follows from the one that is kept is kept too
pub keeps_wider : (P Q : List ℕ → Type 0) (v w : View) → ViewKeeps P v w → ((c : List ℕ) → P c → Q c) → ViewKeeps Q v w
keeps_wider P Q v w keeps wider = record {
  later = keeps.later;
  since = λ t c le h. ⊎_elim (λ past. inl past) (λ now. inr (wider c now)) (keeps.since t c le h);
  now = λ c h. wider c (keeps.now c h);
}

-- nothing is done
pub rests_none : (v : View) → ViewRests v v
rests_none v = record { content = refl; images = λ c h. h; later = omega arith; since = λ t c le h. h; keeps = λ t c le h. h }

-- two calls that each leave no new image
pub rests_then : (v w x : View) → ViewRests v w → ViewRests w x → ViewRests v x
rests_then v w x a b = record {
  content = b.content ∙ a.content;
  images = λ c h. a.images c (b.images c h);
  later = omega (arith, a.later, b.later);
  since = λ t c le h. a.since t c le (b.since t c (omega (arith, le, a.later)) h);
  keeps = λ t c le h. b.keeps t c (omega (arith, le, a.later)) (a.keeps t c le h);
}

-- whether it is known what a disk holds stays, so what was known is known still
pub still : {a b : Bool} → b ≡ a → IsTrue a → IsTrue b
still same known = subst IsTrue (sym same) known

-- where a call left a disk settled, and it is known what that holds, a crash leaves the content and nothing else
pub only_when_known : {T E : Type 0} (result : Result T E) (d : KnownDisk) → OnOk result (IsSettled d) → IsTrue d.known → OnOk result (Only d.view.content d.view.images)
only_when_known (Ok x) d settled known = settled known
only_when_known (Err e) d settled known = tt
