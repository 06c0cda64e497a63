-- The two writes of a frame, one behind the other.
use Rattle.std.proofs.Common.{◌≡◌, ◌≤◌, ◌+◌, inl, inr, ⊎_elim, ◌⊎◌, ◌↔◌, Bool, IsTrue, is_err, IsErrOf, OnErr, ℕ, List, [], ◌∷◌, length, true, refl, ◌∙◌, ap, subst, arith, Result, Ok, Err, OnOk}
use Rattle.std.proofs.lemmas.Bool.Decides.{nat_tests}
use lib.Dec.{leb}
use Rattle.cp_disk.specs.Views.{View, Only, ViewSteps, ViewKeeps}
use Rattle.cp_disk.specs.Writes.{Torn, with_bytes}
use Rattle.cp_disk.proofs.Composing.{keeps_none, keeps_steps}
use Rattle.cp_journal.specs.Frames.{Frame, entry, after_gate, spelled}
use Rattle.cp_journal.specs.Holding.{IsLawful, IsAtRest, IsAdded, IsBeforeOrAfter}
use Rattle.cp_journal.specs.declared.limits.TheConstants.{BODY_MAX}
use Rattle.cp_journal.specs.declared.fault.JournalFault.{JournalFault}
use Rattle.cp_journal.specs.declared.fault.JournalFault.TheVariants.{Disk, Memory, TooLarge}
use Rattle.cp_journal.proofs.Adding.{now_before, torn_behind, staged, torn_gate, is_added, length-staged}

-- what follows from two facts of a call that succeeds
pub of_success : {T E P Q R : Type 0} (result : Result T E) → (P → Q → R) → OnOk result P → OnOk result Q → OnOk result R
of_success (Ok v) follows p q = follows p q
of_success (Err e) follows p q = tt

-- what follows from one
pub of_ok : {T E P Q : Type 0} (result : Result T E) → (P → Q) → OnOk result P → OnOk result Q
of_ok (Ok v) follows p = follows p
of_ok (Err e) follows p = tt

-- a file may have an entry within the limit
pub lawful_entry : (body : List ℕ) → length body ≤ BODY_MAX → IsLawful (entry body)
lawful_entry body le = record {
  fits = let yes : leb (length body) BODY_MAX ≡ true = grind (arith, nat_tests) in rw yes refl;
  short = omega (arith, le);
}

-- what holds whether a call succeeds or not
pub of_any : {T E P : Type 0} (result : Result T E) → P → OnOk result P
of_any (Ok v) p = p
of_any (Err e) p = tt

-- what a call that writes a frame answers, where it fails
module _ {T : Type 0} where
  pub kinds_wider : (result : Result T JournalFault) → OnErr result (IsErrOf result Disk ⊎ IsErrOf result Memory) → OnErr result (IsErrOf result Disk ⊎ (IsErrOf result Memory ⊎ IsErrOf result TooLarge))
  kinds_wider (Ok v) kinds = tt
  kinds_wider (Err e) kinds = ⊎_elim (λ disk. inl disk) (λ memory. inr (inl memory)) kinds

  pub fits_in : (result : Result T JournalFault) → OnErr result (IsErrOf result Disk ⊎ IsErrOf result Memory) → IsErrOf result TooLarge → ⊥
  fits_in (Ok v) kinds large = absurd (cc large)
  fits_in (Err e) kinds large = ⊎_elim (λ disk. absurd (cc (disk, large))) (λ memory. absurd (cc (memory, large))) kinds

  pub spent_is : (result : Result T JournalFault) (spent : Bool) → spent ≡ is_err result → OnErr result (IsErrOf result Disk ⊎ IsErrOf result Memory) → IsTrue spent ↔ (IsErrOf result Disk ⊎ IsErrOf result Memory)
  spent_is (Ok v) spent is kinds = (λ yes. absurd (cc (is, yes)), λ fault. ⊎_elim (λ disk. absurd (cc disk)) (λ memory. absurd (cc memory)) fault)
  spent_is (Err e) spent is kinds = (λ yes. kinds, λ fault. is)

pub before_writes : (e : ℕ) (v : View) (f : Frame) (rest : IsAtRest e v) → ViewKeeps (IsBeforeOrAfter e v.content f) v v
before_writes e v f rest = keeps_none (IsBeforeOrAfter e v.content f) v (λ c im. inl (now_before e v rest c (rest.settled c im)))

module _ (e : ℕ) (v : View) (f : Frame) (ok : IsLawful f) (rest : IsAtRest e v) where
  abbrev P : List ℕ → Type 0
  P = IsBeforeOrAfter e v.content f

  pub after_first : (w : View) (n : ℕ) → ViewSteps (Torn (e + 1) n) v w → ViewKeeps P v w
  after_first w n steps = keeps_steps P (Torn (e + 1) n) v v w (before_writes e v f rest) steps (λ d c im torn. inl (now_before e v rest c (torn_behind e v rest n d c im torn)))

  module _ (w x : View) (bytes : List ℕ) (is : bytes ≡ after_gate f) (n : ℕ) (steps : ViewSteps (Torn (e + 1) n) v w) (content : w.content ≡ with_bytes v.content (e + 1) bytes) (only : Only w.content w.images) where
    is_staged : w.content ≡ staged e v f ok rest
    is_staged = content ∙ ap (λ (l : List ℕ). with_bytes v.content (e + 1) l) is

    pub room_at_gate : e ≤ length w.content
    room_at_gate = let long = length-staged e v f ok rest in let same = ap length is_staged in omega (arith, long, same)

    pub after_second : ViewSteps (Torn e 1) w x → ViewKeeps P v x
    after_second more = keeps_steps P (Torn e 1) v w x (after_first w n steps) more
        (λ d c im torn. torn_gate e v f ok rest c (subst (λ (l : List ℕ). Torn e 1 l c) (only d im ∙ is_staged) torn))

    pub at_ok : (to : ℕ) → to ≡ e + length (spelled f) → x.content ≡ with_bytes w.content e (1 ∷ []) → Only x.content x.images → IsAdded e f v.content to x
    at_ok to size made only_x = is_added e v f ok rest x to size (made ∙ ap (λ (l : List ℕ). with_bytes l e (1 ∷ [])) is_staged) only_x
