use Rattle.std.proofs.Common.{◌≡◌, ℕ, List, [], ◌∷◌, ◌++◌, length, Result, OnOk, sym, ◌∙◌, ap, subst}
use Rattle.cp_disk.specs.Views.{View}
use Rattle.cp_journal.specs.Frames.{Frame}
use Rattle.cp_journal.specs.Holding.{IsLawful, IsAdded}
use Rattle.cp_journal.specs.Journals.{JournalState, Describes}
use Rattle.cp_journal.proofs.Places.{place}
use Rattle.cp_journal.proofs.FrameWrites.{lawful_entry, before_writes, of_success, kinds_wider, fits_in, spent_is}
use Rattle.cp_journal.proofs.Standing.{keeps_stands, describes_more}
use Rattle.cp_journal.proofs.journal.Journal.append.Goals as goal

described : {T E : Type 0} (head : List ℕ) (fs : List Frame) (v w : View) (j n k : JournalState) (f : Frame) (result : Result T E) → Describes head fs j v → IsLawful f → k.frames ≡ n.frames → k.next ≡ n.next
    → OnOk result (IsAdded j.next f v.content n.next w) → OnOk result (n.frames ≡ j.frames ++ place j.next f.tag (length f.body) ∷ []) → OnOk result (Describes head (fs ++ f ∷ []) k w)
described head fs v w j n k f result d ok listed next added pushed =
    of_success result (λ a p. describes_more head fs v w j k f d ok (subst (λ (i : ℕ). IsAdded j.next f v.content i w) (sym next) a) (listed ∙ p)) added pushed

pub returns-then-body-gt-BODY_MAX-clause-crash : goal.returns-then-body-gt-BODY_MAX-clause-crash
returns-then-body-gt-BODY_MAX-clause-crash g c = λ known. before_writes _ _ _ (c.requires.rest known)

pub returns-then-body-gt-BODY_MAX-clause-stands : goal.returns-then-body-gt-BODY_MAX-clause-stands
returns-then-body-gt-BODY_MAX-clause-stands g c = λ known head fs holds. keeps_stands head fs _ _ holds _ _ (before_writes _ _ _ (c.requires.rest known))

pub returns-clause-stands : goal.returns-clause-stands
returns-clause-stands g c = λ known head fs holds. keeps_stands head fs _ _ holds _ _ (c.write_frame-result.ensures.crash known)

pub returns-clause-described : goal.returns-clause-described
returns-clause-described g c = λ known head fs d.
    let ok = lawful_entry c.args.body.now c.if-body-gt-BODY_MAX.false in
    described head fs _ _ _ c.write_frame-result.new.self _ _ c.write_frame-result.result d ok (ap (λ (s : JournalState). s.frames) c.self-2.view_is) (ap (λ (s : JournalState). s.next) c.self-2.view_is) (c.write_frame-result.ensures.added known) c.write_frame-result.ensures.frames

pub returns-clause-kinds : goal.returns-clause-kinds
returns-clause-kinds g c = kinds_wider c.write_frame-result.result c.write_frame-result.ensures.kinds

pub returns-clause-unchanged : goal.returns-clause-unchanged
returns-clause-unchanged g c = λ large. absurd (fits_in c.write_frame-result.result c.write_frame-result.ensures.kinds large)

pub returns-clause-spent : goal.returns-clause-spent
returns-clause-spent g c = spent_is c.write_frame-result.result _ c.is_err-self-inside.ensures.value c.write_frame-result.ensures.kinds
