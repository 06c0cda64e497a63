use Rattle.std.proofs.Common.{arith, ap}
use Rattle.cp_journal.specs.Journals.{JournalState}
use Rattle.cp_journal.proofs.Places.{in_range-pushed}
use Rattle.cp_journal.proofs.journal.Journal.list_frame.Goals as goal

pub invariant_of-self-2 : goal.invariant_of-self-2
invariant_of-self-2 c =
    let same = ap (λ (s : JournalState). s.next) c.self.view_is in
    (c.self.invariant.0, in_range-pushed _ _ _ _ _ c.in_ok-push.ensures.items c.self.invariant.1 (omega (arith, same, c.requires.room)), c.self.invariant.2)
