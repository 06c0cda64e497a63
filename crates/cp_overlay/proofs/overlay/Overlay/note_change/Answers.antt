use Rattle.std.proofs.lemmas.Result.{on_ok_weaker}
use Rattle.cp_model.specs.Keyed.{look}
use Rattle.cp_overlay.specs.Seen.{seen}
use Rattle.cp_overlay.proofs.Noting.{noted-same, noted-made, noted-from}
use Rattle.cp_overlay.proofs.overlay.Overlay.note_change.Goals as goal

pub returns-in-Same : goal.returns-in-Same
returns-in-Same c = λ r. noted-same (seen c.args.self.now) c.args.place r (look r c.args.marks.now.entries) c.in-Same.ensures.exact

pub returns-in-New : goal.returns-in-New
returns-in-New c = on_ok_weaker c.note.result (λ h r. noted-made (seen c.args.self.now) c.args.place r (look r c.args.marks.now.entries) (look r c.note.new.marks.entries) c.in-New.ensures.exact (h r)) c.note.ensures

pub returns-in_ok-from-in-From : goal.returns-in_ok-from-in-From
returns-in_ok-from-in-From c = on_ok_weaker c.note-in-From.result (λ h r. noted-from (seen c.args.self.now) c.args.place r c.effect_at.new.out c.in_ok-from-in-From.from (look r c.args.marks.now.entries) (look r c.note-in-From.new.marks.entries) c.in-From.ensures.exact c.in_ok-from-in-From.ensures (h r)) c.note-in-From.ensures
