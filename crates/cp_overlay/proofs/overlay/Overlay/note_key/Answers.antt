use Rattle.std.proofs.Common.{sym, ◌∙◌}
use Rattle.std.proofs.lemmas.Result.{on_ok_weaker}
use Rattle.cp_model.specs.Keyed.{look}
use Rattle.cp_overlay.specs.Net.{mark_kept, is_topmost, is_within}
use Rattle.cp_overlay.specs.Seen.{seen}
use Rattle.cp_overlay.proofs.Noting.{noted-not, noted-then}
use Rattle.cp_overlay.proofs.overlay.Overlay.note_key.Goals as goal

pub returns-then-not-is_topmost : goal.returns-then-not-is_topmost
returns-then-not-is_topmost g c = λ r.
    let o = seen c.args.self.now in
    noted-not (is_topmost o.origins c.args.key.now) (is_within (g.B.TreeRep.contents c.args.after.now) c.args.key.now r) (mark_kept o r) (look r c.args.marks.now.entries) (sym c.is_topmost.ensures ∙ c.if-not-is_topmost.true)

pub returns : goal.returns
returns g c =
    let o = seen c.args.self.now in
    on_ok_weaker c.note_subtree.result (λ h r.
    noted-then (is_topmost o.origins c.args.key.now) (is_within (g.B.TreeRep.contents c.args.after.now) c.args.key.now r) (mark_kept o r) (look r c.args.marks.now.entries) (look r c.note_subtree.new.marks.entries) (sym c.is_topmost.ensures ∙ c.if-not-is_topmost.false) (h r)) c.note_subtree.ensures
