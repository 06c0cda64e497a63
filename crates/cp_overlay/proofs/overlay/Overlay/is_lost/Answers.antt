use Rattle.std.proofs.Common.{◌≡◌, ◌∙◌, not, ◌&&◌}
use Rattle.cp_model.specs.Place.{child}
use Rattle.cp_model.specs.Subtrees.{is_there}
use Rattle.cp_overlay.specs.Effects.{told}
use Rattle.cp_overlay.specs.Seen.{seen}
use Rattle.cp_overlay.proofs.Losing.{same-tag, both-then, both-else, lost-tested, lost-not}
use Rattle.cp_overlay.proofs.overlay.Overlay.is_lost.Goals as goal
use Rattle.cp_overlay.proofs.overlay.Overlay.is_lost.Goals.{then-is_there, else-is_there}

pub returns-then-not-has_child : goal.returns-then-not-has_child
returns-then-not-has_child g c =
    let b = g.B.TreeRep.contents c.args.after.now in
    let q = c.args.lost.now.parent in
    let l = c.args.lost.now.label in
    let tested : c.if-is_there.value ≡ (is_there b q && not (is_there b (child q l))) = elim c.if-is_there.branch [
      | then-is_there w ↦ both-then c.is_there.result w.has_child.result c.if-is_there.value (is_there b q) (is_there b (child q l)) c.is_there.ensures w.if-is_there.true w.has_child.ensures w.value-is
      | else-is_there w ↦ both-else c.is_there.result c.if-is_there.value (is_there b q) (is_there b (child q l)) c.is_there.ensures w.if-is_there.false w.value-is
    ] in
    lost-tested (seen c.args.self.now) b q l c.if-is_there.value c.eq.result (told c.effect_at.result c.effect_at.new.out) tested c.if-not-has_child.true c.effect_at.ensures.exact (c.eq.ensures ∙ same-tag c.effect_at.result c.effect_at.new.out)

pub returns-else-not-has_child : goal.returns-else-not-has_child
returns-else-not-has_child g c =
    let b = g.B.TreeRep.contents c.args.after.now in
    let q = c.args.lost.now.parent in
    let l = c.args.lost.now.label in
    let tested : c.if-is_there.value ≡ (is_there b q && not (is_there b (child q l))) = elim c.if-is_there.branch [
      | then-is_there w ↦ both-then c.is_there.result w.has_child.result c.if-is_there.value (is_there b q) (is_there b (child q l)) c.is_there.ensures w.if-is_there.true w.has_child.ensures w.value-is
      | else-is_there w ↦ both-else c.is_there.result c.if-is_there.value (is_there b q) (is_there b (child q l)) c.is_there.ensures w.if-is_there.false w.value-is
    ] in
    lost-not (seen c.args.self.now) b q l c.if-is_there.value tested c.if-not-has_child.false
