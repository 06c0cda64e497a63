use Rattle.std.proofs.Common.{refl, sym, ap, ◌∙◌}
use Rattle.cp_model.specs.Keyed.{look}
use Rattle.cp_reduce.specs.Told.{any_gone}
use Rattle.cp_reduce.proofs.Telling.{gone-noted, gone-other}
use Rattle.cp_reduce.proofs.full.note_gone.Goals as goal
use Rattle.cp_reduce.proofs.full.note_gone.Goals.{then-is_gone+in_ok-note_below, else-is_gone}

pub loop-row-init : goal.loop-row-init
unfolding any_gone
loop-row-init g c = λ r. refl

pub loop-row-preserved : goal.loop-row-preserved
loop-row-preserved g c = λ r.
    let t = g.A.TreeRep.contents c.args.before.now in
    let old = look r c.args.marks.now.entries in
    elim c.if-is_gone.branch [
      | then-is_gone+in_ok-note_below w ↦
          ap (λ m. look r m.entries) w.marks-is
          ∙ gone-noted t r c.args.rows.now c.loop-row.row-index c.row-item.result old (look r c.loop-row.marks.entries) (look r w.note_below.new.marks.entries) c.loop-row-test.true c.row-item.is (sym c.is_gone.ensures ∙ w.if-is_gone.true) (w.in_ok-note_below.ensures r) (c.loop-row.invariant r)
      | else-is_gone w ↦
          ap (λ m. look r m.entries) w.marks-is
          ∙ gone-other t r c.args.rows.now c.loop-row.row-index c.row-item.result old (look r c.loop-row.marks.entries) c.loop-row-test.true c.row-item.is (sym c.is_gone.ensures ∙ w.if-is_gone.false) (c.loop-row.invariant r)
    ]
