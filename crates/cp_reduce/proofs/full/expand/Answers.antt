use Rattle.std.proofs.Common.{sym, ap, ◌∙◌, ◌≡◌}
use Rattle.std.proofs.lemmas.Result.{IfOk-weaker}
use Rattle.cp_model.specs.Rows.{full_rows, reduced_rows}
use Rattle.cp_model.specs.History.{with_tid}
use Rattle.cp_model.proofs.Effects.{working-step}
use Rattle.cp_reduce.proofs.Expanding.{none-first, first-tid, rises, told-rows, told-nothing}
use Rattle.cp_reduce.proofs.full.expand.Goals as goal

pub returns-in_default : goal.returns-in_default
returns-in_default g c = λ ss ops k n w s a e d f.
    let before = g.A.TreeRep.contents c.args.before.now in
    let tree = g.met.A.TreeRep.is_tree c.args.before.now in
    c.new.ensures.items ∙ ap (with_tid n) (sym (told-nothing before (g.B.TreeRep.contents c.args.after.now) w n c.args.rows.now (working-step before ss ops k w tree s a e) tree d f (none-first c.args.rows.now c.in_default.ensures.value)))

pub returns : goal.returns
returns g c = λ ss ops k n w s a e d f.
    let before = g.A.TreeRep.contents c.args.before.now in
    let after = g.B.TreeRep.contents c.args.after.now in
    let tree = g.met.A.TreeRep.is_tree c.args.before.now in
    let ok = working-step before ss ops k w tree s a e in
    let all = c.note_gone.new.marks.entries in
    IfOk-weaker c.records.result (λ rs. rs ≡ with_tid c.in-Some.first.now.tid all) (λ rs. rs ≡ with_tid n (full_rows before w))
    (λ rs h. h ∙ ap (λ t. with_tid t all) (first-tid n c.args.rows.now c.in-Some.first.now (reduced_rows before w) c.in-Some.ensures.value f)
    ∙ ap (with_tid n) (told-rows before after w n c.args.rows.now ok tree d f c.new-marks.result.entries c.note_left.new.marks.entries all c.new-marks.ensures.empty
    (c.in_ok-note_left.ensures (rises before after w n c.args.rows.now ok tree d f)) c.in_ok-note_gone.ensures c.records.ensures.order))
    c.records.ensures.value
