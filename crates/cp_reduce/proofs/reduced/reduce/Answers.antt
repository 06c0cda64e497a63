use Rattle.std.proofs.Common.{ap, ◌∙◌}
use Rattle.std.specs.List.{find}
use Rattle.cp_model.specs.Place.{place_eq}
use Rattle.cp_model.specs.Step.{open_tree, apply_op}
use Rattle.cp_model.specs.Rows.{reduced_rows}
use Rattle.cp_model.specs.History.{with_tid}
use Rattle.cp_reduce.proofs.Reducing.{found-written, kept-one, kept-none}
use Rattle.cp_reduce.proofs.reduced.reduce.Goals as goal
use Rattle.cp_reduce.proofs.reduced.reduce.Goals.{in-Some+in_ok-copy_of+in_ok-push, in_default}

pub returns : goal.returns
returns c = λ ss t op n k h i e p f.
    let written = found-written ss t op n c.args.written.now c.args.rows.now k h i e p f in
    let one = find (λ r. place_eq r.loc c.args.written.now) c.args.rows.now in
    let all = with_tid n (reduced_rows t (apply_op ss (open_tree t) op)) in
    elim c.match-row_of.branch [
      | in-Some+in_ok-copy_of+in_ok-push w ↦
          kept-one c.match-row_of.items.items c.new-items.result.items all w.in_ok-copy_of.field-0 w.in-Some.row.now one (ap (λ v. v.items) w.items-is ∙ w.in_ok-push.ensures.items) c.new-items.ensures.items w.in_ok-copy_of.ensures w.in-Some.ensures written
      | in_default w ↦ kept-none c.match-row_of.items.items all one (ap (λ v. v.items) w.items-is ∙ c.new-items.ensures.items) w.in_default.ensures written
    ]
