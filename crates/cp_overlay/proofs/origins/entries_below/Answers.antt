use Rattle.std.proofs.Common.{ap, ◌∙◌, ◌++◌, ◌∷◌, []}
use Rattle.cp_model.specs.Place.{strip}
use Rattle.cp_overlay.specs.Shown.{shown, run}
use Rattle.cp_overlay.proofs.Gathered.{started, turned, ended, stopped, rest_from, rest_rises}
use Rattle.cp_overlay.proofs.origins.entries_below.Goals as goal
use Rattle.cp_overlay.proofs.origins.entries_below.Goals.{in-None, in-Some+in_default}

pub loop-key-init : goal.loop-key-init
loop-key-init c =
    let s = started c.args.place.now c.in_ok-from.from c.args.map.now.entries c.into_iter-key-iterator.result (c.in_ok-from.ensures.items_if_clones_equal (λ x y h. h))
    (c.into_iter-key-iterator.ensures.into_iter_gives ∙ c.range-key-items.ensures.between tt) c.range-key-items.ensures.ordered in
    record { whole = ap (λ es. shown es ++ run c.args.place.now c.into_iter-key-iterator.result) c.new-rows.ensures.items ∙ s.0; from = s.1; rises = s.2 }

pub loop-key-preserved : goal.loop-key-preserved
loop-key-preserved c = record {
  whole =
      ap (λ rs. rs ++ run c.args.place.now c.next.new.self) c.in_ok-push_row.ensures
      ∙ turned c.args.place.now (shown c.loop-key.rows.items) c.in-Some.key.now c.in-Some.origin.now c.next.new.self c.loop-key.key-iterator c.in-Some-rest_of.rest.now c.in-Some.ensures.steps
      (c.in-Some-rest_of.ensures ∙ ap (strip c.args.place.now) c.as_slice.ensures.value)
      ∙ c.loop-key.invariant.whole;
  from = rest_from c.args.place.now c.in-Some.key.now c.in-Some.origin.now c.next.new.self c.loop-key.key-iterator c.in-Some.ensures.steps c.loop-key.invariant.from;
  rises = rest_rises c.in-Some.key.now c.in-Some.origin.now c.next.new.self c.loop-key.key-iterator c.in-Some.ensures.steps c.loop-key.invariant.rises;
}

pub returns : goal.returns
returns c =
    elim c.match-next.branch [
      | in-None w ↦ ended c.args.place.now c.loop-key.rows.items c.loop-key.key-iterator c.args.map.now.entries c.loop-key.invariant.whole w.in-None.ensures.steps.0
      | in-Some+in_default w ↦
          stopped c.args.place.now c.loop-key.rows.items w.in-Some.key.now w.in-Some.origin.now c.next.new.self c.loop-key.key-iterator c.args.map.now.entries c.loop-key.invariant.whole w.in-Some.ensures.steps
          c.loop-key.invariant.from c.loop-key.invariant.rises (w.in_default.ensures ∙ ap (strip c.args.place.now) w.as_slice.ensures.value)
    ]
