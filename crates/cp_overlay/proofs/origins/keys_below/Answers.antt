use Rattle.std.proofs.Common.{◌≡◌, true, sym, ap, ◌∙◌, ◌++◌, ◌∷◌, [], not}
use Rattle.std.specs.Prelude.{is_some}
use Rattle.cp_model.specs.Place.{strip}
use Rattle.cp_overlay.specs.Shown.{paths, paths_under, run}
use Rattle.cp_overlay.proofs.Found.{some_copied}
use Rattle.cp_overlay.proofs.Gathered.{started, key_turned, keys_ended, keys_stopped, rest_from, rest_rises}
use Rattle.cp_overlay.proofs.origins.keys_below.Goals as goal
use Rattle.cp_overlay.proofs.origins.keys_below.Goals.{in-None, in-Some+then-is_none}

pub loop-key-init : goal.loop-key-init
loop-key-init c =
    let s = started c.args.place.now c.in_ok-from.from c.args.map.now.entries c.into_iter-key-iterator.result (c.in_ok-from.ensures.items_if_clones_equal (λ x y h. h))
    (c.into_iter-key-iterator.ensures.into_iter_gives ∙ c.range-key-items.ensures.between tt) c.range-key-items.ensures.ordered in
    record { whole = ap (λ ks. paths ks ++ paths_under c.args.place.now (run c.args.place.now c.into_iter-key-iterator.result)) c.new-keys.ensures.items ∙ ap (paths_under c.args.place.now) s.0; from = s.1; rises = s.2 }

pub loop-key-preserved : goal.loop-key-preserved
loop-key-preserved c =
    let q = c.args.place.now in
    let k = c.in-Some.key.now in
    let o = c.in-Some.field-0-1.now in
    let inside : is_some (strip q k.items) ≡ true = ap (λ l. is_some (strip q l)) (sym c.as_slice.ensures.value) ∙ some_copied c.rest_of.result (strip q c.as_slice.result.now) c.is_none.result c.rest_of.ensures c.is_none.ensures ∙ ap not c.if-is_none.false in
    record {
      whole =
          ap (λ ks. ks ++ paths_under q (run q c.next.new.self)) (c.in_ok-push_key.ensures ∙ ap (λ k. paths c.loop-key.keys.items ++ k ∷ []) c.as_slice-in-loop-key.ensures.value)
          ∙ key_turned q (paths c.loop-key.keys.items) k o c.next.new.self c.loop-key.key-iterator c.in-Some.ensures.steps inside
          ∙ c.loop-key.invariant.whole;
      from = rest_from q k o c.next.new.self c.loop-key.key-iterator c.in-Some.ensures.steps c.loop-key.invariant.from;
      rises = rest_rises k o c.next.new.self c.loop-key.key-iterator c.in-Some.ensures.steps c.loop-key.invariant.rises;
    }

pub returns : goal.returns
returns c =
    elim c.match-next.branch [
      | in-None w ↦ keys_ended c.args.place.now c.loop-key.keys.items c.loop-key.key-iterator c.args.map.now.entries c.loop-key.invariant.whole w.in-None.ensures.steps.0
      | in-Some+then-is_none w ↦
          keys_stopped c.args.place.now c.loop-key.keys.items w.in-Some.key.now w.in-Some.field-0-1.now c.next.new.self c.loop-key.key-iterator c.args.map.now.entries c.loop-key.invariant.whole w.in-Some.ensures.steps
          c.loop-key.invariant.from c.loop-key.invariant.rises
          (ap (λ l. is_some (strip c.args.place.now l)) (sym w.as_slice.ensures.value) ∙ some_copied w.rest_of.result (strip c.args.place.now w.as_slice.result.now) w.is_none.result w.rest_of.ensures w.is_none.ensures ∙ ap not w.if-is_none.true)
    ]
