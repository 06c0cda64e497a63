use Rattle.std.proofs.Common.{◌≡◌, ◌++◌, refl, sym, ap, ◌∙◌, subst}
use Rattle.cp_model.specs.Keyed.{look}
use Rattle.cp_model.specs.Subtrees.{entries_under}
use Rattle.cp_overlay.specs.Shown.{kept, shown, blank, run, set_or, AreThere}
use Rattle.cp_overlay.proofs.Calls.{ok_any, ok_true, ok_false}
use Rattle.cp_overlay.proofs.Sets.{replaces}
use Rattle.cp_overlay.proofs.origins.replace.Goals as goal
use Rattle.cp_overlay.proofs.origins.replace.Goals.{then-is_ok, else-is_ok}

pub set_all-requires : goal.set_all-requires
set_all-requires c =
    subst (λ xs. AreThere c.room_for-ready.new.map (shown xs)) (c.as_slice.ensures.value ∙ sym c.as_mut_slice.ensures.value)
    (ok_true c.room_for-ready.result c.is_ok.result c.room_for-ready.ensures.there c.is_ok.ensures.value c.if-is_ok.true)

pub returns-clause-ok : goal.returns-clause-ok
returns-clause-ok c =
    let p = c.args.place.now in
    let m = c.args.map.now in
    let rows = shown c.args.rows.items in
    let changed = entries_under p rows ++ entries_under p (blank (run p m.entries)) in
    elim c.if-is_ok.branch [
      | then-is_ok w ↦
          let list : shown w.as_mut_slice.result.now ≡ changed = ap shown w.as_mut_slice.ensures.value ∙ c.in_ok-all.ensures ∙ ap (λ xs. entries_under p rows ++ entries_under p (blank xs)) c.in_ok-stale.ensures in
          ok_any c.room_for-ready.result (replaces p rows (kept m) (kept c.sweep.new.map) m (λ _. refl)
          (λ r. c.sweep.ensures r ∙ ap (λ x. kept x r) w.map-is ∙ w.set_all.ensures r ∙ ap (λ es. set_or (look r es) (kept c.room_for-ready.new.map r)) list ∙ ap (set_or (look r changed)) (c.room_for-ready.ensures.same r)))
      | else-is_ok w ↦ ok_false _ c.room_for-ready.result c.is_ok.result c.is_ok.ensures.value w.if-is_ok.false
    ]
