use Rattle.std.proofs.Common.{◌≡◌, false, refl, sym, ap, ◌∙◌}
use Rattle.std.specs.declared.option.Option.TheVariants.{None, Some}
use Rattle.cp_overlay.specs.Shown.{has_key}
use Rattle.cp_overlay.proofs.Found.{kept_same, key_same, kept_still, key_there, key_grows, key_lookup, absent-kept}
use Rattle.cp_overlay.proofs.origins.make_room.Goals as goal

pub returns-then-contains_key-clause-there : goal.returns-then-contains_key-clause-there
returns-then-contains_key-clause-there c = ap (has_key c.args.map.now) (sym c.as_slice.ensures.value) ∙ sym (key_lookup c.args.map.now c.as_slice.result.now) ∙ sym c.if-contains_key.ensures

pub returns-in_err-insert-clause-same : goal.returns-in_err-insert-clause-same
returns-in_err-insert-clause-same c = kept_same c.args.map.now c.insert.new.self c.in_err-insert.ensures.err

pub returns-in_err-insert-clause-grows : goal.returns-in_err-insert-clause-grows
returns-in_err-insert-clause-grows c = λ r h. key_same c.args.map.now c.insert.new.self c.in_err-insert.ensures.err r ∙ h

pub returns-clause-same : goal.returns-clause-same
returns-clause-same c =
    let absent : has_key c.args.map.now c.args.key.items ≡ false = ap (has_key c.args.map.now) (sym c.as_slice.ensures.value) ∙ sym (key_lookup c.args.map.now c.as_slice.result.now) ∙ sym c.if-contains_key.ensures in
    kept_still c.args.map.now c.insert.new.self c.args.key.items (Some None) c.in_ok-insert.ensures.updates refl (absent-kept c.args.map.now c.args.key.items absent)

pub returns-clause-grows : goal.returns-clause-grows
returns-clause-grows c = key_grows c.args.map.now c.insert.new.self c.args.key.items (Some None) c.in_ok-insert.ensures.updates refl

pub returns-clause-there : goal.returns-clause-there
returns-clause-there c = key_there c.args.map.now c.insert.new.self c.args.key.items (Some None) c.in_ok-insert.ensures.updates refl
