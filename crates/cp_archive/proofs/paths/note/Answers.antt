use Rattle.std.proofs.Common.{◌++◌, ◌∷◌, [], ap, ◌∙◌}
use Rattle.cp_archive.proofs.Noted.{on_err, same-phases, phases-inserted, phases-set, phases-kept}
use Rattle.cp_archive.proofs.paths.note.Goals as goal

pub returns-in-Some-clause-ok : goal.returns-in-Some-clause-ok
returns-in-Some-clause-ok c =
    phases-set (λ l. l ++ c.args.phase ∷ []) c.args.paths.now (c.get_mut.follows.lender c.push.new.self) c.in-Some.phases.now c.push.new.self c.args.path.now
    c.in-Some.ensures.value (c.get_mut.follows.holds c.push.new.self).0 c.in_ok-push.ensures.items

pub returns-in_err-push-clause-err : goal.returns-in_err-push-clause-err
returns-in_err-push-clause-err c =
    on_err _ (phases-kept c.args.paths.now (c.get_mut.follows.lender c.push.new.self) c.in-Some.phases.now c.push.new.self c.args.path.now
    c.in-Some.ensures.value (c.get_mut.follows.holds c.push.new.self).0 c.in_err-push.ensures.items)

pub returns-in_err-insert-clause-err : goal.returns-in_err-insert-clause-err
returns-in_err-insert-clause-err c = on_err _ (same-phases c.args.paths.now c.insert.new.self (c.in_err-insert.ensures.err ∙ ap (λ m. m.entries) c.get_mut.follows.holds-at-none))

pub returns-clause-ok : goal.returns-clause-ok
returns-clause-ok c =
    phases-inserted (λ l. l ++ c.args.phase ∷ []) _ c.args.paths.now c.insert.new.self c.in_ok-clone.field-0 c.push-2.new.self c.args.path.now c.get_mut.follows.holds-at-none c.in_ok-clone.ensures.cases
    (c.in_ok-push-2.ensures.items ∙ ap (λ l. l ++ c.args.phase ∷ []) c.in_ok-phases.ensures.items)
    c.in_default.ensures.value
    c.in_ok-insert.ensures.entries
