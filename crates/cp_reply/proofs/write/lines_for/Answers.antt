use Rattle.std.proofs.Common.{◌≡◌, ◌++◌, ap, codes, sym, ◌∙◌}
use Rattle.cp_path.specs.Spelling.{place_text}
use Rattle.cp_reply.specs.Lines.{line_for, lines_for, places_text}
use Rattle.cp_reply.proofs.Front.{on_ok}
use Rattle.cp_reply.proofs.write.lines_for.Goals as goal

pub returns-in-Created-clause-ok : goal.returns-in-Created-clause-ok
unfolding lines_for
returns-in-Created-clause-ok c = on_ok c.put_made.result _ _ (λ put. put _ c.created.ensures ∙ ap (λ r. c.args.out.now.items ++ lines_for c.args.whose.now r) (sym c.in-Created.is)) c.put_made.ensures.ok

pub returns-in-Loaded-clause-ok : goal.returns-in-Loaded-clause-ok
unfolding lines_for
returns-in-Loaded-clause-ok c = on_ok c.put_made-in-Loaded.result _ _ (λ put. put _ c.loaded.ensures ∙ ap (λ r. c.args.out.now.items ++ lines_for c.args.whose.now r) (sym c.in-Loaded.is)) c.put_made-in-Loaded.ensures.ok

pub returns-in-Committed-clause-ok : goal.returns-in-Committed-clause-ok
unfolding lines_for
returns-in-Committed-clause-ok c = on_ok c.put_made-in-Committed.result _ _ (λ put. put _ c.committed.ensures ∙ ap (λ r. c.args.out.now.items ++ lines_for c.args.whose.now r) (sym c.in-Committed.is)) c.put_made-in-Committed.ensures.ok

pub returns-in-Aborted-clause-ok : goal.returns-in-Aborted-clause-ok
unfolding lines_for
returns-in-Aborted-clause-ok c = on_ok c.put_made-in-Aborted.result _ _ (λ put. put _ c.aborted.ensures ∙ ap (λ r. c.args.out.now.items ++ lines_for c.args.whose.now r) (sym c.in-Aborted.is)) c.put_made-in-Aborted.ensures.ok

pub returns-in-Checkpoint-clause-ok : goal.returns-in-Checkpoint-clause-ok
unfolding lines_for
returns-in-Checkpoint-clause-ok c = on_ok c.put_made-in-Checkpoint.result _ _ (λ put. put _ c.checkpoint.ensures ∙ ap (λ r. c.args.out.now.items ++ lines_for c.args.whose.now r) (sym c.in-Checkpoint.is)) c.put_made-in-Checkpoint.ensures.ok

pub returns-in-Uses-clause-ok : goal.returns-in-Uses-clause-ok
unfolding lines_for
returns-in-Uses-clause-ok c =
    let a = c.deref-in-Uses.ensures.value in
    let b = c.places.view_is in
    let same : c.deref-in-Uses.result.now ≡ c.in-Uses.places = cc in
    on_ok c.put_made-in-Uses.result _ _
    (λ put.
    put _ c.uses_text.ensures
    ∙ ap (λ qs. c.args.out.now.items ++ line_for c.args.whose.now (codes "uses " ++ (place_text c.in-Uses.place ++ (codes ": " ++ places_text qs)))) same
    ∙ ap (λ r. c.args.out.now.items ++ lines_for c.args.whose.now r) (sym c.in-Uses.is))
    c.put_made-in-Uses.ensures.ok

pub returns-in-Archive-clause-ok : goal.returns-in-Archive-clause-ok
unfolding lines_for
returns-in-Archive-clause-ok c = on_ok c.put_made-in-Archive.result _ _ (λ put. put _ c.archive.ensures ∙ ap (λ r. c.args.out.now.items ++ lines_for c.args.whose.now r) (sym c.in-Archive.is)) c.put_made-in-Archive.ensures.ok
