use Rattle.std.proofs.Common.{◌≡◌, ◌+◌, ◌++◌, ◌∙◌, refl, sym, ap, subst, arith, rules}
use Rattle.cp_model.specs.Changes.{AreNext}
use Rattle.cp_operation.specs.Loaded.{sources_in}
use Rattle.cp_operation.specs.Passed.{AllAccepted, tree_until}
use Rattle.cp_archive.specs.Histories.{trees_of_steps}
use Rattle.cp_db.specs.Committed.{TidsLieBetween}
use Rattle.cp_db.specs.declared.work.CommitAt.{CommitAt}
use Rattle.cp_db.proofs.Archiving.{versions-commit, versions-few, versions-replayed}
use Rattle.cp_db.proofs.TakingLists.{records-next}
use Rattle.cp_db.proofs.Versioned.{next-append}
use Rattle.cp_db.proofs.archive.KeptWork.commit.Goals as goal

pub returns-clause-replayed : goal.returns-clause-replayed
returns-clause-replayed g c =
    let ss = sources_in g.S.TreeRep.contents c.args.sources.now in
    let t = g.R.TreeRep.contents c.args.tree.now in
    let same : c.as_slice-ops.result.now ≡ c.args.commit.ops = c.as_slice-ops.ensures.value ∙ ap (λ (x : CommitAt). x.ops) c.commit.view_is in
    versions-replayed ss t (g.R.TreeRep.contents c.replay_commit.new.tree) c.args.kind c.args.last c.args.commit.ops c.args.commit.records c.steps_of-tids.result c.requires.sound.1.written
    (subst (AllAccepted ss t) same (c.in_ok-replay_commit.ensures.accepted.0 c.if-not-branch.false))
    (c.in_ok-replay_commit.ensures.tree c.if-not-branch.false ∙ ap (tree_until ss t) same)
    (c.steps_of-tids.ensures c.args.commit.ops (search rules))
    (subst (TidsLieBetween c.args.last (c.args.last + c.steps_of-tids.result)) (ap (λ (x : CommitAt). x.records) c.commit.view_is) (c.if-not-tids_lie_between.ensures.0 refl))

pub returns-clause-fits : goal.returns-clause-fits
returns-clause-fits g c =
    let ss = sources_in g.S.TreeRep.contents c.args.sources.now in
    let t = g.R.TreeRep.contents c.args.tree.now in
    let same : c.as_slice-ops.result.now ≡ c.args.commit.ops = c.as_slice-ops.ensures.value ∙ ap (λ (x : CommitAt). x.ops) c.commit.view_is in
    record {
      of_kind = c.requires.fits.of_kind;
      few = versions-few c.args.self.now.archive c.replay_commit.new.self c.args.kind c.args.last ss t c.args.commit.ops c.steps_of-tids.result c.requires.fits.few
          (c.in_ok-replay_commit.ensures.added c.if-not-branch.false ∙ ap (λ os. c.args.self.now.archive ++ trees_of_steps c.args.kind ss t os) same)
          (c.steps_of-tids.ensures c.args.commit.ops (search rules));
      newest = c.in_ok-replay_commit.ensures.newest c.if-not-branch.false;
      next =
          let records = c.args.commit.records in
          let high = c.args.last + c.steps_of-tids.result in
          let between = subst (TidsLieBetween c.args.last high) (ap (λ (x : CommitAt). x.records) c.commit.view_is) (c.if-not-tids_lie_between.ensures.0 refl) in
          subst (AreNext 0 high) (sym (c.in_ok-append.ensures ∙ ap (λ (x : CommitAt). c.args.self.now.rows ++ x.records) c.commit.view_is))
          (next-append 0 c.args.last high (omega arith) (omega arith) c.args.self.now.rows records c.requires.fits.next (records-next c.requires.sound.0 c.args.commit.ops c.args.last high records c.requires.sound.1 between));
    }

pub returns-clause-done : goal.returns-clause-done
returns-clause-done g c = λ first place items s x found at.
    let ss = sources_in g.S.TreeRep.contents c.args.sources.now in
    let t = g.R.TreeRep.contents c.args.tree.now in
    let same : c.as_slice-ops.result.now ≡ c.args.commit.ops = c.as_slice-ops.ensures.value ∙ ap (λ (x : CommitAt). x.ops) c.commit.view_is in
    versions-commit c.args.self.now (record { kind = c.args.self.now.kind; archive = c.replay_commit.new.self; rows = c.append.new.rows }) (record { first = first; place = place }) items s x c.args.commit (record { kind = c.args.kind; last = c.args.last; sources = ss; tree = t }) at found refl
    (c.in_ok-replay_commit.ensures.added c.if-not-branch.false ∙ ap (λ os. c.args.self.now.archive ++ trees_of_steps c.args.kind ss t os) same)
    (c.in_ok-append.ensures ∙ ap (λ (x : CommitAt). c.args.self.now.rows ++ x.records) c.commit.view_is)
