use Rattle.std.proofs.Common.{refl, sym, subst, ◌+◌, ◌++◌, [], ◌∷◌, IfSome, arith}
use Rattle.cp_frame.specs.Items.{an_entry}
use Rattle.cp_model.specs.Laws.{AreSources}
use Rattle.cp_db.proofs.TakingCommits.{replays-same}
use Rattle.cp_db.proofs.Walking.{at-commit, reached-commit, refused-same}
use Rattle.cp_db.proofs.walk.HistoryWalk.add_commit.Goals as goal

pub commit-requires-clause-sources : goal.commit-requires-clause-sources
commit-requires-clause-sources g c =
    let z = c.requires.reached.2.taken.keeps in
    subst AreSources (sym z.sources) z.sound.sources

pub returns-in_default-clause-reached : goal.returns-in_default-clause-reached
returns-in_default-clause-reached g c = λ first items w reached holds.
    let none = replays-same _ _ (g.R.TreeRep.contents c.commit.new.tree) c.args.commit.ops c.args.commit.records refl refl c.in_default.is c.in_ok-replayed.ensures.replayed in
    refused-same g.R.TreeRep.contents g.S.TreeRep.contents g.W.Work.fits first c.args.self.now items reached c.args.self.now w c.args.commit.ops c.args.commit.records holds (g.R.TreeRep.contents c.commit.new.tree) none

pub returns-clause-reached : goal.returns-clause-reached
returns-clause-reached g c = λ first items w reached holds.
    let here = c.args.self.now in
    let is = replays-same _ _ (g.R.TreeRep.contents c.commit.new.tree) c.args.commit.ops c.args.commit.records refl refl c.in-Some.is c.in_ok-replayed.ensures.replayed in
    let few = c.if-self-tids-gt-TIDS_MAX.false in
    let fits = subst (λ o. IfSome o (λ tids. g.W.Work.fits c.commit.new.self here.kind (here.last + tids) (g.R.TreeRep.contents c.commit.new.tree))) c.in-Some.is c.in_ok-replayed.ensures.fits in
    reached-commit g.R.TreeRep.contents g.S.TreeRep.contents g.W.Work.fits first here items reached _ w c.args.commit.ops c.args.commit.records holds c.commit.new.tree c.requires.sound.0 c.in-Some.tids
    c.requires.sound.1 is refl refl refl refl refl (omega (arith, few)) fits

pub returns-clause-found : goal.returns-clause-found
returns-clause-found g c = λ begun items w passed at holds means yes.
    let reached = returns-clause-reached g c begun.first items w passed.reached holds in
    subst (λ o. IfSome o (λ tids. g.W.Work.done c.commit.new.self begun.first begun.place (items ++ an_entry w ∷ []))) c.in-Some.is
    (c.in_ok-replayed.ensures.done begun.first begun.place items passed.reached.taken.state w passed.done
    (at-commit g.R.TreeRep.contents g.S.TreeRep.contents g.W.Work.fits begun.first c.args.self.now items passed.reached begun.place _ w c.args.commit holds means at reached))
