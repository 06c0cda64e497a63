use Rattle.std.proofs.Common.{refl, sym, ap, subst, ◌∙◌, length}
use Rattle.std.proofs.lemmas.Result.{IfOk-weaker}
use Rattle.cp_model.specs.History.{commit}
use Rattle.cp_frame.specs.Entries.{IsEntry}
use Rattle.cp_frame.specs.Items.{an_entry}
use Rattle.cp_frame.specs.Sound.{IsSoundEntry}
use Rattle.cp_db.specs.Walk.{CanReach}
use Rattle.cp_db.proofs.TakingCommits.{holds-commit, holds-stamped, means-commit, means-stamped}
use Rattle.cp_db.proofs.Walking.{could-stand, passed-load, reaches-source}
use Rattle.cp_db.proofs.walk.HistoryWalk.add.Goals as goal

pub returns-in_ok-loaded-in-Load-clause-reached : goal.returns-in_ok-loaded-in-Load-clause-reached
returns-in_ok-loaded-in-Load-clause-reached g c = λ first items w reached is.
    let here = c.args.self.now in
    reaches-source g.R.TreeRep.contents g.S.TreeRep.contents g.W.Work.fits first here items reached (record here { sources = c.load_source-loaded.new.sources; work = c.pass.new.self }) w c.in-Load.name c.in-Load.tree c.in_ok-loaded-in-Load.loaded
    (subst (λ e. IsEntry e w) c.in-Load.is is) (subst IsSoundEntry c.in-Load.is c.requires.sound) c.in_ok-loaded-in-Load.ensures.loaded refl refl refl refl (c.pass.ensures.fits here.kind here.last (g.R.TreeRep.contents here.tree) reached.fits)

pub returns-in_ok-loaded-in-Load-clause-found : goal.returns-in_ok-loaded-in-Load-clause-found
returns-in_ok-loaded-in-Load-clause-found g c = λ begun items w passed at is yes.
    let view = g.R.TreeRep.contents in
    let source_view = g.S.TreeRep.contents in
    let here = c.args.self.now in
    let new = record here { sources = c.load_source-loaded.new.sources; work = c.pass.new.self } in
    let reached = subst (CanReach view source_view g.W.Work.fits begun.first items w new) yes (returns-in_ok-loaded-in-Load-clause-reached g c begun.first items w passed.reached is) in
    let taken = passed.reached.taken in
    c.pass.ensures.done begun.first begun.place items (an_entry w) taken.state passed.done taken.stand taken.replayed
    (could-stand view source_view g.W.Work.fits begun.first here items passed.reached w new reached) (passed-load c.in-Load.name c.in-Load.tree w c.args.at (begun.place (length items)) at (subst (λ e. IsEntry e w) c.in-Load.is is))

pub returns-in_ok-stamp-in-Commit-clause-reached : goal.returns-in_ok-stamp-in-Commit-clause-reached
returns-in_ok-stamp-in-Commit-clause-reached g c = λ first items w reached is.
    c.add_commit.ensures.reached first items w reached (holds-commit c.in-Commit.ops c.in-Commit.records w (subst (λ e. IsEntry e w) c.in-Commit.is is))

pub returns-in_ok-stamp-in-Commit-clause-found : goal.returns-in_ok-stamp-in-Commit-clause-found
returns-in_ok-stamp-in-Commit-clause-found g c = λ begun items w passed at is.
    let ops = c.in-Commit.ops in
    let records = c.in-Commit.records in
    let entry = subst (λ e. IsEntry e w) c.in-Commit.is is in
    c.add_commit.ensures.found begun items w passed at (holds-commit ops records w entry) (means-commit ops records w entry ∙ ap (λ s. commit s ops) (sym c.in_ok-stamp-in-Commit.ensures))

pub returns-in-Stamped-clause-reached : goal.returns-in-Stamped-clause-reached
returns-in-Stamped-clause-reached g c = λ first items w reached is.
    c.add_commit-in-Stamped.ensures.reached first items w reached (holds-stamped c.in-Stamped.stamp c.in-Stamped.ops c.in-Stamped.records w (subst (λ e. IsEntry e w) c.in-Stamped.is is))

pub returns-in-Stamped-clause-found : goal.returns-in-Stamped-clause-found
returns-in-Stamped-clause-found g c = λ begun items w passed at is.
    let ops = c.in-Stamped.ops in
    let records = c.in-Stamped.records in
    let entry = subst (λ e. IsEntry e w) c.in-Stamped.is is in
    c.add_commit-in-Stamped.ensures.found begun items w passed at (holds-stamped c.in-Stamped.stamp ops records w entry) (means-stamped c.in-Stamped.stamp ops records w entry)
