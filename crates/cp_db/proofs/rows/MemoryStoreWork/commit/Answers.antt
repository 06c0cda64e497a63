use Rattle.std.proofs.Common.{◌+◌, refl, sym}
use Rattle.cp_operation.specs.Loaded.{sources_in}
use Rattle.cp_db.proofs.TakingCommits.{replays-same}
use Rattle.cp_db.proofs.TakingLists.{records-next}
use Rattle.cp_db.proofs.Walking.{rows-commit}
use Rattle.cp_db.proofs.rows.MemoryStoreWork.commit.Goals as goal

pub returns-in_default-clause-replayed : goal.returns-in_default-clause-replayed
returns-in_default-clause-replayed g c =
    replays-same (sources_in g.S.TreeRep.contents c.args.sources.now) (g.R.TreeRep.contents c.args.tree.now) (g.R.TreeRep.contents c.replay_commit.new.tree) c.args.commit.ops c.args.commit.records refl refl c.in_default.is c.in_ok-replayed.ensures.replayed

pub absorb_packed-requires-clause-next : goal.absorb_packed-requires-clause-next
absorb_packed-requires-clause-next g c =
    let upto = c.args.self.now.rows.upto in
    let tids = c.in-Some.tids in
    let is = replays-same (sources_in g.S.TreeRep.contents c.args.sources.now) (g.R.TreeRep.contents c.args.tree.now) (g.R.TreeRep.contents c.replay_commit.new.tree) c.args.commit.ops c.args.commit.records refl (sym c.requires.fits.1) c.in-Some.is c.in_ok-replayed.ensures.replayed in
    records-next c.requires.sound.0 c.args.commit.ops upto (upto + tids) c.args.commit.records c.requires.sound.1 is.between

pub returns-in-Ok-clause-done : goal.returns-in-Ok-clause-done
returns-in-Ok-clause-done g c = λ first place items s x done at.
    rows-commit c.args.self.now.rows.list c.absorb_packed.new.self.rows.list (record { first = first; place = place }) items s x c.args.commit
    (record { kind = c.args.kind; last = c.args.last; sources = sources_in g.S.TreeRep.contents c.args.sources.now; tree = g.R.TreeRep.contents c.args.tree.now }) done at
    (sym (c.in-Ok.ensures.rows c.args.self.now.rows.list refl))
