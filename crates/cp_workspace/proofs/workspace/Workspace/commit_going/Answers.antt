use Rattle.std.proofs.Common.{inr, refl, subst, Ok, Err}
use Rattle.std.proofs.lemmas.Result.{err_from_is_err_and}
use Rattle.cp_model.specs.declared.stamp.Stamp.{Stamp}
use Rattle.cp_reply.specs.Session.{no_supply}
use Rattle.cp_engine.specs.Transactions as txn
use Rattle.cp_db.specs.Writing.{HasCommitted}
use Rattle.cp_workspace.specs.declared.fault.WorkspaceFault.TheVariants as failed
use Rattle.cp_workspace.specs.Clocks.{known_clock}
use Rattle.cp_workspace.specs.Workspaces.{of_nobody}
use Rattle.cp_workspace.proofs.Spent.{spends-passed}
use Rattle.cp_workspace.proofs.Standing.{turns-failed-still, workspace-added, usable-shut}
use Rattle.cp_workspace.proofs.Committing.{turns-committed, turns-too_large, turns-uncommitted, turns-empty, made-unspent, at-plain, too_large-plain, empty-plain, later-committed, later-same}
use Rattle.cp_workspace.proofs.Supplied.{one_moment, supplied-moment}
use Rattle.cp_workspace.proofs.workspace.Workspace.commit_going.Goals as goal

pub returns-in_err-moment-clause-turned : goal.returns-in_err-moment-clause-turned
returns-in_err-moment-clause-turned g c =
    let p = err_from_is_err_and c.from_residual.result c.from_residual.ensures.1 in
    λ f. record {
      supply = no_supply;
      supplied = record { told = c.in_err-moment.ensures.told; found = tt };
      turns = λ terms s rest z e. turns-failed-still g.R.TreeRep.contents g.S.TreeRep.contents of_nobody terms _ s rest _ _ _ _ (p.0, p.1);
    }

pub unreachable-requires : goal.unreachable-requires
unreachable-requires g c =
    let view = g.R.TreeRep.contents in
    let source_view = g.S.TreeRep.contents in
    let h = c.requires.usable.workspace.stands in
    let stamp : Stamp = record { curator = c.args.curator; moment = c.in_ok-moment.moment } in
    subst (λ e. HasCommitted view source_view c.args.self.now.db h.0 stamp (txn.going c.requires.going.0) c.commit.new.self (Err e)) c.in-Err-Failed.field-0-is
    (c.in-Err-Failed.ensures.committed (txn.going c.requires.going.0) c.requires.going.1 h.0 h.1)

pub returns-in-Ok-clause-turned : goal.returns-in-Ok-clause-turned
returns-in-Ok-clause-turned g c =
    λ f. record {
      supply = one_moment c.in_ok-moment.moment;
      supplied = supplied-moment f (known_clock g.K.Clock c.args.clock.now) (known_clock g.K.Clock c.now.new.self) c.in_ok-moment.moment c.in_ok-moment.ensures.told;
      turns = λ terms s rest z e.
          turns-committed g.R.TreeRep.contents g.S.TreeRep.contents g.D.Disk terms c.args.self.now (record c.args.self.now { db = c.commit.new.self }) c.args.transaction s z c.args.disk.now c.commit.new.disk (record { curator = c.args.curator; moment = c.in_ok-moment.moment }) rest c.requires.alone c.requires.alone e
          c.in-Ok.tids refl c.requires.taken
          (λ p come. c.in-Ok.ensures.committed p come z.db.state z.db.holds)
          (λ known ops come held. c.in-Ok.ensures.kept known ops come s.history z.db held)
          (λ known p come held. c.commit.ensures.crash known p come s.history z.db held);
    }

pub returns-in-Ok-clause-stays : goal.returns-in-Ok-clause-stays
returns-in-Ok-clause-stays g c =
    let h = c.requires.usable.workspace.stands in
    let made = c.in-Ok.ensures.committed (txn.going c.requires.going.0) c.requires.going.1 h.0 h.1 in
    record {
      workspace = workspace-added g.R.TreeRep.contents g.S.TreeRep.contents c.args.self.now (record c.args.self.now { db = c.commit.new.self }) c.requires.taken c.requires.usable.workspace c.requires.alone (_, made.3.holds) (made-unspent c.commit.new.self.spent c.in-Ok.tids c.in-Ok.ensures.spent.0);
      ready = c.in-Ok.ensures.ready;
    }

pub returns-in-Err-TooLarge-clause-turned : goal.returns-in-Err-TooLarge-clause-turned
returns-in-Err-TooLarge-clause-turned g c =
    let view = g.R.TreeRep.contents in
    let source_view = g.S.TreeRep.contents in
    let h = c.requires.usable.workspace.stands in
    let stamp : Stamp = record { curator = c.args.curator; moment = c.in_ok-moment.moment } in
    let refused = subst (λ e. HasCommitted view source_view c.args.self.now.db h.0 stamp (txn.going c.requires.going.0) c.commit.new.self (Err e)) c.in-Err-TooLarge.field-0-is
    (c.in-Err-TooLarge.ensures.committed (txn.going c.requires.going.0) c.requires.going.1 h.0 h.1) in
    λ f. record {
      supply = one_moment c.in_ok-moment.moment;
      supplied = supplied-moment f (known_clock g.K.Clock c.args.clock.now) (known_clock g.K.Clock c.now.new.self) c.in_ok-moment.moment c.in_ok-moment.ensures.told;
      turns = λ terms s rest z e.
          rw (c.refused_commit.ensures)
          (turns-too_large view source_view g.D.Disk terms c.args.self.now (record c.args.self.now { db = c.commit.new.self }) c.args.transaction s z c.args.disk.now c.commit.new.disk stamp rest c.requires.alone c.requires.alone e
          (at-plain c.in-Err-TooLarge.field-0 (too_large-plain c.in-Err-TooLarge.field-0 c.in-Err-TooLarge.field-0-is) c.in-Err-TooLarge.ensures.unchanged) refused.2 refl c.requires.taken
          (λ p come. subst (λ x. HasCommitted view source_view c.args.self.now.db z.db.state stamp p c.commit.new.self (Err x)) c.in-Err-TooLarge.field-0-is (c.in-Err-TooLarge.ensures.committed p come z.db.state z.db.holds)));
    }

pub returns-in-Err-TooLarge-clause-stays : goal.returns-in-Err-TooLarge-clause-stays
returns-in-Err-TooLarge-clause-stays g c =
    let view = g.R.TreeRep.contents in
    let source_view = g.S.TreeRep.contents in
    let h = c.requires.usable.workspace.stands in
    let stamp : Stamp = record { curator = c.args.curator; moment = c.in_ok-moment.moment } in
    let refused = subst (λ e. HasCommitted view source_view c.args.self.now.db h.0 stamp (txn.going c.requires.going.0) c.commit.new.self (Err e)) c.in-Err-TooLarge.field-0-is
    (c.in-Err-TooLarge.ensures.committed (txn.going c.requires.going.0) c.requires.going.1 h.0 h.1) in
    usable-shut view source_view c.args.self.now (record c.args.self.now { db = c.commit.new.self }) c.requires.taken g.D.Disk c.args.disk.now c.commit.new.disk
    (at-plain c.in-Err-TooLarge.field-0 (too_large-plain c.in-Err-TooLarge.field-0 c.in-Err-TooLarge.field-0-is) c.in-Err-TooLarge.ensures.unchanged) c.requires.usable refused.2 c.requires.alone

pub returns-in-Err-Empty-clause-turned : goal.returns-in-Err-Empty-clause-turned
returns-in-Err-Empty-clause-turned g c =
    let stamp : Stamp = record { curator = c.args.curator; moment = c.in_ok-moment.moment } in
    λ f. record {
      supply = one_moment c.in_ok-moment.moment;
      supplied = supplied-moment f (known_clock g.K.Clock c.args.clock.now) (known_clock g.K.Clock c.now.new.self) c.in_ok-moment.moment c.in_ok-moment.ensures.told;
      turns = λ terms s rest z e.
          turns-empty g.R.TreeRep.contents g.S.TreeRep.contents g.D.Disk terms c.args.self.now (record c.args.self.now { db = c.commit.new.self }) c.args.transaction s z c.args.disk.now c.commit.new.disk stamp rest c.requires.alone c.requires.alone e (Ok c.refused_commit-in-Err-Empty.result)
          (λ p come. subst (λ x. HasCommitted g.R.TreeRep.contents g.S.TreeRep.contents c.args.self.now.db z.db.state stamp p c.commit.new.self (Err x)) c.in-Err-Empty.field-0-is (c.in-Err-Empty.ensures.committed p come z.db.state z.db.holds));
    }

pub returns-in-Err-Empty-clause-stays : goal.returns-in-Err-Empty-clause-stays
returns-in-Err-Empty-clause-stays g c =
    let view = g.R.TreeRep.contents in
    let source_view = g.S.TreeRep.contents in
    let h = c.requires.usable.workspace.stands in
    let stamp : Stamp = record { curator = c.args.curator; moment = c.in_ok-moment.moment } in
    let empty = subst (λ e. HasCommitted view source_view c.args.self.now.db h.0 stamp (txn.going c.requires.going.0) c.commit.new.self (Err e)) c.in-Err-Empty.field-0-is
    (c.in-Err-Empty.ensures.committed (txn.going c.requires.going.0) c.requires.going.1 h.0 h.1) in
    usable-shut view source_view c.args.self.now (record c.args.self.now { db = c.commit.new.self }) c.requires.taken g.D.Disk c.args.disk.now c.commit.new.disk
    (at-plain c.in-Err-Empty.field-0 (empty-plain c.in-Err-Empty.field-0 c.in-Err-Empty.field-0-is) c.in-Err-Empty.ensures.unchanged) c.requires.usable empty.1 c.requires.alone

pub returns-in-Err-Disk-clause-turned : goal.returns-in-Err-Disk-clause-turned
returns-in-Err-Disk-clause-turned g c =
    λ f. record {
      supply = one_moment c.in_ok-moment.moment;
      supplied = supplied-moment f (known_clock g.K.Clock c.args.clock.now) (known_clock g.K.Clock c.now.new.self) c.in_ok-moment.moment c.in_ok-moment.ensures.told;
      turns = λ terms s rest z e.
          turns-uncommitted g.R.TreeRep.contents g.S.TreeRep.contents g.D.Disk terms c.args.self.now (record c.args.self.now { db = c.commit.new.self }) c.args.transaction s z c.args.disk.now c.commit.new.disk (record { curator = c.args.curator; moment = c.in_ok-moment.moment }) rest c.requires.alone c.requires.alone e
          (Err failed.Disk) (failed.Disk, refl) (λ known p come held. c.commit.ensures.crash known p come s.history z.db held) (λ ops come none. c.commit.ensures.room ops come z.db.state z.db.holds none);
    }

pub returns-in-Err-Memory-clause-turned : goal.returns-in-Err-Memory-clause-turned
returns-in-Err-Memory-clause-turned g c =
    λ f. record {
      supply = one_moment c.in_ok-moment.moment;
      supplied = supplied-moment f (known_clock g.K.Clock c.args.clock.now) (known_clock g.K.Clock c.now.new.self) c.in_ok-moment.moment c.in_ok-moment.ensures.told;
      turns = λ terms s rest z e.
          turns-uncommitted g.R.TreeRep.contents g.S.TreeRep.contents g.D.Disk terms c.args.self.now (record c.args.self.now { db = c.commit.new.self }) c.args.transaction s z c.args.disk.now c.commit.new.disk (record { curator = c.args.curator; moment = c.in_ok-moment.moment }) rest c.requires.alone c.requires.alone e
          (Err failed.Memory) (failed.Memory, refl) (λ known p come held. c.commit.ensures.crash known p come s.history z.db held) (λ ops come none. c.commit.ensures.room ops come z.db.state z.db.holds none);
    }

pub returns-in_err-moment-clause-spent : goal.returns-in_err-moment-clause-spent
returns-in_err-moment-clause-spent g c = λ f.
    let r = c.from_residual.result in
    spends-passed (Unit {0}) 0 1 f f (known_clock g.K.Clock c.args.clock.now) (known_clock g.K.Clock c.now.new.self) failed.Clock r (refl, record { read = refl; asked = c.now.ensures.counted }) (err_from_is_err_and r c.from_residual.ensures.1)

pub returns-in-Ok-clause-spent : goal.returns-in-Ok-clause-spent
returns-in-Ok-clause-spent g c = λ f. record { read = refl; asked = c.now.ensures.counted }

pub returns-in-Err-TooLarge-clause-spent : goal.returns-in-Err-TooLarge-clause-spent
returns-in-Err-TooLarge-clause-spent g c = λ f. record { read = refl; asked = c.now.ensures.counted }

pub returns-in-Err-Empty-clause-spent : goal.returns-in-Err-Empty-clause-spent
returns-in-Err-Empty-clause-spent g c = λ f. record { read = refl; asked = c.now.ensures.counted }

pub returns-in-Err-Disk-clause-spent : goal.returns-in-Err-Disk-clause-spent
returns-in-Err-Disk-clause-spent g c = λ f. (refl, record { read = refl; asked = c.now.ensures.counted })

pub returns-in-Err-Memory-clause-spent : goal.returns-in-Err-Memory-clause-spent
returns-in-Err-Memory-clause-spent g c = λ f. inr (record { read = refl; asked = c.now.ensures.counted })

pub returns-in-Ok-clause-later : goal.returns-in-Ok-clause-later
returns-in-Ok-clause-later g c = λ s z before after.
    let made = c.in-Ok.ensures.committed (txn.going c.requires.going.0) c.requires.going.1 s before in
    later-committed g.R.TreeRep.contents g.S.TreeRep.contents c.commit.new.self s z c.requires.going.0 made.0 (c.requires.going.1 s before).accepted made.3.holds after

pub returns-in-Err-TooLarge-clause-later : goal.returns-in-Err-TooLarge-clause-later
returns-in-Err-TooLarge-clause-later g c = λ s z before after.
    let view = g.R.TreeRep.contents in
    let source_view = g.S.TreeRep.contents in
    let h = c.requires.usable.workspace.stands in
    let stamp : Stamp = record { curator = c.args.curator; moment = c.in_ok-moment.moment } in
    let refused = subst (λ e. HasCommitted view source_view c.args.self.now.db h.0 stamp (txn.going c.requires.going.0) c.commit.new.self (Err e)) c.in-Err-TooLarge.field-0-is
    (c.in-Err-TooLarge.ensures.committed (txn.going c.requires.going.0) c.requires.going.1 h.0 h.1) in
    later-same view source_view c.args.self.now.db c.commit.new.self s z refused.2 before after

pub returns-in-Err-Empty-clause-later : goal.returns-in-Err-Empty-clause-later
returns-in-Err-Empty-clause-later g c = λ s z before after.
    let view = g.R.TreeRep.contents in
    let source_view = g.S.TreeRep.contents in
    let h = c.requires.usable.workspace.stands in
    let stamp : Stamp = record { curator = c.args.curator; moment = c.in_ok-moment.moment } in
    let empty = subst (λ e. HasCommitted view source_view c.args.self.now.db h.0 stamp (txn.going c.requires.going.0) c.commit.new.self (Err e)) c.in-Err-Empty.field-0-is
    (c.in-Err-Empty.ensures.committed (txn.going c.requires.going.0) c.requires.going.1 h.0 h.1) in
    later-same view source_view c.args.self.now.db c.commit.new.self s z empty.1 before after
