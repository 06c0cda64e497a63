use Rattle.std.proofs.Common.{◌∙◌, inl, inr, ℕ, refl, sym, subst, true, arith}
use Rattle.cp_disk.proofs.Composing.{still}
use Rattle.cp_disk.specs.Views.{View}
use Rattle.cp_journal.specs.Upgrading.{HasOtherVersion}
use Rattle.cp_db.specs.FileVersions.{HasVersionOrNewest, LeavesFiles}
use Rattle.cp_db.proofs.FileVersions.{version-stepped, version-upgraded}
use Rattle.cp_db.proofs.WritingFrames.{kept-upgraded, crash-upgraded}
use Rattle.cp_db.proofs.WritingStanding.{holds-rejournaled, unspent}
use Rattle.cp_db.proofs.database.Db.migrate.Goals as goal

pub returns-in-Ok-clause-kept : goal.returns-in-Ok-clause-kept
returns-in-Ok-clause-kept g c = λ known right h k.
    kept-upgraded right c.args.self.now h (g.D.Disk.known c.args.disk.now).view (g.D.Disk.known c.upgrade.new.disk).view c.requires.version k _ refl
    (c.in-Ok.ensures.described known)

pub returns-in-Ok-clause-crash : goal.returns-in-Ok-clause-crash
returns-in-Ok-clause-crash g c = λ known h k.
    crash-upgraded true c.args.self.now h (g.D.Disk.known c.args.disk.now).view (g.D.Disk.known c.upgrade.new.disk).view c.requires.version k refl
    (c.upgrade.ensures.stands known)

pub returns-in-Err-clause-crash : goal.returns-in-Err-clause-crash
returns-in-Err-clause-crash g c = λ known h k.
    crash-upgraded true c.args.self.now h (g.D.Disk.known c.args.disk.now).view (g.D.Disk.known c.upgrade.new.disk).view c.requires.version k refl
    (c.upgrade.ensures.stands known)

pub returns-in-Ok-clause-same : goal.returns-in-Ok-clause-same
returns-in-Ok-clause-same g c =
    let here = c.requires.stands.1 in
    holds-rejournaled g.R.TreeRep.contents g.S.TreeRep.contents c.args.self.now _ c.requires.stands.0 refl (c.upgrade.ensures.same.2 ∙ here.whole)
    (unspent c.upgrade.new.self.spent (λ t. elim (c.in-Ok.ensures.spent.0 t) [ inl e ↦ absurd (cc) | inr e ↦ absurd (cc) ])) (c.upgrade.ensures.idle ∙ here.idle) here

pub returns-in-Ok-clause-newest : goal.returns-in-Ok-clause-newest
returns-in-Ok-clause-newest g c = λ now.
    let known = still (sym c.upgrade.ensures.cause.same) now in
    let ready = c.requires.ready known in
    version-upgraded (g.D.Disk.known c.args.disk.now).view (g.D.Disk.known c.upgrade.new.disk).view (omega (arith, ready.0, ready.1.inside)) (c.in-Ok.ensures.content known)

pub returns-in-Ok-clause-file : goal.returns-in-Ok-clause-file
returns-in-Ok-clause-file g c = λ known.
    let v = (g.D.Disk.known c.args.disk.now).view in
    let w = (g.D.Disk.known c.upgrade.new.disk).view in
    subst (λ (n : ℕ). LeavesFiles (HasVersionOrNewest n) v w) (sym c.requires.version) (version-stepped HasOtherVersion v w (c.upgrade.ensures.crash known))

pub returns-in-Err-clause-file : goal.returns-in-Err-clause-file
returns-in-Err-clause-file g c = λ known.
    let v = (g.D.Disk.known c.args.disk.now).view in
    let w = (g.D.Disk.known c.upgrade.new.disk).view in
    subst (λ (n : ℕ). LeavesFiles (HasVersionOrNewest n) v w) (sym c.requires.version) (version-stepped HasOtherVersion v w (c.upgrade.ensures.crash known))
