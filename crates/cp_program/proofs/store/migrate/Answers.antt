use Rattle.std.proofs.Common.{inl, inr, refl, sym, subst, ◌∙◌, false, true}
use Rattle.cp_db.proofs.Keeping.{stands-same}
use Rattle.cp_interpreter.proofs.Opened.{none-migrated, unspent}
use Rattle.cp_db.specs.FileVersions.{HasFileVersion, HasVersionOrNewest, LeavesFiles}
use Rattle.cp_db.proofs.FileVersions.{leaves-none}
use Rattle.cp_program.proofs.store.migrate.Goals as goal

pub returns-then-version-eq2-clause-migrated : goal.returns-then-version-eq2-clause-migrated
returns-then-version-eq2-clause-migrated g c = none-migrated g.R.TreeRep.contents g.S.TreeRep.contents c.args.db (g.D.Disk.known c.args.disk.now)

pub returns-in-Ok-clause-migrated : goal.returns-in-Ok-clause-migrated
returns-in-Ok-clause-migrated g c = λ h z known k. (c.in-Ok.ensures.crash known h k, (stands-same g.R.TreeRep.contents g.S.TreeRep.contents c.args.db _ c.in-Ok.ensures.same true h z, c.in-Ok.ensures.kept known true h k, c.in-Ok.ensures.end))

pub returns-in-Ok-clause-usable : goal.returns-in-Ok-clause-usable
returns-in-Ok-clause-usable g c = (
  (c.requires.stands.0, (c.in-Ok.ensures.same.states c.requires.stands.0).0 c.requires.stands.1),
  unspent _ (λ t. elim (c.in-Ok.ensures.spent.0 t) [ inl e ↦ absurd (cc) | inr e ↦ absurd (cc) ]),
  c.in-Ok.ensures.version,
)

pub returns-in-Err-Disk-clause-migrated : goal.returns-in-Err-Disk-clause-migrated
returns-in-Err-Disk-clause-migrated g c = λ h z known k. (c.migrate.ensures.crash known h k, inl refl)

pub returns-in-Err-Memory-clause-migrated : goal.returns-in-Err-Memory-clause-migrated
returns-in-Err-Memory-clause-migrated g c = λ h z known k. (c.migrate.ensures.crash known h k, inr refl)

pub returns-then-version-eq2-clause-newest : goal.returns-then-version-eq2-clause-newest
returns-then-version-eq2-clause-newest g c = λ now. subst (λ n. HasFileVersion n (g.D.Disk.known c.args.disk.now).view) (sym c.version.ensures ∙ c.if-version-eq2.true) (c.requires.gate now)

pub returns-then-version-eq2-clause-file : goal.returns-then-version-eq2-clause-file
returns-then-version-eq2-clause-file g c = λ known. leaves-none (HasVersionOrNewest _) _ (inl refl)

pub returns-in-Ok-clause-file : goal.returns-in-Ok-clause-file
returns-in-Ok-clause-file g c = λ known.
    subst (λ n. LeavesFiles (HasVersionOrNewest n) (g.D.Disk.known c.args.disk.now).view (g.D.Disk.known c.migrate.new.disk).view) (sym (c.requires.gate known).content) (c.migrate.ensures.file known)

pub returns-in-Err-Disk-clause-file : goal.returns-in-Err-Disk-clause-file
returns-in-Err-Disk-clause-file g c = λ known.
    subst (λ n. LeavesFiles (HasVersionOrNewest n) (g.D.Disk.known c.args.disk.now).view (g.D.Disk.known c.migrate.new.disk).view) (sym (c.requires.gate known).content) (c.migrate.ensures.file known)

pub returns-in-Err-Memory-clause-file : goal.returns-in-Err-Memory-clause-file
returns-in-Err-Memory-clause-file g c = λ known.
    subst (λ n. LeavesFiles (HasVersionOrNewest n) (g.D.Disk.known c.args.disk.now).view (g.D.Disk.known c.migrate.new.disk).view) (sym (c.requires.gate known).content) (c.migrate.ensures.file known)

pub returns-in-Err-Disk-clause-older : goal.returns-in-Err-Disk-clause-older
returns-in-Err-Disk-clause-older g c = λ known newest. c.if-version-eq2.false (c.version.ensures ∙ sym (c.requires.gate known).content ∙ newest)

pub returns-in-Err-Memory-clause-older : goal.returns-in-Err-Memory-clause-older
returns-in-Err-Memory-clause-older g c = λ known newest. c.if-version-eq2.false (c.version.ensures ∙ sym (c.requires.gate known).content ∙ newest)
