use Rattle.std.proofs.Common.{◌≡◌, Ok, inl, inr, sym, subst}
use Rattle.std.specs.Prelude.{IsTrue, ◌⊎◌}
use Rattle.cp_disk.proofs.Composing.{still}
use Rattle.cp_journal.specs.NewStores.{IsVacant}
use Rattle.cp_journal.specs.declared.fault.JournalFault.TheVariants as journal
use Rattle.cp_interpreter.specs.declared.stop.Stop.TheVariants.{Disk, Memory}
use Rattle.cp_workspace.specs.Fetched.{GivesFound}
use Rattle.cp_workspace.specs.Files.{known_files}
use Rattle.cp_scratch.specs.Starts.{start_given, start_reads}
use Rattle.cp_interpreter.specs.Begins.{StoreMade}
use Rattle.std.proofs.lemmas.Result.{err_from_is_err_and}
use Rattle.cp_interpreter.proofs.Made.{made-there, made-unknown, made-unread, made-refused, made-created, files-unblamed, stops-of}
use Rattle.cp_db.specs.FileVersions.{IsVacantOrNewest}
use Rattle.cp_db.proofs.FileVersions.{leaves-after, leaves-rested}
use Rattle.cp_program.proofs.init.make.Goals as goal

pub returns-in-Ok-clause-made : goal.returns-in-Ok-clause-made
returns-in-Ok-clause-made g c =
    let f = known_files g.F.Files c.args.files.now in
    let h = known_files g.F.Files c.start_tree.new.files in
    let v = g.D.Disk.known c.args.disk.now in
    let m = g.D.Disk.known c.vacant.new.disk in
    let w = g.D.Disk.known c.create.new.disk in
    let yes : IsTrue v.known → IsVacant v.view.content = λ known. (c.in_ok-vacant.ensures.vacant known).0 c.if-not-branch.false in
    made-created c.args.kind (λ t. start_given t c.args.start) (start_reads c.args.start) f h v m c.vacant.ensures.rests yes w c.create.result g.R.TreeRep.contents c.in-Ok.tree
    (λ known. c.create.ensures.created (still c.in_ok-vacant.ensures.cause.same known) (subst IsVacant (sym (c.vacant.ensures.rests known).content) (yes known))) (λ known. c.create.ensures.crash (still c.in_ok-vacant.ensures.cause.same known)) (λ known. c.create.ensures.settles (still c.in_ok-vacant.ensures.cause.same known)) c.in_ok-tree.ensures.reads (stops-of c.create.result c.create.ensures.kinds)
    (subst (GivesFound g.R.TreeRep.contents f (λ t. start_given t c.args.start)) c.in-Ok.is c.in_ok-tree.ensures.gives)

pub returns-in-Ok-clause-used : goal.returns-in-Ok-clause-used
returns-in-Ok-clause-used g c = files-unblamed (known_files g.F.Files c.args.files.now) (known_files g.F.Files c.start_tree.new.files) c.create.result c.create.ensures.kinds c.in_ok-tree.ensures.used.same c.in_ok-tree.ensures.used.account.steady

pub returns-in-Err-clause-made : goal.returns-in-Err-clause-made
returns-in-Err-clause-made g c =
    let f = known_files g.F.Files c.args.files.now in
    let h = known_files g.F.Files c.start_tree.new.files in
    let v = g.D.Disk.known c.args.disk.now in
    let m = g.D.Disk.known c.vacant.new.disk in
    let k = start_reads c.args.start in
    subst (λ r. StoreMade c.args.kind (λ t. start_given t c.args.start) k f h v m (Ok r)) (sym c.refused-in-Err.ensures)
    (made-refused c.args.kind (λ t. start_given t c.args.start) k f h v m c.vacant.ensures.rests (λ known. (c.in_ok-vacant.ensures.vacant known).0 c.if-not-branch.false) c.in-Err.why g.R.TreeRep.contents c.in_ok-tree.ensures.reads
    (subst (GivesFound g.R.TreeRep.contents f (λ t. start_given t c.args.start)) c.in-Err.is c.in_ok-tree.ensures.gives))

pub returns-in_err-tree-clause-made : goal.returns-in_err-tree-clause-made
returns-in_err-tree-clause-made g c =
    let f = known_files g.F.Files c.args.files.now in
    let h = known_files g.F.Files c.start_tree.new.files in
    let v = g.D.Disk.known c.args.disk.now in
    let m = g.D.Disk.known c.vacant.new.disk in
    let p = err_from_is_err_and c.from_residual-in_err-tree.result c.from_residual-in_err-tree.ensures.1 in
    rw p.1 (made-unread c.args.kind (λ t. start_given t c.args.start) (start_reads c.args.start) f h v m c.vacant.ensures.rests (λ known. (c.in_ok-vacant.ensures.vacant known).0 c.if-not-branch.false)
    c.in_err-tree.field-0.0 p.0 p.2 c.in_err-tree.ensures.reads)

pub returns-in_err-vacant-clause-made : goal.returns-in_err-vacant-clause-made
returns-in_err-vacant-clause-made g c =
    let f = known_files g.F.Files c.args.files.now in
    let v = g.D.Disk.known c.args.disk.now in
    let m = g.D.Disk.known c.vacant.new.disk in
    let e = c.in_err-vacant.field-0.0 in
    let p = err_from_is_err_and c.from_residual.result c.from_residual.ensures.1 in
    let kind : (p.0 ≡ Disk) ⊎ (p.0 ≡ Memory) = elim c.in_err-vacant.ensures.kinds [
      | inl d ↦ (let is : e ≡ journal.Disk = cc d in inl (p.2.0 is))
      | inr w ↦ (let is : e ≡ journal.Memory = cc w in inr (p.2.1 is))
    ] in
    rw p.1 (made-unknown c.args.kind (λ t. start_given t c.args.start) (start_reads c.args.start) f f v m c.vacant.ensures.rests p.0 kind)

pub returns-then-not-branch-clause-made : goal.returns-then-not-branch-clause-made
returns-then-not-branch-clause-made g c =
    let f = known_files g.F.Files c.args.files.now in
    let v = g.D.Disk.known c.args.disk.now in
    let m = g.D.Disk.known c.vacant.new.disk in
    let k = start_reads c.args.start in
    subst (λ r. StoreMade c.args.kind (λ t. start_given t c.args.start) k f f v m (Ok r)) (sym c.refused.ensures)
    (made-there c.args.kind (λ t. start_given t c.args.start) k f f v m c.vacant.ensures.rests (λ known vacant. (let t = (c.in_ok-vacant.ensures.vacant known).1 vacant in let n = c.if-not-branch.true in absurd (cc))))

pub returns-in-Ok-clause-file : goal.returns-in-Ok-clause-file
returns-in-Ok-clause-file g c = λ known vacant.
    let rests = c.vacant.ensures.rests known in
    leaves-after IsVacantOrNewest _ _ _ rests (c.create.ensures.file (still c.in_ok-vacant.ensures.cause.same known) (subst IsVacant (sym rests.content) vacant))

pub returns-in-Err-clause-file : goal.returns-in-Err-clause-file
returns-in-Err-clause-file g c = λ known vacant. leaves-rested IsVacantOrNewest _ _ (inl vacant) (c.vacant.ensures.rests known)

pub returns-in_err-tree-clause-file : goal.returns-in_err-tree-clause-file
returns-in_err-tree-clause-file g c = λ known vacant. leaves-rested IsVacantOrNewest _ _ (inl vacant) (c.vacant.ensures.rests known)
