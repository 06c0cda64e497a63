use Rattle.std.proofs.Common.{◌≡◌, ◌∙◌, true, [], ◌∷◌, ap, sym, subst, length, List, ℕ, refl, arith, Err}
use Rattle.std.proofs.lemmas.Result.{err_from_is_err_and}
use Rattle.cp_disk.proofs.Composing.{still}
use Rattle.cp_model.specs.History.{start}
use Rattle.cp_journal.specs.Frames.{entry}
use Rattle.cp_frame.specs.Items.{Tell}
use Rattle.cp_db.specs.declared.fault.InitFault.TheVariants as init
use Rattle.cp_journal.specs.NewStores.{IsVacant}
use Rattle.cp_db.specs.FileVersions.{IsVacantOrNewest}
use Rattle.cp_db.proofs.FileVersions.{leaves-after, vacant-made, version-made}
use Rattle.cp_db.proofs.WritingStarts.{kept-started, crash-started, settles-started, memory-started, stands-started}
use Rattle.cp_db.proofs.database.Db.init.Goals as goal

pub create-requires-clause-short : goal.create-requires-clause-short
create-requires-clause-short g c = rw (c.deref.ensures.value) c.in_ok-body.ensures.few

pub returns-in_err-journal-clause-crash : goal.returns-in_err-journal-clause-crash
returns-in_err-journal-clause-crash g c = λ known.
    let tree = g.R.TreeRep.contents c.args.tree in
    let told = subst (λ (b : List ℕ). Tell true 2 (entry b ∷ []) (start c.args.kind tree ∷ [])) (sym c.deref.ensures.value) c.in_ok-body.ensures.told in
    crash-started c.args.kind tree c.deref.result.now told _ _ _ (c.vacant.ensures.rests known) (c.create.ensures.crash (still c.vacant.ensures.cause.same known))

pub returns-in_err-journal-clause-memory : goal.returns-in_err-journal-clause-memory
returns-in_err-journal-clause-memory g c = λ known memory.
    let told = err_from_is_err_and c.from_residual-in_err-journal.result c.from_residual-in_err-journal.ensures.1 in
    let same : Err told.0 ≡ Err init.Memory = sym told.1 ∙ memory in
    let wanted : told.0 ≡ init.Memory = cc in
    memory-started (Err c.in_err-journal.field-0.0) c.in_err-journal.field-0.0 told.0 refl told.2 wanted c.in_err-journal.ensures.kinds (λ d. (g.D.Disk.known d).view) (g.D.Disk.known c.args.disk.now).view c.vacant.new.disk c.create.new.disk _ _ _
    (c.vacant.ensures.rests known) c.vacant.ensures.wants c.in_err-journal.ensures.memory

pub returns-clause-stands : goal.returns-clause-stands
returns-clause-stands g c = λ right.
    stands-started g.R.TreeRep.contents g.S.TreeRep.contents right c.args.kind (g.R.TreeRep.contents c.args.tree) (g.met.R.TreeRep.is_tree c.args.tree) _
    (record { committed = c.start-committed.ensures.keeps; whole = c.in_ok-journal.ensures.usable.0; usable = c.in_ok-journal.ensures.usable.1; idle = c.in_ok-journal.ensures.idle }) c.start-committed.ensures.none

pub returns-clause-kept : goal.returns-clause-kept
returns-clause-kept g c = λ known.
    let tree = g.R.TreeRep.contents c.args.tree in
    let told = subst (λ (b : List ℕ). Tell true 2 (entry b ∷ []) (start c.args.kind tree ∷ [])) (sym c.deref.ensures.value) c.in_ok-body.ensures.told in
    kept-started c.args.kind tree c.deref.result.now told _ (g.D.Disk.known c.create.new.disk).view refl (c.in_ok-journal.ensures.described known)

pub returns-clause-made : goal.returns-clause-made
returns-clause-made g c = (refl, refl, omega (arith, c.in_ok-journal.ensures.next, ap length c.deref.ensures.value, c.in_ok-body.ensures.size))

pub returns-clause-crash : goal.returns-clause-crash
returns-clause-crash g c = λ known.
    let tree = g.R.TreeRep.contents c.args.tree in
    let told = subst (λ (b : List ℕ). Tell true 2 (entry b ∷ []) (start c.args.kind tree ∷ [])) (sym c.deref.ensures.value) c.in_ok-body.ensures.told in
    crash-started c.args.kind tree c.deref.result.now told _ _ _ (c.vacant.ensures.rests known) (c.create.ensures.crash (still c.vacant.ensures.cause.same known))

pub returns-in_err-journal-clause-settles : goal.returns-in_err-journal-clause-settles
returns-in_err-journal-clause-settles g c = λ known.
    let tree = g.R.TreeRep.contents c.args.tree in
    let told = subst (λ (b : List ℕ). Tell true 2 (entry b ∷ []) (start c.args.kind tree ∷ [])) (sym c.deref.ensures.value) c.in_ok-body.ensures.told in
    settles-started c.args.kind tree c.deref.result.now told _ _ _ (c.vacant.ensures.rests known) (c.create.ensures.settles (still c.vacant.ensures.cause.same known))

pub returns-clause-settles : goal.returns-clause-settles
returns-clause-settles g c = λ known.
    let tree = g.R.TreeRep.contents c.args.tree in
    let told = subst (λ (b : List ℕ). Tell true 2 (entry b ∷ []) (start c.args.kind tree ∷ [])) (sym c.deref.ensures.value) c.in_ok-body.ensures.told in
    settles-started c.args.kind tree c.deref.result.now told _ _ _ (c.vacant.ensures.rests known) (c.create.ensures.settles (still c.vacant.ensures.cause.same known))

pub returns-in_err-journal-clause-file : goal.returns-in_err-journal-clause-file
returns-in_err-journal-clause-file g c = λ known vacant.
    let rests = c.vacant.ensures.rests known in
    let looked = still c.vacant.ensures.cause.same known in
    let made = still c.create.ensures.cause.same looked in
    leaves-after IsVacantOrNewest _ _ _ rests
    (vacant-made (entry c.deref.result.now) _ _ (subst IsVacant (sym rests.content) vacant) (c.create.ensures.crash looked) (c.create.ensures.settles looked)
    (λ t x. g.met.D.Disk.counts_now c.vacant.new.disk t x looked) (λ t x. g.met.D.Disk.counts_now c.create.new.disk t x made) (g.met.D.Disk.leaves_content c.create.new.disk made))

pub returns-clause-file : goal.returns-clause-file
returns-clause-file g c = λ known vacant.
    let rests = c.vacant.ensures.rests known in
    let looked = still c.vacant.ensures.cause.same known in
    let made = still c.create.ensures.cause.same looked in
    leaves-after IsVacantOrNewest _ _ _ rests
    (vacant-made (entry c.deref.result.now) _ _ (subst IsVacant (sym rests.content) vacant) (c.create.ensures.crash looked) (c.create.ensures.settles looked)
    (λ t x. g.met.D.Disk.counts_now c.vacant.new.disk t x looked) (λ t x. g.met.D.Disk.counts_now c.create.new.disk t x made) (g.met.D.Disk.leaves_content c.create.new.disk made))

pub returns-clause-newest : goal.returns-clause-newest
returns-clause-newest g c = λ now. version-made (entry c.deref.result.now) _ (c.in_ok-journal.ensures.durable now)
