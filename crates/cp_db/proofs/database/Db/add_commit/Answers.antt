use Rattle.std.proofs.Common.{subst, sym, Ok, Err, true, arith}
use Rattle.std.proofs.lemmas.Result.{err_from_is_err_and}
use Rattle.cp_disk.specs.Views.{ViewKeeps}
use Rattle.cp_db.specs.Writing.{HasCommitted, IsBeforeOrCommitted}
use Rattle.cp_db.proofs.WritingTransactions.{made-cases, made-going, made-some, told-unfinished, told-unwritten, crash-unwritten, within-left}
use Rattle.cp_db.proofs.database.Db.add_commit.Goals as goal

pub returns-in_err-step-clause-committed : goal.returns-in_err-step-clause-committed
returns-in_err-step-clause-committed g c = λ p come s z.
    let view = g.R.TreeRep.contents in
    let source_view = g.S.TreeRep.contents in
    let told = err_from_is_err_and c.from_residual.result c.from_residual.ensures.1 in
    subst (HasCommitted view source_view c.args.self.now s c.args.stamp p c.args.self.now) (sym told.1)
    (told-unfinished view source_view c.args.self.now s c.args.stamp c.commit_limit.result p c.in_err-step.field-0.0 told.0 c.commit_limit.ensures told.2 (within-left g.R.TreeRep.contents c.args.transaction c.commit_limit.result c.args.stamp (Err c.in_err-step.field-0.0) c.commit_limit.ensures c.in_err-step.ensures _ _ _ _ p (come s z)))

pub returns-in_err-step-clause-crash : goal.returns-in_err-step-clause-crash
returns-in_err-step-clause-crash g c = λ known p come h z k. crash-unwritten c.args.self.now h _ c.args.stamp p k

pub add_step-requires-clause-made : goal.add_step-requires-clause-made
add_step-requires-clause-made g c =
    made-some g.R.TreeRep.contents g.S.TreeRep.contents c.args.self.now c.args.transaction c.commit_limit.result c.in_ok-step.step (omega (arith, c.commit_limit.ensures))
    (within-left g.R.TreeRep.contents c.args.transaction c.commit_limit.result c.args.stamp (Ok c.in_ok-step.step) c.commit_limit.ensures c.in_ok-step.ensures) c.requires.come.0 c.requires.come.1 c.requires.stands

pub returns-in_err-add_step-clause-committed : goal.returns-in_err-add_step-clause-committed
returns-in_err-add_step-clause-committed g c = λ p come s z.
    let view = g.R.TreeRep.contents in
    let source_view = g.S.TreeRep.contents in
    let told = err_from_is_err_and c.from_residual-in_err-add_step.result c.from_residual-in_err-add_step.ensures.1 in
    subst (HasCommitted view source_view c.args.self.now s c.args.stamp p c.add_step.new.self) (sym told.1)
    (made-cases view source_view c.args.self.now c.args.transaction c.commit_limit.result c.in_ok-step.step (omega (arith, c.commit_limit.ensures)) (within-left g.R.TreeRep.contents c.args.transaction c.commit_limit.result c.args.stamp (Ok c.in_ok-step.step) c.commit_limit.ensures c.in_ok-step.ensures)
    (λ q. HasCommitted view source_view c.args.self.now s c.args.stamp q c.add_step.new.self (Err told.0))
    (λ ops made. told-unwritten view source_view c.args.self.now s c.args.stamp c.add_step.new.self ops c.in_err-add_step.field-0.0 told.0 (made s z).0.some told.2 (c.in_err-add_step.ensures.committed ops made s z))
    p come s z)

pub returns-in_err-add_step-clause-crash : goal.returns-in_err-add_step-clause-crash
returns-in_err-add_step-clause-crash g c = λ known p come h z k.
    made-cases g.R.TreeRep.contents g.S.TreeRep.contents c.args.self.now c.args.transaction c.commit_limit.result c.in_ok-step.step (omega (arith, c.commit_limit.ensures)) (within-left g.R.TreeRep.contents c.args.transaction c.commit_limit.result c.args.stamp (Ok c.in_ok-step.step) c.commit_limit.ensures c.in_ok-step.ensures)
    (λ q. ViewKeeps (IsBeforeOrCommitted h c.args.stamp q) (g.D.Disk.known c.args.disk.now).view (g.D.Disk.known c.add_step.new.disk).view) (λ ops made. c.add_step.ensures.crash known ops made h z k) p come z.state z.holds

pub returns-clause-committed : goal.returns-clause-committed
returns-clause-committed g c = λ p come s z.
    let view = g.R.TreeRep.contents in
    let source_view = g.S.TreeRep.contents in
    made-cases view source_view c.args.self.now c.args.transaction c.commit_limit.result c.in_ok-step.step (omega (arith, c.commit_limit.ensures)) (within-left g.R.TreeRep.contents c.args.transaction c.commit_limit.result c.args.stamp (Ok c.in_ok-step.step) c.commit_limit.ensures c.in_ok-step.ensures)
    (λ q. HasCommitted view source_view c.args.self.now s c.args.stamp q c.add_step.new.self (Ok c.in_ok-add_step.field-0))
    (λ ops made. let told = c.in_ok-add_step.ensures.committed ops made s z in ((made s z).0.some, told.0, told.1, told.2)) p come s z

pub returns-clause-kept : goal.returns-clause-kept
returns-clause-kept g c = λ known ops come h z k.
    c.in_ok-add_step.ensures.kept known ops
    (made-going g.R.TreeRep.contents g.S.TreeRep.contents c.args.self.now c.args.transaction c.commit_limit.result c.in_ok-step.step (omega (arith, c.commit_limit.ensures)) (within-left g.R.TreeRep.contents c.args.transaction c.commit_limit.result c.args.stamp (Ok c.in_ok-step.step) c.commit_limit.ensures c.in_ok-step.ensures) ops come) h z k

pub returns-clause-crash : goal.returns-clause-crash
returns-clause-crash g c = λ known p come h z k.
    made-cases g.R.TreeRep.contents g.S.TreeRep.contents c.args.self.now c.args.transaction c.commit_limit.result c.in_ok-step.step (omega (arith, c.commit_limit.ensures)) (within-left g.R.TreeRep.contents c.args.transaction c.commit_limit.result c.args.stamp (Ok c.in_ok-step.step) c.commit_limit.ensures c.in_ok-step.ensures)
    (λ q. ViewKeeps (IsBeforeOrCommitted h c.args.stamp q) (g.D.Disk.known c.args.disk.now).view (g.D.Disk.known c.add_step.new.disk).view) (λ ops made. c.add_step.ensures.crash known ops made h z k) p come z.state z.holds

pub returns-in_err-add_step-clause-room : goal.returns-in_err-add_step-clause-room
returns-in_err-add_step-clause-room g c = λ ops come s z full.
    c.add_step.ensures.room ops
    (made-going g.R.TreeRep.contents g.S.TreeRep.contents c.args.self.now c.args.transaction c.commit_limit.result c.in_ok-step.step (omega (arith, c.commit_limit.ensures)) (within-left g.R.TreeRep.contents c.args.transaction c.commit_limit.result c.args.stamp (Ok c.in_ok-step.step) c.commit_limit.ensures c.in_ok-step.ensures) ops come) s z full

pub returns-clause-room : goal.returns-clause-room
returns-clause-room g c = λ ops come s z full.
    c.add_step.ensures.room ops
    (made-going g.R.TreeRep.contents g.S.TreeRep.contents c.args.self.now c.args.transaction c.commit_limit.result c.in_ok-step.step (omega (arith, c.commit_limit.ensures)) (within-left g.R.TreeRep.contents c.args.transaction c.commit_limit.result c.args.stamp (Ok c.in_ok-step.step) c.commit_limit.ensures c.in_ok-step.ensures) ops come) s z full
