use Rattle.std.proofs.Common.{inl, inr, ⊎_elim, sym, ◌∙◌}
use Rattle.cp_disk.proofs.Composing.{still, only_when_known}
use Rattle.cp_journal.proofs.FrameWrites.{of_success}
use Rattle.cp_journal.specs.NewStores.{IsVacant, IsVacantOrNew}
use Rattle.cp_journal.proofs.NewStores.{making_crash, making_settles, made_file, settled_then}
use Rattle.cp_journal.proofs.new_store.put_store.Goals as goal

pub returns-clause-crash : goal.returns-clause-crash
returns-clause-crash g c = λ known f ok is.
    let settled = still c.in_ok-settled.ensures.cause.same known in
    let filled = still c.in_ok-fill.ensures.cause.same settled in
    making_crash f ok _ _ _ _ _ (c.in_ok-settled.ensures.vacant settled).0 (c.in_ok-fill.ensures.durable filled) _ is (c.in_ok-fill.ensures.content settled)
    (c.settle.ensures.crash known) (c.fill.ensures.crash settled) (c.put.ensures.crash filled)

pub returns-clause-durable : goal.returns-clause-durable
returns-clause-durable g c = λ known f ok is.
    let filled = still (sym c.put.ensures.cause.same) known in
    let settled = still (sym c.in_ok-fill.ensures.cause.same) filled in
    of_success c.put.result (λ content only.
    let made = made_file f ok (g.D.Disk.known c.args.disk.now).view (g.D.Disk.known c.settle.new.disk).view (g.D.Disk.known c.fill.new.disk).view (g.D.Disk.known c.put.new.disk).view _ (c.in_ok-settled.ensures.vacant settled).0 (c.in_ok-fill.ensures.durable filled) _ is (c.in_ok-fill.ensures.content settled) content in
    record { content = made; only = λ left im. only left im ∙ made }) (c.put.ensures.content filled) (only_when_known c.put.result (g.D.Disk.known c.put.new.disk) c.put.ensures.durable known)

pub returns-clause-settles : goal.returns-clause-settles
returns-clause-settles g c = λ known f ok is.
    let settled = still c.in_ok-settled.ensures.cause.same known in
    let filled = still c.in_ok-fill.ensures.cause.same settled in
    inr (making_settles f ok (g.D.Disk.known c.args.disk.now).view (g.D.Disk.known c.settle.new.disk).view (g.D.Disk.known c.fill.new.disk).view (g.D.Disk.known c.put.new.disk).view _ (c.in_ok-settled.ensures.vacant settled).0 (c.in_ok-fill.ensures.durable filled) _ is (c.in_ok-fill.ensures.content settled)
    (c.in_ok-settled.ensures.settled known) (c.fill.ensures.crash settled) (c.put.ensures.crash filled))

pub returns-in_err-fill-clause-settles : goal.returns-in_err-fill-clause-settles
returns-in_err-fill-clause-settles g c = λ known f ok is.
    let settled = still c.in_ok-settled.ensures.cause.same known in
    inr (settled_then IsVacant IsVacant (IsVacantOrNew f) (g.D.Disk.known c.args.disk.now).view (g.D.Disk.known c.settle.new.disk).view (g.D.Disk.known c.fill.new.disk).view
    (c.in_ok-settled.ensures.settled known) (c.fill.ensures.crash settled) (λ z h. inl h) (λ z h. inl h))

pub returns-in_err-settled-clause-settles : goal.returns-in_err-settled-clause-settles
returns-in_err-settled-clause-settles g c = λ known f ok is.
    ⊎_elim (λ rests. inl rests) (λ settled. inr (record { moment = settled.moment; later = settled.later; passed = settled.passed; only = λ z i. inl (settled.only z i) })) (c.settle.ensures.settles known)
