use Rattle.std.proofs.Common.{inr, ap, length, ◌∙◌, arith}
use Rattle.cp_disk.proofs.Composing.{still}
use Rattle.cp_journal.specs.NewStores.{IsVacant}
use Rattle.cp_journal.proofs.NewStores.{settled_only, settled_rests, settled_then, gate_vacant}
use Rattle.cp_journal.proofs.new_store.settle.Goals as goal

pub returns-then-size-le1-clause-settled : goal.returns-then-size-le1-clause-settled
returns-then-size-le1-clause-settled g c = λ known.
    let v = (g.D.Disk.known c.args.disk.now).view in
    let u = (g.D.Disk.known c.sync.new.self).view in
    let m = (g.D.Disk.known c.size.new.self).view in
    let w = (g.D.Disk.known c.put.new.disk).view in
    let known_u = still c.in_ok-sync.ensures.cause.same known in
    let known_m = still c.in_ok-size.ensures.cause.same known_u in
    let synced = c.in_ok-sync.ensures.synced known in
    let sized = c.in_ok-size.ensures.sized known_u in
    let first = settled_only IsVacant v u synced.rests synced.durable (λ z i. g.met.D.Disk.only_now c.sync.new.self z known_u i) (c.requires known) in
    let second = settled_rests IsVacant v u m first sized.rests in
    let keeps = gate_vacant m w v.content (λ z i. synced.durable z (sized.rests.images z i)) (omega (arith, sized.size, ap length synced.rests.content, c.if-size-le1.true)) (c.put.ensures.crash known_m) in
    settled_then IsVacant IsVacant IsVacant v m w second keeps (λ z h. h) (λ z h. h)

pub returns-then-size-le1-clause-settles : goal.returns-then-size-le1-clause-settles
returns-then-size-le1-clause-settles g c = λ known. inr (returns-then-size-le1-clause-settled g c known)

pub returns-in_err-put-clause-settles : goal.returns-in_err-put-clause-settles
returns-in_err-put-clause-settles g c = λ known.
    let v = (g.D.Disk.known c.args.disk.now).view in
    let u = (g.D.Disk.known c.sync.new.self).view in
    let m = (g.D.Disk.known c.size.new.self).view in
    let w = (g.D.Disk.known c.put.new.disk).view in
    let known_u = still c.in_ok-sync.ensures.cause.same known in
    let known_m = still c.in_ok-size.ensures.cause.same known_u in
    let synced = c.in_ok-sync.ensures.synced known in
    let sized = c.in_ok-size.ensures.sized known_u in
    let first = settled_only IsVacant v u synced.rests synced.durable (λ z i. g.met.D.Disk.only_now c.sync.new.self z known_u i) (c.requires known) in
    let second = settled_rests IsVacant v u m first sized.rests in
    let keeps = gate_vacant m w v.content (λ z i. synced.durable z (sized.rests.images z i)) (omega (arith, sized.size, ap length synced.rests.content, c.if-size-le1.true)) (c.put.ensures.crash known_m) in
    inr (settled_then IsVacant IsVacant IsVacant v m w second keeps (λ z h. h) (λ z h. h))

pub returns-clause-settled : goal.returns-clause-settled
returns-clause-settled g c = λ known.
    let v = (g.D.Disk.known c.args.disk.now).view in
    let u = (g.D.Disk.known c.sync.new.self).view in
    let m = (g.D.Disk.known c.size.new.self).view in
    let known_u = still c.in_ok-sync.ensures.cause.same known in
    let known_m = still c.in_ok-size.ensures.cause.same known_u in
    let synced = c.in_ok-sync.ensures.synced known in
    let first = settled_only IsVacant v u synced.rests synced.durable (λ z i. g.met.D.Disk.only_now c.sync.new.self z known_u i) (c.requires known) in
    settled_rests IsVacant v m (g.D.Disk.known c.read.new.self).view (settled_rests IsVacant v u m first (c.in_ok-size.ensures.sized known_u).rests) (c.in_ok-read.ensures.filled known_m).rests
