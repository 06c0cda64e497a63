use Rattle.std.proofs.Common.{sym}
use Rattle.cp_disk.proofs.Composing.{still}
use Rattle.cp_journal.proofs.SlotWrites.{still_closed, after_close, after_fill, after_open}
use Rattle.cp_journal.proofs.slots.put_slot.Goals as goal

pub returns-in_err-close_slot-clause-crash : goal.returns-in_err-close_slot-clause-crash
returns-in_err-close_slot-clause-crash g c = λ known. after_close c.args.at c.args.header.now c.args.slot.now _ _ _ (c.close_slot.ensures.crash known)

pub returns-in_err-fill_slot-clause-crash : goal.returns-in_err-fill_slot-clause-crash
returns-in_err-fill_slot-clause-crash g c = λ known.
    let closed_known = still c.in_ok-close_slot.ensures.cause.same known in
    after_fill c.args.at c.args.header.now c.args.slot.now _ _ _ _ (c.close_slot.ensures.crash known) (c.fill_slot.ensures.crash closed_known c.args.header.now _ (c.in_ok-close_slot.ensures.says known))

pub open_slot-requires-clause-says : goal.open_slot-requires-clause-says
open_slot-requires-clause-says g c = λ filled_known.
    let closed_known = still (sym c.in_ok-fill_slot.ensures.cause.same) filled_known in
    let known = still (sym c.in_ok-close_slot.ensures.cause.same) closed_known in
    (c.args.header.now, still_closed _ _ _ _ (c.in_ok-fill_slot.ensures.says closed_known c.args.header.now _ (c.in_ok-close_slot.ensures.says known)))

pub returns-clause-says : goal.returns-clause-says
returns-clause-says g c = λ known.
    let closed_known = still c.in_ok-close_slot.ensures.cause.same known in
    let filled_known = still c.in_ok-fill_slot.ensures.cause.same closed_known in
    c.open_slot.ensures.says filled_known c.args.header.now _ (c.requires.own known) (c.in_ok-fill_slot.ensures.says closed_known c.args.header.now _ (c.in_ok-close_slot.ensures.says known))

pub returns-clause-crash : goal.returns-clause-crash
returns-clause-crash g c = λ known.
    let closed_known = still c.in_ok-close_slot.ensures.cause.same known in
    let filled_known = still c.in_ok-fill_slot.ensures.cause.same closed_known in
    let closed = c.in_ok-close_slot.ensures.says known in
    after_open c.args.at c.args.header.now c.args.slot.now _ _ _ _ _ (c.close_slot.ensures.crash known) (c.fill_slot.ensures.crash closed_known c.args.header.now _ closed)
    (c.open_slot.ensures.crash filled_known c.args.header.now _ (c.requires.own known) (c.in_ok-fill_slot.ensures.says closed_known c.args.header.now _ closed))
