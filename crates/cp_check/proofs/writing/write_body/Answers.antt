use Rattle.std.specs.Prelude.{IsErrOf}
use Rattle.std.proofs.Common.{◌≡◌, false, ◌∷◌, ◌<◌, ◌^◌, ◌∙◌, [], ℕ, length, rules, subst, sym, arith}
use Rattle.cp_disk.specs.Views.{ViewKeeps}
use Rattle.cp_disk.proofs.Composing.{still}
use Rattle.cp_journal.specs.Begun.{checkpoint}
use Rattle.cp_journal.specs.Slots.{NamesOldOrNew}
use Rattle.cp_journal.specs.Holding.{IsAtRest, IsBeforeOrAfter}
use Rattle.cp_journal.specs.declared.fault.JournalFault.TheVariants as fault
use Rattle.cp_journal.proofs.Fronts.{front_rest}
use Rattle.cp_check.proofs.Writes.{same_idle, behind, opened, all_written, added_after, front_says, front_two, spare_place, switched_frames, switched_rest}
use Rattle.cp_check.proofs.writing.write_body.Goals as goal

pub returns-in_err-begin-clause-crash : goal.returns-in_err-begin-clause-crash
returns-in_err-begin-clause-crash g c = λ known h s at right.
    behind h _ _ s at _ (c.requires.rest known) (c.begin.ensures.front known)

pub put_bytes-requires-clause-body : goal.put_bytes-requires-clause-body
put_bytes-requires-clause-body g c = λ begun_known.
    let known = still (sym c.in_ok-begin.ensures.cause.same) begun_known in
    ([], c.in_ok-begin.ensures.begun known)

pub returns-in_err-put_bytes-clause-crash : goal.returns-in_err-put_bytes-clause-crash
returns-in_err-put_bytes-clause-crash g c = λ known h s at right.
    let begun_known = still c.in_ok-begin.ensures.cause.same known in
    behind h _ _ s at _ (c.requires.rest known) (front_two c.args.journal.now.next _ _ _ _ c.begin.ensures.same.1 (c.begin.ensures.front known) (c.put_bytes.ensures.front begun_known))

pub finish-requires-clause-body : goal.finish-requires-clause-body
finish-requires-clause-body g c = λ put_known.
    let begun_known = still (sym c.in_ok-put_bytes.ensures.cause.same) put_known in
    let known = still (sym c.in_ok-begin.ensures.cause.same) begun_known in
    (_, c.in_ok-put_bytes.ensures.body begun_known [] (c.in_ok-begin.ensures.begun known))

pub returns-in_err-at-clause-crash : goal.returns-in_err-at-clause-crash
returns-in_err-at-clause-crash g c = λ known h s at right.
    let e = c.args.journal.now.next in
    let begun_known = still c.in_ok-begin.ensures.cause.same known in
    let put_known = still c.in_ok-put_bytes.ensures.cause.same begun_known in
    let b = c.in_ok-put_bytes.ensures.body begun_known [] (c.in_ok-begin.ensures.begun known) in
    let front = front_two e _ _ _ _ c.begin.ensures.same.1 (c.begin.ensures.front known) (c.put_bytes.ensures.front begun_known) in
    let next = c.put_bytes.ensures.same.1 ∙ c.begin.ensures.same.1 in
    opened h e _ s at c.args.body.now _ _ (c.requires.rest known) front
    (subst (λ (n : ℕ). ViewKeeps (IsBeforeOrAfter n (g.D.Disk.known c.put_bytes.new.disk).view.content (checkpoint c.args.body.now)) (g.D.Disk.known c.put_bytes.new.disk).view (g.D.Disk.known c.finish.new.disk).view) next (c.finish.ensures.crash put_known _ b))

pub make_live-requires-clause-durable : goal.make_live-requires-clause-durable
make_live-requires-clause-durable g c = λ finish_known.
    let put_known = still (sym c.in_ok-at.ensures.cause.same) finish_known in
    let begun_known = still (sym c.in_ok-put_bytes.ensures.cause.same) put_known in
    let known = still (sym c.in_ok-begin.ensures.cause.same) begun_known in
    (c.in_ok-at.ensures.added put_known _ (c.in_ok-put_bytes.ensures.body begun_known [] (c.in_ok-begin.ensures.begun known))).durable

pub make_live-requires-clause-says : goal.make_live-requires-clause-says
make_live-requires-clause-says g c = λ finish_known.
    let put_known = still (sym c.in_ok-at.ensures.cause.same) finish_known in
    let begun_known = still (sym c.in_ok-put_bytes.ensures.cause.same) put_known in
    let known = still (sym c.in_ok-begin.ensures.cause.same) begun_known in
    let e = c.args.journal.now.next in
    let short : length c.args.body.now < 2 ^ 64 = search rules in
    let b = c.in_ok-put_bytes.ensures.body begun_known [] (c.in_ok-begin.ensures.begun known) in
    let front = front_two e _ _ _ _ c.begin.ensures.same.1 (c.begin.ensures.front known) (c.put_bytes.ensures.front begun_known) in
    let next = c.put_bytes.ensures.same.1 ∙ c.begin.ensures.same.1 in
    let there = added_after e _ _ c.args.body.now _ _ _ next short front (c.in_ok-at.ensures.added put_known _ b) in
    let inside = there.inside in
    front_says c.args.header.now e _ _ (c.requires.beyond known) there.front (omega (arith, inside, c.requires.beyond known)) (c.requires.says known)

pub returns-in_err-make_live-clause-crash : goal.returns-in_err-make_live-clause-crash
returns-in_err-make_live-clause-crash g c = λ known h s at right.
    let e = c.args.journal.now.next in
    let short : length c.args.body.now < 2 ^ 64 = search rules in
    let begun_known = still c.in_ok-begin.ensures.cause.same known in
    let put_known = still c.in_ok-put_bytes.ensures.cause.same begun_known in
    let finish_known = still c.in_ok-at.ensures.cause.same put_known in
    let b = c.in_ok-put_bytes.ensures.body begun_known [] (c.in_ok-begin.ensures.begun known) in
    let front = front_two e _ _ _ _ c.begin.ensures.same.1 (c.begin.ensures.front known) (c.put_bytes.ensures.front begun_known) in
    let next = c.put_bytes.ensures.same.1 ∙ c.begin.ensures.same.1 in
    let there = added_after e _ _ c.args.body.now _ _ _ next short front (c.in_ok-at.ensures.added put_known _ b) in
    let before = opened h e _ s at c.args.body.now _ _ (c.requires.rest known) front
    (subst (λ (n : ℕ). ViewKeeps (IsBeforeOrAfter n (g.D.Disk.known c.put_bytes.new.disk).view.content (checkpoint c.args.body.now)) (g.D.Disk.known c.put_bytes.new.disk).view (g.D.Disk.known c.finish.new.disk).view) next (c.finish.ensures.crash put_known _ b)) in
    let inside = there.inside in
    let says = front_says c.args.header.now e _ _ (c.requires.beyond known) there.front (omega (arith, inside, c.requires.beyond known)) (c.requires.says known) in
    all_written h e _ s at c.args.body.now c.args.header.now right _ there (spare_place c.args.header.now) says _ before
    (subst (λ (n : ℕ). ViewKeeps (NamesOldOrNew c.args.header.now n (g.D.Disk.known c.finish.new.disk).view.content) (g.D.Disk.known c.finish.new.disk).view (g.D.Disk.known c.make_live.new.disk).view) (c.in_ok-at.ensures.at ∙ next) (c.make_live.ensures.crash finish_known))

pub returns-clause-crash : goal.returns-clause-crash
returns-clause-crash g c = λ known h s at right.
    let e = c.args.journal.now.next in
    let short : length c.args.body.now < 2 ^ 64 = search rules in
    let begun_known = still c.in_ok-begin.ensures.cause.same known in
    let put_known = still c.in_ok-put_bytes.ensures.cause.same begun_known in
    let finish_known = still c.in_ok-at.ensures.cause.same put_known in
    let b = c.in_ok-put_bytes.ensures.body begun_known [] (c.in_ok-begin.ensures.begun known) in
    let front = front_two e _ _ _ _ c.begin.ensures.same.1 (c.begin.ensures.front known) (c.put_bytes.ensures.front begun_known) in
    let next = c.put_bytes.ensures.same.1 ∙ c.begin.ensures.same.1 in
    let there = added_after e _ _ c.args.body.now _ _ _ next short front (c.in_ok-at.ensures.added put_known _ b) in
    let before = opened h e _ s at c.args.body.now _ _ (c.requires.rest known) front
    (subst (λ (n : ℕ). ViewKeeps (IsBeforeOrAfter n (g.D.Disk.known c.put_bytes.new.disk).view.content (checkpoint c.args.body.now)) (g.D.Disk.known c.put_bytes.new.disk).view (g.D.Disk.known c.finish.new.disk).view) next (c.finish.ensures.crash put_known _ b)) in
    let inside = there.inside in
    let says = front_says c.args.header.now e _ _ (c.requires.beyond known) there.front (omega (arith, inside, c.requires.beyond known)) (c.requires.says known) in
    all_written h e _ s at c.args.body.now c.args.header.now right _ there (spare_place c.args.header.now) says _ before
    (subst (λ (n : ℕ). ViewKeeps (NamesOldOrNew c.args.header.now n (g.D.Disk.known c.finish.new.disk).view.content) (g.D.Disk.known c.finish.new.disk).view (g.D.Disk.known c.make_live.new.disk).view) (c.in_ok-at.ensures.at ∙ next) (c.make_live.ensures.crash finish_known))

pub returns-clause-last : goal.returns-clause-last
returns-clause-last g c = λ known.
    let e = c.args.journal.now.next in
    let short : length c.args.body.now < 2 ^ 64 = search rules in
    let begun_known = still c.in_ok-begin.ensures.cause.same known in
    let put_known = still c.in_ok-put_bytes.ensures.cause.same begun_known in
    let finish_known = still c.in_ok-at.ensures.cause.same put_known in
    let b = c.in_ok-put_bytes.ensures.body begun_known [] (c.in_ok-begin.ensures.begun known) in
    let front = front_two e _ _ _ _ c.begin.ensures.same.1 (c.begin.ensures.front known) (c.put_bytes.ensures.front begun_known) in
    let next = c.put_bytes.ensures.same.1 ∙ c.begin.ensures.same.1 in
    let there = added_after e _ _ c.args.body.now _ _ _ next short front (c.in_ok-at.ensures.added put_known _ b) in
    switched_frames _ _ _ e (checkpoint c.args.body.now ∷ []) (spare_place c.args.header.now) (c.in_ok-make_live.ensures.same finish_known) (c.requires.beyond known) there.frames

pub returns-clause-ready : goal.returns-clause-ready
returns-clause-ready g c = λ known.
    let begun_known = still c.in_ok-begin.ensures.cause.same known in
    let put_known = still c.in_ok-put_bytes.ensures.cause.same begun_known in
    let finish_known = still c.in_ok-at.ensures.cause.same put_known in
    let b = c.in_ok-put_bytes.ensures.body begun_known [] (c.in_ok-begin.ensures.begun known) in
    let added = c.in_ok-at.ensures.added put_known _ b in
    let next = c.put_bytes.ensures.same.1 ∙ c.begin.ensures.same.1 in
    let durable = c.in_ok-make_live.ensures.durable (still c.in_ok-make_live.ensures.cause.same finish_known) in
    switched_rest _ _ _ c.finish.new.self.next (spare_place c.args.header.now) (c.in_ok-make_live.ensures.same finish_known) (omega (arith, added.size, next, c.requires.beyond known)) added.at_rest durable

pub returns-clause-says : goal.returns-clause-says
returns-clause-says g c = λ known.
    let begun_known = still c.in_ok-begin.ensures.cause.same known in
    let put_known = still c.in_ok-put_bytes.ensures.cause.same begun_known in
    let finish_known = still c.in_ok-at.ensures.cause.same put_known in
    c.in_ok-make_live.ensures.says finish_known

pub returns-in_err-put_bytes-clause-given_up : goal.returns-in_err-put_bytes-clause-given_up
returns-in_err-put_bytes-clause-given_up g c = λ is.
    let gave : IsErrOf c.put_bytes.result fault.TooLarge = search (rules, is) in
    let usable : c.begin.new.self.spent ≡ false = search rules in
    let same = c.begin.ensures.same in (
      c.put_bytes.ensures.given_up gave ∙ same_idle c.args.journal.now c.begin.new.self same.0 same.1 same.2 (usable ∙ sym c.requires.usable) c.requires.idle,
      λ known.
          let begun_known = still c.in_ok-begin.ensures.cause.same known in
          front_rest c.args.journal.now.next _ _ (c.requires.rest known) (front_two c.args.journal.now.next _ _ _ _ same.1 (c.begin.ensures.front known) (c.put_bytes.ensures.front begun_known)),
    )

pub returns-in_err-at-clause-given_up : goal.returns-in_err-at-clause-given_up
returns-in_err-at-clause-given_up g c = λ is.
    let gave : IsErrOf c.finish.result fault.TooLarge = search (rules, is) in
    let usable : c.put_bytes.new.journal.spent ≡ false = search rules in
    let one = c.begin.ensures.same in
    let two = c.put_bytes.ensures.same in
    let left = c.finish.ensures.given_up gave in (
      left.0 ∙ same_idle c.args.journal.now c.put_bytes.new.journal (two.0 ∙ one.0) (two.1 ∙ one.1) (two.2 ∙ one.2) (usable ∙ sym c.requires.usable) c.requires.idle,
      λ known.
          let begun_known = still c.in_ok-begin.ensures.cause.same known in
          let rest = front_rest c.args.journal.now.next _ _ (c.requires.rest known) (front_two c.args.journal.now.next _ _ _ _ one.1 (c.begin.ensures.front known) (c.put_bytes.ensures.front begun_known)) in
          subst (λ d. IsAtRest c.args.journal.now.next (g.D.Disk.known d).view) (sym left.1) rest,
    )
