use Rattle.std.proofs.Common.{◌≡◌, ◌+◌, [], ap, sym, ◌∙◌, subst, false, true, length, List, ℕ, refl, arith}
use Rattle.cp_model.specs.History.{after_commit}
use Rattle.cp_format.specs.Formats.{Reads}
use Rattle.cp_frame.specs.Entries.{entry_format}
use Rattle.cp_journal.specs.declared.limits.TheConstants.{FRAME_HEAD}
use Rattle.cp_frame.specs.Sizes.{has_room}
use Rattle.cp_db.specs.Databases.{end_in}
use Rattle.cp_db.specs.Committed.{HasKept}
use Rattle.cp_db.specs.Writing.{commit_size}
use Rattle.cp_db.proofs.WritingFrames.{crash-none, crash-added, kept-added}
use Rattle.cp_db.proofs.WritingStanding.{holds-appended, rows-appended}
use Rattle.cp_db.proofs.WritingCommits.{keeps-stepped, kept-tids, records-next, rows-stepped, step-few, step-leads, step-next, step-size, step-sound}
use Rattle.cp_db.proofs.database.Db.add_step.Goals as goal

pub entry_bytes-requires : goal.entry_bytes-requires
entry_bytes-requires g c =
    let s = c.requires.stands.0 in
    let z = c.requires.stands.1 in
    let made = c.requires.made.1 s z in
    step-sound g.R.TreeRep.contents s c.requires.made.0 c.args.step z.committed.sound made.0 made.1 c.args.stamp

pub returns-in_default-clause-crash : goal.returns-in_default-clause-crash
returns-in_default-clause-crash g c = λ known ops made h z k. crash-none c.args.self.now h _ k _

pub returns-then-not-has_room-clause-committed : goal.returns-then-not-has_room-clause-committed
returns-then-not-has_room-clause-committed g c = λ ops made s z.
    let is = made s z in
    let size = step-size g.R.TreeRep.contents s c.args.stamp ops c.args.step is.0 is.1 c.in-Ok.body.items c.in-Ok.ensures.0 c.in-Ok.ensures.1 c.in-Ok.ensures.2 in
    let counted : c.len.result ≡ commit_size s c.args.stamp ops = omega (arith, c.len.ensures, c.in-Ok.body.ok, size) in
    (ap (has_room (end_in c.args.self.now)) (sym counted) ∙ sym c.has_room.ensures ∙ c.if-not-has_room.true, refl)

pub returns-then-not-has_room-clause-crash : goal.returns-then-not-has_room-clause-crash
returns-then-not-has_room-clause-crash g c = λ known ops made h z k. crash-none c.args.self.now h _ k _

pub keep_records-kept-requires-clause-few : goal.keep_records-kept-requires-clause-few
keep_records-kept-requires-clause-few g c =
    let s = c.requires.stands.0 in
    let z = c.requires.stands.1 in
    let made = c.requires.made.1 s z in
    step-few g.R.TreeRep.contents s c.args.stamp c.requires.made.0 c.args.step made.0 made.1 g.S.TreeRep.contents c.args.self.now.committed z.committed

pub keep_records-kept-requires-clause-next : goal.keep_records-kept-requires-clause-next
keep_records-kept-requires-clause-next g c =
    let s = c.requires.stands.0 in
    let z = c.requires.stands.1 in
    let made = c.requires.made.1 s z in
    rw (c.stamped_records.ensures c.args.stamp c.args.step.ops c.args.step.rows refl)
    (records-next g.R.TreeRep.contents s c.args.stamp c.requires.made.0 c.args.step made.0 made.1 g.S.TreeRep.contents c.args.self.now.committed z.committed)

pub returns-in_err-kept-clause-crash : goal.returns-in_err-kept-clause-crash
returns-in_err-kept-clause-crash g c = λ known ops made h z k. crash-none c.args.self.now h _ k _

pub returns-in_err-append-clause-crash : goal.returns-in_err-append-clause-crash
returns-in_err-append-clause-crash g c = λ known ops made h z k.
    let is = made z.state z.holds in
    let body = c.deref.result.now in
    let read : Reads entry_format body c.in-Ok.ensures.0 [] = subst (λ (b : List ℕ). Reads entry_format b c.in-Ok.ensures.0 []) (sym c.deref.ensures.value) c.in-Ok.ensures.2 in
    let next = step-next g.R.TreeRep.contents z.state c.args.stamp ops c.args.step is.0 is.1 h body c.in-Ok.ensures.0 z.led c.in-Ok.ensures.1 read in
    crash-added 2 h _ body next c.args.self.now _ _ c.requires.version k (c.append.ensures.crash known)

pub returns-clause-committed : goal.returns-clause-committed
returns-clause-committed g c = λ ops made s z.
    let view = g.R.TreeRep.contents in
    let source_view = g.S.TreeRep.contents in
    let is = made s z in
    let size = step-size view s c.args.stamp ops c.args.step is.0 is.1 c.in-Ok.body.items c.in-Ok.ensures.0 c.in-Ok.ensures.1 c.in-Ok.ensures.2 in
    let counted : c.len.result ≡ commit_size s c.args.stamp ops = omega (arith, c.len.ensures, c.in-Ok.body.ok, size) in
    let kept : HasKept c.args.self.now.committed c.keep_records-kept.new.self c.args.step.tids c.args.step.rows =
    subst (HasKept c.args.self.now.committed c.keep_records-kept.new.self c.args.step.tids) (c.stamped_records.ensures c.args.stamp c.args.step.ops c.args.step.rows refl) c.in_ok-kept.ensures.kept in
    let same = ap (λ d. d.committed) c.append.ensures.same in (
      ap (has_room (end_in c.args.self.now)) (sym counted) ∙ sym c.has_room.ensures ∙ c.if-not-has_room.false,
      (
        omega (arith, c.upto-low.ensures, z.committed.upto),
        c.upto.ensures ∙ kept-tids view s c.args.stamp ops c.args.step is.0 is.1 source_view c.args.self.now.committed z.committed c.keep_records-kept.new.self c.append.new.self.committed kept (ap (λ d. d.store) same),
      ),
      record {
        holds = holds-appended view source_view c.append.new.self _ (after_commit s ops) same c.append.ensures.whole c.in_ok-append.ensures.usable c.append.ensures.idle
            (keeps-stepped view s c.args.stamp ops c.args.step is.0 is.1 source_view c.args.self.now.committed z.committed c.keep_records-kept.new.self _ kept refl refl refl refl);
        rows = λ has. rows-appended view source_view c.append.new.self _ (after_commit s ops) same
            (rows-stepped view s c.args.stamp ops c.args.step is.0 is.1 source_view c.args.self.now.committed z.committed c.keep_records-kept.new.self (record c.keep_records-kept.new.self { tree = c.args.step.tree }) kept refl has);
        leads = step-leads view s c.args.stamp ops c.args.step is.0 is.1;
        end = c.in_ok-append.ensures.end ∙ ap (λ (n : ℕ). end_in c.args.self.now + FRAME_HEAD + n) (ap length c.deref.ensures.value ∙ size);
      },
    )

pub returns-clause-kept : goal.returns-clause-kept
returns-clause-kept g c = λ known ops made h z k.
    let is = made z.state z.holds in
    let body = c.deref.result.now in
    let read : Reads entry_format body c.in-Ok.ensures.0 [] = subst (λ (b : List ℕ). Reads entry_format b c.in-Ok.ensures.0 []) (sym c.deref.ensures.value) c.in-Ok.ensures.2 in
    let next = step-next g.R.TreeRep.contents z.state c.args.stamp ops c.args.step is.0 is.1 h body c.in-Ok.ensures.0 z.led c.in-Ok.ensures.1 read in
    kept-added 2 h _ body next c.args.self.now _ _ c.requires.version k c.append.new.self (ap (λ d. d.version) c.append.ensures.same) (c.in_ok-append.ensures.described known)

pub returns-clause-crash : goal.returns-clause-crash
returns-clause-crash g c = λ known ops made h z k.
    let is = made z.state z.holds in
    let body = c.deref.result.now in
    let read : Reads entry_format body c.in-Ok.ensures.0 [] = subst (λ (b : List ℕ). Reads entry_format b c.in-Ok.ensures.0 []) (sym c.deref.ensures.value) c.in-Ok.ensures.2 in
    let next = step-next g.R.TreeRep.contents z.state c.args.stamp ops c.args.step is.0 is.1 h body c.in-Ok.ensures.0 z.led c.in-Ok.ensures.1 read in
    crash-added 2 h _ body next c.args.self.now _ _ c.requires.version k (c.append.ensures.crash known)

pub returns-in_err-append-clause-room : goal.returns-in_err-append-clause-room
returns-in_err-append-clause-room g c = λ ops made s z full.
    let is = made s z in
    let size = step-size g.R.TreeRep.contents s c.args.stamp ops c.args.step is.0 is.1 c.in-Ok.body.items c.in-Ok.ensures.0 c.in-Ok.ensures.1 c.in-Ok.ensures.2 in
    let counted : c.len.result ≡ commit_size s c.args.stamp ops = omega (arith, c.len.ensures, c.in-Ok.body.ok, size) in
    let none : true ≡ false = sym (ap (has_room (end_in c.args.self.now)) (sym counted) ∙ sym c.has_room.ensures ∙ c.if-not-has_room.false) ∙ full in
    absurd (cc none)

pub returns-clause-room : goal.returns-clause-room
returns-clause-room g c = λ ops made s z full.
    let is = made s z in
    let size = step-size g.R.TreeRep.contents s c.args.stamp ops c.args.step is.0 is.1 c.in-Ok.body.items c.in-Ok.ensures.0 c.in-Ok.ensures.1 c.in-Ok.ensures.2 in
    let counted : c.len.result ≡ commit_size s c.args.stamp ops = omega (arith, c.len.ensures, c.in-Ok.body.ok, size) in
    let none : true ≡ false = sym (ap (has_room (end_in c.args.self.now)) (sym counted) ∙ sym c.has_room.ensures ∙ c.if-not-has_room.false) ∙ full in
    absurd (cc none)
