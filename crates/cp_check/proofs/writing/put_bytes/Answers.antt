use Rattle.std.specs.Prelude.{IsErrOf}
use Rattle.std.proofs.Common.{rules, arith, ◌∙◌, sym, ℕ, List, subst}
use Rattle.cp_disk.proofs.Composing.{still}
use Rattle.cp_journal.specs.Begun.{ViewKeepsFront, HasBegun}
use Rattle.cp_journal.proofs.Fronts.{front_then}
use Rattle.cp_disk.specs.declared.limits.TheConstants.{DISK_MAX}
use Rattle.cp_journal.specs.declared.fault.JournalFault.TheVariants as fault
use Rattle.cp_check.proofs.Writes.{more_bytes, pieces_joined, same_given_up, too_many}
use Rattle.cp_check.proofs.writing.put_bytes.Goals as goal

pub loop-done-preserved : goal.loop-done-preserved
loop-done-preserved g c =
    let count = c.min-count.ensures in
    let t = c.loop-done-test.true in
    record {
      within = omega (arith, count, t);
      usable = search rules;
      len = λ n is. more_bytes n c.loop-done.done c.min-count.result c.args.bytes.now _ (omega (arith, count, t)) (c.in_ok-piece.ensures.len _ (c.loop-done.invariant.len n is));
      frames = c.piece.ensures.same.0 ∙ c.loop-done.invariant.frames;
      next = c.piece.ensures.same.1 ∙ c.loop-done.invariant.next;
      broken = c.piece.ensures.same.2 ∙ c.loop-done.invariant.broken;
      same = c.in_ok-piece.ensures.cause.same ∙ c.loop-done.invariant.same;
      faults = search rules;
      reads = c.piece.ensures.reads ∙ c.loop-done.invariant.reads;
      front = λ known.
          let now_known = still c.loop-done.invariant.same known in
          front_then c.args.journal.now.next _ _ _ (c.loop-done.invariant.front known)
          (subst (λ (n : ℕ). ViewKeepsFront n (g.D.Disk.known c.loop-done.disk).view (g.D.Disk.known c.piece.new.disk).view) c.loop-done.invariant.next (c.piece.ensures.front now_known));
      body = λ known body b.
          let now_known = still c.loop-done.invariant.same known in
          let more = c.in_ok-piece.ensures.body now_known _ (c.loop-done.invariant.body known body b) in
          subst (λ (l : List ℕ). HasBegun c.piece.new.self l (g.D.Disk.known c.piece.new.disk).view) (pieces_joined body c.args.bytes.now c.loop-done.done c.min-count.result) more;
    }

pub piece-requires-clause-body : goal.piece-requires-clause-body
piece-requires-clause-body g c = λ now_known.
    let known = still (sym c.loop-done.invariant.same) now_known in
    let b = c.requires.body known in
    (_, c.loop-done.invariant.body known b.0 b.1)

pub returns-in_err-piece-clause-front : goal.returns-in_err-piece-clause-front
returns-in_err-piece-clause-front g c = λ known.
    front_then c.args.journal.now.next _ _ _ (c.loop-done.invariant.front known)
    (subst (λ (n : ℕ). ViewKeepsFront n (g.D.Disk.known c.loop-done.disk).view (g.D.Disk.known c.piece.new.disk).view) c.loop-done.invariant.next (c.piece.ensures.front (still c.loop-done.invariant.same known)))

pub returns-in_err-piece-clause-too_large : goal.returns-in_err-piece-clause-too_large
returns-in_err-piece-clause-too_large g c = λ is.
    let gave : IsErrOf c.piece.result fault.TooLarge = search (rules, is) in
    let count = c.min-count.ensures in
    let t = c.loop-done-test.true in
    let first = c.requires.begun in
    too_many DISK_MAX _ _ first.0 c.loop-done.done c.min-count.result _ _ c.args.bytes.now c.loop-done.invariant.next first.1 (c.loop-done.invariant.len first.0 first.1) (omega (arith, count, t))
    (c.piece.ensures.too_large.0 gave)

pub returns-in_err-piece-clause-given_up : goal.returns-in_err-piece-clause-given_up
returns-in_err-piece-clause-given_up g c = λ is.
    let gave : IsErrOf c.piece.result fault.TooLarge = search (rules, is) in
    (c.piece.ensures.given_up gave).0
    ∙ same_given_up c.args.journal.now c.loop-done.journal c.loop-done.invariant.frames c.loop-done.invariant.next c.loop-done.invariant.broken (c.loop-done.invariant.usable ∙ sym c.requires.usable)
