use Rattle.std.proofs.Common.{◌≡◌, ◌∙◌, ◌<◌, ◌≤◌, List, ◌∷◌, ℕ, length, sym, ap, subst, arith, refl, Ok}
use Rattle.std.proofs.lemmas.Result.{err_from_is_err_and}
use Rattle.cp_disk.proofs.Composing.{still, rests_then}
use Rattle.cp_journal.specs.Journals.{Lists}
use Rattle.cp_db.specs.Walk.{GoesOnAs, HasCome, walk_terms}
use Rattle.cp_db.proofs.OpeningFrames.{listed_frame, listed_length}
use Rattle.cp_db.proofs.OpeningItems.{passed}
use Rattle.cp_db.proofs.WalkingFrames.{come_on, come_stops}
use Rattle.cp_db.proofs.walk.HistoryWalk.go_on.Goals as goal

pub add_frame-requires-clause-reached : goal.add_frame-requires-clause-reached
add_frame-requires-clause-reached g c =
    let t = c.requires.reached in
    let now = c.loop-n.invariant.reached t.0 t.1 t.2 in
    (t.0, now.0, now.1)

pub returns-in_err-add_frame-clause-passed : goal.returns-in_err-add_frame-clause-passed
returns-in_err-add_frame-clause-passed g c = λ known first from fs lists came.
    let terms = walk_terms g.R.TreeRep.contents g.S.TreeRep.contents g.W.Work.fits g.W.Work.done in
    let come = c.loop-n.invariant.come known first from fs lists came in
    let now : Lists from fs c.args.journal.now (g.D.Disk.known c.loop-n.disk).view.content =
    subst (λ (b : List ℕ). Lists from fs c.args.journal.now b) (sym (c.loop-n.invariant.rests known).content) lists in
    let lt : c.loop-n.n < length c.args.journal.now.frames = omega arith in
    let f = listed_frame from fs c.args.journal.now _ lists c.loop-n.n lt in
    let fault = c.in_err-add_frame.field-0.0 in
    passed (GoesOnAs terms first c.args.version from fs c.add_frame.new.self) c.from_residual.result fault (err_from_is_err_and c.from_residual.result c.from_residual.ensures.1)
    (come_stops terms first c.args.version from fs c.loop-n.n f.0 c.loop-n.self c.add_frame.new.self come f.1 fault
    (c.in_err-add_frame.ensures.added (still c.loop-n.invariant.same known) from fs f.0 first come.items now f.1 come.counted come.passed))

pub returns-in_err-add_frame-clause-rests : goal.returns-in_err-add_frame-clause-rests
returns-in_err-add_frame-clause-rests g c = λ known. rests_then _ _ _ (c.loop-n.invariant.rests known) (c.in_err-add_frame.ensures.rests (still c.loop-n.invariant.same known))

pub loop-n-preserved : goal.loop-n-preserved
loop-n-preserved g c = record {
  within = omega arith;
  come = λ known first from fs lists came.
      let come = c.loop-n.invariant.come known first from fs lists came in
      let now : Lists from fs c.args.journal.now (g.D.Disk.known c.loop-n.disk).view.content =
      subst (λ (b : List ℕ). Lists from fs c.args.journal.now b) (sym (c.loop-n.invariant.rests known).content) lists in
      let lt : c.loop-n.n < length c.args.journal.now.frames = omega arith in
      let f = listed_frame from fs c.args.journal.now _ lists c.loop-n.n lt in
      come_on (walk_terms g.R.TreeRep.contents g.S.TreeRep.contents g.W.Work.fits g.W.Work.done) first c.args.version from fs c.loop-n.n f.0 c.loop-n.self c.add_frame.new.self come f.1
      (c.in_ok-add_frame.ensures.added (still c.loop-n.invariant.same known) from fs f.0 first come.items now f.1 come.counted come.passed);
  reached = λ first items t.
      let before = c.loop-n.invariant.reached first items t in
      c.in_ok-add_frame.ensures.reached first before.0 before.1;
  rests = λ known. rests_then _ _ _ (c.loop-n.invariant.rests known) (c.in_ok-add_frame.ensures.rests (still c.loop-n.invariant.same known));
  same = c.in_ok-add_frame.ensures.cause.same ∙ c.loop-n.invariant.same;
  steady = c.in_ok-add_frame.ensures.cause.account.steady ∙ c.loop-n.invariant.steady;
}

pub returns-clause-passed : goal.returns-clause-passed
returns-clause-passed g c = λ known first from fs lists came.
    let all : c.loop-n.n ≡ length fs = omega (arith, listed_length from fs c.args.journal.now _ lists) in
    subst (λ (n : ℕ). HasCome (walk_terms g.R.TreeRep.contents g.S.TreeRep.contents g.W.Work.fits g.W.Work.done) first c.args.version from fs n c.loop-n.self) all (c.loop-n.invariant.come known first from fs lists came)
