use Rattle.std.proofs.Common.{◌≡◌, ◌∙◌, true, false, fold, length, subst, refl}
use Rattle.std.proofs.lemmas.Result.{err_from_is_err_and}
use Rattle.cp_journal.specs.Frames.{Frame}
use Rattle.cp_journal.specs.declared.frame.TheConstants.{ENTRY}
use Rattle.cp_frame.specs.Items.{after_item}
use Rattle.cp_db.specs.Walk.{CanReach, PassesFrameAs, walk_terms}
use Rattle.cp_db.proofs.OpeningItems.{other_version_here, passed, refused_here, unspelled_here}
use Rattle.cp_db.proofs.WalkingFrames.{passed_here}
use Rattle.cp_db.proofs.walk.HistoryWalk.add_entry.Goals as goal

pub returns-in_err-entry-clause-added : goal.returns-in_err-entry-clause-added
returns-in_err-entry-clause-added g c = λ f begun items tag same t at.
    passed (PassesFrameAs (walk_terms g.R.TreeRep.contents g.S.TreeRep.contents g.W.Work.fits g.W.Work.done) begun c.args.version f items c.args.self.now) c.from_residual.result c.in_err-entry.field-0.0
    (err_from_is_err_and c.from_residual.result c.from_residual.ensures.1)
    (unspelled_here c.args.version f (fold after_item begun.first items) tag (begun.place (length items)) c.in_err-entry.field-0.0 (c.in_err-entry.ensures.spells f same) (λ n is. c.in_err-entry.ensures.at n is ∙ at))

pub returns-then-not-is_of_version-clause-added : goal.returns-then-not-is_of_version-clause-added
returns-then-not-is_of_version-clause-added g c = λ f begun items tag same t at.
    let s = c.in_ok-entry.ensures.spells f same in (
      other_version_here c.args.version f (fold after_item begun.first items) tag s.0 s.2 (λ allowed. let no : false ≡ true = (c.if-not-is_of_version.ensures s.0 s.1).1 allowed in absurd (cc no)),
      at,
    )

pub returns-then-not-branch-clause-added : goal.returns-then-not-branch-clause-added
returns-then-not-branch-clause-added g c = λ f begun items tag same t at.
    let s = c.in_ok-entry.ensures.spells f same in (
      refused_here c.args.version f (fold after_item begun.first items) tag s.0 s.2
          (subst (CanReach g.R.TreeRep.contents g.S.TreeRep.contents g.W.Work.fits begun.first items s.0 c.add.new.self) c.if-not-branch.true (c.in_ok-add.ensures.reached begun.first items s.0 t.reached s.1)),
      at,
    )

pub returns-clause-added : goal.returns-clause-added
returns-clause-added g c = λ f begun items tag same t at.
    let s = c.in_ok-entry.ensures.spells f same in
    passed_here (walk_terms g.R.TreeRep.contents g.S.TreeRep.contents g.W.Work.fits g.W.Work.done) begun c.args.version f items c.add.new.self s.0 tag s.2 ((c.if-not-is_of_version.ensures s.0 s.1).0 refl)
    (subst (CanReach g.R.TreeRep.contents g.S.TreeRep.contents g.W.Work.fits begun.first items s.0 c.add.new.self) c.if-not-branch.false (c.in_ok-add.ensures.reached begun.first items s.0 t.reached s.1))
    (c.in_ok-add.ensures.found begun items s.0 t at s.1 c.if-not-branch.false)

pub returns-clause-reached : goal.returns-clause-reached
returns-clause-reached g c = λ first items t.
    let f : Frame = record { tag = ENTRY; body = c.args.body.now } in
    let s = c.in_ok-entry.ensures.spells f refl in
    (_, subst (CanReach g.R.TreeRep.contents g.S.TreeRep.contents g.W.Work.fits first items s.0 c.add.new.self) c.if-not-branch.false (c.in_ok-add.ensures.reached first items s.0 t s.1))
