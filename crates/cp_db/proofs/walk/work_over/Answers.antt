use Rattle.std.proofs.Common.{◌≡◌, ◌≤◌, ◌∙◌, ℕ, drop, take, sym, subst, Ok, Err, None}
use Rattle.std.proofs.lemmas.Result.{err_from_is_err_and}
use Rattle.cp_disk.proofs.Composing.{still, rests_then}
use Rattle.cp_journal.specs.Frames.{frames_of}
use Rattle.cp_journal.specs.declared.limits.TheConstants.{HEADER_SIZE}
use Rattle.cp_db.specs.Walk.{FindsAs, TellsPassedAs, walk_terms}
use Rattle.cp_db.specs.declared.limits.TheConstants.{TIDS_MAX}
use Rattle.cp_db.proofs.WalkingFrames.{finds, finds_broken, finds_not}
use Rattle.cp_db.proofs.OpeningItems.{passed}
use Rattle.cp_db.proofs.OpeningStores.{lists_after, stops_at_slot, version_kept, walked_first, whole_not}
use Rattle.cp_db.proofs.walk.work_over.Goals as goal

pub returns-in-Some-clause-found : goal.returns-in-Some-clause-found
returns-in-Some-clause-found g c = λ known.
    let u = (g.D.Disk.known c.args.disk.now).view in
    let header = c.in_ok-header.ensures.header known in
    whole_not u.content c.in-Some.at (stops_at_slot u.content c.in_ok-header.header header.0 header.1 c.in-Some.at (sym c.open_slot.ensures ∙ c.in-Some.is))

pub returns-in_err-walk-clause-found : goal.returns-in_err-walk-clause-found
returns-in_err-walk-clause-found g c = λ known.
    let headed = still c.in_ok-header.ensures.cause.same known in
    let listed = still c.in_ok-journal.ensures.cause.same headed in
    let terms = walk_terms g.R.TreeRep.contents g.S.TreeRep.contents g.W.Work.fits g.W.Work.done in
    let u = (g.D.Disk.known c.args.disk.now).view in
    let x = (g.D.Disk.known c.over_all.new.disk).view in
    let header = c.in_ok-header.ensures.header known in
    let lists = lists_after u (g.D.Disk.known c.header.new.disk).view (g.D.Disk.known c.open_on.new.disk).view x (c.in_ok-header.ensures.rests known) (c.in_ok-journal.ensures.rests headed) (c.in_err-walk.ensures.rests listed)
    c.in_ok-journal.journal (c.in_ok-journal.ensures.walked headed) in
    let frames = (frames_of (drop HEADER_SIZE u.content)).frames in
    let fault = c.in_err-walk.field-0.0 in
    passed (FindsAs g.W.Work.done u.content) c.from_residual-in_err-walk.result fault (err_from_is_err_and c.from_residual-in_err-walk.result c.from_residual-in_err-walk.ensures.1)
    (finds_not terms u.content c.in_ok-header.header header.0 header.1 (sym c.open_slot.ensures ∙ c.in_default.is) fault
    (subst (λ (n : ℕ). TellsPassedAs terms n HEADER_SIZE frames (Err fault)) (version_kept (take HEADER_SIZE u.content) c.in_ok-header.header _ header.1 c.version_of-version.ensures.said)
    (c.in_err-walk.ensures.passed listed frames lists)))

pub returns-in-Some-broken-clause-found : goal.returns-in-Some-broken-clause-found
returns-in-Some-broken-clause-found g c = λ known.
    let headed = still c.in_ok-header.ensures.cause.same known in
    let listed = still c.in_ok-journal.ensures.cause.same headed in
    let terms = walk_terms g.R.TreeRep.contents g.S.TreeRep.contents g.W.Work.fits g.W.Work.done in
    let u = (g.D.Disk.known c.args.disk.now).view in
    let v = (g.D.Disk.known c.header.new.disk).view in
    let w = (g.D.Disk.known c.open_on.new.disk).view in
    let x = (g.D.Disk.known c.over_all.new.disk).view in
    let uv = c.in_ok-header.ensures.rests known in
    let vw = c.in_ok-journal.ensures.rests headed in
    let wx = c.in_ok-walk.ensures.rests listed in
    let header = c.in_ok-header.ensures.header known in
    let j = c.in_ok-journal.journal in
    let walked = c.in_ok-journal.ensures.walked headed in
    let frames = (frames_of (drop HEADER_SIZE u.content)).frames in
    let same = version_kept (take HEADER_SIZE u.content) c.in_ok-header.header _ header.1 c.version_of-version.ensures.said in
    let tells = subst (λ (n : ℕ). TellsPassedAs terms n HEADER_SIZE frames (Ok c.in_ok-walk.walk)) same
    (c.in_ok-walk.ensures.passed listed frames (lists_after u v w x uv vw wx j walked)) in
    finds_broken terms u.content c.in_ok-header.header header.0 header.1 (sym c.open_slot.ensures ∙ c.in_default.is) j c.in_ok-walk.walk (walked_first u v w x uv vw wx j walked) tells
    c.in-Some-broken.at (sym c.broken.ensures ∙ c.in-Some-broken.is)

pub returns-in-Some-broken-clause-rests : goal.returns-in-Some-broken-clause-rests
returns-in-Some-broken-clause-rests g c = λ known.
    let headed = still c.in_ok-header.ensures.cause.same known in
    let listed = still c.in_ok-journal.ensures.cause.same headed in
    rests_then _ _ _ (c.in_ok-header.ensures.rests known) (rests_then _ _ _ (c.in_ok-journal.ensures.rests headed) (c.in_ok-walk.ensures.rests listed))

pub returns-clause-found : goal.returns-clause-found
returns-clause-found g c = λ known.
    let headed = still c.in_ok-header.ensures.cause.same known in
    let listed = still c.in_ok-journal.ensures.cause.same headed in
    let terms = walk_terms g.R.TreeRep.contents g.S.TreeRep.contents g.W.Work.fits g.W.Work.done in
    let u = (g.D.Disk.known c.args.disk.now).view in
    let v = (g.D.Disk.known c.header.new.disk).view in
    let w = (g.D.Disk.known c.open_on.new.disk).view in
    let x = (g.D.Disk.known c.over_all.new.disk).view in
    let uv = c.in_ok-header.ensures.rests known in
    let vw = c.in_ok-journal.ensures.rests headed in
    let wx = c.in_ok-walk.ensures.rests listed in
    let header = c.in_ok-header.ensures.header known in
    let j = c.in_ok-journal.journal in
    let walked = c.in_ok-journal.ensures.walked headed in
    let frames = (frames_of (drop HEADER_SIZE u.content)).frames in
    let same = version_kept (take HEADER_SIZE u.content) c.in_ok-header.header _ header.1 c.version_of-version.ensures.said in
    let whole : j.broken ≡ None = sym c.broken.ensures ∙ c.in_default-broken.is in
    let tells = subst (λ (n : ℕ). TellsPassedAs terms n HEADER_SIZE frames (Ok c.in_ok-walk.walk)) same
    (c.in_ok-walk.ensures.passed listed frames (lists_after u v w x uv vw wx j walked)) in
    subst (λ found. FindsAs g.W.Work.done u.content (Ok found)) (sym c.into_work.ensures)
    (finds terms u.content c.in_ok-header.header header.0 header.1 (sym c.open_slot.ensures ∙ c.in_default.is) j c.in_ok-walk.walk (walked_first u v w x uv vw wx j walked) tells whole)

pub returns-clause-fits : goal.returns-clause-fits
returns-clause-fits g c =
    let w = c.in_ok-walk.walk in
    let r = c.in_ok-walk.ensures.reached.1 in (
      w.kind,
      w.last,
      g.R.TreeRep.contents w.tree,
      subst (λ (n : ℕ). n ≤ TIDS_MAX) (sym r.taken.keeps.upto) r.taken.keeps.few,
      subst (λ found. g.W.Work.fits found w.kind w.last (g.R.TreeRep.contents w.tree)) (sym c.into_work.ensures) r.fits,
    )

pub returns-clause-rests : goal.returns-clause-rests
returns-clause-rests g c = λ known.
    let headed = still c.in_ok-header.ensures.cause.same known in
    let listed = still c.in_ok-journal.ensures.cause.same headed in
    rests_then _ _ _ (c.in_ok-header.ensures.rests known) (rests_then _ _ _ (c.in_ok-journal.ensures.rests headed) (c.in_ok-walk.ensures.rests listed))
