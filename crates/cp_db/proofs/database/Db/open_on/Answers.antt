use Rattle.std.proofs.Common.{◌≡◌, ◌∙◌, ℕ, drop, take, ap, sym, subst, Ok, Err, None}
use Rattle.std.proofs.lemmas.Result.{err_from_is_err_and}
use Rattle.cp_disk.proofs.Composing.{still, rests_then}
use Rattle.cp_journal.specs.Frames.{frames_of}
use Rattle.cp_journal.specs.declared.limits.TheConstants.{HEADER_SIZE}
use Rattle.cp_db.specs.Opening.{OpensAs}
use Rattle.cp_db.specs.Walk.{RowsDone, RowsFit, TellsPassedAs, begun_at, walk_terms}
use Rattle.cp_db.proofs.OpeningItems.{passed}
use Rattle.cp_db.proofs.OpeningStores.{described_last, has_opened, is_ready, lists_after, opens_not, stops_at_slot, version_kept, walked_first}
use Rattle.cp_db.proofs.FileVersions.{version-opened}
use Rattle.cp_db.proofs.WalkingFrames.{held_all, opens_broken, opens_stopped}
use Rattle.cp_db.proofs.database.Db.open_on.Goals as goal

pub returns-in-Some-clause-opened : goal.returns-in-Some-clause-opened
returns-in-Some-clause-opened g c = λ known.
    let u = (g.D.Disk.known c.args.disk.now).view in
    let header = c.in_ok-header.ensures.header known in
    opens_not u.content c.in-Some.at (stops_at_slot u.content c.in_ok-header.header header.0 header.1 c.in-Some.at (sym c.open_slot.ensures ∙ c.in-Some.is))

pub returns-in_err-walk-clause-opened : goal.returns-in_err-walk-clause-opened
returns-in_err-walk-clause-opened g c = λ known.
    let headed = still c.in_ok-header.ensures.cause.same known in
    let listed = still c.in_ok-journal.ensures.cause.same headed in
    let view = g.R.TreeRep.contents in
    let source_view = g.S.TreeRep.contents in
    let u = (g.D.Disk.known c.args.disk.now).view in
    let x = (g.D.Disk.known c.over_all.new.disk).view in
    let header = c.in_ok-header.ensures.header known in
    let lists = lists_after u (g.D.Disk.known c.header.new.disk).view (g.D.Disk.known c.open_on.new.disk).view x (c.in_ok-header.ensures.rests known) (c.in_ok-journal.ensures.rests headed) (c.in_err-walk.ensures.rests listed)
    c.in_ok-journal.journal (c.in_ok-journal.ensures.walked headed) in
    let frames = (frames_of (drop HEADER_SIZE u.content)).frames in
    let fault = c.in_err-walk.field-0.0 in
    passed (OpensAs view source_view u.content x) c.from_residual-in_err-walk.result fault (err_from_is_err_and c.from_residual-in_err-walk.result c.from_residual-in_err-walk.ensures.1)
    (opens_stopped (walk_terms view source_view RowsFit RowsDone) u.content c.in_ok-header.header header.0 header.1 (sym c.open_slot.ensures ∙ c.in_default.is) x fault
    (subst (λ (n : ℕ). TellsPassedAs (walk_terms view source_view RowsFit RowsDone) n HEADER_SIZE frames (Err fault)) (version_kept (take HEADER_SIZE u.content) c.in_ok-header.header _ header.1 c.version_of-version.ensures.said)
    (c.in_err-walk.ensures.passed listed frames lists)))

pub returns-in-Some-broken-clause-opened : goal.returns-in-Some-broken-clause-opened
returns-in-Some-broken-clause-opened g c = λ known.
    let headed = still c.in_ok-header.ensures.cause.same known in
    let listed = still c.in_ok-journal.ensures.cause.same headed in
    let view = g.R.TreeRep.contents in
    let source_view = g.S.TreeRep.contents in
    let u = (g.D.Disk.known c.args.disk.now).view in
    let v = (g.D.Disk.known c.header.new.disk).view in
    let w = (g.D.Disk.known c.open_on.new.disk).view in
    let x = (g.D.Disk.known c.over_all.new.disk).view in
    let uv = c.in_ok-header.ensures.rests known in
    let vw = c.in_ok-journal.ensures.rests headed in
    let wx = c.in_ok-walk.ensures.rests listed in
    let header = c.in_ok-header.ensures.header known in
    let j = c.in_ok-journal.journal in
    let walked = c.in_ok-journal.ensures.walked headed in
    let frames = (frames_of (drop HEADER_SIZE u.content)).frames in
    let same = version_kept (take HEADER_SIZE u.content) c.in_ok-header.header _ header.1 c.version_of-version.ensures.said in
    let tells = subst (λ (n : ℕ). TellsPassedAs (walk_terms view source_view RowsFit RowsDone) n HEADER_SIZE frames (Ok c.in_ok-walk.walk)) same
    (c.in_ok-walk.ensures.passed listed frames (lists_after u v w x uv vw wx j walked)) in
    opens_broken (walk_terms view source_view RowsFit RowsDone) u.content c.in_ok-header.header header.0 header.1 (sym c.open_slot.ensures ∙ c.in_default.is) j c.in_ok-walk.walk (walked_first u v w x uv vw wx j walked) tells
    c.in-Some-broken.at (sym c.broken.ensures ∙ c.in-Some-broken.is)

pub returns-in-Some-broken-clause-rests : goal.returns-in-Some-broken-clause-rests
returns-in-Some-broken-clause-rests g c = λ known.
    let headed = still c.in_ok-header.ensures.cause.same known in
    let listed = still c.in_ok-journal.ensures.cause.same headed in
    rests_then _ _ _ (c.in_ok-header.ensures.rests known) (rests_then _ _ _ (c.in_ok-journal.ensures.rests headed) (c.in_ok-walk.ensures.rests listed))

pub returns-clause-opened : goal.returns-clause-opened
returns-clause-opened g c = λ known.
    let headed = still c.in_ok-header.ensures.cause.same known in
    let listed = still c.in_ok-journal.ensures.cause.same headed in
    let view = g.R.TreeRep.contents in
    let source_view = g.S.TreeRep.contents in
    let u = (g.D.Disk.known c.args.disk.now).view in
    let v = (g.D.Disk.known c.header.new.disk).view in
    let w = (g.D.Disk.known c.open_on.new.disk).view in
    let x = (g.D.Disk.known c.over_all.new.disk).view in
    let uv = c.in_ok-header.ensures.rests known in
    let vw = c.in_ok-journal.ensures.rests headed in
    let wx = c.in_ok-walk.ensures.rests listed in
    let header = c.in_ok-header.ensures.header known in
    let j = c.in_ok-journal.journal in
    let walked = c.in_ok-journal.ensures.walked headed in
    let frames = (frames_of (drop HEADER_SIZE u.content)).frames in
    let same = version_kept (take HEADER_SIZE u.content) c.in_ok-header.header _ header.1 c.version_of-version.ensures.said in
    let whole : j.broken ≡ None = sym c.broken.ensures ∙ c.in_default-broken.is in
    let described = described_last u v w x uv vw wx j walked (c.in_ok-journal.ensures.described headed (c.in_ok-header.ensures.durable headed) whole) in
    let tells = subst (λ (n : ℕ). TellsPassedAs (walk_terms view source_view RowsFit RowsDone) n HEADER_SIZE frames (Ok c.in_ok-walk.walk)) same
    (c.in_ok-walk.ensures.passed listed frames (lists_after u v w x uv vw wx j walked)) in
    let come = tells.1 in
    let held = held_all (walk_terms view source_view RowsFit RowsDone) u.content c.in_ok-header.header c.in_ok-walk.walk tells in
    has_opened view source_view u.content c.in_ok-header.header header.0 header.1 _ x same (sym c.open_slot.ensures ∙ c.in_default.is) whole c.in_ok-journal.ensures.usable c.in_ok-journal.ensures.idle
    (walked_first u v w x uv vw wx j walked) described tells.0 come.items held (c.into_committed.ensures.taken (begun_at None HEADER_SIZE frames) come.items come.passed)

pub returns-clause-ready : goal.returns-clause-ready
returns-clause-ready g c = λ now.
    let known = still (sym c.in_ok-header.ensures.cause.same) (still (sym c.in_ok-journal.ensures.cause.same) (still (sym c.in_ok-walk.ensures.cause.same) now)) in
    let headed = still c.in_ok-header.ensures.cause.same known in
    let listed = still c.in_ok-journal.ensures.cause.same headed in
    let u = (g.D.Disk.known c.args.disk.now).view in
    let j = c.in_ok-journal.journal in
    let whole : j.broken ≡ None = sym c.broken.ensures ∙ c.in_default-broken.is in
    let described = described_last u (g.D.Disk.known c.header.new.disk).view (g.D.Disk.known c.open_on.new.disk).view (g.D.Disk.known c.over_all.new.disk).view (c.in_ok-header.ensures.rests known) (c.in_ok-journal.ensures.rests headed)
    (c.in_ok-walk.ensures.rests listed) j (c.in_ok-journal.ensures.walked headed) (c.in_ok-journal.ensures.described headed (c.in_ok-header.ensures.durable headed) whole) in
    is_ready u.content (c.in_ok-header.ensures.header known).0 j _ (g.D.Disk.known c.over_all.new.disk).view described

pub returns-clause-rests : goal.returns-clause-rests
returns-clause-rests g c = λ known.
    let headed = still c.in_ok-header.ensures.cause.same known in
    let listed = still c.in_ok-journal.ensures.cause.same headed in
    rests_then _ _ _ (c.in_ok-header.ensures.rests known) (rests_then _ _ _ (c.in_ok-journal.ensures.rests headed) (c.in_ok-walk.ensures.rests listed))

pub returns-clause-stands : goal.returns-clause-stands
returns-clause-stands g c =
    let t = c.in_ok-walk.ensures.reached in
    (t.1.taken.state, record { committed = c.into_committed.ensures.keeps _ t.0 t.1; whole = sym c.broken.ensures ∙ c.in_default-broken.is; usable = c.in_ok-journal.ensures.usable; idle = c.in_ok-journal.ensures.idle })

pub returns-clause-gate : goal.returns-clause-gate
returns-clause-gate g c = λ now.
    let known = still (sym c.in_ok-header.ensures.cause.same) (still (sym c.in_ok-journal.ensures.cause.same) (still (sym c.in_ok-walk.ensures.cause.same) now)) in
    let headed = still c.in_ok-header.ensures.cause.same known in
    let listed = still c.in_ok-journal.ensures.cause.same headed in
    let u = (g.D.Disk.known c.args.disk.now).view in
    let header = c.in_ok-header.ensures.header known in
    let same = version_kept (take HEADER_SIZE u.content) c.in_ok-header.header _ header.1 c.version_of-version.ensures.said in
    version-opened u _ _ _ c.version_of-version.result (sym (same ∙ ap (λ h. h.version) header.1)) (c.in_ok-header.ensures.rests known) (c.in_ok-header.ensures.durable headed) (c.in_ok-journal.ensures.rests headed) (c.in_ok-walk.ensures.rests listed)
