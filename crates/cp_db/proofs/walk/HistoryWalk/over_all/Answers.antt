use Rattle.std.proofs.Common.{◌≡◌, ◌∙◌, ◌≤◌, List, ℕ, length, sym, subst, arith}
use Rattle.std.proofs.lemmas.Result.{err_from_is_err_and}
use Rattle.cp_disk.proofs.Composing.{still}
use Rattle.cp_journal.specs.Journals.{Lists}
use Rattle.cp_db.specs.Walk.{TellsPassedAs, walk_terms}
use Rattle.cp_db.proofs.OpeningFrames.{listed_length}
use Rattle.cp_db.proofs.OpeningItems.{passed}
use Rattle.cp_db.proofs.WalkingFrames.{come_first, first_stops, tells_on}
use Rattle.cp_db.proofs.walk.HistoryWalk.over_all.Goals as goal

pub returns-in_err-start-clause-passed : goal.returns-in_err-start-clause-passed
returns-in_err-start-clause-passed g c = λ known fs lists.
    let terms = walk_terms g.R.TreeRep.contents g.S.TreeRep.contents g.W.Work.fits g.W.Work.done in
    let fault = c.in_err-start.field-0.0 in
    passed (TellsPassedAs terms c.args.version c.args.from fs) c.from_residual.result fault (err_from_is_err_and c.from_residual.result c.from_residual.ensures.1)
    (first_stops terms c.args.version c.args.from fs fault (c.in_err-start.ensures.started known c.args.version fs lists))

pub go_on-requires-clause-reached : goal.go_on-requires-clause-reached
go_on-requires-clause-reached g c =
    let t = c.in_ok-start.ensures.tree in
    (_, _, c.in_ok-walk.ensures.reached t.0 t.1)

pub returns-in_err-go_on-clause-passed : goal.returns-in_err-go_on-clause-passed
returns-in_err-go_on-clause-passed g c = λ known fs lists.
    let terms = walk_terms g.R.TreeRep.contents g.S.TreeRep.contents g.W.Work.fits g.W.Work.done in
    let fault = c.in_err-go_on.field-0.0 in
    let now = subst (λ (b : List ℕ). Lists c.args.from fs c.args.journal.now b) (sym (c.in_ok-start.ensures.rests known).content) lists in
    let came = come_first terms c.args.version c.args.from fs c.in_ok-start.start c.in_ok-walk.walk (c.in_ok-start.ensures.started known c.args.version fs lists) c.in_ok-walk.ensures.reached c.in_ok-walk.ensures.done in
    passed (TellsPassedAs terms c.args.version c.args.from fs) c.from_residual-in_err-go_on.result fault (err_from_is_err_and c.from_residual-in_err-go_on.result c.from_residual-in_err-go_on.ensures.1)
    (tells_on terms c.args.version c.args.from fs c.go_on.new.self fault (c.in_err-go_on.ensures.passed (still c.in_ok-start.ensures.cause.same known) _ c.args.from fs now came))

pub returns-clause-passed : goal.returns-clause-passed
returns-clause-passed g c = λ known fs lists.
    let terms = walk_terms g.R.TreeRep.contents g.S.TreeRep.contents g.W.Work.fits g.W.Work.done in
    let now = subst (λ (b : List ℕ). Lists c.args.from fs c.args.journal.now b) (sym (c.in_ok-start.ensures.rests known).content) lists in
    let came = come_first terms c.args.version c.args.from fs c.in_ok-start.start c.in_ok-walk.walk (c.in_ok-start.ensures.started known c.args.version fs lists) c.in_ok-walk.ensures.reached c.in_ok-walk.ensures.done in
    let some = c.in_ok-start.ensures.some in
    (omega (arith, listed_length c.args.from fs c.args.journal.now _ lists, some), c.in_ok-go_on.ensures.passed (still c.in_ok-start.ensures.cause.same known) _ c.args.from fs now came)

pub returns-clause-reached : goal.returns-clause-reached
returns-clause-reached g c =
    let t = c.in_ok-start.ensures.tree in
    c.in_ok-go_on.ensures.reached _ _ (c.in_ok-walk.ensures.reached t.0 t.1)
