use Rattle.std.proofs.Common.{ap, refl, ◌∙◌}
use Rattle.std.proofs.lemmas.Result.{IfOk-weaker}
use Rattle.cp_operation.specs.Loaded.{sources_in}
use Rattle.cp_workspace.specs.Seats.{progress_of}
use Rattle.cp_workspace.proofs.Turning.{whenever-ok, workspace-opened}
use Rattle.cp_workspace.proofs.Operating.{sources-same, applies-to, begun-applied, turned-outcome}
use Rattle.cp_workspace.proofs.workspace.Workspace.operate.Goals as goal

pub returns-clause-turned : goal.returns-clause-turned
returns-clause-turned g c =
    let view = g.R.TreeRep.contents in
    let source_view = g.S.TreeRep.contents in
    let d = c.args.self.now in
    let t = c.take_opened.ensures.taken in
    let y = c.in-Ok.transaction in
    let x = c.apply-applied.new.self in
    let same = ap (λ u. u.db) t in
    let loaded = sources_in source_view c.sources.result.now in
    let sources = sources-same view source_view d.db c.take_opened.new.self.db same loaded c.sources.ensures in
    IfOk-weaker c.outcome.result _ _
    (λ r e. λ terms s z.
    let come = c.in-Ok.ensures.opened terms s z in
    turned-outcome view source_view terms d _ s z x same (ap (λ u. u.curator) t) (ap (λ u. u.curators) t) refl y c.args.op c.apply-applied.result r come
    (applies-to view source_view d.db x y c.args.op c.apply-applied.result loaded sources c.apply-applied.ensures (progress_of s.opened) come) e)
    c.outcome.ensures

pub returns-clause-stays : goal.returns-clause-stays
returns-clause-stays g c =
    let view = g.R.TreeRep.contents in
    let source_view = g.S.TreeRep.contents in
    let d = c.args.self.now in
    let t = c.take_opened.ensures.taken in
    let y = c.in-Ok.transaction in
    let x = c.apply-applied.new.self in
    let same = ap (λ u. u.db) t in
    let loaded = sources_in source_view c.sources.result.now in
    let sources = sources-same view source_view d.db c.take_opened.new.self.db same loaded c.sources.ensures in
    let b = c.in-Ok.ensures.begun in
    whenever-ok c.outcome.result
    (workspace-opened view source_view d _ same (ap (λ u. u.curators) t ∙ c.requires.alone) (begun-applied view source_view d.db x c.args.op c.apply-applied.result b.0 (applies-to view source_view d.db x y c.args.op c.apply-applied.result loaded sources c.apply-applied.ensures b.0 b.1)) c.requires.workspace)
