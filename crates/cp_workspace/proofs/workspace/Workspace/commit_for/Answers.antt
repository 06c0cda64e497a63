use Rattle.std.proofs.Common.{ℕ, ◌+◌, refl, sym, subst, ◌∙◌, Ok, Err}
use Rattle.std.proofs.lemmas.Result.{err_from_is_err_and}
use Rattle.cp_lang.specs.declared.syntax_tree.Stmt.TheVariants as stmt
use Rattle.cp_model.specs.Past.{tree_of}
use Rattle.cp_engine.specs.Transactions as txn
use Rattle.cp_curators.specs.Curators.{IsCurrent, Takes}
use Rattle.cp_curators.specs.Desks.{HaveBegunBy}
use Rattle.cp_curators.specs.declared.fault.ShareFault.TheVariants as share
use Rattle.cp_reply.specs.Session.{no_supply, desk_of, desk_in, for_curator, seated, says, turn_of, turn_at_of}
use Rattle.cp_workspace.specs.Clocks.{known_clock}
use Rattle.cp_workspace.specs.Commits.{statement_asks_at}
use Rattle.cp_workspace.specs.Spending.{Spends}
use Rattle.cp_workspace.specs.Texts.{setting}
use Rattle.cp_workspace.specs.Workspaces.{TurnsAs, expected, holding, of_nobody, shared_by, to_name, workspace_at}
use Rattle.cp_workspace.proofs.Sharing.{over-later, usable-taken, usable-joined, usable-shared, both-ok}
use Rattle.cp_workspace.proofs.SharedEntries.{of_one, come-from, turns-nothing_for, asks-nothing, turns-failed_for, asks-failed_at, turns-stale_for, asks-stale, handed-out, stands-handed, turns-committed_for, asks-current}
use Rattle.cp_workspace.proofs.Spent.{spent-as, spent-none, spends-nothing}
use Rattle.cp_workspace.proofs.Supplied.{supplied-none}
use Rattle.cp_workspace.proofs.Turning.{turned-failed}
use Rattle.cp_workspace.proofs.workspace.Workspace.commit_for.Goals as goal

pub commit_going-requires-clause-usable : goal.commit_going-requires-clause-usable
commit_going-requires-clause-usable g c = usable-taken g.R.TreeRep.contents g.S.TreeRep.contents c.args.self.now c.args.curators.now (g.D.Disk.known c.args.disk.now) c.requires.alone c.requires.usable

pub commit_going-requires-clause-going : goal.commit_going-requires-clause-going
commit_going-requires-clause-going g c =
    let view = g.R.TreeRep.contents in
    let w = c.requires.usable.workspace in
    let s = w.stands in
    let over = w.desks.1 s.0 s.1 in
    let Begun = λ (m : ℕ). HaveBegunBy (tree_of s.0.tree) s.0.kind m over.0 in
    let x = c.in-Ok.ensures.current s.0.sources over.0 over.1 (tree_of s.0.tree) s.0.kind (subst Begun (sym (c.now.ensures s.0 s.1)) over.2) in
    let stands = subst (λ m. txn.Stands view c.in-Ok.transaction s.0.kind s.0.sources (tree_of s.0.tree) (m + 1) (txn.going x.0)) (c.now.ensures s.0 s.1) x.2 in
    (x.0, come-from view g.S.TreeRep.contents c.args.self.now.db c.in-Ok.transaction (txn.going x.0) s.0 s.1 stands)

pub commit_going-requires-clause-taken : goal.commit_going-requires-clause-taken
commit_going-requires-clause-taken g c = c.requires.usable.workspace.desks.0

pub returns-in_ok-curator-in-Ok-clause-turned : goal.returns-in_ok-curator-in-Ok-clause-turned
returns-in_ok-curator-in-Ok-clause-turned g c = λ f.
    let view = g.R.TreeRep.contents in
    let source_view = g.S.TreeRep.contents in
    let d = c.args.self.now in
    let cs = c.args.curators.now in
    let n = c.args.name.now in
    let none = c.requires.usable.workspace.desks.0 in
    let new = c.take.new.self in
    let x = c.in-Ok.transaction in
    let v = g.D.Disk.known c.args.disk.now in
    let w = g.D.Disk.known c.commit_going.new.disk in
    let h = c.commit_going.ensures.turned f in
    record {
      supply = h.supply;
      supplied = h.supplied;
      turns = λ terms s rest z e.
          let t = z.db.state in
          let q = z.desks in
          let b = desk_of t.now n s.desks in
          let now = c.now.ensures t z.db.holds in
          let stands = c.take.ensures.closed t.sources q.desks q.stands in
          let took = subst (λ m. Takes view t.sources (q.desks n) m (Ok x)) now (c.in-Ok.ensures.taken t.sources q.desks q.stands) in
          let fresh = subst (λ m. IsCurrent view t.sources (tree_of t.tree) t.kind m x) now (c.in-Ok.ensures.current t.sources q.desks q.stands (tree_of t.tree) t.kind (subst (λ m. HaveBegunBy (tree_of t.tree) t.kind m q.desks) (sym now) q.begun)) in
          let his = handed-out view source_view terms d cs s z n none new stands x took fresh in
          let y = h.turns (of_one terms) (seated b s) rest (stands-handed view source_view terms d cs s z n none new stands x his c.requires.alone) e in
          turns-committed_for view source_view terms d cs s z n none new stands x his c.commit_going.new.self rest v w c.commit_going.result
          (subst (λ k. TurnsAs view source_view of_nobody (expected (of_one terms) (turn_of (for_curator k (setting (of_one terms))) (seated b s) (says stmt.Commit)) (seated b s) rest) (workspace_at (holding d x) v) (workspace_at c.commit_going.new.self w) c.commit_going.result)
          (c.in_ok-curator-in-Ok.ensures ∙ c.as_str.ensures.text) y);
    }

pub returns-in_ok-curator-in-Ok-clause-spent : goal.returns-in_ok-curator-in-Ok-clause-spent
returns-in_ok-curator-in-Ok-clause-spent g c = λ terms s z f.
    let view = g.R.TreeRep.contents in
    let source_view = g.S.TreeRep.contents in
    let t = z.db.state in
    let q = z.desks in
    let n = c.args.name.now in
    let none = c.requires.usable.workspace.desks.0 in
    let x = c.in-Ok.transaction in
    let now = c.now.ensures t z.db.holds in
    let stands = c.take.ensures.closed t.sources q.desks q.stands in
    let took = subst (λ m. Takes view t.sources (q.desks n) m (Ok x)) now (c.in-Ok.ensures.taken t.sources q.desks q.stands) in
    let fresh = subst (λ m. IsCurrent view t.sources (tree_of t.tree) t.kind m x) now (c.in-Ok.ensures.current t.sources q.desks q.stands (tree_of t.tree) t.kind (subst (λ m. HaveBegunBy (tree_of t.tree) t.kind m q.desks) (sym now) q.begun)) in
    let his = handed-out view source_view terms c.args.self.now c.args.curators.now s z n none c.take.new.self stands x took fresh in
    subst (λ m. Spends 0 m f f (known_clock g.K.Clock c.args.clock.now) (known_clock g.K.Clock c.commit_going.new.clock) c.commit_going.result)
    (sym (asks-current view source_view terms c.args.self.now c.args.curators.now s z n none c.take.new.self stands x his)) (c.commit_going.ensures.spent f)

pub returns-in_ok-curator-in-Ok-clause-stays : goal.returns-in_ok-curator-in-Ok-clause-stays
returns-in_ok-curator-in-Ok-clause-stays g c =
    let view = g.R.TreeRep.contents in
    let source_view = g.S.TreeRep.contents in
    let w = c.requires.usable.workspace in
    let s = w.stands in
    both-ok c.commit_going.result _
    (λ u later. usable-joined view source_view c.commit_going.new.self c.take.new.self (g.D.Disk.known c.commit_going.new.disk) c.commit_going.ensures.closed
    (λ y z. over-later view c.take.new.self s.0 y (later s.0 y s.1 z) (c.take.ensures.over s.0.sources (tree_of s.0.tree) s.0.kind s.0.now (w.desks.1 s.0 s.1))) u)
    c.commit_going.ensures.stays c.commit_going.ensures.later

pub returns-in-Err-Empty-clause-turned : goal.returns-in-Err-Empty-clause-turned
returns-in-Err-Empty-clause-turned g c = λ f. record {
  supply = no_supply;
  supplied = supplied-none f (known_clock g.K.Clock c.args.clock.now);
  turns = λ terms s rest z e.
      let view = g.R.TreeRep.contents in
      let t = z.db.state in
      let q = z.desks in
      let n = c.args.name.now in
      let took = subst (λ m. Takes view t.sources (q.desks n) m (Err (share.Empty))) (c.now.ensures t z.db.holds) (subst (λ x. Takes view t.sources (q.desks n) c.now.result (Err x)) c.in-Err-Empty.field-0-is (c.in-Err-Empty.ensures.taken t.sources q.desks q.stands)) in
      rw (c.refused_commit.ensures)
      (turns-nothing_for view g.S.TreeRep.contents terms c.args.self.now c.args.curators.now s z n c.requires.usable.workspace.desks.0 c.take.new.self (c.take.ensures.closed t.sources q.desks q.stands) took (g.D.Disk.known c.args.disk.now) rest e);
}

pub returns-in-Err-Empty-clause-spent : goal.returns-in-Err-Empty-clause-spent
returns-in-Err-Empty-clause-spent g c = λ terms s z f.
    let view = g.R.TreeRep.contents in
    let t = z.db.state in
    let q = z.desks in
    let n = c.args.name.now in
    let k = known_clock g.K.Clock c.args.clock.now in
    let took = subst (λ m. Takes view t.sources (q.desks n) m (Err (share.Empty))) (c.now.ensures t z.db.holds) (subst (λ x. Takes view t.sources (q.desks n) c.now.result (Err x)) c.in-Err-Empty.field-0-is (c.in-Err-Empty.ensures.taken t.sources q.desks q.stands)) in
    spent-as f f k k 0 0 0 _ refl (asks-nothing view g.S.TreeRep.contents terms c.args.self.now c.args.curators.now s z n c.requires.usable.workspace.desks.0 c.take.new.self (c.take.ensures.closed t.sources q.desks q.stands) took) (spent-none f k)

pub returns-in-Err-Empty-clause-stays : goal.returns-in-Err-Empty-clause-stays
returns-in-Err-Empty-clause-stays g c =
    usable-shared g.R.TreeRep.contents g.S.TreeRep.contents c.args.self.now c.args.curators.now c.take.new.self (g.D.Disk.known c.args.disk.now) (λ s z. c.take.ensures.over s.sources (tree_of s.tree) s.kind s.now) c.requires.usable

pub returns-in-Err-Failed-clause-turned : goal.returns-in-Err-Failed-clause-turned
returns-in-Err-Failed-clause-turned g c = λ f. record {
  supply = no_supply;
  supplied = supplied-none f (known_clock g.K.Clock c.args.clock.now);
  turns = λ terms s rest z e.
      let view = g.R.TreeRep.contents in
      let t = z.db.state in
      let q = z.desks in
      let n = c.args.name.now in
      let took = subst (λ m. Takes view t.sources (q.desks n) m (Err (share.Failed c.in-Err-Failed.number c.in-Err-Failed.field-0-1))) (c.now.ensures t z.db.holds) (subst (λ x. Takes view t.sources (q.desks n) c.now.result (Err x)) c.in-Err-Failed.field-0-is (c.in-Err-Failed.ensures.taken t.sources q.desks q.stands)) in
      rw (c.refused_commit-in-Err-Failed.ensures, c.in-Err-Failed.number-is)
      (turns-failed_for view g.S.TreeRep.contents terms c.args.self.now c.args.curators.now s z n c.requires.usable.workspace.desks.0 c.take.new.self (c.take.ensures.closed t.sources q.desks q.stands) c.in-Err-Failed.number c.in-Err-Failed.field-0-1 took (g.D.Disk.known c.args.disk.now) rest e);
}

pub returns-in-Err-Failed-clause-spent : goal.returns-in-Err-Failed-clause-spent
returns-in-Err-Failed-clause-spent g c = λ terms s z f.
    let view = g.R.TreeRep.contents in
    let t = z.db.state in
    let q = z.desks in
    let n = c.args.name.now in
    let k = known_clock g.K.Clock c.args.clock.now in
    let took = subst (λ m. Takes view t.sources (q.desks n) m (Err (share.Failed c.in-Err-Failed.number c.in-Err-Failed.field-0-1))) (c.now.ensures t z.db.holds) (subst (λ x. Takes view t.sources (q.desks n) c.now.result (Err x)) c.in-Err-Failed.field-0-is (c.in-Err-Failed.ensures.taken t.sources q.desks q.stands)) in
    spent-as f f k k 0 0 0 _ refl (asks-failed_at view g.S.TreeRep.contents terms c.args.self.now c.args.curators.now s z n c.requires.usable.workspace.desks.0 c.take.new.self (c.take.ensures.closed t.sources q.desks q.stands) c.in-Err-Failed.number c.in-Err-Failed.field-0-1 took) (spent-none f k)

pub returns-in-Err-Failed-clause-stays : goal.returns-in-Err-Failed-clause-stays
returns-in-Err-Failed-clause-stays g c =
    usable-shared g.R.TreeRep.contents g.S.TreeRep.contents c.args.self.now c.args.curators.now c.take.new.self (g.D.Disk.known c.args.disk.now) (λ s z. c.take.ensures.over s.sources (tree_of s.tree) s.kind s.now) c.requires.usable

pub returns-in-Err-Stale-clause-turned : goal.returns-in-Err-Stale-clause-turned
returns-in-Err-Stale-clause-turned g c = λ f. record {
  supply = no_supply;
  supplied = supplied-none f (known_clock g.K.Clock c.args.clock.now);
  turns = λ terms s rest z e.
      let view = g.R.TreeRep.contents in
      let t = z.db.state in
      let q = z.desks in
      let n = c.args.name.now in
      let took = subst (λ m. Takes view t.sources (q.desks n) m (Err (share.Stale c.in-Err-Stale.last))) (c.now.ensures t z.db.holds) (subst (λ x. Takes view t.sources (q.desks n) c.now.result (Err x)) c.in-Err-Stale.field-0-is (c.in-Err-Stale.ensures.taken t.sources q.desks q.stands)) in
      rw (c.refused_commit-in-Err-Stale.ensures, c.in-Err-Stale.last-is)
      (turns-stale_for view g.S.TreeRep.contents terms c.args.self.now c.args.curators.now s z n c.requires.usable.workspace.desks.0 c.take.new.self (c.take.ensures.closed t.sources q.desks q.stands) c.in-Err-Stale.last took (g.D.Disk.known c.args.disk.now) rest e);
}

pub returns-in-Err-Stale-clause-spent : goal.returns-in-Err-Stale-clause-spent
returns-in-Err-Stale-clause-spent g c = λ terms s z f.
    let view = g.R.TreeRep.contents in
    let t = z.db.state in
    let q = z.desks in
    let n = c.args.name.now in
    let k = known_clock g.K.Clock c.args.clock.now in
    let took = subst (λ m. Takes view t.sources (q.desks n) m (Err (share.Stale c.in-Err-Stale.last))) (c.now.ensures t z.db.holds) (subst (λ x. Takes view t.sources (q.desks n) c.now.result (Err x)) c.in-Err-Stale.field-0-is (c.in-Err-Stale.ensures.taken t.sources q.desks q.stands)) in
    spent-as f f k k 0 0 0 _ refl (asks-stale view g.S.TreeRep.contents terms c.args.self.now c.args.curators.now s z n c.requires.usable.workspace.desks.0 c.take.new.self (c.take.ensures.closed t.sources q.desks q.stands) c.in-Err-Stale.last took) (spent-none f k)

pub returns-in-Err-Stale-clause-stays : goal.returns-in-Err-Stale-clause-stays
returns-in-Err-Stale-clause-stays g c =
    usable-shared g.R.TreeRep.contents g.S.TreeRep.contents c.args.self.now c.args.curators.now c.take.new.self (g.D.Disk.known c.args.disk.now) (λ s z. c.take.ensures.over s.sources (tree_of s.tree) s.kind s.now) c.requires.usable

pub returns-in_err-curator-in-Ok-clause-turned : goal.returns-in_err-curator-in-Ok-clause-turned
returns-in_err-curator-in-Ok-clause-turned g c = λ f.
    let n = c.args.name.now in
    let p = err_from_is_err_and c.from_residual.result c.from_residual.ensures.1 in
    turned-failed g.R.TreeRep.contents g.S.TreeRep.contents (λ terms s. turn_at_of (setting terms) s (desk_in s n) (says stmt.Commit)) (shared_by c.args.self.now c.args.curators.now) (shared_by c.args.self.now c.take.new.self) (g.D.Disk.known c.args.disk.now) (to_name n) f (known_clock g.K.Clock c.args.clock.now) c.from_residual.result p.0 p.1

pub returns-in_err-curator-in-Ok-clause-spent : goal.returns-in_err-curator-in-Ok-clause-spent
returns-in_err-curator-in-Ok-clause-spent g c = λ terms s z f.
    spends-nothing 0 (statement_asks_at s (desk_in s c.args.name.now) stmt.Commit) f (known_clock g.K.Clock c.args.clock.now) c.from_residual.result (err_from_is_err_and c.from_residual.result c.from_residual.ensures.1)
