use Rattle.std.proofs.Common.{ℕ, refl, sym, ap, subst, ◌∙◌}
use Rattle.std.proofs.lemmas.Result.{err_from_is_err_and}
use Rattle.cp_lang.specs.declared.syntax_tree.Stmt.TheVariants as stmt
use Rattle.cp_reply.specs.Session.{no_supply, Session, says, turn_of, for_curator}
use Rattle.cp_workspace.specs.Supplies.{IsSupplied}
use Rattle.cp_workspace.specs.Texts.{Terms, setting}
use Rattle.cp_workspace.specs.Workspaces.{workspace_at, IsBegun, HasTurned, of_nobody}
use Rattle.cp_workspace.specs.Clocks.{known_clock}
use Rattle.cp_workspace.specs.Commits.{commit_asks}
use Rattle.cp_workspace.specs.Spending.{Spends}
use Rattle.cp_workspace.proofs.Committing.{turns-nothing, turns-unfinished, going-come, held-again}
use Rattle.cp_workspace.proofs.Spent.{asks-none, asks-failed, asks-going, spent-as, spent-none, spends-nothing}
use Rattle.cp_workspace.proofs.Supplied.{supplied-none}
use Rattle.cp_workspace.proofs.Turning.{turned-as, turned-failed}
use Rattle.cp_workspace.proofs.workspace.Workspace.commit.Goals as goal

pub returns-in_default-clause-turned : goal.returns-in_default-clause-turned
returns-in_default-clause-turned g c = λ f. record {
  supply = no_supply;
  supplied = supplied-none f (known_clock g.K.Clock c.args.clock.now);
  turns = λ terms s rest z e.
      rw (c.refused_commit.ensures)
      (turns-nothing g.R.TreeRep.contents g.S.TreeRep.contents terms c.args.self.now (record c.args.self.now { transaction = c.take.new.self }) s z refl refl refl c.take.ensures.after
      (setting terms) (g.D.Disk.known c.args.disk.now) rest (sym c.take.ensures.value ∙ c.in_default.is) e);
}

pub commit_going-requires-clause-going : goal.commit_going-requires-clause-going
commit_going-requires-clause-going g c =
    let view = g.R.TreeRep.contents in
    let source_view = g.S.TreeRep.contents in
    going-come view source_view c.args.self.now.db c.in-Some.transaction c.in-Going.field-0 (λ k ss t n p h. c.in-Going.ensures k ss t n p h) c.requires.usable.workspace.stands
    (subst (IsBegun view source_view c.args.self.now.db) (sym c.take.ensures.value ∙ c.in-Some.is) c.requires.usable.workspace.begun)

pub returns-in_ok-curator-in-Going-clause-turned : goal.returns-in_ok-curator-in-Going-clause-turned
returns-in_ok-curator-in-Going-clause-turned g c = λ f.
    let view = g.R.TreeRep.contents in
    let source_view = g.S.TreeRep.contents in
    let old = c.args.self.now in
    let new = c.commit_going.new.self in
    let v = g.D.Disk.known c.args.disk.now in
    let w = g.D.Disk.known c.commit_going.new.disk in
    let told = IsSupplied f (known_clock g.K.Clock c.args.clock.now) (known_clock g.K.Clock c.commit_going.new.clock) in
    let signed = λ (terms : Terms) (s : Session). turn_of (for_curator c.in_ok-curator-in-Going.curator (setting terms)) s (says stmt.Commit) in
    let alone = λ (terms : Terms) (s : Session). turn_of (setting terms) s (says stmt.Commit) in
    turned-as view source_view of_nobody signed alone told old new v w c.commit_going.result
    (λ terms s z. ap (λ n. turn_of (for_curator n (setting terms)) s (says stmt.Commit)) (c.in_ok-curator-in-Going.ensures.cases ∙ z.curator))
    (subst (λ d. HasTurned view source_view of_nobody signed told (workspace_at d v) (workspace_at new w) c.commit_going.result)
    (held-again old (record old { transaction = c.take.new.self }) c.in-Some.transaction (ap (λ y. record old { transaction = y }) c.take.ensures.after) (sym c.take.ensures.value ∙ c.in-Some.is)) (c.commit_going.ensures.turned f))

pub returns-in-Failed-clause-turned : goal.returns-in-Failed-clause-turned
returns-in-Failed-clause-turned g c = λ f. record {
  supply = no_supply;
  supplied = supplied-none f (known_clock g.K.Clock c.args.clock.now);
  turns = λ terms s rest z e.
      rw (c.refused_commit-in-Failed.ensures)
      (turns-unfinished g.R.TreeRep.contents g.S.TreeRep.contents terms c.args.self.now (record c.args.self.now { transaction = c.take.new.self }) s z refl refl refl c.take.ensures.after
      c.in-Some.transaction (sym c.take.ensures.value ∙ c.in-Some.is) (setting terms) c.in-Failed.number _ (g.D.Disk.known c.args.disk.now) rest (λ k ss t n p h. c.in-Failed.ensures k ss t n p h) e);
}

pub returns-in_default-clause-spent : goal.returns-in_default-clause-spent
returns-in_default-clause-spent g c = λ terms s z f.
    let k = known_clock g.K.Clock c.args.clock.now in
    spent-as f f k k 0 0 0 _ refl (asks-none g.R.TreeRep.contents g.S.TreeRep.contents terms c.args.self.now s z (sym c.take.ensures.value ∙ c.in_default.is)) (spent-none f k)

pub returns-in_ok-curator-in-Going-clause-spent : goal.returns-in_ok-curator-in-Going-clause-spent
returns-in_ok-curator-in-Going-clause-spent g c = λ terms s z f.
    let P : ℕ → Type 0 = λ n. Spends 0 n f f (known_clock g.K.Clock c.args.clock.now) (known_clock g.K.Clock c.commit_going.new.clock) c.commit_going.result in
    subst P (sym (asks-going g.R.TreeRep.contents g.S.TreeRep.contents terms c.args.self.now s z c.in-Some.transaction (sym c.take.ensures.value ∙ c.in-Some.is) c.in-Going.field-0 (λ k ss t n p h. c.in-Going.ensures k ss t n p h))) (c.commit_going.ensures.spent f)

pub returns-in-Failed-clause-spent : goal.returns-in-Failed-clause-spent
returns-in-Failed-clause-spent g c = λ terms s z f.
    let k = known_clock g.K.Clock c.args.clock.now in
    spent-as f f k k 0 0 0 _ refl (asks-failed g.R.TreeRep.contents g.S.TreeRep.contents terms c.args.self.now s z c.in-Some.transaction (sym c.take.ensures.value ∙ c.in-Some.is) c.in-Failed.number _ (λ k ss t n p h. c.in-Failed.ensures k ss t n p h)) (spent-none f k)

pub returns-in_err-curator-in-Going-clause-turned : goal.returns-in_err-curator-in-Going-clause-turned
returns-in_err-curator-in-Going-clause-turned g c = λ f.
    let p = err_from_is_err_and c.from_residual.result c.from_residual.ensures.1 in
    turned-failed g.R.TreeRep.contents g.S.TreeRep.contents (λ terms s. turn_of (setting terms) s (says stmt.Commit)) c.args.self.now (record c.args.self.now { transaction = c.take.new.self }) (g.D.Disk.known c.args.disk.now) of_nobody f (known_clock g.K.Clock c.args.clock.now) c.from_residual.result p.0 p.1

pub returns-in_err-curator-in-Going-clause-spent : goal.returns-in_err-curator-in-Going-clause-spent
returns-in_err-curator-in-Going-clause-spent g c = λ terms s z f.
    spends-nothing 0 (commit_asks s.opened) f (known_clock g.K.Clock c.args.clock.now) c.from_residual.result (err_from_is_err_and c.from_residual.result c.from_residual.ensures.1)
