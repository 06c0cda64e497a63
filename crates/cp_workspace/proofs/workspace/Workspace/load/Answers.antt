use Rattle.std.proofs.Common.{◌≡◌, sym, subst, ◌∙◌, Ok}
use Rattle.std.specs.declared.option.Option.TheVariants.{None, Some}
use Rattle.std.proofs.lemmas.Result.{err_from_is_err_and}
use Rattle.cp_model.specs.History.{replay}
use Rattle.cp_lang.specs.declared.syntax_tree.Load.{Load}
use Rattle.cp_lang.specs.declared.syntax_tree.Stmt.TheVariants as stmt
use Rattle.cp_reply.specs.declared.reply.Of.TheVariants as of
use Rattle.cp_reply.specs.declared.reply.Reply.TheVariants as reply
use Rattle.cp_reply.specs.Session.{no_supply, after_read, says, turn_of}
use Rattle.cp_workspace.specs.Supplies.{IsSupplied}
use Rattle.cp_workspace.specs.Texts.{setting}
use Rattle.cp_workspace.specs.Files.{known_files}
use Rattle.cp_workspace.specs.Fetched.{GivesFound}
use Rattle.cp_workspace.specs.Loads.{load_reads}
use Rattle.cp_workspace.specs.Workspaces.{workspace_at, HasTurned, of_nobody}
use Rattle.cp_workspace.proofs.Fetched.{given-tree, given-why}
use Rattle.cp_workspace.proofs.Loading.{turns-not_loaded, turns-withheld, turns-given, reads-unless}
use Rattle.cp_workspace.proofs.Spent.{spends-nothing, spends-file, spends-failed, spends-unread}
use Rattle.cp_workspace.proofs.Standing.{stands-told}
use Rattle.cp_workspace.proofs.Supplied.{supplied-none, one_table, supplied-table}
use Rattle.cp_workspace.proofs.Turning.{turned-failed}
use Rattle.cp_workspace.proofs.workspace.Workspace.load.Goals as goal

pub returns-in_err-why-clause-turned : goal.returns-in_err-why-clause-turned
returns-in_err-why-clause-turned g c = λ k.
    let p = err_from_is_err_and c.from_residual.result c.from_residual.ensures.1 in
    turned-failed g.R.TreeRep.contents g.S.TreeRep.contents (λ terms s. turn_of (setting terms) s (says (stmt.Load c.args.load))) c.args.self.now c.args.self.now (g.D.Disk.known c.args.disk.now) of_nobody (known_files g.F.Files c.args.files.now) k c.from_residual.result p.0 p.1

pub returns-in_err-why-clause-spent : goal.returns-in_err-why-clause-spent
returns-in_err-why-clause-spent g c = λ terms s z k.
    spends-nothing _ 0 (known_files g.F.Files c.args.files.now) k c.from_residual.result (err_from_is_err_and c.from_residual.result c.from_residual.ensures.1)

pub returns-in-Some-clause-turned : goal.returns-in-Some-clause-turned
returns-in-Some-clause-turned g c = λ k.
    let view = g.R.TreeRep.contents in
    let source_view = g.S.TreeRep.contents in
    let old = c.args.self.now in
    let b = known_files g.F.Files c.args.files.now in
    let v = g.D.Disk.known c.args.disk.now in
    let T : Load → Type 0 = λ x. HasTurned view source_view of_nobody (λ terms s. turn_of (setting terms) s (says (stmt.Load x))) (IsSupplied b k k) (workspace_at old v) (workspace_at old v) (Ok (reply.Refused of.Load c.in-Some.why)) in
    rw (c.refused_load.ensures)
    (subst T c.load.view_is (record {
      supply = no_supply;
      supplied = supplied-none b k;
      turns = λ terms s rest z supply. turns-not_loaded view source_view terms old s z _ c.in-Some.why v rest (sym c.in-Some.is ∙ c.in_ok-why.ensures.why terms s z) supply;
    }))

pub returns-in-Some-clause-spent : goal.returns-in-Some-clause-spent
returns-in-Some-clause-spent g c = λ terms s z k.
    spends-unread _ (known_files g.F.Files c.args.files.now) k
    (subst (λ (x : Load). load_reads s (replay s.history) x.name ≡ 0) c.load.view_is (reads-unless g.R.TreeRep.contents g.S.TreeRep.contents c.args.self.now _ terms s z (Some c.in-Some.why) (sym c.in-Some.is ∙ c.in_ok-why.ensures.why terms s z)))

pub returns-in_err-tree-clause-turned : goal.returns-in_err-tree-clause-turned
returns-in_err-tree-clause-turned g c = λ k.
    let p = err_from_is_err_and c.from_residual-in_err-tree.result c.from_residual-in_err-tree.ensures.1 in
    turned-failed g.R.TreeRep.contents g.S.TreeRep.contents (λ terms s. turn_of (setting terms) s (says (stmt.Load c.args.load))) c.args.self.now c.args.self.now (g.D.Disk.known c.args.disk.now) of_nobody (known_files g.F.Files c.args.files.now) k c.from_residual-in_err-tree.result p.0 p.1

pub returns-in_err-tree-clause-spent : goal.returns-in_err-tree-clause-spent
returns-in_err-tree-clause-spent g c = λ terms s z k.
    spends-failed _ (known_files g.F.Files c.args.files.now) (known_files g.F.Files c.fetch.new.files) k c.in_err-tree.field-0.0 c.from_residual-in_err-tree.result
    (subst (λ (x : Load). load_reads s (replay s.history) x.name ≡ 1) c.load.view_is (reads-unless g.R.TreeRep.contents g.S.TreeRep.contents c.args.self.now _ terms s z None (sym c.in_default.is ∙ c.in_ok-why.ensures.why terms s z)))
    c.in_err-tree.ensures.read (err_from_is_err_and c.from_residual-in_err-tree.result c.from_residual-in_err-tree.ensures.1)

pub returns-in-Ok-clause-turned : goal.returns-in-Ok-clause-turned
returns-in-Ok-clause-turned g c = λ k.
    let view = g.R.TreeRep.contents in
    let source_view = g.S.TreeRep.contents in
    let old = c.args.self.now in
    let new = c.keep_source.new.self in
    let b = known_files g.F.Files c.args.files.now in
    let v = g.D.Disk.known c.args.disk.now in
    let w = g.D.Disk.known c.keep_source.new.disk in
    let found = subst (GivesFound source_view b _) c.in-Ok.is c.in_ok-tree.ensures.gives in
    let T : Load → Type 0 = λ x. HasTurned view source_view of_nobody (λ terms s. turn_of (setting terms) s (says (stmt.Load x))) (IsSupplied b k k) (workspace_at old v) (workspace_at new w) c.keep_source.result in
    subst T c.load.view_is (record {
      supply = one_table found.0;
      supplied = supplied-table b k found.0 found.1;
      turns = λ terms s rest z supply.
          turns-given view source_view terms old s z _ found.0 rest (sym c.in_default.is ∙ c.in_ok-why.ensures.why terms s z) supply new v w (source_view c.in-Ok.tree) c.keep_source.result
          (given-tree source_view _ c.in-Ok.tree (rw (sym c.as_str.ensures.value) found.2))
          (c.keep_source.ensures.turned terms (after_read s) (stands-told view source_view terms old old s z (after_read s).supply));
    })

pub returns-in-Ok-clause-spent : goal.returns-in-Ok-clause-spent
returns-in-Ok-clause-spent g c = λ terms s z k.
    spends-file _ (known_files g.F.Files c.args.files.now) (known_files g.F.Files c.fetch.new.files) k c.keep_source.result
    (subst (λ (x : Load). load_reads s (replay s.history) x.name ≡ 1) c.load.view_is (reads-unless g.R.TreeRep.contents g.S.TreeRep.contents c.args.self.now _ terms s z None (sym c.in_default.is ∙ c.in_ok-why.ensures.why terms s z)))
    c.in_ok-tree.ensures.read c.keep_source.ensures.kinds.1

pub returns-in-Err-clause-turned : goal.returns-in-Err-clause-turned
returns-in-Err-clause-turned g c = λ k.
    let view = g.R.TreeRep.contents in
    let source_view = g.S.TreeRep.contents in
    let old = c.args.self.now in
    let b = known_files g.F.Files c.args.files.now in
    let v = g.D.Disk.known c.args.disk.now in
    let found = subst (GivesFound source_view b _) c.in-Err.is c.in_ok-tree.ensures.gives in
    let T : Load → Type 0 = λ x. HasTurned view source_view of_nobody (λ terms s. turn_of (setting terms) s (says (stmt.Load x))) (IsSupplied b k k) (workspace_at old v) (workspace_at old v) (Ok (reply.Refused of.Load c.in-Err.why)) in
    rw (c.refused_load-in-Err.ensures)
    (subst T c.load.view_is (record {
      supply = one_table found.0;
      supplied = supplied-table b k found.0 found.1;
      turns = λ terms s rest z supply.
          turns-withheld view source_view terms old s z _ found.0 rest (sym c.in_default.is ∙ c.in_ok-why.ensures.why terms s z) supply c.in-Err.why v
          (given-why source_view _ c.in-Err.why (rw (sym c.as_str.ensures.value) found.2));
    }))

pub returns-in-Err-clause-spent : goal.returns-in-Err-clause-spent
returns-in-Err-clause-spent g c = λ terms s z k.
    spends-file _ (known_files g.F.Files c.args.files.now) (known_files g.F.Files c.fetch.new.files) k (Ok c.refused_load-in-Err.result)
    (subst (λ (x : Load). load_reads s (replay s.history) x.name ≡ 1) c.load.view_is (reads-unless g.R.TreeRep.contents g.S.TreeRep.contents c.args.self.now _ terms s z None (sym c.in_default.is ∙ c.in_ok-why.ensures.why terms s z)))
    c.in_ok-tree.ensures.read (λ h. absurd (cc))
