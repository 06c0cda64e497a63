-- Calls that hand a session one statement: what it replies, and what a load of a source into a store did.
use Rattle.std.specs.Prelude.{◌≡◌, ◌⊎◌, ℕ, ◌≤◌, List, [], ◌∷◌, true, false, IsTrue}
use Rattle.std.specs.List.{flat_map, list_any}
use Rattle.cp_model.specs.History.{Entry}
use Rattle.cp_disk.specs.Views.{ViewRests, KnownDisk, ViewLeaves}
use Rattle.cp_frame.specs.Stands.{IsStore, Opens, StandsForEither}
use Rattle.cp_frame.specs.Stops.{IsNot}
use Rattle.cp_lang.specs.declared.syntax_tree.Load.{Load}
use Rattle.cp_lang.specs.declared.syntax_tree.Stmt.{Stmt}
use Rattle.cp_lang.specs.declared.syntax_tree.Stmt.TheVariants as stmt
use Rattle.cp_reply.specs.Lines.{lines}
use Rattle.cp_reply.specs.Session.{Supply, followed_by, Session, replies_to_statements, session_after_statements}
use Rattle.cp_workspace.specs.Texts.{Terms, setting}
use Rattle.cp_workspace.specs.Loads.{statement_reads}
use Rattle.cp_workspace.specs.Commits.{statement_asks}
use Rattle.cp_workspace.specs.Files.{HasRead}
use Rattle.cp_workspace.specs.Supplies.{IsSupplied}
use Rattle.cp_workspace.specs.Workspaces.{opened_session}
use Rattle.cp_interpreter.specs.Texts.{file_line, disk_line, memory_line}
use Rattle.cp_interpreter.specs.Job.{Report, is_refusal}
use Rattle.cp_interpreter.specs.Outside.{Outside}
use Rattle.cp_interpreter.specs.Story.{Writes, StopsIn, WritesLast, Leaving, left_on, one_curator, store_terms, HasNotBegun}
use Rattle.cp_interpreter.specs.declared.end.End.{End}
use Rattle.cp_interpreter.specs.declared.end.End.TheVariants as how

-- what a statement does that is handed over as a value
abbrev pub statement_report : Terms → Session → Stmt → Report
statement_report terms s x = record {
  out = flat_map lines (replies_to_statements (setting terms) s (x ∷ []));
  refused = list_any is_refusal (replies_to_statements (setting terms) s (x ∷ []));
  reads = statement_reads s x;
  asks = statement_asks s x;
  history = (session_after_statements (setting terms) s (x ∷ [])).history;
}

-- the same in a session that begins on the history h, which the content c tells, and to which this is told; it has no curator
abbrev pub report_on : Supply → List Entry → List ℕ → Stmt → Report
report_on supply h c x = statement_report (store_terms h c (one_curator [])) (opened_session h supply) x

-- What the one statement did, by how the call ended: its report, or what came of it where something failed in it.
abbrev pub DidStatement : Report → List Entry → Leaving → Outside → Outside → End → Type 0
DidStatement r h Leaves before now how.Done =
    (r.refused ≡ false) × Writes before.output now.output r.out
    × HasRead before.files now.files r.reads × Leaves r.history r.history
DidStatement r h Leaves before now how.Refused =
    (r.refused ≡ true) × Writes before.output now.output r.out
    × HasRead before.files now.files r.reads × Leaves r.history r.history
DidStatement r h Leaves before now how.Usage = ⊥
DidStatement r h Leaves before now how.Input = ⊥
DidStatement r h Leaves before now how.File =
    (r.reads ≡ 1) × WritesLast before.output now.output [] file_line
    × HasRead before.files now.files 1 × Leaves h h
DidStatement r h Leaves before now how.Output =
    StopsIn before.output now.output r.out × HasRead before.files now.files r.reads
    × Leaves r.history r.history
DidStatement r h Leaves before now how.Disk =
    (r.reads ≡ 1) × WritesLast before.output now.output [] disk_line
    × HasRead before.files now.files 1 × Leaves h r.history
DidStatement r h Leaves before now (how.NoStore at) = ⊥
DidStatement r h Leaves before now how.Memory =
    (StopsIn before.output now.output r.out × HasRead before.files now.files r.reads
    × Leaves r.history r.history)
    ⊎ (WritesLast before.output now.output [] memory_line
    × (HasRead before.files now.files 0 ⊎ HasRead before.files now.files r.reads)
    × Leaves h r.history)
DidStatement r h Leaves before now how.TooLong = ⊥
DidStatement r h Leaves before now how.Clock = ⊥

-- What was done on a store that stands for the history h, which the content tells at entry: the load, whose report this is; or the call ended before it.
pub record DidLoad (r : Report) (h : List Entry) (supply : Supply) (before now : Outside)
    (v w : KnownDisk) (end : End) : Type 0 where
  pub did : (HasNotBegun [] supply before now end × ViewRests v.view w.view)
      ⊎ DidStatement r h (left_on w) before now end
  pub later : v.view.moment ≤ w.view.moment
  pub crash : ViewLeaves (StandsForEither h r.history) v.view w.view

-- A call that was to load a source into a store took no input and asked no clock.
-- What isn't opened is no store, and what is none isn't opened. What stands for a history has the source, or the refusal of the load, whose read found some files.
pub record Loaded (l : Load) (before now : Outside) (v w : KnownDisk) (end : End) : Type 0 where
  pub input : now.input ≡ before.input
  pub clock : now.clock ≡ before.clock
  pub supply : Supply
  pub supplied : IsSupplied before.files before.clock now.clock supply
  pub fitting : end ≡ how.Usage → ⊥
  pub short : end ≡ how.TooLong → ⊥
  pub no_store : IsTrue v.known → (at : ℕ) → end ≡ how.NoStore at
      → HasNotBegun [] supply before now end × ViewRests v.view w.view
      × IsNot Opens v.view.content at
  pub unopened : IsTrue v.known → (Opens v.view.content → ⊥) → HasNotBegun [] supply before now end
      × ViewRests v.view w.view
  pub did : IsTrue v.known → (h : List Entry) → IsStore h v.view.content → (rest : Supply)
      → DidLoad (report_on (followed_by supply rest) h v.view.content (stmt.Load l)) h supply
      before now v w end
