-- What a generated workload comes to.
use Rattle.std.specs.Prelude.{ℕ, ◌≡◌, List, [], ◌∷◌}
use Rattle.std.specs.declared.option.Option.{Option}
use Rattle.std.specs.declared.option.Option.TheVariants.{Some}
use Rattle.cp_model.specs.History.{Entry, State, start, load, replay}
use Rattle.cp_model.specs.declared.kind.Kind.{Kind}
use Rattle.cp_reply.specs.declared.reply.Reply.{Reply}
use Rattle.cp_reply.specs.Session.{no_supply, Session, session_after_statements}
use Rattle.cp_gen.specs.Source.{source_name, source_tree}
use Rattle.cp_gen.specs.Script.{script}
use Rattle.cp_gen.specs.Summaries.{summary_of}
use Rattle.cp_workspace.specs.Texts.{Terms, setting}
use Rattle.cp_workspace.specs.Workspaces.{opened_session}
use Rattle.cp_scratch.specs.Sessions.{empty_tree, scratch_terms}

-- the history that a workload begins on: a root alone, and the source of the scripts
abbrev pub workload_start : Kind → List Entry
workload_start k = start k empty_tree ∷ load source_name source_tree ∷ []

-- its session, to which nothing is told
abbrev pub workload_session : Kind → Session
workload_session k = opened_session (workload_start k) no_supply

-- what it is run on
abbrev pub workload_terms : Kind → Terms
workload_terms k = scratch_terms k empty_tree

-- the state to which the script of so many operations leads that a seed gives
abbrev pub workload_state : Kind → ℕ → ℕ → Option State
workload_state k seed count =
    replay (session_after_statements (setting (workload_terms k)) (workload_session k)
    (script seed count)).history

-- the reply has the numbers of that state
pub record ComesTo (k : Kind) (seed count : ℕ) (r : Reply) : Type 0 where
  pub state : State
  pub led : workload_state k seed count ≡ Some state
  pub is : r ≡ summary_of state
