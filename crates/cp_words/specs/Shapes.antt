-- The commands, as the parser of words is told of them.
use Rattle.std.specs.Prelude.{codes, true, false, ◌≡◌, Result, IfOk}
use Rattle.std.specs.declared.alloc.AllocError.{AllocError}
use Rattle.clap.specs.declared.builder.command.Command.{Command}
use Rattle.clap.specs.declared.builder.command.Command.TheViews.{out-Command as fields_of}
use Rattle.clap.specs.Words.{App, Text, app_of, new_app, new_rule, with_rule, with_subcommand}

-- a command with one more operand, which has to be there
abbrev pub with_wanted : Text → App → App
with_wanted id a = with_rule a (record (new_rule id) { required = true })

-- a command with one more operand, which may be there
abbrev pub with_optional : Text → App → App
with_optional id a = with_rule a (new_rule id)

-- `scratch KIND [JSON]`
abbrev pub scratch_app : App
scratch_app = with_optional (codes "JSON") (with_wanted (codes "KIND") (new_app (codes "scratch")))

-- `init STORE KIND [JSON]`
abbrev pub init_app : App
init_app = with_optional (codes "JSON") (with_wanted (codes "KIND") (with_wanted (codes "STORE") (new_app (codes "init"))))

-- `run STORE [CURATOR]`
abbrev pub run_app : App
run_app = with_optional (codes "CURATOR") (with_wanted (codes "STORE") (new_app (codes "run")))

-- `commit STORE FILE [CURATOR]`
abbrev pub commit_app : App
commit_app = with_optional (codes "CURATOR") (with_wanted (codes "FILE") (with_wanted (codes "STORE") (new_app (codes "commit"))))

-- `load STORE NAME FORM FILE [COLUMN]`
abbrev pub load_app : App
load_app =
    with_optional (codes "COLUMN") (with_wanted (codes "FILE") (with_wanted (codes "FORM") (with_wanted (codes "NAME") (with_wanted (codes "STORE") (new_app (codes "load"))))))

-- `query STORE STATEMENT`
abbrev pub query_app : App
query_app = with_wanted (codes "STATEMENT") (with_wanted (codes "STORE") (new_app (codes "query")))

-- `gen SEED COUNT KIND`
abbrev pub generate_app : App
generate_app = with_wanted (codes "KIND") (with_wanted (codes "COUNT") (with_wanted (codes "SEED") (new_app (codes "gen"))))

-- `log STORE`
abbrev pub log_app : App
log_app = with_wanted (codes "STORE") (new_app (codes "log"))

-- `verify STORE`
abbrev pub verify_app : App
verify_app = with_wanted (codes "STORE") (new_app (codes "verify"))

-- `at STORE TID STATEMENT`
abbrev pub at_app : App
at_app = with_wanted (codes "STATEMENT") (with_wanted (codes "TID") (with_wanted (codes "STORE") (new_app (codes "at"))))

-- `archive STORE`
abbrev pub archive_app : App
archive_app = with_wanted (codes "STORE") (new_app (codes "archive"))

-- `share STORE`
abbrev pub share_app : App
share_app = with_wanted (codes "STORE") (new_app (codes "share"))

-- `uses STORE PLACE`
abbrev pub uses_app : App
uses_app = with_wanted (codes "PLACE") (with_wanted (codes "STORE") (new_app (codes "uses")))

-- a program with one more command
abbrev pub with_command : App → App → App
with_command a b = with_subcommand a b.top

-- a command of which no operand is one of all commands
abbrev pub IsLocal : Command → Type 0
IsLocal c = (fields_of c).has_globals ≡ false

-- a program of this description, if it could be made
abbrev pub IsProgram : App → Result Command AllocError → Type 0
IsProgram a made = IfOk made (λ c. app_of c ≡ a)

-- a command of this description, if it could be made
abbrev pub IsCommand : App → Result Command AllocError → Type 0
IsCommand a made = IfOk made (λ c. (app_of c ≡ a) × IsLocal c)

-- the program, which has no help and wants a command
abbrev pub top_app : App
top_app =
    let a = new_app (codes "cpdb") in
    record a { top = record a.top { disable_help_flag = true; disable_help_subcommand = true; subcommand_required = true } }

-- a program with the commands of sessions
abbrev pub with_sessions : App → App
with_sessions a = with_command (with_command (with_command (with_command a scratch_app) init_app) run_app) commit_app

-- a program with the other commands
abbrev pub with_others : App → App
with_others a = with_command (with_command (with_command (with_command (with_command (with_command (with_command (with_command (with_command a load_app) query_app) generate_app) log_app) verify_app) at_app) archive_app) share_app) uses_app

-- the program with all commands
abbrev pub whole : App
whole = with_others (with_sessions top_app)
