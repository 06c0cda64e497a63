-- What the operands that the parser has found ask for.
use Rattle.std.specs.Prelude.{List, Option, Some, None, option_and_then, codes, if◌then◌else◌}
use Rattle.std.specs.Str.{bytes_eq}
use Rattle.clap.specs.Words.{Row, Text, first_of}
use Rattle.cp_words.specs.Commands.{scratch_by, init_by, run_by, commit_by, load_by, query_by, generate_by, at_by, uses_by}
use Rattle.cp_words.specs.declared.command.Command.{Command}
use Rattle.cp_words.specs.declared.command.Command.TheVariants.{Log, Verify, Archive, Share}

-- goes on with an operand, where it was found
abbrev pub with_operand : Text → List Row → (Text → Option Command) → Option Command
with_operand id rows next = option_and_then next (first_of id rows)

-- the operands of `scratch`
abbrev pub scratch_from : List Row → Option Command
scratch_from rows = with_operand (codes "KIND") rows (λ kind. scratch_by kind (first_of (codes "JSON") rows))

-- the operands of `init`
abbrev pub init_from : List Row → Option Command
init_from rows = with_operand (codes "KIND") rows (λ kind. init_by kind (first_of (codes "JSON") rows))

-- the operands of `run`
abbrev pub run_from : List Row → Option Command
run_from rows = run_by (first_of (codes "CURATOR") rows)

-- the operands of `commit`
abbrev pub commit_from : List Row → Option Command
commit_from rows = with_operand (codes "FILE") rows (λ file. commit_by file (first_of (codes "CURATOR") rows))

-- the operands of `load`
abbrev pub load_from : List Row → Option Command
load_from rows =
    with_operand (codes "NAME") rows (λ name. with_operand (codes "FORM") rows (λ form. with_operand (codes "FILE") rows (λ file.
    load_by name form file (first_of (codes "COLUMN") rows))))

-- the operands of `query`
abbrev pub query_from : List Row → Option Command
query_from rows = with_operand (codes "STATEMENT") rows query_by

-- the operands of `gen`
abbrev pub generate_from : List Row → Option Command
generate_from rows =
    with_operand (codes "SEED") rows (λ seed. with_operand (codes "COUNT") rows (λ count. with_operand (codes "KIND") rows (λ kind. generate_by seed count kind)))

-- `log` needs none
abbrev pub log_from : List Row → Option Command
log_from rows = Some Log

-- `verify` needs none
abbrev pub verify_from : List Row → Option Command
verify_from rows = Some Verify

-- the operands of `at`
abbrev pub at_from : List Row → Option Command
at_from rows = with_operand (codes "TID") rows (λ tid. with_operand (codes "STATEMENT") rows (λ statement. at_by tid statement))

-- `archive` needs none
abbrev pub archive_from : List Row → Option Command
archive_from rows = Some Archive

-- `share` needs none
abbrev pub share_from : List Row → Option Command
share_from rows = Some Share

-- the operands of `uses`
abbrev pub uses_from : List Row → Option Command
uses_from rows = with_operand (codes "PLACE") rows uses_by

-- the command that was found, and its operands
abbrev pub command_from : Option (Text × List Row) → Option Command
command_from None = None
command_from (Some p) =
    if bytes_eq p.0 (codes "scratch") then scratch_from p.1
    else if bytes_eq p.0 (codes "init") then init_from p.1
    else if bytes_eq p.0 (codes "run") then run_from p.1
    else if bytes_eq p.0 (codes "commit") then commit_from p.1
    else if bytes_eq p.0 (codes "load") then load_from p.1
    else if bytes_eq p.0 (codes "query") then query_from p.1
    else if bytes_eq p.0 (codes "gen") then generate_from p.1
    else if bytes_eq p.0 (codes "log") then log_from p.1
    else if bytes_eq p.0 (codes "verify") then verify_from p.1
    else if bytes_eq p.0 (codes "at") then at_from p.1
    else if bytes_eq p.0 (codes "archive") then archive_from p.1
    else if bytes_eq p.0 (codes "share") then share_from p.1
    else if bytes_eq p.0 (codes "uses") then uses_from p.1
    else None
