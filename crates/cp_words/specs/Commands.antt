-- What the words of a call ask for.
use Rattle.std.specs.Prelude.{ℕ, ◌≡◌, true, false, Bool, List, [], ◌∷◌, ◌≤◌, codes, if◌then◌else◌, Option, Some, None, option_map, option_and_then, Result, Ok}
use Rattle.std.specs.List.{list_all}
use Rattle.std.specs.Str.{bytes_eq}
use Rattle.cp_model.specs.Place.{in_target}
use Rattle.cp_model.specs.declared.query.Query.{Query}
use Rattle.cp_model.specs.declared.query.Query.TheVariants as query
use Rattle.cp_lang.specs.Grammar.{statement_reading}
use Rattle.cp_lang.specs.Written.{IsWrittenStmt}
use Rattle.cp_lang.specs.declared.syntax_tree.Stmt.{Stmt}
use Rattle.cp_lang.specs.declared.syntax_tree.Stmt.TheVariants as stmt
use Rattle.cp_lang.specs.declared.syntax_tree.StmtFault.{StmtFault}
use Rattle.cp_words.specs.Operands.{is_operand, kind_named, curator_by, source_name, form_by, number_of, count_of, place_of}
use Rattle.cp_words.specs.declared.limits.TheConstants.{COUNT_MAX}
use Rattle.cp_words.specs.declared.command.Asked.{Asked}
use Rattle.cp_words.specs.declared.command.Asked.TheVariants as of_version
use Rattle.cp_words.specs.declared.command.Start.{Start}
use Rattle.cp_words.specs.declared.command.Start.TheVariants.{Alone, TreeIn}
use Rattle.cp_words.specs.declared.command.Command.{Command}
use Rattle.cp_words.specs.declared.command.Command.TheVariants.{Scratch, Init, Run, Commit, Load, Ask, Show, Generate, Log, Verify, At, Archive, Share, Uses}

-- ---- what the operands of a command ask for

-- a history starts from the tree of the JSON file that the word names, and without a word from a root alone
abbrev pub start_by : Option (List ℕ) → Start
start_by None = Alone
start_by (Some file) = TreeIn file

-- a session in memory, where the word names a kind
abbrev pub scratch_by : List ℕ → Option (List ℕ) → Option Command
scratch_by kind json = option_map (λ k. Scratch k (start_by json)) (kind_named kind)

-- a new store, where the word names a kind
abbrev pub init_by : List ℕ → Option (List ℕ) → Option Command
init_by kind json = option_map (λ k. Init k (start_by json)) (kind_named kind)

-- a session on the store, where the word may name a curator
abbrev pub run_by : Option (List ℕ) → Option Command
run_by curator = option_map Run (curator_by curator)

-- the statements of a file, where the word may name a curator
abbrev pub commit_by : List ℕ → Option (List ℕ) → Option Command
commit_by file curator = option_map (λ a. Commit file a) (curator_by curator)

-- the loading of a file under a name, in a form
abbrev pub load_by : List ℕ → List ℕ → List ℕ → Option (List ℕ) → Option Command
load_by name form file column =
    option_and_then (λ n. option_map (λ f. Load (record { name = n; form = f; file = file })) (form_by form column)) (source_name name)

-- a statement asks for something that changes nothing where it is a query or a `show`
abbrev pub asked_in : Stmt → Option Command
asked_in (stmt.Ask q) = Some (Ask q)
asked_in (stmt.Show p) = Some (Show p)
asked_in s = None

-- what is asked for, where a text was read as a statement
abbrev pub asked_where_read : Result Stmt StmtFault → Option Command
asked_where_read (Ok s) = asked_in s
asked_where_read r = None

-- the one query or `show` that the word is
abbrev pub query_by : List ℕ → Option Command
query_by statement = asked_where_read (statement_reading statement)

-- the run of a generated script, by a seed, a number of statements and a kind
abbrev pub generate_by : List ℕ → List ℕ → List ℕ → Option Command
generate_by seed count kind =
    option_and_then (λ s. option_and_then (λ n. option_map (λ k. Generate s n k) (kind_named kind)) (count_of count)) (number_of seed)

-- the query is about a place of T
abbrev pub asks_of_target : Query → Bool
asks_of_target (query.Src q) = in_target q
asks_of_target (query.Hist q) = in_target q
asks_of_target (query.Mod q) = in_target q
asks_of_target (query.Trace q) = in_target q
asks_of_target (query.From q) = in_target q
asks_of_target (query.Records t) = false
asks_of_target query.Stats = false

-- what is asked of a version is about a place of T
abbrev pub is_of_target : Asked → Bool
is_of_target (of_version.Ask q) = asks_of_target q
is_of_target (of_version.Show p) = in_target p

-- it may be asked where it is
abbrev pub where_of_target : Asked → Option Asked
where_of_target a = if is_of_target a then Some a else None

-- a statement asks something of a version where it is a `show` or a query of a place, and that place is in T
abbrev pub asked_of_version : Stmt → Option Asked
asked_of_version (stmt.Ask q) = where_of_target (of_version.Ask q)
asked_of_version (stmt.Show p) = where_of_target (of_version.Show p)
asked_of_version s = None

-- what is asked of a version, where a text was read as a statement
abbrev pub version_where_read : Result Stmt StmtFault → Option Asked
version_where_read (Ok s) = asked_of_version s
version_where_read r = None

-- what the one statement that the word is asks of a version
abbrev pub asked_by : List ℕ → Option Asked
asked_by statement = version_where_read (statement_reading statement)

-- what is asked of the version of which the first word spells the number
abbrev pub at_by : List ℕ → List ℕ → Option Command
at_by tid statement = option_and_then (λ t. option_map (λ a. At t a) (asked_by statement)) (number_of tid)

-- the places that use the one that the word spells
abbrev pub uses_by : List ℕ → Option Command
uses_by place = option_map Uses (place_of place)

-- ---- the rows

-- `scratch KIND [JSON]`
abbrev pub scratch_of : List (List ℕ) → Option Command
scratch_of (kind ∷ []) = scratch_by kind None
scratch_of (kind ∷ json ∷ []) = scratch_by kind (Some json)
scratch_of operands = None

-- `init STORE KIND [JSON]`
abbrev pub init_of : List (List ℕ) → Option Command
init_of (store ∷ kind ∷ []) = init_by kind None
init_of (store ∷ kind ∷ json ∷ []) = init_by kind (Some json)
init_of operands = None

-- `run STORE [CURATOR]`
abbrev pub run_of : List (List ℕ) → Option Command
run_of (store ∷ []) = run_by None
run_of (store ∷ curator ∷ []) = run_by (Some curator)
run_of operands = None

-- `commit STORE FILE [CURATOR]`
abbrev pub commit_of : List (List ℕ) → Option Command
commit_of (store ∷ file ∷ []) = commit_by file None
commit_of (store ∷ file ∷ curator ∷ []) = commit_by file (Some curator)
commit_of operands = None

-- `load STORE NAME json FILE`, `load STORE NAME csv FILE [COLUMN]`
abbrev pub load_of : List (List ℕ) → Option Command
load_of (store ∷ name ∷ form ∷ file ∷ []) = load_by name form file None
load_of (store ∷ name ∷ form ∷ file ∷ column ∷ []) = load_by name form file (Some column)
load_of operands = None

-- `query STORE STATEMENT`
abbrev pub query_of : List (List ℕ) → Option Command
query_of (store ∷ statement ∷ []) = query_by statement
query_of operands = None

-- `gen SEED COUNT KIND`
abbrev pub generate_of : List (List ℕ) → Option Command
generate_of (seed ∷ count ∷ kind ∷ []) = generate_by seed count kind
generate_of operands = None

-- `log STORE`
abbrev pub log_of : List (List ℕ) → Option Command
log_of (store ∷ []) = Some Log
log_of operands = None

-- `verify STORE`
abbrev pub verify_of : List (List ℕ) → Option Command
verify_of (store ∷ []) = Some Verify
verify_of operands = None

-- `at STORE TID STATEMENT`
abbrev pub at_of : List (List ℕ) → Option Command
at_of (store ∷ tid ∷ statement ∷ []) = at_by tid statement
at_of operands = None

-- `archive STORE`
abbrev pub archive_of : List (List ℕ) → Option Command
archive_of (store ∷ []) = Some Archive
archive_of operands = None

-- `share STORE`
abbrev pub share_of : List (List ℕ) → Option Command
share_of (store ∷ []) = Some Share
share_of operands = None

-- `uses STORE PLACE`
abbrev pub uses_of : List (List ℕ) → Option Command
uses_of (store ∷ place ∷ []) = uses_by place
uses_of operands = None

-- the command, and what its operands ask for
abbrev pub row_of : List (List ℕ) → Option Command
row_of [] = None
row_of (command ∷ operands) =
    if bytes_eq (codes "scratch") command then scratch_of operands
    else if bytes_eq (codes "init") command then init_of operands
    else if bytes_eq (codes "run") command then run_of operands
    else if bytes_eq (codes "commit") command then commit_of operands
    else if bytes_eq (codes "load") command then load_of operands
    else if bytes_eq (codes "query") command then query_of operands
    else if bytes_eq (codes "gen") command then generate_of operands
    else if bytes_eq (codes "log") command then log_of operands
    else if bytes_eq (codes "verify") command then verify_of operands
    else if bytes_eq (codes "at") command then at_of operands
    else if bytes_eq (codes "archive") command then archive_of operands
    else if bytes_eq (codes "share") command then share_of operands
    else if bytes_eq (codes "uses") command then uses_of operands
    else None

-- what the words ask for, the program's name first, if they fit a row and none after that name is empty or begins with `-`
abbrev pub command_of : List (List ℕ) → Option Command
command_of [] = None
command_of (program ∷ words) = if list_all is_operand words then row_of words else None

-- ---- what is always so

-- a load has another name than T, a script's number of statements is within its limits, and what is asked of a version is about a place of T
abbrev pub IsWrittenCommand : Command → Type 0
IsWrittenCommand (Load l) = IsWrittenStmt (stmt.Load l)
IsWrittenCommand (Ask q) = IsWrittenStmt (stmt.Ask q)
IsWrittenCommand (Show p) = IsWrittenStmt (stmt.Show p)
IsWrittenCommand (Generate seed count kind) = (1 ≤ count) × (count ≤ COUNT_MAX)
IsWrittenCommand (At tid asked) = is_of_target asked ≡ true
IsWrittenCommand c = Unit {0}
