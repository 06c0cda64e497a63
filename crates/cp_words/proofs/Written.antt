-- What words ask for keeps to its limits.
use Rattle.std.proofs.Common.{◌≡◌, ◌≤◌, ◌&&◌, ℕ, List, [], ◌∷◌, Bool, true, false, not, refl, if◌then◌else◌, nat_le, Option, Some, None, Result, Ok, Err, IfSome, codes}
use Rattle.std.specs.Prelude.{option_map, option_and_then}
use Rattle.std.specs.List.{list_all}
use Rattle.std.specs.Str.{bytes_eq}
use Rattle.std.proofs.lemmas.Bool.{and_parts, leb-true}
use Rattle.cp_path.specs.Place.{label_eq, target}
use Rattle.cp_path.specs.Text.{is_name}
use Rattle.cp_lang.specs.Grammar.{statement_reading}
use Rattle.cp_lang.specs.declared.syntax_tree.Stmt.{Stmt}
use Rattle.cp_lang.specs.declared.syntax_tree.Stmt.TheVariants as stmt
use Rattle.cp_lang.specs.declared.syntax_tree.StmtFault.{StmtFault}
use Rattle.cp_words.specs.Operands.{is_operand, kind_named, curator_by, form_by, number_of, count_in, count_of, place_of}
use Rattle.cp_words.specs.Commands.{start_by, load_by, generate_by, asked_in, asked_where_read, is_of_target, where_of_target, asked_of_version, version_where_read, asked_by, scratch_of, init_of, run_of, commit_of, load_of, query_of, generate_of, log_of, verify_of, at_of, archive_of, share_of, uses_of, row_of, command_of, IsWrittenCommand}
use Rattle.cp_words.specs.declared.limits.TheConstants.{COUNT_MAX}
use Rattle.cp_words.specs.declared.command.Asked.{Asked}
use Rattle.cp_words.specs.declared.command.Asked.TheVariants as of_version
use Rattle.cp_words.specs.declared.command.Command.{Command}
use Rattle.cp_words.specs.declared.command.Command.TheVariants.{Scratch, Init, Run, Commit, Load, Generate, At, Uses}

abbrev pub AreWritten : Option Command → Type 0
AreWritten o = IfSome o IsWrittenCommand

mapped : {X : Type 0} (f : X → Command) (o : Option X) → ((x : X) → IsWrittenCommand (f x)) → AreWritten (option_map f o)
mapped f None h = tt
mapped f (Some x) h = h x

followed : {X : Type 0} (f : X → Option Command) (o : Option X) → ((x : X) → AreWritten (f x)) → AreWritten (option_and_then f o)
followed f None h = tt
followed f (Some x) h = h x

either : (b : Bool) (x y : Option Command) → AreWritten x → AreWritten y → AreWritten (if b then x else y)
either true x y p q = p
either false x y p q = q

scratch_written : (ws : List (List ℕ)) → AreWritten (scratch_of ws)
scratch_written [] = tt
scratch_written (a ∷ []) = mapped (λ k. Scratch k (start_by None)) (kind_named a) (λ _. tt)
scratch_written (a ∷ b ∷ []) = mapped (λ k. Scratch k (start_by (Some b))) (kind_named a) (λ _. tt)
scratch_written (a ∷ b ∷ c ∷ ws) = tt

init_written : (ws : List (List ℕ)) → AreWritten (init_of ws)
init_written [] = tt
init_written (a ∷ []) = tt
init_written (a ∷ b ∷ []) = mapped (λ k. Init k (start_by None)) (kind_named b) (λ _. tt)
init_written (a ∷ b ∷ c ∷ []) = mapped (λ k. Init k (start_by (Some c))) (kind_named b) (λ _. tt)
init_written (a ∷ b ∷ c ∷ d ∷ ws) = tt

run_written : (ws : List (List ℕ)) → AreWritten (run_of ws)
run_written [] = tt
run_written (a ∷ []) = mapped (λ k. Run k) (curator_by None) (λ _. tt)
run_written (a ∷ b ∷ []) = mapped (λ k. Run k) (curator_by (Some b)) (λ _. tt)
run_written (a ∷ b ∷ c ∷ ws) = tt

commit_written : (ws : List (List ℕ)) → AreWritten (commit_of ws)
commit_written [] = tt
commit_written (a ∷ []) = tt
commit_written (a ∷ b ∷ []) = mapped (λ k. Commit b k) (curator_by None) (λ _. tt)
commit_written (a ∷ b ∷ c ∷ []) = mapped (λ k. Commit b k) (curator_by (Some c)) (λ _. tt)
commit_written (a ∷ b ∷ c ∷ d ∷ ws) = tt

not_true : (b : Bool) → not b ≡ true → b ≡ false
not_true true h = absurd (cc h)
not_true false h = refl

load_by_written : (name form file : List ℕ) (column : Option (List ℕ)) → AreWritten (load_by name form file column)
load_by_written name form file column = go (is_name name && not (label_eq name target)) refl
  where
    go : (b : Bool) → (is_name name && not (label_eq name target)) ≡ b
        → AreWritten (option_and_then (λ n. option_map (λ f. Load (record { name = n; form = f; file = file })) (form_by form column)) (if b then Some name else None))
    go true e = mapped (λ f. Load (record { name = name; form = f; file = file })) (form_by form column) (λ _. not_true (label_eq name target) (and_parts _ _ e).1)
    go false e = tt

load_written : (ws : List (List ℕ)) → AreWritten (load_of ws)
load_written [] = tt
load_written (a ∷ []) = tt
load_written (a ∷ b ∷ []) = tt
load_written (a ∷ b ∷ c ∷ []) = tt
load_written (a ∷ b ∷ c ∷ d ∷ []) = load_by_written b c d None
load_written (a ∷ b ∷ c ∷ d ∷ e ∷ []) = load_by_written b c d (Some e)
load_written (a ∷ b ∷ c ∷ d ∷ e ∷ f ∷ ws) = tt

asked_written : (s : Stmt) → AreWritten (asked_in s)
asked_written (stmt.Op op) = tt
asked_written stmt.Commit = tt
asked_written stmt.Abort = tt
asked_written (stmt.Load l) = tt
asked_written (stmt.Ask q) = tt
asked_written (stmt.Show p) = tt

read_written : (r : Result Stmt StmtFault) → AreWritten (asked_where_read r)
read_written (Ok s) = asked_written s
read_written (Err e) = tt

query_written : (ws : List (List ℕ)) → AreWritten (query_of ws)
query_written [] = tt
query_written (a ∷ []) = tt
query_written (a ∷ b ∷ []) = read_written (statement_reading b)
query_written (a ∷ b ∷ c ∷ ws) = tt

counted : (f : ℕ → Option Command) (o : Option ℕ) → ((n : ℕ) → 1 ≤ n → n ≤ COUNT_MAX → AreWritten (f n)) → AreWritten (option_and_then f (option_and_then count_in o))
counted f None h = tt
counted f (Some n) h = go (nat_le 1 n && nat_le n COUNT_MAX) refl
  where
    go : (b : Bool) → (nat_le 1 n && nat_le n COUNT_MAX) ≡ b → AreWritten (option_and_then f (if b then Some n else None))
    go true e = let p = and_parts _ _ e in h n (leb-true 1 n p.0) (leb-true n COUNT_MAX p.1)
    go false e = tt

generate_by_written : (seed count kind : List ℕ) → AreWritten (generate_by seed count kind)
generate_by_written seed count kind =
    followed (λ s. option_and_then (λ n. option_map (λ k. Generate s n k) (kind_named kind)) (count_of count)) (number_of seed)
    (λ s. counted (λ n. option_map (λ k. Generate s n k) (kind_named kind)) (number_of count) (λ n p q. mapped (λ k. Generate s n k) (kind_named kind) (λ _. (p, q))))

generate_written : (ws : List (List ℕ)) → AreWritten (generate_of ws)
generate_written [] = tt
generate_written (a ∷ []) = tt
generate_written (a ∷ b ∷ []) = tt
generate_written (a ∷ b ∷ c ∷ []) = generate_by_written a b c
generate_written (a ∷ b ∷ c ∷ d ∷ ws) = tt

log_written : (ws : List (List ℕ)) → AreWritten (log_of ws)
log_written [] = tt
log_written (a ∷ []) = tt
log_written (a ∷ b ∷ ws) = tt

verify_written : (ws : List (List ℕ)) → AreWritten (verify_of ws)
verify_written [] = tt
verify_written (a ∷ []) = tt
verify_written (a ∷ b ∷ ws) = tt

-- what is asked of a version is about a place of T
abbrev IsOfTarget : Asked → Type 0
IsOfTarget a = is_of_target a ≡ true

target_only : (a : Asked) → IfSome (where_of_target a) IsOfTarget
target_only a = go (is_of_target a) refl
  where
    go : (b : Bool) → is_of_target a ≡ b → IfSome (if b then Some a else None) IsOfTarget
    go true e = e
    go false e = tt

asked_target : (s : Stmt) → IfSome (asked_of_version s) IsOfTarget
asked_target (stmt.Op op) = tt
asked_target stmt.Commit = tt
asked_target stmt.Abort = tt
asked_target (stmt.Load l) = tt
asked_target (stmt.Ask q) = target_only (of_version.Ask q)
asked_target (stmt.Show p) = target_only (of_version.Show p)

version_target : (r : Result Stmt StmtFault) → IfSome (version_where_read r) IsOfTarget
version_target (Ok s) = asked_target s
version_target (Err e) = tt

asked_mapped : (t : ℕ) (o : Option Asked) → IfSome o IsOfTarget → AreWritten (option_map (λ a. At t a) o)
asked_mapped t None h = tt
asked_mapped t (Some a) h = h

at_written : (ws : List (List ℕ)) → AreWritten (at_of ws)
at_written [] = tt
at_written (a ∷ []) = tt
at_written (a ∷ b ∷ []) = tt
at_written (a ∷ b ∷ c ∷ []) = followed (λ t. option_map (λ a. At t a) (asked_by c)) (number_of b) (λ t. asked_mapped t (asked_by c) (version_target (statement_reading c)))
at_written (a ∷ b ∷ c ∷ d ∷ ws) = tt

archive_written : (ws : List (List ℕ)) → AreWritten (archive_of ws)
archive_written [] = tt
archive_written (a ∷ []) = tt
archive_written (a ∷ b ∷ ws) = tt

share_written : (ws : List (List ℕ)) → AreWritten (share_of ws)
share_written [] = tt
share_written (a ∷ []) = tt
share_written (a ∷ b ∷ ws) = tt

uses_written : (ws : List (List ℕ)) → AreWritten (uses_of ws)
uses_written [] = tt
uses_written (a ∷ []) = tt
uses_written (a ∷ b ∷ []) = mapped (λ q. Uses q) (place_of b) (λ _. tt)
uses_written (a ∷ b ∷ c ∷ ws) = tt

row_written : (ws : List (List ℕ)) → AreWritten (row_of ws)
row_written [] = tt
row_written (w ∷ ws) =
    either (bytes_eq (codes "scratch") w) _ _ (scratch_written ws) (either (bytes_eq (codes "init") w) _ _ (init_written ws)
    (either (bytes_eq (codes "run") w) _ _ (run_written ws) (either (bytes_eq (codes "commit") w) _ _ (commit_written ws)
    (either (bytes_eq (codes "load") w) _ _ (load_written ws) (either (bytes_eq (codes "query") w) _ _ (query_written ws)
    (either (bytes_eq (codes "gen") w) _ _ (generate_written ws) (either (bytes_eq (codes "log") w) _ _ (log_written ws)
    (either (bytes_eq (codes "verify") w) _ _ (verify_written ws)
    (either (bytes_eq (codes "at") w) _ _ (at_written ws) (either (bytes_eq (codes "archive") w) _ _ (archive_written ws)
    (either (bytes_eq (codes "share") w) _ _ (share_written ws) (either (bytes_eq (codes "uses") w) _ _ (uses_written ws) tt))))))))))))

pub command_written : (ws : List (List ℕ)) → AreWritten (command_of ws)
command_written [] = tt
command_written (program ∷ ws) = either (list_all is_operand ws) (row_of ws) None (row_written ws) tt
