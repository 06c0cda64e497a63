-- Each operation that a text says can be written.
use Rattle.std.specs.Prelude.{ℕ, ◌≡◌, ◌==◌, true, false, List, Result, Ok, Err, length, refl, if◌then◌else◌}
use Rattle.std.specs.Str.Lossy.{utf8_valid_len}
use Rattle.std.proofs.Common.{subst}
use Rattle.cp_model.specs.History.{IsWritten}
use Rattle.cp_model.specs.declared.op.Op.{Op}
use Rattle.cp_lang.specs.Grammar.{statement_reading}
use Rattle.cp_lang.specs.Written.{IsWrittenStmt}
use Rattle.cp_lang.specs.declared.syntax_tree.Stmt.{Stmt}
use Rattle.cp_lang.specs.declared.syntax_tree.Stmt.TheVariants as stmt
use Rattle.cp_lang.specs.declared.syntax_tree.StmtFault.{StmtFault}
use Rattle.cp_lang.specs.declared.syntax_tree.StmtFault.TheVariants as fault
use Rattle.cp_lang.proofs.Spellable.{read_written}
use Rattle.cp_reply.specs.Session.{says}
use Rattle.cp_workspace.specs.Texts.{read_as, reading}

said-written : (text : List ℕ) (r : Result Stmt StmtFault) (op : Op) → statement_reading text ≡ r → read_as text r ≡ says (stmt.Op op) → IsWritten op
said-written text (Ok s) op is e = let same : s ≡ stmt.Op op = cc in subst IsWrittenStmt same (read_written text s is)
said-written text (Err (fault.Syntax at)) op is e = absurd (cc)
said-written text (Err (fault.Place at f)) op is e = absurd (cc)
said-written text (Err fault.Memory) op is e = absurd (cc)

pub reading-written : (text : List ℕ) (op : Op) → reading text ≡ says (stmt.Op op) → IsWritten op
unfolding reading
reading-written text op e =
    elim (utf8_valid_len text == length text) as (λ b. read_as text (if b then statement_reading text else Err (fault.Syntax (utf8_valid_len text))) ≡ says (stmt.Op op) → IsWritten op) [
      | true ↦ λ e. said-written text (statement_reading text) op refl e
      | false ↦ λ e. absurd (cc)
    ] e
