-- What the statements of a history may write.
use Rattle.std.specs.Prelude.{◌≡◌, false}
use Rattle.cp_model.specs.History.{IsWritten}
use Rattle.cp_model.specs.Place.{label_eq, target}
use Rattle.cp_lang.specs.declared.syntax_tree.Stmt.{Stmt}
use Rattle.cp_lang.specs.declared.syntax_tree.Stmt.TheVariants.{Op, Commit, Abort, Load, Ask, Show}

-- a statement whose operation, if it is one, can be written, and which loads nothing under the name of T
abbrev pub IsWrittenStmt : Stmt → Type 0
IsWrittenStmt (Op op) = IsWritten op
IsWrittenStmt Commit = Unit {0}
IsWrittenStmt Abort = Unit {0}
IsWrittenStmt (Load l) = label_eq l.name target ≡ false
IsWrittenStmt (Ask q) = Unit {0}
IsWrittenStmt (Show p) = Unit {0}
