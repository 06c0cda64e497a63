-- Which statements ask the clock: commits of a transaction that is going.
use Rattle.std.specs.Prelude.{ℕ, List, if◌then◌else◌}
use Rattle.std.specs.declared.option.Option.{Option}
use Rattle.std.specs.declared.option.Option.TheVariants.{None, Some}
use Rattle.cp_model.specs.History.{State, replay}
use Rattle.cp_lang.specs.declared.syntax_tree.Stmt.{Stmt}
use Rattle.cp_lang.specs.declared.syntax_tree.Stmt.TheVariants as stmt
use Rattle.cp_lang.specs.declared.cut.Cut.{Cut}
use Rattle.cp_lang.specs.declared.cut.Cut.TheVariants.{Text, TooLong, Unfinished}
use Rattle.cp_reply.specs.Session.{Setting, Session, OpenTransaction, closed, going, failed, TextReading, says, unread, Desk, desk_in, is_stale}
use Rattle.cp_reply.specs.Sharing.{owner, statement_in}
use Rattle.cp_workspace.specs.Texts.{reading}

-- how often a commit asks the clock: once where there are operations to commit
abbrev pub commit_asks : OpenTransaction → ℕ
commit_asks closed = 0
commit_asks (going ops) = 1
commit_asks (failed n c) = 0

-- how often a statement asks the clock
abbrev pub statement_asks : Session → Stmt → ℕ
statement_asks s (stmt.Op op) = 0
statement_asks s stmt.Commit = commit_asks s.opened
statement_asks s stmt.Abort = 0
statement_asks s (stmt.Load l) = 0
statement_asks s (stmt.Ask q) = 0
statement_asks s (stmt.Show q) = 0

-- how often a text asks it, by what it says
abbrev pub text_asks : Session → TextReading → ℕ
text_asks s (says x) = statement_asks s x
text_asks s (unread w) = 0

-- how often a cut of one curator's input asks it
abbrev pub cut_asks_alone : Session → Cut → ℕ
cut_asks_alone s (Text text) = text_asks s (reading text)
cut_asks_alone s TooLong = 0
cut_asks_alone s (Unfinished text) = 0

-- ---- several curators

-- how often a curator's commit asks it: not where there was another's after his transaction was opened
abbrev pub commit_asks_at : Option State → Desk → ℕ
commit_asks_at None d = 0
commit_asks_at (Some t) d = if is_stale t d then 0 else commit_asks d.opened

-- how often a statement of his asks it
abbrev pub statement_asks_at : Session → Desk → Stmt → ℕ
statement_asks_at s d (stmt.Op op) = 0
statement_asks_at s d stmt.Commit = commit_asks_at (replay s.history) d
statement_asks_at s d stmt.Abort = 0
statement_asks_at s d (stmt.Load l) = 0
statement_asks_at s d (stmt.Ask q) = 0
statement_asks_at s d (stmt.Show q) = 0

-- how often a text of his asks it, by what it says
abbrev pub text_asks_at : Session → Desk → TextReading → ℕ
text_asks_at s d (says x) = statement_asks_at s d x
text_asks_at s d (unread w) = 0

-- how often a text asks it, by whose it is and what it says
abbrev pub owned_asks : Session → Option (List ℕ) → TextReading → ℕ
owned_asks s None r = 0
owned_asks s (Some n) r = text_asks_at s (desk_in s n) r

-- how often a cut of several curators' input asks it
abbrev pub shared_asks : Session → Cut → ℕ
shared_asks s (Text text) = owned_asks s (owner text) (reading (statement_in text))
shared_asks s TooLong = 0
shared_asks s (Unfinished text) = 0

-- ---- cuts

-- how often a cut asks it
abbrev pub cut_asks : Setting → Session → Cut → ℕ
cut_asks c s cut = if c.shared then shared_asks s cut else cut_asks_alone s cut
