-- Which statements read a file: loads that nothing is in the way of.
use Rattle.std.specs.Prelude.{ℕ, List, ◌==◌, length, is_some, not, if◌then◌else◌}
use Rattle.std.specs.declared.option.Option.{Option}
use Rattle.std.specs.declared.option.Option.TheVariants.{None, Some}
use Rattle.cp_model.specs.declared.limits.TheConstants.{SOURCES_MAX}
use Rattle.cp_model.specs.Tree.{source}
use Rattle.cp_model.specs.History.{State, replay}
use Rattle.cp_lang.specs.declared.syntax_tree.Stmt.{Stmt}
use Rattle.cp_lang.specs.declared.syntax_tree.Stmt.TheVariants as stmt
use Rattle.cp_reply.specs.declared.reply.Why.{Why}
use Rattle.cp_reply.specs.declared.reply.Why.TheVariants as why
use Rattle.cp_lang.specs.declared.cut.Cut.{Cut}
use Rattle.cp_lang.specs.declared.cut.Cut.TheVariants.{Text, TooLong, Unfinished}
use Rattle.cp_reply.specs.Session.{Setting, Session, OpenTransaction, is_closed, TextReading, says, unread, Desk, desk_in, seated, any_open}
use Rattle.cp_reply.specs.Sharing.{owner, statement_in}
use Rattle.cp_workspace.specs.Texts.{reading}

-- why nothing is loaded under the name, whatever its file gives
abbrev pub why_not_loaded : State → OpenTransaction → List ℕ → Option Why
why_not_loaded t o n =
    if not (is_closed o) then Some why.TransactionOpen
    else if is_some (source t.sources n) then Some (why.SourceThere n)
    else if length t.sources == SOURCES_MAX then Some why.TooManySources
    else None

-- how many files are read where this is in the way
abbrev pub reads_unless : Option Why → ℕ
reads_unless None = 1
reads_unless (Some w) = 0

-- how many files a load under this name reads
abbrev pub load_reads : Session → Option State → List ℕ → ℕ
load_reads s None n = 0
load_reads s (Some t) n = reads_unless (why_not_loaded t s.opened n)

-- how many files a statement reads
abbrev pub statement_reads : Session → Stmt → ℕ
statement_reads s (stmt.Op op) = 0
statement_reads s stmt.Commit = 0
statement_reads s stmt.Abort = 0
statement_reads s (stmt.Load l) = load_reads s (replay s.history) l.name
statement_reads s (stmt.Ask q) = 0
statement_reads s (stmt.Show q) = 0

-- how many files a text reads, by what it says
abbrev pub text_reads : Session → TextReading → ℕ
text_reads s (says x) = statement_reads s x
text_reads s (unread w) = 0

-- how many files a cut of one curator's input reads
abbrev pub cut_reads_alone : Session → Cut → ℕ
cut_reads_alone s (Text text) = text_reads s (reading text)
cut_reads_alone s TooLong = 0
cut_reads_alone s (Unfinished text) = 0

-- ---- several curators

-- how many files a statement of a curator reads: none while somebody has a transaction open
abbrev pub statement_reads_at : Session → Desk → Stmt → ℕ
statement_reads_at s d (stmt.Op op) = 0
statement_reads_at s d stmt.Commit = 0
statement_reads_at s d stmt.Abort = 0
statement_reads_at s d (stmt.Load l) = if any_open s.desks then 0 else load_reads (seated d s) (replay s.history) l.name
statement_reads_at s d (stmt.Ask q) = 0
statement_reads_at s d (stmt.Show q) = 0

-- how many files a text of his reads, by what it says
abbrev pub text_reads_at : Session → Desk → TextReading → ℕ
text_reads_at s d (says x) = statement_reads_at s d x
text_reads_at s d (unread w) = 0

-- how many files a text reads, by whose it is and what it says
abbrev pub owned_reads : Session → Option (List ℕ) → TextReading → ℕ
owned_reads s None r = 0
owned_reads s (Some n) r = text_reads_at s (desk_in s n) r

-- how many files a cut of several curators' input reads
abbrev pub shared_reads : Session → Cut → ℕ
shared_reads s (Text text) = owned_reads s (owner text) (reading (statement_in text))
shared_reads s TooLong = 0
shared_reads s (Unfinished text) = 0

-- ---- cuts

-- how many files a cut reads
abbrev pub cut_reads : Setting → Session → Cut → ℕ
cut_reads c s cut = if c.shared then shared_reads s cut else cut_reads_alone s cut
