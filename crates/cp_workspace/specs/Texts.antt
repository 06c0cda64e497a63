-- What a text says, and what a session is run with.
use Rattle.std.specs.Prelude.{ℕ, ◌≡◌, Bool, List, Result, Ok, Err, length}
use Rattle.cp_model.specs.Place.{Label}
use Rattle.cp_lang.specs.Grammar.{bytes_reading}
use Rattle.cp_lang.specs.declared.syntax_tree.Stmt.{Stmt}
use Rattle.cp_lang.specs.declared.syntax_tree.StmtFault.{StmtFault}
use Rattle.cp_lang.specs.declared.syntax_tree.StmtFault.TheVariants as fault
use Rattle.cp_lang.specs.Written.{IsWrittenStmt}
use Rattle.cp_reply.specs.declared.reply.Why.{Why}
use Rattle.cp_reply.specs.declared.reply.Why.TheVariants as why
use Rattle.cp_reply.specs.Session.{TextReading, says, unread, Setting}
use Rattle.cp_frame.specs.Sizes.{FrameEnd, end_of, has_room, load_size, stamped_size}
use Rattle.cp_workspace.specs.Fetching.{fetch}

-- a statement, or why the text is none
abbrev pub read_as : List ℕ → Result Stmt StmtFault → TextReading
read_as text (Ok s) = says s
read_as text (Err (fault.Syntax at)) = unread (why.Syntax at)
read_as text (Err (fault.Place at e)) = unread (why.Place at e)
read_as text (Err fault.Memory) = unread (why.Syntax (length text))

-- what a text says
unfoldable pub reading : List ℕ → TextReading
reading text = read_as text (bytes_reading text)

-- ---- sessions

-- what a session is run on: the file, of which is known where its frames end after some entries, the curator of its commits, and
-- whether the input is that of several curators, each of whom makes his own
pub record Terms : Type 0 where
  pub ends : FrameEnd
  pub curator : Label
  pub shared : Bool

-- the whole language is read, sources are loaded from files, and an entry is added that the file has room for
abbrev pub setting : Terms → Setting
setting terms = record {
  read = reading;
  fetch = fetch;
  fits = λ history stamp ops records. has_room (end_of terms.ends history)
      (stamped_size stamp ops records);
  has_room = λ history n t. has_room (end_of terms.ends history) (load_size n t);
  curator = terms.curator;
  shared = terms.shared;
}

-- What the code made of a text: a statement, or why it is refused.
abbrev pub SaysAs : List ℕ → Result Stmt Why → Type 0
SaysAs text (Ok s) = (reading text ≡ says s) × IsWrittenStmt s
SaysAs text (Err w) = reading text ≡ unread w
