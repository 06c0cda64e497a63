-- The laws of several curators' sessions, as statements.
use Rattle.std.specs.Prelude.{ℕ, ◌≡◌, ◌⊎◌, ◌&&◌, Bool, true, false, List, [], ◌∷◌, ◌++◌, map, length, ⊤, if◌then◌else◌}
use Rattle.std.specs.List.{list_any, filter}
use Rattle.std.specs.declared.option.Option.{Option}
use Rattle.std.specs.declared.option.Option.TheVariants.{None, Some}
use Rattle.cp_path.specs.Text.{text_eq}
use Rattle.cp_model.specs.History.{Entry, start, load, commit, State, replay, IsWritten, CanFollow, IsLegal}
use Rattle.cp_model.specs.declared.op.Op.{Op}
use Rattle.cp_lang.specs.declared.cut.Cut.{Cut}
use Rattle.cp_lang.specs.declared.cut.Cut.TheVariants as cut
use Rattle.cp_lang.specs.declared.syntax_tree.Stmt.TheVariants as stmt
use Rattle.cp_reply.specs.declared.reply.Reply.{Reply}
use Rattle.cp_reply.specs.declared.reply.Why.TheVariants as why
use Rattle.cp_reply.specs.Sharing.{owner, statement_in}
use Rattle.cp_reply.specs.Session.{Setting, Desk, Session, Turn, TextReading, says, unread, closed, turn, with_reply, replies_to, session_after}

-- ---- commits are on the last tree

-- each operation that is read can be written
abbrev pub ReadsWritten : Setting → Type 0
ReadsWritten c = (text : List ℕ) (op : Op) → c.read text ≡ says (stmt.Op op) → IsWritten op

-- A curator's turn may add the entry: a source, or a commit in his name whose operations were accepted on the state before it.
abbrev pub MayAdd : List Entry → Option (List ℕ) → Entry → Type 0
MayAdd h whose (start k t) = ⊥
MayAdd h whose (load n t) = ⊤
MayAdd h whose (commit stamp ops) = (whose ≡ Some stamp.curator) × CanFollow (replay h) (commit stamp ops)

-- the turn leaves the history as it is, or adds one such entry
abbrev pub AddsOneEntry : List Entry → Turn → Type 0
AddsOneEntry h x = (x.next.history ≡ h) ⊎ ((e : Entry) × (x.next.history ≡ h ++ e ∷ []) × MayAdd h x.whose e)

-- Several curators' input begins while nobody has a transaction open. After any cuts of it, as long as the history is legal, each
-- turn adds at most one entry, and the operations of a commit were accepted on exactly the tree that the history had before it.
abbrev pub CommitsAreOnTheLastTree : Type 0
CommitsAreOnTheLastTree =
    (c : Setting) → c.shared ≡ true → ReadsWritten c
    → (s : Session) (t : State) → replay s.history ≡ Some t → s.desks ≡ []
    → (cuts : List Cut) (x : Cut) → IsLegal (session_after c s cuts).history
    → AddsOneEntry (session_after c s cuts).history (turn c (session_after c s cuts) x)

-- ---- curators are answered as if each were alone

-- whose a cut is
abbrev pub owner_of : Cut → Option (List ℕ)
owner_of (cut.Text text) = owner text
owner_of cut.TooLong = None
owner_of (cut.Unfinished text) = owner text

-- the cut without its owner's name
abbrev pub unsigned : Cut → Cut
unsigned (cut.Text text) = cut.Text (statement_in text)
unsigned cut.TooLong = cut.TooLong
unsigned (cut.Unfinished text) = cut.Unfinished text

-- what it says then
abbrev pub reading_of : Setting → Cut → TextReading
reading_of c (cut.Text text) = c.read (statement_in text)
reading_of c cut.TooLong = unread why.StatementTooLong
reading_of c (cut.Unfinished text) = unread (why.Syntax (length text))

-- an operation, or what can't be read and counts as one
abbrev pub is_operation : TextReading → Bool
is_operation (says (stmt.Op op)) = true
is_operation (says stmt.Commit) = false
is_operation (says stmt.Abort) = false
is_operation (says (stmt.Load l)) = false
is_operation (says (stmt.Ask q)) = false
is_operation (says (stmt.Show q)) = false
is_operation (unread w) = true

-- a commit or an abort
abbrev pub is_ending : TextReading → Bool
is_ending (says (stmt.Op op)) = false
is_ending (says stmt.Commit) = true
is_ending (says stmt.Abort) = true
is_ending (says (stmt.Load l)) = false
is_ending (says (stmt.Ask q)) = false
is_ending (says (stmt.Show q)) = false
is_ending (unread w) = false

-- it is this name
abbrev pub is_named : List ℕ → Option (List ℕ) → Bool
is_named n None = false
is_named n (Some m) = text_eq n m

-- the curator makes an operation by this cut
abbrev pub operates : Setting → List ℕ → Cut → Bool
operates c n x = is_named n (owner_of x) && is_operation (reading_of c x)

-- he ends his transaction by it
abbrev pub finishes : Setting → List ℕ → Cut → Bool
finishes c n x = is_named n (owner_of x) && is_ending (reading_of c x)

-- the replies to those cuts alone that are such
unfoldable pub replies_where : (Cut → Bool) → Setting → Session → List Cut → List Reply
replies_where test c s [] = []
replies_where test c s (x ∷ xs) =
    if test x then with_reply (turn c s x).reply (replies_where test c (turn c s x).next xs)
    else replies_where test c (turn c s x).next xs

-- the curator has a transaction open
abbrev pub has_open : List ℕ → List Desk → Bool
has_open n ds = list_any (λ d. text_eq n d.name) ds

-- the setting of one curator's input
abbrev pub of_one : Setting → Setting
of_one c = record c { shared = false }

-- a session of one curator on the same history
abbrev pub begun_alone : Session → Session
begun_alone s = record s { opened = closed; desks = [] }

-- A curator without a transaction makes an operation, and others follow, his and those of anybody else, of which none ends his
-- transaction. Then the replies to his operations are those of a session that is his alone, on the history with which his transaction
-- began, to which his operations alone are given.
abbrev pub CuratorsAreAnsweredAlone : Type 0
CuratorsAreAnsweredAlone =
    (c : Setting) → c.shared ≡ true
    → (s : Session) (t : State) → IsLegal s.history → replay s.history ≡ Some t
    → (n : List ℕ) → has_open n s.desks ≡ false
    → (x : Cut) (xs : List Cut) → operates c n x ≡ true → list_any (finishes c n) xs ≡ false
    → replies_where (operates c n) c s (x ∷ xs)
    ≡ map (λ r. r.reply)
    (replies_to (of_one c) (begun_alone s) (map unsigned (filter (operates c n) (x ∷ xs))))
