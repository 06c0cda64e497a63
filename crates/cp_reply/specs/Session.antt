-- A session: what each cut of the input replies, and the state that it leaves.
use Rattle.cp_model.specs.declared.limits.TheConstants.{OPS_MAX, SOURCES_MAX}
use Rattle.std.specs.Prelude.{ℕ, ◌+◌, ◌-◌, ◌==◌, ◌&&◌, List, [], ◌∷◌, ◌++◌, Bool, true, false, not, drop, length, map, is_some, nat_lt, if◌then◌else◌}
use Rattle.std.specs.declared.option.Option.{Option}
use Rattle.std.specs.declared.option.Option.TheVariants.{None, Some}
use Rattle.std.specs.Option.{option_map}
use Rattle.cp_outside.specs.FileReads.{FileTable}
use Rattle.cp_path.specs.Text.{text_eq}
use Rattle.cp_path.specs.declared.loc.Loc.{Loc}
use Rattle.cp_model.specs.Place.{Path, Label, in_target}
use Rattle.cp_model.specs.Keyed as keyed
use Rattle.cp_model.specs.Subtrees.{below, is_there}
use Rattle.cp_model.specs.Tree.{Tree, source, refusal}
use Rattle.cp_model.specs.Step.{Outcome, done, refused, step, contents}
use Rattle.cp_model.specs.Past.{tree_of}
use Rattle.cp_model.specs.History.{Entry, start, load, commit, State, replay, steps_of, after_commit}
use Rattle.cp_model.specs.Versions.{version}
use Rattle.cp_model.specs.Answers.{answer_to}
use Rattle.cp_model.specs.declared.op.Op.{Op}
use Rattle.cp_model.specs.declared.op.Op.TheVariants.{Ins, Del, Copy}
use Rattle.cp_model.specs.declared.kind.Kind.{Kind}
use Rattle.cp_model.specs.declared.record.Record.{Record}
use Rattle.cp_model.specs.declared.row.Row.{Row}
use Rattle.cp_model.specs.declared.row.Content.{Content}
use Rattle.cp_model.specs.declared.stamp.Stamp.{Stamp}
use Rattle.cp_model.specs.declared.query.Query.{Query}
use Rattle.cp_model.specs.declared.query.Query.TheVariants as query
use Rattle.cp_model.specs.declared.answer.Answer.{Answer}
use Rattle.cp_model.specs.declared.refusal.Refusal.{Refusal}
use Rattle.cp_model.specs.declared.refusal.Refusal.TheVariants as refusal
use Rattle.cp_model.specs.declared.refusal.Cause.{Cause}
use Rattle.cp_model.specs.declared.refusal.Cause.TheVariants.{Refused, Unread}
use Rattle.cp_lang.specs.Lexer.{spaces}
use Rattle.cp_lang.specs.declared.cut.Cut.{Cut}
use Rattle.cp_lang.specs.declared.cut.Cut.TheVariants.{Text, TooLong, Unfinished}
use Rattle.cp_lang.specs.declared.syntax_tree.Stmt.{Stmt}
use Rattle.cp_lang.specs.declared.syntax_tree.Stmt.TheVariants as stmt
use Rattle.cp_lang.specs.declared.syntax_tree.Load.{Load}
use Rattle.cp_reply.specs.declared.reply.Of.TheVariants as of
use Rattle.cp_reply.specs.declared.reply.Why.{Why}
use Rattle.cp_reply.specs.declared.reply.Why.TheVariants as why
use Rattle.cp_reply.specs.declared.reply.Reply.{Reply}
use Rattle.cp_reply.specs.declared.reply.Reply.TheVariants as reply
use Rattle.cp_reply.specs.declared.said.Said.{Said}
use Rattle.cp_reply.specs.Sharing.{owner, statement_in, bad_byte_or}

-- ---- what a session is run with

-- what a text says: a statement, or why it is none
pub data TextReading : Type 0 where
  says : Stmt → TextReading
  unread : Why → TextReading

-- what a source file gives: a tree, or why it gives none
pub data FetchedFile : Type 0 where
  gives : Tree → FetchedFile
  withholds : Why → FetchedFile

-- what the table leaves to whoever runs a session
pub record Setting : Type 0 where
  pub read : List ℕ → TextReading
  -- of these files
  pub fetch : FileTable → Load → FetchedFile
  -- after this history an entry of these operations and records is within the limits of an entry's bytes and the file's
  pub fits : List Entry → Stamp → List Op → List Record → Bool
  -- after this history the file has room for an entry of this source
  pub has_room : List Entry → List ℕ → Tree → Bool
  pub curator : Label
  -- the input is that of several curators, each of whose texts begins with his name
  pub shared : Bool

-- ---- what comes from outside

-- What is told to a session one after another: the moments of the clock, and the files as each read finds them.
pub record Supply : Type 0 where
  pub moments : List ℕ
  pub tables : List FileTable

-- nothing
abbrev pub no_supply : Supply
no_supply = record { moments = []; tables = [] }

-- the one, and then the other
abbrev pub followed_by : Supply → Supply → Supply
followed_by first later = record { moments = first.moments ++ later.moments; tables = first.tables ++ later.tables }

-- the next moment that the clock tells, and 0 where it tells none
abbrev pub next_moment : List ℕ → ℕ
next_moment [] = 0
next_moment (m ∷ ms) = m

-- the files as the next read finds them, and none where that isn't told
abbrev pub next_table : List FileTable → FileTable
next_table [] = λ name. None
next_table (t ∷ ts) = t

-- ---- states

-- the open transaction: none, operations that were accepted, or the number of the one at which it failed
pub data OpenTransaction : Type 0 where
  closed : OpenTransaction
  going : List Op → OpenTransaction
  failed : ℕ → Cause → OpenTransaction

-- the open transaction of one of several curators, and the last Tid when it was opened
pub record Desk : Type 0 where
  pub name : List ℕ
  pub opened : OpenTransaction
  pub since : ℕ

-- the state of a session
pub record Session : Type 0 where
  pub history : List Entry
  pub opened : OpenTransaction
  -- where the input is that of several curators, the transactions that they have open
  pub desks : List Desk
  -- what is still told
  pub supply : Supply

-- a reply, if there is one, and the next state
pub record Turn : Type 0 where
  pub reply : Option Reply
  -- where the input is that of several curators, the one to whom it replies
  pub whose : Option (List ℕ)
  pub next : Session

-- no reply
abbrev pub silent : Session → Turn
silent s = record { reply = None; whose = None; next = s }

-- a reply
abbrev pub replies : Reply → Session → Turn
replies r s = record { reply = Some r; whose = None; next = s }

-- the refusal of a statement
abbrev pub refuses : Why → Session → Turn
refuses w s = replies (reply.Refused of.Statement w) s

-- the transaction becomes x
abbrev pub with_opened : Session → OpenTransaction → Session
with_opened s x = record s { opened = x }

-- the history gets one entry more
abbrev pub with_entry : Session → Entry → Session
with_entry s e = record s { history = s.history ++ e ∷ [] }

-- ---- operations

-- what is refused of the label a at the place p: what a reply names
abbrev pub why_label_refused : Loc → Label → Refusal → Why
why_label_refused p a refusal.NoPlace = why.NoPlace p
why_label_refused p a refusal.LabelThere = why.LabelThere a p
why_label_refused p a refusal.NoLabel = why.NoLabel a p
why_label_refused p a refusal.NotANode = why.NotANode p
why_label_refused p a refusal.ReadOnly = why.ReadOnly p
why_label_refused p a refusal.TooDeep = why.TooDeep
why_label_refused p a refusal.TooMany = why.TooMany
why_label_refused p a refusal.TooBig = why.TooBig
why_label_refused p a refusal.TooManyOps = why.TooManyOps
-- neither an insertion nor a deletion is refused so
why_label_refused p a refusal.NoSource = why.NoSource p.db
why_label_refused p a refusal.NoOrigin = why.NoOrigin p

-- what is refused of a copy of the place q into p
abbrev pub why_copy_refused : Loc → Loc → Refusal → Why
why_copy_refused q p refusal.NoPlace = why.NoPlace p
why_copy_refused q p refusal.ReadOnly = why.ReadOnly p
why_copy_refused q p refusal.NoSource = why.NoSource q.db
why_copy_refused q p refusal.NoOrigin = why.NoOrigin q
why_copy_refused q p refusal.TooDeep = why.TooDeep
why_copy_refused q p refusal.TooMany = why.TooMany
why_copy_refused q p refusal.TooBig = why.TooBig
why_copy_refused q p refusal.TooManyOps = why.TooManyOps
-- no copy is refused so
why_copy_refused q p refusal.LabelThere = why.NoPlace p
why_copy_refused q p refusal.NoLabel = why.NoPlace p
why_copy_refused q p refusal.NotANode = why.NotANode p

-- the place and the label that the refusal of an operation names
abbrev pub why_refused : Op → Refusal → Why
why_refused (Ins p a l) r = why_label_refused p a r
why_refused (Del a p) r = why_label_refused p a r
why_refused (Copy q p) r = why_copy_refused q p r

-- the refusal of an operation on the working tree of the operations so far, if there is one
abbrev pub refusal_on : State → Outcome → Op → Option Refusal
refusal_on s (done k w) op = refusal s.sources (contents w) op
refusal_on s (refused n r) op = Some r

-- the refusal of an operation behind those that are held, if there is one
abbrev pub refusal_after : State → List Op → Op → Option Refusal
refusal_after s ops op =
    if length ops == OPS_MAX then Some refusal.TooManyOps else refusal_on s (step (tree_of s.tree) s.sources ops) op

-- an operation that is refused fails the transaction, another is held
abbrev pub decide_op : Session → List Op → Op → Option Refusal → Turn
decide_op s ops op (Some r) = refuses (why_refused op r) (with_opened s (failed (length ops + 1) (Refused r)))
decide_op s ops op None = silent (with_opened s (going (ops ++ op ∷ [])))

-- a later operation of a failed transaction is refused too
abbrev pub on_operation : Session → State → Op → OpenTransaction → Turn
on_operation s t op (failed n c) = refuses (why.FailedAt n) s
on_operation s t op closed = decide_op s [] op (refusal_after t [] op)
on_operation s t op (going ops) = decide_op s ops op (refusal_after t ops op)

-- a text that can't be read counts as an operation that is refused
abbrev pub fail_unread : OpenTransaction → OpenTransaction
fail_unread closed = failed 1 Unread
fail_unread (going ops) = failed (length ops + 1) Unread
fail_unread (failed n c) = failed n c

-- the refusal of a text that can't be read
abbrev pub not_read : Session → Why → Turn
not_read s w = refuses w (with_opened s (fail_unread s.opened))

-- ---- commit and abort

-- no transaction is open after a refused commit
abbrev pub refused_commit : Why → Session → Turn
refused_commit w s = replies (reply.Refused of.Commit w) (with_opened s closed)

-- the records of the last commit
abbrev pub new_records : State → State → List Record
new_records before after = drop (length before.rows) after.rows

-- a moment was taken, and no transaction is open
abbrev pub after_moment : Session → Session
after_moment s = record s { opened = closed; supply = record { moments = drop 1 s.supply.moments; tables = s.supply.tables } }

-- the curator and the moment of a commit
abbrev pub stamp_of : Setting → Session → Stamp
stamp_of c s = record { curator = c.curator; moment = next_moment s.supply.moments }

-- the Tids of the commit, unless its entry is too large
abbrev pub commit_ops : Setting → Session → State → List Op → Turn
commit_ops c s t ops =
    if c.fits s.history (stamp_of c s) ops (new_records t (after_commit t ops))
    then replies (reply.Committed (t.now + 1) (t.now + length (steps_of t.kind ops))) (with_entry (after_moment s) (commit (stamp_of c s) ops))
    else replies (reply.Refused of.Commit why.TransactionTooLarge) (after_moment s)

-- the table of commit
abbrev pub on_commit : Setting → Session → State → OpenTransaction → Turn
on_commit c s t closed = refused_commit why.NoOperation s
on_commit c s t (failed n k) = refused_commit (why.FailedAt n) s
on_commit c s t (going ops) = commit_ops c s t ops

-- the number of operations that are given up
abbrev pub count_given_up : OpenTransaction → ℕ
count_given_up closed = 0
count_given_up (going ops) = length ops
count_given_up (failed n c) = n - 1

-- ---- load

-- the refusal of a load
abbrev pub refused_load : Why → Session → Turn
refused_load w s = replies (reply.Refused of.Load w) s

-- no transaction is open
abbrev pub is_closed : OpenTransaction → Bool
is_closed closed = true
is_closed (going ops) = false
is_closed (failed n c) = false

-- a file was read
abbrev pub after_read : Session → Session
after_read s = record s { supply = record { moments = s.supply.moments; tables = drop 1 s.supply.tables } }

-- the source is loaded, unless the store has no room
abbrev pub load_fetched : Setting → Session → List ℕ → FetchedFile → Turn
load_fetched c s n (withholds w) = refused_load w s
load_fetched c s n (gives t) =
    if c.has_room s.history n t then replies (reply.Loaded n (keyed.len t)) (with_entry s (load n t)) else refused_load why.StoreTooLarge s

-- the refusals of load in their order
abbrev pub on_load : Setting → Session → State → Load → Turn
on_load c s t l =
    if not (is_closed s.opened) then refused_load why.TransactionOpen s
    else if is_some (source t.sources l.name) then refused_load (why.SourceThere l.name) s
    else if length t.sources == SOURCES_MAX then refused_load why.TooManySources s
    else load_fetched c (after_read s) l.name (c.fetch (next_table s.supply.tables) l)

-- ---- show and queries

-- an entry of a tree as a row
abbrev pub row_of : Path × Content → Row
row_of e = record { path = e.0; content = e.1 }

-- what stands at and below the place, if the tree and the place are there
abbrev pub show_at : Session → Loc → Option Tree → Turn
show_at s q None = refuses (why.NoSource q.db) s
show_at s q (Some t) = if is_there t q.path then replies (reply.Show q (map row_of (below q.path t))) s else refuses (why.NoPlace q) s

-- the tree after operations
abbrev pub outcome_tree : State → Outcome → Tree
outcome_tree t (done k w) = contents w
outcome_tree t (refused n r) = tree_of t.tree

-- the working tree of a going transaction, else the committed one
abbrev pub current_tree : State → OpenTransaction → Tree
current_tree t closed = tree_of t.tree
current_tree t (going ops) = outcome_tree t (step (tree_of t.tree) t.sources ops)
current_tree t (failed n c) = tree_of t.tree

-- the tree of the place's database
abbrev pub on_show : Session → State → Loc → Turn
on_show s t q = show_at s q (if in_target q then Some (current_tree t s.opened) else source t.sources q.db)

-- the place that a query names
abbrev pub no_place_of : Query → Why
no_place_of (query.Src q) = why.NoPlace q
no_place_of (query.Hist q) = why.NoPlace q
no_place_of (query.Mod q) = why.NoPlace q
no_place_of (query.Trace q) = why.NoPlace q
no_place_of (query.From q) = why.NoPlace q
no_place_of (query.Records t) = why.NoOperation
no_place_of query.Stats = why.NoOperation

-- the answer, or that its place isn't there
abbrev pub answer_or_refuse : Session → Query → Option Answer → Turn
answer_or_refuse s q None = refuses (no_place_of q) s
answer_or_refuse s q (Some a) = replies (reply.Answered q a) s

-- ---- the table

-- on the state that the history leads to
abbrev pub turn_on : Setting → Session → State → Stmt → Turn
turn_on c s t (stmt.Op op) = on_operation s t op s.opened
turn_on c s t stmt.Commit = on_commit c s t s.opened
turn_on c s t stmt.Abort = replies (reply.Aborted (count_given_up s.opened)) (with_opened s closed)
turn_on c s t (stmt.Load l) = on_load c s t l
turn_on c s t (stmt.Ask q) = answer_or_refuse s q (answer_to t q)
turn_on c s t (stmt.Show q) = on_show s t q

-- a history without a state answers nothing
abbrev pub turn_by : Setting → Session → Option State → Stmt → Turn
turn_by c s None x = silent s
turn_by c s (Some t) x = turn_on c s t x

-- what a text brings, by what it says
abbrev pub turn_of : Setting → Session → TextReading → Turn
turn_of c s (says x) = turn_by c s (replay s.history) x
turn_of c s (unread w) = not_read s w

-- what each cut of one curator's input replies, and the state that it leaves
abbrev pub turn_alone : Setting → Session → Cut → Turn
turn_alone c s (Text text) = turn_of c s (c.read text)
turn_alone c s TooLong = not_read s why.StatementTooLong
turn_alone c s (Unfinished text) = not_read s (why.Syntax (length text))

-- ---- several curators

-- the desk of the name; where it has none, its transaction is closed, and would be opened after the Tid now
abbrev pub desk_of : ℕ → List ℕ → List Desk → Desk
desk_of now n [] = record { name = n; opened = closed; since = now }
desk_of now n (d ∷ ds) = if text_eq n d.name then d else desk_of now n ds

-- the desks of other names
abbrev pub other_desks : List ℕ → List Desk → List Desk
other_desks n [] = []
other_desks n (d ∷ ds) = if text_eq n d.name then other_desks n ds else d ∷ other_desks n ds

-- its name has this desk, or none where its transaction is closed
abbrev pub with_desk : Desk → List Desk → List Desk
with_desk d ds = if is_closed d.opened then other_desks d.name ds else d ∷ other_desks d.name ds

-- somebody has a transaction open
abbrev pub any_open : List Desk → Bool
any_open [] = false
any_open (d ∷ ds) = true

-- operations were accepted, and none was refused
abbrev pub is_going : OpenTransaction → Bool
is_going closed = false
is_going (going ops) = true
is_going (failed n c) = false

-- in a curator's turn his transaction is the one that is open
abbrev pub seated : Desk → Session → Session
seated d s = with_opened s d.opened

-- after it the transaction stands on his desk again
abbrev pub risen : Desk → Session → Session
risen d s = record s { opened = closed; desks = with_desk (record d { opened = s.opened }) s.desks }

-- his turn, by what it brings while his transaction is open
abbrev pub turn_for : Desk → Turn → Turn
turn_for d t = record { reply = t.reply; whose = Some d.name; next = risen d t.next }

-- the state, if there is one, or else t
abbrev pub state_or : State → Option State → State
state_or t None = t
state_or t (Some z) = z

-- the state on which his operations work: the one after which his transaction was opened, while that is going
abbrev pub base : List Entry → State → Desk → State
base h t d = if is_going d.opened then state_or t (version h d.since) else t

-- there was a commit after his transaction was opened
abbrev pub is_stale : State → Desk → Bool
is_stale t d = is_going d.opened && nat_lt d.since t.now

-- this curator makes the commits
abbrev pub for_curator : List ℕ → Setting → Setting
for_curator n c = record c { curator = n }

-- The table of a curator's statement, on the state that the history leads to. His operations see the tree on which his transaction
-- began, with all sources; a commit after another's is stale; a source is loaded only while nobody has a transaction open.
abbrev pub turn_at : Setting → Session → State → Desk → Stmt → Turn
turn_at c s t d (stmt.Op op) = on_operation (seated d s) (base s.history t d) op d.opened
turn_at c s t d stmt.Commit = if is_stale t d then refused_commit (why.Stale t.now) (seated d s) else on_commit (for_curator d.name c) (seated d s) t d.opened
turn_at c s t d stmt.Abort = replies (reply.Aborted (count_given_up d.opened)) (with_opened s closed)
turn_at c s t d (stmt.Load l) = if any_open s.desks then refused_load why.TransactionOpen (seated d s) else on_load c (seated d s) t l
turn_at c s t d (stmt.Ask q) = answer_or_refuse (seated d s) q (answer_to t q)
turn_at c s t d (stmt.Show q) = on_show (seated d s) (base s.history t d) q

-- a history without a state answers nothing
abbrev pub turn_at_by : Setting → Session → Option State → Desk → Stmt → Turn
turn_at_by c s None d x = silent s
turn_at_by c s (Some t) d x = turn_for d (turn_at c s t d x)

-- what a curator's text brings, by what it says
abbrev pub turn_at_of : Setting → Session → Desk → TextReading → Turn
turn_at_of c s d (says x) = turn_at_by c s (replay s.history) d x
turn_at_of c s d (unread w) = turn_for d (not_read (seated d s) w)

-- the last Tid
abbrev pub last_tid : Option State → ℕ
last_tid None = 0
last_tid (Some t) = t.now

-- the desk of a name
abbrev pub desk_in : Session → List ℕ → Desk
desk_in s n = desk_of (last_tid (replay s.history)) n s.desks

-- what a text brings, by whose it is and what it says; one that is nobody's is refused at this offset, and touches no transaction
abbrev pub turn_by_owner : Setting → Session → ℕ → Option (List ℕ) → TextReading → Turn
turn_by_owner c s at None r = refuses (why.Syntax at) s
turn_by_owner c s at (Some n) r = turn_at_of c s (desk_in s n) r

-- what each cut of several curators' input replies, and the state that it leaves
abbrev pub shared_turn : Setting → Session → Cut → Turn
shared_turn c s (Text text) = turn_by_owner c s (bad_byte_or (spaces text) text) (owner text) (c.read (statement_in text))
shared_turn c s TooLong = refuses why.StatementTooLong s
shared_turn c s (Unfinished text) = turn_by_owner c s (bad_byte_or (length text) text) (owner text) (unread (why.Syntax (length text)))

-- ---- turns

-- what each cut replies, and the state that it leaves
unfoldable pub turn : Setting → Session → Cut → Turn
turn c s cut = if c.shared then shared_turn c s cut else turn_alone c s cut

-- ---- whole sessions

-- a reply, and whose it is
abbrev pub said_to : Option (List ℕ) → Reply → Said
said_to whose r = record { whose = whose; reply = r }

-- the reply of a turn, if it has one
abbrev pub said_in : Turn → Option Said
said_in t = option_map (said_to t.whose) t.reply

-- one more before them, if there is one
abbrev pub with_said : Option Said → List Said → List Said
with_said None xs = xs
with_said (Some x) xs = x ∷ xs

-- the replies to cuts, in order
unfoldable pub replies_to : Setting → Session → List Cut → List Said
replies_to c s [] = []
replies_to c s (x ∷ xs) = with_said (said_in (turn c s x)) (replies_to c (turn c s x).next xs)

-- the state behind them
unfoldable pub session_after : Setting → Session → List Cut → Session
session_after c s [] = s
session_after c s (x ∷ xs) = session_after c (turn c s x).next xs

-- a session on a history of its own, which has a start tree alone, with these moments of the clock
abbrev pub fresh : Kind → Tree → List ℕ → Session
fresh k t moments = record { history = start k t ∷ []; opened = closed; desks = []; supply = record { moments = moments; tables = [] } }

-- one reply more, if there is one
abbrev pub with_reply : Option Reply → List Reply → List Reply
with_reply None rs = rs
with_reply (Some r) rs = r ∷ rs

-- the replies to statements that are handed over as values
unfoldable pub replies_to_statements : Setting → Session → List Stmt → List Reply
replies_to_statements c s [] = []
replies_to_statements c s (x ∷ xs) = with_reply (turn_of c s (says x)).reply (replies_to_statements c (turn_of c s (says x)).next xs)

-- the state that they leave
unfoldable pub session_after_statements : Setting → Session → List Stmt → Session
session_after_statements c s [] = s
session_after_statements c s (x ∷ xs) = session_after_statements c (turn_of c s (says x)).next xs
