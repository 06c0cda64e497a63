-- What a workspace keeps of a session: the database with its history, and the open transaction or those of several curators.
use Rattle.std.specs.Prelude.{ℕ, ◌≡◌, ◌⊎◌, ◌+◌, ◌≤◌, ◌<◌, ◌++◌, true, false, IsTrue, List, [], length, map, is_some, if◌then◌else◌, Result, Ok, Err, IfOk, OnOk, ⊤}
use Rattle.std.specs.declared.option.Option.{Option}
use Rattle.std.specs.declared.option.Option.TheVariants.{None, Some}
use Rattle.std.specs.Option.{option_map}
use Rattle.cp_path.specs.declared.loc.Loc.{Loc}
use Rattle.cp_model.specs.Place.{in_target}
use Rattle.cp_model.specs.declared.limits.TheConstants.{SOURCES_MAX}
use Rattle.cp_model.specs.Tree.{Tree, source}
use Rattle.cp_model.specs.Subtrees.{is_there, below}
use Rattle.cp_model.specs.Past.{tree_of}
use Rattle.cp_model.specs.History.{Entry, State}
use Rattle.cp_model.specs.declared.op.Op.{Op}
use Rattle.cp_disk.specs.Views.{KnownDisk, ViewKeeps}
use Rattle.cp_reply.specs.declared.reply.Reply.{Reply}
use Rattle.cp_reply.specs.declared.reply.Of.TheVariants as of
use Rattle.cp_reply.specs.declared.reply.Why.TheVariants as why
use Rattle.cp_reply.specs.declared.reply.Reply.TheVariants as reply
use Rattle.cp_reply.specs.declared.said.Said.{Said}
use Rattle.cp_reply.specs.Session.{Supply, followed_by, Session, OpenTransaction, closed, going, failed, Turn, said_to, said_in, row_of, why_refused}
use Rattle.cp_engine.specs.Transactions as txn
use Rattle.cp_engine.specs.declared.txn.Txn.{Txn}
use Rattle.cp_engine.specs.declared.fault.ApplyFault.{ApplyFault}
use Rattle.cp_engine.specs.declared.fault.ApplyFault.TheVariants as denied
use Rattle.cp_curators.specs.Curators.{StandsOver}
use Rattle.cp_curators.specs.declared.curators.Curators.{Curators}
use Rattle.cp_frame.specs.Sizes.{FrameEnd, end_of}
use Rattle.cp_db.specs.Databases as database
use Rattle.cp_db.specs.Databases.{HoldsState, IsDatabase, IsReady, IsKept, HasCome, IsSameFile, end_in, is_spent, version_in}
use Rattle.cp_db.specs.declared.database.Db.{Db}
use Rattle.cp_workspace.specs.Seats.{Seats, progress_of}
use Rattle.cp_workspace.specs.Texts.{Terms}
use Rattle.cp_workspace.specs.declared.fault.WorkspaceFault.{WorkspaceFault}
use Rattle.cp_workspace.specs.declared.workspace.Workspace.{Workspace}
use Rattle.cp_frame.specs.Stands.{StandsForEither}
pub use Rattle.cp_lang.specs.Written.{IsWrittenStmt}

-- ---- what it stands for

-- the transaction, if one is open, has come as far as the session's
abbrev pub Opens : {R S : Type 0} → (R → Tree) → (S → Tree) → Db R S → Option (Txn R)
    → OpenTransaction → Type 0
Opens view source_view d None closed = ⊤
Opens view source_view d None (going ops) = ⊥
Opens view source_view d None (failed i c) = ⊥
Opens view source_view d (Some x) closed = ⊥
Opens view source_view d (Some x) (going ops) =
    HasCome view source_view d x (txn.going ops) × (1 ≤ length ops)
Opens view source_view d (Some x) (failed i c) = HasCome view source_view d x (txn.failed i c)

-- the frames end here after the history, which begins with the entries of which it is known where they end
pub record EndsAt (f : FrameEnd) (h : List Entry) (at : ℕ) : Type 0 where
  pub later : List Entry
  pub begun : h ≡ f.entries ++ later
  pub is_end : at ≡ end_of f h

-- the database stands for the session's history, and the open transactions are the session's
pub record Stands {R S : Type 0} (view : R → Tree) (source_view : S → Tree) (terms : Terms)
    (d : Workspace R S) (s : Session) : Type 0 where
  pub db : database.Stands view source_view true d.db s.history
  pub ends : EndsAt terms.ends s.history (end_in d.db)
  pub curator : d.curator ≡ terms.curator
  pub opened : Opens view source_view d.db d.transaction s.opened
  pub shared : is_some d.curators ≡ terms.shared
  pub desks : Seats view s.history db.state d.curators s.desks

-- its database
abbrev pub db_in : {R S : Type 0} → Workspace R S → Db R S
db_in d = d.db

-- its input is that of one curator
abbrev pub IsOfOne : {R S : Type 0} → Workspace R S → Type 0
IsOfOne d = d.curators ≡ None

-- its file is of version 2, in which commits have stamps
abbrev pub HasStamps : {R S : Type 0} → Workspace R S → Type 0
HasStamps d = version_in (db_in d) ≡ 2

-- ---- what may be run on it

-- the transaction, if one is open, was begun on the database
abbrev pub IsBegun : {R S : Type 0} → (R → Tree) → (S → Tree) → Db R S → Option (Txn R) → Type 0
IsBegun view source_view d None = ⊤
IsBegun view source_view d (Some x) = (p : txn.Progress) × HasCome view source_view d x p

-- Where there are several curators, theirs alone are open; and whatever state the database holds, they stand over it.
abbrev pub AreBegun : {R S : Type 0} → (R → Tree) → (S → Tree) → Db R S → Option (Curators R)
    → Option (Txn R) → Type 0
AreBegun view source_view d None x = ⊤
AreBegun view source_view d (Some c) x =
    (x ≡ None) × ((s : State) → HoldsState view source_view d s
    → StandsOver view s.sources (tree_of s.tree) s.kind s.now c)

-- its database holds some state, and may be written
pub record IsWorkspace {R S : Type 0} (view : R → Tree) (source_view : S → Tree)
    (d : Workspace R S) : Type 0 where
  pub stands : IsDatabase view source_view d.db
  pub usable : is_spent d.db ≡ false
  pub begun : IsBegun view source_view d.db d.transaction
  pub desks : AreBegun view source_view d.db d.curators d.transaction

-- and the disk, where it is known what that holds, is one on which it may be
pub record IsUsable {R S : Type 0} (view : R → Tree) (source_view : S → Tree) (v : KnownDisk)
    (d : Workspace R S) : Type 0 where
  pub workspace : IsWorkspace view source_view d
  pub ready : IsTrue v.known → IsReady d.db v.view

-- the disk holds its file, which tells the history
abbrev pub HoldsFile : {R S : Type 0} → Workspace R S → List Entry → KnownDisk → Type 0
HoldsFile d h v = IsKept true d.db h v.view

-- what it keeps of its file is the same
abbrev pub KeepsFile : {R S : Type 0} → Workspace R S → Workspace R S → Type 0
KeepsFile old new = IsSameFile old.db new.db

-- ---- turns

-- a reply to nobody by name
abbrev pub of_nobody : Reply → Option Said
of_nobody r = Some (said_to None r)

-- a reply to nobody by name, if there is one
abbrev pub any_of_nobody : Option Reply → Option Said
any_of_nobody = option_map (said_to None)

-- a reply to the name
abbrev pub to_name : List ℕ → Reply → Option Said
to_name n r = Some (said_to (Some n) r)

-- a reply to the name, if there is one
abbrev pub any_to_name : List ℕ → Option Reply → Option Said
any_to_name n = option_map (said_to (Some n))

-- a workspace at one moment, and its disk
pub record WorkspaceMoment (R S : Type 0) : Type 1 where
  pub workspace : Workspace R S
  pub disk : KnownDisk

-- of its parts
abbrev pub workspace_at : {R S : Type 0} → Workspace R S → KnownDisk → WorkspaceMoment R S
workspace_at d v = record { workspace = d; disk = v }

-- a turn that is to be made: what the session is run on, the turn, the session, and what is told after the turn
pub record ExpectedTurn : Type 0 where
  pub terms : Terms
  pub turn : Turn
  pub session : Session
  pub rest : Supply

-- of its parts
abbrev pub expected : Terms → Turn → Session → Supply → ExpectedTurn
expected terms t s rest = record { terms = terms; turn = t; session = s; rest = rest }

-- the reply is the turn's, and what is kept stands for its next state
abbrev pub Turned : {R S : Type 0} → (R → Tree) → (S → Tree) → Terms → Turn → Workspace R S
    → Option Said → Type 0
Turned view source_view terms t new r = (r ≡ said_in t) × Stands view source_view terms new t.next

-- The turn was made, unless something failed: its reply was given, the rest is still told after it, and the disk holds its history.
-- In any case each file that a crash leaves stands for the history before the turn or for the one after it.
pub record TurnsAs {R S A : Type 0} (view : R → Tree) (source_view : S → Tree)
    (given : A → Option Said) (x : ExpectedTurn) (before now : WorkspaceMoment R S)
    (result : Result A WorkspaceFault) : Type 0 where
  pub turned : IfOk result (λ r. Turned view source_view x.terms x.turn now.workspace (given r))
  pub taken : OnOk result (x.turn.next.supply ≡ x.rest)
  pub kept : IsTrue before.disk.known → HoldsFile before.workspace x.session.history before.disk
      → OnOk result (HoldsFile now.workspace x.turn.next.history now.disk)
  pub leaves : IsTrue before.disk.known → HoldsFile before.workspace x.session.history before.disk
      → ViewKeeps (StandsForEither x.session.history x.turn.next.history)
      before.disk.view now.disk.view

-- Something was told, of which this is so; and whatever is told after that, the turn was made.
pub record HasTurned {R S A : Type 0} (view : R → Tree) (source_view : S → Tree)
    (given : A → Option Said) (turning : Terms → Session → Turn) (WasTold : Supply → Type 0)
    (before now : WorkspaceMoment R S) (result : Result A WorkspaceFault) : Type 0 where
  pub supply : Supply
  pub supplied : WasTold supply
  pub turns : (terms : Terms) (s : Session) (rest : Supply)
      → Stands view source_view terms before.workspace s → s.supply ≡ followed_by supply rest
      → TurnsAs view source_view given (expected terms (turning terms s) s rest) before now result

-- the transaction is open
abbrev pub holding : {R S : Type 0} → Workspace R S → Txn R → Workspace R S
holding d x = record d { transaction = Some x }

-- several curators have these transactions open
abbrev pub shared_by : {R S : Type 0} → Workspace R S → Curators R → Workspace R S
shared_by d c = record d { curators = Some c }

-- the one state comes of the other by a commit, or is the same but for its past and rows
pub record IsLater (s z : State) : Type 0 where
  pub sources : z.sources ≡ s.sources
  pub kind : z.kind ≡ s.kind
  pub either : (s.now < z.now) ⊎ ((tree_of z.tree ≡ tree_of s.tree) × (z.now ≡ s.now))

-- ---- parts

-- what is replied to an operation, by what became of it: nothing where it is held; where memory ran out there is no reply
abbrev pub IsReplyTo : Op → Result ⊤ ApplyFault → Option Reply → Type 0
IsReplyTo op (Ok x) r = r ≡ None
IsReplyTo op (Err (denied.Failed n)) r = r ≡ Some (reply.Refused of.Statement (why.FailedAt n))
IsReplyTo op (Err (denied.Refused w)) r = r ≡ Some (reply.Refused of.Statement (why_refused op w))
IsReplyTo op (Err denied.Memory) r = ⊥

-- the tree of the place's database, if there is such a database, while T has the tree u
abbrev pub shown_tree : State → Tree → Loc → Option Tree
shown_tree t u q = if in_target q then Some u else source t.sources q.db

-- the rows at and below a place of a tree, or that nothing stands there
abbrev pub shown_reply : Loc → Tree → Reply
shown_reply q t =
    if is_there t q.path then reply.Show q (map row_of (below q.path t))
    else reply.Refused of.Statement (why.NoPlace q)

-- the rows, or that there is no such database
abbrev pub shown_or_refused : Loc → Option Tree → Reply
shown_or_refused q None = reply.Refused of.Statement (why.NoSource q.db)
shown_or_refused q (Some u) = shown_reply q u

-- the transaction is the session's, if one is open, or one that begins on the committed tree
abbrev pub IsOpened : {R S : Type 0} → (R → Tree) → (S → Tree) → Workspace R S → Txn R → Type 0
IsOpened view source_view d x =
    (terms : Terms) (s : Session) → Stands view source_view terms d s
    → HasCome view source_view d.db x (progress_of s.opened)

-- nothing is in the way of a source with this name, whatever its file gives
pub record MayLoad {R S : Type 0} (view : R → Tree) (source_view : S → Tree) (d : Workspace R S)
    (name : List ℕ) : Type 0 where
  pub closed : d.transaction ≡ None
  pub fresh : (s : State) → HoldsState view source_view d.db s
      → is_some (source s.sources name) ≡ false
  pub few : (s : State) → HoldsState view source_view d.db s → length s.sources + 1 ≤ SOURCES_MAX

-- ---- beginnings

-- where the frames end in a file that was just made or opened
abbrev pub end_now : {R S : Type 0} → List Entry → Db R S → FrameEnd
end_now h d = record { entries = h; at = end_in d }

-- a session on this history, to which this is told
abbrev pub opened_session : List Entry → Supply → Session
opened_session h supply = record { history = h; opened = closed; desks = []; supply = supply }
