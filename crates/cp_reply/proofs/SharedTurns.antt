-- What a turn of several curators' input does to the history, to the desks, and to the transaction of the one whose turn it is.
use Rattle.cp_model.specs.declared.limits.TheConstants.{SOURCES_MAX}
use Rattle.std.specs.Prelude.{ℕ, ◌+◌, ◌≡◌, ◌==◌, Bool, true, false, not, List, [], ◌∷◌, ◌++◌, length, map, is_some, refl, if◌then◌else◌}
use Rattle.std.proofs.Common.{ap, ◌∙◌}
use Rattle.std.specs.declared.option.Option.{Option}
use Rattle.std.specs.declared.option.Option.TheVariants.{None, Some}
use Rattle.cp_path.specs.declared.loc.Loc.{Loc}
use Rattle.cp_model.specs.Place.{in_target}
use Rattle.cp_model.specs.Keyed as keyed
use Rattle.cp_model.specs.Subtrees.{below, is_there}
use Rattle.cp_model.specs.Tree.{Tree, source}
use Rattle.cp_model.specs.History.{load, commit, State, steps_of, after_commit}
use Rattle.cp_model.specs.Answers.{answer_to}
use Rattle.cp_model.specs.declared.op.Op.{Op}
use Rattle.cp_model.specs.declared.stamp.Stamp.{Stamp}
use Rattle.cp_model.specs.declared.query.Query.{Query}
use Rattle.cp_model.specs.declared.answer.Answer.{Answer}
use Rattle.cp_model.specs.declared.refusal.Refusal.{Refusal}
use Rattle.cp_lang.specs.declared.cut.Cut.{Cut}
use Rattle.cp_lang.specs.declared.cut.Cut.TheVariants as cut
use Rattle.cp_lang.specs.Lexer.{spaces}
use Rattle.cp_lang.specs.declared.syntax_tree.Stmt.{Stmt}
use Rattle.cp_lang.specs.declared.syntax_tree.Stmt.TheVariants as stmt
use Rattle.cp_lang.specs.declared.syntax_tree.Load.{Load}
use Rattle.cp_reply.specs.declared.reply.Of.TheVariants as of
use Rattle.cp_reply.specs.declared.reply.Why.{Why}
use Rattle.cp_reply.specs.declared.reply.Why.TheVariants as why
use Rattle.cp_reply.specs.declared.reply.Reply.TheVariants as reply
use Rattle.cp_reply.specs.Sharing.{owner, statement_in, bad_byte_or}
use Rattle.cp_reply.specs.Session.{Setting, FetchedFile, gives, withholds, TextReading, unread, OpenTransaction, closed, going, failed, Desk, Session, Turn, replies, refuses, refused_load, refused_commit, with_entry, after_moment, after_read, next_table, stamp_of, new_records, for_curator, seated, base, is_stale, is_closed, any_open, refusal_after, decide_op, on_operation, on_commit, load_fetched, on_load, answer_or_refuse, show_at, row_of, current_tree, desk_in, turn_at, turn_at_of, turn_by_owner, shared_turn, turn_alone, turn}
use Rattle.cp_reply.specs.SharingLaws.{owner_of, reading_of}

-- the history stays, or a source is loaded while nobody has a transaction open, or the desk's operations are committed in its name
pub data Moves (s : Session) (t : State) (d : Desk) (z : Session) : Type 0 where
  stays : z.history ≡ s.history → Moves s t d z
  loads : (n : List ℕ) (u : Tree) → z.history ≡ s.history ++ load n u ∷ [] → s.desks ≡ [] → d.opened ≡ closed → Moves s t d z
  commits : (stamp : Stamp) (ops : List Op) → z.history ≡ s.history ++ commit stamp ops ∷ [] → stamp.curator ≡ d.name → d.opened ≡ going ops → is_stale t d ≡ false → Moves s t d z

-- what the statement leaves open
abbrev pub Leaves : Stmt → Session → OpenTransaction → Session → Type 0
Leaves (stmt.Op op) s o z = z.history ≡ s.history
Leaves stmt.Commit s o z = z.opened ≡ closed
Leaves stmt.Abort s o z = z.opened ≡ closed
Leaves (stmt.Load l) s o z = z.opened ≡ o
Leaves (stmt.Ask q) s o z = z.opened ≡ o
Leaves (stmt.Show q) s o z = z.opened ≡ o

-- the session after a statement on the desk, before its transaction is put back there
pub record Moved (s : Session) (t : State) (d : Desk) (x : Stmt) (z : Session) : Type 0 where
  pub desks : z.desks ≡ s.desks
  pub opened : Leaves x s d.opened z
  pub history : Moves s t d z

module _ (c : Setting) (s : Session) (t : State) (d : Desk) where
  -- ---- operations

  decided : (ops : List Op) (op : Op) (r : Option Refusal) → Moved s t d (stmt.Op op) (decide_op (seated d s) ops op r).next
  decided ops op None = record { desks = refl; opened = refl; history = stays refl }
  decided ops op (Some r) = record { desks = refl; opened = refl; history = stays refl }

  operated : (z : State) (op : Op) (o : OpenTransaction) → Moved s t d (stmt.Op op) (on_operation (seated d s) z op o).next
  operated z op closed = decided [] op (refusal_after z [] op)
  operated z op (going ops) = decided ops op (refusal_after z ops op)
  operated z op (failed n k) = record { desks = refl; opened = refl; history = stays refl }

  -- ---- commits

  by_fit : (ops : List Op) → d.opened ≡ going ops → is_stale t d ≡ false → (b : Bool) → Moved s t d stmt.Commit
      (if b then replies (reply.Committed (t.now + 1) (t.now + length (steps_of t.kind ops))) (with_entry (after_moment (seated d s)) (commit (stamp_of (for_curator d.name c) (seated d s)) ops))
      else replies (reply.Refused of.Commit why.TransactionTooLarge) (after_moment (seated d s))).next
  by_fit ops g f true = record { desks = refl; opened = refl; history = commits (stamp_of (for_curator d.name c) (seated d s)) ops refl refl g f }
  by_fit ops g f false = record { desks = refl; opened = refl; history = stays refl }

  committed : (o : OpenTransaction) → d.opened ≡ o → is_stale t d ≡ false → Moved s t d stmt.Commit (on_commit (for_curator d.name c) (seated d s) t o).next
  committed closed g f = record { desks = refl; opened = refl; history = stays refl }
  committed (failed n k) g f = record { desks = refl; opened = refl; history = stays refl }
  committed (going ops) g f = by_fit ops g f (c.fits s.history (stamp_of (for_curator d.name c) (seated d s)) ops (new_records t (after_commit t ops)))

  -- ---- loads

  still : (l : Load) → Moved s t d (stmt.Load l) (seated d s)
  still l = record { desks = refl; opened = refl; history = stays refl }

  by_room : (l : Load) → s.desks ≡ [] → d.opened ≡ closed → (u : Tree) (b : Bool) → Moved s t d (stmt.Load l)
      (if b then replies (reply.Loaded l.name (keyed.len u)) (with_entry (after_read (seated d s)) (load l.name u)) else refused_load why.StoreTooLarge (after_read (seated d s))).next
  by_room l e f u true = record { desks = refl; opened = refl; history = loads l.name u refl e f }
  by_room l e f u false = record { desks = refl; opened = refl; history = stays refl }

  fetched : (l : Load) → s.desks ≡ [] → d.opened ≡ closed → (g : FetchedFile) → Moved s t d (stmt.Load l) (load_fetched c (after_read (seated d s)) l.name g).next
  fetched l e f (withholds w) = record { desks = refl; opened = refl; history = stays refl }
  fetched l e f (gives u) = by_room l e f u (c.has_room s.history l.name u)

  unless : (l : Load) → s.desks ≡ [] → d.opened ≡ closed → (there full : Bool) → Moved s t d (stmt.Load l)
      (if there then refused_load (why.SourceThere l.name) (seated d s)
      else if full then refused_load why.TooManySources (seated d s)
      else load_fetched c (after_read (seated d s)) l.name (c.fetch (next_table s.supply.tables) l)).next
  unless l e f true full = still l
  unless l e f false true = still l
  unless l e f false false = fetched l e f (c.fetch (next_table s.supply.tables) l)

  loaded : (l : Load) → s.desks ≡ [] → (o : OpenTransaction) → d.opened ≡ o → Moved s t d (stmt.Load l)
      (if not (is_closed o) then refused_load why.TransactionOpen (seated d s)
      else if is_some (source t.sources l.name) then refused_load (why.SourceThere l.name) (seated d s)
      else if length t.sources == SOURCES_MAX then refused_load why.TooManySources (seated d s)
      else load_fetched c (after_read (seated d s)) l.name (c.fetch (next_table s.supply.tables) l)).next
  loaded l e closed f = unless l e f (is_some (source t.sources l.name)) (length t.sources == SOURCES_MAX)
  loaded l e (going ops) f = still l
  loaded l e (failed n k) f = still l

  by_desks : (l : Load) (ds : List Desk) → s.desks ≡ ds → Moved s t d (stmt.Load l) (if any_open ds then refused_load why.TransactionOpen (seated d s) else on_load c (seated d s) t l).next
  by_desks l [] e = loaded l e d.opened refl
  by_desks l (x ∷ ds) e = still l

  -- ---- questions

  answered : (q : Query) (o : Option Answer) → Moved s t d (stmt.Ask q) (answer_or_refuse (seated d s) q o).next
  answered q None = record { desks = refl; opened = refl; history = stays refl }
  answered q (Some a) = record { desks = refl; opened = refl; history = stays refl }

  shown : (q : Loc) (o : Option Tree) → Moved s t d (stmt.Show q) (show_at (seated d s) q o).next
  shown q None = record { desks = refl; opened = refl; history = stays refl }
  shown q (Some u) =
      elim (is_there u q.path) as (λ b. Moved s t d (stmt.Show q) (if b then replies (reply.Show q (map row_of (below q.path u))) (seated d s) else refuses (why.NoPlace q) (seated d s)).next) [
        | true ↦ record { desks = refl; opened = refl; history = stays refl }
        | false ↦ record { desks = refl; opened = refl; history = stays refl }
      ]

  -- ---- each statement

  pub moved : (x : Stmt) → Moved s t d x (turn_at c s t d x).next
  moved (stmt.Op op) = operated (base s.history t d) op d.opened
  moved stmt.Commit =
      elim (is_stale t d) as (λ b. is_stale t d ≡ b → Moved s t d stmt.Commit (if b then refused_commit (why.Stale t.now) (seated d s) else on_commit (for_curator d.name c) (seated d s) t d.opened).next) [
        | true ↦ λ f. record { desks = refl; opened = refl; history = stays refl }
        | false ↦ λ f. committed d.opened refl f
      ] refl
  moved stmt.Abort = record { desks = refl; opened = refl; history = stays refl }
  moved (stmt.Load l) = by_desks l s.desks refl
  moved (stmt.Ask q) = answered q (answer_to t q)
  moved (stmt.Show q) = shown q (if in_target q then Some (current_tree (base s.history t d) d.opened) else source (base s.history t d).sources q.db)

-- ---- by whose a cut is and what it says

-- the turn of an owner's text, or the refusal of one that is nobody's
abbrev pub owned_turn : Setting → Session → Why → Option (List ℕ) → TextReading → Turn
owned_turn c s w None r = refuses w s
owned_turn c s w (Some n) r = turn_at_of c s (desk_in s n) r

by_owner : (c : Setting) (s : Session) (at : ℕ) (o : Option (List ℕ)) (r : TextReading) → turn_by_owner c s at o r ≡ owned_turn c s (why.Syntax at) o r
by_owner c s at None r = refl
by_owner c s at (Some n) r = refl

shared_is : (c : Setting) (s : Session) (x : Cut) → (w : Why) × (shared_turn c s x ≡ owned_turn c s w (owner_of x) (reading_of c x))
shared_is c s (cut.Text text) = (why.Syntax (bad_byte_or (spaces text) text), by_owner c s (bad_byte_or (spaces text) text) (owner text) (c.read (statement_in text)))
shared_is c s cut.TooLong = (why.StatementTooLong, refl)
shared_is c s (cut.Unfinished text) = (why.Syntax (bad_byte_or (length text) text), by_owner c s (bad_byte_or (length text) text) (owner text) (unread (why.Syntax (length text))))

pub shared-turn : (c : Setting) → c.shared ≡ true → (s : Session) (x : Cut) → (w : Why) × (turn c s x ≡ owned_turn c s w (owner_of x) (reading_of c x))
unfolding turn
shared-turn c e s x = let i = shared_is c s x in (i.0, ap (λ b. if b then shared_turn c s x else turn_alone c s x) e ∙ i.1)
