-- Sources: what is loaded, and what isn't.
use Rattle.cp_model.specs.declared.limits.TheConstants.{SOURCES_MAX}
use Rattle.std.specs.Prelude.{ℕ, ◌≡◌, ◌==◌, ◌⊎◌, ◌+◌, ◌≤◌, Bool, true, false, IsTrue, not, List, [], ◌∷◌, ◌++◌, length, drop, is_some, refl, if◌then◌else◌, Result, Ok, Err, IsErrOf}
use Rattle.std.proofs.Common.{inl, inr, sym, ap, subst, ◌∙◌, arith}
use Rattle.std.proofs.lemmas.Bool.Decides.{nat_tests}
use Rattle.std.specs.Option.{option_map}
use Rattle.std.specs.declared.option.Option.{Option}
use Rattle.std.specs.declared.option.Option.TheVariants.{None, Some}
use Rattle.cp_outside.specs.FileReads.{FileTable}
use Rattle.cp_model.specs.Keyed.{len}
use Rattle.cp_model.specs.Tree.{Tree, Source, source}
use Rattle.cp_model.specs.History.{State, after_load, replay, load}
use Rattle.cp_model.proofs.Accepted.{none_is}
use Rattle.cp_lang.specs.declared.syntax_tree.Load.{Load}
use Rattle.cp_lang.specs.declared.syntax_tree.Stmt.TheVariants as stmt
use Rattle.cp_reply.specs.declared.reply.Of.TheVariants as of
use Rattle.cp_reply.specs.declared.reply.Why.{Why}
use Rattle.cp_reply.specs.declared.reply.Why.TheVariants as why
use Rattle.cp_reply.specs.declared.reply.Reply.{Reply}
use Rattle.cp_reply.specs.declared.reply.Reply.TheVariants as reply
use Rattle.cp_reply.specs.Session.{Supply, followed_by, next_table, after_read, Session, OpenTransaction, closed, going, failed, Setting, Turn, gives, withholds, replies, says, turn_of, with_entry, on_load, load_fetched, refused_load, is_closed}
use Rattle.cp_disk.specs.Views.{KnownDisk, ViewKeeps}
use Rattle.cp_disk.specs.declared.disk.Disk as disk
use Rattle.cp_engine.specs.declared.txn.Txn.{Txn}
use Rattle.cp_frame.specs.Sizes.{has_room, load_size}
use Rattle.cp_db.specs.Databases.{HoldsState, IsKept, end_in}
use Rattle.cp_db.specs.Writing.{HasLoaded, in_the_way}
use Rattle.cp_db.specs.declared.database.Db.{Db}
use Rattle.cp_db.specs.declared.fault.LoadFault.{LoadFault}
use Rattle.cp_db.specs.declared.fault.LoadFault.TheVariants as fault
use Rattle.cp_workspace.specs.Fetching.{fetch}
use Rattle.cp_workspace.specs.Texts.{Terms, setting}
use Rattle.cp_workspace.specs.Loads.{why_not_loaded, load_reads, reads_unless}
use Rattle.cp_workspace.specs.Workspaces.{expected, workspace_at, Stands, Opens, HoldsFile, MayLoad, TurnsAs, of_nobody}
use Rattle.cp_workspace.specs.declared.fault.WorkspaceFault.{WorkspaceFault}
use Rattle.cp_workspace.specs.declared.workspace.Workspace.{Workspace}
use Rattle.cp_workspace.proofs.Supplied.{one_table}
use Rattle.cp_workspace.proofs.Standing.{turn-is, none-opens, stands-told, stands-added, leaves-still, turns-still, turns-failed}
use Rattle.cp_frame.specs.Stands.{StandsForEither}

-- ---- why nothing is loaded

some_is : {X : Type 0} (o : Option X) → is_some o ≡ true → (x : X) × (o ≡ Some x)
some_is None h = absurd (cc)
some_is (Some x) h = (x, refl)

module _ {R S : Type 0} (view : R → Tree) (source_view : S → Tree) (d : Db R S) where
  -- a transaction is open
  open_isn't_closed : (x : Txn R) (o : OpenTransaction) → Opens view source_view d (Some x) o → is_closed o ≡ false
  open_isn't_closed x closed h = absurd h
  open_isn't_closed x (going ops) h = refl
  open_isn't_closed x (failed k c) h = refl

  -- none is
  none_is_closed : (o : OpenTransaction) → Opens view source_view d None o → is_closed o ≡ true
  none_is_closed closed h = refl
  none_is_closed (going ops) h = absurd h
  none_is_closed (failed k c) h = absurd h

-- what is found is there, in whatever way it is seen
pub is_some-seen : {A B : Type 0} (f : A → B) (o : Option A) (q : Option B) → option_map f o ≡ q → is_some q ≡ is_some o
is_some-seen f None q e = ap is_some (sym e)
is_some-seen f (Some x) q e = ap is_some (sym e)

all_taken : (n : ℕ) → n ≡ SOURCES_MAX → n == SOURCES_MAX ≡ true
all_taken n e = grind (arith, nat_tests)

not_all_taken : (n : ℕ) → (n ≡ SOURCES_MAX → ⊥) → n == SOURCES_MAX ≡ false
not_all_taken n e = grind (arith, nat_tests)

module _ {R S : Type 0} (view : R → Tree) (source_view : S → Tree) (d : Workspace R S) (name : List ℕ) where
  module _ (terms : Terms) (s : Session) (z : Stands view source_view terms d s) where
    abbrev t : State
    t = z.db.state

    is_open : is_some d.transaction ≡ true → is_closed s.opened ≡ false
    is_open e = let x = some_is d.transaction e in open_isn't_closed view source_view d.db x.0 s.opened (subst (λ y. Opens view source_view d.db y s.opened) x.1 z.opened)

    is_shut : is_some d.transaction ≡ false → is_closed s.opened ≡ true
    is_shut e = none_is_closed view source_view d.db s.opened (subst (λ y. Opens view source_view d.db y s.opened) (none_is d.transaction e) z.opened)

    -- while a transaction is open
    pub why-open : is_some d.transaction ≡ true → Some why.TransactionOpen ≡ why_not_loaded t s.opened name
    why-open e = rw (is_open e) refl

    module _ (ss : List Source) (loaded : ss ≡ t.sources) (e : is_some d.transaction ≡ false) where
      -- where the name is taken
      pub why-there : is_some (source ss name) ≡ true → Some (why.SourceThere name) ≡ why_not_loaded t s.opened name
      why-there there = rw (is_shut e, ap (λ xs. is_some (source xs name)) (sym loaded) ∙ there) refl

      -- where as many sources are there as may be
      pub why-many : is_some (source ss name) ≡ false → length ss ≡ SOURCES_MAX → Some why.TooManySources ≡ why_not_loaded t s.opened name
      why-many new many = rw (is_shut e, ap (λ xs. is_some (source xs name)) (sym loaded) ∙ new, ap (λ xs. length xs == SOURCES_MAX) (sym loaded) ∙ all_taken (length ss) many) refl

      -- else nothing is in the way
      pub why-none : is_some (source ss name) ≡ false → (length ss ≡ SOURCES_MAX → ⊥) → None ≡ why_not_loaded t s.opened name
      why-none new many = rw (is_shut e, ap (λ xs. is_some (source xs name)) (sym loaded) ∙ new, ap (λ xs. length xs == SOURCES_MAX) (sym loaded) ∙ not_all_taken (length ss) many) refl

    -- what is in the way says how many files the load reads
    pub reads-unless : (w : Option Why) → w ≡ why_not_loaded t s.opened name → load_reads s (replay s.history) name ≡ reads_unless w
    reads-unless w e = ap (λ o. load_reads s o name) z.db.led.replayed ∙ ap reads_unless (sym e)

  few_more : (n m : ℕ) → n ≤ SOURCES_MAX → m ≡ n → (m ≡ SOURCES_MAX → ⊥) → n + 1 ≤ SOURCES_MAX
  few_more n m h e f = grind (arith, nat_tests)

  -- a source with this name may be loaded
  pub may-load : (ss : List Source) → ((s : State) → HoldsState view source_view d.db s → ss ≡ s.sources) → is_some d.transaction ≡ false → is_some (source ss name) ≡ false → (length ss ≡ SOURCES_MAX → ⊥) → MayLoad view source_view d name
  may-load ss loaded e new many = record {
    closed = none_is d.transaction e;
    fresh = λ s z. ap (λ xs. is_some (source xs name)) (sym (loaded s z)) ∙ new;
    few = λ s z. few_more (length s.sources) (length ss) z.committed.sound.sources.few (ap length (loaded s z)) many;
  }

-- ---- what is loaded

-- nothing is in the way of the source on whatever state the database holds
pub none-in-the-way : {R S : Type 0} (view : R → Tree) (source_view : S → Tree) (d : Workspace R S) (name : List ℕ) → MayLoad view source_view d name → (s : State) → HoldsState view source_view d.db s → in_the_way s name ≡ None
none-in-the-way view source_view d name may s z = let few = may.few s z in rw (may.fresh s z, not_all_taken (length s.sources) (λ h. omega (arith, few, h))) refl

module _ {R S D : Type 0} (view : R → Tree) (source_view : S → Tree) (g : disk.Ghosts D) (terms : Terms) (d m : Workspace R S) (s : Session) (z : Stands view source_view terms d s) (k l : D) (name : List ℕ) (u : Tree) (none : d.transaction ≡ None) (before : d.curators ≡ None) (alone : m.curators ≡ None) where
  abbrev c : Setting
  c = setting terms

  abbrev v : KnownDisk
  v = g.known k

  abbrev w : KnownDisk
  w = g.known l

  abbrev the_turn : Turn
  the_turn = load_fetched c s name (gives u)

  abbrev done : Turn
  done = replies (reply.Loaded name (len u)) (with_entry s (load name u))

  abbrev full : Turn
  full = refused_load why.StoreTooLarge s

  turn_if : (b : Bool) → has_room (end_in d.db) (load_size name u) ≡ b → the_turn ≡ (if b then done else full)
  turn_if b e = ap (λ (y : Bool). if y then done else full) (ap (λ (n : ℕ). has_room n (load_size name u)) (sym z.ends.is_end) ∙ e)

  opens_none : Opens view source_view m.db None s.opened
  opens_none = none-opens view source_view d.db m.db s.opened (subst (λ y. Opens view source_view d.db y s.opened) none z.opened)

  -- the tree is a source of the session's history
  pub turns-loaded : (loaded : List ℕ) (nodes : ℕ) → loaded ≡ name → nodes ≡ len u → m.curator ≡ d.curator → m.transaction ≡ d.transaction → HasLoaded view source_view d.db z.db.state name u m.db (Ok tt)
      → (IsTrue v.known → IsKept true d.db s.history v.view → IsKept true m.db (s.history ++ load name u ∷ []) w.view)
      → (IsTrue v.known → IsKept true d.db s.history v.view → ViewKeeps (StandsForEither s.history (s.history ++ load name u ∷ [])) v.view w.view)
      → TurnsAs view source_view of_nobody (expected terms the_turn s s.supply) (workspace_at d v) (workspace_at m w) (Ok (reply.Loaded loaded nodes))
  turns-loaded loaded nodes named counted signed same is kept crash =
      subst (λ (t : Turn). TurnsAs view source_view of_nobody (expected terms t s s.supply) (workspace_at d v) (workspace_at m w) (Ok (reply.Loaded loaded nodes))) (sym (turn_if true is.1)) (record {
        turned = (
          ap (λ (n : List ℕ). of_nobody (reply.Loaded n nodes)) named ∙ ap (λ (i : ℕ). of_nobody (reply.Loaded name i)) counted,
          stands-added view source_view terms d m s z (load name u) (after_load z.db.state name u) (load_size name u) s.opened s.supply is.2 refl signed
              before alone (subst (λ y. Opens view source_view m.db y s.opened) (sym (same ∙ none)) opens_none),
        );
        taken = refl;
        kept = kept;
        leaves = crash;
      })

  -- there is no room for it
  pub turns-no_room : l ≡ k → m ≡ d → has_room (end_in d.db) (load_size name u) ≡ false
      → TurnsAs view source_view of_nobody (expected terms the_turn s s.supply) (workspace_at d v) (workspace_at m w) (Ok (reply.Refused of.Load why.StoreTooLarge))
  turns-no_room y same no_room =
      subst (λ (t : Turn). TurnsAs view source_view of_nobody (expected terms t s s.supply) (workspace_at d v) (workspace_at m w) (Ok (reply.Refused of.Load why.StoreTooLarge))) (sym (turn_if false no_room))
      (subst (λ (i : D). TurnsAs view source_view of_nobody (expected terms full s s.supply) (workspace_at d v) (workspace_at m (g.known i)) (Ok (reply.Refused of.Load why.StoreTooLarge))) (sym y)
      (subst (λ (b : Workspace R S). TurnsAs view source_view of_nobody (expected terms full s s.supply) (workspace_at d v) (workspace_at b v) (Ok (reply.Refused of.Load why.StoreTooLarge))) (sym same)
      (turns-still view source_view of_nobody terms full s s.supply d d v (Ok (reply.Refused of.Load why.StoreTooLarge)) refl refl refl (refl, z))))

  leaves_by : (b : Bool) → has_room (end_in d.db) (load_size name u) ≡ b → (b ≡ false → l ≡ k) → HoldsFile d s.history v → ViewKeeps (StandsForEither s.history (s.history ++ load name u ∷ [])) v.view w.view → ViewKeeps (StandsForEither s.history the_turn.next.history) v.view w.view
  leaves_by true e still held crash = subst (λ (t : Turn). ViewKeeps (StandsForEither s.history t.next.history) v.view w.view) (sym (turn_if true e)) crash
  leaves_by false e still held crash =
      subst (λ (t : Turn). ViewKeeps (StandsForEither s.history t.next.history) v.view w.view) (sym (turn_if false e))
      (subst (λ (i : D). ViewKeeps (StandsForEither s.history s.history) v.view (g.known i).view) (sym (still refl)) (leaves-still view source_view of_nobody terms full s s.supply d m v s.history held))

  -- the disk failed, or memory ran out
  pub turns-unloaded : (result : Result Reply WorkspaceFault) → (y : WorkspaceFault) × (result ≡ Err y)
      → (IsTrue v.known → IsKept true d.db s.history v.view → ViewKeeps (StandsForEither s.history (s.history ++ load name u ∷ [])) v.view w.view)
      → (has_room (end_in d.db) (load_size name u) ≡ false → l ≡ k)
      → TurnsAs view source_view of_nobody (expected terms the_turn s s.supply) (workspace_at d v) (workspace_at m w) result
  turns-unloaded result p crash room =
      turns-failed view source_view of_nobody terms the_turn s s.supply d m v w result p (λ known held. leaves_by (has_room (end_in d.db) (load_size name u)) refl room held (crash known held))

-- ---- what a load spends

-- a source that was kept spends nothing
pub kept-unspent : (b : Bool) (u : Unit {0}) → (IsTrue b → (Ok u ≡ Err fault.Disk) ⊎ (Ok u ≡ Err fault.Memory)) → IsTrue b → ⊥
kept-unspent b u f h = elim (f h) [ inl e ↦ absurd (cc) | inr e ↦ absurd (cc) ]

-- what is too large is no other fault
pub large-not-disk : {T : Type 0} (e : LoadFault) → e ≡ fault.TooLarge → IsErrOf {T = T} (Err e) fault.Disk → ⊥
large-not-disk e is h = cc

pub large-not-memory : {T : Type 0} (e : LoadFault) → e ≡ fault.TooLarge → IsErrOf {T = T} (Err e) fault.Memory → ⊥
large-not-memory e is h = cc

pub false-not-true : false ≡ true → ⊥
false-not-true h = cc

-- ---- turns

-- the turn of a load, by what is in its way
abbrev loading_by : Setting → Session → Load → Option Why → Turn
loading_by c s l (Some w) = refused_load w s
loading_by c s l None = load_fetched c (after_read s) l.name (c.fetch (next_table s.supply.tables) l)

loading-is : (c : Setting) (s : Session) (t : State) (l : Load) → on_load c s t l ≡ loading_by c s l (why_not_loaded t s.opened l.name)
loading-is c s t l =
    elim (is_closed s.opened) as (λ b. (if not b then refused_load why.TransactionOpen s
    else if is_some (source t.sources l.name) then refused_load (why.SourceThere l.name) s
    else if length t.sources == SOURCES_MAX then refused_load why.TooManySources s
    else loading_by c s l None)
    ≡ loading_by c s l (if not b then Some why.TransactionOpen
    else if is_some (source t.sources l.name) then Some (why.SourceThere l.name)
    else if length t.sources == SOURCES_MAX then Some why.TooManySources
    else None)) [
      | false ↦ refl
      | true ↦ elim (is_some (source t.sources l.name)) as (λ b. (if b then refused_load (why.SourceThere l.name) s
          else if length t.sources == SOURCES_MAX then refused_load why.TooManySources s
          else loading_by c s l None)
          ≡ loading_by c s l (if b then Some (why.SourceThere l.name)
          else if length t.sources == SOURCES_MAX then Some why.TooManySources
          else None)) [
            | true ↦ refl
            | false ↦ elim (length t.sources == SOURCES_MAX) as (λ b. (if b then refused_load why.TooManySources s else loading_by c s l None) ≡ loading_by c s l (if b then Some why.TooManySources else None)) [ true ↦ refl | false ↦ refl ]
          ]
    ]

module _ {R S : Type 0} (view : R → Tree) (source_view : S → Tree) (terms : Terms) (d : Workspace R S) (s : Session) (z : Stands view source_view terms d s) (l : Load) where
  abbrev of_load : Turn
  of_load = turn_of (setting terms) s (says (stmt.Load l))

  -- the turn of a load is that of what is in its way
  way_is : (w : Option Why) → w ≡ why_not_loaded z.db.state s.opened l.name → of_load ≡ loading_by (setting terms) s l w
  way_is w e = turn-is view source_view terms d d s z (setting terms) (stmt.Load l) ∙ loading-is (setting terms) s z.db.state l ∙ ap (loading_by (setting terms) s l) (sym e)

  -- a load is refused, which changes nothing
  turns_refused : (w : Why) (v : KnownDisk) (x rest : Supply) → x ≡ rest → of_load ≡ refused_load w (record { history = s.history; opened = s.opened; desks = s.desks; supply = x })
      → TurnsAs view source_view of_nobody (expected terms of_load s rest) (workspace_at d v) (workspace_at d v) (Ok (reply.Refused of.Load w))
  turns_refused w v x rest taken is =
      let full : Turn = refused_load w (record { history = s.history; opened = s.opened; desks = s.desks; supply = x }) in
      subst (λ (t : Turn). TurnsAs view source_view of_nobody (expected terms t s rest) (workspace_at d v) (workspace_at d v) (Ok (reply.Refused of.Load w))) (sym is)
      (turns-still view source_view of_nobody terms full s rest d d v (Ok (reply.Refused of.Load w)) refl refl taken (refl, stands-told view source_view terms d d s z x))

  -- what is in the way is the refusal
  pub turns-not_loaded : (w : Why) (v : KnownDisk) (rest : Supply) → Some w ≡ why_not_loaded z.db.state s.opened l.name → s.supply ≡ rest
      → TurnsAs view source_view of_nobody (expected terms of_load s rest) (workspace_at d v) (workspace_at d v) (Ok (reply.Refused of.Load w))
  turns-not_loaded w v rest e supply = turns_refused w v s.supply rest supply (way_is (Some w) e)

  module _ (files : FileTable) (rest : Supply) (e : None ≡ why_not_loaded z.db.state s.opened l.name) (supply : s.supply ≡ followed_by (one_table files) rest) where
    -- after the read of the file the rest is told
    taken : (after_read s).supply ≡ rest
    taken = ap (λ (y : Supply). record { moments = y.moments; tables = drop 1 y.tables }) supply

    -- what the file gives
    given : of_load ≡ load_fetched (setting terms) (after_read s) l.name (fetch files l)
    given = way_is None e ∙ ap (λ (y : Supply). load_fetched (setting terms) (after_read s) l.name (fetch (next_table y.tables) l)) supply

    -- why the file gives no tree is the refusal
    pub turns-withheld : (w : Why) (v : KnownDisk) → fetch files l ≡ withholds w → TurnsAs view source_view of_nobody (expected terms of_load s rest) (workspace_at d v) (workspace_at d v) (Ok (reply.Refused of.Load w))
    turns-withheld w v found = turns_refused w v (after_read s).supply rest taken (given ∙ ap (load_fetched (setting terms) (after_read s) l.name) found)

    -- the tree that the file gives is loaded
    pub turns-given : (m : Workspace R S) (v w : KnownDisk) (u : Tree) (result : Result Reply WorkspaceFault) → fetch files l ≡ gives u
        → TurnsAs view source_view of_nobody (expected terms (load_fetched (setting terms) (after_read s) l.name (gives u)) (after_read s) (after_read s).supply) (workspace_at d v) (workspace_at m w) result → TurnsAs view source_view of_nobody (expected terms of_load s rest) (workspace_at d v) (workspace_at m w) result
    turns-given m v w u result found y =
        let t : TurnsAs view source_view of_nobody (expected terms (load_fetched (setting terms) (after_read s) l.name (gives u)) s (after_read s).supply) (workspace_at d v) (workspace_at m w) result =
        record { turned = y.turned; taken = y.taken; kept = y.kept; leaves = y.leaves } in
        subst (λ (x : Turn). TurnsAs view source_view of_nobody (expected terms x s rest) (workspace_at d v) (workspace_at m w) result) (sym (given ∙ ap (load_fetched (setting terms) (after_read s) l.name) found))
        (subst (λ x. TurnsAs view source_view of_nobody (expected terms (load_fetched (setting terms) (after_read s) l.name (gives u)) s x) (workspace_at d v) (workspace_at m w) result) taken t)
