-- Operations replayed with the records of their steps.
use Rattle.std.specs.Prelude.{ℕ, ◌+◌, ◌≤◌, ◌<◌, ◌≡◌, List, [], ◌∷◌, ◌++◌, length, get_or, take}
use Rattle.std.proofs.Common.{sym, ap, subst, ◌∙◌, arith}
use Rattle.std.proofs.lemmas.List.{take_all, length-take-le}
use Rattle.std.specs.declared.option.Option.TheVariants.{None}
use Rattle.cp_model.specs.Tree.{Tree, Source, IsTree, refusal, tree_after}
use Rattle.cp_model.specs.Laws.{AreSources, AreTrees}
use Rattle.cp_model.specs.Step.{Working, contents, open_tree, step, done}
use Rattle.cp_model.specs.History.{IsWritten, AreWritten, rows_of, with_tid}
use Rattle.cp_model.specs.declared.kind.Kind.{Kind}
use Rattle.cp_model.specs.declared.kind.Kind.TheVariants as kind
use Rattle.cp_model.specs.declared.op.Op.{Op}
use Rattle.cp_model.specs.declared.record.Record.{Record}
use Rattle.cp_overlay.specs.Kept.{Kept}
use Rattle.cp_overlay.specs.Kept as overlay
use Rattle.cp_operation.specs.Appending.{Appended}
use Rattle.cp_operation.specs.Passed.{Stage, stage_after, outcome_records, AllAccepted}
use Rattle.cp_engine.specs.Recording.{AreRecorded}
use Rattle.cp_operation.specs.RowsAlone.{rows_in}
use Rattle.cp_engine.proofs.Going.{IsNext, pass-records, stands-begun, stands-more, packed-step}
use Rattle.cp_operation.proofs.Linked.{passed-snoc, passed-next, written-snoc}
use Rattle.cp_operation.proofs.Replayed.{HaveReplayed, take_more, replayed-none, replayed-more}

-- so many of the operations are done, each as a step of its own, and these are their records; the next gets this Tid
pub record HaveRecorded (k : Kind) (ss : List Source) (t : Tree) (n : ℕ) (ops : List Op) (i : ℕ) (u : Tree) (tid : ℕ) (rs : List Record) : Type 0 where
  pub replayed : HaveReplayed ss t ops i u
  pub number : tid ≡ n + i
  pub records : rs ≡ (stage_after k ss t n (take i ops)).records

-- so many of the operations are done in one step, which the overlay has followed
pub record HaveFollowed (ss : List Source) (t : Tree) (ops : List Op) (i : ℕ) (u : Tree) (o : Kept) : Type 0 where
  pub replayed : HaveReplayed ss t ops i u
  pub written : AreWritten (take i ops)
  pub stands : (w : Working) → step t ss (take i ops) ≡ done (length (take i ops)) w → overlay.Stands o t w

-- where all of them are done, they are accepted, and lead to the tree
all-recorded : (ss : List Source) (t : Tree) (ops : List Op) (i : ℕ) (u : Tree) (all rs : List Record) → length ops ≤ i → HaveReplayed ss t ops i u → rs ≡ all → AreRecorded ss t u ops all rs
all-recorded ss t ops i u all rs j h e =
    let is : take i ops ≡ ops = take_all i ops j in
    record { accepted = subst (AllAccepted ss t) is h.accepted; tree = λ k n. h.tree k n ∙ ap (λ os. (stage_after k ss t n os).tree) is; records = e }

module _ (k : Kind) (ss : List Source) (t : Tree) (n : ℕ) (ops : List Op) where
  -- none of them has records
  pub recorded-none : (rs : List Record) → rs ≡ [] → HaveRecorded k ss t n ops 0 t n rs
  unfolding stage_after
  recorded-none rs e = record { replayed = replayed-none ss t ops; number = omega arith; records = e }

  module _ (i : ℕ) (u : Tree) (tid : ℕ) (rs : List Record) (h : HaveRecorded k ss t n ops i u tid rs) where
    -- one more that is accepted
    pub recorded-more : AreTrees ss → IsTree u → (op : Op) (v : Tree) (qs : List Record) → i < length ops → op ≡ get_or ops i op → IsWritten op → refusal ss u op ≡ None → v ≡ tree_after ss u op →
        Appended rs qs (with_tid tid (rows_in k ss u op)) → HaveRecorded k ss t n ops (i + 1) v (tid + 1) qs
    recorded-more s g op v qs j e w a c r =
        let x : Stage = stage_after k ss t n (take i ops) in
        let same : u ≡ x.tree = h.replayed.tree k n in
        let number : tid ≡ x.next = omega (arith, h.number, passed-next k ss t n (take i ops), length-take-le i ops (omega arith)) in
        let accept : refusal ss x.tree op ≡ None = ap (λ u. refusal ss u op) (sym same) ∙ a in
        record {
          replayed = replayed-more ss t ops i u h.replayed op v j e a c;
          number = omega (arith, h.number);
          records =
              r.is
              ∙ ap (λ l. l ++ with_tid tid (rows_in k ss u op)) h.records
              ∙ ap (λ m. x.records ++ with_tid m (rows_in k ss u op)) number
              ∙ ap (λ w. x.records ++ with_tid x.next (rows_in k ss w op)) same
              ∙ sym (pass-records k ss x op s (subst IsTree same g) w accept)
              ∙ ap (λ q. q.records) (sym (passed-snoc k ss t n (take i ops) op))
              ∙ ap (λ os. (stage_after k ss t n os).records) (sym (take_more ops i op j e));
        }

    -- all of them
    pub recorded-all : length ops ≤ i → AreRecorded ss t u ops (stage_after k ss t n ops).records rs
    recorded-all j = all-recorded ss t ops i u (stage_after k ss t n ops).records rs j h.replayed (h.records ∙ ap (λ os. (stage_after k ss t n os).records) (take_all i ops j))

module _ (ss : List Source) (t : Tree) (ops : List Op) where
  -- none of them
  pub followed-none : (o : Kept) → ((t : Tree) → overlay.Stands o t (open_tree t)) → HaveFollowed ss t ops 0 t o
  followed-none o h = record { replayed = replayed-none ss t ops; written = tt; stands = stands-begun o ss t h }

  module _ (i : ℕ) (u : Tree) (o : Kept) (h : HaveFollowed ss t ops i u o) (a : Tree) (b : a ≡ t) (g : IsTree t) (s : AreSources ss) where
    -- one more that is accepted
    pub followed-more : (op : Op) (v : Tree) (later : Kept) → i < length ops → op ≡ get_or ops i op → IsWritten op → refusal ss u op ≡ None → v ≡ tree_after ss u op → overlay.Follows ss a o later op → HaveFollowed ss t ops (i + 1) v later
    followed-more op v later j e w n c f =
        let more : take (i + 1) ops ≡ take i ops ++ op ∷ [] = take_more ops i op j e in
        let next : IsNext kind.T ss t 0 (take i ops) op =
        record { start = g; sources = s; written = h.written; accepted = h.replayed.accepted; more = w; accept = ap (λ u. refusal ss u op) (sym (h.replayed.tree kind.T 0)) ∙ n } in
        record {
          replayed = replayed-more ss t ops i u h.replayed op v j e n c;
          written = subst AreWritten (sym more) (written-snoc (take i ops) op h.written w);
          stands = subst (λ os. (w : Working) → step t ss os ≡ done (length os) w → overlay.Stands later t w) (sym more) (stands-more kind.T o later ss t 0 (take i ops) op next h.stands (subst (λ t. overlay.Follows ss t o later op) b f));
        }

    -- all of them
    pub followed-all : (k : Kind) (n : ℕ) (rs : List Record) → length ops ≤ i → ((w : Working) → overlay.IsWorking w → overlay.Stands o a w → contents w ≡ u → rs ≡ with_tid n (rows_of k a w)) →
        AreRecorded ss t u ops (outcome_records k t n (step t ss ops)) rs
    followed-all k n rs j p =
        let is : take i ops ≡ ops = take_all i ops j in
        let packs : (w : Working) → overlay.IsWorking w → overlay.Stands o t w → contents w ≡ u → rs ≡ with_tid n (rows_of k t w) =
        subst (λ t. (w : Working) → overlay.IsWorking w → overlay.Stands o t w → contents w ≡ u → rs ≡ with_tid n (rows_of k t w)) b p in
        all-recorded ss t ops i u (outcome_records k t n (step t ss ops)) rs j h.replayed
        (packed-step k rs o ss t n (take i ops) g s h.written h.replayed.accepted h.stands (λ w x y z. packs w x y (z ∙ sym (h.replayed.tree k n))) ∙ ap (λ os. outcome_records k t n (step t ss os)) is)
