-- What a database keeps of a history, what the disk holds of its file, and what a crash leaves of that.
use Rattle.std.proofs.Common.{◌≡◌, ◌≤◌, ◌++◌, ◌∙◌, Bool, true, List, [], ◌∷◌, ℕ, sym, subst}
use Rattle.cp_model.specs.History.{Entry, State}
use Rattle.cp_model.specs.Laws.{AreSources}
use Rattle.cp_model.specs.Past.{tree_of}
use Rattle.cp_model.specs.Tree.{Tree, Source, IsTree}
use Rattle.cp_disk.specs.Views.{View}
use Rattle.cp_journal.specs.Journals.{Describes}
use Rattle.cp_frame.specs.Items.{Tell}
use Rattle.cp_frame.specs.Stands.{IsHead, StandsFor}
use Rattle.cp_db.specs.Committed.{KeepsState}
use Rattle.cp_db.specs.Databases.{HoldsSame, IsKept, IsSameFile, Stands}
use Rattle.cp_db.specs.Writing.{HasAdded}
use Rattle.cp_db.specs.declared.committed.Committed.{Committed}
use Rattle.cp_db.specs.declared.limits.TheConstants.{TIDS_MAX}
use Rattle.cp_db.specs.declared.database.Db.{Db}
use Rattle.cp_db.proofs.WritingFrames.{kept-stands}

-- each file that a crash leaves stands for the history
pub kept-images : {R S : Type 0} (d : Db R S) (h : List Entry) (v : View) → IsKept true d h v → (c : List ℕ) → v.images c → StandsFor h c
kept-images d h v k c i = kept-stands d h v k c i

-- what the disk holds of a file is the same where what the database keeps of it is
pub kept-same : {R S : Type 0} (right : Bool) (d new : Db R S) (h : List Entry) (v : View) → IsSameFile d new → IsKept right d h v → IsKept right new h v
kept-same right d new h v same k = record {
  head = k.head;
  is_head = subst (λ n. IsHead n k.head) (sym same.1) k.is_head;
  frames = k.frames;
  some = k.some;
  described = subst (λ j. Describes k.head k.frames j v) (sym same.0) k.described;
  tell = subst (λ n. Tell right n k.frames h) (sym same.1) k.tell;
}

-- ---- states

-- two states of the same kind, sources, tree, last Tid and number of commits: they differ in their pasts and rows alone
pub record IsAlike (s z : State) : Type 0 where
  pub kind : s.kind ≡ z.kind
  pub sources : s.sources ≡ z.sources
  pub tree : tree_of s.tree ≡ tree_of z.tree
  pub now : s.now ≡ z.now
  pub commits : s.commits ≡ z.commits

module _ {R S : Type 0} (view : R → Tree) (source_view : S → Tree) where
  -- what keeps the one keeps the other
  pub keeps-alike : (c : Committed R S) (s z : State) → IsAlike s z → KeepsState view source_view c s → KeepsState view source_view c z
  keeps-alike c s z same k = record {
    kind = k.kind ∙ same.kind;
    sources = k.sources ∙ same.sources;
    tree = k.tree ∙ same.tree;
    upto = k.upto ∙ same.now;
    commits = k.commits ∙ same.commits;
    tids = subst (λ (n : ℕ). n ≤ z.now) same.commits (subst (λ (n : ℕ). s.commits ≤ n) same.now k.tids);
    few = subst (λ (n : ℕ). n ≤ TIDS_MAX) same.now k.few;
    sound = record { tree = subst IsTree same.tree k.sound.tree; sources = subst AreSources same.sources k.sound.sources };
  }

  -- and two states that are kept are such
  pub alike-kept : (c : Committed R S) (s z : State) → KeepsState view source_view c s → KeepsState view source_view c z → IsAlike s z
  alike-kept c s z k l = record {
    kind = sym k.kind ∙ l.kind;
    sources = sym k.sources ∙ l.sources;
    tree = sym k.tree ∙ l.tree;
    now = sym k.upto ∙ l.upto;
    commits = sym k.commits ∙ l.commits;
  }

  -- ---- histories

  -- a database that holds the same states stands for the same histories
  pub stands-same : (d m : Db R S) → HoldsSame view source_view d m → (right : Bool) (h : List Entry) → Stands view source_view right d h → Stands view source_view right m h
  stands-same d m same right h z = record {
    state = z.state;
    led = z.led;
    holds = (same.states z.state).0 z.holds;
    rows = λ asked. same.rows z.state (z.rows asked);
  }

  -- one to which an entry was added stands for the history with it
  pub stands-then : (right : Bool) (d m : Db R S) (h : List Entry) (z : Stands view source_view right d h) (e : Entry) (s : State) (size : ℕ) → HasAdded view source_view d z.state e s size m → Stands view source_view right m (h ++ e ∷ [])
  stands-then right d m h z e s size added = record {
    state = s;
    led = added.leads h z.led;
    holds = added.holds;
    rows = λ asked. added.rows (z.rows asked);
  }
