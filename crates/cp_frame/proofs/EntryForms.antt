-- Entries as a form and what follows it.
use Rattle.std.proofs.Common.{◌≡◌, ℕ, zero, suc, ◌<◌, ◌≤◌, true, false, List, [], ◌∷◌, refl, sym, ap, subst, length, arith}
use Rattle.cp_path.specs.declared.limits.TheConstants.{LABEL_MAX}
use Rattle.cp_model.specs.declared.kind.Kind.{Kind}
use Rattle.cp_model.specs.declared.kind.Kind.TheVariants as kind
use Rattle.cp_model.specs.declared.literal.Literal.{Literal}
use Rattle.cp_model.specs.declared.op.Op.{Op}
use Rattle.cp_model.specs.declared.record.Record.{Record}
use Rattle.cp_model.specs.declared.stamp.Stamp.{Stamp}
use Rattle.cp_model.specs.Place.{Label}
use Rattle.cp_format.specs.declared.fault.FormatFault.{FormatFault}
use Rattle.cp_format.specs.Faults.{FaultAt}
use Rattle.cp_format.specs.Formats.{Format, ReadsAt}
use Rattle.cp_format.specs.Parts.{count_format, label_format, name_format, number_format}
use Rattle.cp_format.proofs.Faults.{fault_alike, fault_first, fault_second}
use Rattle.cp_format.proofs.Formats.{Alike, HasSome, IsPlain, both, has_alike, has_both, plain_alike, plain_both, reads_alike_at, reads_both_at}
use Rattle.cp_format.proofs.Forms.{alike_forms}
use Rattle.cp_format.proofs.Labels.{has_label, has_name, plain_label, plain_name}
use Rattle.cp_format.proofs.Leaves.{has_number, plain_count, plain_number}
use Rattle.cp_frame.specs.Entries.{Batch, IsEntry, IsFitEntry, WrittenEntry, batch_format, commit, entry_form, entry_format, entry_rest, kind_number, load, rest_checks, stamped, start}
use Rattle.cp_frame.specs.EntryReading.{HasReadBatch, HasReadEntry, entry_behind, kind_format, stamp_format}
use Rattle.cp_frame.specs.Rooms.{HasTakenTree, tree_format, whole_room}
use Rattle.cp_frame.specs.Trees.{Written}
use Rattle.cp_frame.specs.declared.entry.Entry.{Entry}
use Rattle.cp_frame.specs.declared.entry.Entry.TheVariants as entry
use Rattle.cp_frame.proofs.Batches.{has_batch, plain_batch}
use Rattle.cp_frame.proofs.TreeFormats.{has_tree, plain_tree}

-- ---- kinds and stamps

-- the kind of this number
abbrev pub kind_of : ℕ → Kind
kind_of zero = kind.N
kind_of (suc zero) = kind.T
kind_of (suc (suc zero)) = kind.H
kind_of (suc (suc (suc n))) = kind.HT

kind_is : (n : ℕ) → n ≤ 3 → kind_number (kind_of n) ≡ n
kind_is zero le = refl
kind_is (suc zero) le = refl
kind_is (suc (suc zero)) le = refl
kind_is (suc (suc (suc zero))) le = refl
kind_is (suc (suc (suc (suc n)))) le = absurd (omega (arith, le))

number_is : (k : Kind) → (kind_number k ≤ 3) × (kind_of (kind_number k) ≡ k)
number_is kind.N = (omega arith, refl)
number_is kind.T = (omega arith, refl)
number_is kind.H = (omega arith, refl)
number_is kind.HT = (omega arith, refl)

-- a kind is its number
pub alike_kind : Alike (count_format 0 3) kind_format kind_of
alike_kind = record {
  there = λ n f. (tt, ap (λ m. m ∷ []) (kind_is n f.1), refl);
  back = λ k f. let n = number_is k in (kind_number k, (omega arith, n.0, omega (arith, n.0)), n.1);
}

has_kind : HasSome kind_format
has_kind = record { first = kind.N; fit = tt }

plain_kind : IsPlain kind_format
plain_kind = plain_alike (count_format 0 3) kind_format kind_of alike_kind (plain_count 0 3)

-- the moment, which follows the curator
abbrev pub behind_curator : Label → Format ℕ
behind_curator a = number_format

-- the stamp of a curator and a moment
abbrev pub stamp_of : Label × ℕ → Stamp
stamp_of z = record { curator = z.0; moment = z.1 }

-- a stamp is a curator and a moment
pub alike_stamp : Alike (both (label_format LABEL_MAX) behind_curator) stamp_format stamp_of
alike_stamp = record {
  there = λ z f. ((f.0.0, f.1), refl, refl);
  back = λ s f. ((s.curator, s.moment), ((f.0, f.0.short), f.1), refl);
}

has_stamp : HasSome stamp_format
has_stamp = has_alike (both (label_format LABEL_MAX) behind_curator) stamp_format stamp_of alike_stamp (has_both (label_format LABEL_MAX) behind_curator (has_label LABEL_MAX) (λ a f. has_number))

plain_stamp : IsPlain stamp_format
plain_stamp = plain_alike (both (label_format LABEL_MAX) behind_curator) stamp_format stamp_of alike_stamp (plain_both (label_format LABEL_MAX) behind_curator (plain_label LABEL_MAX) (λ a f. plain_number))

module _ (bytes : List ℕ) (at : ℕ) where
  -- a fault in the number is one of the kind
  pub kind_fault : (e : FormatFault) → FaultAt (count_format 0 3) bytes at e → FaultAt kind_format bytes at e
  kind_fault e f = fault_alike (count_format 0 3) kind_format kind_of alike_kind bytes at e f

  -- a fault in the curator is one of the stamp
  pub curator_fault : (e : FormatFault) → FaultAt (label_format LABEL_MAX) bytes at e → FaultAt stamp_format bytes at e
  curator_fault e f =
      fault_alike (both (label_format LABEL_MAX) behind_curator) stamp_format stamp_of alike_stamp bytes at e
      (fault_first (label_format LABEL_MAX) behind_curator bytes at (λ x g h. tt) (λ a g. has_number) e f)

  module _ (a : Label) (mid : ℕ) (r : ReadsAt (label_format LABEL_MAX) bytes at a mid) where
    -- a fault in the moment is one of the stamp
    pub moment_fault : (e : FormatFault) → FaultAt number_format bytes mid e → FaultAt stamp_format bytes at e
    moment_fault e f =
        fault_alike (both (label_format LABEL_MAX) behind_curator) stamp_format stamp_of alike_stamp bytes at e
        (fault_second (label_format LABEL_MAX) behind_curator bytes at (plain_label LABEL_MAX) mid a r e f)

    -- the moment is read, and so is the stamp
    pub stamp_read : (n next : ℕ) → ReadsAt number_format bytes mid n next → ReadsAt stamp_format bytes at (record { curator = a; moment = n }) next
    stamp_read n next s =
        reads_alike_at (both (label_format LABEL_MAX) behind_curator) stamp_format stamp_of alike_stamp bytes at (a, n) next
        (reads_both_at (label_format LABEL_MAX) behind_curator bytes at mid next a n r s)

-- ---- starts

-- the tree, which follows the kind
abbrev pub behind_kind : Kind → Format Written
behind_kind k = tree_format (whole_room 1)

-- the start of a kind and a tree
abbrev pub start_of : Kind × Written → WrittenEntry
start_of z = start z.0 z.1

-- a start is its kind and its tree
pub alike_start : Alike (both kind_format behind_kind) (entry_behind 1) start_of
alike_start = record { there = λ z f. ((f.1, refl), refl, refl); back = λ w f. start_parts w f }
  where
    start_parts : (w : WrittenEntry) → (entry_behind 1).fit w → (z : Kind × Written) × (both kind_format behind_kind).fit z × (start_of z ≡ w)
    start_parts (start k t) f = ((k, t), (tt, f.0), refl)
    start_parts (load n t) f = absurd (omega (arith, f.1))
    start_parts (commit b) f = absurd (omega (arith, f.1))
    start_parts (stamped s b) f = absurd (omega (arith, f.1))

module _ (bytes : List ℕ) (at : ℕ) where
  -- a fault in the kind is one of the start
  pub start_kind_fault : (e : FormatFault) → FaultAt kind_format bytes at e → FaultAt (entry_behind 1) bytes at e
  start_kind_fault e f =
      fault_alike (both kind_format behind_kind) (entry_behind 1) start_of alike_start bytes at e
      (fault_first kind_format behind_kind bytes at (λ x g h. tt) (λ k g. has_tree (whole_room 1)) e f)

  module _ (k : Kind) (mid : ℕ) (r : ReadsAt kind_format bytes at k mid) where
    -- a fault in the tree is one of the start
    pub start_tree_fault : (e : FormatFault) → FaultAt (tree_format (whole_room 1)) bytes mid e → FaultAt (entry_behind 1) bytes at e
    start_tree_fault e f =
        fault_alike (both kind_format behind_kind) (entry_behind 1) start_of alike_start bytes at e
        (fault_second kind_format behind_kind bytes at plain_kind mid k r e f)

    -- the tree is read, and so is the start
    pub start_read : (l : Literal) (next : ℕ) → HasTakenTree (whole_room 1) bytes mid l next → HasReadEntry 1 bytes at (entry.Start k l) next
    start_read l next t = record {
      written = start k t.tree;
      reads =
          reads_alike_at (both kind_format behind_kind) (entry_behind 1) start_of alike_start bytes at (k, t.tree) next
          (reads_both_at kind_format behind_kind bytes at mid next k t.tree r t.reads);
      is = (refl, t.rows);
    }

-- ---- loads

-- the tree, which follows the name
abbrev pub behind_name : List ℕ → Format Written
behind_name n = tree_format (whole_room (length n))

-- the load of a name and a tree
abbrev pub load_of : List ℕ × Written → WrittenEntry
load_of z = load z.0 z.1

-- a load is its name and its tree
pub alike_load : Alike (both name_format behind_name) (entry_behind 2) load_of
alike_load = record { there = λ z f. (((f.0, f.1), refl), refl, refl); back = λ w f. load_parts w f }
  where
    load_parts : (w : WrittenEntry) → (entry_behind 2).fit w → (z : List ℕ × Written) × (both name_format behind_name).fit z × (load_of z ≡ w)
    load_parts (start k t) f = absurd (omega (arith, f.1))
    load_parts (load n t) f = ((n, t), (f.0.0, f.0.1), refl)
    load_parts (commit b) f = absurd (omega (arith, f.1))
    load_parts (stamped s b) f = absurd (omega (arith, f.1))

module _ (bytes : List ℕ) (at : ℕ) where
  -- a fault in the name is one of the load
  pub load_name_fault : (e : FormatFault) → FaultAt name_format bytes at e → FaultAt (entry_behind 2) bytes at e
  load_name_fault e f =
      fault_alike (both name_format behind_name) (entry_behind 2) load_of alike_load bytes at e
      (fault_first name_format behind_name bytes at (λ x g h. tt) (λ n g. has_tree (whole_room (length n))) e f)

  module _ (n : List ℕ) (mid : ℕ) (r : ReadsAt name_format bytes at n mid) where
    -- a fault in the tree is one of the load
    pub load_tree_fault : (e : FormatFault) → FaultAt (tree_format (whole_room (length n))) bytes mid e → FaultAt (entry_behind 2) bytes at e
    load_tree_fault e f =
        fault_alike (both name_format behind_name) (entry_behind 2) load_of alike_load bytes at e
        (fault_second name_format behind_name bytes at plain_name mid n r e f)

    -- the tree is read, and so is the load
    pub load_read : (l : Literal) (next : ℕ) → HasTakenTree (whole_room (length n)) bytes mid l next → HasReadEntry 2 bytes at (entry.Load n l) next
    load_read l next t = record {
      written = load n t.tree;
      reads =
          reads_alike_at (both name_format behind_name) (entry_behind 2) load_of alike_load bytes at (n, t.tree) next
          (reads_both_at name_format behind_name bytes at mid next n t.tree r t.reads);
      is = (refl, t.rows);
    }

-- ---- commits

-- a commit without a stamp is a batch
pub alike_commit : Alike (batch_format false) (entry_behind 3) commit
alike_commit = record { there = λ b f. ((f, refl), refl, refl); back = λ w f. commit_parts w f }
  where
    commit_parts : (w : WrittenEntry) → (entry_behind 3).fit w → (b : Batch) × (batch_format false).fit b × (commit b ≡ w)
    commit_parts (start k t) f = absurd (omega (arith, f.1))
    commit_parts (load n t) f = absurd (omega (arith, f.1))
    commit_parts (commit b) f = (b, f.0, refl)
    commit_parts (stamped s b) f = absurd (omega (arith, f.1))

module _ (bytes : List ℕ) (at : ℕ) where
  -- a fault in the batch is one of the commit
  pub commit_fault : (e : FormatFault) → FaultAt (batch_format false) bytes at e → FaultAt (entry_behind 3) bytes at e
  commit_fault e f = fault_alike (batch_format false) (entry_behind 3) commit alike_commit bytes at e f

  -- the batch is read, and so is the commit
  pub commit_read : (os : List Op) (rs : List Record) (next : ℕ) → HasReadBatch false bytes at os rs next → HasReadEntry 3 bytes at (entry.Commit os rs) next
  commit_read os rs next b = record {
    written = commit b.batch;
    reads = reads_alike_at (batch_format false) (entry_behind 3) commit alike_commit bytes at b.batch next b.reads;
    is = b.is;
  }

-- ---- commits with a stamp

-- the batch, which follows the stamp
abbrev pub behind_stamp : Stamp → Format Batch
behind_stamp s = batch_format true

-- the commit of a stamp and a batch
abbrev pub stamped_of : Stamp × Batch → WrittenEntry
stamped_of z = stamped z.0 z.1

-- a commit with a stamp is its stamp and its batch
pub alike_stamped : Alike (both stamp_format behind_stamp) (entry_behind 4) stamped_of
alike_stamped = record { there = λ z f. (((f.0, f.1), refl), refl, refl); back = λ w f. stamped_parts w f }
  where
    stamped_parts : (w : WrittenEntry) → (entry_behind 4).fit w → (z : Stamp × Batch) × (both stamp_format behind_stamp).fit z × (stamped_of z ≡ w)
    stamped_parts (start k t) f = absurd (omega (arith, f.1))
    stamped_parts (load n t) f = absurd (omega (arith, f.1))
    stamped_parts (commit b) f = absurd (omega (arith, f.1))
    stamped_parts (stamped s b) f = ((s, b), (f.0.0, f.0.1), refl)

module _ (bytes : List ℕ) (at : ℕ) where
  -- a fault in the stamp is one of the commit
  pub stamped_stamp_fault : (e : FormatFault) → FaultAt stamp_format bytes at e → FaultAt (entry_behind 4) bytes at e
  stamped_stamp_fault e f =
      fault_alike (both stamp_format behind_stamp) (entry_behind 4) stamped_of alike_stamped bytes at e
      (fault_first stamp_format behind_stamp bytes at (λ x g h. tt) (λ s g. has_batch true) e f)

  module _ (s : Stamp) (mid : ℕ) (r : ReadsAt stamp_format bytes at s mid) where
    -- a fault in the operations and the records is one of the commit
    pub stamped_batch_fault : (e : FormatFault) → FaultAt (batch_format true) bytes mid e → FaultAt (entry_behind 4) bytes at e
    stamped_batch_fault e f =
        fault_alike (both stamp_format behind_stamp) (entry_behind 4) stamped_of alike_stamped bytes at e
        (fault_second stamp_format behind_stamp bytes at plain_stamp mid s r e f)

    -- the batch is read, and so is the commit
    pub stamped_read : (os : List Op) (rs : List Record) (next : ℕ) → HasReadBatch true bytes mid os rs next → HasReadEntry 4 bytes at (entry.Stamped s os rs) next
    stamped_read os rs next b = record {
      written = stamped s b.batch;
      reads =
          reads_alike_at (both stamp_format behind_stamp) (entry_behind 4) stamped_of alike_stamped bytes at (s, b.batch) next
          (reads_both_at stamp_format behind_stamp bytes at mid next s b.batch r b.reads);
      is = (refl, b.is);
    }

-- ---- any form

has_entry_behind : (k : ℕ) → 1 ≤ k → k ≤ 4 → HasSome (entry_behind k)
has_entry_behind zero some few = absurd (omega arith)
has_entry_behind (suc zero) some few = has_alike (both kind_format behind_kind) (entry_behind 1) start_of alike_start (has_both kind_format behind_kind has_kind (λ k f. has_tree (whole_room 1)))
has_entry_behind (suc (suc zero)) some few = has_alike (both name_format behind_name) (entry_behind 2) load_of alike_load (has_both name_format behind_name has_name (λ n f. has_tree (whole_room (length n))))
has_entry_behind (suc (suc (suc zero))) some few = has_alike (batch_format false) (entry_behind 3) commit alike_commit (has_batch false)
has_entry_behind (suc (suc (suc (suc zero)))) some few = has_alike (both stamp_format behind_stamp) (entry_behind 4) stamped_of alike_stamped (has_both stamp_format behind_stamp has_stamp (λ s f. has_batch true))
has_entry_behind (suc (suc (suc (suc (suc n))))) some few = absurd (omega arith)

plain_entry_behind : (k : ℕ) → 1 ≤ k → k ≤ 4 → IsPlain (entry_behind k)
plain_entry_behind zero some few = absurd (omega arith)
plain_entry_behind (suc zero) some few = plain_alike (both kind_format behind_kind) (entry_behind 1) start_of alike_start (plain_both kind_format behind_kind plain_kind (λ k f. plain_tree (whole_room 1)))
plain_entry_behind (suc (suc zero)) some few = plain_alike (both name_format behind_name) (entry_behind 2) load_of alike_load (plain_both name_format behind_name plain_name (λ n f. plain_tree (whole_room (length n))))
plain_entry_behind (suc (suc (suc zero))) some few = plain_alike (batch_format false) (entry_behind 3) commit alike_commit (plain_batch false)
plain_entry_behind (suc (suc (suc (suc zero)))) some few = plain_alike (both stamp_format behind_stamp) (entry_behind 4) stamped_of alike_stamped (plain_both stamp_format behind_stamp plain_stamp (λ s f. plain_batch true))
plain_entry_behind (suc (suc (suc (suc (suc n))))) some few = absurd (omega arith)

form_within : (w : WrittenEntry) → (1 ≤ entry_form w) × (entry_form w ≤ 4) × (entry_form w < 256)
form_within (start k t) = (omega arith, omega arith, omega arith)
form_within (load n t) = (omega arith, omega arith, omega arith)
form_within (commit b) = (omega arith, omega arith, omega arith)
form_within (stamped s b) = (omega arith, omega arith, omega arith)

-- an entry is its form and what follows it
pub alike_entry : Alike (both (count_format 1 4) entry_behind) entry_format (λ z. z.1)
alike_entry = alike_forms IsFitEntry entry_form entry_rest rest_checks 1 4 form_within

-- no entry's spelling begins another's
pub plain_entry : IsPlain entry_format
plain_entry = plain_alike (both (count_format 1 4) entry_behind) entry_format (λ z. z.1) alike_entry (plain_both (count_format 1 4) entry_behind (plain_count 1 4) (λ k f. plain_entry_behind k f.0 f.1))

module _ (bytes : List ℕ) (at : ℕ) where
  -- a fault in the form is one of the entry
  pub entry_form_fault : (e : FormatFault) → FaultAt (count_format 1 4) bytes at e → FaultAt entry_format bytes at e
  entry_form_fault e f =
      fault_alike (both (count_format 1 4) entry_behind) entry_format (λ z. z.1) alike_entry bytes at e
      (fault_first (count_format 1 4) entry_behind bytes at (λ x g h. tt) (λ k g. has_entry_behind k g.0 g.1) e f)

  module _ (k mid : ℕ) (r : ReadsAt (count_format 1 4) bytes at k mid) (form : ℕ) (same : k ≡ form) where
    -- a fault in what follows the form is one of the entry
    pub entry_behind_fault : (e : FormatFault) → FaultAt (entry_behind form) bytes mid e → FaultAt entry_format bytes at e
    entry_behind_fault e f =
        fault_alike (both (count_format 1 4) entry_behind) entry_format (λ z. z.1) alike_entry bytes at e
        (fault_second (count_format 1 4) entry_behind bytes at (plain_count 1 4) mid k r e (subst (λ n. FaultAt (entry_behind n) bytes mid e) (sym same) f))

    -- what follows the form is read, and so is the entry
    pub entry_read : (x : Entry) (next : ℕ) → HasReadEntry form bytes mid x next → (w : WrittenEntry) × ReadsAt entry_format bytes at w next × IsEntry x w
    entry_read x next h =
        let s = subst (λ n. ReadsAt (entry_behind n) bytes mid h.written next) (sym same) h.reads in (
          h.written,
          reads_alike_at (both (count_format 1 4) entry_behind) entry_format (λ z. z.1) alike_entry bytes at (k, h.written) next (reads_both_at (count_format 1 4) entry_behind bytes at mid next k h.written r s),
          h.is,
        )
