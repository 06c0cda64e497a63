-- Entries that are written.
use Rattle.std.proofs.Common.{◌≡◌, ℕ, List, [], ◌∷◌, ◌++◌, refl, sym, ap, ◌∙◌, append_assoc, subst, map}
use Rattle.std.specs.List.{AllByRecursion}
use Rattle.cp_path.specs.Encoding.{counted_bytes}
use Rattle.cp_model.specs.declared.kind.Kind.{Kind}
use Rattle.cp_model.specs.declared.literal.Literal.{Literal}
use Rattle.cp_model.specs.declared.op.Op.{Op}
use Rattle.cp_model.specs.declared.record.Record.{Record}
use Rattle.cp_model.specs.declared.stamp.Stamp.{Stamp}
use Rattle.cp_record.specs.Kept.{IsName, IsPackable}
use Rattle.cp_frame.specs.Entries.{Batch, IsBatchOf, IsEntry, IsStamp, IsWellFormedBatch, IsWellFormedEntry, WrittenEntry, batch_bytes, commit, counted_records, kind_number, load, ops_bytes, stamp_bytes, stamped, start, written_entry}
use Rattle.cp_frame.specs.Operations.{IsWellFormed, WrittenOp, op_of}
use Rattle.cp_frame.specs.Trees.{HasPutTree, tree_bytes}
use Rattle.cp_frame.specs.declared.entry.Entry.{Entry}
use Rattle.cp_frame.specs.declared.entry.Entry.TheVariants as entry

two_parts : (old xs ys a new : List ℕ) → a ≡ old ++ xs → new ≡ a ++ ys → new ≡ old ++ (xs ++ ys)
two_parts old xs ys a new e f = rw (f, e) (simp append_assoc)

three_parts : (old xs ys zs a b new : List ℕ) → a ≡ old ++ xs → b ≡ a ++ ys → new ≡ b ++ zs → new ≡ old ++ (xs ++ (ys ++ zs))
three_parts old xs ys zs a b new e f g = rw (g, f, e) (simp append_assoc)

-- the operations are written, and the records
pub batch_put : (os : List Op) (rs : List Record) (old a new : List ℕ) → (ws : List WrittenOp) × (map op_of ws ≡ os) × (a ≡ old ++ ops_bytes ws) × AllByRecursion IsWellFormed ws → new ≡ a ++ counted_records rs → AllByRecursion IsPackable rs →
    (b : Batch) × IsBatchOf b os rs × (new ≡ old ++ batch_bytes b) × IsWellFormedBatch b
batch_put os rs old a new p e kept =
    let b : Batch = record { ops = p.0; records = rs } in
    (b, record { ops = p.1; records = refl }, two_parts old (ops_bytes p.0) (counted_records rs) a new p.2 e, (p.3, kept))

-- the bytes of the entry were appended
abbrev pub HasPutEntry : Entry → List ℕ → List ℕ → Type 0
HasPutEntry x old new = (w : WrittenEntry) × IsEntry x w × (new ≡ old ++ written_entry w) × IsWellFormedEntry w

module _ (x : Entry) (old a new : List ℕ) where
  put_as : (y : Entry) → x ≡ y → HasPutEntry y old new → HasPutEntry x old new
  put_as y e h = subst (λ z. HasPutEntry z old new) (sym e) h

  -- the form, the kind and the tree of a start
  pub start_put : (k : Kind) (l : Literal) (n : ℕ) (b : List ℕ) → x ≡ entry.Start k l → n ≡ kind_number k → a ≡ old ++ 1 ∷ [] → b ≡ a ++ n ∷ [] → HasPutTree l b new → HasPutEntry x old new
  start_put k l n b e number f g h =
      let kind : b ≡ a ++ kind_number k ∷ [] = g ∙ ap (λ m. a ++ m ∷ []) number in
      put_as (entry.Start k l) e (start k h.tree, (refl, h.rows), three_parts old (1 ∷ []) (kind_number k ∷ []) (tree_bytes h.tree) a b new f kind h.bytes, h.parts)

  -- the form, the name and the tree of a load
  pub load_put : (n : List ℕ) (l : Literal) (b : List ℕ) → x ≡ entry.Load n l → a ≡ old ++ 2 ∷ [] → b ≡ a ++ counted_bytes n → IsName n → HasPutTree l b new → HasPutEntry x old new
  load_put n l b e f g name h = put_as (entry.Load n l) e (load n h.tree, (refl, h.rows), three_parts old (2 ∷ []) (counted_bytes n) (tree_bytes h.tree) a b new f g h.bytes, (name, h.parts))

  -- the form, the operations and the records of a commit
  pub commit_put : (os : List Op) (rs : List Record) → x ≡ entry.Commit os rs → a ≡ old ++ 3 ∷ [] → (b : Batch) × IsBatchOf b os rs × (new ≡ a ++ batch_bytes b) × IsWellFormedBatch b → HasPutEntry x old new
  commit_put os rs e f h = put_as (entry.Commit os rs) e (commit h.0, h.1, two_parts old (3 ∷ []) (batch_bytes h.0) a new f h.2, h.3)

  -- the same with its stamp
  pub stamped_put : (s : Stamp) (os : List Op) (rs : List Record) (b : List ℕ) → x ≡ entry.Stamped s os rs → a ≡ old ++ 4 ∷ [] → b ≡ a ++ stamp_bytes s → IsStamp s → (c : Batch) × IsBatchOf c os rs × (new ≡ b ++ batch_bytes c) × IsWellFormedBatch c → HasPutEntry x old new
  stamped_put s os rs b e f g stamp h = put_as (entry.Stamped s os rs) e (stamped s h.0, (refl, h.1), three_parts old (4 ∷ []) (stamp_bytes s) (batch_bytes h.0) a b new f g h.2, (stamp, h.3))
