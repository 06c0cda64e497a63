-- What is written is a spelling.
use Rattle.std.proofs.Common.{◌≡◌, ℕ, ◌+◌, ◌≤◌, ◌<◌, ◌^◌, ◌&&◌, Bool, true, false, List, [], ◌∷◌, None, Some, refl, sym, ap, ◌∙◌, subst, append-nil, length, map, arith}
use Rattle.std.proofs.lemmas.List.{length-map}
use Rattle.std.specs.List.{AllByRecursion}
use Rattle.cp_path.proofs.Same.{text_eq-same}
use Rattle.cp_path.specs.Encoding.{counted_bytes}
use Rattle.cp_path.specs.Place.{in_target, over_limit, target}
use Rattle.cp_path.specs.declared.loc.Loc.{Loc}
use Rattle.cp_model.specs.History.{IsLiteral}
use Rattle.cp_model.specs.Keyed.{from_entries}
use Rattle.cp_model.specs.Literals.{literal_rows}
use Rattle.cp_model.specs.Place.{at_target}
use Rattle.cp_model.specs.Subtrees.{is_there}
use Rattle.cp_model.specs.Tree.{IsTree}
use Rattle.cp_model.specs.declared.literal.Literal.{Literal}
use Rattle.cp_model.specs.declared.literal.Literal.TheVariants as literal
use Rattle.cp_model.specs.declared.op.Op.{Op}
use Rattle.cp_model.specs.declared.op.Op.TheVariants.{Ins, Del, Copy}
use Rattle.cp_model.specs.declared.record.Record.{Record}
use Rattle.cp_record.specs.Bytes.{record_bytes}
use Rattle.cp_record.specs.Kept.{IsPackable, IsPath}
use Rattle.cp_model.specs.Changes.{goes_before, rises}
use Rattle.cp_format.specs.Formats.{AllHold, Reads, moved}
use Rattle.cp_format.specs.Operations.{HasSpelledParts, IsShort, IsSpelledOp, IsTarget}
use Rattle.cp_format.specs.Spelled.{IsSpelled}
use Rattle.cp_format.proofs.Checks.{all_both, all_moved}
use Rattle.cp_frame.specs.Entries.{Batch, IsBatch, IsBatchOf, IsEntry, IsFitEntry, IsWellFormedBatch, IsWellFormedEntry, WrittenEntry, batch_checks, commit, entry_format, load, ops_bytes, record_checks, rest_checks, stamp_bytes, stamped, start, written_entry}
use Rattle.cp_frame.specs.Operations.{IsAllowed, IsFit, IsWellFormed, WrittenOp, op_of, ops_checks, planted, planted_front, short, written_bytes, written_checks}
use Rattle.cp_frame.specs.Rooms.{FitsIn, whole_room}
use Rattle.cp_frame.specs.Sound.{IsOpWithin, IsRecordWithin, IsSoundBatch, IsSoundEntry, IsSoundOp, IsSoundSource, IsSoundTree}
use Rattle.cp_frame.specs.Trees.{Children, HasParts, Written, node, number_of, rows_below, rows_of, tree_checks}
use Rattle.cp_frame.specs.declared.entry.Entry.{Entry}
use Rattle.cp_frame.specs.declared.entry.Entry.TheVariants as entry
use Rattle.cp_frame.proofs.LegalTrees.{legal_spelled}
use Rattle.cp_frame.proofs.Rows.{enough_rows}
use Rattle.cp_frame.proofs.Sources.{sources_spelled}

-- ---- trees

-- the tree that was written of a literal fits, and its labels rise
tree_spelled : (t : Written) (l : Literal) → HasParts t → IsSoundTree l → rows_of t ≡ literal_rows l → FitsIn (whole_room 1) t × AllHold (tree_checks t)
tree_spelled t l p h e = legal_spelled t p (subst IsLiteral (sym e) h.0) (subst (λ rows. IsTree (from_entries rows)) (sym e) h.1)

-- so does that of a source, below its name
source_spelled : (n : List ℕ) (t : Written) (l : Literal) → HasParts t → IsSoundSource n l → rows_of t ≡ literal_rows l → FitsIn (whole_room (length n)) t × AllHold (tree_checks t)
source_spelled n t l p h e =
    sources_spelled n t h.name p (subst IsLiteral (sym e) h.literal) (subst (λ rows. IsTree (from_entries rows)) (sym e) h.tree)
    (λ q i. h.places q (subst (λ rows. is_there (from_entries rows) q ≡ true) e i))

-- ---- operations

-- a place that lies in T is that of its path
target_of : (p : Loc) → in_target p ≡ true → p ≡ at_target p.path
target_of p e = let name : p.db ≡ target = text_eq-same p.db target e in λ i. record { db = name i; path = p.path }

is_target : (p : Loc) → in_target p ≡ true → IsPath p.path → over_limit p ≡ false → IsTarget p
is_target p e path w = record { place = target_of p e; path = path; within = w }

-- a short operation
short_spelled : (trees : Bool) (o : Op) → IsSoundOp trees o → IsOpWithin o → IsShort o → HasSpelledParts o → IsSpelledOp o
short_spelled trees (Ins p a l) h w s parts = (is_target p h.0 parts.0 w, parts.1, s, parts.2)
short_spelled trees (Del a p) h w s parts = (is_target p h parts.0 w, parts.1)
short_spelled trees (Copy q p) h w s parts = (parts.0, w.0, is_target p h parts.1 w.1)

-- a node with children may be inserted only where that is allowed
planted_allowed : (trees : Bool) (p : Loc) (a : List ℕ) (cs : Children) → 1 ≤ number_of cs → (trees ≡ false → IsShort (Ins p a (literal.Node (rows_below cs)))) → trees ≡ true
planted_allowed true p a cs some h = refl
planted_allowed false p a cs some h =
    let bare : literal.Node (rows_below cs) ≡ literal.Node [] = h refl in
    let none : rows_below cs ≡ [] = cc in
    absurd (omega (arith, some, enough_rows cs, ap length none))

-- an operation whose places are within the limits
op_spelled : (trees : Bool) (w : WrittenOp) → IsSoundOp trees (op_of w) → IsOpWithin (op_of w) → IsWellFormed w → (IsFit w × IsAllowed trees w) × AllHold (written_checks w)
op_spelled trees (short o) h w f = ((short_spelled trees o h w f.0 f.1, tt), tt)
op_spelled trees (planted p a cs) h w f =
    let tree = legal_spelled (node cs) f.1 h.1.0 h.1.1 in (
      ((is_target p h.0 f.2 w, f.3, record { fits = tree.0; some = f.0 }), planted_allowed trees p a cs f.0 h.2),
      all_moved (1 + length (planted_front p a)) (tree_checks (node cs)) tree.1,
    )

-- all of them
ops_spelled : (trees : Bool) (ws : List WrittenOp) → AllByRecursion (IsSoundOp trees) (map op_of ws) → AllByRecursion IsOpWithin (map op_of ws) → AllByRecursion IsWellFormed ws →
    AllByRecursion (λ w. IsFit w × IsAllowed trees w) ws × AllHold (ops_checks ws)
ops_spelled trees [] h w f = (tt, tt)
ops_spelled trees (o ∷ ws) h w f =
    let first = op_spelled trees o h.0 w.0 f.0 in
    let others = ops_spelled trees ws h.1 w.1 f.1 in
    let size = length (written_bytes o) in
    ((first.0, others.0), all_both (written_checks o) (moved size (ops_checks ws)) first.1 (all_moved size (ops_checks ws) others.1))

-- ---- records

-- records whose places are within the limits
records_spelled : (rs : List Record) → AllByRecursion IsPackable rs → AllByRecursion IsRecordWithin rs → AllByRecursion IsSpelled rs
records_spelled [] h w = tt
records_spelled (r ∷ rs) h w = (record { packable = h.0; place = w.0.0; source = w.0.1 }, records_spelled rs h.1 w.1)

parts_true : (a b : Bool) → (a && b) ≡ true → (a ≡ true) × (b ≡ true)
parts_true true true e = (refl, refl)
parts_true true false e = absurd (cc)
parts_true false b e = absurd (cc)

after_hold : (r : Record) (rs : List Record) → rises (r ∷ rs) ≡ true → AllHold (record_checks (Some r) rs)
after_hold r [] h = tt
after_hold r (s ∷ rs) h =
    let parts = parts_true (goes_before r s) (rises (s ∷ rs)) h in
    (parts.0, all_moved (length (record_bytes s)) (record_checks (Some s) rs) (after_hold s rs parts.1))

-- the checks of records in order hold
rising_hold : (rs : List Record) → rises rs ≡ true → AllHold (record_checks None rs)
rising_hold [] h = tt
rising_hold (r ∷ rs) h = (refl, all_moved (length (record_bytes r)) (record_checks (Some r) rs) (after_hold r rs h))

-- ---- entries

-- the operations and the records of a batch
batch_spelled : (trees : Bool) (b : Batch) (os : List Op) (rs : List Record) → IsSoundBatch trees os rs → IsWellFormedBatch b → IsBatchOf b os rs → IsBatch trees b × AllHold (batch_checks b)
batch_spelled trees b os rs h f is =
    let ops = ops_spelled trees b.ops (subst (AllByRecursion (IsSoundOp trees)) (sym is.ops) h.ops) (subst (AllByRecursion IsOpWithin) (sym is.ops) h.within.0) f.0 in
    let records = records_spelled b.records f.1 (subst (AllByRecursion IsRecordWithin) (sym is.records) h.within.1) in
    let rise : rises b.records ≡ true = ap rises is.records ∙ h.rise in
    let count : length b.ops ≡ length os = sym (length-map b.ops op_of) ∙ ap length is.ops in
    let size = length (ops_bytes b.ops) + 4 in (
      record {
        some = omega (arith, count, h.some);
        few = omega (arith, count, h.few);
        ops = ops.0;
        records = records;
        counted = subst (λ z. length z < 2 ^ 32) (sym is.records) h.counted;
      },
      all_both (moved 4 (ops_checks b.ops)) (moved size (record_checks None b.records)) (all_moved 4 (ops_checks b.ops) ops.1) (all_moved size (record_checks None b.records) (rising_hold b.records rise)),
    )

-- what was written behind the number of its form
behind_spelled : (e : Entry) (w : WrittenEntry) → IsSoundEntry e → IsWellFormedEntry w → IsEntry e w → IsFitEntry w × AllHold (rest_checks w)
behind_spelled (entry.Start k l) (start j t) h f is = let tree = tree_spelled t l f h is.1 in (tree.0, all_moved 1 (tree_checks t) tree.1)
behind_spelled (entry.Load n l) (load m t) h f is =
    let tree = source_spelled m t l f.1 (subst (λ a. IsSoundSource a l) (sym is.0) h) is.1 in
    ((f.0, tree.0), all_moved (length (counted_bytes m)) (tree_checks t) tree.1)
behind_spelled (entry.Commit os rs) (commit b) h f is = batch_spelled false b os rs h f is
behind_spelled (entry.Stamped s os rs) (stamped r b) h f is =
    let batch = batch_spelled true b os rs h f.1 is.1 in
    ((f.0, batch.0), all_moved (length (stamp_bytes r)) (batch_checks b) batch.1)
behind_spelled (entry.Start k l) (load m t) h f is = absurd is
behind_spelled (entry.Start k l) (commit b) h f is = absurd is
behind_spelled (entry.Start k l) (stamped r b) h f is = absurd is
behind_spelled (entry.Load n l) (start j t) h f is = absurd is
behind_spelled (entry.Load n l) (commit b) h f is = absurd is
behind_spelled (entry.Load n l) (stamped r b) h f is = absurd is
behind_spelled (entry.Commit os rs) (start j t) h f is = absurd is
behind_spelled (entry.Commit os rs) (load m t) h f is = absurd is
behind_spelled (entry.Commit os rs) (stamped r b) h f is = absurd is
behind_spelled (entry.Stamped s os rs) (start j t) h f is = absurd is
behind_spelled (entry.Stamped s os rs) (load m t) h f is = absurd is
behind_spelled (entry.Stamped s os rs) (commit b) h f is = absurd is

-- what was written of an entry is its spelling
pub entry_spelled : (e : Entry) (bytes : List ℕ) → IsSoundEntry e → (w : WrittenEntry) × IsEntry e w × (bytes ≡ written_entry w) × IsWellFormedEntry w → (w : WrittenEntry) × IsEntry e w × Reads entry_format bytes w []
entry_spelled e bytes h p =
    let spelled = behind_spelled e p.0 h p.3 p.1 in
    (p.0, p.1, record { fit = spelled.0; checked = all_moved 1 (rest_checks p.0) spelled.1; is = p.2 ∙ sym (append-nil (written_entry p.0)) })

-- ---- what is allowed for some is allowed for all

-- an operation that may be in a commit without trees may be in one with trees
pub ops_allowed : (trees : Bool) (os : List Op) → AllByRecursion (IsSoundOp trees) os → AllByRecursion (IsSoundOp true) os
ops_allowed trees [] h = tt
ops_allowed trees (Ins p a l ∷ os) h = ((h.0.0, h.0.1, λ e. absurd (cc)), ops_allowed trees os h.1)
ops_allowed trees (Del a p ∷ os) h = (h.0, ops_allowed trees os h.1)
ops_allowed trees (Copy q p ∷ os) h = (h.0, ops_allowed trees os h.1)

pub batch_allowed : (trees : Bool) (os : List Op) (rs : List Record) → IsSoundBatch trees os rs → IsSoundBatch true os rs
batch_allowed trees os rs h = record { some = h.some; few = h.few; ops = ops_allowed trees os h.ops; written = h.written; records = h.records; rise = h.rise; counted = h.counted; within = h.within }
