-- What has been read may be written.
use Rattle.std.proofs.Common.{◌≡◌, ℕ, ◌+◌, ◌<◌, ◌^◌, ◌&&◌, Bool, true, false, List, [], ◌∷◌, None, Some, refl, sym, ap, ◌∙◌, subst, length, map, arith}
use Rattle.std.proofs.lemmas.List.{length-map}
use Rattle.std.specs.List.{AllByRecursion}
use Rattle.cp_path.specs.Place.{in_target}
use Rattle.cp_path.specs.declared.loc.Loc.{Loc}
use Rattle.cp_model.specs.History.{AreWritten, IsLiteral}
use Rattle.cp_model.specs.Keyed.{from_entries}
use Rattle.cp_model.specs.Literals.{literal_rows}
use Rattle.cp_model.specs.Place.{at_target}
use Rattle.cp_model.specs.Subtrees.{is_there}
use Rattle.cp_model.specs.Tree.{IsTree}
use Rattle.cp_model.specs.declared.literal.Literal.{Literal}
use Rattle.cp_model.specs.declared.op.Op.{Op}
use Rattle.cp_model.specs.declared.op.Op.TheVariants.{Ins, Del, Copy}
use Rattle.cp_model.specs.declared.record.Record.{Record}
use Rattle.cp_model.specs.declared.row.Content.{Content}
use Rattle.cp_model.specs.declared.row.Content.TheVariants.{Node, Leaf}
use Rattle.cp_record.specs.Bytes.{record_bytes}
use Rattle.cp_record.specs.Kept.{IsName}
use Rattle.cp_model.specs.Changes.{goes_before, rises}
use Rattle.cp_format.specs.Contents.{IsContent}
use Rattle.cp_format.specs.Formats.{AllHold, moved}
use Rattle.cp_format.specs.Operations.{IsSpelledOp, alone, root_content}
use Rattle.cp_format.specs.Spelled.{IsSpelled}
use Rattle.cp_format.proofs.Checks.{all_first, all_second, part_all}
use Rattle.cp_format.proofs.Contents.{within_text_max}
use Rattle.cp_frame.specs.Entries.{Batch, IsBatch, IsBatchOf, IsEntry, IsFitEntry, WrittenEntry, commit, load, ops_bytes, record_checks, rest_checks, stamped, start, stamp_bytes, batch_checks}
use Rattle.cp_frame.specs.Laws.{OpsAreWritten}
use Rattle.cp_frame.specs.Operations.{IsAllowed, IsFit, WrittenOp, op_of, ops_checks, planted, planted_front, short, written_bytes, written_checks}
use Rattle.cp_frame.specs.Rooms.{FitsIn, whole_room}
use Rattle.cp_frame.specs.Sound.{AreWritable, IsOpWithin, IsRecordWithin, IsSoundBatch, IsSoundEntry, IsSoundOp, IsSoundSource, IsSoundTree}
use Rattle.cp_frame.specs.Trees.{Written, leaf, no_more, node, rows_of, tree_checks}
use Rattle.cp_frame.specs.declared.entry.Entry.{Entry}
use Rattle.cp_frame.specs.declared.entry.Entry.TheVariants as entry
use Rattle.cp_frame.proofs.LegalTrees.{written_legal}
use Rattle.cp_frame.proofs.Rows.{leaf_weight}
use Rattle.cp_frame.proofs.Sources.{sources_legal}
use Rattle.cp_path.specs.Encoding.{counted_bytes}

-- ---- trees

-- the literal that was read as a tree in the room of T
tree_sound : (t : Written) (l : Literal) → FitsIn (whole_room 1) t → AllHold (tree_checks t) → rows_of t ≡ literal_rows l → IsSoundTree l
tree_sound t l f h e = subst (λ rows. IsLiteral rows × IsTree (from_entries rows)) e (written_legal t f h)

-- the literal that was read as a tree in the room of a name
source_sound : (n m : List ℕ) (t : Written) (l : Literal) → m ≡ n → IsName m → FitsIn (whole_room (length m)) t → AllHold (tree_checks t) → rows_of t ≡ literal_rows l → IsSoundSource n l
source_sound n m t l same name f h e =
    let s = sources_legal m t name.name f h in
    subst (λ a. IsSoundSource a l) same (record {
      name = name.name;
      literal = subst IsLiteral e s.0;
      tree = subst (λ rows. IsTree (from_entries rows)) e s.1;
      places = λ p i. s.2 p (subst (λ rows. is_there (from_entries rows) p ≡ true) (sym e) i);
    })

-- a content alone
alone_sound : (c : Content) → IsContent c → IsSoundTree (alone c)
alone_sound Node h = written_legal (node no_more) (record { parts = (omega arith, tt); deep = omega arith; long = omega arith; few = omega arith; light = omega arith }) tt
alone_sound (Leaf v) h =
    written_legal (leaf v) (record { parts = h; deep = omega arith; long = omega arith; few = omega arith; light = omega (arith, leaf_weight v, within_text_max (Leaf v) h) }) tt

-- ---- operations

-- a place of T lies in T
is_in_target : (p : Loc) → p ≡ at_target p.path → in_target p ≡ true
is_in_target p e = ap in_target e

-- a short operation that has a spelling
short_sound : (trees : Bool) (o : Op) → IsSpelledOp o → IsSoundOp trees o × IsOpWithin o
short_sound trees (Ins p a l) f = ((is_in_target p f.0.place, subst IsSoundTree (sym f.2) (alone_sound (root_content l) f.3), λ e. f.2), f.0.within)
short_sound trees (Del a p) f = (is_in_target p f.0.place, f.0.within)
short_sound trees (Copy q p) f = (is_in_target p f.2.place, (f.1, f.2.within))

-- an operation within the limits
op_sound : (trees : Bool) (w : WrittenOp) → IsFit w → IsAllowed trees w → AllHold (written_checks w) → IsSoundOp trees (op_of w) × IsOpWithin (op_of w)
op_sound trees (short o) f a h = short_sound trees o f
op_sound trees (planted p b cs) f a h =
    let tree = written_legal (node cs) f.2.fits (part_all (1 + length (planted_front p b)) (tree_checks (node cs)) h) in
    ((is_in_target p f.0.place, tree, λ e. absurd (let both : false ≡ true = sym e ∙ a in cc)), f.0.within)

-- what was read can be written as a statement
pub ops_written : OpsAreWritten
ops_written (short (Ins p a l)) f h = (f.1.short, (subst IsSoundTree (sym f.2) (alone_sound (root_content l) f.3)).0)
ops_written (short (Del a p)) f h = tt
ops_written (short (Copy q p)) f h = tt
ops_written (planted p a cs) f h = (f.1.short, (written_legal (node cs) f.2.fits (part_all (1 + length (planted_front p a)) (tree_checks (node cs)) h)).0)

-- all of them
ops_sound : (trees : Bool) (ws : List WrittenOp) → AllByRecursion (λ w. IsFit w × IsAllowed trees w) ws → AllHold (ops_checks ws) → AllByRecursion (IsSoundOp trees) (map op_of ws) × AllByRecursion IsOpWithin (map op_of ws)
ops_sound trees [] f h = (tt, tt)
ops_sound trees (w ∷ ws) f h =
    let rest = moved (length (written_bytes w)) (ops_checks ws) in
    let first = op_sound trees w f.0.0 f.0.1 (all_first (written_checks w) rest h) in
    let others = ops_sound trees ws f.1 (part_all (length (written_bytes w)) (ops_checks ws) (all_second (written_checks w) rest h)) in
    ((first.0, others.0), (first.1, others.1))

all_written : (trees : Bool) (ws : List WrittenOp) → AllByRecursion (λ w. IsFit w × IsAllowed trees w) ws → AllHold (ops_checks ws) → AreWritten (map op_of ws)
all_written trees [] f h = tt
all_written trees (w ∷ ws) f h =
    let rest = moved (length (written_bytes w)) (ops_checks ws) in (
      ops_written w f.0.0 (all_first (written_checks w) rest h),
      all_written trees ws f.1 (part_all (length (written_bytes w)) (ops_checks ws) (all_second (written_checks w) rest h)),
    )

-- ---- records

-- records that have a spelling
records_sound : (rs : List Record) → AllByRecursion IsSpelled rs → AreWritable rs × AllByRecursion IsRecordWithin rs
records_sound [] h = (tt, tt)
records_sound (r ∷ rs) h =
    let others = records_sound rs h.1 in
    (((is_in_target r.loc h.0.packable.place, h.0.packable.source.copied), others.0), ((h.0.place, h.0.source), others.1))

both_true : (a b : Bool) → a ≡ true → b ≡ true → (a && b) ≡ true
both_true a b e f = ap (λ z. z && b) e ∙ f

rise_after : (r : Record) (rs : List Record) → AllHold (record_checks (Some r) rs) → rises (r ∷ rs) ≡ true
rise_after r [] h = refl
rise_after r (s ∷ rs) h = both_true (goes_before r s) (rises (s ∷ rs)) h.0 (rise_after s rs (part_all (length (record_bytes s)) (record_checks (Some s) rs) h.1))

-- records whose checks hold are in order
records_rise : (rs : List Record) → AllHold (record_checks None rs) → rises rs ≡ true
records_rise [] h = refl
records_rise (r ∷ rs) h = rise_after r rs (part_all (length (record_bytes r)) (record_checks (Some r) rs) h.1)

-- ---- entries

-- the operations and the records of a batch
batch_sound : (trees : Bool) (b : Batch) (os : List Op) (rs : List Record) → IsBatch trees b → AllHold (batch_checks b) → IsBatchOf b os rs → IsSoundBatch trees os rs
batch_sound trees b os rs f h is =
    let front = moved 4 (ops_checks b.ops) in
    let size = length (ops_bytes b.ops) + 4 in
    let back = moved size (record_checks None b.records) in
    let ops = ops_sound trees b.ops f.ops (part_all 4 (ops_checks b.ops) (all_first front back h)) in
    let records = records_sound b.records f.records in
    let rise = records_rise b.records (part_all size (record_checks None b.records) (all_second front back h)) in
    let count : length b.ops ≡ length os = sym (length-map b.ops op_of) ∙ ap length is.ops in
    record {
      some = omega (arith, count, f.some);
      few = omega (arith, count, f.few);
      ops = subst (AllByRecursion (IsSoundOp trees)) is.ops ops.0;
      written = subst AreWritten is.ops (all_written trees b.ops f.ops (part_all 4 (ops_checks b.ops) (all_first front back h)));
      records = subst AreWritable is.records records.0;
      rise = subst (λ z. rises z ≡ true) is.records rise;
      counted = subst (λ z. length z < 2 ^ 32) is.records f.counted;
      within = (subst (AllByRecursion IsOpWithin) is.ops ops.1, subst (AllByRecursion IsRecordWithin) is.records records.1);
    }

-- what was read behind the number of its form
behind_sound : (e : Entry) (w : WrittenEntry) → IsFitEntry w → AllHold (rest_checks w) → IsEntry e w → IsSoundEntry e
behind_sound (entry.Start k l) (start j t) f h is = tree_sound t l f (part_all 1 (tree_checks t) h) is.1
behind_sound (entry.Load n l) (load m t) f h is = source_sound n m t l is.0 f.0 f.1 (part_all (length (counted_bytes m)) (tree_checks t) h) is.1
behind_sound (entry.Commit os rs) (commit b) f h is = batch_sound false b os rs f h is
behind_sound (entry.Stamped s os rs) (stamped r b) f h is = batch_sound true b os rs f.1 (part_all (length (stamp_bytes r)) (batch_checks b) h) is.1
behind_sound (entry.Start k l) (load m t) f h is = absurd is
behind_sound (entry.Start k l) (commit b) f h is = absurd is
behind_sound (entry.Start k l) (stamped r b) f h is = absurd is
behind_sound (entry.Load n l) (start j t) f h is = absurd is
behind_sound (entry.Load n l) (commit b) f h is = absurd is
behind_sound (entry.Load n l) (stamped r b) f h is = absurd is
behind_sound (entry.Commit os rs) (start j t) f h is = absurd is
behind_sound (entry.Commit os rs) (load m t) f h is = absurd is
behind_sound (entry.Commit os rs) (stamped r b) f h is = absurd is
behind_sound (entry.Stamped s os rs) (start j t) f h is = absurd is
behind_sound (entry.Stamped s os rs) (load m t) f h is = absurd is
behind_sound (entry.Stamped s os rs) (commit b) f h is = absurd is

-- what was read may be written
pub entry_sound : (e : Entry) (w : WrittenEntry) → IsFitEntry w → AllHold (moved 1 (rest_checks w)) → IsEntry e w → IsSoundEntry e
entry_sound e w f h is = behind_sound e w f (part_all 1 (rest_checks w) h) is
