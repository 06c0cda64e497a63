-- Operations that insert no tree with children, as a form and what follows it.
use Rattle.std.proofs.Common.{◌≡◌, ℕ, zero, suc, ◌+◌, ◌-◌, ◌<◌, ◌≤◌, false, List, [], ◌∷◌, ◌++◌, refl, sym, ap, subst, length, length-append, sum_by, arith}
use Rattle.std.proofs.lemmas.List.Sums.{sum_by-cons}
use Rattle.std.specs.List.{flat_map}
use Rattle.cp_path.specs.Encoding.{counted_bytes, path_bytes}
use Rattle.cp_path.specs.Place.{Label, Path, at_target, over_limit, target}
use Rattle.cp_path.specs.declared.limits.TheConstants.{LABEL_MAX, LOC_MAX, TEXT_MAX}
use Rattle.cp_path.specs.declared.loc.Loc.{Loc}
use Rattle.cp_path.specs.declared.value.Value.TheVariants.{Null, False, True, Whole, Text}
use Rattle.cp_model.specs.declared.row.Content.{Content}
use Rattle.cp_model.specs.declared.row.Content.TheVariants.{Node, Leaf}
use Rattle.cp_model.specs.declared.literal.Literal.{Literal}
use Rattle.cp_model.specs.declared.literal.Literal.TheVariants as literal
use Rattle.cp_model.specs.declared.op.Op.{Op}
use Rattle.cp_model.specs.declared.op.Op.TheVariants.{Ins, Del, Copy}
use Rattle.cp_record.specs.Bytes.{content_length, inserted_length, op_length, path_length}
use Rattle.cp_format.specs.declared.fault.FormatFault.{FormatFault}
use Rattle.cp_format.specs.Contents.{IsContent, content_bytes, content_format}
use Rattle.cp_format.specs.Faults.{FaultAt}
use Rattle.cp_format.specs.Formats.{Format, ReadsAt, unchecked}
use Rattle.cp_format.specs.Operations.{IsShort, IsSpelledOp, alone, op_behind, op_bytes, op_form, op_format, op_rest, root_content, target_format}
use Rattle.cp_format.specs.Parts.{count_format, label_format, path_format, place_format}
use Rattle.cp_format.proofs.Contents.{has_content, plain_content, within_text_max}
use Rattle.cp_format.proofs.Faults.{fault_alike, fault_first, fault_second}
use Rattle.cp_format.proofs.Formats.{HasSome, IsPlain, Alike, both, has_both, has_alike, plain_alike, plain_both, reads_alike_at}
use Rattle.cp_format.proofs.Forms.{alike_forms}
use Rattle.cp_format.proofs.Labels.{has_label, has_path, has_place, plain_label, plain_path, plain_place, within_limits, is_within}
use Rattle.cp_format.proofs.Leaves.{plain_count}

-- ---- places of T

-- a place of T is its path
pub alike_target : Alike (path_format (LOC_MAX - 1)) target_format at_target
alike_target = record {
  there = λ p f. (record { place = refl; path = f.0; within = is_within (at_target p) f.0.few (omega (arith, f.1)) }, refl, refl);
  back = λ q f.
      let loc = within_limits (at_target q.path) (subst (λ x. over_limit x ≡ false) f.place f.within) in
      (q.path, (f.path, omega (arith, loc.1)), sym f.place);
}

pub plain_target : IsPlain target_format
plain_target = plain_alike (path_format (LOC_MAX - 1)) target_format at_target alike_target (plain_path (LOC_MAX - 1) (omega arith))

pub has_target : HasSome target_format
has_target = has_alike (path_format (LOC_MAX - 1)) target_format at_target alike_target (has_path (LOC_MAX - 1))

-- a fault in the path is one of the place
pub target_fault : (bytes : List ℕ) (at : ℕ) (e : FormatFault) → FaultAt (path_format (LOC_MAX - 1)) bytes at e → FaultAt target_format bytes at e
target_fault bytes at e f = fault_alike (path_format (LOC_MAX - 1)) target_format at_target alike_target bytes at e f

-- the path is read, and so is the place with the name as it was made
pub target_read : (bytes : List ℕ) (at next : ℕ) (db : List ℕ) (p : Path) → db ≡ target → ReadsAt (path_format (LOC_MAX - 1)) bytes at p next → ReadsAt target_format bytes at (record { db = db; path = p }) next
target_read bytes at next db p e r =
    subst (λ d. ReadsAt target_format bytes at (record { db = d; path = p }) next) (sym e)
    (reads_alike_at (path_format (LOC_MAX - 1)) target_format at_target alike_target bytes at p next r)

-- ---- insertions

root_alone : (c : Content) → root_content (alone c) ≡ c
root_alone Node = refl
root_alone (Leaf v) = refl

abbrev pub behind_label : Label → Format Content
behind_label a = content_format TEXT_MAX

abbrev pub behind_into : Loc → Format (Label × Content)
behind_into p = both (label_format LABEL_MAX) behind_label

abbrev pub ins_of : Loc × (Label × Content) → Op
ins_of z = Ins z.0 z.1.0 (alone z.1.1)

-- an insertion is its place, its label and its content
pub alike_ins : Alike (both target_format behind_into) (op_behind 1) ins_of
alike_ins = record {
  there = λ z f.
      let root = root_alone z.1.1 in
      (((f.0, f.1.0.0, ap alone (sym root), subst IsContent (sym root) f.1.1.0), refl), ap (λ c. path_bytes z.0.path ++ (counted_bytes z.1.0 ++ content_bytes c)) root, refl);
  back = λ o f. ins_parts o f.0 f.1;
}
  where
    ins_parts : (o : Op) → IsSpelledOp o → op_form o ≡ 1 → (z : Loc × (Label × Content)) × (both target_format behind_into).fit z × (ins_of z ≡ o)
    ins_parts (Ins p a l) f e = ((p, (a, root_content l)), (f.0, ((f.1, f.1.short), (f.3, within_text_max (root_content l) f.3))), ap (λ (t : Literal). Ins p a t) (sym f.2))
    ins_parts (Del a p) f e = absurd (omega (arith, e))
    ins_parts (Copy q p) f e = absurd (omega (arith, e))

has_into : (p : Loc) → HasSome (behind_into p)
has_into p = has_both (label_format LABEL_MAX) behind_label (has_label LABEL_MAX) (λ a f. has_content TEXT_MAX)

plain_into : (p : Loc) → IsPlain (behind_into p)
plain_into p = plain_both (label_format LABEL_MAX) behind_label (plain_label LABEL_MAX) (λ a f. plain_content TEXT_MAX)

module _ (bytes : List ℕ) (at : ℕ) where
  ins_fault : (e : FormatFault) → FaultAt (both target_format behind_into) bytes at e → FaultAt (op_behind 1) bytes at e
  ins_fault e f = fault_alike (both target_format behind_into) (op_behind 1) ins_of alike_ins bytes at e f

  -- a fault in the place is one of the insertion
  pub ins_into_fault : (e : FormatFault) → FaultAt target_format bytes at e → FaultAt (op_behind 1) bytes at e
  ins_into_fault e f = ins_fault e (fault_first target_format behind_into bytes at (λ x g h. tt) (λ p h. has_into p) e f)

  module _ (p : Loc) (mid : ℕ) (r : ReadsAt target_format bytes at p mid) where
    into_fault : (e : FormatFault) → FaultAt (behind_into p) bytes mid e → FaultAt (op_behind 1) bytes at e
    into_fault e f = ins_fault e (fault_second target_format behind_into bytes at plain_target mid p r e f)

    -- a fault in the label is one of the insertion
    pub ins_label_fault : (e : FormatFault) → FaultAt (label_format LABEL_MAX) bytes mid e → FaultAt (op_behind 1) bytes at e
    ins_label_fault e f = into_fault e (fault_first (label_format LABEL_MAX) behind_label bytes mid (λ x g h. tt) (λ a h. has_content TEXT_MAX) e f)

    -- a fault in the content is one of the insertion
    pub ins_content_fault : (a : Label) (behind : ℕ) → ReadsAt (label_format LABEL_MAX) bytes mid a behind → (e : FormatFault) → FaultAt (content_format TEXT_MAX) bytes behind e → FaultAt (op_behind 1) bytes at e
    ins_content_fault a behind s e f = into_fault e (fault_second (label_format LABEL_MAX) behind_label bytes mid (plain_label LABEL_MAX) behind a s e f)

-- ---- deletions

abbrev pub behind_from : Loc → Format Label
behind_from p = label_format LABEL_MAX

abbrev pub del_of : Loc × Label → Op
del_of z = Del z.1 z.0

-- a deletion is its place and its label
pub alike_del : Alike (both target_format behind_from) (op_behind 2) del_of
alike_del = record {
  there = λ z f. (((f.0, f.1.0), refl), refl, refl);
  back = λ o f. del_parts o f.0 f.1;
}
  where
    del_parts : (o : Op) → IsSpelledOp o → op_form o ≡ 2 → (z : Loc × Label) × (both target_format behind_from).fit z × (del_of z ≡ o)
    del_parts (Ins p a l) f e = absurd (omega (arith, e))
    del_parts (Del a p) f e = ((p, a), (f.0, (f.1, f.1.short)), refl)
    del_parts (Copy q p) f e = absurd (omega (arith, e))

-- a fault in the place is one of the deletion
pub del_from_fault : (bytes : List ℕ) (at : ℕ) (e : FormatFault) → FaultAt target_format bytes at e → FaultAt (op_behind 2) bytes at e
del_from_fault bytes at e f =
    fault_alike (both target_format behind_from) (op_behind 2) del_of alike_del bytes at e
    (fault_first target_format behind_from bytes at (λ x g h. tt) (λ p h. has_label LABEL_MAX) e f)

-- a fault in the label is one of the deletion
pub del_label_fault : (bytes : List ℕ) (at : ℕ) (p : Loc) (mid : ℕ) → ReadsAt target_format bytes at p mid → (e : FormatFault) → FaultAt (label_format LABEL_MAX) bytes mid e → FaultAt (op_behind 2) bytes at e
del_label_fault bytes at p mid r e f =
    fault_alike (both target_format behind_from) (op_behind 2) del_of alike_del bytes at e
    (fault_second target_format behind_from bytes at plain_target mid p r e f)

-- ---- copies

abbrev pub behind_origin : Loc → Format Loc
behind_origin q = target_format

abbrev pub copy_of : Loc × Loc → Op
copy_of z = Copy z.0 z.1

-- a copy is its two places
pub alike_copy : Alike (both place_format behind_origin) (op_behind 3) copy_of
alike_copy = record {
  there = λ z f. (((f.0.0, f.0.1, f.1), refl), refl, refl);
  back = λ o f. copy_parts o f.0 f.1;
}
  where
    copy_parts : (o : Op) → IsSpelledOp o → op_form o ≡ 3 → (z : Loc × Loc) × (both place_format behind_origin).fit z × (copy_of z ≡ o)
    copy_parts (Ins p a l) f e = absurd (omega (arith, e))
    copy_parts (Del a p) f e = absurd (omega (arith, e))
    copy_parts (Copy q p) f e = ((q, p), ((f.0, f.1), f.2), refl)

-- a fault in the origin is one of the copy
pub copy_from_fault : (bytes : List ℕ) (at : ℕ) (e : FormatFault) → FaultAt place_format bytes at e → FaultAt (op_behind 3) bytes at e
copy_from_fault bytes at e f =
    fault_alike (both place_format behind_origin) (op_behind 3) copy_of alike_copy bytes at e
    (fault_first place_format behind_origin bytes at (λ x g h. tt) (λ q h. has_target) e f)

-- a fault in the destination is one of the copy
pub copy_into_fault : (bytes : List ℕ) (at : ℕ) (q : Loc) (mid : ℕ) → ReadsAt place_format bytes at q mid → (e : FormatFault) → FaultAt target_format bytes mid e → FaultAt (op_behind 3) bytes at e
copy_into_fault bytes at q mid r e f =
    fault_alike (both place_format behind_origin) (op_behind 3) copy_of alike_copy bytes at e
    (fault_second place_format behind_origin bytes at plain_place mid q r e f)

-- ---- any form

pub plain_op_behind : (k : ℕ) → 1 ≤ k → k ≤ 3 → IsPlain (op_behind k)
plain_op_behind zero some h = absurd (omega arith)
plain_op_behind (suc zero) some h = plain_alike (both target_format behind_into) (op_behind 1) ins_of alike_ins (plain_both target_format behind_into plain_target (λ p f. plain_into p))
plain_op_behind (suc (suc zero)) some h = plain_alike (both target_format behind_from) (op_behind 2) del_of alike_del (plain_both target_format behind_from plain_target (λ p f. plain_label LABEL_MAX))
plain_op_behind (suc (suc (suc zero))) some h = plain_alike (both place_format behind_origin) (op_behind 3) copy_of alike_copy (plain_both place_format behind_origin plain_place (λ q f. plain_target))
plain_op_behind (suc (suc (suc (suc n)))) some h = absurd (omega arith)

pub has_op_behind : (k : ℕ) → 1 ≤ k → k ≤ 3 → HasSome (op_behind k)
has_op_behind zero some h = absurd (omega arith)
has_op_behind (suc zero) some h = has_alike (both target_format behind_into) (op_behind 1) ins_of alike_ins (has_both target_format behind_into has_target (λ p f. has_into p))
has_op_behind (suc (suc zero)) some h = has_alike (both target_format behind_from) (op_behind 2) del_of alike_del (has_both target_format behind_from has_target (λ p f. has_label LABEL_MAX))
has_op_behind (suc (suc (suc zero))) some h = has_alike (both place_format behind_origin) (op_behind 3) copy_of alike_copy (has_both place_format behind_origin has_place (λ q f. has_target))
has_op_behind (suc (suc (suc (suc n)))) some h = absurd (omega arith)

form_within : (o : Op) → (1 ≤ op_form o) × (op_form o ≤ 3) × (op_form o < 256)
form_within (Ins p a l) = (omega arith, omega arith, omega arith)
form_within (Del a p) = (omega arith, omega arith, omega arith)
form_within (Copy q p) = (omega arith, omega arith, omega arith)

-- an operation is its form and what follows it
pub alike_op : Alike (both (count_format 1 3) op_behind) op_format (λ z. z.1)
alike_op = alike_forms IsSpelledOp op_form op_rest unchecked 1 3 form_within

-- no operation's spelling begins another's
pub plain_op : IsPlain op_format
plain_op = plain_alike (both (count_format 1 3) op_behind) op_format (λ z. z.1) alike_op (plain_both (count_format 1 3) op_behind (plain_count 1 3) (λ k f. plain_op_behind k f.0 f.1))

-- ---- lengths

labels_counted : (p : Path) → length (flat_map counted_bytes p) ≡ sum_by (λ a. length a + 1) p
labels_counted [] = refl
labels_counted (a ∷ p) = omega (arith, labels_counted p, sum_by-cons (λ (b : Label). length b + 1) a p, length-append (counted_bytes a) (flat_map counted_bytes p))

path_counted : (p : Path) → length (path_bytes p) ≡ path_length p
path_counted p = omega (arith, labels_counted p)

content_counted : (c : Content) → length (content_bytes c) ≡ content_length c
content_counted Node = refl
content_counted (Leaf Null) = refl
content_counted (Leaf False) = refl
content_counted (Leaf True) = refl
content_counted (Leaf (Whole n)) = refl
content_counted (Leaf (Text a)) = omega arith

inserted_counted : (l : Literal) → l ≡ alone (root_content l) → length (content_bytes (root_content l)) ≡ inserted_length l
inserted_counted (literal.Leaf v) e = content_counted (Leaf v)
inserted_counted (literal.Node rows) e = sym (ap inserted_length e)

-- an operation's bytes are as many as a commit counts for it
pub op_counted : (o : Op) → IsShort o → length (op_bytes o) ≡ op_length o
unfolding op_length
op_counted (Ins p a l) h =
    omega (arith, path_counted p.path, inserted_counted l h, length-append (path_bytes p.path) (counted_bytes a ++ content_bytes (root_content l)), length-append (counted_bytes a) (content_bytes (root_content l)))
op_counted (Del a p) h = omega (arith, path_counted p.path, length-append (path_bytes p.path) (counted_bytes a))
op_counted (Copy q p) h =
    omega (arith, path_counted q.path, path_counted p.path, length-append (counted_bytes q.db ++ path_bytes q.path) (path_bytes p.path), length-append (counted_bytes q.db) (path_bytes q.path))
