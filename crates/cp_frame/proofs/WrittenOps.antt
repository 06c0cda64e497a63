-- Operations as a form and what follows it, and so many of them.
use Rattle.std.proofs.Common.{◌≡◌, ◌≢◌, ℕ, zero, suc, ◌+◌, ◌<◌, ◌≤◌, Bool, true, false, List, [], ◌∷◌, ◌++◌, refl, sym, ap, ◌∙◌, subst, length, map, arith}
use Rattle.std.proofs.lemmas.List.{map-append}
use Rattle.std.specs.List.{AllByRecursion}
use Rattle.cp_path.specs.declared.loc.Loc.{Loc}
use Rattle.cp_model.specs.declared.op.Op.{Op}
use Rattle.cp_model.specs.declared.op.Op.TheVariants.{Ins, Del, Copy}
use Rattle.cp_model.specs.Place.{Label}
use Rattle.cp_format.specs.declared.fault.FormatFault.{FormatFault}
use Rattle.cp_format.specs.Faults.{FaultAt}
use Rattle.cp_format.specs.Formats.{Check, Format, ReadsAt, moved}
use Rattle.cp_format.specs.Operations.{op_behind, op_form, op_rest}
use Rattle.cp_format.specs.Parts.{count_format}
use Rattle.cp_format.proofs.Checks.{IsJudged}
use Rattle.cp_format.proofs.Counted.{IsCounted, SoFar, all_read, has_counted, judged_counted, next_fails, next_read, none_yet, plain_counted}
use Rattle.cp_format.proofs.Faults.{fault_alike, fault_by, fault_first, fault_second}
use Rattle.cp_format.proofs.Formats.{Alike, HasSome, IsPlain, both, has_alike, has_both, judged_alike, judged_both, plain_alike, plain_both, reads_alike_at, reads_both_at}
use Rattle.cp_format.proofs.Leaves.{has_count, plain_count}
use Rattle.cp_format.proofs.Operations.{has_op_behind, plain_op_behind}
use Rattle.cp_frame.specs.OpReading.{HasReadPlanted, planted_format}
use Rattle.cp_frame.specs.Operations.{HasTakenOp, HasTakenOps, IsAllowed, IsFit, WrittenOp, op_format_with, op_of, ops_format_of, planted, planted_front, short, written_bytes, written_checks, written_form}
use Rattle.cp_frame.specs.Trees.{Children, node, tree_bytes, tree_checks}
use Rattle.cp_frame.proofs.Moved.{moved_twice}
use Rattle.cp_frame.proofs.Planted.{has_planted, judged_planted, plain_planted}

-- ---- what follows the form

-- the greatest number of a form
abbrev pub op_most : Bool → ℕ
op_most true = 4
op_most false = 3

-- what follows the number of the form
abbrev pub written_rest : WrittenOp → List ℕ
written_rest (short o) = op_rest o
written_rest (planted p a cs) = planted_front p a ++ tree_bytes (node cs)

-- the checks of what follows the number of the form
abbrev pub written_rest_checks : WrittenOp → List Check
written_rest_checks (short o) = []
written_rest_checks (planted p a cs) = moved (length (planted_front p a)) (tree_checks (node cs))

-- what follows this number of a form
abbrev pub op_behind_with : Bool → ℕ → Format WrittenOp
op_behind_with trees k = record { fit = λ w. (IsFit w × IsAllowed trees w) × (written_form w ≡ k); bytes = λ w. written_rest w; checks = λ w. written_rest_checks w }

-- a short operation
pub alike_short : (trees : Bool) (k : ℕ) → k ≤ 3 → Alike (op_behind k) (op_behind_with trees k) short
alike_short trees k le = record {
  there = λ o f. (((f.0, tt), f.1), refl, refl);
  back = λ w f. short_of w f;
}
  where
    short_of : (w : WrittenOp) → (op_behind_with trees k).fit w → (o : Op) × (op_behind k).fit o × (short o ≡ w)
    short_of (short o) f = (o, (f.0.0, f.1), refl)
    short_of (planted p a cs) f = absurd (omega (arith, f.1, le))

-- the insertion of a tree that is written so
abbrev pub planted_of : Loc × (Label × Children) → WrittenOp
planted_of z = planted z.0 z.1.0 z.1.1

few_forms : (o : Op) → (1 ≤ op_form o) × (op_form o ≤ 3)
few_forms (Ins p a l) = (omega arith, omega arith)
few_forms (Del a p) = (omega arith, omega arith)
few_forms (Copy q p) = (omega arith, omega arith)

-- the insertion of a tree
pub alike_with_tree : Alike planted_format (op_behind_with true 4) planted_of
alike_with_tree = record {
  there = λ z f. ((((f.0, f.1, f.2), refl), refl), refl, refl);
  back = λ w f. planted_in w f;
}
  where
    planted_in : (w : WrittenOp) → (op_behind_with true 4).fit w → (z : Loc × (Label × Children)) × planted_format.fit z × (planted_of z ≡ w)
    planted_in (short o) f = absurd (omega (arith, f.1, few_forms o))
    planted_in (planted p a cs) f = ((p, (a, cs)), f.0.0, refl)

module _ (trees : Bool) where
  has_short : (k : ℕ) → 1 ≤ k → k ≤ 3 → HasSome (op_behind_with trees k)
  has_short k some le = has_alike (op_behind k) (op_behind_with trees k) short (alike_short trees k le) (has_op_behind k some le)

  plain_short : (k : ℕ) → 1 ≤ k → k ≤ 3 → IsPlain (op_behind_with trees k)
  plain_short k some le = plain_alike (op_behind k) (op_behind_with trees k) short (alike_short trees k le) (plain_op_behind k some le)

  judged_short : (k : ℕ) → k ≤ 3 → IsJudged (op_behind_with trees k)
  judged_short k le = judged_alike (op_behind k) (op_behind_with trees k) short (alike_short trees k le) (λ x f h. tt)

-- a form is that of a short operation, or that of the insertion of a tree where these are allowed
by_form : (P : Bool → ℕ → Type 0) → ((trees : Bool) (k : ℕ) → 1 ≤ k → k ≤ 3 → P trees k) → P true 4 → (trees : Bool) (k : ℕ) → 1 ≤ k → k ≤ op_most trees → P trees k
by_form P s p trees zero some le = absurd (omega arith)
by_form P s p trees (suc zero) some le = s trees 1 (omega arith) (omega arith)
by_form P s p trees (suc (suc zero)) some le = s trees 2 (omega arith) (omega arith)
by_form P s p trees (suc (suc (suc zero))) some le = s trees 3 (omega arith) (omega arith)
by_form P s p true (suc (suc (suc (suc zero)))) some le = p
by_form P s p false (suc (suc (suc (suc zero)))) some le = absurd (omega arith)
by_form P s p true (suc (suc (suc (suc (suc k))))) some le = absurd (omega arith)
by_form P s p false (suc (suc (suc (suc (suc k))))) some le = absurd (omega arith)

pub has_behind_with : (trees : Bool) (k : ℕ) → 1 ≤ k → k ≤ op_most trees → HasSome (op_behind_with trees k)
has_behind_with = by_form (λ trees k. HasSome (op_behind_with trees k)) has_short (has_alike planted_format (op_behind_with true 4) planted_of alike_with_tree has_planted)

pub plain_behind_with : (trees : Bool) (k : ℕ) → 1 ≤ k → k ≤ op_most trees → IsPlain (op_behind_with trees k)
plain_behind_with = by_form (λ trees k. IsPlain (op_behind_with trees k)) plain_short (plain_alike planted_format (op_behind_with true 4) planted_of alike_with_tree plain_planted)

pub judged_behind_with : (trees : Bool) (k : ℕ) → 1 ≤ k → k ≤ op_most trees → IsJudged (op_behind_with trees k)
judged_behind_with =
    by_form (λ trees k. IsJudged (op_behind_with trees k)) (λ trees k some le. judged_short trees k le)
    (judged_alike planted_format (op_behind_with true 4) planted_of alike_with_tree judged_planted)

-- ---- the form, and what follows it

form_within : (trees : Bool) (w : WrittenOp) → IsAllowed trees w → (1 ≤ written_form w) × (written_form w ≤ op_most trees) × (written_form w < 256)
form_within true (short o) a = let f = few_forms o in (f.0, omega (arith, f.1), omega (arith, f.1))
form_within false (short o) a = let f = few_forms o in (f.0, f.1, omega (arith, f.1))
form_within true (planted p b cs) a = (omega arith, omega arith, omega arith)
form_within false (planted p b cs) a = absurd (let both : false ≡ true = a in cc)

-- an operation is its form and what follows it
pub alike_with : (trees : Bool) → Alike (both (count_format 1 (op_most trees)) (op_behind_with trees)) (op_format_with trees) (λ z. z.1)
alike_with trees = record {
  there = λ z f. there_of z.0 z.1 f.1;
  back = λ w f. ((written_form w, w), (form_within trees w f.1, (f, refl)), refl);
}
  where
    there_of : (k : ℕ) (w : WrittenOp) → (op_behind_with trees k).fit w → (op_format_with trees).fit w × (written_bytes w ≡ k ∷ written_rest w) × (written_checks w ≡ moved 1 (written_rest_checks w))
    there_of k (short o) f = (f.0, ap (λ n. n ∷ op_rest o) f.1, refl)
    there_of k (planted p a cs) f = (f.0, ap (λ n. n ∷ (planted_front p a ++ tree_bytes (node cs))) f.1, sym (moved_twice 1 (length (planted_front p a)) (tree_checks (node cs))))

must_allow : (trees : Bool) → 4 ≤ op_most trees → true ≡ trees
must_allow true le = refl
must_allow false le = absurd (omega arith)

module _ (trees : Bool) where
  most_four : op_most trees ≤ 4
  most_four = elim trees as (λ b. op_most b ≤ 4) [ true ↦ omega arith | false ↦ omega arith ]

  some_form : 1 ≤ op_most trees
  some_form = elim trees as (λ b. 1 ≤ op_most b) [ true ↦ omega arith | false ↦ omega arith ]

  pub has_op_with : HasSome (op_format_with trees)
  has_op_with =
      has_alike (both (count_format 1 (op_most trees)) (op_behind_with trees)) (op_format_with trees) (λ z. z.1) (alike_with trees)
      (has_both (count_format 1 (op_most trees)) (op_behind_with trees) (has_count 1 (op_most trees) some_form (omega arith)) (λ k f. has_behind_with trees k f.0 f.1))

  pub plain_op_with : IsPlain (op_format_with trees)
  plain_op_with =
      plain_alike (both (count_format 1 (op_most trees)) (op_behind_with trees)) (op_format_with trees) (λ z. z.1) (alike_with trees)
      (plain_both (count_format 1 (op_most trees)) (op_behind_with trees) (plain_count 1 (op_most trees)) (λ k f. plain_behind_with trees k f.0 f.1))

  pub judged_op_with : IsJudged (op_format_with trees)
  judged_op_with =
      judged_alike (both (count_format 1 (op_most trees)) (op_behind_with trees)) (op_format_with trees) (λ z. z.1) (alike_with trees)
      (judged_both (count_format 1 (op_most trees)) (op_behind_with trees) (λ x f h. tt) (λ k f. judged_behind_with trees k f.0 f.1))

  module _ (bytes : List ℕ) (at : ℕ) where
    op_fault : (e : FormatFault) → FaultAt (both (count_format 1 (op_most trees)) (op_behind_with trees)) bytes at e → FaultAt (op_format_with trees) bytes at e
    op_fault e f = fault_alike (both (count_format 1 (op_most trees)) (op_behind_with trees)) (op_format_with trees) (λ z. z.1) (alike_with trees) bytes at e f

    -- a fault in the form is one of the operation
    pub form_fault : (most : ℕ) → most ≡ op_most trees → (e : FormatFault) → FaultAt (count_format 1 most) bytes at e → FaultAt (op_format_with trees) bytes at e
    form_fault most same e f =
        op_fault e
        (fault_first (count_format 1 (op_most trees)) (op_behind_with trees) bytes at (λ x g h. tt) (λ k g. has_behind_with trees k g.0 g.1) e (subst (λ n. FaultAt (count_format 1 n) bytes at e) same f))

    module _ (most k mid : ℕ) (same : most ≡ op_most trees) (r : ReadsAt (count_format 1 most) bytes at k mid) where
      form_read : ReadsAt (count_format 1 (op_most trees)) bytes at k mid
      form_read = subst (λ n. ReadsAt (count_format 1 n) bytes at k mid) same r

      behind_fault : (e : FormatFault) → FaultAt (op_behind_with trees k) bytes mid e → FaultAt (op_format_with trees) bytes at e
      behind_fault e f = op_fault e (fault_second (count_format 1 (op_most trees)) (op_behind_with trees) bytes at (plain_count 1 (op_most trees)) mid k form_read e f)

      behind_read : (w : WrittenOp) (next : ℕ) → ReadsAt (op_behind_with trees k) bytes mid w next → ReadsAt (op_format_with trees) bytes at w next
      behind_read w next s =
          reads_alike_at (both (count_format 1 (op_most trees)) (op_behind_with trees)) (op_format_with trees) (λ z. z.1) (alike_with trees) bytes at (k, w) next
          (reads_both_at (count_format 1 (op_most trees)) (op_behind_with trees) bytes at mid next k w form_read s)

      -- a form that isn't that of a tree is one of a short operation
      pub form_few : k ≢ 4 → k ≤ 3
      form_few n = omega (arith, form_read.reads.fit.1, most_four, n)

      -- a fault in what follows a short form is one of the operation
      pub short_fault : k ≤ 3 → (e : FormatFault) → FaultAt (op_behind k) bytes mid e → FaultAt (op_format_with trees) bytes at e
      short_fault le e f = behind_fault e (fault_alike (op_behind k) (op_behind_with trees k) short (alike_short trees k le) bytes mid e f)

      -- a short operation is read
      pub short_read : k ≤ 3 → (o : Op) (next : ℕ) → ReadsAt (op_behind k) bytes mid o next → HasTakenOp trees bytes at o next
      short_read le o next s = record {
        written = short o;
        reads = behind_read (short o) next (reads_alike_at (op_behind k) (op_behind_with trees k) short (alike_short trees k le) bytes mid o next s);
        is = refl;
      }

      module _ (four : k ≡ 4) where
        allowed : true ≡ trees
        allowed = must_allow trees (omega (arith, four, form_read.reads.fit.1))

        -- a fault in the insertion of a tree is one of the operation
        pub tree_op_fault : (e : FormatFault) → FaultAt planted_format bytes mid e → FaultAt (op_format_with trees) bytes at e
        tree_op_fault e f =
            behind_fault e
            (subst (λ b. FaultAt (op_behind_with b k) bytes mid e) allowed
            (subst (λ n. FaultAt (op_behind_with true n) bytes mid e) (sym four) (fault_alike planted_format (op_behind_with true 4) planted_of alike_with_tree bytes mid e f)))

        -- the insertion of a tree is read
        pub tree_op_read : (o : Op) (next : ℕ) → HasReadPlanted bytes mid o next → HasTakenOp trees bytes at o next
        tree_op_read o next h =
            let z : Loc × (Label × Children) = (h.into, (h.label, h.children)) in
            let w = planted h.into h.label h.children in
            let s = reads_alike_at planted_format (op_behind_with true 4) planted_of alike_with_tree bytes mid z next h.reads in
            record {
              written = w;
              reads = behind_read w next (subst (λ b. ReadsAt (op_behind_with b k) bytes mid w next) allowed (subst (λ n. ReadsAt (op_behind_with true n) bytes mid w next) (sym four) s));
              is = sym h.is;
            }

-- ---- so many operations

module _ (trees : Bool) where
  -- any number of operations is allowed
  abbrev pub any_ops : ℕ → Unit {0} → Type 0
  any_ops n s = Unit {0}

  -- each is in the same format
  abbrev pub each_op : ℕ → Unit {0} → Format WrittenOp
  each_op n s = op_format_with trees

  -- an operation leaves nothing for the next
  abbrev pub the_same : Unit {0} → WrittenOp → Unit {0}
  the_same s w = s

  -- the operations still to come
  abbrev pub ops_after : ℕ → Unit {0} → Format (List WrittenOp)
  ops_after n s = ops_format_of trees n

  no_op : (ws : List WrittenOp) → length ws ≡ 0 → ws ≡ []
  no_op [] e = refl
  no_op (w ∷ ws) e = absurd (omega (arith, e))

  ops_parts : (n : ℕ) (ws : List WrittenOp) → AllByRecursion (λ w. IsFit w × IsAllowed trees w) ws → length ws ≡ suc n → (z : WrittenOp × List WrittenOp) × (both (op_format_with trees) (λ w. ops_format_of trees n)).fit z × (◌≡◌ {A = List WrittenOp} (z.0 ∷ z.1) ws)
  ops_parts n [] all size = absurd (omega (arith, size))
  ops_parts n (w ∷ ws) all size = ((w, ws), (all.0, (all.1, omega (arith, size))), refl)

  -- operations are one after another
  pub ops_counted : IsCounted any_ops each_op the_same ops_after
  ops_counted = record {
    none = λ s. ((tt, refl), refl, refl);
    only = λ s ws f. no_op ws f.1;
    more = λ n s h. record { there = λ z f. (((f.0, f.1.0), ap suc f.1.1), refl, refl); back = λ ws f. ops_parts n ws f.0 f.1 };
    keeps = λ n s w h f. tt;
    some = λ n s h. has_op_with trees;
    plain = λ n s h. plain_op_with trees;
    judged = λ n s h. judged_op_with trees;
  }

  pub has_ops : (n : ℕ) → HasSome (ops_format_of trees n)
  has_ops n = has_counted any_ops each_op the_same ops_after ops_counted n tt tt

  pub plain_ops : (n : ℕ) → IsPlain (ops_format_of trees n)
  plain_ops n = plain_counted any_ops each_op the_same ops_after ops_counted n tt tt

  pub judged_ops : (n : ℕ) → IsJudged (ops_format_of trees n)
  judged_ops n = judged_counted any_ops each_op the_same ops_after ops_counted n tt tt

  -- the first so many operations are read
  pub record OpsSoFar (bytes : List ℕ) (at count k : ℕ) (os : List Op) (next : ℕ) : Type 0 where
    pub written : List WrittenOp
    pub so_far : SoFar any_ops ops_after bytes at count tt k written next tt
    pub are : map op_of written ≡ os

  module _ (bytes : List ℕ) (at count : ℕ) where
    pub no_ops_yet : (os : List Op) → os ≡ [] → at ≤ length bytes → OpsSoFar bytes at count 0 os at
    no_ops_yet os e le = record { written = []; so_far = none_yet any_ops each_op the_same ops_after ops_counted bytes at count tt [] refl le tt; are = sym e }

    module _ (k : ℕ) (os : List Op) (next : ℕ) (s : OpsSoFar bytes at count k os next) where
      -- all operations are read
      pub ops_read : count ≤ k → HasTakenOps trees count bytes at os next
      ops_read le = record { written = s.written; reads = all_read any_ops each_op the_same ops_after ops_counted bytes at count tt k s.written next tt s.so_far le; are = s.are }

      module _ (lt : k < count) where
        -- a fault in the next operation is one of all
        pub op_in_fault : (e : FormatFault) → FaultAt (op_format_with trees) bytes next e → FaultAt (ops_format_of trees count) bytes at e
        op_in_fault e f =
            fault_by (op_format_with trees) (ops_format_of trees count) bytes next at
            (λ n g. next_fails any_ops each_op the_same ops_after ops_counted bytes at count tt k s.written next tt s.so_far lt n g) e f

        -- one operation more is read
        pub op_in_read : (o : Op) (behind : ℕ) → HasTakenOp trees bytes next o behind → (now : List Op) → now ≡ os ++ o ∷ [] → OpsSoFar bytes at count (k + 1) now behind
        op_in_read o behind h now e =
            let ws = s.written ++ h.written ∷ [] in
            record {
              written = ws;
              so_far = next_read any_ops each_op the_same ops_after ops_counted bytes at count tt k s.written next tt s.so_far lt h.written behind h.reads ws tt refl refl;
              are = map-append op_of s.written (h.written ∷ []) ∙ (λ i. s.are i ++ h.is i ∷ []) ∙ sym e;
            }
