-- Insertions of trees as formats one after another.
use Rattle.std.proofs.Common.{◌≡◌, ℕ, ◌<◌, ◌≤◌, ◌^◌, List, ◌∷◌, ◌++◌, None, refl, sym, ap, ◌∙◌, subst, append_assoc, length, length-append, arith}
use Rattle.std.specs.Int.{to_be_bytes, w32}
use Rattle.cp_path.specs.Encoding.{counted_bytes, path_bytes}
use Rattle.cp_path.specs.declared.limits.TheConstants.{LABEL_MAX}
use Rattle.cp_path.specs.declared.loc.Loc.{Loc}
use Rattle.cp_model.specs.Place.{Label, Path}
use Rattle.cp_model.specs.declared.row.Content.{Content}
use Rattle.cp_format.specs.declared.fault.FormatFault.{FormatFault}
use Rattle.cp_format.specs.Faults.{FaultAt}
use Rattle.cp_format.specs.Formats.{Format, ReadsAt, moved}
use Rattle.cp_format.specs.Operations.{target_format}
use Rattle.cp_format.specs.Parts.{bounded_format, count_format, label_format}
use Rattle.cp_format.proofs.Checks.{IsJudged}
use Rattle.cp_format.proofs.Faults.{fault_alike, fault_first, fault_second}
use Rattle.cp_format.proofs.Formats.{Alike, HasSome, IsPlain, both, has_alike, has_both, judged_alike, judged_both, plain_alike, plain_both, reads_alike_at, reads_both_at}
use Rattle.cp_format.proofs.Labels.{has_label, plain_label}
use Rattle.cp_format.proofs.Leaves.{has_count, plain_count}
use Rattle.cp_format.proofs.Numbers.{has_bounded, plain_bounded}
use Rattle.cp_format.proofs.Operations.{has_target, plain_target}
use Rattle.cp_frame.specs.OpReading.{HasReadBranch, branch_format, planted_format}
use Rattle.cp_frame.specs.Operations.{IsBranch}
use Rattle.cp_frame.specs.Reading.{HasReadChildren}
use Rattle.cp_frame.specs.Rooms.{FitBelow, Room, children_format, most_children, whole_room, with_children}
use Rattle.cp_frame.specs.Trees.{Children, children_bytes, children_checks, node, number_of, tree_bytes, tree_checks}
use Rattle.cp_frame.proofs.Exact.{exact_children, judged_children}
use Rattle.cp_frame.proofs.Moved.{moved_twice}
use Rattle.cp_frame.proofs.Rows.{enough_rows, enough_weight, node_count, node_depth, node_size, node_weight}
use Rattle.cp_frame.proofs.TreeFormats.{has_children}

-- ---- a node with children

-- how many children a node at the root may have
abbrev pub most_branches : ℕ
most_branches = most_children (whole_room 1)

-- so many children, which follow their number
abbrev pub behind_number : ℕ → Format Children
behind_number n = children_format n None (with_children n (whole_room 1))

-- the number of children and these, which follow the form of a node
abbrev pub behind_node : ℕ → Format (ℕ × Children)
behind_node k = both (bounded_format 1 most_branches) behind_number

-- children that fit below a root make a node that fits
is_branch : (n : ℕ) (cs : Children) → 1 ≤ n → n ≤ most_branches → n < 2 ^ 32 → FitBelow n (with_children n (whole_room 1)) cs → IsBranch (whole_room 1) cs
is_branch n cs some few four f = record {
  fits = record {
    parts = (omega (arith, four, f.number), f.parts);
    deep = omega (arith, f.deep, node_depth cs);
    long = omega (arith, f.long, node_size cs);
    few = omega (arith, f.few, few, node_count cs);
    light = omega (arith, f.light, few, node_weight cs);
  };
  some = omega (arith, some, f.number);
}

-- children of a node that fits also fit below the root
below_branch : (cs : Children) → IsBranch (whole_room 1) cs → (number_of cs ≤ most_branches) × FitBelow (number_of cs) (with_children (number_of cs) (whole_room 1)) cs
below_branch cs f =
    let few : number_of cs ≤ most_branches = omega (arith, enough_rows cs, node_count cs, f.fits.few, enough_weight cs, node_weight cs, f.fits.light) in (
      few,
      record {
        number = refl;
        parts = f.fits.parts.1;
        deep = omega (arith, f.fits.deep, node_depth cs);
        long = omega (arith, f.fits.long, node_size cs);
        few = omega (arith, f.fits.few, few, node_count cs);
        light = omega (arith, f.fits.light, few, node_weight cs);
      },
    )

has_children_of : (n : ℕ) → HasSome (behind_number n)
has_children_of n = has_children n None (with_children n (whole_room 1)) (λ lt. (omega arith, omega arith))

plain_children_of : (n : ℕ) → IsPlain (behind_number n)
plain_children_of n x y xs ys f g e = exact_children x y xs ys f.parts g.parts (f.number ∙ sym g.number) e

judged_children_of : (n : ℕ) → IsJudged (behind_number n)
judged_children_of n cs f h = judged_children None cs h

-- a node with children is its form, the number of its children, and these
pub alike_branch : Alike (both (count_format 0 0) behind_node) branch_format (λ z. z.1.1)
alike_branch = record {
  there = λ z f.
      let none : z.0 ≡ 0 = omega (arith, f.0.1) in (
        is_branch z.1.0 z.1.1 f.1.0.0 f.1.0.1 f.1.0.2 f.1.1,
        branch_is z.0 z.1.0 z.1.1 none f.1.1.number,
        sym (moved_twice 1 4 (children_checks None z.1.1)),
      );
  back = λ cs f.
      let b = below_branch cs f in
      ((0, (number_of cs, cs)), ((omega arith, omega arith, omega arith), ((f.some, b.0, f.fits.parts.0), b.1)), refl);
}
  where
    branch_is : (k n : ℕ) (cs : Children) → k ≡ 0 → number_of cs ≡ n → tree_bytes (node cs) ≡ (both (count_format 0 0) behind_node).bytes (k, (n, cs))
    branch_is k n cs e f = λ i. sym e i ∷ (to_be_bytes w32 (f i) ++ children_bytes cs)

has_behind_node : HasSome (behind_node 0)
has_behind_node = has_both (bounded_format 1 most_branches) behind_number (has_bounded 1 most_branches (omega arith) (omega arith)) (λ n f. has_children_of n)

pub has_branch : HasSome branch_format
has_branch = has_alike (both (count_format 0 0) behind_node) branch_format (λ z. z.1.1) alike_branch (has_both (count_format 0 0) behind_node (has_count 0 0 (omega arith) (omega arith)) (λ k f. has_behind_node))

pub plain_branch : IsPlain branch_format
plain_branch =
    plain_alike (both (count_format 0 0) behind_node) branch_format (λ z. z.1.1) alike_branch
    (plain_both (count_format 0 0) behind_node (plain_count 0 0) (λ k f. plain_both (bounded_format 1 most_branches) behind_number (plain_bounded 1 most_branches) (λ n g. plain_children_of n)))

pub judged_branch : IsJudged branch_format
judged_branch =
    judged_alike (both (count_format 0 0) behind_node) branch_format (λ z. z.1.1) alike_branch
    (judged_both (count_format 0 0) behind_node (λ x f h. tt) (λ k f. judged_both (bounded_format 1 most_branches) behind_number (λ x g h. tt) (λ n g. judged_children_of n)))

module _ (bytes : List ℕ) (at : ℕ) where
  branch_fault : (e : FormatFault) → FaultAt (both (count_format 0 0) behind_node) bytes at e → FaultAt branch_format bytes at e
  branch_fault e f = fault_alike (both (count_format 0 0) behind_node) branch_format (λ z. z.1.1) alike_branch bytes at e f

  -- a fault in the form of a node is one of the node
  pub node_fault : (e : FormatFault) → FaultAt (count_format 0 0) bytes at e → FaultAt branch_format bytes at e
  node_fault e f = branch_fault e (fault_first (count_format 0 0) behind_node bytes at (λ x g h. tt) (λ k g. has_behind_node) e f)

  module _ (k mid : ℕ) (r : ReadsAt (count_format 0 0) bytes at k mid) where
    behind_fault : (e : FormatFault) → FaultAt (behind_node k) bytes mid e → FaultAt branch_format bytes at e
    behind_fault e f = branch_fault e (fault_second (count_format 0 0) behind_node bytes at (plain_count 0 0) mid k r e f)

    -- a fault in the number of children is one of the node
    pub number_fault : (e : FormatFault) → FaultAt (bounded_format 1 most_branches) bytes mid e → FaultAt branch_format bytes at e
    number_fault e f =
        behind_fault e (fault_first (bounded_format 1 most_branches) behind_number bytes mid (λ x g h. tt) (λ n g. has_children_of n) e f)

    module _ (n behind : ℕ) (s : ReadsAt (bounded_format 1 most_branches) bytes mid n behind) where
      -- a fault in the children is one of the node
      pub children_fault : (room : Room) → room ≡ with_children n (whole_room 1) → (e : FormatFault) → FaultAt (children_format n None room) bytes behind e → FaultAt branch_format bytes at e
      children_fault room same e f =
          behind_fault e
          (fault_second (bounded_format 1 most_branches) behind_number bytes mid (plain_bounded 1 most_branches) behind n s e (subst (λ x. FaultAt (children_format n None x) bytes behind e) same f))

      -- the children are read, and so is the node
      pub branch_read : (room : Room) → room ≡ with_children n (whole_room 1) → (below : List (Path × Content)) (next : ℕ) (less : Room) → HasReadChildren n room bytes behind below next less → HasReadBranch bytes at below next
      branch_read room same below next less c =
          let t = subst (λ x. ReadsAt (children_format n None x) bytes behind c.children next) same c.reads in
          let two = reads_both_at (bounded_format 1 most_branches) behind_number bytes mid behind next n c.children s t in
          record {
            children = c.children;
            reads = reads_alike_at (both (count_format 0 0) behind_node) branch_format (λ z. z.1.1) alike_branch bytes at (k, (n, c.children)) next (reads_both_at (count_format 0 0) behind_node bytes at mid next k (n, c.children) r two);
            rows = c.rows;
          }

-- ---- the place, the label and the node

-- the node, which follows its label
abbrev pub behind_label : Label → Format Children
behind_label a = branch_format

-- the label and the node, which follow the place
abbrev pub behind_target : Loc → Format (Label × Children)
behind_target p = both (label_format LABEL_MAX) behind_label

-- the insertion of a tree is its place, its label and its node
pub alike_planted : Alike (both target_format behind_target) planted_format (λ z. z)
alike_planted = record {
  there = λ z f.
      let path = path_bytes z.0.path in
      let label = counted_bytes z.1.0 in
      let checks = tree_checks (node z.1.1) in (
        (f.0, f.1.0.0, f.1.1),
        append_assoc path label (tree_bytes (node z.1.1)),
        ap (λ n. moved n checks) (length-append path label) ∙ sym (moved_twice (length path) (length label) checks),
      );
  back = λ z f. (z, (f.0, ((f.1, f.1.short), f.2)), refl);
}

has_behind_target : (p : Loc) → HasSome (behind_target p)
has_behind_target p = has_both (label_format LABEL_MAX) behind_label (has_label LABEL_MAX) (λ a f. has_branch)

pub has_planted : HasSome planted_format
has_planted = has_alike (both target_format behind_target) planted_format (λ z. z) alike_planted (has_both target_format behind_target has_target (λ p f. has_behind_target p))

pub plain_planted : IsPlain planted_format
plain_planted =
    plain_alike (both target_format behind_target) planted_format (λ z. z) alike_planted
    (plain_both target_format behind_target plain_target (λ p f. plain_both (label_format LABEL_MAX) behind_label (plain_label LABEL_MAX) (λ a g. plain_branch)))

pub judged_planted : IsJudged planted_format
judged_planted =
    judged_alike (both target_format behind_target) planted_format (λ z. z) alike_planted
    (judged_both target_format behind_target (λ x f h. tt) (λ p f. judged_both (label_format LABEL_MAX) behind_label (λ x g h. tt) (λ a g. judged_branch)))

module _ (bytes : List ℕ) (at : ℕ) where
  planted_fault : (e : FormatFault) → FaultAt (both target_format behind_target) bytes at e → FaultAt planted_format bytes at e
  planted_fault e f = fault_alike (both target_format behind_target) planted_format (λ z. z) alike_planted bytes at e f

  -- a fault in the place is one of the insertion
  pub into_fault : (e : FormatFault) → FaultAt target_format bytes at e → FaultAt planted_format bytes at e
  into_fault e f = planted_fault e (fault_first target_format behind_target bytes at (λ x g h. tt) (λ p g. has_behind_target p) e f)

  module _ (p : Loc) (mid : ℕ) (r : ReadsAt target_format bytes at p mid) where
    after_into : (e : FormatFault) → FaultAt (behind_target p) bytes mid e → FaultAt planted_format bytes at e
    after_into e f = planted_fault e (fault_second target_format behind_target bytes at plain_target mid p r e f)

    -- a fault in the label is one of the insertion
    pub label_fault : (e : FormatFault) → FaultAt (label_format LABEL_MAX) bytes mid e → FaultAt planted_format bytes at e
    label_fault e f = after_into e (fault_first (label_format LABEL_MAX) behind_label bytes mid (λ x g h. tt) (λ a g. has_branch) e f)

    module _ (a : Label) (behind : ℕ) (s : ReadsAt (label_format LABEL_MAX) bytes mid a behind) where
      -- a fault in the tree is one of the insertion
      pub tree_fault : (e : FormatFault) → FaultAt branch_format bytes behind e → FaultAt planted_format bytes at e
      tree_fault e f = after_into e (fault_second (label_format LABEL_MAX) behind_label bytes mid (plain_label LABEL_MAX) behind a s e f)

      -- the tree is read, and so is the insertion
      pub planted_read : (cs : Children) (next : ℕ) → ReadsAt branch_format bytes behind cs next → ReadsAt planted_format bytes at (p, (a, cs)) next
      planted_read cs next t =
          reads_alike_at (both target_format behind_target) planted_format (λ z. z) alike_planted bytes at (p, (a, cs)) next
          (reads_both_at target_format behind_target bytes at mid next p (a, cs) r (reads_both_at (label_format LABEL_MAX) behind_label bytes mid behind next a cs s t))
