-- No spelling of a tree begins another, and its checks are judged within it.
use Rattle.std.proofs.Common.{◌≡◌, ℕ, ◌+◌, ◌^◌, List, ◌++◌, refl, sym, ap, ◌∙◌, subst, append_assoc, length, length-append, arith}
use Rattle.std.specs.Int.{to_be_bytes, w32}
use Rattle.std.specs.declared.option.Option.{Option}
use Rattle.std.specs.declared.option.Option.TheVariants.{None, Some}
use Rattle.cp_path.specs.Encoding.{counted_bytes}
use Rattle.cp_path.specs.declared.limits.TheConstants.{LABEL_MAX, TEXT_MAX}
use Rattle.cp_path.specs.declared.value.Value.{Value}
use Rattle.cp_model.specs.Place.{Label}
use Rattle.cp_model.specs.declared.row.Content.{Content}
use Rattle.cp_model.specs.declared.row.Content.TheVariants.{Node, Leaf}
use Rattle.cp_format.specs.Contents.{IsContent, content_bytes}
use Rattle.cp_format.specs.Formats.{AllHold, HoldWithin, moved}
use Rattle.cp_format.proofs.Checks.{all_both, all_moved, fewer, part_within, within_first, within_second}
use Rattle.cp_format.proofs.Contents.{plain_content, within_text_max}
use Rattle.cp_format.proofs.Labels.{plain_label}
use Rattle.cp_format.proofs.Numbers.{plain_bounded}
use Rattle.cp_frame.specs.Trees.{Written, leaf, node, Children, no_more, child, number_of, tree_bytes, children_bytes, tree_checks, children_checks, HasParts, HaveParts}
use Rattle.cp_frame.proofs.NextLabels.{judged_within}

-- ---- one value for each spelling

exact_content : (x y : Content) (xs ys : List ℕ) → IsContent x → IsContent y → content_bytes x ++ xs ≡ content_bytes y ++ ys → (x ≡ y) × (xs ≡ ys)
exact_content x y xs ys f g e = plain_content TEXT_MAX x y xs ys (f, within_text_max x f) (g, within_text_max y g) e

same_leaves : (v w : Value) (xs ys : List ℕ) → (Leaf v ≡ Leaf w) × (xs ≡ ys) → (leaf v ≡ leaf w) × (xs ≡ ys)
same_leaves v w xs ys h = let e = h.0 in let same : v ≡ w = cc in (ap leaf same, h.1)

mutual
  pub exact_tree : (s t : Written) (xs ys : List ℕ) → HasParts s → HasParts t → tree_bytes s ++ xs ≡ tree_bytes t ++ ys → (s ≡ t) × (xs ≡ ys)
  exact_tree (leaf v) (leaf w) xs ys f g e = same_leaves v w xs ys (exact_content (Leaf v) (Leaf w) xs ys f g e)
  exact_tree (leaf v) (node ds) xs ys f g e =
      let rest = to_be_bytes w32 (number_of ds) ++ children_bytes ds in
      let found = exact_content (Leaf v) Node xs (rest ++ ys) f tt (e ∙ append_assoc (content_bytes Node) rest ys) in
      let same = found.0 in
      absurd (cc)
  exact_tree (node cs) (leaf w) xs ys f g e =
      let rest = to_be_bytes w32 (number_of cs) ++ children_bytes cs in
      let found = exact_content Node (Leaf w) (rest ++ xs) ys tt g (sym (append_assoc (content_bytes Node) rest xs) ∙ e) in
      let same = found.0 in
      absurd (cc)
  exact_tree (node cs) (node ds) xs ys f g e =
      let m = to_be_bytes w32 (number_of cs) in
      let n = to_be_bytes w32 (number_of ds) in
      let a = children_bytes cs in
      let b = children_bytes ds in
      let whole = exact_content Node Node ((m ++ a) ++ xs) ((n ++ b) ++ ys) tt tt (sym (append_assoc (content_bytes Node) (m ++ a) xs) ∙ e ∙ append_assoc (content_bytes Node) (n ++ b) ys) in
      let number = plain_bounded 0 (2 ^ 32) (number_of cs) (number_of ds) (a ++ xs) (b ++ ys) (omega arith, omega (arith, f.0), f.0) (omega arith, omega (arith, g.0), g.0) (sym (append_assoc m a xs) ∙ whole.1 ∙ append_assoc n b ys) in
      let found = exact_children cs ds xs ys f.1 g.1 number.0 number.1 in
      (ap node found.0, found.1)

  pub exact_children : (cs ds : Children) (xs ys : List ℕ) → HaveParts cs → HaveParts ds → number_of cs ≡ number_of ds → children_bytes cs ++ xs ≡ children_bytes ds ++ ys → (cs ≡ ds) × (xs ≡ ys)
  exact_children no_more no_more xs ys f g n e = (refl, e)
  exact_children no_more (child b u ds) xs ys f g n e = absurd (omega (arith, n))
  exact_children (child a t cs) no_more xs ys f g n e = absurd (omega (arith, n))
  exact_children (child a t cs) (child b u ds) xs ys f g n e =
      let k = tree_bytes t in
      let l = tree_bytes u in
      let p = children_bytes cs in
      let q = children_bytes ds in
      let first = plain_label LABEL_MAX a b ((k ++ p) ++ xs) ((l ++ q) ++ ys) (f.0, f.0.short) (g.0, g.0.short) (sym (append_assoc (counted_bytes a) (k ++ p) xs) ∙ e ∙ append_assoc (counted_bytes b) (l ++ q) ys) in
      let second = exact_tree t u (p ++ xs) (q ++ ys) f.1 g.1 (sym (append_assoc k p xs) ∙ first.1 ∙ append_assoc l q ys) in
      let third = exact_children cs ds xs ys f.2 g.2 (omega (arith, n)) second.1 in
      ((λ i. child (first.0 i) (second.0 i) (third.0 i)), third.1)

-- ---- the checks

node_length : (cs : Children) → length (tree_bytes (node cs)) ≡ 5 + length (children_bytes cs)
node_length cs = let more : length (to_be_bytes w32 (number_of cs) ++ children_bytes cs) ≡ 4 + length (children_bytes cs) = length-append (to_be_bytes w32 (number_of cs)) (children_bytes cs) in omega (arith, more)

child_length : (a : Label) (t : Written) (cs : Children) → length (children_bytes (child a t cs)) ≡ length (counted_bytes a) + (length (tree_bytes t) + length (children_bytes cs))
child_length a t cs = omega (arith, length-append (counted_bytes a) (tree_bytes t ++ children_bytes cs), length-append (tree_bytes t) (children_bytes cs))

mutual
  -- the checks of a tree are judged within its spelling
  pub judged_tree : (t : Written) → HoldWithin (length (tree_bytes t)) (tree_checks t) → AllHold (tree_checks t)
  judged_tree (leaf v) h = tt
  judged_tree (node cs) h =
      let inner = subst (λ n. HoldWithin n (moved 5 (children_checks None cs))) (node_length cs) h in
      all_moved 5 (children_checks None cs) (judged_children None cs (part_within 5 (length (children_bytes cs)) (children_checks None cs) inner))

  pub judged_children : (elder : Option Label) (cs : Children) → HoldWithin (length (children_bytes cs)) (children_checks elder cs) → AllHold (children_checks elder cs)
  judged_children elder no_more h = tt
  judged_children elder (child a t cs) h =
      let len = length (counted_bytes a) in
      let m = length (tree_bytes t) in
      let n = length (children_bytes cs) in
      let others = moved m (children_checks (Some a) cs) in
      let inner = part_within len (m + n) (tree_checks t ++ others) (subst (λ k. HoldWithin k (moved len (tree_checks t ++ others))) (child_length a t cs) h.1) in
      let first = judged_tree t (fewer m (m + n) (tree_checks t) (omega arith) (within_first (m + n) (tree_checks t) others inner)) in
      let second = judged_children (Some a) cs (part_within m n (children_checks (Some a) cs) (within_second (m + n) (tree_checks t) others inner)) in
      (h.0 (omega (arith, child_length a t cs, judged_within elder a)), all_moved len (tree_checks t ++ others) (all_both (tree_checks t) others first (all_moved m (children_checks (Some a) cs) second)))
