-- Trees that are read: a leaf, a node, and one child after another, with the room that each leaves.
use Rattle.std.proofs.Common.{◌≡◌, ℕ, suc, ◌+◌, ◌-◌, ◌*◌, ◌<◌, ◌≤◌, List, [], ◌∷◌, ◌++◌, refl, sym, ap, ◌∙◌, subst, append_assoc, append-nil, length, length-append, sum_by, arith}
use Rattle.std.specs.List.{slice_get}
use Rattle.std.specs.Option.{option_map}
use Rattle.std.specs.declared.option.Option.{Option}
use Rattle.std.specs.declared.option.Option.TheVariants.{None, Some}
use Rattle.std.proofs.lemmas.Option.{slice_get-get_or}
use Rattle.std.proofs.Math.Seq.{get_or-append_seam}
use Rattle.std.proofs.lemmas.List.Sums.{sum_by-append}
use Rattle.cp_path.specs.declared.value.Value.{Value}
use Rattle.cp_model.specs.declared.limits.TheConstants.{PLACE_WEIGHT}
use Rattle.cp_model.specs.Literals.{literal_rows, rows_under, edge_rows}
use Rattle.cp_model.specs.Place.{Label, Path}
use Rattle.cp_model.specs.Tree.{text_bytes, weight_of}
use Rattle.cp_model.specs.declared.literal.Literal.{Literal}
use Rattle.cp_model.specs.declared.literal.Literal.TheVariants as literal
use Rattle.cp_model.specs.declared.literal.LitEdge.{LitEdge}
use Rattle.cp_model.specs.declared.row.Content.{Content}
use Rattle.cp_model.specs.declared.row.Content.TheVariants.{Node, Leaf}
use Rattle.cp_format.specs.declared.fault.FormatFault.{FormatFault}
use Rattle.cp_format.specs.Contents.{content_format}
use Rattle.cp_format.specs.Faults.{FaultAt}
use Rattle.cp_format.specs.Formats.{ReadsAt}
use Rattle.cp_format.specs.Parts.{bounded_format}
use Rattle.cp_format.proofs.Contents.{plain_content}
use Rattle.cp_format.proofs.Counted.{SoFar, all_read, next_fails, next_read, none_yet}
use Rattle.cp_format.proofs.Faults.{fault_alike, fault_by, fault_first, fault_second}
use Rattle.cp_format.proofs.Formats.{both, fails_alike, reads_alike_at, reads_both_at}
use Rattle.cp_format.proofs.Numbers.{plain_bounded}
use Rattle.cp_frame.specs.declared.room.Room.{Room}
use Rattle.cp_frame.specs.Trees.{Written, leaf, node, Children, no_more, rows_of, rows_below, number_of}
use Rattle.cp_frame.specs.Rooms.{tree_format, children_format, most_children, with_children, most_bytes, below_label, after_tree}
use Rattle.cp_frame.specs.Reading.{next_label_format, child_format, label_of_last, after_child, after_children, HasReadTree, HasReadChild, HasReadChildren}
use Rattle.cp_frame.proofs.NextLabels.{judged_next, plain_next}
use Rattle.cp_frame.proofs.Rows.{child_count, child_weight, leaf_weight, node_count, node_weight}
use Rattle.cp_frame.proofs.TreeFormats.{State, Allows, next_child, state_after, listed_format, children_from, children_counted, alike_list, alike_child, alike_announced, alike_tree, announced_format, below_format, has_below, has_children, has_tree, room_for, tree_of}

-- two rooms with the same numbers
pub same_rooms : (r s : Room) → r.levels ≡ s.levels → r.size ≡ s.size → r.nodes ≡ s.nodes → r.weight ≡ s.weight → r ≡ s
same_rooms r s l z n w = λ i. record { levels = l i; size = z i; nodes = n i; weight = w i }

-- ---- a child

module _ (elder : Option Label) (r : Room) (bytes : List ℕ) (at most : ℕ) (e : most ≡ most_bytes r) where
  label_reads : (a : Label) (mid : ℕ) → ReadsAt (next_label_format most elder) bytes at a mid → ReadsAt (next_label_format (most_bytes r) elder) bytes at a mid
  label_reads a mid f = subst (λ m. ReadsAt (next_label_format m elder) bytes at a mid) e f

  both_fault : (x : FormatFault) → FaultAt (both (next_label_format (most_bytes r) elder) (λ a. tree_format (below_label a r))) bytes at x → FaultAt (child_format elder r) bytes at x
  both_fault x f = fault_alike (both (next_label_format (most_bytes r) elder) (λ a. tree_format (below_label a r))) (child_format elder r) (λ z. z) (alike_child elder r) bytes at x f

  -- a fault in the label is one of the child
  pub child_label_fault : (x : FormatFault) → FaultAt (next_label_format most elder) bytes at x → FaultAt (child_format elder r) bytes at x
  child_label_fault x f =
      both_fault x
      (fault_first (next_label_format (most_bytes r) elder) (λ a. tree_format (below_label a r)) bytes at (judged_next (most_bytes r) elder) (λ a g. has_tree (below_label a r)) x
      (subst (λ m. FaultAt (next_label_format m elder) bytes at x) e f))

  module _ (a : Label) (mid : ℕ) (s : ReadsAt (next_label_format most elder) bytes at a mid) (below : Room) (b : below ≡ below_label a r) where
    -- a fault in the tree is one of the child
    pub child_tree_fault : (x : FormatFault) → FaultAt (tree_format below) bytes mid x → FaultAt (child_format elder r) bytes at x
    child_tree_fault x f =
        both_fault x
        (fault_second (next_label_format (most_bytes r) elder) (λ a. tree_format (below_label a r)) bytes at (plain_next (most_bytes r) elder) mid a (label_reads a mid s) x
        (subst (λ w. FaultAt (tree_format w) bytes mid x) b f))

    pub child_read : (l : Literal) (next : ℕ) (less left : Room) → HasReadTree below bytes mid l next less → left ≡ record r { nodes = less.nodes; weight = less.weight } → HasReadChild elder r bytes at (record { label = a; tree = l }) next left
    child_read l next less left t f =
        let same : less ≡ after_tree (below_label a r) t.tree = t.left ∙ ap (λ w. after_tree w t.tree) b in
        record {
          tree = t.tree;
          reads =
              reads_alike_at (both (next_label_format (most_bytes r) elder) (λ a. tree_format (below_label a r))) (child_format elder r) (λ z. z) (alike_child elder r) bytes at (a, t.tree) next
              (reads_both_at (next_label_format (most_bytes r) elder) (λ a. tree_format (below_label a r)) bytes at mid next a t.tree (label_reads a mid s) (subst (λ w. ReadsAt (tree_format w) bytes mid t.tree next) b t.reads));
          rows = t.rows;
          left = f ∙ ap (λ (w : Room). record r { nodes = w.nodes; weight = w.weight }) same;
        }

-- ---- children

-- the first k of so many children are read as these edges, and leave the room
pub record HaveRead (bytes : List ℕ) (at count : ℕ) (r : Room) (k : ℕ) (es : List LitEdge) (next : ℕ) (less : Room) : Type 0 where
  pub now : List (Label × Written)
  pub so_far : SoFar Allows listed_format bytes at count (None, r) k now next (label_of_last es, less)
  pub rows : rows_below (children_from now) ≡ edge_rows es
  pub few : length (rows_below (children_from now)) ≤ r.nodes + k
  pub light : sum_by weight_of (rows_below (children_from now)) ≤ r.weight + PLACE_WEIGHT * k
  pub left : less ≡ after_children k r (children_from now)

last_label : (es : List LitEdge) (e : LitEdge) → label_of_last (es ++ e ∷ []) ≡ Some e.label
last_label es e =
    let size : length (es ++ e ∷ []) ≡ length es + 1 = length-append es (e ∷ []) in
    let at : length (es ++ e ∷ []) - 1 ≡ length es = omega (arith, size) in
    let found : slice_get (es ++ e ∷ []) (length es) ≡ Some e = slice_get-get_or (es ++ e ∷ []) (length es) e (omega (arith, size)) ∙ ap Some (get_or-append_seam es e [] e) in
    ap (λ n. option_map (λ (x : LitEdge). x.label) (slice_get (es ++ e ∷ []) n)) at ∙ ap (option_map (λ (x : LitEdge). x.label)) found

rows_more : (l : List (Label × Written)) (a : Label) (t : Written) → rows_below (children_from (l ++ (a, t) ∷ [])) ≡ rows_below (children_from l) ++ rows_under a (rows_of t)
rows_more [] a t = append-nil (rows_under a (rows_of t))
rows_more (z ∷ l) a t = ap (λ rows. rows_under z.0 (rows_of z.1) ++ rows) (rows_more l a t) ∙ sym (append_assoc (rows_under z.0 (rows_of z.1)) (rows_below (children_from l)) (rows_under a (rows_of t)))

edges_more : (es : List LitEdge) (e : LitEdge) → edge_rows (es ++ e ∷ []) ≡ edge_rows es ++ rows_under e.label (literal_rows e.tree)
edges_more [] e = append-nil (rows_under e.label (literal_rows e.tree))
edges_more (x ∷ es) e = ap (λ rows. rows_under x.label (literal_rows x.tree) ++ rows) (edges_more es e) ∙ sym (append_assoc (rows_under x.label (literal_rows x.tree)) (edge_rows es) (rows_under e.label (literal_rows e.tree)))

pub number_in : (l : List (Label × Written)) → number_of (children_from l) ≡ length l
number_in [] = refl
number_in (z ∷ l) = ap suc (number_in l)

count_more : (l : List (Label × Written)) (a : Label) (t : Written) → length (rows_below (children_from (l ++ (a, t) ∷ []))) ≡ length (rows_below (children_from l)) + length (rows_of t)
count_more l a t = omega (arith, ap length (rows_more l a t), length-append (rows_below (children_from l)) (rows_under a (rows_of t)), child_count a t no_more, length-append (rows_under a (rows_of t)) [])

weight_more : (l : List (Label × Written)) (a : Label) (t : Written) → sum_by weight_of (rows_below (children_from (l ++ (a, t) ∷ []))) ≡ sum_by weight_of (rows_below (children_from l)) + (length a + sum_by weight_of (rows_of t))
weight_more l a t =
    let last : sum_by weight_of (rows_under a (rows_of t)) ≡ length a + sum_by weight_of (rows_of t) = omega (arith, child_weight a t no_more, sum_by-append weight_of (rows_under a (rows_of t)) []) in
    omega (arith, ap (sum_by weight_of) (rows_more l a t), sum_by-append weight_of (rows_below (children_from l)) (rows_under a (rows_of t)), last)

module _ (bytes : List ℕ) (at count : ℕ) (r : Room) where
  -- no child is read
  pub none_read : (es : List LitEdge) → es ≡ [] → at ≤ length bytes → Allows count (None, r) → HaveRead bytes at count r 0 es at r
  none_read es e le h =
      let begun = none_yet Allows next_child state_after listed_format children_counted bytes at count (None, r) [] refl le h in
      let no_label : label_of_last es ≡ None = ap label_of_last e in
      record {
        now = [];
        so_far = subst (λ o. SoFar Allows listed_format bytes at count (None, r) 0 [] at (o, r)) (sym no_label) begun;
        rows = sym (ap edge_rows e);
        few = omega arith;
        light = omega arith;
        left = same_rooms r (after_children 0 r no_more) refl refl (omega arith) (omega arith);
      }

  module _ (k : ℕ) (es : List LitEdge) (next : ℕ) (less : Room) (s : HaveRead bytes at count r k es next less) where
    pub still_within : next ≤ length bytes
    still_within = s.so_far.there

    -- where another child is to come, there is a label and some size
    pub still_allowed : k < count → (0 < less.levels) × (0 < less.size)
    still_allowed lt = s.so_far.allowed (omega (arith, lt))

    -- a fault in the next child is one of all
    pub next_child_fault : k < count → (x : FormatFault) → FaultAt (child_format (label_of_last es) less) bytes next x → FaultAt (children_format count None r) bytes at x
    next_child_fault lt x f =
        fault_by (child_format (label_of_last es) less) (children_format count None r) bytes next at
        (λ n g. fails_alike (listed_format count (None, r)) (children_format count None r) children_from (alike_list count None r) bytes at n
        (next_fails Allows next_child state_after listed_format children_counted bytes at count (None, r) k s.now next (label_of_last es, less) s.so_far lt n g)) x f

    -- one child more is read
    pub next_child_read : k < count → (e : LitEdge) (behind : ℕ) (es' : List LitEdge) (left : Room) → HasReadChild (label_of_last es) less bytes next e behind left → es' ≡ es ++ e ∷ [] → HaveRead bytes at count r (k + 1) es' behind left
    next_child_read lt e behind es' left h f =
        let x : Label × Written = (e.label, h.tree) in
        let l = s.now ++ x ∷ [] in
        let fits = h.reads.reads.fit in
        let n = length (rows_below (children_from s.now)) in
        let nodes : less.nodes ≡ r.nodes + k - n = ap (λ (w : Room). w.nodes) s.left in
        let weight : less.weight ≡ r.weight + PLACE_WEIGHT * k - sum_by weight_of (rows_below (children_from s.now)) = ap (λ (w : Room). w.weight) s.left in
        let count = count_more s.now e.label h.tree in
        let heavy = weight_more s.now e.label h.tree in
        let state : ◌≡◌ {A = State} (label_of_last es', left) (Some e.label, after_child less x) = (let o = ap label_of_last f ∙ last_label es e in let w = h.left in λ i. (o i, w i)) in
        record {
          now = l;
          so_far = next_read Allows next_child state_after listed_format children_counted bytes at _ (None, r) k s.now next (label_of_last es, less) s.so_far lt x behind h.reads l (label_of_last es', left) refl state;
          rows =
              rows_more s.now e.label h.tree ∙ ap (λ rows. rows ++ rows_under e.label (rows_of h.tree)) s.rows ∙ ap (λ rows. edge_rows es ++ rows_under e.label rows) h.rows
              ∙ sym (edges_more es e) ∙ sym (ap edge_rows f);
          few = omega (arith, count, nodes, s.few, fits.1.few);
          light = omega (arith, heavy, weight, s.light, fits.1.light, fits.0.1);
          left = h.left ∙ same_rooms (after_child less x) (after_children (k + 1) r (children_from l)) (ap (λ (w : Room). w.levels) s.left) (ap (λ (w : Room). w.size) s.left)
              (omega (arith, count, nodes, s.few)) (omega (arith, heavy, weight, s.light, fits.0.1));
        }

    -- all children are read
    pub children_read : count ≤ k → (rows : List (Path × Content)) → edge_rows es ≡ rows → HasReadChildren count r bytes at rows next less
    children_read le rows e =
        let list = all_read Allows next_child state_after listed_format children_counted bytes at count (None, r) k s.now next (label_of_last es, less) s.so_far le in
        let all = reads_alike_at (listed_format count (None, r)) (children_format count None r) children_from (alike_list count None r) bytes at s.now next list in
        let same : k ≡ count = sym s.so_far.number ∙ sym (number_in s.now) ∙ all.reads.fit.number in
        record { children = children_from s.now; reads = all; rows = s.rows ∙ e; left = s.left ∙ ap (λ n. after_children n r (children_from s.now)) same }

-- ---- trees

module _ (r : Room) (bytes : List ℕ) (at : ℕ) where
  parts_fault : (x : FormatFault) → FaultAt (both (content_format r.weight) (below_format r)) bytes at x → FaultAt (tree_format r) bytes at x
  parts_fault x f = fault_alike (both (content_format r.weight) (below_format r)) (tree_format r) (λ z. tree_of z.0 z.1) (alike_tree r) bytes at x f

  -- a fault in the content is one of the tree
  pub content_fault : (x : FormatFault) → FaultAt (content_format r.weight) bytes at x → FaultAt (tree_format r) bytes at x
  content_fault x f = parts_fault x (fault_first (content_format r.weight) (below_format r) bytes at (λ c g h. tt) (λ c g. has_below r c) x f)

  parts_read : (c : Content) (cs : Children) (mid next : ℕ) → ReadsAt (content_format r.weight) bytes at c mid → ReadsAt (below_format r c) bytes mid cs next → ReadsAt (tree_format r) bytes at (tree_of c cs) next
  parts_read c cs mid next f g =
      reads_alike_at (both (content_format r.weight) (below_format r)) (tree_format r) (λ z. tree_of z.0 z.1) (alike_tree r) bytes at (c, cs) next
      (reads_both_at (content_format r.weight) (below_format r) bytes at mid next c cs f g)

  pub leaf_read : (v : Value) (next : ℕ) (left : Room) → ReadsAt (content_format r.weight) bytes at (Leaf v) next → left ≡ record r { weight = r.weight - text_bytes (Leaf v) } → HasReadTree r bytes at (literal.Leaf v) next left
  leaf_read v next left f e = record {
    tree = leaf v;
    reads = parts_read (Leaf v) no_more next next f (record { reads = record { fit = refl; checked = tt; is = refl }; count = omega arith; within = f.within });
    rows = refl;
    left = e ∙ same_rooms (record r { weight = r.weight - text_bytes (Leaf v) }) (after_tree r (leaf v)) refl refl (omega arith) (omega (arith, leaf_weight v, f.reads.fit.1));
  }

  module _ (mid : ℕ) (c : ReadsAt (content_format r.weight) bytes at Node mid) where
    below_fault : (x : FormatFault) → FaultAt (both (bounded_format 0 (most_children r)) (λ n. children_format n None (with_children n r))) bytes mid x → FaultAt (tree_format r) bytes at x
    below_fault x f =
        parts_fault x
        (fault_second (content_format r.weight) (below_format r) bytes at (plain_content r.weight) mid Node c x
        (fault_alike (both (bounded_format 0 (most_children r)) (λ n. children_format n None (with_children n r))) (announced_format r) (λ z. z.1) (alike_announced r) bytes mid x f))

    module _ (most : ℕ) (m : most ≡ most_children r) where
      -- a fault in the number of children is one of the tree
      pub count_fault : (x : FormatFault) → FaultAt (bounded_format 0 most) bytes mid x → FaultAt (tree_format r) bytes at x
      count_fault x f =
          below_fault x
          (fault_first (bounded_format 0 (most_children r)) (λ n. children_format n None (with_children n r)) bytes mid (λ n g h. tt)
          (λ n g. has_children n None (with_children n r) (λ lt. (let room = room_for r n g.1 in (room.levels lt, room.size lt)))) x
          (subst (λ b. FaultAt (bounded_format 0 b) bytes mid x) m f))

      module _ (n after : ℕ) (k : ReadsAt (bounded_format 0 most) bytes mid n after) (s : Room) (w : s ≡ with_children n r) where
        counted : ReadsAt (bounded_format 0 (most_children r)) bytes mid n after
        counted = subst (λ b. ReadsAt (bounded_format 0 b) bytes mid n after) m k

        -- a fault in the children is one of the tree
        pub children_fault : (x : FormatFault) → FaultAt (children_format n None s) bytes after x → FaultAt (tree_format r) bytes at x
        children_fault x f =
            below_fault x
            (fault_second (bounded_format 0 (most_children r)) (λ n. children_format n None (with_children n r)) bytes mid (plain_bounded 0 (most_children r)) after n counted x
            (subst (λ t. FaultAt (children_format n None t) bytes after x) w f))

        -- there are labels and some size for as many children as were announced
        pub children_allowed : 0 < n → (0 < s.levels) × (0 < s.size)
        children_allowed lt =
            let room = room_for r n counted.reads.fit.1 in
            (omega (arith, room.levels lt, ap (λ (t : Room). t.levels) w), omega (arith, room.size lt, ap (λ (t : Room). t.size) w))

        pub node_read : (rows : List (Path × Content)) (next : ℕ) (left : Room) → HasReadChildren n s bytes after rows next left → HasReadTree r bytes at (literal.Node rows) next left
        node_read rows next left h =
            let cs = h.children in
            let room = room_for r n counted.reads.fit.1 in
            let read : ReadsAt (children_format n None (with_children n r)) bytes after cs next = subst (λ t. ReadsAt (children_format n None t) bytes after cs next) w h.reads in
            let below =
            reads_alike_at (both (bounded_format 0 (most_children r)) (λ n. children_format n None (with_children n r))) (announced_format r) (λ z. z.1) (alike_announced r) bytes mid (n, cs) next
            (reads_both_at (bounded_format 0 (most_children r)) (λ n. children_format n None (with_children n r)) bytes mid after next n cs counted read) in
            record {
              tree = node cs;
              reads = parts_read Node cs mid next c below;
              rows = ap (λ (z : List (Path × Content)). ([], Node) ∷ z) h.rows;
              left = h.left ∙ ap (λ t. after_children n t cs) w ∙ same_rooms (after_children n (with_children n r) cs) (after_tree r (node cs)) refl refl
                  (omega (arith, node_count cs, room.nodes)) (omega (arith, node_weight cs, room.weight));
            }
