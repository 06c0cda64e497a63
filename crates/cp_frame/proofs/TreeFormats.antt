-- Trees and children as formats one after another.
use Rattle.std.proofs.Common.{◌≡◌, ℕ, zero, suc, ◌*◌, ◌/◌, ◌<◌, ◌≤◌, ◌^◌, List, [], ◌∷◌, ◌++◌, refl, sym, ap, ◌∙◌, subst, append_assoc, append-nil, length, length-append, min, arith}
use Rattle.std.proofs.lemmas.Bool.Decides.{nat_tests}
use Rattle.std.specs.Int.{to_be_bytes, w32}
use Rattle.std.specs.declared.option.Option.{Option}
use Rattle.std.specs.declared.option.Option.TheVariants.{None, Some}
use Rattle.cp_path.specs.Encoding.{counted_bytes}
use Rattle.cp_path.specs.declared.value.Value.TheVariants.{Null}
use Rattle.cp_model.specs.declared.limits.TheConstants.{PLACE_WEIGHT}
use Rattle.cp_model.specs.Place.{Label}
use Rattle.cp_model.specs.declared.row.Content.{Content}
use Rattle.cp_model.specs.declared.row.Content.TheVariants.{Node, Leaf}
use Rattle.cp_format.specs.Contents.{content_bytes, content_format}
use Rattle.cp_format.specs.Formats.{Check, Format, moved}
use Rattle.cp_format.specs.Parts.{bounded_format}
use Rattle.cp_format.proofs.Checks.{IsJudged}
use Rattle.cp_format.proofs.Counted.{IsCounted, has_counted}
use Rattle.cp_format.proofs.Formats.{Alike, HasSome, IsPlain, both, has_alike, has_both, judged_alike, judged_both, plain_alike, plain_both}
use Rattle.cp_frame.specs.declared.room.Room.{Room}
use Rattle.cp_frame.specs.Trees.{Written, leaf, node, Children, no_more, child, number_of, tree_bytes, children_bytes, comes_after, judged_at, tree_checks, children_checks}
use Rattle.cp_frame.specs.Rooms.{FitsIn, FitBelow, tree_format, children_format, most_children, with_children, most_bytes, below_label}
use Rattle.cp_frame.specs.Reading.{next_label_format, child_format, after_child}
use Rattle.cp_frame.proofs.Exact.{exact_tree, judged_tree}
use Rattle.cp_frame.proofs.Moved.{moved_both, moved_twice}
use Rattle.cp_frame.proofs.NextLabels.{has_next, judged_next, plain_next}
use Rattle.cp_frame.proofs.Rows.{node_count, node_depth, node_size, node_weight, leaf_weight, child_count, child_depth, child_size, child_weight, some_weight, enough_rows, enough_weight, enough_depth}

-- ---- trees

pub plain_tree : (r : Room) → IsPlain (tree_format r)
plain_tree r s t xs ys f g e = exact_tree s t xs ys f.parts g.parts e

pub judged_trees : (r : Room) → IsJudged (tree_format r)
judged_trees r t f h = judged_tree t h

pub has_tree : (r : Room) → HasSome (tree_format r)
has_tree r = record { first = leaf Null; fit = record { parts = tt; deep = omega arith; long = omega arith; few = omega arith; light = omega (arith, leaf_weight Null) } }

-- ---- how many children

-- where there is a label and a byte for one, as many children as the places and the weight allow
some_room : (r : Room) → 0 < r.levels → 0 < r.size → most_children r ≡ min r.nodes (r.weight / PLACE_WEIGHT)
some_room r l s = grind (arith, nat_tests)

pub enough_room : (r : Room) (n : ℕ) → n ≤ r.nodes → PLACE_WEIGHT * n ≤ r.weight → (0 < n → (0 < r.levels) × (0 < r.size)) → n ≤ most_children r
enough_room r zero f w h = omega arith
enough_room r (suc n) f w h = let some = h (omega arith) in omega (arith, some_room r some.0 some.1, f, w)

-- what a number of children within the most says of the room
pub record HasRoomFor (r : Room) (n : ℕ) : Type 0 where
  pub nodes : n ≤ r.nodes
  pub weight : PLACE_WEIGHT * n ≤ r.weight
  pub levels : 0 < n → 0 < r.levels
  pub size : 0 < n → 0 < r.size

pub room_for : (r : Room) (n : ℕ) → n ≤ most_children r → HasRoomFor r n
room_for r zero le = record { nodes = omega arith; weight = omega arith; levels = λ h. absurd (omega (arith, h)); size = λ h. absurd (omega (arith, h)) }
room_for r (suc n) le =
    let levels : 0 < r.levels = grind (arith, nat_tests) in
    let size : 0 < r.size = grind (arith, nat_tests) in
    let most = some_room r levels size in
    record { nodes = omega (arith, le, most); weight = omega (arith, le, most); levels = λ h. levels; size = λ h. size }

-- ---- a child

module _ (elder : Option Label) (r : Room) where
  pub alike_child : Alike (both (next_label_format (most_bytes r) elder) (λ a. tree_format (below_label a r))) (child_format elder r) (λ z. z)
  alike_child = record { there = λ z f. (f, refl, refl); back = λ z f. (z, f, refl) }

  pub plain_child : IsPlain (child_format elder r)
  plain_child =
      plain_alike (both (next_label_format (most_bytes r) elder) (λ a. tree_format (below_label a r))) (child_format elder r) (λ z. z) alike_child
      (plain_both (next_label_format (most_bytes r) elder) (λ a. tree_format (below_label a r)) (plain_next (most_bytes r) elder) (λ a f. plain_tree (below_label a r)))

  pub judged_child : IsJudged (child_format elder r)
  judged_child =
      judged_alike (both (next_label_format (most_bytes r) elder) (λ a. tree_format (below_label a r))) (child_format elder r) (λ z. z) alike_child
      (judged_both (next_label_format (most_bytes r) elder) (λ a. tree_format (below_label a r)) (judged_next (most_bytes r) elder) (λ a f. judged_trees (below_label a r)))

  pub has_child : HasSome (child_format elder r)
  has_child =
      has_alike (both (next_label_format (most_bytes r) elder) (λ a. tree_format (below_label a r))) (child_format elder r) (λ z. z) alike_child
      (has_both (next_label_format (most_bytes r) elder) (λ a. tree_format (below_label a r)) (has_next (most_bytes r) elder) (λ a f. has_tree (below_label a r)))

-- ---- children, one after another

-- children from a list of labels, each with its tree
abbrev pub children_from : List (Label × Written) → Children
children_from [] = no_more
children_from (z ∷ l) = child z.0 z.1 (children_from l)

-- the labels of children, each with its tree
abbrev pub pairs_of : Children → List (Label × Written)
pairs_of no_more = []
pairs_of (child a t cs) = (a, t) ∷ pairs_of cs

pub from_pairs : (cs : Children) → children_from (pairs_of cs) ≡ cs
from_pairs no_more = refl
from_pairs (child a t cs) = ap (child a t) (from_pairs cs)

-- the label of the child before, if there is one, and the room that is left
abbrev pub State : Type 0
State = Option Label × Room

-- a child takes a label, and some size
abbrev pub Allows : ℕ → State → Type 0
Allows n s = 0 < n → (0 < s.1.levels) × (0 < s.1.size)

abbrev pub next_child : ℕ → State → Format (Label × Written)
next_child n s = child_format s.0 s.1

abbrev pub state_after : State → Label × Written → State
state_after s z = (Some z.0, after_child s.1 z)

-- so many children as a list
abbrev pub listed_format : ℕ → State → Format (List (Label × Written))
listed_format n s = record {
  fit = λ l. FitBelow n s.1 (children_from l);
  bytes = λ l. children_bytes (children_from l);
  checks = λ l. children_checks s.0 (children_from l);
}

no_others : (l : List (Label × Written)) → number_of (children_from l) ≡ 0 → l ≡ []
no_others [] e = refl
no_others (z ∷ l) e = absurd (omega (arith, e))

module _ (n : ℕ) (s : State) (h : Allows (suc n) s) (a : Label) (t : Written) (cs : Children) where
  -- a child that fits, and others that fit in what is left, fit together
  child_fits : (child_format s.0 s.1).fit (a, t) → FitBelow n (after_child s.1 (a, t)) cs → FitBelow (suc n) s.1 (child a t cs)
  child_fits f g =
      let some = h (omega arith) in
      record {
        number = ap suc g.number;
        parts = (f.0.0, f.1.parts, g.parts);
        deep = omega (arith, child_depth a t cs, f.1.deep, g.deep, some.0);
        long = omega (arith, child_size a t cs, f.1.long, g.long, f.0.1, some.1);
        few = omega (arith, child_count a t cs, f.1.few, g.few);
        light = omega (arith, child_weight a t cs, f.1.light, g.light, f.0.1);
      }

  -- of children that fit together the first fits, and the others in what it leaves
  fits_first : FitBelow (suc n) s.1 (child a t cs) → (child_format s.0 s.1).fit (a, t)
  fits_first f = (
    (f.parts.0, omega (arith, f.parts.0.short, child_size a t cs, f.long, child_weight a t cs, f.light, some_weight t, enough_weight cs, f.number)),
    record {
      parts = f.parts.1;
      deep = omega (arith, child_depth a t cs, f.deep);
      long = omega (arith, child_size a t cs, f.long);
      few = omega (arith, child_count a t cs, f.few, enough_rows cs, f.number);
      light = omega (arith, child_weight a t cs, f.light, some_weight t, enough_weight cs, f.number);
    },
  )

  fits_others : FitBelow (suc n) s.1 (child a t cs) → FitBelow n (after_child s.1 (a, t)) cs
  fits_others f = record {
    number = omega (arith, f.number);
    parts = f.parts.2;
    deep = omega (arith, child_depth a t cs, f.deep);
    long = omega (arith, child_size a t cs, f.long);
    few = omega (arith, child_count a t cs, f.few, enough_rows cs, f.number);
    light = omega (arith, child_weight a t cs, f.light, some_weight t, enough_weight cs, f.number);
  }

list_parts : (n : ℕ) (s : State) → Allows (suc n) s → (l : List (Label × Written)) → FitBelow (suc n) s.1 (children_from l) → (z : (Label × Written) × List (Label × Written)) × (both (next_child n s) (λ x. listed_format n (state_after s x))).fit z × (◌≡◌ {A = List (Label × Written)} (z.0 ∷ z.1) l)
list_parts n s h [] f = absurd (omega (arith, f.number))
list_parts n s h (z ∷ l) f = ((z, l), (fits_first n s h z.0 z.1 (children_from l) f, fits_others n s h z.0 z.1 (children_from l) f), refl)

more_checks : (s : State) (a : Label) (t : Written) (cs : Children) → children_checks s.0 (child a t cs) ≡ (child_format s.0 s.1).checks (a, t) ++ moved (length (counted_bytes a ++ tree_bytes t)) (children_checks (Some a) cs)
more_checks s a t cs =
    let m = length (counted_bytes a) in
    let n = length (tree_bytes t) in
    let others = children_checks (Some a) cs in
    let first : Check = record { last = judged_at s.0 a; holds = comes_after s.0 a } in
    let rest : moved m (tree_checks t ++ moved n others) ≡ moved m (tree_checks t) ++ moved (length (counted_bytes a ++ tree_bytes t)) others =
    moved_both m (tree_checks t) (moved n others) ∙ ap (λ l. moved m (tree_checks t) ++ l) (moved_twice m n others ∙ ap (λ k. moved k others) (sym (length-append (counted_bytes a) (tree_bytes t)))) in
    ap (λ l. first ∷ l) rest

-- children are one after another in the room that is left
pub children_counted : IsCounted Allows next_child state_after listed_format
children_counted = record {
  none = λ s. (record { number = refl; parts = tt; deep = omega arith; long = omega arith; few = omega arith; light = omega arith }, refl, refl);
  only = λ s l f. no_others l f.number;
  more = λ n s h. record {
    there = λ z f. (child_fits n s h z.0.0 z.0.1 (children_from z.1) f.0 f.1, sym (append_assoc (counted_bytes z.0.0) (tree_bytes z.0.1) (children_bytes (children_from z.1))), more_checks s z.0.0 z.0.1 (children_from z.1));
    back = λ l f. list_parts n s h l f;
  };
  keeps = λ n s x h f. λ lt. h (omega arith);
  some = λ n s h. has_child s.0 s.1;
  plain = λ n s h. plain_child s.0 s.1;
  judged = λ n s h. judged_child s.0 s.1;
}

module _ (n : ℕ) (elder : Option Label) (r : Room) where
  -- so many children are a list of so many
  pub alike_list : Alike (listed_format n (elder, r)) (children_format n elder r) children_from
  alike_list = record {
    there = λ l f. (f, refl, refl);
    back = λ cs f. (pairs_of cs, subst (λ c. FitBelow n r c) (sym (from_pairs cs)) f, from_pairs cs);
  }

  pub has_children : Allows n (elder, r) → HasSome (children_format n elder r)
  has_children h = has_alike (listed_format n (elder, r)) (children_format n elder r) children_from alike_list (has_counted Allows next_child state_after listed_format children_counted n (elder, r) h)

-- ---- a node, and a leaf

-- the number of children, and these
abbrev pub announced_format : Room → Format Children
announced_format r = record {
  fit = λ cs. (number_of cs ≤ most_children r) × (number_of cs < 2 ^ 32) × FitBelow (number_of cs) (with_children (number_of cs) r) cs;
  bytes = λ cs. to_be_bytes w32 (number_of cs) ++ children_bytes cs;
  checks = λ cs. moved 4 (children_checks None cs);
}

-- what follows this content of a root
abbrev pub below_format : Room → Content → Format Children
below_format r Node = announced_format r
below_format r (Leaf v) = record { fit = λ cs. cs ≡ no_more; bytes = λ cs. []; checks = λ cs. [] }

-- the tree of this root and these children
abbrev pub tree_of : Content → Children → Written
tree_of Node cs = node cs
tree_of (Leaf v) cs = leaf v

module _ (r : Room) where
  pub alike_announced : Alike (both (bounded_format 0 (most_children r)) (λ n. children_format n None (with_children n r))) (announced_format r) (λ z. z.1)
  alike_announced = record {
    there = λ z f. ((omega (arith, f.0.1, f.1.number), omega (arith, f.0.2, f.1.number), subst (λ n. FitBelow n (with_children n r) z.1) (sym f.1.number) f.1), ap (λ n. to_be_bytes w32 n ++ children_bytes z.1) f.1.number, refl);
    back = λ cs f. ((number_of cs, cs), ((omega arith, f.0, f.1), f.2), refl);
  }

  no_children : FitBelow 0 (with_children 0 r) no_more
  no_children = record { number = refl; parts = tt; deep = omega arith; long = omega arith; few = omega arith; light = omega arith }

  pub has_below : (c : Content) → HasSome (below_format r c)
  has_below Node = record { first = no_more; fit = (omega arith, omega arith, no_children) }
  has_below (Leaf v) = record { first = no_more; fit = refl }

  node_fits : (cs : Children) → (announced_format r).fit cs → FitsIn r (node cs)
  node_fits cs f =
      let room = room_for r (number_of cs) f.0 in
      record {
        parts = (f.1, f.2.parts);
        deep = omega (arith, node_depth cs, f.2.deep);
        long = omega (arith, node_size cs, f.2.long);
        few = omega (arith, node_count cs, f.2.few, room.nodes);
        light = omega (arith, node_weight cs, f.2.light, room.weight);
      }

  node_parts : (cs : Children) → FitsIn r (node cs) → (announced_format r).fit cs
  node_parts cs f =
      let n = number_of cs in
      let nodes : n ≤ r.nodes = omega (arith, node_count cs, enough_rows cs, f.few) in
      let weight : PLACE_WEIGHT * n ≤ r.weight = omega (arith, node_weight cs, enough_weight cs, f.light) in
      let some : 0 < n → (0 < r.levels) × (0 < r.size) = λ h. (let lies = enough_depth cs h in (omega (arith, lies.0, node_depth cs, f.deep), omega (arith, lies.1, node_size cs, f.long))) in (
        enough_room r n nodes weight some,
        f.parts.0,
        record {
          number = refl;
          parts = f.parts.1;
          deep = omega (arith, node_depth cs, f.deep);
          long = omega (arith, node_size cs, f.long);
          few = omega (arith, node_count cs, f.few, nodes);
          light = omega (arith, node_weight cs, f.light, weight);
        },
      )

  tree_there : (c : Content) (cs : Children) → (content_format r.weight).fit c → (below_format r c).fit cs →
      (tree_format r).fit (tree_of c cs) × (tree_bytes (tree_of c cs) ≡ content_bytes c ++ (below_format r c).bytes cs) × (tree_checks (tree_of c cs) ≡ moved (length (content_bytes c)) ((below_format r c).checks cs))
  tree_there Node cs f g = (node_fits cs g, refl, sym (moved_twice 1 4 (children_checks None cs)))
  tree_there (Leaf v) cs f g = (record { parts = f.0; deep = omega arith; long = omega arith; few = omega arith; light = omega (arith, leaf_weight v, f.1) }, sym (append-nil (content_bytes (Leaf v))), refl)

  tree_back : (t : Written) → FitsIn r t → (z : Content × Children) × (both (content_format r.weight) (below_format r)).fit z × (tree_of z.0 z.1 ≡ t)
  tree_back (leaf v) f = ((Leaf v, no_more), ((f.parts, omega (arith, leaf_weight v, f.light)), refl), refl)
  tree_back (node cs) f = ((Node, cs), ((tt, omega arith), node_parts cs f), refl)

  -- a tree is its root's content, and of a node its children
  pub alike_tree : Alike (both (content_format r.weight) (below_format r)) (tree_format r) (λ z. tree_of z.0 z.1)
  alike_tree = record { there = λ z f. tree_there z.0 z.1 f.0 f.1; back = λ t f. tree_back t f }
