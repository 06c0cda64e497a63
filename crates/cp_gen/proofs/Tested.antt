-- Rows that pass tests are those of a literal, and of a tree.
use Rattle.cp_path.specs.declared.limits.TheConstants.{LABEL_MAX, TEXT_MAX}
use Rattle.cp_model.specs.declared.limits.TheConstants.{NODES_MAX, WEIGHT_MAX}
use Rattle.std.specs.Prelude.{ℕ, pos, negsuc, ◌≡◌, ◌≤◌, Bool, true, false, not, List, [], length, sum_by, nat_lt, is_some, refl}
use Rattle.std.proofs.Common.{sym, ap, ◌∙◌, arith, T}
use Rattle.std.proofs.lemmas.Int.{ints}
use Rattle.std.specs.List.{list_any}
use Rattle.std.specs.FinMap.Entries.{is_sorted}
use Rattle.std.specs.declared.option.Option.{Option}
use Rattle.std.specs.declared.option.Option.TheVariants.{None, Some}
use Rattle.cp_path.specs.declared.value.Value.TheVariants.{Null, False, True, Whole, Text}
use Rattle.cp_model.specs.declared.row.Content.{Content}
use Rattle.cp_model.specs.declared.row.Content.TheVariants.{Node, Leaf}
use Rattle.cp_model.specs.Place.{Label, Path, at_target, child, over_limit, parent, path_cmp}
use Rattle.cp_model.specs.Keyed.{entries, from_entries, look}
use Rattle.cp_model.specs.Tree.{IsNumber, IsRooted, IsTree, is_node, last_bytes, text_bytes, weight_of}
use Rattle.cp_model.specs.History.{IsLiteral}
use Rattle.cp_model.proofs.Accepted.{at_most}
use Rattle.cp_model.proofs.Kept.{none_passes}
use Rattle.cp_model.proofs.Lookups.{find-from_entries}
use Rattle.cp_model.proofs.Strips.{parent-snoc}
use Rattle.cp_tree.proofs.BranchLemmas.{entries-from_entries}
use Rattle.cp_tree.proofs.SumsLemmas.{len_entries, weight_entries}

-- the place above is no node
abbrev pub is_orphan : List (Path × Content) → Option Path → Bool
is_orphan rows None = false
is_orphan rows (Some p) = not (is_node (look p rows))

-- a whole number that isn't small
abbrev pub is_large : Content → Bool
is_large Node = false
is_large (Leaf Null) = false
is_large (Leaf False) = false
is_large (Leaf True) = false
is_large (Leaf (Whole (pos n))) = nat_lt 1000 n
is_large (Leaf (Whole (negsuc n))) = true
is_large (Leaf (Text bs)) = false

-- rows whose places rise, below nodes, with short labels and texts and small numbers
pub record PassAsLiteral (rows : List (Path × Content)) : Type 0 where
  pub sorted : T (is_sorted path_cmp rows)
  pub root : is_some (look [] rows) ≡ true
  pub parents : list_any (λ e. is_orphan rows (parent e.0)) rows ≡ false
  pub texts : list_any (λ e. nat_lt TEXT_MAX (text_bytes e.1)) rows ≡ false
  pub labels : list_any (λ e. nat_lt LABEL_MAX (last_bytes e.0)) rows ≡ false
  pub numbers : list_any (λ e. is_large e.1) rows ≡ false

-- few rows, of little weight, whose places are small
pub record PassAsTree (rows : List (Path × Content)) : Type 0 where
  pub literal : PassAsLiteral rows
  pub places : list_any (λ e. over_limit (at_target e.0)) rows ≡ false
  pub nodes : nat_lt NODES_MAX (length rows) ≡ false
  pub weighs : nat_lt WEIGHT_MAX (sum_by weight_of rows) ≡ false

node_is : (o : Option Content) → not (is_node o) ≡ false → o ≡ Some Node
node_is None h = absurd (cc)
node_is (Some Node) h = refl
node_is (Some (Leaf v)) h = absurd (cc)

number_is : (c : Content) → is_large c ≡ false → IsNumber c
number_is Node h = tt
number_is (Leaf Null) h = tt
number_is (Leaf False) h = tt
number_is (Leaf True) h = tt
number_is (Leaf (Whole (pos n))) h = in_range n (at_most 1000 n h)
  where
    in_range : (n : ℕ) → n ≤ 1000 → IsNumber (Leaf (Whole (pos n)))
    in_range n h = (omega (arith, ints), omega (arith, ints))
number_is (Leaf (Whole (negsuc n))) h = absurd (cc)
number_is (Leaf (Text bs)) h = tt

module _ (rows : List (Path × Content)) (x : PassAsLiteral rows) where
  above : (p : Path) (a : Label) (o : Option Content) → look (child p a) rows ≡ o → is_some o ≡ true → look p rows ≡ Some Node
  above p a None e i = absurd (cc)
  above p a (Some c) e i = node_is (look p rows) (ap (is_orphan rows) (sym (parent-snoc p a)) ∙ none_passes (λ e. is_orphan rows (parent e.0)) rows x.parents (child p a) c e)

  rooted : IsRooted (from_entries rows)
  rooted = record {
    root = ap is_some (find-from_entries rows []) ∙ x.root;
    parents = λ p a i. find-from_entries rows p ∙ above p a (look (child p a) rows) refl (ap is_some (sym (find-from_entries rows (child p a))) ∙ i);
  }

  -- rows that pass are those of a literal
  pub literal-passed : IsLiteral rows
  literal-passed = record {
    sorted = x.sorted;
    rooted = rooted;
    texts = λ p c e. at_most TEXT_MAX (text_bytes c) (none_passes (λ e. nat_lt TEXT_MAX (text_bytes e.1)) rows x.texts p c e);
    spelled = λ p c e. record {
      label = at_most LABEL_MAX (last_bytes p) (none_passes (λ e. nat_lt LABEL_MAX (last_bytes e.0)) rows x.labels p c e);
      number = number_is c (none_passes (λ e. is_large e.1) rows x.numbers p c e);
    };
  }

-- rows that pass are those of a tree
pub tree-passed : (rows : List (Path × Content)) → PassAsTree rows → IsTree (from_entries rows)
tree-passed rows x =
    let same : entries (from_entries rows) ≡ rows = entries-from_entries rows x.literal.sorted in
    let l = literal-passed rows x.literal in
    record {
      rooted = l.rooted;
      within = record {
        nodes = omega (arith, len_entries (from_entries rows), ap length same, at_most NODES_MAX (length rows) x.nodes);
        weighs = omega (arith, weight_entries (from_entries rows), ap (sum_by weight_of) same, at_most WEIGHT_MAX (sum_by weight_of rows) x.weighs);
      };
      places = λ r i. there r (look r rows) refl (ap is_some (sym (find-from_entries rows r)) ∙ i);
      texts = λ r c e. l.texts r c (sym (find-from_entries rows r) ∙ e);
      spelled = λ r c e. l.spelled r c (sym (find-from_entries rows r) ∙ e);
    }
  where
    there : (r : Path) (o : Option Content) → look r rows ≡ o → is_some o ≡ true → over_limit (at_target r) ≡ false
    there r None e i = absurd (cc)
    there r (Some c) e i = none_passes (λ e. over_limit (at_target e.0)) rows x.places r c e
