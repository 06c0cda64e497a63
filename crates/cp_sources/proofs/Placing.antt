-- A row put into a tree: its places are new, and what they add is counted.
use Rattle.cp_model.specs.declared.limits.TheConstants.{NODES_MAX, WEIGHT_MAX}
use Rattle.cp_path.specs.declared.limits.TheConstants.{LABELS_MAX, LABEL_MAX, LOC_MAX, NAME_MAX, TEXT_MAX}
use Rattle.std.proofs.Common.{◌≡◌, ℕ, ◌+◌, ◌<◌, ◌≤◌, Bool, true, false, cond, ◌&&◌, ◌||◌, List, [], ◌∷◌, length, Option, Some, None, if◌then◌else◌, is_some, refl, sym, ap, subst, ◌∙◌, arith, nat_lt, length-append, ◌==◌, not, Result, Err, ◌⊎◌, inl, inr}
use Rattle.cp_model.proofs.Accepted.{none_is}
use Rattle.std.proofs.lemmas.Bool.Decides.{nat_tests}
use Rattle.std.proofs.lemmas.List.Sums.{sum_by-append}
use Rattle.std.specs.List.{list_any, list_all}
use Rattle.cp_path.specs.Text.{text_eq}
use Rattle.cp_path.specs.declared.value.Value.TheVariants.{Text}
use Rattle.cp_model.specs.declared.row.Content.{Content}
use Rattle.cp_model.specs.declared.row.Content.TheVariants.{Node, Leaf}
use Rattle.cp_model.specs.Place.{Label, Path, label_eq, path_eq, child, over_limit, size}
use Rattle.cp_path.proofs.Same.{path_eq-same}
use Rattle.cp_path.specs.PathOrder.{path_eq_equiv}
use Rattle.cp_model.proofs.KeyedLemmas.{get-insert}
use Rattle.cp_model.specs.Keyed as keyed
use Rattle.cp_model.specs.Keyed.{look}
use Rattle.cp_model.specs.Subtrees.{is_there, with_subtree}
use Rattle.cp_model.specs.Tree.{Tree, IsTree, IsRooted, weight, text_bytes, IsNumber}
use Rattle.cp_model.proofs.SumsLemmas.{len_insert_new, weight_insert_new}
use Rattle.cp_tree.specs.Rows.{root_entries, path_size, single}
use Rattle.cp_tree.proofs.Fits.{within-limit}
use Rattle.cp_tree.proofs.Leaves.{nothing-below, leaf-insert, leaf-fits}
use Rattle.std.specs.Str.{is_utf8}
use Rattle.csv.specs.Reading.{records, default_config, strip_bom}
use Rattle.cp_model.proofs.Lookups.{find-from_entries}
use Rattle.cp_sources.specs.CsvTrees.{Fields, is_long_label, is_long_text, repeated_column, with_fields, with_row, tree_fault, field_fault, row_label, header_fault, rows_tree, records_tree, csv_tree}
use Rattle.cp_model.specs.Cases.{unless}
use Rattle.cp_sources.specs.Steps.{IsEmptyRow, IsShallow, fields_weight}
use Rattle.cp_sources.specs.declared.csv_fault.CsvFault.{CsvFault}
use Rattle.cp_sources.specs.declared.csv_fault.CsvFault.TheVariants.{NotUtf8, LabelTooLong, Ragged, TextTooLong, RepeatedKey, TooMany, TooBig, Memory}
use Rattle.cp_sources.proofs.Lists.{none_pass}

-- ---- a leaf

-- a leaf below the root, or below a child of it, leaves a tree where there is room
pub leaf_fits : (t : Tree) (p : Path) (a : Label) (c : Content) → IsTree t → keyed.get t p ≡ Some Node → length p ≤ 1 → path_size p ≤ 256 → length a ≤ LABEL_MAX → text_bytes c ≤ TEXT_MAX → IsNumber c →
    keyed.len t + 1 ≤ NODES_MAX → weight t + 16 + length a + text_bytes c ≤ WEIGHT_MAX → IsTree (with_subtree (child p a) (root_entries c) t)
leaf_fits t p a c h n deep large s x whole l w =
    leaf-fits t p a c h n (within-limit (child p a) (omega (arith, deep, length-append p (a ∷ []))) (omega (arith, large, s, sum_by-append (λ (a : Label). length a + 1) p (a ∷ [])))) s x whole l w

-- ---- the fields

and_no : (a b : Bool) → b ≡ false → (a && b) ≡ false
and_no true b e = e
and_no false b e = refl

if_none : {X : Type 0} (b : Bool) (x : X) (o : Option X) → (if b then Some x else o) ≡ None → (b ≡ false) × (o ≡ None)
if_none true x o e = absurd (cc)
if_none false x o e = (refl, e)

module _ (t : Tree) (row : Label) (h : Label) (hs : List Label) (bare : IsEmptyRow t row (h ∷ hs)) (c : Content) where
  parts : (list_any (label_eq h) bare.before ≡ false) × (repeated_column (h ∷ bare.before) (bare.column + 1) hs ≡ None)
  parts = if_none (list_any (label_eq h) bare.before) bare.column (repeated_column (h ∷ bare.before) (bare.column + 1) hs) bare.apart

  -- nothing is under the next header
  pub next_free : keyed.get t (row ∷ h ∷ []) ≡ None
  next_free = none_is (keyed.get t (row ∷ h ∷ [])) (bare.free h parts.0)

  -- and with a leaf there the others are still free
  pub next_bare : IsEmptyRow (keyed.insert t (row ∷ h ∷ []) c) row hs
  next_bare = record {
    before = h ∷ bare.before;
    column = bare.column + 1;
    apart = parts.1;
    free = λ g n.
        let both = none_pass (label_eq g) h bare.before n in
        ap is_some (get-insert t (row ∷ h ∷ []) c (row ∷ g ∷ [])
        ∙ ap (λ b. cond b (Some c) (keyed.get t (row ∷ g ∷ []))) (and_no (text_eq row row) (text_eq g h && true) (ap (λ b. b && true) both.0)))
        ∙ bare.free g both.1;
    node = get-insert t (row ∷ h ∷ []) c (row ∷ []) ∙ ap (λ b. cond b (Some c) (keyed.get t (row ∷ []))) (and_no (text_eq row row) false refl) ∙ bare.node;
  }

-- each field is one more place
pub count_fields : (row : Label) (hs : List Label) (fs : Fields) (t : Tree) → IsEmptyRow t row hs → length fs ≡ length hs → keyed.len (with_fields row hs fs t) ≡ keyed.len t + length hs
count_fields row [] fs t b l = omega arith
count_fields row (h ∷ hs) [] t b l = absurd (omega (arith, l))
count_fields row (h ∷ hs) (f ∷ fs) t b l =
    let more = count_fields row hs fs (keyed.insert t (row ∷ h ∷ []) (Leaf (Text f))) (next_bare t row h hs b (Leaf (Text f))) (omega (arith, l)) in
    omega (arith, more, len_insert_new t (row ∷ h ∷ []) (Leaf (Text f)) (next_free t row h hs b (Leaf (Text f))))

-- and adds its weight
pub weigh_fields : (row : Label) (hs : List Label) (fs : Fields) (t : Tree) → IsEmptyRow t row hs → length fs ≡ length hs → weight (with_fields row hs fs t) ≡ weight t + fields_weight hs fs
weigh_fields row [] fs t b l = omega arith
weigh_fields row (h ∷ hs) [] t b l = absurd (omega (arith, l))
weigh_fields row (h ∷ hs) (f ∷ fs) t b l =
    let more = weigh_fields row hs fs (keyed.insert t (row ∷ h ∷ []) (Leaf (Text f))) (next_bare t row h hs b (Leaf (Text f))) (omega (arith, l)) in
    omega (arith, more, weight_insert_new t (row ∷ h ∷ []) (Leaf (Text f)) (next_free t row h hs b (Leaf (Text f))))

-- what stands once the next field is put under its header
pub record IsPut (t1 t : Tree) (row h : Label) (f : List ℕ) (hs : List Label) : Type 0 where
  pub same : t1 ≡ keyed.insert t (row ∷ h ∷ []) (Leaf (Text f))
  pub bare : IsEmptyRow t1 row hs
  pub count : keyed.len t1 ≡ keyed.len t + 1
  pub weighs : weight t1 ≡ weight t + 16 + length h + length f

pub next_put : (t1 t : Tree) (row h : Label) (f : List ℕ) (hs : List Label) → IsTree t → IsEmptyRow t row (h ∷ hs) → t1 ≡ with_subtree (row ∷ h ∷ []) (root_entries (Leaf (Text f))) t → IsPut t1 t row h f hs
next_put t1 t row h f hs tree bare e =
    let c : Content = Leaf (Text f) in
    let none = next_free t row h hs bare c in
    let same : t1 ≡ keyed.insert t (row ∷ h ∷ []) c = e ∙ leaf-insert t (row ∷ h ∷ []) c tree.rooted none in
    record {
      same = same;
      bare = subst (λ z. IsEmptyRow z row hs) (sym same) (next_bare t row h hs bare c);
      count = ap keyed.len same ∙ len_insert_new t (row ∷ h ∷ []) c none;
      weighs = ap weight same ∙ omega (arith, weight_insert_new t (row ∷ h ∷ []) c none);
    }

-- a new row has no field yet
pub new_bare : (t : Tree) (row : Label) (hs : List Label) → IsRooted t → keyed.get t (row ∷ []) ≡ None → repeated_column [] 1 hs ≡ None → IsEmptyRow (keyed.insert t (row ∷ []) Node) row hs
new_bare t row hs h n apart = record {
  before = [];
  column = 1;
  apart = apart;
  free = λ g _.
      ap is_some (get-insert t (row ∷ []) Node (row ∷ g ∷ []) ∙ ap (λ b. cond b (Some Node) (keyed.get t (row ∷ g ∷ []))) (and_no (text_eq row row) false refl) ∙ nothing-below t (row ∷ []) (g ∷ []) h n);
  node = get-insert t (row ∷ []) Node (row ∷ []) ∙ ap (λ b. cond b (Some Node) (keyed.get t (row ∷ []))) (path_eq_equiv.refl (row ∷ []));
}

-- ---- the row

module _ (t : Tree) (row : Label) (hs : List Label) (fs : Fields) (h : IsRooted t) (n : keyed.get t (row ∷ []) ≡ None) (apart : repeated_column [] 1 hs ≡ None) (even : length fs ≡ length hs) where
  pub count_row : keyed.len (with_row row hs fs t) ≡ keyed.len t + 1 + length hs
  count_row = omega (arith, count_fields row hs fs (keyed.insert t (row ∷ []) Node) (new_bare t row hs h n apart) even, len_insert_new t (row ∷ []) Node n)

  pub weigh_row : weight (with_row row hs fs t) ≡ weight t + 16 + length row + fields_weight hs fs
  weigh_row = omega (arith, weigh_fields row hs fs (keyed.insert t (row ∷ []) Node) (new_bare t row hs h n apart) even, weight_insert_new t (row ∷ []) Node n)

  abbrev there_no : is_there t (row ∷ []) ≡ false
  there_no = ap is_some n

  pub is_many : (k : ℕ) → NODES_MAX < keyed.len t + 1 + length hs → tree_fault row hs k fs t ≡ Some TooMany
  is_many k l =
      let big : nat_lt NODES_MAX (keyed.len (with_row row hs fs t)) ≡ true = (let e = count_row in grind (arith, nat_tests)) in
      rw (there_no, big) refl

  pub is_big : (k : ℕ) → keyed.len t + 1 + length hs ≤ NODES_MAX → WEIGHT_MAX < weight t + 16 + length row + fields_weight hs fs → tree_fault row hs k fs t ≡ Some TooBig
  is_big k l w =
      let few : nat_lt NODES_MAX (keyed.len (with_row row hs fs t)) ≡ false = (let e = count_row in grind (arith, nat_tests)) in
      let big : nat_lt WEIGHT_MAX (weight (with_row row hs fs t)) ≡ true = (let e = weigh_row in grind (arith, nat_tests)) in
      rw (there_no, few, big) refl

  pub is_fit : (k : ℕ) → keyed.len t + 1 + length hs ≤ NODES_MAX → weight t + 16 + length row + fields_weight hs fs ≤ WEIGHT_MAX → tree_fault row hs k fs t ≡ None
  is_fit k l w =
      let few : nat_lt NODES_MAX (keyed.len (with_row row hs fs t)) ≡ false = (let e = count_row in grind (arith, nat_tests)) in
      let light : nat_lt WEIGHT_MAX (weight (with_row row hs fs t)) ≡ false = (let e = weigh_row in grind (arith, nat_tests)) in
      rw (there_no, few, light) refl

-- the root stays a node
root_kept : (row : Label) (hs : List Label) (fs : Fields) (t : Tree) → keyed.get t [] ≡ Some Node → keyed.get (with_fields row hs fs t) [] ≡ Some Node
root_kept row [] fs t r = r
root_kept row (h ∷ hs) [] t r = r
root_kept row (h ∷ hs) (f ∷ fs) t r = root_kept row hs fs (keyed.insert t (row ∷ h ∷ []) (Leaf (Text f))) (get-insert t (row ∷ h ∷ []) (Leaf (Text f)) [] ∙ r)

pub root_stays : (row : Label) (hs : List Label) (fs : Fields) (t : Tree) → keyed.get t [] ≡ Some Node → keyed.get (with_row row hs fs t) [] ≡ Some Node
root_stays row hs fs t r = root_kept row hs fs (keyed.insert t (row ∷ []) Node) (get-insert t (row ∷ []) Node [] ∙ r)

-- one more place with few short labels
shallow_insert : (t : Tree) (k : Path) (c : Content) → IsShallow t → length k ≤ 2 → path_size k ≤ 512 → IsShallow (keyed.insert t k c)
shallow_insert t k c s deep large p i =
    elim (path_eq p k) as (λ b. path_eq p k ≡ b → is_some (cond b (Some c) (keyed.get t p)) ≡ true → (length p ≤ 2) × (path_size p ≤ 512)) [
      | true ↦ λ e _. (let same : p ≡ k = path_eq-same p k e in subst (λ q. (length q ≤ 2) × (path_size q ≤ 512)) (sym same) (deep, large))
      | false ↦ λ _ j. s p j
    ] refl (sym (ap is_some (get-insert t k c p)) ∙ i)

pub text_so : (f : List ℕ) → is_long_text f ≡ false → length f ≤ TEXT_MAX
text_so f e = grind (arith, nat_tests)

pub short_so : (a : Label) → is_long_label a ≡ false → length a ≤ LABEL_MAX
short_so a e = grind (arith, nat_tests)

shallow_fields : (row : Label) (hs : List Label) (fs : Fields) (t : Tree) → length row ≤ LABEL_MAX → list_any is_long_label hs ≡ false → IsShallow t → IsShallow (with_fields row hs fs t)
shallow_fields row [] fs t r l s = s
shallow_fields row (h ∷ hs) [] t r l s = s
shallow_fields row (h ∷ hs) (f ∷ fs) t r l s =
    let parts = none_pass is_long_label h hs l in
    let short = short_so h parts.0 in
    shallow_fields row hs fs (keyed.insert t (row ∷ h ∷ []) (Leaf (Text f))) r parts.1 (shallow_insert t (row ∷ h ∷ []) (Leaf (Text f)) s (omega arith) (omega (arith, r, short)))

-- a row keeps the tree shallow
pub shallow_row : (row : Label) (hs : List Label) (fs : Fields) (t : Tree) → length row ≤ LABEL_MAX → list_any is_long_label hs ≡ false → IsShallow t → IsShallow (with_row row hs fs t)
shallow_row row hs fs t r l s = shallow_fields row hs fs (keyed.insert t (row ∷ []) Node) r l (shallow_insert t (row ∷ []) Node s (omega arith) (omega (arith, r)))

-- what is put wasn't there
pub fit_free : (row : Label) (hs : List Label) (n : ℕ) (fs : Fields) (t : Tree) → tree_fault row hs n fs t ≡ None → keyed.get t (row ∷ []) ≡ None
fit_free row hs n fs t e =
    none_is (keyed.get t (row ∷ [])) (if_none (is_there t (row ∷ [])) (RepeatedKey n) (if nat_lt NODES_MAX (keyed.len (with_row row hs fs t)) then Some TooMany else if nat_lt WEIGHT_MAX (weight (with_row row hs fs t)) then Some TooBig else None) e).0

either_none : {X : Type 0} (b : Bool) (x : X) (o : Option X) → (if b then Some x else o) ≡ None → o ≡ None
either_none b x o e = (if_none b x o e).1

-- and its label is short
pub fit_short : (hs : List Label) (key : Option Label) (n : ℕ) (fs : Fields) → field_fault hs key n fs ≡ None → length (row_label hs key n fs) ≤ LABEL_MAX
fit_short hs key n fs e =
    let last = if is_long_label (row_label hs key n fs) then Some LabelTooLong else None in
    let third = if list_any is_long_text fs then Some TextTooLong else last in
    let second = if not (list_all is_utf8 fs) then Some (NotUtf8 n) else third in
    short_so (row_label hs key n fs)
    (if_none (is_long_label (row_label hs key n fs)) LabelTooLong None
    (either_none (list_any is_long_text fs) TextTooLong last (either_none (not (list_all is_utf8 fs)) (NotUtf8 n) third (either_none (not (length fs == length hs)) (Ragged n) second e)))).0

some_length : (q : Path) (es : List (Path × Content)) (x : Content) → look q es ≡ Some x → 1 ≤ length es
some_length q [] x e = absurd (cc)
some_length q (y ∷ es) x e = omega arith

-- where something stands there is a place
pub has_place : (t : Tree) (q : Path) (x : Content) → keyed.get t q ≡ Some x → 1 ≤ keyed.len t
unfolding keyed.get keyed.len
has_place t q x e = some_length q t.list x e

-- a root alone
pub single_root : keyed.get (single Node) [] ≡ Some Node
single_root = find-from_entries (root_entries Node) []

pub single_shallow : IsShallow (single Node)
single_shallow [] i = (omega arith, omega arith)
single_shallow (a ∷ p) i = absurd (let no : is_there (single Node) (a ∷ p) ≡ false = ap is_some (find-from_entries (root_entries Node) (a ∷ p)) in cc)

-- a place of few short labels is within the limits of any database
pub within : (t : Tree) (name : List ℕ) → IsShallow t → length name ≤ NAME_MAX → (p : Path) → is_there t p ≡ true → over_limit (record { db = name; path = p }) ≡ false
within t name s n p i =
    let near = s p i in
    let few : nat_lt LABELS_MAX (length p) ≡ false = (let a = near.0 in grind (arith, nat_tests)) in
    let small : size (record { db = name; path = p }) ≤ LOC_MAX = omega (arith, near.1, n) in
    let light : nat_lt LOC_MAX (size (record { db = name; path = p })) ≡ false = grind (arith, nat_tests) in
    ap (λ b. b || nat_lt LOC_MAX (size (record { db = name; path = p }))) few ∙ light

-- ---- the whole

-- the tree of a text is that of its records
pub records_are : (bytes : List ℕ) (key : Option Label) (rs : List Fields) → rs ≡ records default_config (strip_bom bytes) → records_tree rs key ≡ csv_tree bytes key
unfolding csv_tree
records_are bytes key rs e = ap (λ z. records_tree z key) e

module _ (rs : List Fields) (key : Option Label) (h : Fields) (rest : List Fields) (e : rs ≡ h ∷ rest) where
  -- records whose header is refused
  pub bad_header : (f : CsvFault) → header_fault h key ≡ Some f → records_tree rs key ≡ Err f
  bad_header f is = ap (λ z. records_tree z key) e ∙ ap (λ o. unless o (rows_tree h key 1 rest (single Node))) is

  -- and those whose header is not
  pub good_header : header_fault h key ≡ None → records_tree rs key ≡ rows_tree h key 1 rest (single Node)
  good_header is = ap (λ z. records_tree z key) e ∙ ap (λ o. unless o (rows_tree h key 1 rest (single Node))) is

-- a refusal of the header, or out of memory
pub header_told : (rs : List Fields) (key : Option Label) (h : Fields) (rest : List Fields) (f : CsvFault) → rs ≡ h ∷ rest → (f ≡ Memory) ⊎ (header_fault h key ≡ Some f) → (f ≡ Memory) ⊎ (records_tree rs key ≡ Err f)
header_told rs key h rest f e (inl m) = inl m
header_told rs key h rest f e (inr is) = inr (bad_header rs key h rest e f is)

-- a refusal of a row, or out of memory
pub rows_told : (r s : Result Tree CsvFault) (f : CsvFault) → s ≡ r → (f ≡ Memory) ⊎ (r ≡ Err f) → (f ≡ Memory) ⊎ (s ≡ Err f)
rows_told r s f e (inl m) = inl m
rows_told r s f e (inr is) = inr (e ∙ is)
