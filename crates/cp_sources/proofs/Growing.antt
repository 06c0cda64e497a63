-- A tree that is grown place by place from the listing of a value's places.
use Rattle.cp_model.specs.declared.limits.TheConstants.{NODES_MAX, WEIGHT_MAX}
use Rattle.cp_path.specs.declared.limits.TheConstants.{TEXT_MAX}
use Rattle.std.proofs.Common.{◌≡◌, ◌≤◌, ◌<◌, ◌+◌, ◌^◌, ℕ, Bool, true, false, cond, List, [], ◌∷◌, ◌++◌, length, sum_by, is_some, decimal, refl, sym, ap, ◌∙◌, arith, length-append, append_assoc, subst}
use Rattle.std.specs.Prelude.{⊤}
use Rattle.std.proofs.lemmas.List.Sums.{sum_by-cons}
use Rattle.std.proofs.lemmas.Fmt.{decimal_injective}
use Rattle.std.specs.List.{list_all, filter_map}
use Rattle.std.specs.Ordering.{is_eq}
use Rattle.std.specs.Cmp.Lexicographic.{nat_list_eq_equiv, texts_ties}
use Rattle.std.specs.declared.cmp.Ordering.TheVariants.{Less}
use Rattle.std.specs.declared.option.Option.{Option}
use Rattle.std.specs.declared.option.Option.TheVariants.{None, Some}
use Rattle.serde_json.specs.Data.{Data, null, boolean, number, string, array, object, Items, no_items, item, Members, no_members, member}
use Rattle.cp_path.specs.Text.{text_cmp}
use Rattle.cp_model.specs.declared.row.Content.{Content}
use Rattle.cp_model.specs.declared.row.Content.TheVariants.{Node}
use Rattle.cp_model.specs.Place.{Label, Path, child, label_eq, path_eq, strip, or_else, at_target, over_limit}
use Rattle.cp_path.proofs.Same.{path_eq-same, text_eq-same}
use Rattle.cp_path.specs.PathOrder.{path_eq_equiv}
use Rattle.cp_model.proofs.KeyedLemmas.{get-insert}
use Rattle.cp_model.specs.Keyed as keyed
use Rattle.cp_model.specs.Keyed.{look}
use Rattle.cp_model.proofs.Strips.{strip_is, strip-append, strip-itself, append-nil, snoc-same}
use Rattle.cp_model.proofs.Lookups.{path_eq-append, path_eq-sym, rest_is, or_none}
use Rattle.cp_model.specs.Tree.{Tree, IsTree, IsNumber, weight, weight_of, text_bytes, last_bytes}
use Rattle.cp_model.proofs.SumsLemmas.{last_bytes_child, len_insert_new, weight_insert_new}
use Rattle.cp_tree.proofs.Leaves.{leaf-insert, leaf-fits}
use Rattle.cp_sources.specs.Places.{content_of, value_places, places_below, item_places, member_places, bytes_of, place_weight}
use Rattle.cp_sources.specs.JsonTrees.{entry_of}
use Rattle.cp_sources.specs.Growing.{or_node, with_leaf, CanPut}
use Rattle.cp_sources.specs.Ordered.{AllAbove, HasRisingMembers, ItemsHaveRisingMembers, AreRisingMembers}
use Rattle.cp_sources.proofs.Walking.{Entry, stepped, AllNeeds}
use Rattle.cp_sources.proofs.Looking.{IsLow}

-- ---- paths that lie elsewhere

path_no : (q r : Path) → strip q r ≡ None → path_eq r q ≡ false
path_no q r h = path_eq-sym r q ∙ ap (λ z. path_eq z r) (sym (append-nil q)) ∙ path_eq-append q [] r ∙ ap (λ o. rest_is o []) h

strip_child : (q : Path) (a : Label) (r : Path) → strip q r ≡ None → strip (child q a) r ≡ None
strip_child q a r h =
    elim (strip (child q a) r) as (λ o. strip (child q a) r ≡ o → o ≡ None) [
      | None ↦ λ _. refl
      | Some z ↦ λ e.
          let at : r ≡ q ++ (a ∷ z) = strip_is (child q a) r z e ∙ append_assoc q (a ∷ []) z in
          let is : strip q r ≡ Some (a ∷ z) = ap (strip q) at ∙ strip-append q (a ∷ z) in
          absurd (cc)
    ] refl

strip_other : (p : Path) (a b : Label) (s : Path) → label_eq a b ≡ false → strip (child p a) (child p b ++ s) ≡ None
strip_other [] a b s h = ap (λ x. cond x (Some s) None) h
strip_other (x ∷ p) a b s h = ap (λ y. cond y (strip (child p a) (child p b ++ s)) None) (nat_list_eq_equiv.refl x) ∙ strip_other p a b s h

strip_above : (p : Path) (a : Label) → strip (child p a) p ≡ None
strip_above [] a = refl
strip_above (x ∷ p) a = ap (λ y. cond y (strip (child p a) p) None) (nat_list_eq_equiv.refl x) ∙ strip_above p a

longer : (q : Path) (b : Label) (s : Path) → path_eq (q ++ b ∷ s) q ≡ false
longer q b s = path_eq-append q (b ∷ s) q ∙ ap (λ o. rest_is o (b ∷ s)) (strip-itself q)

apart : (i j : ℕ) → i < j → i < 2 ^ 64 → j < 2 ^ 64 → label_eq (decimal i) (decimal j) ≡ false
apart i j lt hi hj =
    elim (label_eq (decimal i) (decimal j)) as (λ b. label_eq (decimal i) (decimal j) ≡ b → b ≡ false) [
      | false ↦ λ _. refl
      | true ↦ λ e. (let same = decimal_injective i j hi hj (text_eq-same (decimal i) (decimal j) e) in absurd (omega (arith, same, lt)))
    ] refl

less_apart : (k l : List ℕ) → text_cmp k l ≡ Less → label_eq k l ≡ false
less_apart k l lt = texts_ties k l ∙ ap is_eq lt

-- ---- places put in one after another

abbrev pub with_entries : Tree → List Entry → Tree
with_entries t [] = t
with_entries t (e ∷ es) = with_entries (keyed.insert t e.0 (or_node e.1)) es

inserted_append : (t : Tree) (es fs : List Entry) → with_entries t (es ++ fs) ≡ with_entries (with_entries t es) fs
inserted_append t [] fs = refl
inserted_append t (e ∷ es) fs = inserted_append (keyed.insert t e.0 (or_node e.1)) es fs

inserted_here : (t : Tree) (q : Path) (v : Content) → keyed.get (keyed.insert t q v) q ≡ Some v
inserted_here t q v = get-insert t q v q ∙ ap (λ x. cond x (Some v) (keyed.get t q)) (path_eq_equiv.refl q)

inserted_else : (t : Tree) (q : Path) (v : Content) (r : Path) → path_eq r q ≡ false → keyed.get (keyed.insert t q v) r ≡ keyed.get t r
inserted_else t q v r h = get-insert t q v r ∙ ap (λ x. cond x (Some v) (keyed.get t r)) h

under_fresh : (t : Tree) (q : Path) (v : Content) (b : Label) (s : Path) → ((z : Path) → keyed.get t (q ++ z) ≡ None) → keyed.get (keyed.insert t q v) (child q b ++ s) ≡ None
under_fresh t q v b s f = ap (keyed.get (keyed.insert t q v)) (append_assoc q (b ∷ []) s) ∙ inserted_else t q v (q ++ b ∷ s) (longer q b s) ∙ f (b ∷ s)

mutual
  out_below : (t : Tree) (q : Path) (d : Data) (r : Path) → strip q r ≡ None → keyed.get (with_entries t (places_below q d)) r ≡ keyed.get t r
  out_below t q null r h = refl
  out_below t q (boolean b) r h = refl
  out_below t q (number n) r h = refl
  out_below t q (string s) r h = refl
  out_below t q (array ds) r h = out_items t q 0 ds r h
  out_below t q (object ms) r h = out_members t q ms r h

  out_items : (t : Tree) (q : Path) (i : ℕ) (ds : Items) (r : Path) → strip q r ≡ None → keyed.get (with_entries t (item_places q i ds)) r ≡ keyed.get t r
  out_items t q i no_items r h = refl
  out_items t q i (item d ds) r h =
      let c = child q (decimal i) in
      let u = keyed.insert t c (or_node (content_of d)) in
      let o = strip_child q (decimal i) r h in
      ap (λ z. keyed.get z r) (inserted_append u (places_below c d) (item_places q (i + 1) ds))
      ∙ out_items (with_entries u (places_below c d)) q (i + 1) ds r h
      ∙ out_below u c d r o
      ∙ inserted_else t c (or_node (content_of d)) r (path_no c r o)

  out_members : (t : Tree) (q : Path) (ms : Members) (r : Path) → strip q r ≡ None → keyed.get (with_entries t (member_places q ms)) r ≡ keyed.get t r
  out_members t q no_members r h = refl
  out_members t q (member k d ms) r h =
      let c = child q k in
      let u = keyed.insert t c (or_node (content_of d)) in
      let o = strip_child q k r h in
      ap (λ z. keyed.get z r) (inserted_append u (places_below c d) (member_places q ms))
      ∙ out_members (with_entries u (places_below c d)) q ms r h
      ∙ out_below u c d r o
      ∙ inserted_else t c (or_node (content_of d)) r (path_no c r o)

-- what lies elsewhere stays
stands_still : (t : Tree) (q : Path) (d : Data) (r : Path) → strip q r ≡ None → keyed.get (with_entries (keyed.insert t q (or_node (content_of d))) (places_below q d)) r ≡ keyed.get t r
stands_still t q d r h = out_below (keyed.insert t q (or_node (content_of d))) q d r h ∙ inserted_else t q (or_node (content_of d)) r (path_no q r h)

-- ---- each place is new, and below a node

pub record IsNew (t : Tree) (e : Entry) : Type 0 where
  pub above : Path
  pub label : Label
  pub is : e.0 ≡ child above label
  pub node : keyed.get t above ≡ Some Node
  pub new : keyed.get t e.0 ≡ None

abbrev pub IsListing : Tree → List Entry → Type 0
IsListing t [] = ⊤
IsListing t (e ∷ es) = IsNew t e × IsListing (keyed.insert t e.0 (or_node e.1)) es

listing_append : (t : Tree) (es fs : List Entry) → IsListing t es → IsListing (with_entries t es) fs → IsListing t (es ++ fs)
listing_append t [] fs h k = k
listing_append t (e ∷ es) fs h k = (h.0, listing_append (keyed.insert t e.0 (or_node e.1)) es fs h.1 k)

-- nothing stands at or below the members' places
abbrev AllFresh : Tree → Path → Members → Type 0
AllFresh t p no_members = ⊤
AllFresh t p (member k d ms) = ((s : Path) → keyed.get t (child p k ++ s) ≡ None) × AllFresh t p ms

all_fresh : (t : Tree) (p : Path) (ms : Members) → ((a : Label) (s : Path) → keyed.get t (child p a ++ s) ≡ None) → AllFresh t p ms
all_fresh t p no_members f = tt
all_fresh t p (member k d ms) f = (f k, all_fresh t p ms f)

fresh_kept : (t u : Tree) (p : Path) (k : Label) (ms : Members) → AllAbove k ms → ((l : Label) (s : Path) → label_eq k l ≡ false → keyed.get u (child p l ++ s) ≡ keyed.get t (child p l ++ s)) → AllFresh t p ms → AllFresh u p ms
fresh_kept t u p k no_members a e f = tt
fresh_kept t u p k (member l d ms) a e f = (λ s. e l s (less_apart k l a.0) ∙ f.0 s, fresh_kept t u p k ms a.1 e f.1)

mutual
  pub listing_below : (t : Tree) (p : Path) (d : Data) → HasRisingMembers d → length (places_below p d) < 2 ^ 64 → keyed.get t p ≡ Some (or_node (content_of d)) → ((a : Label) (s : Path) → keyed.get t (child p a ++ s) ≡ None) → IsListing t (places_below p d)
  listing_below t p null o l n f = tt
  listing_below t p (boolean b) o l n f = tt
  listing_below t p (number m) o l n f = tt
  listing_below t p (string s) o l n f = tt
  listing_below t p (array ds) o l n f = listing_items t p 0 ds o (omega (arith, l)) n (λ j _ _ s. f (decimal j) s)
  listing_below t p (object ms) o l n f = listing_members t p ms o l n (all_fresh t p ms f)

  listing_items : (t : Tree) (p : Path) (i : ℕ) (ds : Items) → ItemsHaveRisingMembers ds → i + length (item_places p i ds) < 2 ^ 64 → keyed.get t p ≡ Some Node →
      ((j : ℕ) → i ≤ j → j < 2 ^ 64 → (s : Path) → keyed.get t (child p (decimal j) ++ s) ≡ None) → IsListing t (item_places p i ds)
  listing_items t p i no_items o l n f = tt
  listing_items t p i (item d ds) o l n f =
      let q = child p (decimal i) in
      let v = or_node (content_of d) in
      let u = keyed.insert t q v in
      let here = places_below q d in
      let rest = item_places p (i + 1) ds in
      let size = length-append here rest in
      let fresh : (s : Path) → keyed.get t (q ++ s) ≡ None = f i (omega arith) (omega (arith, l)) in (
        record { above = p; label = decimal i; is = refl; node = n; new = ap (keyed.get t) (sym (append-nil q)) ∙ fresh [] },
        listing_append u here rest
            (listing_below u q d o.0 (omega (arith, l, size)) (inserted_here t q v) (λ b s. under_fresh t q v b s fresh))
            (listing_items (with_entries u here) p (i + 1) ds o.1 (omega (arith, l, size)) (stands_still t q d p (strip_above p (decimal i)) ∙ n)
            (λ j le lt s. stands_still t q d (child p (decimal j) ++ s) (strip_other p (decimal i) (decimal j) s (apart i j (omega (arith, le)) (omega (arith, l)) lt)) ∙ f j (omega (arith, le)) lt s)),
      )

  listing_members : (t : Tree) (p : Path) (ms : Members) → AreRisingMembers ms → length (member_places p ms) < 2 ^ 64 → keyed.get t p ≡ Some Node → AllFresh t p ms → IsListing t (member_places p ms)
  listing_members t p no_members o l n f = tt
  listing_members t p (member k d ms) o l n f =
      let q = child p k in
      let v = or_node (content_of d) in
      let u = keyed.insert t q v in
      let here = places_below q d in
      let rest = member_places p ms in
      let size = length-append here rest in (
        record { above = p; label = k; is = refl; node = n; new = ap (keyed.get t) (sym (append-nil q)) ∙ f.0 [] },
        listing_append u here rest
            (listing_below u q d o.1 (omega (arith, l, size)) (inserted_here t q v) (λ b s. under_fresh t q v b s f.0))
            (listing_members (with_entries u here) p ms o.2 (omega (arith, l, size)) (stands_still t q d p (strip_above p k) ∙ n)
            (fresh_kept t (with_entries u here) p k ms o.0 (λ m s e. stands_still t q d (child p m ++ s) (strip_other p k m s e)) f.1)),
      )

-- ---- whole numbers within their range

abbrev pub AllInRange : List Entry → Type 0
AllInRange [] = ⊤
AllInRange (e ∷ es) = IsNumber (or_node e.1) × AllInRange es

range_append : (es fs : List Entry) → AllInRange es → AllInRange fs → AllInRange (es ++ fs)
range_append [] fs h k = k
range_append (e ∷ es) fs h k = (h.0, range_append es fs h.1 k)

range_of : (d : Data) → HasRisingMembers d → IsNumber (or_node (content_of d))
range_of null o = tt
range_of (boolean true) o = tt
range_of (boolean false) o = tt
range_of (number n) o = o
range_of (string s) o = tt
range_of (array ds) o = tt
range_of (object ms) o = tt

mutual
  range_below : (p : Path) (d : Data) → HasRisingMembers d → AllInRange (places_below p d)
  range_below p null o = tt
  range_below p (boolean b) o = tt
  range_below p (number n) o = tt
  range_below p (string s) o = tt
  range_below p (array ds) o = range_items p 0 ds o
  range_below p (object ms) o = range_members p ms o

  range_items : (p : Path) (i : ℕ) (ds : Items) → ItemsHaveRisingMembers ds → AllInRange (item_places p i ds)
  range_items p i no_items o = tt
  range_items p i (item d ds) o = (range_of d o.0, range_append (places_below (child p (decimal i)) d) (item_places p (i + 1) ds) (range_below (child p (decimal i)) d o.0) (range_items p (i + 1) ds o.1))

  range_members : (p : Path) (ms : Members) → AreRisingMembers ms → AllInRange (member_places p ms)
  range_members p no_members o = tt
  range_members p (member k d ms) o = (range_of d o.1, range_append (places_below (child p k) d) (member_places p ms) (range_below (child p k) d o.1) (range_members p ms o.2))

-- so are all of a value that is read
pub range_all : (d : Data) → HasRisingMembers d → AllInRange (value_places d)
range_all d o = (range_of d o, range_below [] d o)

-- ---- leaves added to a tree within the limits

pub record IsSmall (e : Entry) : Type 0 where
  pub low : IsLow e
  pub holds : e.1 ≡ Some (or_node e.1)
  pub place : over_limit (at_target e.0) ≡ false
  pub text : text_bytes (or_node e.1) ≤ TEXT_MAX
  pub number : IsNumber (or_node e.1)

abbrev pub AllSmall : List Entry → Type 0
AllSmall [] = ⊤
AllSmall (e ∷ es) = IsSmall e × AllSmall es

leaf_tree : (t : Tree) (e : Entry) → IsTree t → IsNew t e → IsSmall e → keyed.len t + 1 ≤ NODES_MAX → weight t + place_weight e ≤ WEIGHT_MAX → IsTree (with_leaf e.0 e.1 t)
leaf_tree t e h x s n w =
    let near : over_limit (at_target (child x.above x.label)) ≡ false = ap (λ q. over_limit (at_target q)) (sym x.is) ∙ s.place in
    subst (λ q. IsTree (with_leaf q e.1 t)) (sym x.is) (leaf-fits t x.above x.label (or_node e.1) h x.node near (s.low.near x.above x.label x.is).1 s.text s.number n (omega (arith, w, ap last_bytes x.is, last_bytes_child x.above x.label, ap bytes_of s.holds)))

-- each can be added as a leaf, and adding them is putting them in
pub all_put : (t : Tree) (es : List Entry) → IsTree t → IsListing t es → AllSmall es → keyed.len t + length es ≤ NODES_MAX → weight t + sum_by place_weight es ≤ WEIGHT_MAX → AllNeeds with_leaf CanPut es t × (stepped with_leaf es t ≡ with_entries t es)
all_put t [] h x s n w = (tt, refl)
all_put t (e ∷ es) h x s n w =
    let u = with_leaf e.0 e.1 t in
    let m = keyed.insert t e.0 (or_node e.1) in
    let is : u ≡ m = leaf-insert t e.0 (or_node e.1) h.rooted x.0.new in
    let cons = sum_by-cons place_weight e es in
    let tree : IsTree u = leaf_tree t e h x.0 s.0 (omega (arith, n)) (omega (arith, w, cons)) in
    let weigh : weight_of (e.0, or_node e.1) ≡ place_weight e = ap (λ b. 16 + last_bytes e.0 + b) (sym (ap bytes_of s.0.holds)) in
    let rest = all_put u es tree (subst (λ z. IsListing z es) (sym is) x.1) s.1
    (omega (arith, n, ap keyed.len is, len_insert_new t e.0 (or_node e.1) x.0.new))
    (omega (arith, w, cons, weigh, ap weight is, weight_insert_new t e.0 (or_node e.1) x.0.new)) in (
      (
        λ p a k. record {
          near = s.0.low.near p a k;
          holds = s.0.holds;
          node = ap (keyed.get t) (snoc-same p x.0.above a x.0.label (sym k ∙ x.0.is)) ∙ x.0.node;
          free = ap is_some (ap (keyed.get t) (sym k) ∙ x.0.new);
          fits = subst (λ q. IsTree (with_leaf q e.1 t)) k tree;
        },
        rest.0,
      ),
      rest.1 ∙ ap (λ z. with_entries z es) is,
    )

-- ---- what stands where

-- what is put in goes beside what was there
pub get_with_entries : (t : Tree) (es : List Entry) → IsListing t es → list_all (λ e. is_some e.1) es ≡ true → (r : Path) → keyed.get (with_entries t es) r ≡ or_else (keyed.get t r) (look r (filter_map entry_of es))
get_with_entries t [] x s r = sym (or_none (keyed.get t r))
get_with_entries t ((q, None) ∷ es) x s r = absurd (cc)
get_with_entries t ((q, Some c) ∷ es) x s r =
    get_with_entries (keyed.insert t q c) es x.1 s r
    ∙ ap (λ o. or_else o rest) (get-insert t q c r)
    ∙ step (path_eq r q) refl
  where
    rest : Option Content
    rest = look r (filter_map entry_of es)

    step : (b : Bool) → path_eq r q ≡ b → or_else (cond b (Some c) (keyed.get t r)) rest ≡ or_else (keyed.get t r) (cond b (Some c) rest)
    step true e = ap (λ o. or_else o (Some c)) (sym (ap (keyed.get t) (path_eq-same r q e) ∙ x.0.new))
    step false e = refl
