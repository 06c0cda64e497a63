-- Labels held as their lengths and their bytes.
use Rattle.std.proofs.Common.{◌≡◌, ℕ, zero, suc, ◌+◌, ◌<◌, ◌≤◌, List, [], ◌∷◌, ◌++◌, length, map, take, drop, get_or, true, false, refl, sym, ap, ◌∙◌, subst, arith, append-nil, append_assoc, length-append, length-drop}
use Rattle.std.specs.Prelude.{sum, sum_by, IsUtf8}
use Rattle.std.specs.List.{flat_map, AllByRecursion}
use Rattle.std.proofs.lemmas.List.{take_at, drop_at, drop_more, drop_all, map-append, get_or_read}
use Rattle.std.proofs.lemmas.Bool.Decides.{nat_tests}
use Rattle.std.proofs.lemmas.List.Concat.{flat_map-append, length-flat_map}
use Rattle.std.proofs.lemmas.List.Sums.{sum_by-cons, sum-map, sum_by-append, sum_by-le-sum_by, sum_by_more_le}
use Rattle.cp_path.specs.declared.limits.TheConstants.{LOC_MAX}
use Rattle.cp_path.specs.declared.loc.Loc.{Loc}
use Rattle.cp_path.specs.Text.{is_name}
use Rattle.cp_path.specs.Place.{Path, size, over_limit}
use Rattle.cp_path.specs.Room.{labels_in, IsRoom}

all_suc : {X : Type 0} (P : X → Type 0) (xs : List X) (k : ℕ) (d : X) → k < length xs → AllByRecursion P (take k xs) → P (get_or xs k d) → AllByRecursion P (take (suc k) xs)
all_suc P [] k d le h p = absurd (omega (arith, le))
all_suc P (x ∷ xs) zero d le h p = (p, tt)
all_suc P (x ∷ xs) (suc k) d le h p = (h.0, all_suc P xs k d (omega (arith, le)) h.1 p)

-- what holds of those in front and of the next holds of one more
pub all_more : {X : Type 0} (P : X → Type 0) (xs : List X) (k : ℕ) (d : X) → k < length xs → AllByRecursion P (take k xs) → P (get_or xs k d) → AllByRecursion P (take (k + 1) xs)
all_more P xs k d le h p = let n : suc k ≡ k + 1 = omega arith in subst (λ m. AllByRecursion P (take m xs)) n (all_suc P xs k d le h p)

-- what holds of each element of two lists holds of both together
pub all_append : {X : Type 0} (P : X → Type 0) (xs ys : List X) → AllByRecursion P xs → AllByRecursion P ys → AllByRecursion P (xs ++ ys)
all_append P [] ys h k = k
all_append P (x ∷ xs) ys h k = (h.0, all_append P xs ys h.1 k)

-- labels are held by their lengths and their bytes
pub labels_held : (p : Path) → labels_in (map length p) (flat_map (λ a. a) p) ≡ p
unfolding labels_in
labels_held [] = refl
labels_held (a ∷ p) =
    let rest = flat_map (λ (b : List ℕ). b) p in
    let first : take (length a) (a ++ rest) ≡ a = take_at a rest (length a) refl in
    let behind : drop (length a) (a ++ rest) ≡ rest = drop_at a rest (length a) refl in
    ap (λ (b : List ℕ). b ∷ labels_in (map length p) (drop (length a) (a ++ rest))) first ∙ ap (λ (bs : List ℕ). a ∷ labels_in (map length p) bs) behind ∙ ap (λ (q : Path). a ∷ q) (labels_held p)

-- they take all of the bytes
pub held_whole : (p : Path) → sum (map length p) ≡ length (flat_map (λ a. a) p)
held_whole p = sum-map length p ∙ sym (length-flat_map (λ (a : List ℕ). a) p)

-- these labels, each a text, are held by these lengths and bytes
pub record IsHeld (p : Path) (ls bs : List ℕ) : Type 0 where
  pub lengths : ls ≡ map length p
  pub bytes : bs ≡ flat_map (λ a. a) p
  pub texts : AllByRecursion IsUtf8 p

-- what holds labels, and then more
pub held_both : (v w p q : Path) (ls ms ns bs cs ds : List ℕ) → v ≡ p → w ≡ q → ls ≡ [] → bs ≡ [] → ms ≡ ls ++ map length v → ns ≡ ms ++ map length w → cs ≡ bs ++ flat_map (λ a. a) v → ds ≡ cs ++ flat_map (λ a. a) w → AllByRecursion IsUtf8 v → AllByRecursion IsUtf8 w → IsHeld (p ++ q) ns ds
held_both v w p q ls ms ns bs cs ds x y l b m n c d t u =
    let both : v ++ w ≡ p ++ q = ap (λ (r : Path). r ++ w) x ∙ ap (λ (r : Path). p ++ r) y in
    let all : IsHeld (v ++ w) ns ds = record {
      lengths = n ∙ ap (λ (r : List ℕ). r ++ map length w) (m ∙ ap (λ (r : List ℕ). r ++ map length v) l) ∙ sym (map-append length v w);
      bytes = d ∙ ap (λ (r : List ℕ). r ++ flat_map (λ a. a) w) (c ∙ ap (λ (r : List ℕ). r ++ flat_map (λ a. a) v) b) ∙ sym (flat_map-append (λ a. a) v w);
      texts = all_append IsUtf8 v w t u;
    } in
    subst (λ r. IsHeld r ns ds) both all

module _ (name db ls bs : List ℕ) (p : Path) (is : name ≡ db) (held : IsHeld p ls bs) where
  labels_are : labels_in ls bs ≡ p
  labels_are = ap (λ (ms : List ℕ). labels_in ms bs) held.lengths ∙ ap (λ (cs : List ℕ). labels_in (map length p) cs) held.bytes ∙ labels_held p

  -- a name and held labels make a room
  pub room_made : is_name db ≡ true → IsRoom name ls bs
  room_made n = record {
    name = ap is_name is ∙ n;
    whole = ap sum held.lengths ∙ held_whole p ∙ ap (λ (cs : List ℕ). length cs) (sym held.bytes);
    texts = subst (λ q. AllByRecursion IsUtf8 q) (sym labels_are) held.texts;
  }

  -- it holds the place of the name and the labels
  pub room_holds : ◌≡◌ {A = Loc} (record { db = name; path = labels_in ls bs }) (record { db = db; path = p })
  room_holds = λ i. record { db = is i; path = labels_are i }

-- the bytes of labels within the limit have space
pub held_fits : (db : List ℕ) (p q : Path) → over_limit (record { db = db; path = p ++ q }) ≡ false → sum_by length p + sum_by length q ≤ LOC_MAX
held_fits db p q h =
    let all : size (record { db = db; path = p ++ q }) ≤ LOC_MAX = grind (arith, nat_tests) in
    omega (arith, all, sum_by-append (λ (a : List ℕ). length a + 1) p q, sum_by-le-sum_by length (λ (a : List ℕ). length a + 1) p (λ x. omega arith), sum_by-le-sum_by length (λ (a : List ℕ). length a + 1) q (λ x. omega arith))

-- the first labels have space in no bytes, and the others behind them
pub first_fits : (p q v : Path) (bs : List ℕ) → v ≡ p → bs ≡ [] → sum_by length p + sum_by length q ≤ LOC_MAX → length bs + sum_by length v ≤ LOC_MAX
first_fits p q v bs x b le =
    let z : length bs ≡ 0 = ap length b in
    let s : sum_by length v ≡ sum_by length p = ap (λ (r : Path). sum_by length r) x in
    omega (arith, z, s, le)

pub others_fit : (p q v w : Path) (bs cs : List ℕ) → v ≡ p → w ≡ q → bs ≡ [] → cs ≡ bs ++ flat_map (λ a. a) v → sum_by length p + sum_by length q ≤ LOC_MAX → length cs + sum_by length w ≤ LOC_MAX
others_fit p q v w bs cs x y b c le =
    let n : length cs ≡ sum_by length p = ap length (c ∙ ap (λ (r : List ℕ). r ++ flat_map (λ a. a) v) b) ∙ length-flat_map (λ (a : List ℕ). a) v ∙ ap (λ (r : Path). sum_by length r) x in
    let s : sum_by length w ≡ sum_by length q = ap (λ (r : Path). sum_by length r) y in
    omega (arith, n, s, le)

-- the next label's bytes have space where those of all labels do
pub next_fits : (labels : Path) (k : ℕ) (old now text a : List ℕ) → k < length labels → now ≡ old ++ flat_map (λ a. a) (take k labels) → a ≡ get_or labels k a → text ≡ a → length old + sum_by length labels ≤ LOC_MAX → length now + length text ≤ LOC_MAX
next_fits labels k old now text a h e f g le =
    let item : a ≡ get_or labels k [] = get_or_read labels k a h f [] in
    let n : length now ≡ length old + sum_by length (take k labels) = ap length e ∙ length-append old (flat_map (λ a. a) (take k labels)) ∙ ap (λ m. length old + m) (length-flat_map (λ (a : List ℕ). a) (take k labels)) in
    let t : length text ≡ length (get_or labels k []) = ap length (g ∙ item) in
    omega (arith, n, t, le, sum_by_more_le length labels k [] h)

-- what is still to be read: these lengths and bytes, of labels that are texts, behind the path that was read
pub record IsLeft (lengths bytes : List ℕ) (path all : Path) : Type 0 where
  pub same : path ++ labels_in lengths bytes ≡ all
  pub whole : sum lengths ≡ length bytes
  pub texts : AllByRecursion IsUtf8 (labels_in lengths bytes)

module _ (n : ℕ) (ns bytes : List ℕ) (path all : Path) (left : IsLeft (n ∷ ns) bytes path all) where
  -- the next label's bytes are there
  pub left_fits : n ≤ length bytes
  left_fits = omega (arith, left.whole, sum_by-cons (λ (x : ℕ). x) n ns)

  -- they are a text
  pub left_text : IsUtf8 (take n bytes)
  unfolding labels_in
  left_text = left.texts.0

  -- after it is read
  pub left_next : IsLeft ns (drop n bytes) (path ++ take n bytes ∷ []) all
  unfolding labels_in
  left_next = record {
    same = append_assoc path (take n bytes ∷ []) (labels_in ns (drop n bytes)) ∙ left.same;
    whole = omega (arith, left.whole, sum_by-cons (λ (x : ℕ). x) n ns, length-drop n bytes, left_fits);
    texts = left.texts.1;
  }

-- when no length is left, all is read
pub left_none : (bytes : List ℕ) (path all : Path) → IsLeft [] bytes path all → path ≡ all
unfolding labels_in
left_none bytes path all left = sym (append-nil path) ∙ left.same

-- where the next length is the one of a number
pub left_at : (ns : List ℕ) (k : ℕ) (bytes : List ℕ) (path all : Path) → k < length ns → IsLeft (drop k ns) bytes path all → IsLeft (get_or ns k 0 ∷ drop (k + 1) ns) bytes path all
left_at ns k bytes path all h left = subst (λ ms. IsLeft ms bytes path all) (drop_more ns k 0 h) left

-- the label of that number is a text
pub text_at : (ns : List ℕ) (k : ℕ) (bytes : List ℕ) (path all : Path) (a : List ℕ) → k < length ns → IsLeft (drop k ns) bytes path all → a ≡ take (get_or ns k 0) bytes → IsUtf8 a
text_at ns k bytes path all a h left e = subst IsUtf8 (sym e) (left_text (get_or ns k 0) (drop (k + 1) ns) bytes path all (left_at ns k bytes path all h left))

-- after the label of that number
pub left_more : (ns : List ℕ) (k : ℕ) (bytes : List ℕ) (path all : Path) (a behind label : List ℕ) (new : Path) → k < length ns → IsLeft (drop k ns) bytes path all → a ≡ take (get_or ns k 0) bytes → behind ≡ drop (get_or ns k 0) bytes → label ≡ a → new ≡ path ++ label ∷ [] → IsLeft (drop (k + 1) ns) behind new all
left_more ns k bytes path all a behind label new h left e f g m =
    let next = left_next (get_or ns k 0) (drop (k + 1) ns) bytes path all (left_at ns k bytes path all h left) in
    let grown : new ≡ path ++ take (get_or ns k 0) bytes ∷ [] = m ∙ ap (λ (b : List ℕ). path ++ b ∷ []) (g ∙ e) in
    subst (λ (p : Path). IsLeft (drop (k + 1) ns) behind p all) (sym grown) (subst (λ (bs : List ℕ). IsLeft (drop (k + 1) ns) bs (path ++ take (get_or ns k 0) bytes ∷ []) all) (sym f) next)

-- after all of them
pub left_over : (ns : List ℕ) (k : ℕ) (bytes : List ℕ) (path all : Path) → length ns ≤ k → IsLeft (drop k ns) bytes path all → path ≡ all
left_over ns k bytes path all h left = left_none bytes path all (subst (λ ms. IsLeft ms bytes path all) (drop_all k ns h) left)
