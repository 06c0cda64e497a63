-- Where labels one after another are seen not to come after others: at the first label that isn't the same there.
use Rattle.std.proofs.Common.{◌≡◌, ℕ, suc, ◌+◌, ◌-◌, ◌<◌, ◌≤◌, Bool, true, false, cond, List, [], ◌∷◌, ◌++◌, refl, sym, ap, ◌∙◌, subst, append_assoc, append-nil, length, length-append, take, drop, min, get_or, arith}
use Rattle.std.specs.List.{flat_map}
use Rattle.std.specs.Cmp.Lexicographic.{nat_list_eq_equiv, texts_ties}
use Rattle.std.specs.Ordering.{is_eq, is_lt, ordering_then}
use Rattle.std.specs.declared.cmp.Ordering.{Ordering}
use Rattle.std.specs.declared.cmp.Ordering.TheVariants.{Less, Equal, Greater}
use Rattle.std.specs.declared.option.Option.TheVariants.{Some}
use Rattle.std.proofs.lemmas.List.{drop_at, length-drop, length-take-le, take-append-drop, take-append-le, take-take, take_all, take_at, take_rest}
use Rattle.std.proofs.Math.Seq.{take-append-add}
use Rattle.cp_path.specs.Encoding.{counted_bytes, path_bytes}
use Rattle.cp_path.specs.Text.{text_cmp, text_eq}
use Rattle.cp_path.proofs.Same.{text_eq-same}
use Rattle.cp_model.specs.Place.{Label, Path, label_eq, path_cmp}
use Rattle.cp_record.specs.Kept.{AreCounted}
use Rattle.cp_frame.specs.Entries.{labels_decided_at, path_decided_at}
use Rattle.cp_frame.specs.OrderReading.{LabelIsEarly, LabelMayFollow, LabelsAreEarly, LabelsMayFollow, PathIsEarly, PathMayFollow}
use Rattle.cp_frame.specs.Trees.{comes_after, decided_at}
use Rattle.cp_frame.proofs.Early.{cmp_front, common, common_front, headed, no_bytes}

-- ---- orders one after another

then_neither : (o r : Ordering) → is_lt o ≡ false → is_lt r ≡ false → is_lt (ordering_then o r) ≡ false
then_neither Less r h k = h
then_neither Equal r h k = k
then_neither Greater r h k = refl

then_differs : (o r : Ordering) → is_lt o ≡ false → is_eq o ≡ false → is_lt (ordering_then o r) ≡ false
then_differs Less r h k = h
then_differs Equal r h k = let both : true ≡ false = k in absurd (cc)
then_differs Greater r h k = refl

then_less : (o r : Ordering) → is_lt o ≡ true → is_lt (ordering_then o r) ≡ true
then_less Less r h = refl
then_less Equal r h = let both : false ≡ true = h in absurd (cc)
then_less Greater r h = let both : false ≡ true = h in absurd (cc)

-- no path comes before the root
pub none_above : (p : Path) → is_lt (path_cmp p []) ≡ false
none_above [] = refl
none_above (b ∷ p) = refl

own_cmp : (b : Label) → text_cmp b b ≡ Equal
own_cmp b = ap (λ w. text_cmp w w) (sym (append-nil b)) ∙ cmp_front b [] []

own_decided : (b : Label) → decided_at b b ≡ length b
own_decided b =
    let same : common b b ≡ length b + 0 = ap (λ w. common w w) (sym (append-nil b)) ∙ common_front b [] [] in
    let least : min (length b + 0 + 1) (length b) ≡ length b = omega arith in
    ap (λ n. min (n + 1) (length b)) same ∙ least

-- ---- the first label of some

module _ (b : Label) (p : Path) (len : ℕ) (tail : List ℕ) (count : ℕ) where
  first_label : (a : Label) (s : Path) (more cut : List ℕ) → flat_map counted_bytes (a ∷ s) ++ more ≡ len ∷ cut → (length a ≡ len) × (a ++ (flat_map counted_bytes s ++ more) ≡ cut)
  first_label a s more cut e = (ap (λ l. get_or l 0 0) e, sym (append_assoc a (flat_map counted_bytes s) more) ∙ ap (drop 1) e)

  -- ---- it is that of the others

  module _ (behind : List ℕ) (is : tail ≡ b ++ behind) (size : length b ≡ len) (two : 2 ≤ count) where
    others : (a : Label) (s : Path) (more cut : List ℕ) → flat_map counted_bytes (a ∷ s) ++ more ≡ len ∷ (b ++ cut) → (a ≡ b) × (flat_map counted_bytes s ++ more ≡ cut)
    others a s more cut e =
        let f = first_label a s more (b ++ cut) e in
        let rest = flat_map counted_bytes s ++ more in (
          sym (take_at a rest len f.0) ∙ ap (take len) f.1 ∙ take_at b cut len size,
          sym (drop_at a rest len f.0) ∙ ap (drop len) f.1 ∙ drop_at b cut len size,
        )

    same_cmp : (s : Path) → path_cmp (b ∷ p) (b ∷ s) ≡ path_cmp p s
    same_cmp s = ap (λ o. ordering_then o (path_cmp p s)) (own_cmp b)

    same_decided : (c : Label) (s : Path) → labels_decided_at (b ∷ p) (b ∷ c ∷ s) ≡ length (counted_bytes b) + labels_decided_at p (c ∷ s)
    same_decided c s = ap (λ t. cond t (length (counted_bytes b) + labels_decided_at p (c ∷ s)) (decided_at b b)) (nat_list_eq_equiv.refl b)

    tail_size : length tail ≡ len + length behind
    tail_size = ap length is ∙ length-append b behind ∙ ap (λ n. n + length behind) size

    -- the labels after it are early, and so are all
    pub early_after : (k : ℕ) → LabelsAreEarly p behind (count - 1) k → LabelsAreEarly (b ∷ p) (len ∷ tail) count (1 + len + k)
    early_after k h = record { there = omega (arith, h.there, tail_size); early = by }
      where
        cut_is : take (1 + len + k + 1) (len ∷ tail) ≡ len ∷ (b ++ take (k + 1) behind)
        cut_is =
            let n : 1 + len + k + 1 ≡ suc (length b + (k + 1)) = omega (arith, size) in
            ap (λ m. take m (len ∷ tail)) n ∙ ap (λ l. len ∷ l) (ap (take (length b + (k + 1))) is ∙ take-append-add b behind (k + 1))

        by : (s : Path) (more rest : List ℕ) → length s ≡ count → flat_map counted_bytes s ++ more ≡ take (1 + len + k + 1) (len ∷ tail) ++ rest → (is_lt (path_cmp (b ∷ p) s) ≡ false) × (labels_decided_at (b ∷ p) s ≡ 1 + len + k)
        by [] more rest many e = absurd (omega (arith, many, two))
        by (a ∷ []) more rest many e = absurd (omega (arith, many, two))
        by (a ∷ c ∷ s) more rest many e =
            let all : flat_map counted_bytes (a ∷ c ∷ s) ++ more ≡ len ∷ (b ++ (take (k + 1) behind ++ rest)) = e ∙ ap (λ l. l ++ rest) cut_is ∙ ap (λ l. len ∷ l) (append_assoc b (take (k + 1) behind) rest) in
            let z = others a (c ∷ s) more (take (k + 1) behind ++ rest) all in
            let t = h.early (c ∷ s) more rest (omega (arith, many)) z.1 in
            let at : length (counted_bytes b) + k ≡ 1 + len + k = omega (arith, size) in
            let told : (is_lt (path_cmp (b ∷ p) (b ∷ c ∷ s)) ≡ false) × (labels_decided_at (b ∷ p) (b ∷ c ∷ s) ≡ 1 + len + k) =
            (ap is_lt (same_cmp (c ∷ s)) ∙ t.0, same_decided c s ∙ ap (λ n. length (counted_bytes b) + n) t.1 ∙ at) in
            subst (λ w. (is_lt (path_cmp (b ∷ p) (w ∷ c ∷ s)) ≡ false) × (labels_decided_at (b ∷ p) (w ∷ c ∷ s) ≡ 1 + len + k)) (sym z.0) told

    -- the labels after it may follow, and so may all
    pub may_after : LabelsMayFollow p behind (count - 1) → LabelsMayFollow (b ∷ p) (len ∷ tail) count
    may_after h = by
      where
        by : LabelsMayFollow (b ∷ p) (len ∷ tail) count
        by [] more rest many e lt = absurd (omega (arith, many, two))
        by (a ∷ []) more rest many e lt = absurd (omega (arith, many, two))
        by (a ∷ c ∷ s) more rest many e lt =
            let all : flat_map counted_bytes (a ∷ c ∷ s) ++ more ≡ len ∷ (b ++ (behind ++ rest)) = e ∙ ap (λ l. len ∷ (l ++ rest)) is ∙ ap (λ l. len ∷ l) (append_assoc b behind rest) in
            let z = others a (c ∷ s) more (behind ++ rest) all in
            let here : labels_decided_at (b ∷ p) (b ∷ c ∷ s) < length (len ∷ tail) = subst (λ w. labels_decided_at (b ∷ p) (w ∷ c ∷ s) < length (len ∷ tail)) z.0 lt in
            let less : length (counted_bytes b) + labels_decided_at p (c ∷ s) < length (len ∷ tail) = subst (λ n. n < length (len ∷ tail)) (same_decided c s) here in
            let t = h (c ∷ s) more rest (omega (arith, many)) z.1 (omega (arith, less, tail_size, size)) in
            subst (λ w. is_lt (path_cmp (b ∷ p) (w ∷ c ∷ s)) ≡ true) (sym z.0) (ap is_lt (same_cmp (c ∷ s)) ∙ t)

  -- ---- it isn't, or is the last

  module _ (label : List ℕ) (is : label ≡ take (min len (length tail)) tail) (some : 1 ≤ count) (differs : 2 ≤ count → length label ≡ len → label ≡ b → ⊥) where
    label_size : length label ≡ min len (length tail)
    label_size =
        let least : min len (length tail) ≤ length tail = omega arith in
        ap length is ∙ length-take-le (min len (length tail)) tail least

    front_is : (k : ℕ) → k ≤ length label → take k tail ≡ take k label
    front_is k le = sym (take-take k (min len (length tail)) tail (omega (arith, le, label_size))) ∙ ap (take k) (sym is)

    -- a label that begins so
    begins : (a rest cut : List ℕ) (k : ℕ) → length a ≡ len → a ++ rest ≡ cut → take k cut ≡ take k tail → k ≤ length label → a ≡ take k label ++ drop k a
    begins a rest cut k size e same le =
        let front : take k a ≡ take k label = sym (take-append-le k a rest (omega (arith, size, le, label_size))) ∙ ap (take k) e ∙ same ∙ front_is k le in
        sym (take-append-drop k a) ∙ ap (λ l. l ++ drop k a) front

    -- it would be the same label
    not_same : (a : Label) (rest : List ℕ) → 2 ≤ count → length a ≡ len → len ≤ length label → a ≡ take len label ++ rest → a ≡ b → ⊥
    not_same a rest two size le e same =
        let whole : length label ≡ len = omega (arith, le, label_size) in
        let cut : take len label ≡ label = take_all len label (omega (arith, whole)) in
        let none : rest ≡ [] = no_bytes rest (omega (arith, ap length e, length-append (take len label) rest, ap length cut, whole, size)) in
        let all : a ≡ label = e ∙ ap (λ l. take len label ++ l) none ∙ append-nil (take len label) ∙ cut in
        differs two whole (sym all ∙ same)

    -- it decides, and not to come after
    settled_early : (a : Label) (s : Path) (k : ℕ) → (2 ≤ count → a ≡ b → ⊥) → length (a ∷ s) ≡ count → (comes_after (Some b) a ≡ false) × (decided_at b a ≡ k) → (is_lt (path_cmp (b ∷ p) (a ∷ s)) ≡ false) × (labels_decided_at (b ∷ p) (a ∷ s) ≡ k)
    settled_early a [] k apart many t = (then_neither (text_cmp b a) (path_cmp p []) t.0 (none_above p), t.1)
    settled_early a (c ∷ s) k apart many t = other (label_eq b a) refl
      where
        two : 2 ≤ count
        two = omega (arith, many)

        other : (e : Bool) → e ≡ label_eq b a → (is_lt (path_cmp (b ∷ p) (a ∷ c ∷ s)) ≡ false) × (labels_decided_at (b ∷ p) (a ∷ c ∷ s) ≡ k)
        other true e = absurd (apart two (sym (text_eq-same b a (sym e))))
        other false e = (
          then_differs (text_cmp b a) (path_cmp p (c ∷ s)) t.0 (sym (texts_ties b a) ∙ sym e),
          ap (λ t. cond t (length (counted_bytes a) + labels_decided_at p (c ∷ s)) (decided_at b a)) (sym e) ∙ t.1,
        )

    pub early_here : (k : ℕ) → LabelIsEarly b label len k → LabelsAreEarly (b ∷ p) (len ∷ tail) count k
    early_here k h = record { there = omega (arith, h.there, label_size); early = by }
      where
        cut_is : take (k + 1) (len ∷ tail) ≡ len ∷ take k tail
        cut_is = let n : k + 1 ≡ suc k = omega arith in ap (λ m. take m (len ∷ tail)) n

        by : (s : Path) (more rest : List ℕ) → length s ≡ count → flat_map counted_bytes s ++ more ≡ take (k + 1) (len ∷ tail) ++ rest → (is_lt (path_cmp (b ∷ p) s) ≡ false) × (labels_decided_at (b ∷ p) s ≡ k)
        by [] more rest many e = absurd (omega (arith, many, some))
        by (a ∷ s) more rest many e =
            let f = first_label a s more (take k tail ++ rest) (e ∙ ap (λ l. l ++ rest) cut_is) in
            let size : length (take k tail) ≡ k = length-take-le k tail (omega (arith, h.there, label_size)) in
            let same : take k (take k tail ++ rest) ≡ take k tail = take_at (take k tail) rest k size in
            let front = begins a (flat_map counted_bytes s ++ more) (take k tail ++ rest) k f.0 f.1 same h.there in
            let t = h.early a (drop k a) f.0 front in
            let apart : 2 ≤ count → a ≡ b → ⊥ = λ two one.
            (let at : k ≡ len = sym t.1 ∙ ap (decided_at b) one ∙ own_decided b ∙ ap length (sym one) ∙ f.0 in
            not_same a (drop k a) two f.0 (omega (arith, at, h.there)) (front ∙ ap (λ n. take n label ++ drop k a) at) one) in
            settled_early a s k apart many t

    -- it decides, and to come after
    settled_later : (a : Label) (s : Path) (n : ℕ) → (2 ≤ count → a ≡ b → labels_decided_at (b ∷ p) (a ∷ s) < n → ⊥) → length (a ∷ s) ≡ count → (decided_at b a < n → comes_after (Some b) a ≡ true) → labels_decided_at (b ∷ p) (a ∷ s) < n → is_lt (path_cmp (b ∷ p) (a ∷ s)) ≡ true
    settled_later a [] n apart many t lt = then_less (text_cmp b a) (path_cmp p []) (t lt)
    settled_later a (c ∷ s) n apart many t lt = other (label_eq b a) refl
      where
        two : 2 ≤ count
        two = omega (arith, many)

        other : (e : Bool) → e ≡ label_eq b a → is_lt (path_cmp (b ∷ p) (a ∷ c ∷ s)) ≡ true
        other true e = absurd (apart two (sym (text_eq-same b a (sym e))) lt)
        other false e =
            let at : labels_decided_at (b ∷ p) (a ∷ c ∷ s) ≡ decided_at b a = ap (λ t. cond t (length (counted_bytes a) + labels_decided_at p (c ∷ s)) (decided_at b a)) (sym e) in
            then_less (text_cmp b a) (path_cmp p (c ∷ s)) (t (subst (λ m. m < n) at lt))

    -- a label that is the same decides after it
    after_same : (a : Label) (s : Path) → 2 ≤ length (a ∷ s) → a ≡ b → length (counted_bytes a) ≤ labels_decided_at (b ∷ p) (a ∷ s)
    after_same a [] two one = absurd (omega (arith, two))
    after_same a (c ∷ s) two one =
        let same : label_eq b a ≡ true = ap (label_eq b) one ∙ nat_list_eq_equiv.refl b in
        let at : labels_decided_at (b ∷ p) (a ∷ c ∷ s) ≡ length (counted_bytes a) + labels_decided_at p (c ∷ s) = ap (λ t. cond t (length (counted_bytes a) + labels_decided_at p (c ∷ s)) (decided_at b a)) same in
        subst (λ n. length (counted_bytes a) ≤ n) (sym at) (omega arith)

    pub may_here : LabelMayFollow b label len → LabelsMayFollow (b ∷ p) (len ∷ tail) count
    may_here h = by
      where
        by : LabelsMayFollow (b ∷ p) (len ∷ tail) count
        by [] more rest many e lt = absurd (omega (arith, many, some))
        by (a ∷ s) more rest many e lt =
            let k = length label in
            let f = first_label a s more (tail ++ rest) e in
            let same : take k (tail ++ rest) ≡ take k tail = take-append-le k tail rest (omega (arith, label_size)) in
            let front = begins a (flat_map counted_bytes s ++ more) (tail ++ rest) k f.0 f.1 same (omega arith) in
            let all : take k label ≡ label = take_all k label (omega arith) in
            let least : decided_at b a ≤ length a = omega arith in
            let later : decided_at b a < length (len ∷ tail) → comes_after (Some b) a ≡ true = λ less. h a (drop k a) f.0 (front ∙ ap (λ l. l ++ drop k a) all) (omega (arith, less, least, f.0, label_size)) in
            let apart : 2 ≤ count → a ≡ b → labels_decided_at (b ∷ p) (a ∷ s) < length (len ∷ tail) → ⊥ = λ two one less.
            (let after = after_same a s (omega (arith, two, many)) one in
            let whole : length label ≡ len = omega (arith, after, less, f.0, label_size) in
            not_same a (drop k a) two f.0 (omega (arith, whole)) (front ∙ ap (λ n. take n label ++ drop k a) whole) one) in
            settled_later a s (length (len ∷ tail)) apart many later lt

-- ---- labels, where there is nothing to compare

-- no byte is there
pub may_unbegun : (p : Path) (count : ℕ) → LabelsMayFollow p [] count
may_unbegun p count = λ s more rest many e lt. absurd (omega (arith, lt))

-- there are no others
pub may_longer : (begun : List ℕ) (count : ℕ) → 1 ≤ count → LabelsMayFollow [] begun count
may_longer begun count some = by
  where
    by : LabelsMayFollow [] begun count
    by [] more rest many e lt = absurd (omega (arith, many, some))
    by (a ∷ s) more rest many e lt = refl

-- labels of no bytes are none
pub no_labels : (p : Path) → flat_map counted_bytes p ≡ [] → p ≡ []
no_labels [] e = refl
no_labels (b ∷ p) e = let none : length (flat_map counted_bytes (b ∷ p)) ≡ 0 = ap length e in absurd (omega (arith, none))

-- ---- the first label of both

-- the first of some labels, and the others
pub record FirstOf (p : Path) (there beyond : List ℕ) : Type 0 where
  pub others : Path
  pub is : p ≡ there ∷ others
  pub after : beyond ≡ flat_map counted_bytes others

pub first_of : (p : Path) (elder there beyond : List ℕ) → elder ≡ flat_map counted_bytes p → 0 < length elder → there ≡ take (get_or elder 0 0) (drop 1 elder) → beyond ≡ drop (get_or elder 0 0) (drop 1 elder) → FirstOf p there beyond
first_of [] elder there beyond e some t d = absurd (omega (arith, some, ap length e))
first_of (b ∷ p) elder there beyond e some t d =
    let head : get_or elder 0 0 ≡ length b = ap (λ l. get_or l 0 0) e in
    let tail : drop 1 elder ≡ b ++ flat_map counted_bytes p = ap (drop 1) e in
    let label : there ≡ b = t ∙ ap (λ n. take n (drop 1 elder)) head ∙ ap (take (length b)) tail ∙ take_at b (flat_map counted_bytes p) (length b) refl in
    record {
      others = p;
      is = ap (λ a. a ∷ p) (sym label);
      after = d ∙ ap (λ n. drop n (drop 1 elder)) head ∙ ap (drop (length b)) tail ∙ drop_at b (flat_map counted_bytes p) (length b) refl;
    }

module _ (p : Path) (begun there beyond label behind : List ℕ) (len m count : ℕ) (first : FirstOf p there beyond) (all : begun ≡ len ∷ drop 1 begun) (least : m ≡ min len (length (drop 1 begun))) (taken : label ≡ take m (drop 1 begun)) (left : behind ≡ drop m (drop 1 begun)) where
  whole_early : (k : ℕ) → LabelsAreEarly (there ∷ first.others) (len ∷ drop 1 begun) count k → LabelsAreEarly p begun count k
  whole_early k h = subst (λ (s : Path). LabelsAreEarly s begun count k) (sym first.is) (subst (λ l. LabelsAreEarly (there ∷ first.others) l count k) (sym all) h)

  whole_follows : LabelsMayFollow (there ∷ first.others) (len ∷ drop 1 begun) count → LabelsMayFollow p begun count
  whole_follows h = subst (λ (s : Path). LabelsMayFollow s begun count) (sym first.is) (subst (λ l. LabelsMayFollow (there ∷ first.others) l count) (sym all) h)

  module _ (two : 2 ≤ count) (size : length label ≡ len) (same : label ≡ there) where
    tail_is : drop 1 begun ≡ there ++ behind
    tail_is = sym (take-append-drop m (drop 1 begun)) ∙ ap (λ l. l ++ drop m (drop 1 begun)) (sym taken ∙ same) ∙ ap (λ l. there ++ l) (sym left)

    there_size : length there ≡ len
    there_size = ap length (sym same) ∙ size

    -- the labels after the first are early
    pub others_early : (k : ℕ) → LabelsAreEarly first.others behind (count - 1) k → LabelsAreEarly p begun count (1 + len + k)
    others_early k h = whole_early (1 + len + k) (early_after there first.others len (drop 1 begun) count behind tail_is there_size two k h)

    -- or they may follow
    pub others_follow : LabelsMayFollow first.others behind (count - 1) → LabelsMayFollow p begun count
    others_follow h = whole_follows (may_after there first.others len (drop 1 begun) count behind tail_is there_size two h)

  module _ (some : 1 ≤ count) (differs : 2 ≤ count → length label ≡ len → label ≡ there → ⊥) where
    label_is : label ≡ take (min len (length (drop 1 begun))) (drop 1 begun)
    label_is = taken ∙ ap (λ n. take n (drop 1 begun)) least

    -- the first is early
    pub first_early : (k : ℕ) → LabelIsEarly there label len k → LabelsAreEarly p begun count k
    first_early k h = whole_early k (early_here there first.others len (drop 1 begun) count label label_is some differs k h)

    -- or it may follow
    pub first_follows : LabelMayFollow there label len → LabelsMayFollow p begun count
    first_follows h = whole_follows (may_here there first.others len (drop 1 begun) count label label_is some differs h)

-- ---- as the code takes them apart

-- the first of some labels is within their bytes
pub first_within : (elder : List ℕ) → 0 < length elder → AreCounted elder → get_or elder 0 0 ≤ length (take (length elder - 1) (drop 1 elder))
first_within elder some ([], e) = absurd (omega (arith, some, ap length e))
first_within elder some (b ∷ p, e) =
    let head : get_or elder 0 0 ≡ length b = ap (λ l. get_or l 0 0) e in
    let size : length elder ≡ suc (length b + length (flat_map counted_bytes p)) = ap length e ∙ ap suc (length-append b (flat_map counted_bytes p)) in
    let rest : length (take (length elder - 1) (drop 1 elder)) ≡ length (drop 1 elder) = ap length (take_rest elder 1) in
    omega (arith, head, size, rest, length-drop 1 elder)

module _ (elder begun there beyond label behind : List ℕ) (m count : ℕ) (elder_some : 0 < length elder) (begun_some : 0 < length begun)
    (t : there ≡ take (get_or elder 0 0) (take (length elder - 1) (drop 1 elder))) (d : beyond ≡ drop (get_or elder 0 0) (take (length elder - 1) (drop 1 elder)))
    (least : m ≡ min (get_or begun 0 0) (length begun - 1)) (l : label ≡ take m (take (length begun - 1) (drop 1 begun))) (b : behind ≡ drop m (take (length begun - 1) (drop 1 begun))) where
  first_step : (p : Path) → elder ≡ flat_map counted_bytes p → FirstOf p there beyond
  first_step p e =
      first_of p elder there beyond e elder_some (t ∙ ap (take (get_or elder 0 0)) (take_rest elder 1)) (d ∙ ap (drop (get_or elder 0 0)) (take_rest elder 1))

  pub step_counted : AreCounted elder → AreCounted beyond
  step_counted z = let f = first_step z.0 z.1 in (f.others, f.after)

  step_least : m ≡ min (get_or begun 0 0) (length (drop 1 begun))
  step_least = least ∙ ap (min (get_or begun 0 0)) (sym (length-drop 1 begun))

  step_label : label ≡ take m (drop 1 begun)
  step_label = l ∙ ap (take m) (take_rest begun 1)

  step_behind : behind ≡ drop m (drop 1 begun)
  step_behind = b ∙ ap (drop m) (take_rest begun 1)

  module _ (p : Path) (e : elder ≡ flat_map counted_bytes p) where
    pub step_others_early : 2 ≤ count → length label ≡ get_or begun 0 0 → label ≡ there → (k : ℕ) → ((s : Path) → beyond ≡ flat_map counted_bytes s → LabelsAreEarly s behind (count - 1) k) → LabelsAreEarly p begun count (1 + get_or begun 0 0 + k)
    step_others_early two size same k h =
        let f = first_step p e in
        others_early p begun there beyond label behind (get_or begun 0 0) m count f (headed begun begun_some) step_least step_label step_behind two size same k (h f.others f.after)

    pub step_others_follow : 2 ≤ count → length label ≡ get_or begun 0 0 → label ≡ there → ((s : Path) → beyond ≡ flat_map counted_bytes s → LabelsMayFollow s behind (count - 1)) → LabelsMayFollow p begun count
    step_others_follow two size same h =
        let f = first_step p e in
        others_follow p begun there beyond label behind (get_or begun 0 0) m count f (headed begun begun_some) step_least step_label step_behind two size same (h f.others f.after)

    module _ (some : 1 ≤ count) (differs : 2 ≤ count → length label ≡ get_or begun 0 0 → label ≡ there → ⊥) where
      pub step_first_early : (k : ℕ) → LabelIsEarly there label (get_or begun 0 0) k → LabelsAreEarly p begun count k
      step_first_early k h = first_early p begun there beyond label behind (get_or begun 0 0) m count (first_step p e) (headed begun begun_some) step_least step_label step_behind some differs k h

      pub step_first_follows : LabelMayFollow there label (get_or begun 0 0) → LabelsMayFollow p begun count
      step_first_follows h = first_follows p begun there beyond label behind (get_or begun 0 0) m count (first_step p e) (headed begun begun_some) step_least step_label step_behind some differs h

-- the same bytes are equal
pub not_other : (a b : List ℕ) → text_eq a b ≡ false → a ≡ b → ⊥
not_other a b h e = let both : false ≡ true = sym h ∙ ap (text_eq a) (sym e) ∙ nat_list_eq_equiv.refl a in absurd (cc)

-- ---- a path

-- the number of labels is 0
pub early_root : (p : Path) (tail : List ℕ) → PathIsEarly p (0 ∷ tail) 0
early_root p tail = record { there = omega arith; early = by }
  where
    by : (s : Path) (more rest : List ℕ) → path_bytes s ++ more ≡ take (0 + 1) (0 ∷ tail) ++ rest → (is_lt (path_cmp p s) ≡ false) × (path_decided_at p s ≡ 0)
    by [] more rest e = (none_above p, refl)
    by (a ∷ s) more rest e = let many : length (a ∷ s) ≡ 0 = ap (λ l. get_or l 0 0) e in absurd (omega (arith, many))

module _ (p : Path) (n : ℕ) (tail : List ℕ) (some : 1 ≤ n) where
  pub early_labels : (k : ℕ) → LabelsAreEarly p tail n k → PathIsEarly p (n ∷ tail) (1 + k)
  early_labels k h = record { there = omega (arith, h.there); early = by }
    where
      cut_is : take (1 + k + 1) (n ∷ tail) ≡ n ∷ take (k + 1) tail
      cut_is = let m : 1 + k + 1 ≡ suc (k + 1) = omega arith in ap (λ j. take j (n ∷ tail)) m

      by : (s : Path) (more rest : List ℕ) → path_bytes s ++ more ≡ take (1 + k + 1) (n ∷ tail) ++ rest → (is_lt (path_cmp p s) ≡ false) × (path_decided_at p s ≡ 1 + k)
      by [] more rest e =
          let all : path_bytes [] ++ more ≡ n ∷ (take (k + 1) tail ++ rest) = e ∙ ap (λ l. l ++ rest) cut_is in
          let many : 0 ≡ n = ap (λ l. get_or l 0 0) all in
          absurd (omega (arith, many, some))
      by (a ∷ s) more rest e =
          let all : path_bytes (a ∷ s) ++ more ≡ n ∷ (take (k + 1) tail ++ rest) = e ∙ ap (λ l. l ++ rest) cut_is in
          let t = h.early (a ∷ s) more rest (ap (λ l. get_or l 0 0) all) (ap (drop 1) all) in
          (t.0, ap (λ j. 1 + j) t.1)

  pub may_labels : LabelsMayFollow p tail n → PathMayFollow p (n ∷ tail)
  may_labels h = by
    where
      by : PathMayFollow p (n ∷ tail)
      by [] more rest e lt = let many : 0 ≡ n = ap (λ l. get_or l 0 0) e in absurd (omega (arith, many, some))
      by (a ∷ s) more rest e lt = h (a ∷ s) more rest (ap (λ l. get_or l 0 0) e) (ap (drop 1) e) (omega (arith, lt))

pub root_is_early : (p : Path) (begun : List ℕ) → 0 < length begun → get_or begun 0 0 ≡ 0 → PathIsEarly p begun 0
root_is_early p begun some none = subst (λ l. PathIsEarly p l 0) (sym (headed begun some ∙ ap (λ n. n ∷ drop 1 begun) none)) (early_root p (drop 1 begun))

pub labels_are_early : (p : Path) (begun : List ℕ) → 0 < length begun → 1 ≤ get_or begun 0 0 → (k : ℕ) → LabelsAreEarly p (take (length begun - 1) (drop 1 begun)) (get_or begun 0 0) k → PathIsEarly p begun (1 + k)
labels_are_early p begun some many k h =
    subst (λ l. PathIsEarly p l (1 + k)) (sym (headed begun some))
    (early_labels p (get_or begun 0 0) (drop 1 begun) many k (subst (λ l. LabelsAreEarly p l (get_or begun 0 0) k) (take_rest begun 1) h))

pub labels_may_follow : (p : Path) (begun : List ℕ) → 0 < length begun → 1 ≤ get_or begun 0 0 → LabelsMayFollow p (take (length begun - 1) (drop 1 begun)) (get_or begun 0 0) → PathMayFollow p begun
labels_may_follow p begun some many h =
    subst (λ l. PathMayFollow p l) (sym (headed begun some))
    (may_labels p (get_or begun 0 0) (drop 1 begun) many (subst (λ l. LabelsMayFollow p l (get_or begun 0 0)) (take_rest begun 1) h))

pub may_no_path : (p : Path) → PathMayFollow p []
may_no_path p = λ s more rest e lt. absurd (omega (arith, lt))
