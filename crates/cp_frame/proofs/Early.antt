-- Where a label is seen not to come after another: at the first byte in which they differ, or at its last.
use Rattle.std.proofs.Common.{◌≡◌, ℕ, suc, ◌+◌, ◌-◌, ◌<◌, ◌≤◌, ◌⊎◌, inl, inr, Bool, true, false, cond, List, [], ◌∷◌, ◌++◌, refl, sym, ap, ◌∙◌, subst, append_assoc, append-nil, length, length-append, take, drop, min, get_or, nat_eq, arith}
use Rattle.std.specs.Prelude.{IfSome, ⊤}
use Rattle.std.specs.List.{common_prefix_len}
use Rattle.std.specs.Cmp.{nat_cmp_is}
use Rattle.std.specs.Ordering.{is_lt, ordering_then}
use Rattle.std.specs.declared.cmp.Ordering.TheVariants.{Less, Equal, Greater}
use Rattle.std.specs.declared.option.Option.{Option}
use Rattle.std.specs.declared.option.Option.TheVariants.{None, Some}
use Rattle.std.proofs.lemmas.Bool.{cases_lt}
use Rattle.std.proofs.lemmas.Bool.Decides.{nat_tests}
use Rattle.std.proofs.lemmas.List.{length-drop, length-take-le, take_all}
use Rattle.std.proofs.lemmas.List.Sums.{common_prefix_len-drop_no, common_prefix_len-drop_yes}
use Rattle.std.proofs.Math.Seq.{get_or-append_seam, take-append-add}
use Rattle.cp_path.specs.Encoding.{counted_bytes}
use Rattle.cp_path.specs.Text.{text_cmp}
use Rattle.cp_format.specs.Judging.{IsRefused, MayPass}
use Rattle.cp_format.specs.Parts.{label_format}
use Rattle.cp_frame.specs.OrderReading.{LabelIsEarly, LabelMayFollow}
use Rattle.cp_frame.specs.Trees.{comes_after, decided_at}

-- ---- texts with the same front

-- how many bytes the two have in common at their front
abbrev pub common : List ℕ → List ℕ → ℕ
common = common_prefix_len nat_eq

pub no_bytes : (l : List ℕ) → length l ≡ 0 → l ≡ []
no_bytes [] e = refl
no_bytes (x ∷ l) e = absurd (omega (arith, e))

itself : (x : ℕ) → nat_eq x x ≡ true
itself x = grind arith

-- texts with the same front compare as what follows it
pub cmp_front : (f l r : List ℕ) → text_cmp (f ++ l) (f ++ r) ≡ text_cmp l r
cmp_front [] l r = refl
cmp_front (x ∷ f) l r = ap (λ o. ordering_then o (text_cmp (f ++ l) (f ++ r))) (sym (nat_cmp_is x x Equal refl)) ∙ cmp_front f l r

pub cmp_less : (x y : ℕ) (l r : List ℕ) → x < y → text_cmp (x ∷ l) (y ∷ r) ≡ Less
cmp_less x y l r lt = ap (λ o. ordering_then o (text_cmp l r)) (sym (nat_cmp_is x y Less lt))

pub cmp_greater : (x y : ℕ) (l r : List ℕ) → y < x → text_cmp (x ∷ l) (y ∷ r) ≡ Greater
cmp_greater x y l r lt = ap (λ o. ordering_then o (text_cmp l r)) (sym (nat_cmp_is x y Greater lt))

-- nothing comes before the empty text
pub none_less : (l : List ℕ) → is_lt (text_cmp l []) ≡ false
none_less [] = refl
none_less (x ∷ l) = refl

pub common_front : (f l r : List ℕ) → common (f ++ l) (f ++ r) ≡ length f + common l r
common_front [] l r = omega arith
common_front (x ∷ f) l r =
    let step : 1 + common (f ++ l) (f ++ r) ≡ length (x ∷ f) + common l r = omega (arith, common_front f l r) in
    ap (λ b. cond b (1 + common (f ++ l) (f ++ r)) 0) (itself x) ∙ step

pub common_no : (x y : ℕ) (l r : List ℕ) → nat_eq x y ≡ false → common (x ∷ l) (y ∷ r) ≡ 0
common_no x y l r h = ap (λ b. cond b (1 + common l r) 0) h

common_end : (l : List ℕ) → common l [] ≡ 0
common_end [] = refl
common_end (x ∷ l) = refl

-- ---- counting what they have in common

module _ (xs ys : List ℕ) (k : ℕ) (so_far : common xs ys ≡ k + common (drop k xs) (drop k ys)) where
  -- one byte more is the same
  pub count_more : k < length xs → k < length ys → get_or xs k 0 ≡ get_or ys k 0 → common xs ys ≡ (k + 1) + common (drop (k + 1) xs) (drop (k + 1) ys)
  count_more a b e =
      let same : nat_eq (get_or xs k 0) (get_or ys k 0) ≡ true = grind (arith, nat_tests) in
      omega (arith, so_far, common_prefix_len-drop_yes nat_eq xs ys k 0 0 a b same)

  -- the next differs
  pub count_differs : k < length xs → k < length ys → nat_eq (get_or xs k 0) (get_or ys k 0) ≡ false → common xs ys ≡ k
  count_differs a b other = omega (arith, so_far, common_prefix_len-drop_no nat_eq xs ys k 0 0 a b other)

  -- one of the two ends
  pub count_ended : (length xs ≤ k) ⊎ (length ys ≤ k) → common xs ys ≡ k
  count_ended (inl le) = let none = no_bytes (drop k xs) (omega (arith, length-drop k xs, le)) in omega (arith, so_far, ap (λ l. common l (drop k ys)) none)
  count_ended (inr le) = let none = no_bytes (drop k ys) (omega (arith, length-drop k ys, le)) in omega (arith, so_far, ap (common (drop k xs)) none, common_end (drop k xs))

-- what decides is the length of a label or one of its bytes
pub decided_within : (b a : List ℕ) → decided_at b a ≤ length a
decided_within b a = omega arith

-- ---- two texts, apart from where they differ

-- their first bytes differ, if both have one
abbrev pub Differ : List ℕ → List ℕ → Type 0
Differ [] r = ⊤
Differ (x ∷ l) [] = ⊤
Differ (x ∷ l) (y ∷ r) = nat_eq x y ≡ false

-- what two texts have in common, and what follows it in each
pub record Parted (e b : List ℕ) : Type 0 where
  pub front : List ℕ
  pub left : List ℕ
  pub right : List ℕ
  pub elder : e ≡ front ++ left
  pub begun : b ≡ front ++ right
  pub same : common e b ≡ length front
  pub differ : Differ left right

parted_more : (x y : ℕ) (e b : List ℕ) (t : Bool) → t ≡ nat_eq x y → Parted e b → Parted (x ∷ e) (y ∷ b)
parted_more x y e b true h p =
    let one : x ≡ y = grind (arith, nat_tests) in
    let step : 1 + common e b ≡ length (x ∷ p.front) = omega (arith, p.same) in
    record {
      front = x ∷ p.front;
      left = p.left;
      right = p.right;
      elder = ap (λ l. x ∷ l) p.elder;
      begun = ap (λ l. y ∷ l) p.begun ∙ ap (λ z. z ∷ (p.front ++ p.right)) (sym one);
      same = ap (λ t. cond t (1 + common e b) 0) (sym h) ∙ step;
      differ = p.differ;
    }
parted_more x y e b false h p = record {
  front = [];
  left = x ∷ e;
  right = y ∷ b;
  elder = refl;
  begun = refl;
  same = ap (λ t. cond t (1 + common e b) 0) (sym h);
  differ = sym h;
}

pub parted : (e b : List ℕ) → Parted e b
parted [] b = record { front = []; left = []; right = b; elder = refl; begun = refl; same = refl; differ = tt }
parted (x ∷ e) [] = record { front = []; left = x ∷ e; right = []; elder = refl; begun = refl; same = refl; differ = tt }
parted (x ∷ e) (y ∷ b) = parted_more x y e b (nat_eq x y) refl (parted e b)

module _ (e b : List ℕ) (p : Parted e b) where
  pub begun_size : length b ≡ length p.front + length p.right
  begun_size = ap length p.begun ∙ length-append p.front p.right

  pub elder_size : length e ≡ length p.front + length p.left
  elder_size = ap length p.elder ∙ length-append p.front p.left

-- the byte that stands after a front
pub byte_at : (front l : List ℕ) (x : ℕ) (w : List ℕ) → w ≡ front ++ x ∷ l → get_or w (length front) 0 ≡ x
byte_at front l x w e = ap (λ u. get_or u (length front) 0) e ∙ get_or-append_seam front x l 0

-- ---- a label that begins so

module _ (e b : List ℕ) (count : ℕ) where
  -- the label is all there, and the other begins with it
  pub early_whole : (p : Parted e b) → length p.front ≡ length b → length p.front ≡ count → LabelIsEarly e b count count
  early_whole p all whole =
      let right : p.right ≡ [] = no_bytes p.right (omega (arith, begun_size e b p, all)) in
      record {
        there = omega (arith, all, whole);
        early = λ a rest size is.
            let taken : length (take count b) ≡ count = length-take-le count b (omega (arith, all, whole)) in
            let none : rest ≡ [] = no_bytes rest (omega (arith, size, taken, ap length is, length-append (take count b) rest)) in
            let is_begun : a ≡ b = is ∙ ap (λ l. take count b ++ l) none ∙ append-nil (take count b) ∙ take_all count b (omega (arith, all, whole)) in
            let is_front : a ≡ p.front ++ [] = is_begun ∙ p.begun ∙ ap (λ l. p.front ++ l) right in
            let cmp : text_cmp e a ≡ text_cmp p.left [] = ap (text_cmp e) is_front ∙ ap (λ l. text_cmp l (p.front ++ [])) p.elder ∙ cmp_front p.front p.left [] in
            let same : common e a ≡ length p.front + 0 = ap (common e) is_front ∙ ap (λ l. common l (p.front ++ [])) p.elder ∙ common_front p.front p.left [] ∙ ap (λ n. length p.front + n) (common_end p.left) in
            let least : min (length p.front + 0 + 1) (length a) ≡ count = omega (arith, size, whole) in
            (ap is_lt cmp ∙ none_less p.left, ap (λ n. min (n + 1) (length a)) same ∙ least);
      }

  -- the other begins with what is there, and it isn't all
  pub may_follow_begun : (p : Parted e b) → length p.front ≡ length b → (length p.front ≡ count → ⊥) → LabelMayFollow e b count
  may_follow_begun p all more = λ a rest size is at.
      let long : length a ≡ length b + length rest = ap length is ∙ length-append b rest in
      let is_front : a ≡ p.front ++ (p.right ++ rest) = is ∙ ap (λ l. l ++ rest) p.begun ∙ append_assoc p.front p.right rest in
      let same : common e a ≡ length p.front + common p.left (p.right ++ rest) = ap (common e) is_front ∙ ap (λ l. common l (p.front ++ (p.right ++ rest))) p.elder ∙ common_front p.front p.left (p.right ++ rest) in
      let least : min (length p.front + common p.left (p.right ++ rest) + 1) (length a) ≤ length b = subst (λ n. min (n + 1) (length a) ≤ length b) same at in
      elim (cases_lt (length b) count) [
        | inl lt ↦ absurd (omega (arith, least, lt, size, all))
        | inr le ↦ absurd (more (omega (arith, le, size, long, all)))
      ]

  module _ (front l r : List ℕ) (x y : ℕ) (elder : e ≡ front ++ x ∷ l) (begun : b ≡ front ++ y ∷ r) where
    -- a byte is less than that of the other
    pub early_byte : y < x → LabelIsEarly e b count (length front + 1)
    early_byte lt =
        let cut : take (length front + 1) b ≡ front ++ y ∷ [] = ap (take (length front + 1)) begun ∙ take-append-add front (y ∷ r) 1 in
        let other : nat_eq x y ≡ false = grind (arith, nat_tests) in
        record {
          there = omega (arith, ap length begun, length-append front (y ∷ r));
          early = λ a rest size is.
              let is_front : a ≡ front ++ y ∷ rest = is ∙ ap (λ w. w ++ rest) cut ∙ append_assoc front (y ∷ []) rest in
              let cmp : text_cmp e a ≡ Greater = ap (text_cmp e) is_front ∙ ap (λ w. text_cmp w (front ++ y ∷ rest)) elder ∙ cmp_front front (x ∷ l) (y ∷ rest) ∙ cmp_greater x y l rest lt in
              let same : common e a ≡ length front + 0 = ap (common e) is_front ∙ ap (λ w. common w (front ++ y ∷ rest)) elder ∙ common_front front (x ∷ l) (y ∷ rest) ∙ ap (λ n. length front + n) (common_no x y l rest other) in
              let long : length a ≡ length front + suc (length rest) = ap length is_front ∙ length-append front (y ∷ rest) in
              let least : min (length front + 0 + 1) (length a) ≡ length front + 1 = omega (arith, long) in
              (ap is_lt cmp, ap (λ n. min (n + 1) (length a)) same ∙ least);
        }

    -- a byte is greater than that of the other
    pub later_byte : x < y → LabelMayFollow e b count
    later_byte lt = λ a rest size is at.
        let is_front : a ≡ front ++ y ∷ (r ++ rest) = is ∙ ap (λ w. w ++ rest) begun ∙ append_assoc front (y ∷ r) rest in
        let cmp : text_cmp e a ≡ Less = ap (text_cmp e) is_front ∙ ap (λ w. text_cmp w (front ++ y ∷ (r ++ rest))) elder ∙ cmp_front front (x ∷ l) (y ∷ (r ++ rest)) ∙ cmp_less x y l (r ++ rest) lt in
        ap is_lt cmp

  -- it goes on after the end of the other
  pub later_longer : (front r : List ℕ) (y : ℕ) → e ≡ front ++ [] → b ≡ front ++ y ∷ r → LabelMayFollow e b count
  later_longer front r y elder begun = λ a rest size is at.
      let is_front : a ≡ front ++ y ∷ (r ++ rest) = is ∙ ap (λ w. w ++ rest) begun ∙ append_assoc front (y ∷ r) rest in
      let cmp : text_cmp e a ≡ Less = ap (text_cmp e) is_front ∙ ap (λ w. text_cmp w (front ++ y ∷ (r ++ rest))) elder ∙ cmp_front front [] (y ∷ (r ++ rest)) in
      ap is_lt cmp

  module _ (p : Parted e b) (more : length p.front ≡ length b → ⊥) where
    -- the other ends where they differ, or its byte there is less
    pub may_follow : (length p.front ≡ length e) ⊎ (get_or e (length p.front) 0 < get_or b (length p.front) 0) → LabelMayFollow e b count
    may_follow h = by p.left p.right p.elder p.begun h
      where
        by : (left right : List ℕ) → e ≡ p.front ++ left → b ≡ p.front ++ right → (length p.front ≡ length e) ⊎ (get_or e (length p.front) 0 < get_or b (length p.front) 0) → LabelMayFollow e b count
        by left [] elder begun h = absurd (more (omega (arith, ap length begun, length-append p.front [])))
        by [] (y ∷ r) elder begun h = later_longer p.front r y elder begun
        by (x ∷ l) (y ∷ r) elder begun (inl end) = absurd (omega (arith, end, ap length elder, length-append p.front (x ∷ l)))
        by (x ∷ l) (y ∷ r) elder begun (inr lt) = later_byte p.front l r x y elder begun (omega (arith, lt, byte_at p.front l x e elder, byte_at p.front r y b begun))

    -- the other doesn't end there, and its byte isn't less
    pub early_there : (length p.front ≡ length e → ⊥) → get_or b (length p.front) 0 ≤ get_or e (length p.front) 0 → LabelIsEarly e b count (length p.front + 1)
    early_there some le = by p.left p.right p.elder p.begun p.differ
      where
        by : (left right : List ℕ) → e ≡ p.front ++ left → b ≡ p.front ++ right → Differ left right → LabelIsEarly e b count (length p.front + 1)
        by left [] elder begun d = absurd (more (omega (arith, ap length begun, length-append p.front [])))
        by [] (y ∷ r) elder begun d = absurd (some (omega (arith, ap length elder, length-append p.front [])))
        by (x ∷ l) (y ∷ r) elder begun d =
            let least : y ≤ x = omega (arith, le, byte_at p.front l x e elder, byte_at p.front r y b begun) in
            let lt : y < x = grind (arith, nat_tests) in
            early_byte p.front l r x y elder begun lt

-- ---- by how much they have in common

module _ (e b : List ℕ) (count n : ℕ) (is : n ≡ common e b) where
  front_size : length (parted e b).front ≡ n
  front_size = sym (parted e b).same ∙ sym is

  -- the label is all there
  pub whole_early : n ≡ length b → n ≡ count → LabelIsEarly e b count count
  whole_early all whole = early_whole e b count (parted e b) (front_size ∙ all) (front_size ∙ whole)

  -- what is there is as in the other, and isn't all
  pub begun_follows : n ≡ length b → (n ≡ count → ⊥) → LabelMayFollow e b count
  begun_follows all more = may_follow_begun e b count (parted e b) (front_size ∙ all) (λ z. more (sym front_size ∙ z))

  module _ (more : n ≡ length b → ⊥) where
    -- the other ends, or its next byte is less
    pub greater_follows : (n ≡ length e) ⊎ (get_or e n 0 < get_or b n 0) → LabelMayFollow e b count
    greater_follows h = may_follow e b count (parted e b) (λ z. more (sym front_size ∙ z)) (subst (λ m. (m ≡ length e) ⊎ (get_or e m 0 < get_or b m 0)) (sym front_size) h)

    -- it doesn't, and isn't
    pub lesser_early : (n ≡ length e → ⊥) → get_or b n 0 ≤ get_or e n 0 → LabelIsEarly e b count (n + 1)
    lesser_early some le =
        subst (λ m. LabelIsEarly e b count (m + 1)) front_size
        (early_there e b count (parted e b) (λ z. more (sym front_size ∙ z)) (λ z. some (sym front_size ∙ z)) (subst (λ m. get_or b m 0 ≤ get_or e m 0) (sym front_size) le))

-- ---- a label after its length

-- some bytes are the first and the others
pub headed : (l : List ℕ) → 0 < length l → l ≡ get_or l 0 0 ∷ drop 1 l
headed [] some = absurd (omega (arith, some))
headed (x ∷ l) some = refl

-- bytes that aren't none, or are
pub some_bytes : (l : List ℕ) → nat_eq (length l) 0 ≡ false → 0 < length l
some_bytes [] h = let both : true ≡ false = h in absurd (cc)
some_bytes (x ∷ l) h = omega arith

pub none_there : (l : List ℕ) → nat_eq (length l) 0 ≡ true → l ≡ []
none_there [] h = refl
none_there (x ∷ l) h = let none : suc (length l) ≡ 0 = grind (arith, nat_tests) in absurd (omega (arith, none))

-- what holds of an answer makes another fact hold of it
pub some_by : {X : Type 0} {P Q : X → Type 0} (o : Option X) → ((x : X) → P x → Q x) → IfSome o P → IfSome o Q
some_by None f h = tt
some_by (Some x) f h = f x h

module _ (e tail : List ℕ) (n : ℕ) (most : ℕ) where
  pub spelled_early : (k : ℕ) → LabelIsEarly e tail n k → IsRefused (label_format most) (comes_after (Some e)) (decided_at e) (n ∷ tail) k
  spelled_early k h = record { there = omega (arith, h.there); refused = by }
    where
      cut : take (k + 1) (n ∷ tail) ≡ n ∷ take k tail
      cut = let m : k + 1 ≡ suc k = omega arith in ap (λ j. take j (n ∷ tail)) m

      by : (a rest : List ℕ) → (label_format most).fit a → counted_bytes a ≡ take (k + 1) (n ∷ tail) ++ rest → (comes_after (Some e) a ≡ false) × (decided_at e a ≡ k)
      by a rest f is =
          let all : counted_bytes a ≡ n ∷ (take k tail ++ rest) = is ∙ ap (λ l. l ++ rest) cut in
          h.early a rest (ap (λ l. get_or l 0 0) all) (ap (drop 1) all)

  pub spelled_follows : LabelMayFollow e tail n → MayPass (label_format most) (comes_after (Some e)) (decided_at e) (n ∷ tail)
  spelled_follows h = λ a rest f is lt. h a rest (ap (λ l. get_or l 0 0) is) (ap (drop 1) is) (omega (arith, lt))

rest_is : (x : ℕ) (t : List ℕ) → take (length (x ∷ t) - 1) (drop 1 (x ∷ t)) ≡ t
rest_is x t = take_all (length (x ∷ t) - 1) t (omega arith)

pub label_refused : (e begun : List ℕ) → 0 < length begun → (k : ℕ) → LabelIsEarly e (take (length begun - 1) (drop 1 begun)) (get_or begun 0 0) k → (most : ℕ) → IsRefused (label_format most) (comes_after (Some e)) (decided_at e) begun k
label_refused e [] some k h most = absurd (omega (arith, some))
label_refused e (x ∷ t) some k h most = spelled_early e t x most k (subst (λ l. LabelIsEarly e l x k) (rest_is x t) h)

pub label_follows : (e begun : List ℕ) → 0 < length begun → LabelMayFollow e (take (length begun - 1) (drop 1 begun)) (get_or begun 0 0) → (most : ℕ) → MayPass (label_format most) (comes_after (Some e)) (decided_at e) begun
label_follows e [] some h most = absurd (omega (arith, some))
label_follows e (x ∷ t) some h most = spelled_follows e t x most (subst (λ l. LabelMayFollow e l x) (rest_is x t) h)

pub unbegun_follows : (e : List ℕ) (most : ℕ) → MayPass (label_format most) (comes_after (Some e)) (decided_at e) []
unbegun_follows e most = λ a rest f is lt. absurd (omega (arith, lt))
