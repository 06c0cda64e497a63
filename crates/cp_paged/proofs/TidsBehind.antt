-- The Tid behind the key of a place.
use Rattle.std.proofs.Common.{arith, Bool, true, false, true≢false, not, ℕ, ◌+◌, ◌^◌, ◌<◌, ◌≤◌, ◌≡◌, ◌∙◌, ap, sym, refl, subst, List, [], ◌∷◌, ◌++◌, map, length, length-append, Option, Some, None}
use Rattle.std.specs.Prelude.{IfSome}
use Rattle.std.specs.Int.{from_be_bytes, to_be_bytes, w64}
use Rattle.std.specs.Cmp.Lexicographic.{bytes_decides}
use Rattle.std.proofs.lemmas.Nat.{from_be_bytes-to_be_bytes_8}
use Rattle.cp_path.specs.Text.{text_eq}
use Rattle.cp_path.specs.declared.loc.Loc.{Loc}
use Rattle.cp_model.specs.Place.{Path, at_target}
use Rattle.cp_model.specs.declared.kind.Kind.{Kind}
use Rattle.cp_model.specs.declared.record.Record.{Record}
use Rattle.cp_page.specs.Orders.{place_tid, by_place}
use Rattle.cp_page.specs.PlaceKeys.{place_key}
use Rattle.cp_page.specs.declared.row.PageRow.{PageRow}
use Rattle.cp_paged.specs.Held.{PagesHold}
use Rattle.cp_run.specs.Answers.{IsGreatest}
use Rattle.cp_paged.specs.Newest.{IsNewestRow}
use Rattle.cp_paged.specs.declared.places.PlaceRow.{PlaceRow}
use Rattle.cp_paged.proofs.Among.{IsTop, top-of}
use Rattle.cp_paged.proofs.ByPlace.{none-newest, other-newest, this-newest}

same_back : (a b c d : List ℕ) → length b ≡ length d → a ++ b ≡ c ++ d → (a ≡ c) × (b ≡ d)
same_back [] b [] d l e = (refl, e)
same_back [] b (y ∷ c) d l e = let k = ap length e ∙ length-append (y ∷ c) d in absurd (omega (arith, k, l))
same_back (x ∷ a) b [] d l e = let k = sym (length-append (x ∷ a) b) ∙ ap length e in absurd (omega (arith, k, l))
same_back (x ∷ a) b (y ∷ c) d l e =
    let head : x ≡ y = cc in
    let tail : a ++ b ≡ c ++ d = cc in
    let rest = same_back a b c d l tail in
    (ap (λ z. z ∷ a) head ∙ ap (λ z. y ∷ z) rest.0, rest.1)

key_size : (q : Loc) (t : ℕ) → length (place_tid q t) ≡ length (place_key q) + 8
key_size q t = length-append (place_key q) (to_be_bytes w64 t)

-- too few bytes are no such key
pub too-short : (key : List ℕ) → length key < 8 → (q : Loc) (t : ℕ) → key ≡ place_tid q t → ⊥
too-short key few q t e = let l = ap length e ∙ key_size q t in absurd (omega (arith, l, few))

-- the bytes before the last eight are the key of the place
front_is : (key front last : List ℕ) → key ≡ front ++ last → length last ≡ 8 → (q : Loc) (t : ℕ) → key ≡ place_tid q t → front ≡ place_key q
front_is key front last is eight q t e = (same_back front last (place_key q) (to_be_bytes w64 t) eight (sym is ∙ e)).0

module _ (row_key front last key place tail : List ℕ) (row_is : row_key ≡ front ++ last) (last_eight : length last ≡ 8) (key_is : key ≡ place ++ tail) (tail_eight : length tail ≡ 8) (q : Loc) (u : ℕ) (e : key ≡ place_tid q u) where
  pub tid-other : (front ≡ place → ⊥) → (t : ℕ) → t < 2 ^ 64 → row_key ≡ place_tid q t → ⊥
  tid-other off t small same = off (front_is row_key front last row_is last_eight q t same ∙ sym (front_is key place tail key_is tail_eight q u e))

  pub tid-here : front ≡ place → (t : ℕ) → to_be_bytes w64 t ≡ last → row_key ≡ place_tid q t
  tid-here same t number = row_is ∙ ap (λ l. l ++ last) (same ∙ front_is key place tail key_is tail_eight q u e) ∙ ap (λ l. place_key q ++ l) (sym number)

-- a key is of one Tid
pub one-tid : (key : List ℕ) (q : Loc) (t v : ℕ) → t < 2 ^ 64 → v < 2 ^ 64 → key ≡ place_tid q t → key ≡ place_tid q v → t ≡ v
one-tid key q t v a b e f =
    let same = (same_back (place_key q) (to_be_bytes w64 t) (place_key q) (to_be_bytes w64 v) refl (sym e ∙ f)).1 in
    sym (from_be_bytes-to_be_bytes_8 t a) ∙ ap (from_be_bytes w64) same ∙ from_be_bytes-to_be_bytes_8 v b

-- bytes that are tested for being others
pub differ : (a b : List ℕ) (n : Bool) → n ≡ not (text_eq a b) → n ≡ true → a ≡ b → ⊥
differ a b n is test same = true≢false (sym (sym is ∙ test) ∙ ap not ((bytes_decides a b).1 same))

pub alike : (a b : List ℕ) (n : Bool) → n ≡ not (text_eq a b) → n ≡ false → a ≡ b
alike a b n is test = (bytes_decides a b).0 (by_not (text_eq a b) (sym is ∙ test))
  where
    by_not : (c : Bool) → not c ≡ false → c ≡ true
    by_not true h = refl
    by_not false h = absurd (cc)

-- ---- the newest row

module _ (k : Kind) (upto : ℕ) (stored : ℕ → List PageRow) (rs : List Record) (hold : PagesHold k upto stored rs) (p : Path) (t : ℕ) (fits : t < 2 ^ 64) where
  top : (found : Option PageRow) → IsGreatest (place_tid (at_target p) t) (stored 0) found → IsTop (place_tid (at_target p) t) (map by_place rs) found
  top found g = top-of (place_tid (at_target p) t) (stored 0) (map by_place rs) found (hold.each 0 (omega arith)) g

  some_none : (d : PlaceRow) → None ≡ Some d.row → ⊥
  some_none d e = cc

  some_same : (f : PageRow) (d : PlaceRow) → Some f ≡ Some d.row → f ≡ d.row
  some_same f d e = cc

  -- what is taken of the row that is found is the newest row
  pub newest-found : (key : List ℕ) → key ≡ place_tid (at_target p) t → (found : Option PageRow) → IsGreatest key (stored 0) found → (o : Option PlaceRow)
      → IfSome o (λ d. (found ≡ Some d.row) × (d.tid < 2 ^ 64) × (d.row.key ≡ place_tid (at_target p) d.tid))
      → (o ≡ None → IfSome found (λ r. (v : ℕ) → v < 2 ^ 64 → v ≤ t → r.key ≡ place_tid (at_target p) v → ⊥)) → IsNewestRow rs p t o
  unfolding IsNewestRow
  newest-found key is None g None taken left = none-newest k upto rs hold.held p t fits (top None (subst (λ x. IsGreatest x (stored 0) None) is g))
  newest-found key is None g (Some d) taken left = absurd (some_none d taken.0)
  newest-found key is (Some f) g None taken left =
      let h = top (Some f) (subst (λ x. IsGreatest x (stored 0) (Some f)) is g) in
      other-newest k upto rs hold.held p t fits f h (λ u small e. left refl u small (this-newest k upto rs hold.held p t fits f h u small e).0 e)
  newest-found key is (Some f) g (Some d) taken left =
      let h = top (Some f) (subst (λ x. IsGreatest x (stored 0) (Some f)) is g) in
      let same : f ≡ d.row = some_same f d taken.0 in
      subst (λ r. IsNewestRow rs p t (Some (record { tid = d.tid; row = r }))) same (this-newest k upto rs hold.held p t fits f h d.tid taken.1 (ap (λ (y : PageRow). y.key) same ∙ taken.2))
