-- Looks one after another.
use Rattle.std.proofs.Common.{arith, ◌≡◌, ◌≤◌, ◌<◌, ◌+◌, ◌-◌, ◌*◌, ◌∙◌, inl, inr, ap, sym, refl, subst, ◌++◌, length-append, ℕ, suc, IsErr, List, [], ◌∷◌, length, true≢false, nat_eq, Some, Result, Ok, Err, OnOk, IfOk}
use Rattle.std.specs.Map.{lookup}
use Rattle.cp_page.proofs.Firsts.{case_of}
use Rattle.cp_page.specs.declared.page.Page.{Page}
use Rattle.cp_run.specs.Looks.{after_looks, after_look, Looked, Looks, pages_read, is_among}
use Rattle.cp_run.specs.Searching.{IsWithinLog}
use Rattle.cp_run.proofs.Halving.{HasHalved, halved_more, halved_few}
use Rattle.cp_run.specs.Pages.{IsPageAt, ArePagesOf}

-- a page that is found is that of the file
pub kept_page : (content : List ℕ) (at : ℕ) (v : Page) (es : List (ℕ × Page)) → Some v ≡ lookup (nat_eq at) es → ArePagesOf content es → IsPageAt content at v
kept_page content at v [] found all = cc
kept_page content at v (e ∷ es) found all = elim (case_of (nat_eq at e.0)) [
  | inl same ↦ let is : e.1 ≡ v = (let h = rw same at found in cc) in let here : e.0 ≡ at = grind (arith, same) in
      subst (λ j. IsPageAt content j v) here (subst (IsPageAt content e.0) is all.0)
  | inr other ↦ kept_page content at v es (rw other at found) all.1
]

-- what one look more has read
pub read_more : (n p : ℕ) (ps a b : List ℕ) (r s t : ℕ) → b ≡ after_looks n ps a → s ≤ r + length (pages_read n ps a) → t ≤ s + length (pages_read n (p ∷ []) b) → t ≤ r + length (pages_read n (p ∷ ps) a)
read_more n p ps a b r s t same before now = elim (case_of (is_among p b)) [
  | inl had ↦ let h = rw had at now in rw (sym same, had) (omega (arith, h, before))
  | inr new ↦ let h = rw new at now in rw (sym same, new) (omega (arith, h, before))
]

pub kept_more : (n p : ℕ) (ps a b c : List ℕ) → b ≡ after_looks n ps a → c ≡ after_looks n (p ∷ []) b → c ≡ after_looks n (p ∷ ps) a
kept_more n p ps a b c same now = now ∙ ap (after_look n p) same

on_error : {T E : Type 0} (result : Result T E) → IsErr result → (X : Type 0) → OnOk result X
on_error (Ok x) is X = absurd (true≢false (sym is))
on_error (Err e) is X = tt

on_any : {T E : Type 0} (result : Result T E) (X : Type 0) → X → OnOk result X
on_any (Ok x) X h = h
on_any (Err e) X h = tt

-- one look more after some, which fails
pub look_fails : {T U V E : Type 0} (First All : ℕ → Type 0) (n p r s t : ℕ) (a b c : List ℕ) (x : T) (inner : Result U E) (result : Result V E) → ((i : ℕ) → First i → All (suc i))
    → Looks {T = T} {E = E} n First a b r s (Ok x) → Looked n (p ∷ []) b c s t inner → IsErr result → Looks n All a c r t result
look_fails First All n p r s t a b c x inner result more before one is = record {
  pages = p ∷ before.pages;
  few = more (length before.pages) before.few;
  looked = record { count = read_more n p before.pages a b r s t before.looked.kept_now before.looked.count one.count; kept_now = on_error result is (c ≡ after_looks n (p ∷ before.pages) a) };
}

-- one look more, after which the call ends in any way
pub look_on : {T U V E : Type 0} (First All : ℕ → Type 0) (n p r s t : ℕ) (a b c : List ℕ) (x : T) (y : U) (result : Result V E) → ((i : ℕ) → First i → All (suc i))
    → Looks {T = T} {E = E} n First a b r s (Ok x) → Looked {T = U} {E = E} n (p ∷ []) b c s t (Ok y) → Looks n All a c r t result
look_on First All n p r s t a b c x y result more before one = record {
  pages = p ∷ before.pages;
  few = more (length before.pages) before.few;
  looked = record {
    count = read_more n p before.pages a b r s t before.looked.kept_now before.looked.count one.count;
    kept_now = on_any result (c ≡ after_looks n (p ∷ before.pages) a) (kept_more n p before.pages a b c before.looked.kept_now one.kept_now);
  };
}

-- a search that ends with an error after one look more
pub search_fails : {T U V E : Type 0} (n p k low high r s t : ℕ) (a b c : List ℕ) (x : T) (inner : Result U E) (result : Result V E)
    → Looks {T = T} {E = E} n (HasHalved k low high) a b r s (Ok x) → low < high → Looked n (p ∷ []) b c s t inner → IsErr result → Looks n (IsWithinLog 1 k) a c r t result
search_fails n p k low high r s t a b c x inner result before some one is =
    look_fails (HasHalved k low high) (IsWithinLog 1 k) n p r s t a b c x inner result (λ i few. halved_few k 0 0 (suc i) (halved_more k low high 0 0 i few some (omega arith))) before one is

-- a search that goes on after one look more
pub search_goes_on : {T U E : Type 0} (n p k low high low2 high2 r s t : ℕ) (a b c : List ℕ) (x : T) (y : U)
    → Looks {T = T} {E = E} n (HasHalved k low high) a b r s (Ok x) → low < high → Looked {T = U} {E = E} n (p ∷ []) b c s t (Ok y) → (high2 - low2) * 2 ≤ high - low → Looks {T = T} {E = E} n (HasHalved k low2 high2) a c r t (Ok x)
search_goes_on n p k low high low2 high2 r s t a b c x y before some one half =
    look_on (HasHalved k low high) (HasHalved k low2 high2) n p r s t a b c x y (Ok x) (λ i few. halved_more k low high low2 high2 i few some half) before one

within_one_more : (k m : ℕ) → IsWithinLog 1 k m → IsWithinLog 2 k (suc m)
within_one_more k m few n small = let h = few n small in omega (arith, h)

-- one look more after a search, after which the call ends in any way
pub one_look_more : {T U V E : Type 0} (n p k r s t : ℕ) (a b c : List ℕ) (x : T) (y : U) (result : Result V E)
    → Looks {T = T} {E = E} n (IsWithinLog 1 k) a b r s (Ok x) → Looked {T = U} {E = E} n (p ∷ []) b c s t (Ok y) → Looks n (IsWithinLog 2 k) a c r t result
one_look_more n p k r s t a b c x y result before one = look_on (IsWithinLog 1 k) (IsWithinLog 2 k) n p r s t a b c x y result (within_one_more k) before one

-- one look more after a search, which fails
pub last_look_fails : {T U V E : Type 0} (n p k r s t : ℕ) (a b c : List ℕ) (x : T) (inner : Result U E) (result : Result V E)
    → Looks {T = T} {E = E} n (IsWithinLog 1 k) a b r s (Ok x) → Looked n (p ∷ []) b c s t inner → IsErr result → Looks n (IsWithinLog 2 k) a c r t result
last_look_fails n p k r s t a b c x inner result before one is = look_fails (IsWithinLog 1 k) (IsWithinLog 2 k) n p r s t a b c x inner result (within_one_more k) before one is

-- what follows of a result that is Ok
pub on_result : {T E : Type 0} (result : Result T E) (P Q : T → Type 0) → IfOk result P → ((x : T) → P x → Q x) → IfOk result Q
on_result (Ok x) P Q h f = f x h
on_result (Err e) P Q h f = tt

-- looks after looks
after_all : (n : ℕ) (qs ps kept : List ℕ) → after_looks n (qs ++ ps) kept ≡ after_looks n qs (after_looks n ps kept)
after_all n [] ps kept = refl
after_all n (q ∷ qs) ps kept = ap (after_look n q) (after_all n qs ps kept)

read_all : (n : ℕ) (qs ps kept : List ℕ) → length (pages_read n (qs ++ ps) kept) ≡ length (pages_read n qs (after_looks n ps kept)) + length (pages_read n ps kept)
read_all n [] ps kept = omega arith
read_all n (q ∷ qs) ps kept = let on = read_all n qs ps kept in elim (case_of (is_among q (after_looks n qs (after_looks n ps kept)))) [
  | inl had ↦ rw (after_all n qs ps kept, had) on
  | inr new ↦ rw (after_all n qs ps kept, new) (omega (arith, on))
]

on_ok : {T E : Type 0} (result : Result T E) (X Y : Type 0) → (X → Y) → OnOk result X → OnOk result Y
on_ok (Ok x) X Y f h = f h
on_ok (Err e) X Y f h = tt

pub looks_then : {T U E : Type 0} (First Then All : ℕ → Type 0) (n r s t : ℕ) (a b c : List ℕ) (x : T) (result : Result U E) → ((i j : ℕ) → First i → Then j → All (j + i))
    → Looks {T = T} {E = E} n First a b r s (Ok x) → Looks n Then b c s t result → Looks n All a c r t result
looks_then First Then All n r s t a b c x result add one two = record {
  pages = two.pages ++ one.pages;
  few = subst All (sym (length-append two.pages one.pages)) (add (length one.pages) (length two.pages) one.few two.few);
  looked = record {
    count = (let whole = read_all n two.pages one.pages a in let second = subst (λ k. t ≤ s + length (pages_read n two.pages k)) one.looked.kept_now two.looked.count in omega (arith, whole, second, one.looked.count));
    kept_now = on_ok result (c ≡ after_looks n two.pages b) (c ≡ after_looks n (two.pages ++ one.pages) a)
        (λ e. e ∙ ap (after_looks n two.pages) one.looked.kept_now ∙ sym (after_all n two.pages one.pages a)) two.looked.kept_now;
  };
}

-- the same, with another value
pub looks_with : {T U E : Type 0} (Few : ℕ → Type 0) (n r t : ℕ) (a c : List ℕ) (x : T) (y : U) → Looks {T = T} {E = E} n Few a c r t (Ok x) → Looks {T = U} {E = E} n Few a c r t (Ok y)
looks_with Few n r t a c x y l = record { pages = l.pages; few = l.few; looked = record { count = l.looked.count; kept_now = l.looked.kept_now } }

-- the same of a call that ends with an error
pub looks_failed : {T U E : Type 0} (Few : ℕ → Type 0) (n r t : ℕ) (a c : List ℕ) (inner : Result T E) (result : Result U E) → Looks n Few a c r t inner → IsErr result → Looks n Few a c r t result
looks_failed Few n r t a c inner result l is = record { pages = l.pages; few = l.few; looked = record { count = l.looked.count; kept_now = on_error result is (c ≡ after_looks n l.pages a) } }

-- a call without a look
pub no_looks : {T E : Type 0} (n r : ℕ) (MaySo : ℕ → Type 0) (kept : List ℕ) (x : T) → MaySo 0 → Looks {T = T} {E = E} n MaySo kept kept r r (Ok x)
no_looks n r MaySo kept x few = record { pages = []; few = few; looked = record { count = omega arith; kept_now = refl } }

-- the same looks, of which there may be so many too
pub looks_few : {T E : Type 0} (First All : ℕ → Type 0) (n r t : ℕ) (a c : List ℕ) (result : Result T E) → ((i : ℕ) → First i → All i) → Looks n First a c r t result → Looks n All a c r t result
looks_few First All n r t a c result more l = record { pages = l.pages; few = more (length l.pages) l.few; looked = l.looked }

-- what follows where a call ended well, of what it then says under a condition
pub on_unit : {T E : Type 0} (result : Result T E) (A X Y : Type 0) → ((A → X) → Y) → (A → OnOk result X) → OnOk result Y
on_unit (Ok x) A X Y f h = f h
on_unit (Err e) A X Y f h = tt

-- pages that are kept are those of a file with the same bytes
pub kept_same : (old new : List ℕ) (es : List (ℕ × Page)) → new ≡ old → ArePagesOf new es → ArePagesOf old es
kept_same old new es same all = subst (λ f. ArePagesOf f es) same all
