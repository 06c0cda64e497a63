-- The rows of the places of which an origin is kept.
use Rattle.cp_path.specs.declared.limits.TheConstants.{LABELS_MAX}
use Rattle.std.specs.Prelude.{ℕ, ◌≡◌, ◌<◌, ◌≤◌, Bool, true, false, cond, not, ◌&&◌, List, [], ◌∷◌, length, nat_lt, refl}
use Rattle.std.proofs.Common.{sym, ap, subst, ◌∙◌, arith}
use Rattle.std.proofs.lemmas.Bool.Decides.{nat_tests}
use Rattle.std.specs.declared.option.Option.{Option}
use Rattle.std.specs.declared.option.Option.TheVariants.{None, Some}
use Rattle.std.specs.declared.cmp.Ordering.TheVariants.{Less}
use Rattle.std.specs.Ordering.{is_eq}
use Rattle.std.specs.List.{AllByRecursion}
use Rattle.std.specs.List.Sorted.{IsStrictlySortedBy}
use Rattle.std.specs.Map.{keys_of}
use Rattle.std.specs.Global.{Vec}
use Rattle.cp_path.proofs.Same.{path_eq-same}
use Rattle.cp_path.specs.PathOrder.{path_ties}
use Rattle.cp_model.specs.declared.origin.Origin.{Origin}
use Rattle.cp_model.specs.declared.record.RowMark.{RowMark as Mark}
use Rattle.cp_model.specs.Place.{Path, Label, path_eq, path_cmp, option_map}
use Rattle.cp_model.specs.Keyed.{look}
use Rattle.cp_model.specs.Rows.{effect, reduced_mark}
use Rattle.cp_overlay.specs.Kept.{Kept}
use Rattle.cp_overlay.specs.Net.{noted, is_short, top_mark}
use Rattle.cp_overlay.specs.Shown.{OriginMap, shown, joined, kept}
use Rattle.cp_overlay.proofs.Gathered.{Rises}
use Rattle.cp_overlay.proofs.Noting.{noted-none}

-- ---- one place

-- a path with too many labels isn't short
long : (p : Path) → LABELS_MAX < length p → is_short p ≡ false
unfolding is_short
long p h = by (length p) h
  where
    by : (n : ℕ) → LABELS_MAX < n → not (nat_lt LABELS_MAX n) ≡ false
    by n h = grind (arith, nat_tests)

-- one with as many at most is
pub short : (p : Path) → length p ≤ LABELS_MAX → is_short p ≡ true
unfolding is_short
short p h = by (length p) h
  where
    by : (n : ℕ) → n ≤ LABELS_MAX → not (nat_lt LABELS_MAX n) ≡ true
    by n h = grind (arith, nat_tests)

-- at a place with too many labels nothing is noted
pub noted-long : (p r : Path) (m o : Option Mark) → LABELS_MAX < length p → o ≡ noted (is_short r && path_eq r p) m o
noted-long p r m o h =
    elim (path_eq r p) as (λ b. path_eq r p ≡ b → o ≡ noted (is_short r && b) m o) [
      | true ↦ λ e. ap (λ c. noted (c && true) m o) (sym (ap is_short (path_eq-same r p e) ∙ long p h))
      | false ↦ λ _. elim (is_short r) as (λ c. o ≡ noted (c && false) m o) [ true ↦ refl | false ↦ refl ]
    ] refl

-- at any other its row is noted
pub noted-top : (p place r : Path) (m n : Mark) (o next : Option Mark) → length place ≤ LABELS_MAX → place ≡ p → m ≡ n → next ≡ cond (path_eq r place) (Some m) o → next ≡ noted (is_short r && path_eq r p) (Some n) o
noted-top p place r m n o next h e f k =
    k ∙ ap (λ q. cond (path_eq r q) (Some m) o) e ∙ ap (λ x. cond (path_eq r p) (Some x) o) f
    ∙ elim (path_eq r p) as (λ b. path_eq r p ≡ b → cond b (Some n) o ≡ noted (is_short r && b) (Some n) o) [
      | true ↦ λ i. ap (λ c. noted (c && true) (Some n) o) (sym (ap is_short (path_eq-same r p i ∙ sym e) ∙ short place h))
      | false ↦ λ _. elim (is_short r) as (λ c. o ≡ noted (c && false) (Some n) o) [ true ↦ refl | false ↦ refl ]
    ] refl

-- ---- all places

-- the row of the origin that the entries keep at r
abbrev pub top_among : Path → List (Vec Label × Option Origin) → Option Mark
top_among r es = option_map (λ o. reduced_mark (effect r o)) (joined (look r (shown es)))

-- noting by these entries would lead to what noting by all leads to
abbrev pub TopsLeft : List (Vec Label × Option Origin) → List (Vec Label × Option Origin) → List (Path × Mark) → List (Path × Mark) → Type 0
TopsLeft some all old news = (r : Path) → noted (is_short r) (top_among r some) (look r news) ≡ noted (is_short r) (top_among r all) (look r old)

-- a key that is less than all others isn't among them
absent : {X : Type 0} (p : Path) (es : List (Vec Label × X)) → AllByRecursion (λ k. path_cmp p k.items ≡ Less) (keys_of es) → look p (shown es) ≡ None
absent p [] h = refl
absent {X = X} p (e ∷ es) h = ap (λ b. cond b (Some e.1) (look p (shown es))) (path_ties p e.0.items ∙ ap is_eq h.0) ∙ absent p es h.1

module _ (r : Path) (key : Vec Label) (rest : List (Vec Label × Option Origin)) (gone : look key.items (shown rest) ≡ None) where
  -- at its own place nothing is left
  none-left : path_eq r key.items ≡ true → top_among r rest ≡ None
  none-left e = ap (λ q. option_map (λ o. reduced_mark (effect r o)) (joined (look q (shown rest)))) (path_eq-same r key.items e) ∙ ap (λ v. option_map (λ o. reduced_mark (effect r o)) (joined v)) gone

  -- a key that keeps nothing has no row
  among-none : top_among r rest ≡ top_among r ((key, None) ∷ rest)
  among-none =
      elim (path_eq r key.items) as (λ b. path_eq r key.items ≡ b → top_among r rest ≡ option_map (λ o. reduced_mark (effect r o)) (joined (cond b (Some None) (look r (shown rest))))) [
        | true ↦ none-left
        | false ↦ λ _. refl
      ] refl

  -- a key that keeps an origin has its row
  among-some : (o : Origin) (s : Bool) (n : Option Mark) → noted s (top_among r rest) (noted (s && path_eq r key.items) (Some (reduced_mark (effect key.items o))) n) ≡ noted s (top_among r ((key, Some o) ∷ rest)) n
  among-some o s n =
      elim (path_eq r key.items) as (λ b. path_eq r key.items ≡ b → noted s (top_among r rest) (noted (s && b) (Some (reduced_mark (effect key.items o))) n) ≡ noted s (option_map (λ o. reduced_mark (effect r o)) (joined (cond b (Some (Some o)) (look r (shown rest))))) n) [
        | true ↦ λ e.
            ap (λ t. noted s t (noted (s && true) (Some (reduced_mark (effect key.items o))) n)) (none-left e)
            ∙ ap (λ q. noted s None (noted (s && true) (Some (reduced_mark (effect q o))) n)) (sym (path_eq-same r key.items e))
            ∙ elim s as (λ c. noted c None (noted (c && true) (Some (reduced_mark (effect r o))) n) ≡ noted c (Some (reduced_mark (effect r o))) n) [ true ↦ refl | false ↦ refl ]
        | false ↦ λ _. elim s as (λ c. noted c (top_among r rest) (noted (c && false) (Some (reduced_mark (effect key.items o))) n) ≡ noted c (top_among r rest) n) [ true ↦ refl | false ↦ refl ]
      ] refl

module _ (all : List (Vec Label × Option Origin)) (old : List (Path × Mark)) where
  module _ (key : Vec Label) (v : Option Origin) (it rest : List (Vec Label × Option Origin)) (mid next : List (Path × Mark)) (i : it ≡ (key, v) ∷ rest) (h : TopsLeft it all old mid) (rises : Rises it) where
    gone_after : look key.items (shown rest) ≡ None
    unfolding IsStrictlySortedBy
    gone_after = absent key.items rest (subst Rises i rises).0

    -- what is left after a key that keeps nothing
    pub tops-none : v ≡ None → next ≡ mid → TopsLeft rest all old next
    tops-none e n r =
        ap (λ es. noted (is_short r) (top_among r rest) (look r es)) n
        ∙ ap (λ t. noted (is_short r) t (look r mid)) (among-none r key rest gone_after)
        ∙ ap (λ o. noted (is_short r) (top_among r ((key, o) ∷ rest)) (look r mid)) (sym e)
        ∙ ap (λ es. noted (is_short r) (top_among r es) (look r mid)) (sym i)
        ∙ h r

    -- what is left after one that keeps an origin
    pub tops-some : (o : Origin) (p : Path) → v ≡ Some o → p ≡ key.items → ((r : Path) → look r next ≡ noted (is_short r && path_eq r p) (Some (reduced_mark (effect p o))) (look r mid)) → TopsLeft rest all old next
    tops-some o p e k n r =
        ap (noted (is_short r) (top_among r rest)) (n r ∙ ap (λ q. noted (is_short r && path_eq r q) (Some (reduced_mark (effect q o))) (look r mid)) k)
        ∙ among-some r key rest gone_after o (is_short r) (look r mid)
        ∙ ap (λ u. noted (is_short r) (top_among r ((key, u) ∷ rest)) (look r mid)) (sym e)
        ∙ ap (λ es. noted (is_short r) (top_among r es) (look r mid)) (sym i)
        ∙ h r

-- with no key left all is noted
pub tops-done : (m : OriginMap) (k : Kept) (old news : List (Path × Mark)) (it : List (Vec Label × Option Origin)) → k.origins ≡ kept m → it ≡ [] → TopsLeft it m.entries old news → (r : Path) → look r news ≡ noted (is_short r) (top_mark k r) (look r old)
unfolding top_mark kept
tops-done m k old news it f i h r =
    sym (noted-none (is_short r) (look r news))
    ∙ ap (λ es. noted (is_short r) (top_among r es) (look r news)) (sym i)
    ∙ h r
    ∙ ap (λ (g : Path → Option Origin). noted (is_short r) (option_map (λ o. reduced_mark (effect r o)) (g r)) (look r old)) (sym f)
