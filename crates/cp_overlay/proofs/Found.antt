-- A look-up in the map of origins is a look-up among its paths, and so is one after a change.
use Rattle.std.specs.Borrow.{Bor}
use Rattle.std.specs.Option.{option_copied}
use Rattle.std.specs.Prelude.{◌≡◌, Bool, true, false, cond, not, List, [], ◌∷◌, refl, is_some}
use Rattle.std.proofs.Common.{sym, ap, ◌∙◌}
use Rattle.std.specs.declared.option.Option.{Option}
use Rattle.std.specs.declared.option.Option.TheVariants.{None, Some}
use Rattle.std.specs.declared.cmp.Ordering.{Ordering}
use Rattle.std.specs.Ordering.{is_eq, eq_by_cmp}
use Rattle.std.specs.BTreeMap.{BTreeMap, is_at, UpdatesBy}
use Rattle.std.specs.Map.{lookup, IsKeyTest, AreApart, KeepsOthers}
use Rattle.std.specs.Global.{Vec}
use Rattle.cp_path.proofs.Same.{path_eq-same}
use Rattle.cp_path.specs.PathOrder.{path_ties, path_eq_equiv}
use Rattle.cp_model.specs.Place.{Path, Label, path_eq, path_cmp}
use Rattle.cp_model.specs.Keyed.{look}
use Rattle.cp_model.specs.declared.origin.Origin.{Origin}
use Rattle.cp_overlay.specs.Shown.{OriginMap, joined, shown, kept, has_key}

-- keys in the order of their paths
abbrev pub keys_cmp : Vec Label → Vec Label → Ordering
keys_cmp x y = path_cmp x.items y.items

-- the test of a key that a path makes
abbrev pub at_path : Path → Vec Label → Bool
at_path q = is_at (λ k. path_cmp q k.items)

at_same : (q r : Path) → is_eq (path_cmp q r) ≡ true → q ≡ r
at_same q r h = path_eq-same q r (path_ties q r ∙ h)

key_test : (r : Path) → IsKeyTest (eq_by_cmp keys_cmp) (at_path r)
key_test r x y h = ap (λ p. is_eq (path_cmp p y.items)) (at_same r x.items h)

tests_apart : (q r : Path) → path_eq r q ≡ false → AreApart (at_path q) (at_path r)
tests_apart q r n k h =
    elim (at_path r k) as (λ b. at_path r k ≡ b → b ≡ false) [
      | false ↦ λ _. refl
      | true ↦ λ t. absurd (cc (sym (path_eq_equiv.refl q) ∙ ap (λ p. path_eq p q) (at_same q k.items h ∙ sym (at_same r k.items t)) ∙ n))
    ] refl

module _ {X : Type 0} where
  -- a look-up by a path is one among the paths
  pub lookup-shown : (q : Path) (es : List (Vec Label × X)) → lookup (at_path q) es ≡ look q (shown es)
  lookup-shown q [] = refl
  lookup-shown q (e ∷ es) = ap (λ b. cond b (Some e.1) (lookup (at_path q) es)) (sym (path_ties q e.0.items)) ∙ ap (cond (path_eq q e.0.items) (Some e.1)) (lookup-shown q es)

  -- a map that is updated at a path has the new value there, and elsewhere what it had
  pub look-updated : (q : Path) (m n : BTreeMap (Vec Label) X) (w : Option X) → UpdatesBy keys_cmp (λ k. path_cmp q k.items) m n w → (r : Path) → look r (shown n.entries) ≡ cond (path_eq r q) w (look r (shown m.entries))
  unfolding KeepsOthers
  look-updated q m n w u r =
      elim (path_eq r q) as (λ b. path_eq r q ≡ b → look r (shown n.entries) ≡ cond b w (look r (shown m.entries))) [
        | true ↦ λ t. ap (λ p. look p (shown n.entries)) (path_eq-same r q t) ∙ sym (lookup-shown q n.entries) ∙ u.1
        | false ↦ λ f. sym (lookup-shown r n.entries) ∙ u.3 (at_path r) (key_test r) (tests_apart q r f) ∙ lookup-shown r m.entries
      ] refl

-- what is kept, by a look-up among the entries
pub kept_lookup : (m : OriginMap) (q : Path) → joined (lookup (at_path q) m.entries) ≡ kept m q
unfolding kept
kept_lookup m q = ap joined (lookup-shown q m.entries)

-- whether a key is there, by a look-up among the entries
pub key_lookup : (m : OriginMap) (q : Path) → is_some (lookup (at_path q) m.entries) ≡ has_key m q
unfolding has_key
key_lookup m q = ap is_some (lookup-shown q m.entries)

-- a key that isn't found isn't there
pub none_absent : (m : OriginMap) (q : Path) → None ≡ lookup (at_path q) m.entries → has_key m q ≡ true → ⊥
none_absent m q e h = absurd (cc (ap is_some e ∙ key_lookup m q ∙ h))

-- a key that isn't there keeps nothing
pub absent-kept : (m : OriginMap) (q : Path) → has_key m q ≡ false → kept m q ≡ None
unfolding kept has_key
absent-kept m q h = absent (look q (shown m.entries)) h
  where
    absent : (o : Option (Option Origin)) → is_some o ≡ false → joined o ≡ None
    absent None h = refl
    absent (Some x) h = absurd (cc)

-- an empty map keeps nothing
pub kept_empty : (m : OriginMap) → m.entries ≡ [] → (r : Path) → kept m r ≡ None
unfolding kept
kept_empty m e r = ap (λ es. joined (look r (shown es))) e

-- what is none behind a reference
pub none_copied : (o : Option (Bor Origin)) (b : Bool) → is_some o ≡ not b → b ≡ true → option_copied o ≡ None
none_copied None b e h = refl
none_copied (Some x) b e h = absurd (cc (e ∙ ap not h))

-- whether something is there, behind a reference
pub some_copied : (o : Option (Bor Path)) (s : Option Path) (b : Bool) → option_copied o ≡ s → is_some o ≡ not b → is_some s ≡ not b
some_copied None s b e h = ap is_some (sym e) ∙ h
some_copied (Some x) s b e h = ap is_some (sym e) ∙ h

module _ (m n : OriginMap) where
  -- the same entries keep the same
  pub kept_same : n.entries ≡ m.entries → (r : Path) → kept n r ≡ kept m r
  unfolding kept
  kept_same e r = ap (λ es. joined (look r (shown es))) e

  -- the same entries have the same keys
  pub key_same : n.entries ≡ m.entries → (r : Path) → has_key n r ≡ has_key m r
  unfolding has_key
  key_same e r = ap (λ es. is_some (look r (shown es))) e

  module _ (q : Path) (w : Option (Option Origin)) (u : UpdatesBy keys_cmp (λ k. path_cmp q k.items) m n w) where
    -- what is kept after an update
    pub kept_updated : (r : Path) → kept n r ≡ cond (path_eq r q) (joined w) (kept m r)
    unfolding kept
    kept_updated r =
        ap joined (look-updated q m n w u r)
        ∙ elim (path_eq r q) as (λ b. joined (cond b w (look r (shown m.entries))) ≡ cond b (joined w) (joined (look r (shown m.entries)))) [ true ↦ refl | false ↦ refl ]

    -- the keys after an update
    pub key_updated : (r : Path) → has_key n r ≡ cond (path_eq r q) (is_some w) (has_key m r)
    unfolding has_key
    key_updated r =
        ap is_some (look-updated q m n w u r)
        ∙ elim (path_eq r q) as (λ b. is_some (cond b w (look r (shown m.entries))) ≡ cond b (is_some w) (is_some (look r (shown m.entries)))) [ true ↦ refl | false ↦ refl ]

    -- where nothing is kept, an update to nothing keeps what is kept
    pub kept_still : joined w ≡ None → kept m q ≡ None → (r : Path) → kept n r ≡ kept m r
    kept_still e h r =
        kept_updated r
        ∙ elim (path_eq r q) as (λ b. path_eq r q ≡ b → cond b (joined w) (kept m r) ≡ kept m r) [
          | true ↦ λ t. e ∙ sym (ap (kept m) (path_eq-same r q t) ∙ h)
          | false ↦ λ _. refl
        ] refl

    -- an update to nothing keeps what it still keeps
    pub kept_fewer : joined w ≡ None → (r : Path) → is_some (kept n r) ≡ true → kept n r ≡ kept m r
    kept_fewer e r h =
        elim (path_eq r q) as (λ b. path_eq r q ≡ b → kept n r ≡ kept m r) [
          | true ↦ λ t. absurd (cc (sym h ∙ ap is_some (kept_updated r ∙ ap (λ b. cond b (joined w) (kept m r)) t ∙ e)))
          | false ↦ λ t. kept_updated r ∙ ap (λ b. cond b (joined w) (kept m r)) t
        ] refl

    -- an update to nothing keeps nothing there
    pub kept_gone : joined w ≡ None → kept n q ≡ None
    kept_gone e = kept_updated q ∙ ap (λ b. cond b (joined w) (kept m q)) (path_eq_equiv.refl q) ∙ e

    -- an update to some value loses no key
    pub key_grows : is_some w ≡ true → (r : Path) → has_key m r ≡ true → has_key n r ≡ true
    key_grows e r h = key_updated r ∙ elim (path_eq r q) as (λ b. cond b (is_some w) (has_key m r) ≡ true) [ true ↦ e | false ↦ h ]

    -- the key of an update to some value is there
    pub key_there : is_some w ≡ true → has_key n q ≡ true
    key_there e = key_updated q ∙ ap (λ b. cond b (is_some w) (has_key m q)) (path_eq_equiv.refl q) ∙ e

    -- an update of a key that is there to some value leaves the keys as they are
    pub key_still : is_some w ≡ true → has_key m q ≡ true → (r : Path) → has_key n r ≡ has_key m r
    key_still e h r =
        key_updated r
        ∙ elim (path_eq r q) as (λ b. path_eq r q ≡ b → cond b (is_some w) (has_key m r) ≡ has_key m r) [
          | true ↦ λ t. e ∙ sym (ap (has_key m) (path_eq-same r q t) ∙ h)
          | false ↦ λ _. refl
        ] refl
