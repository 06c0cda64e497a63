-- What the phases of each path are after a change of the map.
use Rattle.std.proofs.Common.{◌-◌, ◌≡◌, Bool, true, false, cond, Result, Ok, Err, refl, sym, ap, ◌∙◌, take, length-append, arith}
use Rattle.std.proofs.Math.Seq.{take-append_seam}
use Rattle.std.specs.Prelude.{List, [], ◌∷◌, ◌++◌, length, if◌then◌else◌}
use Rattle.std.specs.Result.{OnErr}
use Rattle.std.specs.Global.{Vec}
use Rattle.std.specs.Ordering.{is_eq, match_ordering}
use Rattle.std.specs.BTreeMap.{insert_entry, is_at}
use Rattle.std.specs.Map.{lookup, set_value}
use Rattle.std.specs.Option.{option_map, unwrap_or}
use Rattle.std.specs.declared.option.Option.{Option}
use Rattle.std.specs.declared.option.Option.TheVariants.{None, Some}
use Rattle.std.specs.declared.cmp.Ordering.TheVariants.{Less, Equal, Greater}
use Rattle.cp_path.specs.PathOrder.{path_ties, path_eq_equiv}
use Rattle.cp_path.proofs.Same.{path_eq-same}
use Rattle.cp_model.specs.Place.{Path, path_eq, path_cmp}
use Rattle.cp_model.specs.Keyed.{look}
use Rattle.cp_archive.specs.declared.phase.Phase.{Phase}
use Rattle.cp_archive.specs.Phases.{Paths, phases_of}

-- what holds anyhow holds where there is an error
pub on_err : {A E P : Type 0} (r : Result A E) → P → OnErr r P
on_err (Ok x) h = tt
on_err (Err e) h = h

-- paths that compare as equal are the same
same_key : (a b : Path) → is_eq (path_cmp a b) ≡ true → a ≡ b
same_key a b h = path_eq-same a b (path_ties a b ∙ h)

-- a path compares as equal to itself
own_key : (a : Path) → is_eq (path_cmp a a) ≡ true
own_key a = sym (path_ties a a) ∙ path_eq_equiv.refl a

module _ {X : Type 0} where
  -- a look-up by order is one by equality
  pub look-lookup : (q : Path) (es : List (Path × X)) → lookup (is_at (path_cmp q)) es ≡ look q es
  look-lookup q [] = refl
  look-lookup q (e ∷ es) = ap (λ b. cond b (Some e.1) (lookup (is_at (path_cmp q)) es)) (sym (path_ties q e.0)) ∙ ap (cond (path_eq q e.0) (Some e.1)) (look-lookup q es)

  -- a path that is inserted
  inserted : (q : Path) (es : List (Path × X)) (k : Path) (v : X) → look q (insert_entry path_cmp es k v) ≡ cond (path_eq q k) (Some v) (look q es)
  inserted q [] k v = refl
  inserted q (e ∷ es) k v =
      elim (path_cmp k e.0) as (λ o. path_cmp k e.0 ≡ o → look q (match_ordering o ((k, v) ∷ e ∷ es) ((e.0, v) ∷ es) (e ∷ insert_entry path_cmp es k v)) ≡ cond (path_eq q k) (Some v) (cond (path_eq q e.0) (Some e.1) (look q es))) [
        | Less ↦ λ _. refl
        | Equal ↦ λ h.
            let same : k ≡ e.0 = same_key k e.0 (ap is_eq h) in
            ap (λ l. cond (path_eq q l) (Some v) (look q es)) (sym same)
            ∙ elim (path_eq q k) as (λ b. path_eq q k ≡ b → cond b (Some v) (look q es) ≡ cond b (Some v) (cond (path_eq q e.0) (Some e.1) (look q es))) [
              | true ↦ λ _. refl
              | false ↦ λ n. ap (λ b. cond b (Some e.1) (look q es)) (sym (ap (path_eq q) (sym same) ∙ n))
            ] refl
        | Greater ↦ λ h.
            elim (path_eq q e.0) as (λ b. path_eq q e.0 ≡ b → cond b (Some e.1) (look q (insert_entry path_cmp es k v)) ≡ cond (path_eq q k) (Some v) (cond b (Some e.1) (look q es))) [
              | true ↦ λ t. ap (λ b. cond b (Some v) (Some e.1)) (sym (apart q k e.0 t h))
              | false ↦ λ _. inserted q es k v
            ] refl
      ] refl
    where
      apart : (q k r : Path) → path_eq q r ≡ true → path_cmp k r ≡ Greater → path_eq q k ≡ false
      apart q k r t h =
          elim (path_eq q k) as (λ b. path_eq q k ≡ b → b ≡ false) [
            | false ↦ λ _. refl
            | true ↦ λ u.
                let same : k ≡ r = sym (path_eq-same q k u) ∙ path_eq-same q r t in
                let equal : is_eq (path_cmp k r) ≡ true = ap (λ l. is_eq (path_cmp k l)) (sym same) ∙ own_key k in
                let not_equal : is_eq (path_cmp k r) ≡ false = ap is_eq h in
                absurd (cc)
          ] refl

  -- a path whose value is set
  set : (q p : Path) (es : List (Path × X)) (w s : X) → look p es ≡ Some s → look q (set_value (is_at (path_cmp p)) es w) ≡ cond (path_eq q p) (Some w) (look q es)
  set q p [] w s h = absurd (cc)
  set q p (e ∷ es) w s h =
      ap (λ b. look q (cond b ((e.0, w) ∷ es) (e ∷ set_value (is_at (path_cmp p)) es w))) (sym (path_ties p e.0))
      ∙ elim (path_eq p e.0) as (λ b. path_eq p e.0 ≡ b → cond b (Some e.1) (look p es) ≡ Some s → look q (cond b ((e.0, w) ∷ es) (e ∷ set_value (is_at (path_cmp p)) es w)) ≡ cond (path_eq q p) (Some w) (cond (path_eq q e.0) (Some e.1) (look q es))) [
        | true ↦ λ t _.
            let same : p ≡ e.0 = path_eq-same p e.0 t in
            let at : path_eq q e.0 ≡ path_eq q p = ap (path_eq q) (sym same) in
            elim (path_eq q p) as (λ b. path_eq q e.0 ≡ b → cond (path_eq q e.0) (Some w) (look q es) ≡ cond b (Some w) (cond (path_eq q e.0) (Some e.1) (look q es))) [
              | true ↦ λ f. ap (λ b. cond b (Some w) (look q es)) f
              | false ↦ λ f. ap (λ b. cond b (Some w) (look q es)) f ∙ sym (ap (λ b. cond b (Some e.1) (look q es)) f)
            ] at
        | false ↦ λ n g.
            elim (path_eq q e.0) as (λ b. path_eq q e.0 ≡ b → cond b (Some e.1) (look q (set_value (is_at (path_cmp p)) es w)) ≡ cond (path_eq q p) (Some w) (cond b (Some e.1) (look q es))) [
              | true ↦ λ t. ap (λ b. cond b (Some w) (Some e.1)) (sym (other q p e.0 t n))
              | false ↦ λ _. set q p es w s g
            ] refl
      ] refl h
    where
      other : (q p r : Path) → path_eq q r ≡ true → path_eq p r ≡ false → path_eq q p ≡ false
      other q p r t n =
          elim (path_eq q p) as (λ b. path_eq q p ≡ b → b ≡ false) [
            | false ↦ λ _. refl
            | true ↦ λ u. let same : q ≡ p = path_eq-same q p u in let equal : path_eq p r ≡ true = ap (λ l. path_eq l r) (sym same) ∙ t in absurd (cc)
          ] refl

-- the phases in a vector, if there is one
abbrev phases_in : Option (Vec Phase) → List Phase
phases_in o = unwrap_or (option_map (λ w. w.items) o) []

if_there : (b : Bool) (v : Vec Phase) (o : Option (Vec Phase)) → phases_in (cond b (Some v) o) ≡ (if b then v.items else phases_in o)
if_there true v o = refl
if_there false v o = refl

-- what is found at a path
pub found-at : (m : Paths) (p : Path) (o : Option (Vec Phase)) → o ≡ lookup (is_at (path_cmp p)) m.entries → unwrap_or (option_map (λ w. w.items) o) [] ≡ phases_of m p
unfolding phases_of
found-at m p o e = ap phases_in (e ∙ look-lookup p m.entries)

-- maps with the same entries have the same phases
pub same-phases : (m n : Paths) → n.entries ≡ m.entries → (p : Path) → phases_of n p ≡ phases_of m p
unfolding phases_of
same-phases m n e p = ap (λ (es : List (Path × Vec Phase)). phases_in (look p es)) e

-- the phases at a path that is there are set
pub phases-put : (m n : Paths) (v w : Vec Phase) (k : Path) → Some v ≡ lookup (is_at (path_cmp k)) m.entries → n.entries ≡ set_value (is_at (path_cmp k)) m.entries w
    → (p : Path) → phases_of n p ≡ (if path_eq p k then w.items else phases_of m p)
unfolding phases_of
phases-put m n v w k some put p =
    ap (λ (es : List (Path × Vec Phase)). phases_in (look p es)) put
    ∙ ap phases_in (set p k m.entries w v (sym (look-lookup k m.entries) ∙ sym some))
    ∙ if_there (path_eq p k) w (look p m.entries)

-- where the phases at a path are now what f makes of them
made_by : (f : List Phase → List Phase) (m n : Paths) (k : Path) (ws : List Phase) → ws ≡ f (phases_of m k) → ((p : Path) → phases_of n p ≡ (if path_eq p k then ws else phases_of m p))
    → (p : Path) → phases_of n p ≡ (if path_eq p k then f (phases_of m p) else phases_of m p)
made_by f m n k ws e at p =
    at p
    ∙ elim (path_eq p k) as (λ b. path_eq p k ≡ b → (if b then ws else phases_of m p) ≡ (if b then f (phases_of m p) else phases_of m p)) [
      | true ↦ λ t. e ∙ ap (λ q. f (phases_of m q)) (sym (path_eq-same p k t))
      | false ↦ λ _. refl
    ] refl

-- what f makes of the phases at a path that is there
pub phases-set : (f : List Phase → List Phase) (m n : Paths) (v w : Vec Phase) (k : Path) → Some v ≡ lookup (is_at (path_cmp k)) m.entries → n.entries ≡ set_value (is_at (path_cmp k)) m.entries w → w.items ≡ f v.items
    → (p : Path) → phases_of n p ≡ (if path_eq p k then f (phases_of m p) else phases_of m p)
phases-set f m n v w k some put g = made_by f m n k w.items (g ∙ ap f (found-at m k (Some v) some)) (phases-put m n v w k some put)

-- the phases at a path that is there stay
pub phases-kept : (m n : Paths) (v w : Vec Phase) (k : Path) → Some v ≡ lookup (is_at (path_cmp k)) m.entries → n.entries ≡ set_value (is_at (path_cmp k)) m.entries w → w.items ≡ v.items
    → (p : Path) → phases_of n p ≡ phases_of m p
phases-kept m n v w k some put g p = phases-set (λ l. l) m n v w k some put g p ∙ elim (path_eq p k) as (λ b. (if b then phases_of m p else phases_of m p) ≡ phases_of m p) [ true ↦ refl | false ↦ refl ]

-- a path that isn't there is inserted
pub phases-inserted : (f : List Phase → List Phase) (l m n : Paths) (k : Path) (v : Vec Phase) (place : Path) → l ≡ m → k ≡ place → v.items ≡ f [] → None ≡ lookup (is_at (path_cmp place)) m.entries
    → n.entries ≡ insert_entry path_cmp l.entries k v → (p : Path) → phases_of n p ≡ (if path_eq p place then f (phases_of m p) else phases_of m p)
unfolding phases_of
phases-inserted f l m n k v place same e g none put =
    made_by f m n place v.items (g ∙ ap f (found-at m place None none))
    (λ p. ap (λ (es : List (Path × Vec Phase)). phases_in (look p es)) put
    ∙ ap (λ (x : Paths). phases_in (look p (insert_entry path_cmp x.entries k v))) same
    ∙ ap phases_in (inserted p m.entries k v)
    ∙ if_there (path_eq p k) v (look p m.entries)
    ∙ ap (λ q. if path_eq p q then v.items else phases_of m p) e)

-- the last phase at a path that is there is taken away
pub phases-popped : (m n : Paths) (v w : Vec Phase) (k : Path) → Some v ≡ lookup (is_at (path_cmp k)) m.entries → n.entries ≡ set_value (is_at (path_cmp k)) m.entries w → w.items ≡ take (length v.items - 1) v.items
    → (xs : List Phase) (x : Phase) → phases_of m k ≡ xs ++ x ∷ [] → (p : Path) → phases_of n p ≡ (if path_eq p k then xs else phases_of m p)
phases-popped m n v w k some put rest xs x e p =
    let whole : v.items ≡ xs ++ x ∷ [] = found-at m k (Some v) some ∙ e in
    let size : length (xs ++ x ∷ []) - 1 ≡ length xs = (let l = length-append xs (x ∷ []) in omega (arith, l)) in
    phases-put m n v w k some put p
    ∙ ap (λ l. if path_eq p k then l else phases_of m p) (rest ∙ ap (λ (l : List Phase). take (length l - 1) l) whole ∙ ap (λ i. take i (xs ++ x ∷ [])) size ∙ take-append_seam xs (x ∷ []))

-- no phase can be taken away from a path that isn't there
pub no-phases : (m : Paths) (k : Path) (xs : List Phase) (x : Phase) → None ≡ lookup (is_at (path_cmp k)) m.entries → phases_of m k ≡ xs ++ x ∷ [] → ⊥
no-phases m k [] x none e = absurd (cc (found-at m k None none))
no-phases m k (y ∷ xs) x none e = absurd (cc (found-at m k None none))
