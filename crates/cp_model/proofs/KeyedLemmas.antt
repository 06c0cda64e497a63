-- A finite map from paths: its entries in the order of their paths, each path once. Its words compute where they are unfolded.
use Rattle.std.specs.Prelude.{◌≡◌, Bool, true, false, cond, List, [], ◌∷◌, map, refl, is_some, ◌||◌}
use Rattle.std.specs.List.{list_any}
use Rattle.std.proofs.Common.{ap, sym, ◌∙◌}
use Rattle.std.specs.declared.option.Option.{Option}
use Rattle.std.specs.declared.option.Option.TheVariants.{None, Some}
use Rattle.std.specs.Ordering.{eq_by_cmp}
use Rattle.std.specs.FinMap.Entries.{find, put, where_key, find-put, find-where_key, same_entries}
use Rattle.cp_model.specs.Place.{Path, path_cmp, path_eq, or_else}
use Rattle.cp_path.proofs.Same.{path_same}
use Rattle.cp_path.specs.PathOrder.{path_total, path_ties}
use Rattle.cp_model.specs.Keyed.{look, Keyed, entries, empty, get, insert, retain_keys, put_all, same_entries_map}

-- as the standard library's look-up
pub look-find : {X : Type 0} (q : Path) (es : List (Path × X)) → look q es ≡ find path_cmp q es
look-find q [] = refl
look-find q (e ∷ es) = ap (λ b. cond b (Some e.1) (look q es)) (path_ties q e.0) ∙ ap (cond (eq_by_cmp path_cmp q e.0) (Some e.1)) (look-find q es)

pub is_some-look : {X : Type 0} (q : Path) (es : List (Path × X)) → is_some (look q es) ≡ list_any (path_eq q) (map (λ e. e.0) es)
is_some-look q [] = refl
is_some-look q (e ∷ es) = elim (path_eq q e.0) as (λ b. is_some (cond b (Some e.1) (look q es)) ≡ (b || list_any (path_eq q) (map (λ e. e.0) es))) [ true ↦ refl | false ↦ is_some-look q es ]

chosen : {X : Type 0} (b : Bool) (v : X) (o p : Option X) → cond b (Some v) (or_else o p) ≡ or_else (cond b (Some v) o) p
chosen true v o p = refl
chosen false v o p = refl

module _ {X : Type 0} where
  pub get-empty : (q : Path) → get {X = X} empty q ≡ None
  unfolding get empty
  get-empty q = refl

  pub get-insert : (m : Keyed X) (k : Path) (v : X) (q : Path) → get (insert m k v) q ≡ cond (path_eq q k) (Some v) (get m q)
  unfolding get insert
  get-insert m k v q = look-find q (put path_cmp k v m.list) ∙ find-put path_cmp path_total q k v m.list ∙ ap (λ b. cond b (Some v) (find path_cmp q m.list)) (sym (path_ties q k)) ∙ ap (cond (path_eq q k) (Some v)) (sym (look-find q m.list))

  pub get-retain_keys : (m : Keyed X) (p : Path → Bool) (q : Path) → get (retain_keys m p) q ≡ cond (p q) (get m q) None
  unfolding get retain_keys
  get-retain_keys m p q = look-find q (where_key path_cmp p m.list) ∙ find-where_key path_cmp p q (λ x e. ap p (sym (path_same q x e))) m.list ∙ ap (λ o. cond (p q) o None) (sym (look-find q m.list))

  -- maps that answer alike at every path are the same
  pub same_map : (m n : Keyed X) → ((q : Path) → get m q ≡ get n q) → m ≡ n
  unfolding get entries
  same_map m n h = same_entries_map m n (same_entries path_cmp path_total path_same m.list n.list m.sorted n.sorted (λ q. sym (look-find q m.list) ∙ h q ∙ look-find q n.list))

  pub get-put_all : (es : List (Path × X)) (m : Keyed X) (q : Path) → get (put_all es m) q ≡ or_else (look q es) (get m q)
  unfolding put_all
  get-put_all [] m q = refl
  get-put_all (e ∷ es) m q =
      get-insert (put_all es m) e.0 e.1 q ∙ ap (cond (path_eq q e.0) (Some e.1)) (get-put_all es m q) ∙ chosen (path_eq q e.0) e.1 (look q es) (get m q)

  pub get-entries : (m : Keyed X) (q : Path) → get m q ≡ look q (entries m)
  unfolding get entries
  get-entries m q = refl
