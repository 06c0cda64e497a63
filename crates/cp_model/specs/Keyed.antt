-- A finite map from paths: its entries in the order of their paths, each path once. Its words compute where they are unfolded.
use Rattle.std.specs.Prelude.{◌≡◌, ℕ, Bool, cond, List, [], ◌∷◌, length}
use Rattle.std.proofs.Common.{T}
use Rattle.std.specs.declared.option.Option.{Option}
use Rattle.std.specs.declared.option.Option.TheVariants.{None, Some}
use Rattle.std.specs.FinMap.Entries.{put, where_key, is_sorted, is_sorted-put, is_sorted-where_key}
use Rattle.cp_model.specs.Place.{Path, path_cmp, path_eq}
use Rattle.cp_path.specs.PathOrder.{path_total}
use mathlib.Core.HLevel.{Σ_prop_path}
use lib.Dec.{T_prop}
use base.Stored.{Coded, coded×, coded_list, coded_ℕ, coded_via}

-- the value of the first entry at q
abbrev pub look : {X : Type 0} → Path → List (Path × X) → Option X
look q [] = None
look q (e ∷ es) = cond (path_eq q e.0) (Some e.1) (look q es)

-- entries whose paths rise strictly
pub record Keyed (X : Type 0) : Type 0 where
  pub list : List (Path × X)
  pub sorted : T (is_sorted path_cmp list)

module _ {X : Type 0} where
  -- in the paths' order
  unfoldable pub entries : Keyed X → List (Path × X)
  entries m = m.list

  -- no entry
  unfoldable pub empty : Keyed X
  empty = record { list = []; sorted = tt }

  -- the value at a path
  unfoldable pub get : Keyed X → Path → Option X
  get m q = look q m.list

  -- the value at the path k becomes v
  unfoldable pub insert : Keyed X → Path → X → Keyed X
  insert m k v = record { list = put path_cmp k v m.list; sorted = is_sorted-put path_cmp path_total k v m.list m.sorted }

  -- what passes the test stays
  unfoldable pub retain_keys : Keyed X → (Path → Bool) → Keyed X
  retain_keys m p = record { list = where_key path_cmp p m.list; sorted = is_sorted-where_key path_cmp p m.list m.sorted }

  -- the entries of the list go over those of the map; of two with one path the first counts
  unfoldable pub put_all : List (Path × X) → Keyed X → Keyed X
  put_all [] m = m
  put_all (e ∷ es) m = insert (put_all es m) e.0 e.1

  -- the map of these entries
  abbrev pub from_entries : List (Path × X) → Keyed X
  from_entries es = put_all es empty

  -- the number of entries
  unfoldable pub len : Keyed X → ℕ
  len m = length m.list

  pub same_entries_map : (m n : Keyed X) → entries m ≡ entries n → m ≡ n
  unfolding entries
  same_entries_map m n e =
      let pairs : ◌≡◌ {A = (es : List (Path × X)) × T (is_sorted path_cmp es)} (m.list, m.sorted) (n.list, n.sorted) = Σ_prop_path (λ es. T_prop _) e in
      λ i. record { list = (pairs i).0; sorted = (pairs i).1 }

  -- maps of values that can be told apart can be told apart
  abbrev pub code : Coded X → Coded (Keyed X)
  code x = coded_via (coded_list (coded× (coded_list (coded_list coded_ℕ)) x)) entries same_entries_map
