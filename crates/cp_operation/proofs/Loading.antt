-- The entries of a map as loaded sources.
use Rattle.std.specs.Prelude.{ℕ, ◌≡◌, true, false, cond, List, [], ◌∷◌, ◌++◌, map, is_some, refl}
use Rattle.std.proofs.Common.{sym, ap, ◌∙◌}
use Rattle.std.proofs.lemmas.List.{map-append}
use Rattle.std.specs.Cmp.Lexicographic.{nat_list_eq_equiv}
use Rattle.std.specs.Map.{lookup}
use Rattle.std.specs.declared.option.Option.{Option}
use Rattle.std.specs.declared.option.Option.TheVariants.{None, Some}
use Rattle.indexmap.specs.IndexMap.{get, insert_entry}
use Rattle.indexmap.proofs.CallerLemmas.{insert_entry-new}
use Rattle.cp_path.specs.Text.{text_eq}
use Rattle.cp_model.specs.Place.{option_map}
use Rattle.cp_model.specs.Tree.{Tree, Source, source}
use Rattle.cp_operation.specs.Loaded.{sources_in}
use Rattle.cp_operation.specs.declared.sources.Sources.{Sources}

module _ {S : Type 0} (view : S → Tree) where
  abbrev pub as_source : List ℕ × S → Source
  as_source e = record { name = e.0; tree = view e.1 }

  source-map : (es : List (List ℕ × S)) (n : List ℕ) → source (map as_source es) n ≡ option_map view (lookup (text_eq n) es)
  source-map [] n = refl
  source-map (e ∷ es) n =
      ap (λ b. cond b (Some (view e.1)) (source (map as_source es) n)) (nat_list_eq_equiv.symm e.0 n)
      ∙ elim (text_eq n e.0) as (λ b. cond b (Some (view e.1)) (source (map as_source es) n) ≡ option_map view (cond b (Some e.1) (lookup (text_eq n) es))) [
        | true ↦ refl
        | false ↦ source-map es n
      ]

  -- what the map has at a name is the source's tree
  pub source-loaded : {B : Type 0} (now : B → S) (x : Sources S) (n : List ℕ) (found : Option B) → option_map now found ≡ get text_eq x.trees n → option_map (λ b. view (now b)) found ≡ source (sources_in view x) n
  source-loaded {B = B} now x n found e = both found ∙ ap (option_map view) e ∙ sym (source-map x.trees.entries n)
    where
      both : (o : Option B) → option_map (λ b. view (now b)) o ≡ option_map view (option_map now o)
      both None = refl
      both (Some b) = refl

  -- a name that no source has is new to the map
  pub absent-loaded : (x : Sources S) (n : List ℕ) → is_some (source (sources_in view x) n) ≡ false → get text_eq x.trees n ≡ None
  absent-loaded x n h = none (get text_eq x.trees n) (ap is_some (sym (source-map x.trees.entries n)) ∙ h)
    where
      none : (o : Option S) → is_some (option_map view o) ≡ false → o ≡ None
      none None e = refl
      none (Some s) e = absurd (cc)

  -- one entry more is one source more
  pub loaded-more : (x y : Sources S) (n : List ℕ) (s : S) → is_some (source (sources_in view x) n) ≡ false → y.trees.entries ≡ insert_entry text_eq x.trees.entries n s →
      sources_in view y ≡ sources_in view x ++ record { name = n; tree = view s } ∷ []
  loaded-more x y n s h e = ap (map as_source) (e ∙ insert_entry-new text_eq x.trees n s (absent-loaded x n h)) ∙ map-append as_source x.trees.entries ((n, s) ∷ [])
