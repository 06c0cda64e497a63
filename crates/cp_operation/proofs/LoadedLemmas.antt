-- What is loaded.
use Rattle.std.specs.Prelude.{◌≡◌, ℕ, true, false, cond, List, [], ◌∷◌, map}
use Rattle.std.proofs.Common.{subst}
use Rattle.std.specs.declared.option.Option.TheVariants.{Some}
use Rattle.cp_model.specs.Place.{label_eq}
use Rattle.cp_model.specs.Tree.{Tree, IsTree, source}
use Rattle.cp_model.specs.Laws.{AreTrees}
use Rattle.cp_operation.specs.declared.sources.Sources.{Sources}
use Rattle.cp_operation.specs.Loaded.{sources_in}

module _ {S : Type 0} (view : S → Tree) (trees : (s : S) → IsTree (view s)) where
  tree_found : (es : List (List ℕ × S)) (n : List ℕ) (t : Tree) → source (map (λ e. record { name = e.0; tree = view e.1 }) es) n ≡ Some t → IsTree t
  tree_found [] n t h = absurd (cc)
  tree_found (e ∷ es) n t h =
      elim (label_eq e.0 n) as (λ b. cond b (Some (view e.1)) (source (map (λ e. record { name = e.0; tree = view e.1 }) es) n) ≡ Some t → IsTree t) [
        | true ↦ λ h. let d : view e.1 ≡ t = cc in subst IsTree d (trees e.1)
        | false ↦ λ h. tree_found es n t h
      ] h

  -- where each loaded value is a tree, every source is
  pub trees-loaded : (x : Sources S) → AreTrees (sources_in view x)
  trees-loaded x = record { trees = tree_found x.trees.entries }
