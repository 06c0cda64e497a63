-- Words on paths and places, and the longest prefix at which something stands.
use Rattle.std.specs.Prelude.{[], ◌∷◌}
use Rattle.std.specs.declared.option.Option.{Option}
use Rattle.std.specs.declared.option.Option.TheVariants.{None, Some}
pub use Rattle.std.specs.Option.{option_map, option_or as or_else}
pub use Rattle.cp_path.specs.Place.{Label, Path, label_eq, path_eq, path_cmp, place_eq, target, at_target, in_target, child, below_place, child_place, strip, starts_with, size, over_limit, parent, last_label}

-- the value, if there is one, with this path beside it
abbrev pub with_rest : {X : Type 0} → Option X → Path → Option (X × Path)
with_rest None p = None
with_rest (Some x) p = Some (x, p)

-- the value at the longest prefix of p that has one, with what of p follows that prefix
abbrev pub nearest : {X : Type 0} → (Path → Option X) → Path → Option (X × Path)
nearest f [] = with_rest (f []) []
nearest f (a ∷ p) = or_else (nearest (λ r. f (a ∷ r)) p) (with_rest (f []) (a ∷ p))
