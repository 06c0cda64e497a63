-- What is loaded.
use Rattle.std.specs.Prelude.{List, map}
use Rattle.cp_model.specs.Tree.{Tree, Source}
use Rattle.cp_operation.specs.declared.sources.Sources.{Sources}

-- the sources in order of loading, each with its name and what its tree holds
abbrev pub sources_in : {S : Type 0} → (S → Tree) → Sources S → List Source
sources_in view x = map (λ e. record { name = e.0; tree = view e.1 }) x.trees.entries
