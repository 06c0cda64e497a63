use Rattle.std.proofs.Common.{◌≡◌, ◌++◌}
use Rattle.std.specs.List.{AllByRecursion}
use Rattle.std.specs.declared.option.Option.TheVariants.{Some}
use Rattle.cp_model.specs.Keyed.{look}
use Rattle.cp_archive.proofs.Listing.{rows_in}
use Rattle.cp_archive.proofs.paths.rows_of.Given as goal

-- the rows so far and those of the paths to come are those of all paths
abbrev pub invariant-loop-path : goal.invariant-loop-path
invariant-loop-path l = record {
  listed : l.items.items ++ rows_in l.version l.path-iterator ≡ rows_in l.version l.paths.entries;
  found : AllByRecursion (λ e. look e.0 l.paths.entries ≡ Some e.1) l.path-iterator;
}
