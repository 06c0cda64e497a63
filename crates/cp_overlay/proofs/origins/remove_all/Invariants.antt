use Rattle.std.proofs.Common.{◌≡◌, cond, take}
use Rattle.std.specs.List.{list_any}
use Rattle.std.specs.declared.option.Option.TheVariants.{None}
use Rattle.cp_model.specs.Place.{Path, path_eq}
use Rattle.cp_overlay.specs.Shown.{kept, paths}
use Rattle.cp_overlay.proofs.origins.remove_all.Given as goal

abbrev pub invariant-loop-key : goal.invariant-loop-key
invariant-loop-key l = (r : Path) → kept l.map r ≡ cond (list_any (path_eq r) (paths (take l.key-index l.keys))) None (kept l.initial.map r)
