use Rattle.std.proofs.Common.{◌≡◌, ◌++◌, take}
use Rattle.cp_path.proofs.path.Path.joined.Given as goal

abbrev pub invariant-loop-label : goal.invariant-loop-label
invariant-loop-label l = l.all.items ≡ l.fn.self ++ take l.label-index l.labels
