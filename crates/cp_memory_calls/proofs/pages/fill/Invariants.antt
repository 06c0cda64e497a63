use Rattle.std.specs.Option.{option_map}
use Rattle.cp_page.proofs.Rising.{Takes}
use Rattle.cp_memory_calls.proofs.pages.fill.Given as goal

abbrev pub invariant-loop-row : goal.invariant-loop-row
invariant-loop-row l = Takes l.maker (option_map (λ k. k.now) l.before)
