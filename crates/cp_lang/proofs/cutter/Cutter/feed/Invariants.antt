use Rattle.std.proofs.Common.{take}
use Rattle.cp_lang.specs.CutterState.{Begins}
use Rattle.cp_lang.proofs.CutterLemmas.{IsFed}
use Rattle.cp_lang.proofs.cutter.Cutter.feed.Given as goal

abbrev pub invariant-loop-byte : goal.invariant-loop-byte
invariant-loop-byte l =
    IsFed l.fn.self l.fn.out.items (take l.byte-index l.piece) l.self l.out.items × Begins l.fn.out.items l.out.items
