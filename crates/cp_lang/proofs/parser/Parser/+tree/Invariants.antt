use Rattle.cp_path.specs.declared.limits.TheConstants.{LABELS_MAX}
use Rattle.std.proofs.Common.{◌≡◌, ◌≤◌, ◌+◌, ◌-◌, ◌*◌, List, length}
use Rattle.cp_path.specs.Place.{Label}
use Rattle.cp_lang.specs.Grammar.{Level, edge_end}
use Rattle.cp_lang.specs.Parser.{reading, edge_reading, within}
use Rattle.cp_lang.proofs.parser.Parser.+tree.Given as goal

abbrev pub decreases-edge : goal.decreases-edge
decreases-edge l = 4 * (LABELS_MAX - l.depth)

abbrev pub decreases-edges : goal.decreases-edges
decreases-edges l = 4 * (LABELS_MAX - l.depth) + 1

abbrev pub decreases-node : goal.decreases-node
decreases-node l = 4 * (LABELS_MAX - l.depth) + 2

abbrev pub decreases-tree : goal.decreases-tree
decreases-tree l = 4 * (LABELS_MAX - l.depth) + 3

abbrev pub invariant-edges-loop-self : goal.invariant-edges-loop-self
invariant-edges-loop-self l = record {
  fewer : length l.self.lexer ≤ length l.fn.self.lexer;
  read : (a : Label) (ls : List Level) → length ls + 1 ≡ l.depth
      → edge_reading l.fn.self l.first a l.fn.edges.entries ls ≡ reading l.self (edge_end (within a l.edges.entries ls));
}

abbrev pub decreases-edges-loop-self : goal.decreases-edges-loop-self
decreases-edges-loop-self l = length l.self.lexer
