use Rattle.std.proofs.Common.{◌≡◌, ◌-◌, ◌*◌, ◌++◌, [], length, string_bytes}
use denote.Text.{Utf8}
use denote.Shadow.{shadow}
use Rattle.cp_reply.specs.Runs.{all_seen, edge_texts}
use Rattle.cp_reply.proofs.Runs.{pending}
use Rattle.cp_reply.proofs.tree.+level.Given as goal

abbrev pub decreases-push_edges : goal.decreases-push_edges
decreases-push_edges l = 129 - 2 * l.depth

abbrev pub decreases-push_tree : goal.decreases-push_tree
decreases-push_tree l = 130 - 2 * l.depth

abbrev pub invariant-push_edges-loop-run : goal.invariant-push_edges-loop-run
invariant-push_edges-loop-run l = record {
  utf8 : shadow (Utf8 l.separator);
  put : string_bytes l.text ++ pending l.separator (edge_texts (64 - l.depth) (all_seen l.depth l.rest)) ≡ string_bytes l.fn.text ++ pending [] (edge_texts (64 - l.depth) (all_seen l.depth l.rows));
}

abbrev pub decreases-push_edges-loop-run : goal.decreases-push_edges-loop-run
decreases-push_edges-loop-run l = length l.rest
