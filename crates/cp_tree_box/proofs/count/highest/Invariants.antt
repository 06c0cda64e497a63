use Rattle.std.proofs.Common.{◌≡◌, ◌<◌, ◌⊎◌, ℕ, slice_index}
use Rattle.cp_tree_box.proofs.count.highest.Given as goal

abbrev pub invariant-loop-i : goal.invariant-loop-i
invariant-loop-i l = record {
  last : (k : ℕ) → l.top < k → k < l.i → slice_index l.counts k ≡ 0;
  some : (l.top ≡ 0) ⊎ (0 < slice_index l.counts l.top);
  below : (l.top ≡ 0) ⊎ (l.top < l.i);
}
