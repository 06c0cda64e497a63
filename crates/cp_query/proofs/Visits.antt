-- What a visit has read, label by label.
use Rattle.std.proofs.Common.{arith, ◌≡◌, ◌≤◌, ◌<◌, ◌+◌, ◌∙◌, ap, ℕ, List, true, length, take, get_or}
use Rattle.cp_path.specs.declared.loc.Loc.{Loc}
use Rattle.cp_model.specs.Place.{Label, Path, child, child_place}
use Rattle.cp_model.specs.Subtrees.{is_there}
use Rattle.cp_model.specs.Tree.{Tree}
use Rattle.cp_model.specs.declared.record.Record.{Record}
use Rattle.cp_store.specs.Calls.{Asked}
use Rattle.cp_store.specs.declared.store.ProvStore.{Ghosts}
use Rattle.cp_tree.specs.Rows.{labels_at}
use Rattle.cp_query.specs.Bounds.{past_cost, paths_in, sum_below}
use Rattle.cp_query.proofs.Parts.{sum_children}
use Rattle.cp_query.proofs.Nearby.{next-path}
use Rattle.cp_query.proofs.Summing.{child-more, children-within, place-within}

module _ {P : Type 0} (g : Ghosts P) (a : P) (rs : List Record) (high : ℕ) (tree : Tree) (q : Loc) where
  abbrev cost_of : Path → ℕ
  cost_of = past_cost (g.kept_kind a) rs (g.cost a) high

  -- the walk of the place itself
  pub place-read : is_there tree q.path ≡ true → (now : ℕ) → now ≤ g.reads a + cost_of q.path → now ≤ g.reads a + sum_below cost_of q.path (paths_in tree)
  place-read there now h = let all = place-within cost_of tree q.path there in omega (arith, h, all)

  -- and those of some children
  pub children-read : is_there tree q.path ≡ true → (at : Loc) (labels items : List Label) (i now : ℕ) → at ≡ q → labels ≡ items → items ≡ labels_at tree at.path
      → now ≤ g.reads a + (cost_of q.path + sum_children cost_of q.path (take i labels) (paths_in tree)) → now ≤ g.reads a + sum_below cost_of q.path (paths_in tree)
  children-read there at labels items i now s l m h =
      let all = children-within cost_of tree q.path there labels i (l ∙ m ∙ ap (λ (p : Loc). labels_at tree p.path) s) in
      omega (arith, h, all)

  module _ (labels : List Label) (i : ℕ) (x : Label) (few : i < length labels) (is : x ≡ get_or labels i x) where
    -- a child is passed over
    pub child-passed : (now : ℕ) → now ≤ g.reads a + (cost_of q.path + sum_children cost_of q.path (take i labels) (paths_in tree)) → now ≤ g.reads a + (cost_of q.path + sum_children cost_of q.path (take (i + 1) labels) (paths_in tree))
    child-passed now h = let more = child-more cost_of q.path labels i x (paths_in tree) few is in omega (arith, h, more)

    -- a child is visited
    pub child-read : (b : P) (asked : Asked g a b) (next at : Loc) (now : ℕ) → next ≡ child_place at x → at ≡ q
        → now ≤ g.reads b + sum_below (past_cost (g.kept_kind b) rs (g.cost b) high) next.path (paths_in tree)
        → g.reads b ≤ g.reads a + (cost_of q.path + sum_children cost_of q.path (take i labels) (paths_in tree))
        → now ≤ g.reads a + (cost_of q.path + sum_children cost_of q.path (take (i + 1) labels) (paths_in tree))
    child-read b asked next at now n s h k =
        let more = child-more cost_of q.path labels i x (paths_in tree) few is in
        let same : sum_below (past_cost (g.kept_kind b) rs (g.cost b) high) next.path (paths_in tree) ≡ sum_below cost_of (child q.path x) (paths_in tree) =
        ap (λ k. sum_below (past_cost k rs (g.cost b) high) next.path (paths_in tree)) asked.kind
        ∙ ap (λ c. sum_below (past_cost (g.kept_kind a) rs c high) next.path (paths_in tree)) asked.cost
        ∙ ap (λ p. sum_below cost_of p (paths_in tree)) (next-path tree next at q x n s) in
        omega (arith, h, k, more, same)
