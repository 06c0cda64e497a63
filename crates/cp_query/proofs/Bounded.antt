-- What walks cost over the store and the tree of one history, by what the history says.
use Rattle.std.proofs.Common.{◌≡◌, ◌≤◌, ◌+◌, ◌*◌, ◌∙◌, ◌&&◌, ap, sym, refl, subst, arith, ℕ, suc, List, Bool, true, false, length, filter}
use Rattle.std.specs.Prelude.{if◌then◌else◌}
use Rattle.cp_path.specs.declared.loc.Loc.{Loc}
use Rattle.cp_model.specs.Place.{Path, in_target}
use Rattle.cp_model.specs.Subtrees.{is_there}
use Rattle.cp_model.specs.Tree.{Tree}
use Rattle.cp_model.specs.Past.{Aged, tree_of}
use Rattle.cp_model.specs.History.{State}
use Rattle.cp_model.specs.Leaps.{last, leap_back}
use Rattle.cp_model.specs.Records.{reads, loses}
use Rattle.cp_model.specs.Answers.{trace, has_place}
use Rattle.cp_model.specs.declared.kind.Kind.{Kind}
use Rattle.cp_model.specs.declared.record.Record.{Record}
use Rattle.cp_model.proofs.Lookups.{there-mapped}
use Rattle.cp_model.proofs.Pasts.{legal-pasts}
use Rattle.cp_store.specs.Costs.{Cost, has_row}
use Rattle.cp_query.specs.Asked.{IsCommitted, is_in}
use Rattle.cp_query.specs.Bounds.{trace_cost, past_cost, paths_in, is_lost, hops_of, depth_of, trace_bound, past_bound, sum_below, below_bound, if_there}
use Rattle.cp_query.specs.Hops.{hops, greatest_of}
use Rattle.cp_query.proofs.Adding.{trace_by}
use Rattle.cp_query.specs.declared.walk.Walk.{Walk}
use Rattle.cp_query.proofs.Bounding.{look-ups, all-looks}
use Rattle.cp_query.proofs.Summing.{sum-there}
use Rattle.cp_query.proofs.Telling.{tells-pasts}

module _ {k : Kind} {n : ℕ} {rs : List Record} {t : Tree} {s : State} (c : IsCommitted k n rs t s) (cost : Cost) where
  there-in : (q : Path) → is_there s.tree q ≡ is_there (tree_of s.tree) q
  there-in q = sym (there-mapped (λ _ (x : Aged). x.content) s.tree q)

  module _ (q : Path) (there : is_there s.tree q ≡ true) where
    traced : trace_by (last (reads s.kind s.rows)) (suc s.now) s.now q ≡ trace s.now s.tree q
    traced = (tells-pasts c.history s c.legal c.replayed (last (reads s.kind s.rows)) (λ u r b. refl) q there).trace

    trace-bounded : trace_cost k rs cost n q ≤ trace_bound s cost q
    trace-bounded =
        let P : Kind → ℕ → List Record → Type 0 = λ k n rs. trace_cost k rs cost n q ≤ trace_bound s cost q in
        subst (λ k. P k n rs) c.kind (subst (λ n. P s.kind n rs) c.now (subst (λ rs. P s.kind s.now rs) c.rows
        (subst (λ tr. trace_cost s.kind s.rows cost s.now q ≤ hops (has_row s.kind s.rows) tr * ((greatest_of (λ q. length q) tr + 1) * cost.look)) traced
        (look-ups s.kind s.rows cost (suc s.now) s.now q))))

    past-bounded : past_cost k rs cost n q ≤ past_bound s cost q
    past-bounded =
        let P : Kind → ℕ → List Record → Type 0 = λ k n rs. past_cost k rs cost n q ≤ past_bound s cost q in
        subst (λ k. P k n rs) c.kind (subst (λ n. P s.kind n rs) c.now (subst (λ rs. P s.kind s.now rs) c.rows
        (subst (λ es. past_cost s.kind s.rows cost s.now q ≤ hops_of s q * ((depth_of s q + 2) * (cost.look + cost.runs)) + length (filter is_lost es)) (legal-pasts c.history s c.legal c.replayed q there)
        (subst (λ tr. past_cost s.kind s.rows cost s.now q ≤ hops (has_row s.kind s.rows) tr * ((greatest_of (λ q. length q) tr + 2) * (cost.look + cost.runs)) + length (filter is_lost (leap_back (reads s.kind s.rows) (loses s.rows) (suc s.now) s.now q))) traced
        (all-looks s.kind s.rows cost (suc s.now) s.now q)))))

  place-there : (q : Loc) → is_in t q ≡ true → is_there s.tree q.path ≡ true
  place-there q i = there-in q.path ∙ ap (λ u. is_there u q.path) c.tree ∙ is_in_there (in_target q) (is_there t q.path) i
    where
      is_in_there : (a b : Bool) → (a && b) ≡ true → b ≡ true
      is_in_there true b h = h
      is_in_there false b h = absurd (cc)

  place-had : (q : Loc) → is_in t q ≡ true → has_place s q ≡ true
  place-had q i = ap (λ b. in_target q && b) (there-in q.path ∙ ap (λ u. is_there u q.path) c.tree) ∙ i

  if_had : (q : Loc) (m : ℕ) → is_in t q ≡ true → if_there s q m ≡ m
  if_had q m i = ap (λ b. if b then m else 0) (place-had q i)

  -- what a walk from the place in the last version cost
  pub trace-read : (q : Loc) (w : Walk) (before now : ℕ) → is_in t q ≡ true → w ≡ record { at = q; high = n } → now ≤ before + trace_cost k rs cost w.high w.at.path → now ≤ before + if_there s q (trace_bound s cost q.path)
  trace-read q w before now i e h =
      let walk : trace_cost k rs cost w.high w.at.path ≡ trace_cost k rs cost n q.path = ap (λ (w : Walk). trace_cost k rs cost w.high w.at.path) e in
      let bound = trace-bounded q.path (place-there q i) in
      let had = if_had q (trace_bound s cost q.path) i in
      omega (arith, h, walk, bound, had)

  -- and what the walks of the place and of those below it
  pub below-read : (q : Loc) (w : Walk) (before now : ℕ) → is_in t q ≡ true → w ≡ record { at = q; high = n } → now ≤ before + sum_below (past_cost k rs cost w.high) w.at.path (paths_in t)
      → now ≤ before + if_there s q (below_bound s cost q.path)
  below-read q w before now i e h =
      let walk : sum_below (past_cost k rs cost w.high) w.at.path (paths_in t) ≡ sum_below (past_cost k rs cost n) q.path (paths_in (tree_of s.tree)) =
      ap (λ (w : Walk). sum_below (past_cost k rs cost w.high) w.at.path (paths_in t)) e ∙ ap (λ (u : Tree). sum_below (past_cost k rs cost n) q.path (paths_in u)) (sym c.tree) in
      let bound = sum-there (past_cost k rs cost n) (past_bound s cost) q.path (tree_of s.tree) (λ r j. past-bounded r (there-in r ∙ j)) in
      let had = if_had q (sum_below (past_bound s cost) q.path (paths_in (tree_of s.tree))) i in
      omega (arith, h, walk, bound, had)
