use Rattle.std.proofs.Common.{ℕ, ◌≡◌, true, map, take}
use Rattle.std.specs.List.{list_all}
use Rattle.cp_path.specs.declared.loc.Loc.{Loc}
use Rattle.cp_page.specs.Orders.{place_tid}
use Rattle.cp_store.specs.Lost.{is_within}
use Rattle.cp_paged.specs.Keyed.{AreTidsAt}
use Rattle.cp_paged.proofs.looking.tids_at_place.Given as goal

abbrev pub invariant-loop-row : goal.invariant-loop-row
invariant-loop-row l = record {
  all : (q : Loc) (u : ℕ) → l.key ≡ place_tid q u → AreTidsAt q l.low l.high l.rows → map (λ r. r.key) (take l.row-index l.rows) ≡ map (place_tid q) l.items.items;
  within : list_all (is_within l.low l.high) l.items.items ≡ true;
}
