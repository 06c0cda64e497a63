-- What of the reach stands now.
use Rattle.std.specs.Prelude.{ℕ, ◌&&◌, Bool, List}
use Rattle.std.specs.List.{list_any}
use Rattle.cp_path.specs.declared.loc.Loc.{Loc}
use Rattle.cp_model.specs.Place.{place_eq}
use Rattle.cp_model.specs.Tree.{Tree}
use Rattle.cp_model.specs.Changes.{change_at}
use Rattle.cp_model.specs.declared.kind.Kind.{Kind}
use Rattle.cp_model.specs.declared.record.Record.{Record}
use Rattle.cp_query.specs.Asked.{is_in}
use Rattle.cp_uses.specs.declared.reached.Reached.{Reached}
use Rattle.cp_uses.specs.Onward.{is_early}

-- its place is in the tree, and has not changed since
abbrev pub is_current : Kind → List Record → ℕ → Tree → Reached → Bool
is_current k rs last t x = is_in t x.place && is_early x.tid (change_at k rs last x.place)

-- some of what was reached is this place, as it stands now
abbrev pub stands_now : Kind → List Record → ℕ → Tree → List Reached → Loc → Bool
stands_now k rs last t xs p = list_any (λ x. place_eq p x.place && is_current k rs last t x) xs
