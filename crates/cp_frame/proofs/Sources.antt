-- Trees below a name, in what room it leaves.
use Rattle.std.proofs.Common.{◌≡◌, ◌-◌, ◌≤◌, ℕ, true, List, sym, ap, ◌∙◌, is_some, length, arith}
use Rattle.cp_path.specs.Text.{is_name}
use Rattle.cp_path.specs.declared.limits.TheConstants.{LOC_MAX}
use Rattle.cp_model.specs.Keyed.{look}
use Rattle.cp_model.specs.Place.{Path}
use Rattle.cp_model.proofs.Lookups.{find-from_entries}
use Rattle.cp_tree.specs.Rows.{path_size}
use Rattle.cp_tree.proofs.Fits.{at_most_greatest}
use Rattle.cp_tree.proofs.Tallies.{greatest_within}
use Rattle.cp_format.proofs.Labels.{is_within, within_limits}
use Rattle.cp_format.proofs.Names.{name_parts}
use Rattle.cp_frame.specs.Laws.{ArePlacesUnder, SourcesAreLegal, SourcesAreSpelled}
use Rattle.cp_frame.specs.Rooms.{FitsIn, whole_room}
use Rattle.cp_frame.specs.Trees.{Written, rows_of}
use Rattle.cp_frame.proofs.LegalTrees.{legal_spelled, written_legal}

module _ (n : List ℕ) (t : Written) (name : is_name n ≡ true) where
  -- what fits below a name fits in T
  fits_in_target : FitsIn (whole_room (length n)) t → FitsIn (whole_room 1) t
  fits_in_target f = record { parts = f.parts; deep = f.deep; long = omega (arith, f.long, (name_parts n name).some); few = f.few; light = f.light }

  places_under : FitsIn (whole_room (length n)) t → ArePlacesUnder n t
  places_under f p i =
      let there : is_some (look p (rows_of t)) ≡ true = ap is_some (sym (find-from_entries (rows_of t) p)) ∙ i in
      is_within (record { db = n; path = p }) (omega (arith, at_most_greatest (λ (q : Path). length q) (rows_of t) p there, f.deep))
      (omega (arith, at_most_greatest path_size (rows_of t) p there, f.long, (name_parts n name).few))

  -- what fits in T, with its places within the limits below a name, fits below the name
  fits_under : FitsIn (whole_room 1) t → ArePlacesUnder n t → FitsIn (whole_room (length n)) t
  fits_under f places =
      let small : (p : Path) → is_some (look p (rows_of t)) ≡ true → path_size p ≤ LOC_MAX - length n =
      λ p i. (let w = within_limits (record { db = n; path = p }) (places p (ap is_some (find-from_entries (rows_of t) p) ∙ i)) in omega (arith, w.1)) in
      record { parts = f.parts; deep = f.deep; long = greatest_within (LOC_MAX - length n) path_size (rows_of t) small; few = f.few; light = f.light }

pub sources_legal : SourcesAreLegal
sources_legal n t name f h = let legal = written_legal t (fits_in_target n t name f) h in (legal.0, legal.1, places_under n t name f)

pub sources_spelled : SourcesAreSpelled
sources_spelled n t name parts l h places = let spelled = legal_spelled t parts l h in (fits_under n t name spelled.0 places, spelled.1)
