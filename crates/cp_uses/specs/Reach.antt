-- The reach of a place: where its data went, from copy to copy, and which traces pass through it.
use Rattle.std.specs.Prelude.{ℕ, zero, suc, ◌≡◌, ◌<◌, ◌||◌, Bool, true, false, ⊤, if◌then◌else◌}
use Rattle.std.specs.List.{list_any}
use Rattle.cp_path.specs.declared.loc.Loc.{Loc}
use Rattle.cp_model.specs.Place.{Path, at_target, in_target, place_eq, over_limit}
use Rattle.cp_model.specs.declared.effect.Effect.TheVariants.{Same as same, New as made, From as from}
use Rattle.cp_model.specs.Rows.{Reading, left, gone}
use Rattle.cp_model.specs.Leaps.{Readings}
use Rattle.cp_model.specs.declared.answer.Trace.{Trace}
use Rattle.cp_query.specs.Events.{places_of}

-- ---- which places use another

-- the trace passes through q
abbrev pub passes : Loc → Trace → Bool
passes q t = list_any (place_eq q) (places_of t)

-- ---- the reach

-- data came to the place
abbrev pub is_new_data : Reading → Bool
is_new_data (left same) = false
is_new_data (left made) = true
is_new_data (left (from q)) = true
is_new_data gone = false

-- no step after t and before u changed the place; a place of a source never changes
abbrev pub IsQuiet : Readings → Loc → ℕ → ℕ → Type 0
IsQuiet E c t u = in_target c ≡ true → (v : ℕ) → t < v → v < u → E v c.path ≡ left same

-- data that stood at q stands at this place from this step on
pub data Reaches (E : Readings) (q : Loc) : Loc → ℕ → Type 0 where
  -- at q itself from the start
  begins : (c : Loc) (t : ℕ) → c ≡ q → t ≡ 0 → Reaches E q c t
  -- at q itself from a step that brought new data there
  renewed : (c : Loc) (t : ℕ) → c ≡ q → in_target c ≡ true → 0 < t → is_new_data (E t c.path) ≡ true → Reaches E q c t
  -- at a place to which a step copied it, from where it stood up to that step
  carried : (c : Loc) (t : ℕ) (d : Loc) (u : ℕ) → Reaches E q c t → t < u → in_target d ≡ true → over_limit d ≡ false
      → E u d.path ≡ left (from c) → IsQuiet E c t u → Reaches E q d u

-- ---- step by step

-- whether data passed q, by what the last step did to its place p and by the data before it
abbrev pub passed_by : (Path → Bool) → Loc → Path → Reading → Bool
passed_by before q p (left same) = before p
passed_by before q p (left made) = place_eq q (at_target p)
passed_by before q p (left (from c)) = place_eq q (at_target p) || (if in_target c then before c.path else place_eq q c)
passed_by before q p gone = place_eq q (at_target p)

-- whether the data at p after step t passed q
abbrev pub passed : Readings → Loc → ℕ → Path → Bool
passed E q zero p = place_eq q (at_target p)
passed E q (suc t) p = passed_by (passed E q t) q p (E (suc t) p)

-- the way back by what the last step did to the place p: it is within the limits, and never gone
abbrev pub StoodBy : (Path → Type 0) → Path → Reading → Type 0
StoodBy before p (left same) = before p
StoodBy before p (left made) = ⊤
StoodBy before p (left (from c)) = (over_limit (at_target p) ≡ false) × (in_target c ≡ true → before c.path)
StoodBy before p gone = ⊥

-- data stood at p after step t, and at each place before it on its way
abbrev pub Stood : Readings → ℕ → Path → Type 0
Stood E zero p = ⊤
Stood E (suc t) p = StoodBy (Stood E t) p (E (suc t) p)
