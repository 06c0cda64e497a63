-- What is counted of the places of a value, in machine numbers that stay at the greatest one.
use Rattle.cp_model.specs.declared.limits.TheConstants.{NODES_MAX, PLACE_WEIGHT, WEIGHT_MAX}
use Rattle.cp_path.specs.declared.limits.TheConstants.{LABELS_MAX, LABEL_MAX, LOC_MAX, TEXT_MAX}
use Rattle.std.specs.Prelude.{ℕ, ◌+◌, ◌-◌, ◌^◌, ◌&&◌, Bool, true, List, [], ◌∷◌, length, min, max, is_some, nat_lt}
use Rattle.std.specs.declared.option.Option.{Option}
use Rattle.serde_json.specs.Data.{Data}
use Rattle.cp_model.specs.declared.row.Content.{Content}
use Rattle.cp_model.specs.Place.{Label}
use Rattle.cp_sources.specs.Places.{content_of, bytes_of}
use Rattle.cp_sources.specs.Walks.{walk_below}
use Rattle.cp_sources.specs.declared.json_fault.JsonFault.{JsonFault}
use Rattle.cp_sources.specs.declared.json_fault.JsonFault.TheVariants.{LabelTooLong, TooDeep, PathTooLong, TextTooLong, TooMany, TooBig}
use Rattle.cp_sources.specs.declared.survey.Spot.{Spot}
use Rattle.cp_sources.specs.declared.survey.Survey.{Survey}

-- a sum that stays at the greatest u64
abbrev pub capped_sum : ℕ → ℕ → ℕ
capped_sum m n = min (m + n) (2 ^ 64 - 1)

-- the place of a name's root
abbrev pub name_spot : ℕ → Spot
name_spot n = record { depth = 0; size = n; last = 0 }

-- one label further down
abbrev pub spot_below : Spot → Label → Spot
spot_below s a = record { depth = capped_sum s.depth 1; size = capped_sum (capped_sum s.size (length a)) 1; last = length a }

-- nothing counted
abbrev pub empty_survey : Survey
empty_survey = record { last = 0; depth = 0; size = 0; text = 0; places = 0; weight = 0; whole = true }

-- one place more
abbrev pub survey_place : Spot → Option Content → Survey → Survey
survey_place at c s = record {
  last = max s.last at.last;
  depth = max s.depth at.depth;
  size = max s.size at.size;
  text = max s.text (bytes_of c);
  places = capped_sum s.places 1;
  weight = capped_sum (capped_sum (capped_sum s.weight PLACE_WEIGHT) at.last) (bytes_of c);
  whole = s.whole && is_some c;
}

-- the places of a value, under a name of so many bytes
abbrev pub survey_of : ℕ → Data → Survey
survey_of n d = walk_below spot_below survey_place (name_spot n) d (survey_place (name_spot n) (content_of d) empty_survey)

-- the refusals in order, each with whether it applies
abbrev pub survey_refusals : Survey → List (Bool × JsonFault)
survey_refusals s =
    (nat_lt LABEL_MAX s.last, LabelTooLong)
    ∷ (nat_lt LABELS_MAX s.depth, TooDeep)
    ∷ (nat_lt LOC_MAX s.size, PathTooLong)
    ∷ (nat_lt TEXT_MAX s.text, TextTooLong)
    ∷ (nat_lt NODES_MAX s.places, TooMany)
    ∷ (nat_lt WEIGHT_MAX s.weight, TooBig)
    ∷ []
