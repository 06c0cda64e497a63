-- The order of a history's records, as a statement.
use Rattle.std.specs.Prelude.{◌≡◌, List}
use Rattle.std.specs.declared.option.Option.TheVariants.{Some}
use Rattle.cp_model.specs.History.{Entry, State, IsLegal, replay}
use Rattle.cp_model.specs.Changes.{AreNext}

-- the records of a legal history are rows of T that rise by Tid and place, of its steps, each with a source exactly where it is a copy
abbrev pub RecordsRise : Type 0
RecordsRise = (h : List Entry) (s : State) → IsLegal h → replay h ≡ Some s → AreNext 0 s.now s.rows
