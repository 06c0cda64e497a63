-- The laws of the places that a step touches and of the trees of versions, as statements.
use Rattle.std.specs.Prelude.{◌≡◌, ℕ, List}
use Rattle.cp_model.specs.declared.op.Op.{Op}
use Rattle.cp_model.specs.Place.{Path}
use Rattle.cp_model.specs.Step.{Working, contents, step, done}
use Rattle.cp_model.specs.Tree.{Tree, Source}
use Rattle.std.specs.declared.option.Option.TheVariants.{Some}
use Rattle.cp_model.specs.History.{Entry, State, replay, IsLegal}
use Rattle.cp_archive.specs.Histories.{AreVersions, trees_of_history}
use Rattle.cp_archive.specs.Touching.{AreTouched, Covers}

-- a step changes nothing but at and below the places that its operations touch
abbrev pub TouchedPlacesCover : Type 0
TouchedPlacesCover =
    (t : Tree) (ss : List Source) (ops : List Op) (k : ℕ) (w : Working) (ps : List Path) → step t ss ops ≡ done k w → AreTouched ops ps → Covers ps t (contents w)

-- the start tree and the trees after each step of a legal history are those of its versions
abbrev pub TreesAreVersions : Type 0
TreesAreVersions = (h : List Entry) (s : State) → IsLegal h → replay h ≡ Some s → AreVersions h s (trees_of_history h)
