-- What a file stands for: no history where it is vacant, else the one that its frames tell; and which files a database opens.
use Rattle.std.specs.Prelude.{ℕ, ◌≡◌, ◌≤◌, ◌⊎◌, Bool, true, false, List, [], length, take}
use Rattle.std.specs.List.{flat_map}
use Rattle.std.specs.declared.option.Option.TheVariants.{None}
use Rattle.cp_model.specs.History.{Entry}
use Rattle.cp_journal.specs.Frames.{Frame}
use Rattle.cp_journal.specs.Headers.{HasHeader, IsHeader, header_in}
use Rattle.cp_journal.specs.Holding.{HasFrames}
use Rattle.cp_journal.specs.NewStores.{IsVacant}
use Rattle.cp_journal.specs.declared.header.Header.{Header}
use Rattle.cp_journal.specs.declared.limits.TheConstants.{HEADER_SIZE}
use Rattle.cp_frame.specs.Items.{Item, AllStand, AreHeld, entries_in}
use Rattle.cp_disk.specs.Views.{Either}

-- ---- headers

-- what the header says that the file begins with
abbrev pub header_of : List ℕ → Header
header_of c = header_in (take HEADER_SIZE c)

-- neither slot of the header is open
pub record IsClosed (h : Header) : Type 0 where
  pub first : h.first ≡ None
  pub second : h.second ≡ None

-- the header of a file of this version, without an open slot
pub record IsHead (version : ℕ) (head : List ℕ) : Type 0 where
  pub size : length head ≡ HEADER_SIZE
  pub header : IsHeader head
  pub says : header_in head ≡ record { version = version; first = None; second = None }

-- ---- opening

-- from this offset on frames of a file of this version hold these items, up to a closed gate
pub record HoldsFrom (at version : ℕ) (items : List Item) (c : List ℕ) : Type 0 where
  pub frames : List Frame
  pub stand : HasFrames at frames c
  pub held : AreHeld version frames items

-- from its first frame on, which is a start, each item may follow those before it
pub record OpensFirst (version : ℕ) (c : List ℕ) : Type 0 where
  pub items : List Item
  pub some : 1 ≤ length items
  pub holds : HoldsFrom HEADER_SIZE version items c
  pub stand : AllStand false None items

-- the file is one that a database opens: whether its records are right isn't asked
pub record Opens (c : List ℕ) : Type 0 where
  pub header : HasHeader c
  pub closed : IsClosed (header_of c)
  pub first : OpensFirst (header_of c).version c

-- ---- telling a history

-- the file has a header and then, one at least, frames that tell this history up to a closed gate, with the right records or not
pub record IsTold (right : Bool) (h : List Entry) (c : List ℕ) : Type 0 where
  pub header : HasHeader c
  pub frames : List Frame
  pub stand : HasFrames HEADER_SIZE frames c
  pub items : List Item
  pub some : 1 ≤ length items
  pub held : AreHeld (header_of c).version frames items
  pub tell : AllStand right None items
  pub are : h ≡ flat_map entries_in items

-- the walk over all frames of the file, whatever its slots say, tells a history
abbrev pub Replays : List ℕ → Type 0
Replays c = (h : List Entry) × IsTold false h c

-- the file opens, and the walk over all of its frames tells a history
abbrev pub OpensAndReplays : List ℕ → Type 0
OpensAndReplays c = Opens c × Replays c

-- ---- standing for a history

-- the file tells this history with the right records, and no slot is open
pub record IsStore (h : List Entry) (c : List ℕ) : Type 0 where
  pub told : IsTold true h c
  pub closed : IsClosed (header_of c)

-- the file stands for this history: a vacant file for the empty one, any other for the one that it tells with the right records
abbrev pub StandsFor : List Entry → List ℕ → Type 0
StandsFor h c = ((h ≡ []) × IsVacant c) ⊎ IsStore h c

-- It stands for this history, or for that one.
abbrev pub StandsForEither : List Entry → List Entry → List ℕ → Type 0
StandsForEither h i = Either (StandsFor h) (StandsFor i)
