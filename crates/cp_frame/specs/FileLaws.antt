-- The laws of files: each tells one history at most, which is legal; one that stands for a history opens; one that stops somewhere doesn't.
use Rattle.std.specs.Prelude.{ℕ, Bool, ◌≡◌, true, false, List}
use Rattle.cp_model.specs.History.{Entry, IsLegal}
use Rattle.cp_journal.specs.Frames.{Frame}
use Rattle.cp_frame.specs.Items.{Tell}
use Rattle.cp_frame.specs.Stands.{IsStore, IsTold, Opens, Replays}
use Rattle.cp_frame.specs.Stops.{StopsAt}

-- a file tells one history at most, whether its records are right or not
abbrev pub FilesTellOneHistory : Type 0
FilesTellOneHistory = (c : List ℕ) (p q : Bool) (h i : List Entry) → IsTold p h c → IsTold q i c → h ≡ i

-- it is a legal one
abbrev pub FilesTellLegalHistories : Type 0
FilesTellLegalHistories = (c : List ℕ) (right : Bool) (h : List Entry) → IsTold right h c → IsLegal h

-- what a file tells with the right records it tells where these aren't asked
abbrev pub RightRecordsAreRecords : Type 0
RightRecordsAreRecords = (c : List ℕ) (h : List Entry) → IsTold true h c → IsTold false h c

-- a file that stands for a history opens
abbrev pub StoresOpen : Type 0
StoresOpen = (c : List ℕ) (h : List Entry) → IsStore h c → Opens c

-- as long as no slot is open, what opens tells a history
abbrev pub OpenFilesReplay : Type 0
OpenFilesReplay = (c : List ℕ) → Opens c → Replays c

-- a file that stops somewhere doesn't open
abbrev pub StoppedFilesDontOpen : Type 0
StoppedFilesDontOpen = (c : List ℕ) (at : ℕ) → StopsAt c at → Opens c → ⊥

-- it stops at one offset alone
abbrev pub FilesStopOnce : Type 0
FilesStopOnce = (c : List ℕ) (at other : ℕ) → StopsAt c at → StopsAt c other → at ≡ other

-- frames tell in version 2 what they tell in version 1
abbrev pub OldEntriesStandInNewFiles : Type 0
OldEntriesStandInNewFiles = (right : Bool) (fs : List Frame) (h : List Entry) → Tell right 1 fs h → Tell right 2 fs h
