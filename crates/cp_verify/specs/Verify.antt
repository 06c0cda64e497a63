-- Whether the records of a file are those that its operations make, and where they first aren't.
use Rattle.std.specs.Prelude.{ℕ, ◌≡◌, ◌+◌, ◌++◌, true, false, List, ◌∷◌, [], length, take, drop, Result, Ok, Err, ⊤}
use Rattle.std.specs.List.{slice_get, flat_map}
use Rattle.std.specs.declared.option.Option.{Option}
use Rattle.std.specs.declared.option.Option.TheVariants.{Some, None}
use Rattle.cp_model.specs.History.{State, start, load, commit, after_commit, replay}
use Rattle.cp_model.specs.History.{Entry as History}
use Rattle.cp_model.specs.declared.record.Record.{Record}
use Rattle.cp_model.specs.declared.record.Verdict.{Verdict}
use Rattle.cp_model.specs.declared.record.Verdict.TheVariants.{Agrees, Differs, TreeDiffers, NumberDiffers}
use Rattle.cp_frame.specs.Entries.{WrittenEntry}
use Rattle.cp_journal.specs.Frames.{spelled_all}
use Rattle.cp_journal.specs.declared.limits.TheConstants.{HEADER_SIZE}
use Rattle.cp_frame.specs.Items.{Item, an_entry, AllStand, entries_in, entry_meant, records_with}
use Rattle.cp_frame.specs.Stands.{IsStore, IsTold, Opens, OpensAndReplays}
use Rattle.cp_frame.specs.Stops.{IsNot}
use Rattle.cp_db.specs.declared.fault.OpenFault.{OpenFault}
use Rattle.cp_db.specs.declared.fault.OpenFault.TheVariants.{NoStore, Disk, Memory}

-- the records that an entry adds after a state
abbrev pub records_made : State → History → List Record
records_made s (start k t) = []
records_made s (load n t) = []
records_made s (commit stamp os) = drop (length s.rows) (after_commit s os).rows

-- two lists first differ in these two records; a list that has ended has none
pub record FirstDiffer (stored expected : List Record) (a b : Option Record) : Type 0 where
  pub position : ℕ
  pub same : take position stored ≡ take position expected
  pub in_stored : slice_get stored position ≡ a
  pub in_expected : slice_get expected position ≡ b
  pub differ : a ≡ b → ⊥

-- the position at which two lists first differ, if they do
abbrev pub IsDifference : List Record → List Record → Option ℕ → Type 0
IsDifference stored expected (Some n) = FirstDiffer stored expected (slice_get stored n) (slice_get expected n)
IsDifference stored expected None = stored ≡ expected

-- of these items the entry of this number is the first with other records than it makes, and they first differ in these two
pub record IsFirstWrong (items : List Item) (number : ℕ) (a b : Option Record) : Type 0 where
  pub before : List Item
  pub entry : WrittenEntry
  pub after : List Item
  pub are : items ≡ before ++ an_entry entry ∷ after
  pub numbered : number ≡ length before
  pub right : AllStand true None before
  pub state : State
  pub replayed : replay (flat_map entries_in before) ≡ Some state
  pub differ : FirstDiffer (records_with entry) (records_made state (entry_meant entry)) a b

-- the file opens and tells a history, and the frame at this offset is the first with other records than its operations make
pub record HasWrong (c : List ℕ) (at : ℕ) (a b : Option Record) : Type 0 where
  pub opens : Opens c
  pub history : List History
  pub told : IsTold false history c
  pub number : ℕ
  pub wrong : IsFirstWrong told.items number a b
  pub place : at ≡ HEADER_SIZE + length (spelled_all (take number told.frames))

-- the file stands for a history, of so many records
pub record HasRight (c : List ℕ) (count : ℕ) : Type 0 where
  pub history : List History
  pub store : IsStore history c
  pub state : State
  pub replayed : replay history ≡ Some state
  pub counted : count ≡ length state.rows

-- the records of the file are right, or the first that aren't are told; of a file that doesn't open, or of which the walk over all frames tells no history, the offset is told at which it stops
abbrev pub VerifiesAs : List ℕ → Result Verdict OpenFault → Type 0
VerifiesAs c (Ok (Agrees n)) = HasRight c n
VerifiesAs c (Ok (Differs at a b)) = HasWrong c at a b
VerifiesAs c (Ok (TreeDiffers at q)) = ⊥
VerifiesAs c (Ok (NumberDiffers at m n)) = ⊥
VerifiesAs c (Err (NoStore at)) = IsNot OpensAndReplays c at
VerifiesAs c (Err Disk) = ⊤
VerifiesAs c (Err Memory) = ⊤
