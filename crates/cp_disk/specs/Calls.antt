-- What each call of a disk gives, and what it makes of the disk.
use Rattle.std.specs.Prelude.{ℕ, ◌≡◌, List, length, take, drop, Result, IsErrOf, IfOk, OnOk}
use Rattle.cp_disk.specs.Views.{View, KnownDisk, IfKnown, Only, Remembers, ViewRests, ViewSteps}
use Rattle.cp_disk.specs.Writes.{with_bytes, Torn, CutShort}
use Rattle.cp_disk.specs.declared.disk.DiskFault.{DiskFault}
use Rattle.cp_disk.specs.declared.disk.DiskFault.TheVariants.{Memory}

-- The size was asked for.
pub record ViewSized (result : Result ℕ DiskFault) (v w : View) : Type 0 where
  pub size : IfOk result (λ n. n ≡ length v.content)
  pub rests : ViewRests v w

-- As many bytes as there is room for were read from this offset on.
pub record ViewFilled (at : ℕ) (into : List ℕ) (result : Result (Unit {0}) DiskFault) (v w : View) : Type 0 where
  pub bytes : OnOk result (into ≡ take (length into) (drop at v.content))
  pub rests : ViewRests v w

-- These bytes were written, or some of what a crash leaves of that write is there.
pub record ViewWrote (at : ℕ) (bytes : List ℕ) (result : Result (Unit {0}) DiskFault) (v w : View) : Type 0 where
  pub content : OnOk result (w.content ≡ with_bytes v.content at bytes)
  pub steps : ViewSteps (Torn at (length bytes)) v w
  pub keeps : Remembers v w
  pub memory : IsErrOf result Memory → ViewRests v w

-- The file was cut to this size, or some of what a crash leaves of that cut is there.
pub record ViewWasCut (size : ℕ) (result : Result (Unit {0}) DiskFault) (v w : View) : Type 0 where
  pub content : OnOk result (w.content ≡ take size v.content)
  pub steps : ViewSteps (CutShort size) v w
  pub keeps : Remembers v w
  pub memory : IsErrOf result Memory → ViewRests v w

-- The disk was synced: a crash leaves its content.
pub record ViewSynced (result : Result (Unit {0}) DiskFault) (v w : View) : Type 0 where
  pub durable : OnOk result (Only v.content w.images)
  pub rests : ViewRests v w

-- ---- the same of disks of which it may not be known what they hold

abbrev pub Sized : Result ℕ DiskFault → KnownDisk → KnownDisk → Type 0
Sized result d e = IfKnown d (λ v. ViewSized result v e.view)

abbrev pub Filled : ℕ → List ℕ → Result (Unit {0}) DiskFault → KnownDisk → KnownDisk → Type 0
Filled at into result d e = IfKnown d (λ v. ViewFilled at into result v e.view)

abbrev pub Wrote : ℕ → List ℕ → Result (Unit {0}) DiskFault → KnownDisk → KnownDisk → Type 0
Wrote at bytes result d e = IfKnown d (λ v. ViewWrote at bytes result v e.view)

abbrev pub WasCut : ℕ → Result (Unit {0}) DiskFault → KnownDisk → KnownDisk → Type 0
WasCut size result d e = IfKnown d (λ v. ViewWasCut size result v e.view)

abbrev pub Synced : Result (Unit {0}) DiskFault → KnownDisk → KnownDisk → Type 0
Synced result d e = IfKnown d (λ v. ViewSynced result v e.view)
