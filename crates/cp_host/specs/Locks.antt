-- What an access lets a call do, and what an attempt to lock a file tells.
use Rattle.std.specs.Prelude.{◌≡◌, ◌⊎◌, Bool, true, false, Some, Result, Ok, Err, ⊤}
use Rattle.std.specs.IoError.{error_kind, raw_os_error}
use Rattle.std.specs.declared.io.Error.{Error}
use Rattle.std.specs.declared.io.ErrorKind.TheVariants.{Unsupported}
use Rattle.std.specs.declared.fs.TryLockError.{TryLockError}
use Rattle.std.specs.declared.fs.TryLockError.TheVariants.{WouldBlock, Error as Other}
use Rattle.cp_host.specs.declared.access.Access.{Access}
use Rattle.cp_host.specs.declared.access.Access.TheVariants.{Reads, Writes}
use Rattle.cp_host.specs.declared.opening.TheConstants.{ENOLCK}

-- A file that is opened for this access may be written.
abbrev pub may_write : Access → Bool
may_write Reads = false
may_write Writes = true

-- The error tells that the file system knows no locks.
abbrev pub KnowsNoLocks : Error → Type 0
KnowsNoLocks e = (error_kind e ≡ Unsupported) ⊎ (raw_os_error e ≡ Some ENOLCK)

-- Whoever tried to lock a file may go on: the lock was taken, or the file system knows none.
abbrev pub Grants : Result (Unit {0}) TryLockError → Type 0
Grants (Ok _) = ⊤
Grants (Err WouldBlock) = ⊥
Grants (Err (Other e)) = KnowsNoLocks e
