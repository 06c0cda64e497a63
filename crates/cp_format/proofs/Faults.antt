-- Faults of the parts as faults of the whole.
use Rattle.std.proofs.Common.{◌≡◌, ℕ, List, sym, subst, Result, Ok, Err, IfErr, IsErr}
use Rattle.std.specs.Result.{IsErrAnd}
use Rattle.cp_format.specs.declared.fault.FormatFault.{FormatFault}
use Rattle.cp_format.specs.declared.fault.FormatFault.TheVariants.{BadByte, Memory}
use Rattle.cp_format.specs.Formats.{Format, ReadsAt, FailsAt}
use Rattle.cp_format.specs.Faults.{FaultAt}
use Rattle.cp_format.proofs.Checks.{IsJudged}
use Rattle.cp_format.proofs.Formats.{HasSome, IsPlain, Alike, both, fails_alike, fails_first, fails_second}

-- what fails where another does has its faults
pub fault_by : {X Y : Type 0} (F : Format X) (G : Format Y) (bytes : List ℕ) (here at : ℕ) → ((n : ℕ) → FailsAt F bytes here n → FailsAt G bytes at n) → (e : FormatFault) → FaultAt F bytes here e → FaultAt G bytes at e
fault_by F G bytes here at by (BadByte n) f = by n f
fault_by F G bytes here at by Memory f = tt

-- a fault of the one is a fault of the other
pub fault_alike : {X Y : Type 0} (F : Format X) (G : Format Y) (to : X → Y) → Alike F G to → (bytes : List ℕ) (at : ℕ) (e : FormatFault) → FaultAt F bytes at e → FaultAt G bytes at e
fault_alike F G to a bytes at e f = fault_by F G bytes at at (λ n g. fails_alike F G to a bytes at n g) e f

-- a fault of the first is one of both
pub fault_first : {X Y : Type 0} (F : Format X) (G : X → Format Y) (bytes : List ℕ) (at : ℕ) → IsJudged F → ((x : X) → F.fit x → HasSome (G x)) → (e : FormatFault) → FaultAt F bytes at e → FaultAt (both F G) bytes at e
fault_first F G bytes at j k e f = fault_by F (both F G) bytes at at (λ n g. fails_first F G bytes at j k n g) e f

-- where the first is read, a fault of the second is one of both
pub fault_second : {X Y : Type 0} (F : Format X) (G : X → Format Y) (bytes : List ℕ) (at : ℕ) → IsPlain F → (mid : ℕ) (x : X) → ReadsAt F bytes at x mid → (e : FormatFault) → FaultAt (G x) bytes mid e → FaultAt (both F G) bytes at e
fault_second F G bytes at p mid x r e f = fault_by (G x) (both F G) bytes mid at (λ n g. fails_second F G bytes at p mid x r n g) e f

-- an error that is passed on is that error
pub passed_on : {T E : Type 0} (Q : E → Type 0) (result : Result T E) (x : E) → IsErr result × IsErrAnd result (λ e. e ≡ x) → Q x → IfErr result Q
passed_on Q (Ok y) x h q = tt
passed_on Q (Err e) x h q = subst Q (sym h.1) q

-- what holds of an error makes another fact hold of it
pub passed_by : {T E : Type 0} {P Q : E → Type 0} (result : Result T E) → ((e : E) → P e → Q e) → IfErr result P → IfErr result Q
passed_by (Ok x) f h = tt
passed_by (Err e) f h = f e h
