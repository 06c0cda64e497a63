-- What a drawn number chooses.
use Rattle.std.specs.Prelude.{ℕ, ◌/◌, ◌%◌, ◌<◌, ◌==◌, ◌||◌, nat_lt, if◌then◌else◌, ⊤}
use Rattle.cp_gen.specs.declared.choice.Choice.{Choice}
use Rattle.cp_gen.specs.declared.choice.Choice.TheVariants.{Insert, CopyIn, CopyInside, Delete}
use Rattle.cp_gen.specs.declared.limits.TheConstants.{FEW_PLACES, SOURCE_NODES}

-- what the number r chooses where n places are there: a place is new where few are there or r is a multiple of 4
unfoldable pub choice : ℕ → ℕ → Choice
choice n r =
    if nat_lt n FEW_PLACES || (r % 4 == 0) then Insert
    else (if r % 4 == 1 then CopyIn ((r / 4) % SOURCE_NODES) ((r / 64) % n)
    else (if r % 4 == 2 then CopyInside ((r / 4) % n) ((r / 65536) % n)
    else Delete ((r / 4) % n)))

-- its positions are those of n places
abbrev pub HasPositions : Choice → ℕ → Type 0
HasPositions Insert n = ⊤
HasPositions (CopyIn k at) n = at < n
HasPositions (CopyInside from into) n = (from < n) × (into < n)
HasPositions (Delete at) n = at < n
