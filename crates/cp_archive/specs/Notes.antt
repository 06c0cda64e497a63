-- What the phases of each path are after more were noted.
use Rattle.std.specs.Prelude.{ℕ, ◌≡◌, List, [], ◌∷◌, ◌++◌, if◌then◌else◌}
use Rattle.std.specs.List.{flat_map}
use Rattle.cp_model.specs.Place.{Path, path_eq}
use Rattle.cp_archive.specs.declared.difference.Difference.{Difference}
use Rattle.cp_archive.specs.declared.phase.Phase.{Phase}
use Rattle.cp_archive.specs.Phases.{Paths, phases_of}

-- one phase more is noted of a path
abbrev pub IsNoted : Paths → Paths → Path → Phase → Type 0
IsNoted m n place x = (p : Path) → phases_of n p ≡ (if path_eq p place then phases_of m p ++ x ∷ [] else phases_of m p)

-- each path has the phases that it had
abbrev pub HasSamePhases : Paths → Paths → Type 0
HasSamePhases m n = (p : Path) → phases_of n p ≡ phases_of m p

-- the phase that a difference begins at p in version t
abbrev pub phase_at : ℕ → Path → Difference → List Phase
phase_at t p d = if path_eq p d.path then record { since = t; content = d.content } ∷ [] else []

-- the phases that the differences begin at p
abbrev pub phases_at : ℕ → Path → List Difference → List Phase
phases_at t p ds = flat_map (phase_at t p) ds

-- these phases are noted of each path
abbrev pub AreNoted : Paths → Paths → ℕ → List Difference → Type 0
AreNoted m n t ds = (p : Path) → phases_of n p ≡ phases_of m p ++ phases_at t p ds
