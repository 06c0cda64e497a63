-- What the clock and the files told.
use Rattle.cp_outside.specs.Moments.{HasTold}
use Rattle.cp_reply.specs.Session.{Supply}
use Rattle.cp_workspace.specs.Files.{KnownFiles, AreFound}
use Rattle.cp_workspace.specs.Clocks.{KnownClock}

-- The clock told these moments, those that come next where it is known which come; and reads found the files so, as they are where that is known.
pub record IsSupplied (files : KnownFiles) (before now : KnownClock) (x : Supply) : Type 0 where
  pub told : HasTold before.left now.left x.moments
  pub found : AreFound files x.tables
