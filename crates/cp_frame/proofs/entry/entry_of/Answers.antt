use Rattle.cp_frame.proofs.SoundEntries.{entry_sound}
use Rattle.cp_frame.proofs.entry.entry_of.Goals as goal

pub returns-clause-sound : goal.returns-clause-sound
returns-clause-sound c =
    let read = c.in_ok-entry.ensures.read in
    entry_sound c.in_ok-entry.entry read.0 read.1.reads.fit read.1.reads.checked read.2
