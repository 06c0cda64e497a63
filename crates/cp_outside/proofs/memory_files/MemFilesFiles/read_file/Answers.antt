use Rattle.std.proofs.Common.{refl}
use Rattle.cp_outside.proofs.memory_files.MemFilesFiles.read_file.Goals as goal

pub returns-then-fails_now-clause-listed : goal.returns-then-fails_now-clause-listed
returns-then-fails_now-clause-listed c =
    rw (← c.self.view_is) (λ _. c.fails_now.ensures.listed.0 c.if-fails_now.true, λ _. refl)
