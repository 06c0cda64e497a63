use Rattle.std.proofs.Common.{ℕ, List, [], subst}
use Rattle.cp_format.specs.Formats.{Reads}
use Rattle.cp_frame.specs.Entries.{entry_format}
use Rattle.cp_frame.specs.Faults.{FaultOf}
use Rattle.cp_db.proofs.OpeningFrames.{no_spelling}
use Rattle.cp_db.proofs.opening.entry_in.Goals as goal

pub returns-in-Err-BadByte-clause-spells : goal.returns-in-Err-BadByte-clause-spells
returns-in-Err-BadByte-clause-spells c = λ f same w r.
    no_spelling c.args.body.now c.in-Err-BadByte.field-0-0 (subst (FaultOf entry_format c.args.body.now) c.in-Err-BadByte.field-0-is c.in-Err-BadByte.ensures.fault)
    w (subst (λ (b : List ℕ). Reads entry_format b w []) same r)
