use Rattle.std.proofs.Common.{arith}
use Rattle.cp_paged.proofs.StepFound.{no-records}
use Rattle.cp_paged.proofs.by_key.ByKeyPlaceRows.is_empty.Goals as goal

pub returns : goal.returns
returns g c = λ e rs kept. no-records c.args.self.now.kind kept.0 kept.1.stored rs kept.1.hold (c.is_empty.ensures e kept.1.stored kept.1.has 0 (omega arith))
