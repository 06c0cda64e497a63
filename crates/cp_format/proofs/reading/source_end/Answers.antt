use Rattle.std.proofs.lemmas.Result.{IfOk-weaker, IfErr-weaker}
use Rattle.cp_format.proofs.Records.{copy_fault, copy_stands}
use Rattle.cp_format.proofs.reading.source_end.Goals as goal

pub returns-in-C-clause-read : goal.returns-in-C-clause-read
returns-in-C-clause-read c =
    IfOk-weaker c.place_end.result _ _ (λ next s. copy_stands c.args.op c.args.bytes.now c.args.at next c.in-C.is s) c.place_end.ensures.read

pub returns-in-C-clause-fault : goal.returns-in-C-clause-fault
returns-in-C-clause-fault c =
    IfErr-weaker c.place_end.result _ _ (λ e f. copy_fault c.args.op c.args.bytes.now c.args.at e c.in-C.is f) c.place_end.ensures.fault
