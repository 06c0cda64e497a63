use Rattle.std.proofs.Common.{arith}
use Rattle.cp_format.specs.Parts.{source_format}
use Rattle.cp_page.proofs.OrderRows.{no_source, more_after, bad_byte}
use Rattle.cp_page.proofs.order.mark_of.Goals as goal

pub returns-in-Err-BadByte-source_at : goal.returns-in-Err-BadByte-source_at
returns-in-Err-BadByte-source_at c =
    no_source c.args.value.now c.in-Ok.read.0 c.in-Ok.read.1 c.in-Ok.ensures.read c.in-Err-BadByte-source_at.field-0-0
    (bad_byte (source_format c.in-Ok.read.0) c.args.value.now c.in-Ok.read.1 _ _ c.in-Err-BadByte-source_at.field-0-is c.in-Err-BadByte-source_at.ensures.fault)

pub returns-then-end-value : goal.returns-then-end-value
returns-then-end-value c =
    more_after c.args.value.now c.in-Ok.read.0 c.in-Ok.read.1 c.in-Ok.ensures.read c.in-Ok-source_at.read.0 c.in-Ok-source_at.read.1 c.in-Ok-source_at.ensures.read
    (λ e. let t = c.if-end-value.true in omega (arith, t, e))
