use Rattle.std.proofs.Common.{arith}
use Rattle.cp_host.proofs.Reading.{reads_too_long}
use Rattle.cp_host.proofs.files.read_front.Goals as goal

pub returns : goal.returns
returns g c = reads_too_long (g.F.Read.remaining c.args.file) c.saturating_add.result c.args.limit c.read_to_end.new.buf.items c.truncate.new.self.items (rw (c.clear.ensures.items, c.take.ensures.limit, c.take.ensures.inner) at c.in_ok-read_to_end.ensures.bytes) (omega arith) (omega (arith, c.saturating_add.ensures)) c.truncate.ensures.items
