use Rattle.cp_format.proofs.Names.{name_text_fails, name_text_reads, name_text_utf8}
use Rattle.cp_format.proofs.name.name_text_at.Goals as goal

pub returns-then-good-count-clause-fault : goal.returns-then-good-count-clause-fault
returns-then-good-count-clause-fault c =
    let e = c.name_bytes-good.ensures in
    name_text_fails c.args.bytes.now c.args.at c.args.count c.name_bytes-good.result c.requires.at c.requires.some c.requires.few e.there e.fit c.if-good-count.true (e.bad c.if-good-count.true)

pub unreachable-requires : goal.unreachable-requires
unreachable-requires c =
    let e = c.name_bytes-good.ensures in
    c.in-Err.ensures.cases.0 (name_text_utf8 c.args.bytes.now c.args.at c.args.count c.name_bytes-good.result c.requires.at c.requires.some c.requires.few e.there e.fit c.if-good-count.false)

pub returns-clause-read : goal.returns-clause-read
returns-clause-read c =
    let e = c.name_bytes-good.ensures in
    name_text_reads c.args.bytes.now c.args.at c.args.count c.name_bytes-good.result c.requires.at c.requires.some c.requires.few e.there e.fit c.if-good-count.false c.in-Ok.text.now c.in-Ok.ensures.cases.0
