use Rattle.std.proofs.Common.{◌≡◌, rules, sym}
use Rattle.cp_path.specs.Spelling.{whole_text}
use Rattle.cp_spelling.proofs.ValueLaws.{whole_reading_spelled}
use Rattle.cp_spelling.proofs.value.read_whole.Goals as goal

pub returns-then-eq-clause-reads : goal.returns-then-eq-clause-reads
returns-then-eq-clause-reads c =
    let is : c.args.word.now ≡ whole_text c.in-Some.whole = search rules in
    sym (whole_reading_spelled c.args.word.now c.in-Some.whole c.get.ensures.range is)
