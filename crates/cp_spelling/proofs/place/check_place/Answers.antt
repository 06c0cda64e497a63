use Rattle.cp_spelling.proofs.Words.{place_checked}
use Rattle.cp_spelling.proofs.place.check_place.Goals as goal

pub returns : goal.returns
returns c = place_checked c.as_bytes.result.now c.args.word.now c.scan.result c.as_bytes.ensures.value c.scan.ensures
