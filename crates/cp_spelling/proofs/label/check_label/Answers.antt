use Rattle.cp_spelling.proofs.Words.{label_checked}
use Rattle.cp_spelling.proofs.label.check_label.Goals as goal

pub returns : goal.returns
returns c = label_checked c.as_bytes.result.now c.args.word.now c.scan.result c.as_bytes.ensures.value c.scan.ensures
