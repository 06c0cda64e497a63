use Rattle.cp_path.proofs.EncodingLemmas.{none_begins_another}
use Rattle.cp_path.proofs.stated.laws.Goals as goal

pub returns : goal.returns
returns c = record { stored = none_begins_another }
