use Rattle.cp_spelling.proofs.WordLaws.{place_reads_back, place_spelled_once, place_read, place_refused, place_shape, label_reads_back, label_spelled_once, label_read, label_refused, label_shape}
use Rattle.cp_spelling.proofs.ValueLaws.{value_reads_back, value_spelled_once, value_read, value_refused, value_shape, string_reads_back}
use Rattle.cp_spelling.proofs.stated.laws.Goals as goal

pub returns-clause-places : goal.returns-clause-places
returns-clause-places c = record { reads_back = place_reads_back; spelled_once = place_spelled_once; read = place_read; refused = place_refused; shape = place_shape }

pub returns-clause-labels : goal.returns-clause-labels
returns-clause-labels c = record { reads_back = label_reads_back; spelled_once = label_spelled_once; read = label_read; refused = label_refused; shape = label_shape }

pub returns-clause-values : goal.returns-clause-values
returns-clause-values c = record { reads_back = value_reads_back; spelled_once = value_spelled_once; read = value_read; refused = value_refused; shape = value_shape }

pub returns-clause-strings : goal.returns-clause-strings
returns-clause-strings c = string_reads_back
