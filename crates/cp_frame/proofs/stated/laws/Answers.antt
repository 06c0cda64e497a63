use Rattle.cp_frame.proofs.AtOnce.{judged_at_once}
use Rattle.cp_frame.proofs.EntryForms.{plain_entry}
use Rattle.cp_frame.proofs.LegalTrees.{legal_spelled, written_legal}
use Rattle.cp_frame.proofs.Lengths.{batch_counted, trees_light, trees_measured}
use Rattle.cp_frame.proofs.SameRows.{rows_tell}
use Rattle.cp_frame.proofs.SoundEntries.{ops_written}
use Rattle.cp_frame.proofs.Sources.{sources_legal, sources_spelled}
use Rattle.cp_frame.proofs.TreeFormats.{plain_tree}
use Rattle.cp_frame.proofs.stated.laws.Goals as goal

pub returns-clause-trees : goal.returns-clause-trees
returns-clause-trees c = plain_tree

pub returns-clause-one : goal.returns-clause-one
returns-clause-one c = rows_tell

pub returns-clause-legal : goal.returns-clause-legal
returns-clause-legal c = written_legal

pub returns-clause-spelled : goal.returns-clause-spelled
returns-clause-spelled c = legal_spelled

pub returns-clause-entries : goal.returns-clause-entries
returns-clause-entries c = plain_entry

pub returns-clause-counted : goal.returns-clause-counted
returns-clause-counted c = batch_counted

pub returns-clause-sources : goal.returns-clause-sources
returns-clause-sources c = sources_legal

pub returns-clause-named : goal.returns-clause-named
returns-clause-named c = sources_spelled

pub returns-clause-written : goal.returns-clause-written
returns-clause-written c = ops_written

pub returns-clause-measured : goal.returns-clause-measured
returns-clause-measured c = trees_measured

pub returns-clause-light : goal.returns-clause-light
returns-clause-light c = trees_light

pub returns-clause-judged : goal.returns-clause-judged
returns-clause-judged c = judged_at_once
