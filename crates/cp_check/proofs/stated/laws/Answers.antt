use Rattle.cp_check.proofs.Fresh.{fresh_checkpoints_are_right}
use Rattle.cp_check.proofs.Older.{older_stores_stand}
use Rattle.cp_check.proofs.Openings.{each_opening_is_replay, files_tell_one_history}
use Rattle.cp_check.proofs.Storing.{stores_open, opening_is_replay, frames_add_their_entries, spare_slots_say_nothing, right_slots_add_nothing, versions_say_nothing}
use Rattle.cp_check.proofs.stated.laws.Goals as goal

pub returns-clause-older : goal.returns-clause-older
returns-clause-older c = older_stores_stand

pub returns-clause-one : goal.returns-clause-one
returns-clause-one c = files_tell_one_history

pub returns-clause-open : goal.returns-clause-open
returns-clause-open c = stores_open

pub returns-clause-replay : goal.returns-clause-replay
returns-clause-replay c = opening_is_replay

pub returns-clause-each : goal.returns-clause-each
returns-clause-each c = each_opening_is_replay

pub returns-clause-frames : goal.returns-clause-frames
returns-clause-frames c = frames_add_their_entries

pub returns-clause-spare : goal.returns-clause-spare
returns-clause-spare c = spare_slots_say_nothing

pub returns-clause-right : goal.returns-clause-right
returns-clause-right c = right_slots_add_nothing

pub returns-clause-versions : goal.returns-clause-versions
returns-clause-versions c = versions_say_nothing

pub returns-clause-fresh : goal.returns-clause-fresh
returns-clause-fresh c = fresh_checkpoints_are_right
