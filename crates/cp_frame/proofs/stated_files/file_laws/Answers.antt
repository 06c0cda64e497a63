use Rattle.cp_frame.proofs.Images.{files_open, legal_history, one_history, opens-replays, told-weaker}
use Rattle.cp_frame.proofs.Standing.{tell-newer}
use Rattle.cp_frame.proofs.Stopping.{stopped-not, stops-once}
use Rattle.cp_frame.proofs.stated_files.file_laws.Goals as goal

pub returns-clause-one : goal.returns-clause-one
returns-clause-one c = one_history

pub returns-clause-legal : goal.returns-clause-legal
returns-clause-legal c = legal_history

pub returns-clause-right : goal.returns-clause-right
returns-clause-right c = told-weaker

pub returns-clause-open : goal.returns-clause-open
returns-clause-open c = files_open

pub returns-clause-replay : goal.returns-clause-replay
returns-clause-replay c = opens-replays

pub returns-clause-stopped : goal.returns-clause-stopped
returns-clause-stopped c = stopped-not

pub returns-clause-once : goal.returns-clause-once
returns-clause-once c = stops-once

pub returns-clause-versions : goal.returns-clause-versions
returns-clause-versions c = tell-newer
