use Rattle.cp_format.proofs.Contents.{plain_content}
use Rattle.cp_format.proofs.Operations.{plain_op, op_counted}
use Rattle.cp_format.proofs.Records.{plain_record}
use Rattle.cp_format.proofs.stated.laws.Goals as goal

pub returns : goal.returns
returns c = record { records = plain_record; contents = plain_content; operations = plain_op; lengths = op_counted }
