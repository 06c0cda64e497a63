use Rattle.std.proofs.Common.{◌∙◌, ap, Some}
use Rattle.cp_page.proofs.Cases.{read_some, read_none}
use Rattle.cp_paged.proofs.SameRecords.{read-says, read-some}
use Rattle.cp_paged.proofs.marks.mark_of_row.Goals as goal

pub returns-in-Some : goal.returns-in-Some
returns-in-Some c = λ m says. ap Some (c.mark_of.ensures ∙ read-says c.args.row.now c.as_slice-key.result.now c.as_slice.result.now c.in-Some.record m c.as_slice-key.ensures c.as_slice.ensures (read_some _ _ _ _ _ c.in-Some.is c.in_ok-record.ensures) says)

pub returns-in-None : goal.returns-in-None
returns-in-None c = λ m says. absurd (read-some c.args.row.now c.as_slice-key.result.now c.as_slice.result.now m c.as_slice-key.ensures c.as_slice.ensures (read_none _ _ _ _ c.in-None.is c.in_ok-record.ensures) says)
