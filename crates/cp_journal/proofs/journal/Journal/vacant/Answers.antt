use Rattle.std.proofs.Common.{refl}
use Rattle.cp_journal.proofs.Faults.{disk_kinds, disk_accounts}
use Rattle.cp_journal.proofs.journal.Journal.vacant.Goals as goal

pub returns-in_err-is_vacant-clause-kinds : goal.returns-in_err-is_vacant-clause-kinds
returns-in_err-is_vacant-clause-kinds g c = disk_kinds c.from_residual.result c.in_err-is_vacant.field-0.0 c.from_residual.ensures.1

pub returns-in_err-is_vacant-clause-cause : goal.returns-in_err-is_vacant-clause-cause
returns-in_err-is_vacant-clause-cause g c = disk_accounts c.from_residual.result _ _ _ c.in_err-is_vacant.field-0.0 refl refl c.in_err-is_vacant.ensures.cause c.from_residual.ensures.1
