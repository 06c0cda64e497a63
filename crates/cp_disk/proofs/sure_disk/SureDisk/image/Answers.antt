use Rattle.std.proofs.Common.{rules, arith}
use Rattle.cp_disk.specs.Crashes.{LeavesImage}
use Rattle.cp_disk.specs.Edits.{calls_of}
use Rattle.cp_disk.specs.Images.{file_after}
use Rattle.cp_disk.proofs.Crashing.{left_image}
use Rattle.cp_disk.proofs.sure_disk.SureDisk.image.Goals as goal

pub returns-clause-image : goal.returns-clause-image
returns-clause-image c =
    let s = c.self.inside in
    let left : LeavesImage c.args.how (file_after s.first.items (calls_of s.log.items)) c.in_ok-left_by.field-0.items = search rules in
    rw (← c.self.view_is) (left_image _ _ c.args.how _ left)

pub returns-clause-few : goal.returns-clause-few
returns-clause-few c =
    let s = c.self.inside in
    let left : LeavesImage c.args.how (file_after s.first.items (calls_of s.log.items)) c.in_ok-left_by.field-0.items = search rules in
    let image = left_image s.first.items (calls_of s.log.items) c.args.how c.in_ok-left_by.field-0.items left in
    omega (arith, image.no_longer, c.self.invariant.few)
