-- What the row of a record says of its place.
use Rattle.std.specs.Prelude.{◌≡◌}
use Rattle.cp_format.specs.Spelled.{IsSpelled}
use Rattle.cp_model.specs.Records.{mark_by}
use Rattle.cp_model.specs.declared.record.Record.{Record}
use Rattle.cp_model.specs.declared.record.RowMark.{RowMark as Mark}
use Rattle.cp_page.specs.Orders.{by_place}
use Rattle.cp_page.specs.declared.row.PageRow.{PageRow}

-- the row is that, in the order by place, of a record that says this
pub record Says (row : PageRow) (m : Mark) : Type 0 where
  pub said : Record
  pub spelled : IsSpelled said
  pub row_is : by_place said ≡ row
  pub mark_is : mark_by said.op said.src ≡ m
