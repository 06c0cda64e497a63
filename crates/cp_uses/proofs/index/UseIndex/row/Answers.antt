use Rattle.std.proofs.Common.{◌≡◌, ◌<◌, sym, subst, length}
use Rattle.std.specs.List.{slice_get}
use Rattle.std.specs.declared.option.Option.TheVariants.{Some}
use Rattle.cp_uses.proofs.index.UseIndex.row.Goals as goal

pub row_of-requires : goal.row_of-requires
row_of-requires c = subst (λ rs. c.args.number < length rs) (sym c.self.view_is) c.requires

pub returns : goal.returns
returns c = subst (λ rs. slice_get rs c.args.number ≡ Some c.row_of.result.now) c.self.view_is c.row_of.ensures
