use Rattle.std.proofs.Common.{sym, subst}
use Rattle.std.specs.Map.{lookup}
use Rattle.std.specs.declared.option.Option.TheVariants.{None}
use Rattle.cp_path.specs.Text.{text_eq}
use Rattle.cp_curators.specs.Curators.{Keeps}
use Rattle.cp_curators.specs.Desks.{no_desks}
use Rattle.cp_curators.proofs.DeskLaws.{none_begun}
use Rattle.cp_curators.proofs.curators.Curators.new.Goals as goal

pub returns-clause-stands : goal.returns-clause-stands
returns-clause-stands g c = λ ss sources. record {
  sources = sources;
  each = λ n. subst (λ es. Keeps g.R.TreeRep.contents ss (lookup (text_eq n) es) None) (sym c.new.ensures.empty) tt;
}

pub returns-clause-over : goal.returns-clause-over
returns-clause-over g c = λ ss t k n sources. (no_desks, returns-clause-stands g c ss sources, none_begun t k n)
