use Rattle.std.proofs.Common.{ap, sym, ◌∙◌}
use Rattle.std.specs.List.{starts_with as list_starts_with}
use Rattle.cp_path.specs.Text.{text_eq}
use Rattle.cp_path.proofs.Relating.{starts_with_lists}
use Rattle.cp_archive.proofs.Covering.{below-last-is}
use Rattle.cp_archive.proofs.places.is_below_last.Goals as goal

pub returns-in-Some : goal.returns-in-Some
returns-in-Some c =
    c.starts_with.ensures.value
    ∙ ap (λ xs. list_starts_with text_eq xs c.labels-in-Some.result.now) c.labels.ensures.labels
    ∙ ap (list_starts_with text_eq c.args.place.now) c.labels-in-Some.ensures.labels
    ∙ starts_with_lists c.args.place.now c.in-Some.other.now
    ∙ below-last-is c.args.others.now c.args.place.now c.in-Some.other.now (sym c.in-Some.ensures.value)
