use Rattle.std.proofs.Common.{◌≡◌, ◌+◌, ◌≤◌, ◌∙◌, length, sym, ap, arith}
use Rattle.std.specs.Option.{option_map}
use Rattle.std.specs.List.{slice_get}
use Rattle.std.specs.declared.option.Option.TheVariants.{Some}
use Rattle.std.proofs.lemmas.Result.{IfOk-weaker}
use Rattle.cp_archive.specs.Trees.{rows_of_tree}
use Rattle.cp_archive.proofs.VersionTrees.{versions-length, versions-at}
use Rattle.cp_archive.proofs.archive.Archive.rows_at.Goals as goal

pub returns : goal.returns
returns c =
    let long : c.self.inside.last + 1 ≡ length c.args.self.now = sym (versions-length c.self.inside.paths c.self.inside.last) ∙ ap length c.self.view_is in
    let within : c.args.version ≤ c.self.inside.last = (let few = c.requires in omega (arith, few, long)) in
    IfOk-weaker c.rows_of.result _ _
    (λ v h.
    ap (λ ts. option_map rows_of_tree (slice_get ts c.args.version)) (sym c.self.view_is)
    ∙ ap (option_map rows_of_tree) (versions-at c.self.inside.paths c.self.inside.last c.args.version within)
    ∙ ap (λ rs. Some rs) (sym h))
    c.rows_of.ensures
