use Rattle.std.proofs.Common.{◌==◌, not, sym, ap, ◌∙◌}
use Rattle.cp_frame.specs.OpReading.{has_children}
use Rattle.cp_model.specs.declared.literal.Literal.TheVariants as literal
use Rattle.cp_frame.proofs.PutOps.{edges_there}
use Rattle.cp_frame.proofs.operation.is_branch.Goals as goal

pub returns-in-Node : goal.returns-in-Node
returns-in-Node c =
    ap not (c.is_empty.ensures ∙ ap (λ n. n == 0) c.list.inside.items.ok.0)
    ∙ sym (edges_there c.list.inside.items.items) ∙ ap (λ r. has_children (literal.Node r)) c.list.view_is ∙ ap has_children (sym c.in-Node.is)
