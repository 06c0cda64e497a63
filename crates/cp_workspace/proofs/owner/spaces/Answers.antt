use Rattle.std.proofs.Common.{◌∙◌, arith}
use Rattle.cp_workspace.proofs.Owning.{first-spaces, spaces-within}
use Rattle.cp_workspace.proofs.owner.spaces.Goals as goal

pub returns-clause-is : goal.returns-clause-is
returns-clause-is c = c.first_offset.ensures ∙ first-spaces c.args.text.now

pub returns-clause-within : goal.returns-clause-within
returns-clause-within c =
    let is = c.first_offset.ensures in
    let first = first-spaces c.args.text.now in
    let few = spaces-within c.args.text.now in
    omega (arith, is, first, few)
