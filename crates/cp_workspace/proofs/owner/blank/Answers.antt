use Rattle.std.proofs.Common.{◌∙◌, arith}
use Rattle.std.proofs.lemmas.List.{length-set}
use Rattle.cp_workspace.proofs.Owning.{blank-more}
use Rattle.cp_workspace.proofs.owner.blank.Goals as goal

pub loop-at-preserved : goal.loop-at-preserved
loop-at-preserved c =
    let few = c.requires in
    let more = c.loop-at-test.true in
    record {
      blanks = blank-more c.loop-at.at c.args.text.now c.loop-at.text (omega (arith, few, more)) c.loop-at.invariant.blanks;
      long = length-set c.loop-at.text c.loop-at.at 32 ∙ c.loop-at.invariant.long;
    }
