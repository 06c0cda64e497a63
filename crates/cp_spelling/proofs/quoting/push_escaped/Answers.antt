use Rattle.cp_spelling.proofs.Writing.{escaped_step}
use Rattle.cp_spelling.proofs.quoting.push_escaped.Goals as goal

pub loop-character-preserved : goal.loop-character-preserved
loop-character-preserved c = escaped_step _ _ _ _ _ c.loop-character.invariant c.in_ok-push_character.ensures
