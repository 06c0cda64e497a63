use Rattle.std.proofs.Common.{map, string_bytes, subst, sym, Option, IfSome, Global}
use Rattle.std.proofs.lemmas.Result.{IfOk-weaker}
use Rattle.cp_words.specs.Commands.{IsWrittenCommand}
use Rattle.cp_words.specs.declared.command.Command.{Command}
use Rattle.cp_words.proofs.Written.{command_written}
use Rattle.cp_words.proofs.words.command_of.Goals as goal

pub returns-clause-written : goal.returns-clause-written
returns-clause-written c =
    let all = map (string_bytes {Z = Global}) c.args.words.now in
    let P : Option Command → Type 0 = λ o. IfSome o IsWrittenCommand in
    IfOk-weaker c.read_words.result _ _ (λ o h. subst P (sym h) (command_written all)) c.read_words.ensures
