use Rattle.std.proofs.Common.{sym, subst, arith}
use Rattle.std.specs.Prelude.{IfOk, nat_lt}
use Rattle.cp_words.specs.declared.command.Asked.{Asked}
use Rattle.cp_words.specs.declared.command.Asked.TheVariants as of_version
use Rattle.cp_program.specs.Versions.{TellsVersion}
use Rattle.cp_program.proofs.Versioned.{tells-none, tells-version}
use Rattle.cp_program.proofs.version.reply_of_version.Goals as goal

pub returns-then-tid-last : goal.returns-then-tid-last
returns-then-tid-last g c = λ right h items k. tells-none right h items c.args.kept k c.args.tid c.args.asked c.last.result c.last.ensures (omega arith)

pub returns-in-Ask : goal.returns-in-Ask
returns-in-Ask g c = λ right h items k.
    subst (λ (a : Asked). IfOk c.answer_at.result (TellsVersion (nat_lt k.state.now c.args.tid) right c.args.tid a h)) (sym c.in-Ask.is)
    (tells-version right h items c.args.kept k c.args.tid (of_version.Ask c.in-Ask.query) c.answer_at.result (omega arith) (λ z is. c.answer_at.ensures right h items z k is))

pub returns-in-Show : goal.returns-in-Show
returns-in-Show g c = λ right h items k.
    subst (λ (a : Asked). IfOk c.show_at.result (TellsVersion (nat_lt k.state.now c.args.tid) right c.args.tid a h)) (sym c.in-Show.is)
    (tells-version right h items c.args.kept k c.args.tid (of_version.Show c.in-Show.place) c.show_at.result (omega arith) (λ z is. c.show_at.ensures right h items z k is))
