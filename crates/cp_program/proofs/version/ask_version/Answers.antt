use Rattle.cp_frame.specs.Stands.{OpensAndReplays}
use Rattle.cp_program.specs.Versions.{IsAnswerAt}
use Rattle.cp_interpreter.specs.Outside.{known_output}
use Rattle.cp_program.proofs.Answered.{answered-end, causes-answer, disk-answer, short-answer}
use Rattle.cp_program.proofs.version.ask_version.Goals as goal

pub returns-clause-ran : goal.returns-clause-ran
returns-clause-ran g c = λ i f k.
    let met = c.reply_to_version-answer.ensures in
    answered-end OpensAndReplays (IsAnswerAt c.args.tid c.args.asked) i f k (known_output g.O.Sink c.args.output.now) (known_output g.O.Sink c.give_answer.new.output)
    (g.D.Disk.known c.args.disk.now) (g.D.Disk.known c.reply_to_version-answer.new.disk) c.reply_to_version-answer.result c.give_answer.result met.kinds met.answered met.rests c.give_answer.ensures.gave

pub returns-clause-causes : goal.returns-clause-causes
returns-clause-causes g c = λ i f k.
    let kinds = c.reply_to_version-answer.ensures.kinds in
    causes-answer i f k (known_output g.O.Sink c.args.output.now) (known_output g.O.Sink c.give_answer.new.output) c.reply_to_version-answer.result c.give_answer.result kinds c.give_answer.ensures.gave (c.give_answer.ensures.cause kinds)

pub returns-clause-disk : goal.returns-clause-disk
returns-clause-disk g c =
    let met = c.reply_to_version-answer.ensures in
    disk-answer (g.D.Disk.known c.args.disk.now) (g.D.Disk.known c.reply_to_version-answer.new.disk) (known_output g.O.Sink c.args.output.now) (known_output g.O.Sink c.give_answer.new.output)
    c.reply_to_version-answer.result c.give_answer.result met.kinds c.give_answer.ensures.gave met.cause

pub returns-clause-short : goal.returns-clause-short
returns-clause-short g c =
    short-answer (known_output g.O.Sink c.args.output.now) (known_output g.O.Sink c.give_answer.new.output) c.reply_to_version-answer.result c.give_answer.result c.reply_to_version-answer.ensures.kinds c.give_answer.ensures.gave
