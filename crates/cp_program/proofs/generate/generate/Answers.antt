use Rattle.std.proofs.Common.{false, refl, inl, inr, sym, ap, subst}
use Rattle.cp_reply.specs.Lines.{lines}
use Rattle.cp_interpreter.specs.Job.{is_refusal}
use Rattle.cp_interpreter.specs.Outside.{known_output}
use Rattle.cp_interpreter.specs.Story.{HasCauses}
use Rattle.cp_interpreter.specs.declared.end.End.TheVariants as how
use Rattle.cp_interpreter.proofs.Runs.{parts}
use Rattle.cp_interpreter.proofs.Opened.{causes-early-end}
use Rattle.cp_interpreter.proofs.Said.{causes-said, said-as, said-not-disk, said-short}
use Rattle.cp_program.proofs.generate.generate.Goals as goal

pub returns-in-Ok-clause-ran : goal.returns-in-Ok-clause-ran
returns-in-Ok-clause-ran g c = λ i f k.
    let r = c.in-Ok.reply in
    let comes = c.in-Ok.ensures in
    record {
      input = refl;
      files = refl;
      clock = refl;
      said = inr (r, comes, said-as (lines r) (lines r) (is_refusal r) false (known_output g.O.Sink c.args.output.now) (known_output g.O.Sink c.end_with.new.output) c.end_with.result refl (ap is_refusal comes.is) c.end_with.ensures.said);
    }

pub returns-in-Ok-clause-causes : goal.returns-in-Ok-clause-causes
returns-in-Ok-clause-causes g c = λ i f k.
    let r = c.in-Ok.reply in
    causes-said i f f k (known_output g.O.Sink c.args.output.now) (known_output g.O.Sink c.end_with.new.output) (lines r) (is_refusal r) c.end_with.result refl refl c.end_with.ensures.said c.end_with.ensures.cause

pub returns-in-Ok-clause-disk : goal.returns-in-Ok-clause-disk
returns-in-Ok-clause-disk g c =
    let r = c.in-Ok.reply in
    said-not-disk (lines r) (is_refusal r) (known_output g.O.Sink c.args.output.now) (known_output g.O.Sink c.end_with.new.output) c.end_with.result c.end_with.ensures.said

pub returns-in-Ok-clause-short : goal.returns-in-Ok-clause-short
returns-in-Ok-clause-short g c =
    let r = c.in-Ok.reply in
    said-short (lines r) (is_refusal r) (known_output g.O.Sink c.args.output.now) (known_output g.O.Sink c.end_with.new.output) c.end_with.result c.end_with.ensures.said

pub returns-in-Err-clause-ran : goal.returns-in-Err-clause-ran
returns-in-Err-clause-ran g c = λ i f k.
    record { input = refl; files = refl; clock = refl; said = inl (c.out_of_memory.ensures.end, c.out_of_memory.ensures.wrote) }

pub returns-in-Err-clause-causes : goal.returns-in-Err-clause-causes
returns-in-Err-clause-causes g c = λ i f k.
    let o = known_output g.O.Sink c.args.output.now in
    let p = known_output g.O.Sink c.out_of_memory.new.output in
    subst (λ e. HasCauses (parts i f k o) (parts i f k p) e) (sym c.out_of_memory.ensures.end) (causes-early-end i f k o p how.Memory (inr (inr refl)) c.out_of_memory.ensures.later)
