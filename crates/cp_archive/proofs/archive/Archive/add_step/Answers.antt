use Rattle.std.proofs.Common.{◌≡◌, ◌+◌, ◌∙◌, length, sym, ap, arith}
use Rattle.cp_archive.proofs.Adding.{next-kept, same-kept, step-differs}
use Rattle.cp_archive.proofs.Noted.{on_err}
use Rattle.cp_archive.proofs.VersionTrees.{versions-length}
use Rattle.cp_archive.proofs.archive.Archive.add_step.Goals as goal

pub overflow_add-version : goal.overflow_add-version
overflow_add-version c =
    let long : c.self.inside.last + 1 ≡ length c.args.self.now = sym (versions-length c.self.inside.paths c.self.inside.last) ∙ ap length c.self.view_is in
    let few = c.requires.few in
    omega (arith, long, few)

pub note_step-requires : goal.note_step-requires
note_step-requires c = step-differs c.self.inside.paths c.self.inside.last c.self.inside.ranges c.args.touched.now c.requires.step.0 c.args.self.now c.self.view_is c.self.invariant c.requires.step.1

pub invariant_of-self : goal.invariant_of-self
invariant_of-self c = (same-kept c.self.inside.paths c.note_step.new.paths c.self.inside.last c.self.inside.ranges c.in_err-ranges.ensures.err c.self.invariant).1

pub returns-in_err-ranges-clause-err : goal.returns-in_err-ranges-clause-err
returns-in_err-ranges-clause-err c =
    on_err _ ((same-kept c.self.inside.paths c.note_step.new.paths c.self.inside.last c.self.inside.ranges c.in_err-ranges.ensures.err c.self.invariant).0 ∙ c.self.view_is)

pub invariant_of-self-2 : goal.invariant_of-self-2
invariant_of-self-2 c =
    (next-kept c.self.inside.paths c.note_step.new.paths c.self.inside.last c.self.inside.ranges c.in_ok-ranges.ranges c.args.touched.now c.requires.step.0 c.args.self.now c.self.view_is c.self.invariant c.requires.step.1
    c.in_ok-ranges.ensures.ok c.in_ok-ranges.ensures.ranges).1

pub returns-clause-ok : goal.returns-clause-ok
returns-clause-ok c = λ tree leads.
    (next-kept c.self.inside.paths c.note_step.new.paths c.self.inside.last c.self.inside.ranges c.in_ok-ranges.ranges c.args.touched.now tree c.args.self.now c.self.view_is c.self.invariant leads
    c.in_ok-ranges.ensures.ok c.in_ok-ranges.ensures.ranges).0

pub returns-clause-number : goal.returns-clause-number
returns-clause-number c = sym (versions-length c.self.inside.paths c.self.inside.last) ∙ ap length c.self.view_is
