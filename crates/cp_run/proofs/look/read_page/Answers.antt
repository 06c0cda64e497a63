use Rattle.std.proofs.Common.{rules, arith, ◌≡◌, ◌∙◌, ap, refl, List, ℕ, length, take, drop}
use Rattle.cp_disk.proofs.Composing.{still, rests_then}
use Rattle.cp_run.proofs.Faults.{disk_accounts, disk_not_bad}
use Rattle.cp_run.proofs.look.read_page.Goals as goal

pub returns-in_err-size-clause-bad : goal.returns-in_err-size-clause-bad
returns-in_err-size-clause-bad g c = λ known n is. absurd (disk_not_bad c.from_residual.result c.in_err-size.field-0.0 n c.from_residual.ensures.1 is)

pub returns-in_err-size-clause-cause : goal.returns-in_err-size-clause-cause
returns-in_err-size-clause-cause g c = disk_accounts c.from_residual.result _ _ _ c.in_err-size.field-0.0 refl refl c.in_err-size.ensures.cause c.from_residual.ensures.1

pub returns-in_err-read-clause-bad : goal.returns-in_err-read-clause-bad
returns-in_err-read-clause-bad g c = λ known n is. absurd (disk_not_bad c.from_residual-in_err-read.result c.in_err-read.field-0.0 n c.from_residual-in_err-read.ensures.1 is)

pub returns-in_err-read-clause-cause : goal.returns-in_err-read-clause-cause
returns-in_err-read-clause-cause g c = disk_accounts c.from_residual-in_err-read.result _ _ _ c.in_err-read.field-0.0 (search rules) (search rules) c.in_err-read.ensures.cause c.from_residual-in_err-read.ensures.1

pub returns-clause-page : goal.returns-clause-page
returns-clause-page g c = λ known.
    let sized = c.in_ok-size.ensures.sized known in
    let filled = c.in_ok-read.ensures.filled (still c.in_ok-size.ensures.cause.same known) in
    let long : length c.read.new.into ≡ 4096 = search rules in
    record {
      bytes = filled.bytes ∙ ap (λ (k : ℕ). take k (drop c.args.at (g.D.Disk.known c.size.new.self).view.content)) long
          ∙ ap (λ (l : List ℕ). take 4096 (drop c.args.at l)) sized.rests.content;
      within = omega (arith, c.if-branch-at.false, sized.size);
    }

pub returns-clause-rests : goal.returns-clause-rests
returns-clause-rests g c = λ known. rests_then _ _ _ (c.in_ok-size.ensures.sized known).rests (c.in_ok-read.ensures.filled (still c.in_ok-size.ensures.cause.same known)).rests

pub returns-in_err-read-clause-rests : goal.returns-in_err-read-clause-rests
returns-in_err-read-clause-rests g c = λ known. rests_then _ _ _ (c.in_ok-size.ensures.sized known).rests (c.in_err-read.ensures.filled (still c.in_ok-size.ensures.cause.same known)).rests
