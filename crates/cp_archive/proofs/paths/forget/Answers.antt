use Rattle.std.proofs.Common.{◌≡◌, ◌-◌, length, take, ap, ◌∙◌, rules}
use Rattle.std.specs.Vec.{vec_len}
use Rattle.cp_archive.proofs.Noted.{phases-popped, no-phases}
use Rattle.cp_archive.proofs.paths.forget.Goals as goal

pub returns-in-Some : goal.returns-in-Some
returns-in-Some c =
    let long : vec_len c.in-Some.phases.now ≡ length c.in-Some.phases.now.items = search rules in
    phases-popped c.args.paths.now (c.get_mut.follows.lender c.pop.new.self) c.in-Some.phases.now c.pop.new.self c.args.path.now c.in-Some.ensures.value (c.get_mut.follows.holds c.pop.new.self).0
    (c.pop.ensures.rest ∙ ap (λ n. take (n - 1) c.in-Some.phases.now.items) long)

pub returns-in_default : goal.returns-in_default
returns-in_default c = λ xs x e. absurd (no-phases c.args.paths.now c.args.path.now xs x c.in_default.ensures.value e)
