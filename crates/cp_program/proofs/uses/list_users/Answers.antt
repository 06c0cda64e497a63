use Rattle.cp_program.proofs.uses.list_users.Goals as goal

pub returns-in-Ok : goal.returns-in-Ok
returns-in-Ok g c = λ h z. c.in-Ok.ensures.users z.state (c.into_parts-parts.ensures h z)
