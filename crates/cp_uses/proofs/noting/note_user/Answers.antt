use Rattle.cp_uses.proofs.Noted.{user-more}
use Rattle.cp_uses.proofs.noting.note_user.Goals as goal

pub returns : goal.returns
returns c = user-more c.args.users.now c.insert.new.self _ c.args.place.now c.in_ok-clone.ensures.cases c.in_ok-insert.ensures.updates.0
