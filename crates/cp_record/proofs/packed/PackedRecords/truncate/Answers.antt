use Rattle.std.proofs.Common.{◌∙◌}
use Rattle.cp_record.proofs.Decoded.{packed-front, records_in-front}
use Rattle.cp_record.proofs.packed.PackedRecords.truncate.Goals as goal

pub invariant_of-self : goal.invariant_of-self
invariant_of-self c = packed-front c.self.inside.bytes.items c.truncate.new.self.items c.requires.front c.requires.behind c.args.len c.self.invariant (c.self.view_is ∙ c.requires.all) c.requires.bytes c.truncate.ensures.items

pub returns : goal.returns
returns c = λ rs qs e n. records_in-front c.self.inside.bytes.items c.truncate.new.self.items rs qs c.args.len c.self.invariant (c.self.view_is ∙ e) n c.truncate.ensures.items
