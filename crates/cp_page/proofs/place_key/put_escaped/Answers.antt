use Rattle.cp_page.proofs.Growing.{grew_then}
use Rattle.cp_page.proofs.place_key.put_escaped.Goals as goal

pub returns-in_err-put_byte-clause-err : goal.returns-in_err-put_byte-clause-err
returns-in_err-put_byte-clause-err c = grew_then _ _ _ _ c.loop-byte.invariant.bytes c.put_byte.ensures.err
