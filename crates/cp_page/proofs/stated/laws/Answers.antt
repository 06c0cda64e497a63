use Rattle.cp_page.proofs.Firsts.{first_keys_are_of_rows}
use Rattle.cp_page.proofs.KeyOrder.{place_keys_keep_order}
use Rattle.cp_page.proofs.Making.{cuts_hold_all}
use Rattle.cp_page.proofs.Respelling.{reads_nothing_else}
use Rattle.cp_page.proofs.Spelling.{reads_what_is_spelled}
use Rattle.cp_page.proofs.stated.laws.Goals as goal

pub returns : goal.returns
returns c = record { read = reads_what_is_spelled; only = reads_nothing_else; first = first_keys_are_of_rows; cuts = cuts_hold_all; order = place_keys_keep_order }
