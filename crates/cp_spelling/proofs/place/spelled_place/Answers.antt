use Rattle.cp_spelling.proofs.Words.{place_fault, place_made}
use Rattle.cp_spelling.proofs.place.spelled_place.Goals as goal

pub returns-clause-fault : goal.returns-clause-fault
returns-clause-fault c = place_fault c.place_of.result c.as_slice.result.now c.in_ok-pieces.pieces.items c.args.word.now c.as_slice.ensures.value (c.in_ok-pieces.ensures.place c.requires) c.place_of.ensures.fault

pub returns-clause-reads : goal.returns-clause-reads
returns-clause-reads c = place_made c.args.word.now c.as_slice.result.now c.in_ok-pieces.pieces.items c.place_of.result c.as_slice.ensures.value (c.in_ok-pieces.ensures.place c.requires) c.place_of.ensures.value c.place_of.ensures.within
