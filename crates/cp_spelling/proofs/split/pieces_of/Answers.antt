use Rattle.std.proofs.Common.{ap, ◌∙◌, [], false, string_bytes}
use Rattle.cp_spelling.specs.Scan.{pieces}
use Rattle.cp_spelling.proofs.Pieces.{label_pieces, place_pieces}
use Rattle.cp_spelling.proofs.split.pieces_of.Goals as goal

pub returns-clause-label : goal.returns-clause-label
returns-clause-label c = label_pieces (string_bytes c.in_ok-text.text) c.in_ok-pieces.pieces.items c.args.word.now (c.in_ok-pieces.ensures ∙ ap (pieces false []) c.as_str.ensures.value) c.in_ok-text.ensures

pub returns-clause-place : goal.returns-clause-place
returns-clause-place c = place_pieces (string_bytes c.in_ok-text.text) c.in_ok-pieces.pieces.items c.args.word.now (c.in_ok-pieces.ensures ∙ ap (pieces false []) c.as_str.ensures.value) c.in_ok-text.ensures
