use Rattle.std.proofs.Common.{◌++◌, ap, ◌∙◌, string_bytes}
use Rattle.std.specs.Char.{encode_utf8}
use Rattle.cp_spelling.specs.Scan.{pieces}
use Rattle.cp_spelling.proofs.Pieces.{split_step}
use Rattle.cp_spelling.proofs.split.take_all.Goals as goal

pub loop-character-preserved : goal.loop-character-preserved
loop-character-preserved c = λ rest.
    let first = c.args.splitter.now in
    c.in_ok-take.ensures rest ∙ c.loop-character.invariant (encode_utf8 c.in-Some.character ++ rest)
    ∙ ap (λ v. first.done.items ++ pieces first.is_escape (string_bytes first.piece) v) (split_step c.loop-character.yielded rest c.in-Some.character)
