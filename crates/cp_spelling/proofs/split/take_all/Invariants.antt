use Rattle.std.proofs.Common.{◌≡◌, ◌++◌, ℕ, List, string_bytes}
use Rattle.std.specs.Str.{encode_utf8_all}
use Rattle.cp_spelling.specs.Scan.{pieces}
use Rattle.cp_spelling.proofs.split.take_all.Given as goal

abbrev pub invariant-loop-character : goal.invariant-loop-character
invariant-loop-character l = (rest : List ℕ) → l.splitter.done.items ++ pieces l.splitter.is_escape (string_bytes l.splitter.piece) rest ≡ l.initial.splitter.done.items ++ pieces l.initial.splitter.is_escape (string_bytes l.initial.splitter.piece) (encode_utf8_all l.yielded ++ rest)
