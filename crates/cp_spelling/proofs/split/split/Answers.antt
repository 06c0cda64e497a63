use Rattle.std.proofs.Common.{◌++◌, [], ap, sym, ◌∙◌, append-nil, false, string_bytes}
use Rattle.cp_spelling.specs.Scan.{pieces}
use Rattle.cp_spelling.proofs.Pieces.{last_piece}
use Rattle.cp_spelling.proofs.split.split.Goals as goal

pub returns : goal.returns
returns c =
    let state = c.take_all.new.splitter in
    c.in_ok-push.ensures.items
    ∙ ap (λ v. state.done.items ++ v) (sym (last_piece state.is_escape (string_bytes state.piece)))
    ∙ c.in_ok-take_all.ensures []
    ∙ ap (λ v. v ++ pieces false (string_bytes c.new-2.result) (c.args.text.now ++ [])) c.new.ensures.items
    ∙ ap (λ a. pieces false a (c.args.text.now ++ [])) c.new-2.ensures.bytes
    ∙ ap (pieces false []) (append-nil c.args.text.now)
