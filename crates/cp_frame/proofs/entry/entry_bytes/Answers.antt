use Rattle.std.proofs.Common.{◌++◌, ◌∙◌, ap}
use Rattle.cp_frame.specs.Entries.{written_entry}
use Rattle.cp_frame.proofs.SpelledEntries.{entry_spelled}
use Rattle.cp_frame.proofs.entry.entry_bytes.Goals as goal

pub returns : goal.returns
returns c =
    let put = c.in_ok-put_entry.ensures in
    entry_spelled c.args.entry.now c.put_entry.new.out.items c.requires (put.0, put.1, put.2 ∙ ap (λ l. l ++ written_entry put.0) c.new-out.ensures.items, put.3)
