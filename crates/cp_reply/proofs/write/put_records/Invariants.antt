use Rattle.std.proofs.Common.{◌≡◌, ◌++◌, take, flat_map}
use Rattle.cp_reply.specs.Front.{Begins}
use Rattle.cp_reply.specs.Lines.{line_for, record_text}
use Rattle.cp_reply.proofs.write.put_records.Given as goal

abbrev pub invariant-loop-entry : goal.invariant-loop-entry
invariant-loop-entry l = record {
  put : l.out.items ≡ l.fn.out.items ++ flat_map (λ x. line_for l.whose (record_text x)) (take l.entry-index l.records);
  front : Begins l.fn.out.items l.out.items;
}
