use Rattle.std.proofs.Common.{[], ◌∷◌, inl, sym, ap, ◌∙◌}
use Rattle.std.specs.Option.{unwrap_or}
use Rattle.csv.specs.Reading.{owned_rows_reader, reader_state}
use Rattle.csv.specs.Records.{fields_of}
use Rattle.cp_sources.specs.Steps.{all_from}
use Rattle.cp_sources.proofs.Reading.{none_read, one_read}
use Rattle.cp_sources.proofs.records.next_record.Goals as goal

pub returns-in-None-clause-next : goal.returns-in-None-clause-next
returns-in-None-clause-next c =
    let given = c.requires.open in
    let a = owned_rows_reader c.args.records.now in
    let g = c.in-None.ensures.steps given.turns given.plain in
    ap (λ o. all_from (reader_state a) (unwrap_or o [])) given.bytes.1
    ∙ none_read a (owned_rows_reader c.next.new.self) [] given.bytes.0 given.config given.bytes.1 (g.0 given.ready)

pub returns-in-Some-Ok-clause-next : goal.returns-in-Some-Ok-clause-next
returns-in-Some-Ok-clause-next c =
    let given = c.requires.open in
    let a = owned_rows_reader c.args.records.now in
    let b = owned_rows_reader c.next.new.self in
    let f = fields_of c.in-Some-Ok.record in
    let g = rw c.in-Some-Ok.field-0-is at (c.in-Some-Ok.ensures.steps given.turns given.plain) in
    let m = one_read a b f given.bytes.0 given.config given.bytes.1 given.between (g.0 given.ready).0 in
    ap (λ o. all_from (reader_state a) (unwrap_or o [])) given.bytes.1 ∙ m.3 ∙ sym (ap (λ o. f ∷ all_from (reader_state b) (unwrap_or o [])) m.1)

pub returns-in-Some-Ok-clause-open : goal.returns-in-Some-Ok-clause-open
returns-in-Some-Ok-clause-open c =
    let given = c.requires.open in
    let a = owned_rows_reader c.args.records.now in
    let b = owned_rows_reader c.next.new.self in
    let g = rw c.in-Some-Ok.field-0-is at (c.in-Some-Ok.ensures.steps given.turns given.plain) in
    let s = g.0 given.ready in
    let m = one_read a b (fields_of c.in-Some-Ok.record) given.bytes.0 given.config given.bytes.1 given.between s.0 in
    record {
      turns = s.2;
      plain = s.0.3 ∙ given.plain;
      flexible = g.3 ∙ given.flexible;
      config = s.0.2 ∙ given.config;
      ready = inl s.1;
      between = m.2;
      bytes = (m.0, m.1);
    }
