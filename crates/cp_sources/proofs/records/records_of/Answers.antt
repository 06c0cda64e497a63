use Rattle.std.proofs.Common.{◌≡◌, true, false, inr, refl, ap, ◌∙◌, rules}
use Rattle.csv.specs.Reading.{strip_bom, with_flexible, with_names_headers}
use Rattle.csv.specs.Machine.{ends_at_end}
use Rattle.cp_sources.specs.Steps.{all_from}
use Rattle.cp_sources.proofs.records.records_of.Goals as goal

pub returns-clause-open : goal.returns-clause-open
returns-clause-open c =
    let fr = c.from_reader.ensures in
    let set : c.flexible.result.now ≡ with_flexible (with_names_headers c.new.result false) true = search rules in
    rw c.into_byte_records.ensures.rdr (record {
      turns = c.into_byte_records.ensures.left;
      plain = rw set at fr.trim ∙ c.new.ensures.trim;
      flexible = rw set at fr.flexible;
      config = rw set at fr.config ∙ c.new.ensures.config;
      ready = inr (inr (rw set at fr.has_headers, fr.headers));
      between = ap ends_at_end fr.state;
      bytes = (strip_bom c.args.bytes.now, fr.source);
    })

pub returns-clause-all : goal.returns-clause-all
unfolding all_from
returns-clause-all c =
    let fr = c.from_reader.ensures in
    rw (c.into_byte_records.ensures.rdr, fr.state, fr.source) refl
