use Rattle.std.proofs.Common.{◌≡◌, true, length, inr, rules}
use Rattle.std.specs.List.{list_any}
use Rattle.csv.specs.Records.{fields_of}
use Rattle.cp_sources.specs.CsvTrees.{is_long_text}
use Rattle.cp_sources.specs.Steps.{key_of}
use Rattle.cp_sources.proofs.Lists.{fault_text}
use Rattle.cp_sources.proofs.row.row_of.Goals as goal

pub returns-then-has_longer-clause-told : goal.returns-then-has_longer-clause-told
returns-then-has_longer-clause-told c =
    let hs = c.args.columns.now.labels.items in
    let fs = fields_of c.args.raw in
    let even : length fs ≡ length hs = search rules in
    let long : list_any is_long_text fs ≡ true = search rules in
    inr (fault_text hs (key_of hs c.args.columns.now.key) c.args.number fs even c.in-Some.ensures.0 long)
