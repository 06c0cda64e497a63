use Rattle.std.proofs.Common.{subst}
use Rattle.std.specs.Result.{result_map_both}
use Rattle.cp_path.specs.Answers.{Answers}
use Rattle.cp_model.specs.Place.{option_map}
use Rattle.cp_sources.specs.declared.csv_fault.CsvFault.TheVariants.{Memory}
use Rattle.cp_sources.proofs.Placing.{records_are}
use Rattle.cp_sources.proofs.load.tree_of_csv.Goals as goal

pub returns-clause-answers : goal.returns-clause-answers
returns-clause-answers g c =
    let key = option_map (λ k. k.now) c.args.key in
    let is = records_are c.args.bytes.now key _ c.records_of.ensures.all in
    subst (λ d. Answers Memory d (result_map_both g.R.TreeRep.contents (λ e. e) c.tree_of_records.result)) is c.tree_of_records.ensures.answers
