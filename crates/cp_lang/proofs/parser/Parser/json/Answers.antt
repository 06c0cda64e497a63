use Rattle.cp_lang.specs.Grammar.{ended, json_file, json_load}
use Rattle.cp_lang.proofs.Steps.{stopped, at_json_file}
use Rattle.cp_lang.proofs.parser.Parser.json.Goals as goal

pub returns-in_err-file : goal.returns-in_err-file
returns-in_err-file c = record {
  reads =
      stopped _ _ (json_file c.args.name) ended _ _ c.from_residual.ensures.1
      (c.in_err-file.ensures.reads (json_file _) (λ f. ended (json_load c.args.name f)) (at_json_file c.args.name));
}

pub returns : goal.returns
returns c = record { reads = c.in_ok-file.ensures.reads (json_file _) (λ f. ended (json_load c.args.name f)) (at_json_file c.args.name) }
