use Rattle.std.proofs.Common.{◌∙◌, ap, sym}
use Rattle.cp_lang.specs.Grammar.{ended, csv_file, csv_by}
use Rattle.cp_lang.specs.Parser.{reading}
use Rattle.cp_lang.proofs.Steps.{stopped, stopped_on, at_csv_file}
use Rattle.cp_lang.proofs.parser.Parser.csv.Goals as goal

pub returns-in_err-file : goal.returns-in_err-file
returns-in_err-file c = record {
  reads =
      stopped _ _ (csv_file c.args.name) ended _ _ c.from_residual.ensures.1
      (c.in_err-file.ensures.reads (csv_file _) (λ f. csv_by c.args.name f) (at_csv_file c.args.name));
}

pub returns-in_err-key : goal.returns-in_err-key
returns-in_err-key c = record {
  reads =
      stopped_on _ _ _ (csv_file c.args.name) (csv_by c.args.name c.in_ok-file.file) ended _ _ c.from_residual-in_err-key.ensures.1
      (c.in_ok-file.ensures.reads (csv_file _) (λ f. csv_by c.args.name f) (at_csv_file c.args.name))
      (c.in_err-key.ensures.reads c.args.name c.in_ok-file.file);
}

pub returns : goal.returns
returns c = record {
  reads =
      c.in_ok-file.ensures.reads (csv_file _) (λ f. csv_by c.args.name f) (at_csv_file c.args.name)
      ∙ c.in_ok-key.ensures.reads c.args.name c.in_ok-file.file
      ∙ ap (λ x. reading c.key_column.new.self (ended x)) (sym c.csv_load.ensures);
}
