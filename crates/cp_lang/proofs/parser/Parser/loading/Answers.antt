use Rattle.std.proofs.Common.{◌∙◌, inr, refl, codes}
use Rattle.cp_lang.specs.Grammar.{ended, load_name, load_form, json_file, csv_file}
use Rattle.cp_lang.specs.Tokenized.{shape_of}
use Rattle.cp_lang.proofs.Steps.{takes_load_form, stopped, stopped_on, joined, on, leads, refused, worded, unworded, form_json, form_csv, form_none, at_load_name}
use Rattle.cp_lang.proofs.parser.Parser.loading.Goals as goal

pub returns-in_err-name : goal.returns-in_err-name
returns-in_err-name c = record { reads = stopped _ _ load_name ended _ _ c.from_residual.ensures.1 (c.in_err-name.ensures.reads load_name (λ n. load_form n) at_load_name) }

pub returns-in_err-token : goal.returns-in_err-token
returns-in_err-token c = record {
  reads =
      stopped_on _ _ _ load_name (load_form c.in_ok-name.name) ended _ _ c.from_residual-in_err-token.ensures.1
      (c.in_ok-name.ensures.reads load_name (λ n. load_form n) at_load_name) (inr (c.in_err-token.ensures.reads (load_form c.in_ok-name.name) (λ n. refl)));
}

pub returns-then-is_word : goal.returns-then-is_word
returns-then-is_word c = record {
  reads =
      joined _ _ _ load_name (json_file c.in_ok-name.name) ended c.json.result
      (c.in_ok-name.ensures.reads load_name (λ n. load_form n) at_load_name
      ∙ leads _ c.token.new.self (load_form c.in_ok-name.name) (json_file c.in_ok-name.name) _ _ _ (c.in_ok-token.ensures.reads (load_form c.in_ok-name.name)) (takes_load_form c.in_ok-name.name _)
      (form_json c.in_ok-name.name (shape_of c.in_ok-token.token.shape) (worded (codes "json") (shape_of c.in_ok-token.token.shape) c.is_word.result (json_file c.in_ok-name.name) (c.is_word.ensures (json_file c.in_ok-name.name)) c.if-is_word.true)))
      c.json.ensures.reads;
}

pub returns-then-is_word-2 : goal.returns-then-is_word-2
returns-then-is_word-2 c = record {
  reads =
      joined _ _ _ load_name (csv_file c.in_ok-name.name) ended c.csv.result
      (c.in_ok-name.ensures.reads load_name (λ n. load_form n) at_load_name
      ∙ leads _ c.token.new.self (load_form c.in_ok-name.name) (csv_file c.in_ok-name.name) _ _ _ (c.in_ok-token.ensures.reads (load_form c.in_ok-name.name)) (takes_load_form c.in_ok-name.name _)
      (form_csv c.in_ok-name.name (shape_of c.in_ok-token.token.shape) (unworded (codes "json") (shape_of c.in_ok-token.token.shape) c.is_word.result (json_file c.in_ok-name.name) (c.is_word.ensures (json_file c.in_ok-name.name)) c.if-is_word.false) (worded (codes "csv") (shape_of c.in_ok-token.token.shape) c.is_word-2.result (csv_file c.in_ok-name.name) (c.is_word-2.ensures (csv_file c.in_ok-name.name)) c.if-is_word-2.true)))
      c.csv.ensures.reads;
}

pub returns : goal.returns
returns c = record {
  reads =
      on _ _ _ _ _ (c.in_ok-name.ensures.reads load_name (λ n. load_form n) at_load_name)
      (inr (refused _ c.token.new.self (load_form c.in_ok-name.name) _ _ _ (c.in_ok-token.ensures.reads (load_form c.in_ok-name.name)) (takes_load_form c.in_ok-name.name _)
      (form_none c.in_ok-name.name (shape_of c.in_ok-token.token.shape) (unworded (codes "json") (shape_of c.in_ok-token.token.shape) c.is_word.result (json_file c.in_ok-name.name) (c.is_word.ensures (json_file c.in_ok-name.name)) c.if-is_word.false) (unworded (codes "csv") (shape_of c.in_ok-token.token.shape) c.is_word-2.result (csv_file c.in_ok-name.name) (c.is_word-2.ensures (csv_file c.in_ok-name.name)) c.if-is_word-2.false))));
}
