use Rattle.std.proofs.Common.{◌∙◌, ap}
use Rattle.cp_lang.specs.Grammar.{ended, asked_place, query_of, asks_src, asks_hist, asks_mod, asks_trace, asks_from}
use Rattle.cp_lang.specs.Parser.{reading, after_verb}
use Rattle.cp_lang.proofs.Steps.{stopped_on, at_asked_place}
use Rattle.cp_lang.proofs.parser.Parser.after_verb.Goals as goal

pub returns-in_err-place-in-Src : goal.returns-in_err-place-in-Src
returns-in_err-place-in-Src c = record {
  reads =
      stopped_on _ c.args.self.now _ (after_verb c.args.verb) (asked_place asks_src) ended _ _ c.from_residual.ensures.1 (ap (λ v. reading c.args.self.now (after_verb v)) c.in-Src.is)
      (c.in_err-place-in-Src.ensures.reads (asked_place asks_src) (λ q. ended (query_of asks_src q)) (at_asked_place asks_src));
}

pub returns-in_ok-place-in-Src : goal.returns-in_ok-place-in-Src
returns-in_ok-place-in-Src c = record {
  reads =
      ap (λ v. reading c.args.self.now (after_verb v)) c.in-Src.is ∙ c.in_ok-place-in-Src.ensures.reads (asked_place asks_src) (λ q. ended (query_of asks_src q)) (at_asked_place asks_src);
}

pub returns-in_err-place-in-Hist : goal.returns-in_err-place-in-Hist
returns-in_err-place-in-Hist c = record {
  reads =
      stopped_on _ c.args.self.now _ (after_verb c.args.verb) (asked_place asks_hist) ended _ _ c.from_residual-in_err-place-in-Hist.ensures.1 (ap (λ v. reading c.args.self.now (after_verb v)) c.in-Hist.is)
      (c.in_err-place-in-Hist.ensures.reads (asked_place asks_hist) (λ q. ended (query_of asks_hist q)) (at_asked_place asks_hist));
}

pub returns-in_ok-place-in-Hist : goal.returns-in_ok-place-in-Hist
returns-in_ok-place-in-Hist c = record {
  reads =
      ap (λ v. reading c.args.self.now (after_verb v)) c.in-Hist.is ∙ c.in_ok-place-in-Hist.ensures.reads (asked_place asks_hist) (λ q. ended (query_of asks_hist q)) (at_asked_place asks_hist);
}

pub returns-in_err-place-in-Mod : goal.returns-in_err-place-in-Mod
returns-in_err-place-in-Mod c = record {
  reads =
      stopped_on _ c.args.self.now _ (after_verb c.args.verb) (asked_place asks_mod) ended _ _ c.from_residual-in_err-place-in-Mod.ensures.1 (ap (λ v. reading c.args.self.now (after_verb v)) c.in-Mod.is)
      (c.in_err-place-in-Mod.ensures.reads (asked_place asks_mod) (λ q. ended (query_of asks_mod q)) (at_asked_place asks_mod));
}

pub returns-in_ok-place-in-Mod : goal.returns-in_ok-place-in-Mod
returns-in_ok-place-in-Mod c = record {
  reads =
      ap (λ v. reading c.args.self.now (after_verb v)) c.in-Mod.is ∙ c.in_ok-place-in-Mod.ensures.reads (asked_place asks_mod) (λ q. ended (query_of asks_mod q)) (at_asked_place asks_mod);
}

pub returns-in_err-place-in-Trace : goal.returns-in_err-place-in-Trace
returns-in_err-place-in-Trace c = record {
  reads =
      stopped_on _ c.args.self.now _ (after_verb c.args.verb) (asked_place asks_trace) ended _ _ c.from_residual-in_err-place-in-Trace.ensures.1 (ap (λ v. reading c.args.self.now (after_verb v)) c.in-Trace.is)
      (c.in_err-place-in-Trace.ensures.reads (asked_place asks_trace) (λ q. ended (query_of asks_trace q)) (at_asked_place asks_trace));
}

pub returns-in_ok-place-in-Trace : goal.returns-in_ok-place-in-Trace
returns-in_ok-place-in-Trace c = record {
  reads =
      ap (λ v. reading c.args.self.now (after_verb v)) c.in-Trace.is ∙ c.in_ok-place-in-Trace.ensures.reads (asked_place asks_trace) (λ q. ended (query_of asks_trace q)) (at_asked_place asks_trace);
}

pub returns-in_err-place-in-From : goal.returns-in_err-place-in-From
returns-in_err-place-in-From c = record {
  reads =
      stopped_on _ c.args.self.now _ (after_verb c.args.verb) (asked_place asks_from) ended _ _ c.from_residual-in_err-place-in-From.ensures.1 (ap (λ v. reading c.args.self.now (after_verb v)) c.in-From.is)
      (c.in_err-place-in-From.ensures.reads (asked_place asks_from) (λ q. ended (query_of asks_from q)) (at_asked_place asks_from));
}

pub returns-in_ok-place-in-From : goal.returns-in_ok-place-in-From
returns-in_ok-place-in-From c = record {
  reads =
      ap (λ v. reading c.args.self.now (after_verb v)) c.in-From.is ∙ c.in_ok-place-in-From.ensures.reads (asked_place asks_from) (λ q. ended (query_of asks_from q)) (at_asked_place asks_from);
}
