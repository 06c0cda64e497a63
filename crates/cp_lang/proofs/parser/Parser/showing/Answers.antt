use Rattle.std.proofs.Common.{◌∙◌, ap}
use Rattle.cp_lang.specs.Grammar.{Move, refused_or, goes, ended, show_place}
use Rattle.cp_lang.specs.declared.syntax_tree.Stmt.TheVariants as stmt
use Rattle.cp_lang.specs.Parser.{reading}
use Rattle.cp_lang.specs.Tokenized.{shape_of}
use Rattle.cp_lang.proofs.Steps.{takes_show_place, stopped, fails_stops}
use Rattle.cp_lang.proofs.parser.Parser.showing.Goals as goal

pub returns-in_err-place_of-in-Some : goal.returns-in_err-place_of-in-Some
returns-in_err-place_of-in-Some c = record {
  reads =
      stopped _ _ show_place ended _ _ c.from_residual-in_err-place_of-in-Some.ensures.1
      (fails_stops _ c.next.new.self show_place _ _ _ _ (c.in-Some.ensures.more show_place) (takes_show_place _) (c.in_err-place_of-in-Some.ensures.reads (λ q. goes (ended (stmt.Show q)))));
}

pub returns-in_ok-place_of-in-Some : goal.returns-in_ok-place_of-in-Some
returns-in_ok-place_of-in-Some c = record {
  reads =
      c.in-Some.ensures.more show_place ∙ ap (λ (u : Move). refused_or u c.in-Some.token.at (reading c.next.new.self)) (takes_show_place (shape_of c.in-Some.token.shape) ∙ c.in_ok-place_of-in-Some.ensures.reads (λ q. goes (ended (stmt.Show q))));
}
