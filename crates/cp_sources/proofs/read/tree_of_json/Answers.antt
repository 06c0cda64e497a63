use Rattle.std.proofs.Common.{sym, subst}
use Rattle.std.specs.Result.{result_map_both}
use Rattle.serde_json.specs.View.{view}
use Rattle.cp_path.specs.Answers.{Answers}
use Rattle.cp_sources.specs.declared.json_fault.JsonFault.TheVariants.{Memory}
use Rattle.cp_sources.proofs.Fitting.{json_is}
use Rattle.cp_sources.proofs.read.tree_of_json.Goals as goal

pub returns-clause-answers : goal.returns-clause-answers
returns-clause-answers g c =
    subst (λ d. Answers Memory d (result_map_both g.R.TreeRep.contents (λ e. e) c.tree_of_value.result)) (sym (json_is c.args.name.now c.args.bytes.now (view c.in_ok-value.value) (rw (← c.without_mark.ensures) c.in_ok-value.ensures.answers)))
    c.tree_of_value.ensures.answers
