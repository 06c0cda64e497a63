use Rattle.std.proofs.Common.{◌≡◌, ◌++◌, [], ◌∷◌, rules}
use Rattle.cp_model.specs.History.{log_line}
use Rattle.cp_operation.specs.Loaded.{sources_in}
use Rattle.cp_db.proofs.Logging.{if-any, log-commit}
use Rattle.cp_db.proofs.log.LoggingWork.commit.Goals as goal

pub returns-clause-done : goal.returns-clause-done
returns-clause-done g c = λ first place items s x done at.
    let added : c.push.new.self.items ≡ c.args.self.now.lines ++ log_line c.args.kind c.args.last c.args.commit.stamp c.args.commit.ops ∷ [] = search rules in
    if-any c.replay_commit.result
    (log-commit c.args.self.now.lines c.push.new.self.items (record { first = first; place = place }) items s x c.args.commit
    (record { kind = c.args.kind; last = c.args.last; sources = sources_in g.S.TreeRep.contents c.args.sources.now; tree = g.R.TreeRep.contents c.args.tree.now }) done at added)
