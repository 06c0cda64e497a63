use Rattle.std.proofs.Common.{◌≡◌, true}
use Rattle.cp_operation.proofs.OpRows.{copy-topped, itself-topped}
use Rattle.cp_operation.proofs.rows.push_copied.Goals as goal

pub returns-then-is_at-clause-ok : goal.returns-then-is_at-clause-ok
returns-then-is_at-clause-ok c = itself-topped c.args.tid c.args.from.now c.args.into.now c.args.rows.now (c.is_at.ensures.0 c.if-is_at.true)

pub returns-clause-ok : goal.returns-clause-ok
returns-clause-ok c =
    copy-topped c.push.result c.args.tid c.root-root.result c.args.from.now c.args.into.now _ _ (λ e. let k : c.is_at.result ≡ true = c.is_at.ensures.1 e in cc) c.root-root.ensures c.push.ensures.ok
