use Rattle.cp_operation.proofs.OpRows.{ins-topped, del-topped}
use Rattle.cp_operation.proofs.rows.push_top.Goals as goal

pub returns-in-Ins-clause-ok : goal.returns-in-Ins-clause-ok
returns-in-Ins-clause-ok c = ins-topped c.push_child.result c.args.tid c.in-Ins.into c.in-Ins.label c.in-Ins.tree c.args.op.now _ _ c.in-Ins.is c.push_child.ensures.ok

pub returns-in-Del-clause-ok : goal.returns-in-Del-clause-ok
returns-in-Del-clause-ok c = del-topped c.push_child-in-Del.result c.args.tid c.in-Del.from c.in-Del.label c.args.op.now _ _ c.in-Del.is c.push_child-in-Del.ensures.ok
