use Rattle.std.proofs.Common.{arith}
use Rattle.cp_record.proofs.Lengths.{ins_length, del_length, copy_length}
use Rattle.cp_record.proofs.length.op_length.Goals as goal

pub overflow_add-result-in-Ins-2 : goal.overflow_add-result-in-Ins-2
overflow_add-result-in-Ins-2 c = omega (arith, c.path_length.ensures, c.label_length.ensures, c.inserted_length.ensures)

pub returns-in-Ins-clause-length : goal.returns-in-Ins-clause-length
returns-in-Ins-clause-length c =
    omega (arith, ins_length c.args.op.now c.in-Ins.into c.in-Ins.label c.in-Ins.tree c.in-Ins.is, c.path_length.ensures, c.label_length.ensures, c.inserted_length.ensures)

pub returns-in-Ins-clause-bound : goal.returns-in-Ins-clause-bound
returns-in-Ins-clause-bound c =
    omega (arith, ins_length c.args.op.now c.in-Ins.into c.in-Ins.label c.in-Ins.tree c.in-Ins.is, c.path_length.ensures, c.label_length.ensures, c.inserted_length.ensures)

pub returns-in-Del-clause-length : goal.returns-in-Del-clause-length
returns-in-Del-clause-length c =
    omega (arith, del_length c.args.op.now c.in-Del.label c.in-Del.from c.in-Del.is, c.path_length-in-Del.ensures, c.label_length-in-Del.ensures)

pub returns-in-Del-clause-bound : goal.returns-in-Del-clause-bound
returns-in-Del-clause-bound c =
    omega (arith, del_length c.args.op.now c.in-Del.label c.in-Del.from c.in-Del.is, c.path_length-in-Del.ensures, c.label_length-in-Del.ensures)

pub returns-in-Copy-clause-length : goal.returns-in-Copy-clause-length
returns-in-Copy-clause-length c =
    omega (arith, copy_length c.args.op.now c.in-Copy.from c.in-Copy.into c.in-Copy.is, c.place_length.ensures, c.path_length-in-Copy.ensures)

pub returns-in-Copy-clause-bound : goal.returns-in-Copy-clause-bound
returns-in-Copy-clause-bound c =
    omega (arith, copy_length c.args.op.now c.in-Copy.from c.in-Copy.into c.in-Copy.is, c.place_length.ensures, c.path_length-in-Copy.ensures)
