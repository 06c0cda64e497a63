-- A session: what each cut of the input replies, and the state that it leaves.
use Rattle.std.specs.Prelude.{List, []}
use Rattle.cp_model.specs.declared.op.Op.{Op}
use Rattle.cp_reply.specs.Session.{OpenTransaction, closed, going, failed}

-- ---- operations

-- the operations that are held
abbrev pub held : OpenTransaction → List Op
held closed = []
held (going ops) = ops
held (failed n c) = []
