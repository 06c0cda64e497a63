use Rattle.std.proofs.Common.{◌∙◌, arith, []}
use Rattle.cp_tree_arena.proofs.Pooled.{taken_within, pool_taken, pool_added}
use Rattle.cp_tree_arena.proofs.pool.Pool.add.Goals as goal

pub index_mut-requires : goal.index_mut-requires
index_mut-requires c =
    omega (arith, taken_within c.args.self.now.slots.items c.args.self.now.free.items c.pop.new.self.items c.in-Some.at c.in-Some.ensures.items [] c.requires, c.args.self.now.slots.ok.0)

pub returns-in-Some-clause-ok : goal.returns-in-Some-clause-ok
returns-in-Some-clause-ok c cs p = pool_taken c.args.self.now.slots.items c.args.self.now.free.items c.pop.new.self.items c.in-Some.at c.in-Some.ensures.items cs p c.args.slot

pub returns-clause-ok : goal.returns-clause-ok
returns-clause-ok c cs p =
    pool_added c.args.self.now.slots.items c.push.new.self.items c.args.self.now.free.items c.pop.new.self.items c.len-number.result c.args.slot cs c.in_ok-push.ensures.items
    (c.len-number.ensures ∙ c.args.self.now.slots.ok.0) (omega (arith, c.if-number.false)) c.in_default.ensures.items p
