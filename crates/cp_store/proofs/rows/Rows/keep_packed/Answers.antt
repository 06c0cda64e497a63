use Rattle.std.proofs.Common.{◌≡◌, ◌+◌, true, subst}
use Rattle.std.specs.Prelude.{nat_lt}
use Rattle.std.specs.List.{list_all}
use Rattle.cp_store.proofs.Keeping.{stored-later}
use Rattle.cp_store.proofs.PackedRows.{next-behind}
use Rattle.cp_store.proofs.rows.Rows.keep_packed.Goals as goal

pub invariant_of-self : goal.invariant_of-self
invariant_of-self c = let s = c.self.inside in stored-later s.full.items s.last s.count s.upto c.args.tids s.index s.lost c.self.invariant

pub keep_one-requires-clause-behind : goal.keep_one-requires-clause-behind
keep_one-requires-clause-behind c =
    let old = c.args.self.now in
    let none_later : list_all (λ r. nat_lt r.tid (old.upto + 1)) old.list ≡ true = subst (λ v. list_all (λ r. nat_lt r.tid (v.upto + 1)) v.list ≡ true) c.self.view_is c.self.invariant.kept.old in
    next-behind old.list c.loop-row.self.list c.args.rows.now c.loop-row.rest c.next.new.self c.in-Some.row c.in-Some.ensures c.loop-row.invariant.kept old.upto (old.upto + c.args.tids) c.requires.next none_later
