use Rattle.std.proofs.Common.{◌+◌, cond, ap, ◌∙◌}
use Rattle.cp_gen.proofs.Answered.{answered-at, answered-database, answered-then}
use Rattle.cp_gen.proofs.summary.with_place.Goals as goal

pub copies_at-requires : goal.copies_at-requires
copies_at-requires g c = record { stands = answered-database g.R.TreeRep.contents g.S.TreeRep.contents c.args.db.now c.is_born.new.db c.is_born.ensures.same c.requires.stands }

pub returns-in_err-more-clause-same : goal.returns-in_err-more-clause-same
returns-in_err-more-clause-same g c = answered-then g.R.TreeRep.contents g.S.TreeRep.contents c.args.db.now c.is_born.new.db c.is_born.ensures.same c.copies_at.new.db c.copies_at.ensures.same

pub returns-in_default-clause-same : goal.returns-in_default-clause-same
returns-in_default-clause-same g c = answered-then g.R.TreeRep.contents g.S.TreeRep.contents c.args.db.now c.is_born.new.db c.is_born.ensures.same c.copies_at.new.db c.copies_at.ensures.same

pub returns-clause-born : goal.returns-clause-born
returns-clause-born g c = λ t z. c.count_if.ensures.counted ∙ ap (λ b. c.args.counts.born + cond b 1 0) (c.in_ok-born.ensures.born t z)

pub returns-clause-copies : goal.returns-clause-copies
returns-clause-copies g c = λ t z.
    c.in-Some.ensures.1
    ∙ ap (λ n. c.args.counts.copies + n) (c.in_ok-more.ensures.copies t (answered-at g.R.TreeRep.contents g.S.TreeRep.contents c.args.db.now c.is_born.new.db c.is_born.ensures.same t z))

pub returns-clause-same : goal.returns-clause-same
returns-clause-same g c = answered-then g.R.TreeRep.contents g.S.TreeRep.contents c.args.db.now c.is_born.new.db c.is_born.ensures.same c.copies_at.new.db c.copies_at.ensures.same
