use Rattle.std.proofs.Common.{◌∙◌, sym, arith, refl}
use Rattle.cp_store.specs.Counts.{store_in}
use Rattle.cp_uses.proofs.OwnCopies.{own-came}
use Rattle.cp_uses.proofs.onward.came_by.Goals as goal

pub returns-then-is_copy_of-clause-came : goal.returns-then-is_copy_of-clause-came
returns-then-is_copy_of-clause-came g c = λ rs kept n has.
    c.is_within_limits.ensures
    ∙ sym (own-came (g.P.ProvStore.kept_kind (store_in c.args.store.now)) c.args.row.now c.args.from.now.place c.args.to.now.place rs n c.args.to.now kept.next.rise has
    (sym c.is_copy_of.ensures ∙ c.if-is_copy_of.true) c.requires.place refl c.requires.tid (omega (arith, c.requires.later)))
