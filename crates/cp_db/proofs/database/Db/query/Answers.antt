use Rattle.std.proofs.Common.{◌≡◌, refl, sym, subst, true}
use Rattle.std.specs.Prelude.{◌↔◌, IsErrOf}
use Rattle.cp_model.specs.Tree.{Tree}
use Rattle.cp_query.specs.Asked.{lacks_place}
use Rattle.cp_query.specs.declared.fault.QueryFault.TheVariants.{NoPlace}
use Rattle.cp_db.proofs.WritingStanding.{holds-read, state-asked}
use Rattle.cp_db.proofs.database.Db.query.Goals as goal

pub stats-numbers-requires : goal.stats-numbers-requires
stats-numbers-requires g c = (c.requires.stands.0, c.requires.stands.1.committed)

pub returns-clause-answer : goal.returns-clause-answer
returns-clause-answer g c = λ h z.
    c.answer.ensures.answer z.state
    (record {
      keeps = sym (z.rows refl);
      committed = state-asked g.R.TreeRep.contents g.S.TreeRep.contents c.args.self.now.committed h z.state z.led z.holds.committed;
    })
    (c.stats-numbers.ensures z.state z.holds.committed (z.rows refl))

pub returns-clause-same : goal.returns-clause-same
returns-clause-same g c =
    holds-read g.R.TreeRep.contents g.S.TreeRep.contents c.args.self.now c.answer.new.store
    c.answer.ensures.asks.kind c.answer.ensures.asks.last (sym (c.answer.ensures.asks.rows c.args.self.now.committed.store.rows.list refl))

pub returns-clause-place : goal.returns-clause-place
returns-clause-place g c = λ s z.
    subst (λ (t : Tree). IsErrOf c.answer.result NoPlace ↔ (lacks_place t c.args.query.now ≡ true)) z.committed.tree c.answer.ensures.place
