use Rattle.std.proofs.Common.{refl, arith}
use Rattle.cp_store.specs.Counts.{store_in}
use Rattle.cp_uses.proofs.Telling.{tells-stood, tells-changed}
use Rattle.cp_uses.proofs.stay.stands.Goals as goal

pub returns-then-last-reached-clause-tells : goal.returns-then-last-reached-clause-tells
returns-then-last-reached-clause-tells g c = λ rs kept known.
    tells-changed (g.P.ProvStore.kept_kind (store_in c.args.store.now)) rs c.args.reached.now c.args.version _ c.args.stay.now _ _ _ c.in_ok-last.last known (c.in_ok-last.ensures.step rs kept) c.in_ok-last.ensures.within (omega (arith, c.if-last-reached.true)) refl refl c.in_ok-last.ensures.calls

pub returns-clause-tells : goal.returns-clause-tells
returns-clause-tells g c = λ rs kept known.
    tells-stood (g.P.ProvStore.kept_kind (store_in c.args.store.now)) rs c.args.reached.now c.args.version c.args.stay.now _ _ _ c.in_ok-last.last known (omega (arith, c.if-version-stay.false)) (omega arith) (c.in_ok-last.ensures.step rs kept) (omega (arith, c.if-last-reached.false)) refl refl c.in_ok-last.ensures.calls
