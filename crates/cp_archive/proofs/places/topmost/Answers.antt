use Rattle.std.proofs.Common.{subst, sym, ap, ◌∙◌}
use Rattle.std.specs.declared.option.Option.TheVariants.{Some}
use Rattle.std.proofs.lemmas.List.{take_all}
use Rattle.std.proofs.lemmas.Option.{slice_get-get_or}
use Rattle.cp_archive.specs.Touching.{AreAmong, is_covered}
use Rattle.cp_archive.proofs.Covering.{IsTop, top-none, top-more}
use Rattle.cp_archive.proofs.places.topmost.Goals as goal

pub loop-place-init : goal.loop-place-init
loop-place-init c = subst (λ ks. IsTop c.args.places.now ks 0) (sym c.new-kept.ensures.items) (top-none c.args.places.now)

pub loop-place-preserved : goal.loop-place-preserved
loop-place-preserved c =
    top-more c.args.places.now c.loop-place.kept.items c.loop-place.place-index c.place-item.result c.requires
    (slice_get-get_or c.args.places.now c.loop-place.place-index c.place-item.result c.loop-place-test.true ∙ ap (λ x. Some x) (sym c.place-item.is))
    c.loop-place.invariant c.keep.new.kept.items c.in_ok-keep.ensures

pub returns-clause-apart : goal.returns-clause-apart
returns-clause-apart c = c.loop-place.invariant.apart

pub returns-clause-order : goal.returns-clause-order
returns-clause-order c = c.loop-place.invariant.order

pub returns-clause-among : goal.returns-clause-among
returns-clause-among c = subst (λ ps. AreAmong ps c.loop-place.kept.items) (take_all c.loop-place.place-index c.args.places.now c.loop-place-test.false) c.loop-place.invariant.among

pub returns-clause-covers : goal.returns-clause-covers
returns-clause-covers c = λ p e. c.loop-place.invariant.covers p (ap (λ ps. is_covered ps p) (take_all c.loop-place.place-index c.args.places.now c.loop-place-test.false) ∙ e)
