use Rattle.std.proofs.Common.{sym, ap, subst, ◌∙◌}
use Rattle.std.proofs.lemmas.List.Sorted.{list_any-IsPermutation}
use Rattle.std.proofs.lemmas.Result.{IfOk-weaker}
use Rattle.cp_model.specs.Place.{path_eq, starts_with}
use Rattle.cp_archive.specs.Touching.{AreTouched, is_among, is_covered}
use Rattle.cp_archive.proofs.Covering.{among-same, looked-touched, touched-by}
use Rattle.cp_archive.proofs.places.touched_places.Goals as goal

pub returns-clause-among : goal.returns-clause-among
returns-clause-among c =
    IfOk-weaker c.topmost.result _ _
    (λ v h. among-same c.as_slice.result.now _ v.items
    (λ p. ap (λ ps. is_among ps p) c.as_slice.ensures.value ∙ sym (list_any-IsPermutation (path_eq p) c.in_ok-places.places.items c.sort_unstable.new.self.items c.sort_unstable.ensures.permutation) ∙ ap (λ ps. is_among ps p) c.in_ok-places.ensures)
    h)
    c.topmost.ensures.among

pub returns-clause-touched : goal.returns-clause-touched
returns-clause-touched c =
    IfOk-weaker c.topmost.result _ _
    (λ v h. touched-by c.in_ok-places.places.items v.items
    (λ p e. h p (ap (λ ps. is_covered ps p) c.as_slice.ensures.value ∙ sym (list_any-IsPermutation (starts_with p) c.in_ok-places.places.items c.sort_unstable.new.self.items c.sort_unstable.ensures.permutation) ∙ e))
    c.args.ops.now (subst (AreTouched c.args.ops.now) (sym c.in_ok-places.ensures) (looked-touched c.args.ops.now)))
    c.topmost.ensures.covers
