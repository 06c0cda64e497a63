use Rattle.std.proofs.Common.{◌≡◌, ◌∷◌, [], sym, ap, ◌∙◌}
use Rattle.std.specs.declared.option.Option.TheVariants.{Some}
use Rattle.cp_overlay.specs.Kept.{Fits, origin_at}
use Rattle.cp_overlay.specs.Lost.{lost_in}
use Rattle.cp_overlay.specs.Seen.{seen}
use Rattle.cp_overlay.specs.Shown.{kept, run}
use Rattle.cp_overlay.proofs.Calls.{copy_follows, copy_sparse, none_follows, if_some, if_none}
use Rattle.cp_overlay.proofs.overlay.Overlay.copy_within.Goals as goal

pub returns-in_default-clause-ok : goal.returns-in_default-clause-ok
returns-in_default-clause-ok c =
    λ ss t. none_follows (seen c.args.self.now) c.args.from.now c.args.into.now (if_none (Fits (origin_at (kept c.args.self.now.origins) c.args.from.now) → ⊥) c.in_ok-origin.field-0 c.in_ok-origin.ensures.none c.in_default.is) ss t

pub returns-clause-ok : goal.returns-clause-ok
returns-clause-ok c =
    let m = c.args.self.now.origins in
    λ ss t. copy_follows m c.replace.new.map c.settle.new.map (lost_in c.args.self.now.lost) c.in_ok-rows.rows.items c.labels-2.result.now c.in_ok-replace.ensures.ok c.settle.ensures.same c.settle.ensures.fewer
    c.args.from.now c.args.into.now c.in-Some.origin c.labels-2.ensures.labels (c.in_ok-rows.ensures ∙ ap (λ l. ([], Some c.in-Some.origin) ∷ run l m.entries) c.labels.ensures.labels)
    (if_some (λ o. o ≡ origin_at (kept m) c.args.from.now) c.in_ok-origin.field-0 c.in-Some.origin c.in_ok-origin.ensures.some c.in-Some.is) ss t

pub invariant_of-self-2 : goal.invariant_of-self-2
invariant_of-self-2 c =
    let m = c.args.self.now.origins in
    record {
      sparse = copy_sparse m c.replace.new.map c.settle.new.map c.in_ok-rows.rows.items c.labels-2.result.now c.labels-3.result.now c.in_ok-replace.ensures.ok c.settle.ensures.same c.settle.ensures.fewer
          (c.labels-3.ensures.labels ∙ sym c.labels-2.ensures.labels) c.settle.ensures.settled c.args.self.now.sparse
          c.args.from.now c.in-Some.origin (c.in_ok-rows.ensures ∙ ap (λ l. ([], Some c.in-Some.origin) ∷ run l m.entries) c.labels.ensures.labels)
          (if_some (λ o. o ≡ origin_at (kept m) c.args.from.now) c.in_ok-origin.field-0 c.in-Some.origin c.in_ok-origin.ensures.some c.in-Some.is);
    }
