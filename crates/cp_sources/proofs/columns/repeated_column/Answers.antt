use Rattle.std.proofs.Common.{◌≡◌, ◌+◌, ◌∷◌, true, false, drop, sym, ap, ◌∙◌, rules}
use Rattle.std.specs.List.{list_any}
use Rattle.std.specs.BTreeSet.{contains}
use Rattle.std.proofs.lemmas.List.{drop_more}
use Rattle.cp_path.specs.Text.{text_cmp}
use Rattle.cp_model.specs.Place.{label_eq}
use Rattle.cp_sources.proofs.Lists.{seen_more, repeated_more, repeated_here}
use Rattle.cp_sources.proofs.columns.repeated_column.Goals as goal

pub loop-label-preserved : goal.loop-label-preserved
loop-label-preserved c =
    let inv = c.loop-label.invariant in
    let h = c.label-item.result in
    let before = inv.seen.0 in
    let hs = c.args.labels.now in
    let i = c.loop-label.label-index in
    let same : c.in_ok-clone.field-0 ≡ h = search rules in
    let rest : drop i hs ≡ h ∷ drop (i + 1) hs = drop_more hs i h c.loop-label-test.true ∙ ap (λ x. x ∷ drop (i + 1) hs) (sym c.label-item.is) in
    let fresh : contains text_cmp c.loop-label.seen h ≡ false = search rules in
    let new : list_any (label_eq h) before ≡ false = sym (inv.seen.1 h) ∙ fresh in
    let updates = c.in_ok-insert.ensures.updates in
    record {
      count = ap (λ n. n + 1) inv.count;
      seen = (h ∷ before, λ q. (rw same at updates).0 q ∙ seen_more q h (contains text_cmp c.loop-label.seen q) (list_any (label_eq q) before) (inv.seen.1 q), inv.seen.2 ∙ repeated_more before (c.loop-label.column + 1) h (drop (i + 1) hs) (drop i hs) rest new);
    }

pub returns-then-not-branch : goal.returns-then-not-branch
returns-then-not-branch c =
    let inv = c.loop-label.invariant in
    let h = c.label-item.result in
    let before = inv.seen.0 in
    let hs = c.args.labels.now in
    let i = c.loop-label.label-index in
    let same : c.in_ok-clone.field-0 ≡ h = search rules in
    let rest : drop i hs ≡ h ∷ drop (i + 1) hs = drop_more hs i h c.loop-label-test.true ∙ ap (λ x. x ∷ drop (i + 1) hs) (sym c.label-item.is) in
    let there : contains text_cmp c.loop-label.seen h ≡ true = search rules in
    let old : list_any (label_eq h) before ≡ true = sym (inv.seen.1 h) ∙ there in
    sym (inv.seen.2 ∙ repeated_here before (c.loop-label.column + 1) h (drop (i + 1) hs) (drop i hs) rest old)
