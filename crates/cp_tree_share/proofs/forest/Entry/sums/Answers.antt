use Rattle.std.proofs.Common.{◌∙◌, ap}
use Rattle.cp_tree.proofs.SumsLemmas.{sums_above, small_above}
use Rattle.cp_tree_share.proofs.forest.Entry.sums.Goals as goal

pub seen_above-requires : goal.seen_above-requires
seen_above-requires c =
    let view = ap (λ z. (c.self.inside.label, z)) c.node.view_is ∙ c.self.view_is in
    rw (c.as_str-label.ensures.text, c.text_bytes-text.ensures.bytes) (small_above _ _ _ _ _ c.sums.ensures.is view c.node.invariant c.requires)

pub returns : goal.returns
returns c =
    let view = ap (λ z. (c.self.inside.label, z)) c.node.view_is ∙ c.self.view_is in
    c.seen_above.ensures ∙ rw (c.as_str-label.ensures.text, c.text_bytes-text.ensures.bytes) (sums_above _ _ _ _ _ c.sums.ensures.is view c.node.invariant)
