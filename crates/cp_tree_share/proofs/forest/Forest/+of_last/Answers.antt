use Rattle.std.proofs.Common.{◌-◌, ◌/◌, refl, sym, subst, arith}
use Rattle.cp_tree.specs.Sums.{AreChildren}
use Rattle.cp_tree_share.proofs.Halved.{right_siblings, some_left, left_siblings, all_is, near, low_more, forked, forked_low}
use Rattle.cp_tree_share.proofs.forest.Forest.+of_last.Goals as goal

pub of_last-requires : goal.of_last-requires
of_last-requires t c =
    let n = c.args.count in
    let some = c.if-count-eq0.false in
    let k = (n - 1) / 2 in
    let i = n - 1 - k in
    (omega (arith, c.decreases, some), right_siblings n i k (omega (arith, some)) _ _ _ c.requires.parts c.requires.counted c.requires.children)

pub unreachable-requires : goal.unreachable-requires
unreachable-requires t c =
    let n = c.args.count in
    let some = c.if-count-eq0.false in
    let k = (n - 1) / 2 in
    let i = n - 1 - k in
    let left = some_left n i k (omega (arith, some)) _ _ _ c.requires.parts c.requires.counted _ _ c.in_ok-right.ensures.edges in
    absurd (omega (arith, left, c.in-None.ensures.cases))

pub of_last-requires-in-Some : goal.of_last-requires-in-Some
of_last-requires-in-Some t c =
    let n = c.args.count in
    let some = c.if-count-eq0.false in
    let k = (n - 1) / 2 in
    let i = n - 1 - k in
    (omega (arith, c.decreases, some), left_siblings n i k (omega (arith, some)) _ _ _ c.requires.parts c.requires.counted _ _ c.in_ok-right.ensures.edges _ _ c.in-Some.ensures.items c.requires.children)

pub fork-requires-clause-children : goal.fork-requires-clause-children
fork-requires-clause-children t c =
    let n = c.args.count in
    let some = c.if-count-eq0.false in
    let k = (n - 1) / 2 in
    let i = n - 1 - k in
    let all = all_is n i k (omega (arith, some)) _ _ _ c.requires.parts c.requires.counted _ _ c.in_ok-right.ensures.edges _ _ c.in-Some.ensures.items _ _ c.in_ok-left-in-Some.ensures.edges in
    subst AreChildren (sym all.0) c.requires.children

pub fork-requires-clause-near : goal.fork-requires-clause-near
fork-requires-clause-near t c =
    let n = c.args.count in
    let some = c.if-count-eq0.false in
    let k = (n - 1) / 2 in
    let i = n - 1 - k in
    near i k _ _ (omega (arith, some)) (omega (arith, some)) c.in_ok-left-in-Some.ensures.low c.in_ok-right.ensures.low

pub returns-clause-edges : goal.returns-clause-edges
returns-clause-edges t c =
    let n = c.args.count in
    let some = c.if-count-eq0.false in
    let k = (n - 1) / 2 in
    let i = n - 1 - k in
    forked n c.fork.result _ _ _ _
    (λ front siblings parts counted. all_is n i k (omega (arith, some)) _ front siblings parts counted _ _ c.in_ok-right.ensures.edges _ _ c.in-Some.ensures.items _ _ c.in_ok-left-in-Some.ensures.edges) c.fork.ensures

pub returns-clause-low : goal.returns-clause-low
returns-clause-low t c =
    let n = c.args.count in
    let some = c.if-count-eq0.false in
    let k = (n - 1) / 2 in
    let i = n - 1 - k in
    forked_low n c.fork.result _ _ (low_more i k _ _ (omega (arith, some)) (omega (arith, some)) c.in_ok-left-in-Some.ensures.low c.in_ok-right.ensures.low n _ (omega (arith, some)) refl) c.fork.ensures
