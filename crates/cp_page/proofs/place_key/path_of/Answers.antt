use Rattle.std.proofs.Common.{rules, sym, subst}
use Rattle.cp_record.specs.Kept.{IsLabel}
use Rattle.cp_page.proofs.Cases.{match_none}
use Rattle.cp_page.proofs.PathBytes.{no_path_label, no_path_deep, no_path_end}
use Rattle.cp_page.proofs.place_key.path_of.Goals as goal

pub returns-in_default-2 : goal.returns-in_default-2
returns-in_default-2 c =
    no_path_label c.args.bytes.now c.loop-path.path c.loop-path.rest.now c.loop-path.invariant.is c.in-Some.text.items c.in-Some.next.now (search rules)
    (λ is. match_none _ _ _ c.in_default-2.is c.in_ok-label.ensures (subst IsLabel (sym c.as_slice.ensures.value) is))

pub returns-then-not-branch : goal.returns-then-not-branch
returns-then-not-branch c =
    no_path_deep c.args.bytes.now c.loop-path.path c.loop-path.rest.now c.loop-path.invariant.is c.in-Some.text.items c.in-Some.next.now (search rules)
    (c.in_ok-push.ensures.full (search rules))

pub returns-else-is_end : goal.returns-else-is_end
returns-else-is_end c =
    no_path_end c.args.bytes.now c.loop-path.path c.loop-path.rest.now c.loop-path.invariant.is
    (match_none _ _ _ c.in_default.is c.in_ok-text.ensures) (c.is_end.ensures.other c.if-is_end.false)
