use Rattle.std.proofs.Common.{◌++◌, ap, sym, ◌∙◌, decimal, codes, flat_map, length, take, drop, ◌-◌}
use Rattle.cp_reply.proofs.Between.{tids_of}
use Rattle.cp_reply.proofs.answer.tids_text.Goals as goal

pub returns-in_ok-push_tids-in-len1-up : goal.returns-in_ok-push_tids-in-len1-up
returns-in_ok-push_tids-in-len1-up c =
    c.in_ok-push_tids-in-len1-up.ensures ∙ ap (λ w. w ++ flat_map (λ t. codes " " ++ decimal t) (take (length c.args.tids.now - 1) (drop 1 c.args.tids.now))) c.in_ok-text-in-len1-up.ensures.ok ∙ sym (tids_of c.args.tids.now c.in-len1-up.len_at_least)
