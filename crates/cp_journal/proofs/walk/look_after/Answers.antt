use Rattle.std.proofs.Common.{rules, arith, ◌≡◌, ◌≤◌, ◌<◌, ◌+◌, ◌^◌, length}
use Rattle.cp_disk.proofs.Composing.{still}
use Rattle.cp_journal.proofs.Looks.{seen_short, nine_read, seen_unfit, seen_cut_short, seen_whole}
use Rattle.cp_journal.proofs.walk.look_after.Goals as goal

pub returns-then-not-branch-clause-seen : goal.returns-then-not-branch-clause-seen
returns-then-not-branch-clause-seen g c = λ known.
    let size = c.in_ok-has_bytes.ensures.size known in
    let outside : c.has_bytes.new.size < c.args.at + 10 = search rules in
    seen_short c.args.at _ (c.requires.inside known) (omega (arith, size, outside)) (c.requires.gate known)

pub returns-then-not-fits-clause-seen : goal.returns-then-not-fits-clause-seen
returns-then-not-fits-clause-seen g c = λ known.
    let size = c.in_ok-has_bytes.ensures.size known in
    let inside : c.args.at + 10 ≤ c.has_bytes.new.size = search rules in
    let room : c.args.at + 10 ≤ length (g.D.Disk.known c.args.disk.now).view.content = omega (arith, size, inside) in
    let small : length (g.D.Disk.known c.args.disk.now).view.content ≤ 2 ^ 62 = omega (arith, size, c.in_ok-has_bytes.ensures.most) in
    let nine : length c.read.new.into ≡ 9 = search rules in
    let head = nine_read c.args.at _ _ c.read.new.into (c.in_ok-has_bytes.ensures.rests known).content nine (c.in_ok-read.ensures.filled (still c.in_ok-has_bytes.ensures.cause.same known)).bytes in
    seen_unfit c.args.at _ c.read.new.into room small (c.requires.gate known) head c.len_in-len.ensures.bytes _ c.len_in-len.ensures.len (search rules)

pub returns-then-not-branch-2-clause-seen : goal.returns-then-not-branch-2-clause-seen
returns-then-not-branch-2-clause-seen g c = λ known.
    let size = c.in_ok-has_bytes.ensures.size known in
    let inside : c.args.at + 10 ≤ c.has_bytes.new.size = search rules in
    let room : c.args.at + 10 ≤ length (g.D.Disk.known c.args.disk.now).view.content = omega (arith, size, inside) in
    let small : length (g.D.Disk.known c.args.disk.now).view.content ≤ 2 ^ 62 = omega (arith, size, c.in_ok-has_bytes.ensures.most) in
    let nine : length c.read.new.into ≡ 9 = search rules in
    let head = nine_read c.args.at _ _ c.read.new.into (c.in_ok-has_bytes.ensures.rests known).content nine (c.in_ok-read.ensures.filled (still c.in_ok-has_bytes.ensures.cause.same known)).bytes in
    seen_cut_short c.args.at _ c.read.new.into room small (c.requires.gate known) head c.len_in-len.ensures.bytes _ c.len_in-len.ensures.len (search rules)

pub returns-clause-seen : goal.returns-clause-seen
returns-clause-seen g c = λ known.
    let size = c.in_ok-has_bytes.ensures.size known in
    let inside : c.args.at + 10 ≤ c.has_bytes.new.size = search rules in
    let room : c.args.at + 10 ≤ length (g.D.Disk.known c.args.disk.now).view.content = omega (arith, size, inside) in
    let small : length (g.D.Disk.known c.args.disk.now).view.content ≤ 2 ^ 62 = omega (arith, size, c.in_ok-has_bytes.ensures.most) in
    let nine : length c.read.new.into ≡ 9 = search rules in
    let head = nine_read c.args.at _ _ c.read.new.into (c.in_ok-has_bytes.ensures.rests known).content nine (c.in_ok-read.ensures.filled (still c.in_ok-has_bytes.ensures.cause.same known)).bytes in
    seen_whole c.args.at _ c.read.new.into room small (c.requires.gate known) head c.len_in-len.ensures.bytes _ c.len_in-len.ensures.len (search rules) (search rules)
