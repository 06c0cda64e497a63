use Rattle.std.proofs.Common.{arith}
use Rattle.cp_format.proofs.CharsBegun.{stops_0, stops_1, stops_2, stops_3}
use Rattle.cp_format.proofs.text.begun.Goals.{then-width-eq0-via-then-width-eq0, then-width-eq0-via-else-width-eq0+then-width-room, then-bytes-lt2-via-then-bytes-lt2, then-bytes-lt2-via-else-bytes-lt2+then-not-is_second, then-bytes-lt3-via-then-bytes-lt3, then-bytes-lt3-via-else-bytes-lt3+then-not-follows}
use Rattle.cp_format.proofs.text.begun.Goals as goal

pub returns-then-width-eq0 : goal.returns-then-width-eq0
returns-then-width-eq0 c =
    stops_0 c.args.room c.args.bytes.now c.requires.room c.requires.none
    (λ some le. elim c.then-width-eq0.branch [
      | then-width-eq0-via-then-width-eq0 w ↦ let h = w.if-width-eq0.true in omega (arith, c.width-width.ensures, h, some)
      | then-width-eq0-via-else-width-eq0+then-width-room w ↦ let h = w.if-width-room.true in omega (arith, c.width-width.ensures, h, le)
    ])

pub returns-then-bytes-lt2 : goal.returns-then-bytes-lt2
returns-then-bytes-lt2 c =
    stops_1 c.args.room c.args.bytes.now c.requires.some c.requires.none (omega (arith, c.width-width.ensures, c.if-width-eq0.false)) (omega (arith, c.width-width.ensures, c.if-width-room.false))
    (λ more s. elim c.then-bytes-lt2.branch [
      | then-bytes-lt2-via-then-bytes-lt2 w ↦ let h = w.if-bytes-lt2.true in omega (arith, h, more)
      | then-bytes-lt2-via-else-bytes-lt2+then-not-is_second w ↦ let h = w.if-not-is_second.true in let t = w.is_second.ensures.1 s in absurd (cc)
    ])

pub returns-then-bytes-lt3 : goal.returns-then-bytes-lt3
returns-then-bytes-lt3 c =
    stops_2 c.args.room c.args.bytes.now (omega (arith, c.if-bytes-lt2.false)) c.requires.none (omega (arith, c.width-width.ensures, c.if-width-eq0.false)) (omega (arith, c.width-width.ensures, c.if-width-room.false))
    (c.is_second.ensures.0 c.if-not-is_second.false)
    (λ more s. elim c.then-bytes-lt3.branch [
      | then-bytes-lt3-via-then-bytes-lt3 w ↦ let h = w.if-bytes-lt3.true in omega (arith, h, more)
      | then-bytes-lt3-via-else-bytes-lt3+then-not-follows w ↦ let h = w.if-not-follows.true in let t = w.follows.ensures.1 s in absurd (cc)
    ])

pub returns : goal.returns
returns c =
    stops_3 c.args.room c.args.bytes.now (omega (arith, c.if-bytes-lt3.false)) c.requires.none (omega (arith, c.width-width.ensures, c.if-width-eq0.false)) (omega (arith, c.width-width.ensures, c.if-width-room.false))
    (c.is_second.ensures.0 c.if-not-is_second.false) (c.follows.ensures.0 c.if-not-follows.false)
