use Rattle.std.proofs.Common.{List, ◌∙◌, ◌≤◌, ◌≡◌, refl, sym, ap, subst, arith, length}
use Rattle.std.specs.List.{slice_get}
use Rattle.cp_journal.specs.Frames.{Frame}
use Rattle.cp_db.specs.Opening.{StartsAs}
use Rattle.cp_db.proofs.OpeningFrames.{entry_read, listed_first, listed_length, listed_tag}
use Rattle.cp_db.proofs.OpeningItems.{other_tag_first}
use Rattle.cp_db.proofs.start.Start.read.Goals as goal

pub returns-then-len-eq0-clause-started : goal.returns-then-len-eq0-clause-started
returns-then-len-eq0-clause-started g c = λ known v fs lists.
    (refl, λ f rest is. absurd (omega (arith, listed_length c.args.from fs c.args.journal.now _ lists, c.len.ensures, c.if-len-eq0.true, ap length is)))

pub returns-then-frame-ne-ENTRY-clause-started : goal.returns-then-frame-ne-ENTRY-clause-started
returns-then-frame-ne-ENTRY-clause-started g c = λ known v fs lists. (
  refl,
  λ f rest is. other_tag_first v f (λ tag.
      c.if-frame-ne-ENTRY.true (listed_tag c.args.from fs c.args.journal.now _ lists 0 c.in_ok-frame.frame f c.in_ok-frame.ensures.at (ap (λ (l : List Frame). slice_get l 0) is) ∙ tag)),
)

pub returns-clause-started : goal.returns-clause-started
returns-clause-started g c = λ known v fs lists.
    let one : 1 ≤ length c.args.journal.now.frames = omega arith in
    let first = listed_first c.args.from fs c.args.journal.now _ lists one in
    let here = ap (λ (l : List Frame). slice_get l 0) first.2 in
    let read = entry_read c.args.from fs c.args.journal.now _ 0 c.in_ok-frame.frame first.0 c.deref.result.now lists c.in_ok-frame.ensures.at here c.if-frame-ne-ENTRY.false
    (c.deref.ensures.value ∙ c.in_ok-frame.ensures.body known c.args.from fs first.0 lists here) in
    subst (λ (l : List Frame). StartsAs g.R.TreeRep.contents c.args.from v l c.of_bytes.result) (sym first.2) (c.of_bytes.ensures.started v first.0 first.1 read.0 read.1)
