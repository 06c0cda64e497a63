use Rattle.std.proofs.Common.{refl}
use Rattle.cp_overlay.specs.Seen.{seen}
use Rattle.cp_overlay.proofs.Gathered.{rest_rises}
use Rattle.cp_overlay.proofs.OriginRows.{tops-none, tops-some, tops-done}
use Rattle.cp_overlay.proofs.overlay.Overlay.note_origins.Goals as goal

pub loop-key-preserved : goal.loop-key-preserved
loop-key-preserved c = record {
  left =
      tops-some c.args.self.now.origins.entries c.args.marks.now.entries c.in-Some.key.now c.in-Some.origin.now c.loop-key.key-iterator c.next.new.self c.loop-key.marks.entries c.note_origin.new.marks.entries
      c.in-Some.ensures.steps c.loop-key.invariant.left c.loop-key.invariant.rises c.in-Some-origin.origin c.as_slice.result.now c.in-Some-origin.is c.as_slice.ensures.value c.in_ok-note_origin.ensures;
  rises = rest_rises c.in-Some.key.now c.in-Some.origin.now c.next.new.self c.loop-key.key-iterator c.in-Some.ensures.steps c.loop-key.invariant.rises;
}

pub loop-key-preserved-in_default : goal.loop-key-preserved-in_default
loop-key-preserved-in_default c = record {
  left =
      tops-none c.args.self.now.origins.entries c.args.marks.now.entries c.in-Some.key.now c.in-Some.origin.now c.loop-key.key-iterator c.next.new.self c.loop-key.marks.entries c.loop-key.marks.entries
      c.in-Some.ensures.steps c.loop-key.invariant.left c.loop-key.invariant.rises c.in_default.is refl;
  rises = rest_rises c.in-Some.key.now c.in-Some.origin.now c.next.new.self c.loop-key.key-iterator c.in-Some.ensures.steps c.loop-key.invariant.rises;
}

pub returns : goal.returns
returns c = tops-done c.args.self.now.origins (seen c.args.self.now) c.args.marks.now.entries c.loop-key.marks.entries c.loop-key.key-iterator refl c.in-None.ensures.steps.0 c.loop-key.invariant.left
