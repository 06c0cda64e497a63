use Rattle.std.proofs.Common.{rules, arith, ◌-◌, sym, drop, take_all, length-drop, length}
use Rattle.cp_page.proofs.Gathering.{begins, no_row, no_rise, goes_on, ends, ends_badly}
use Rattle.cp_page.proofs.ranging.add_among.Goals as goal

pub loop-read-init : goal.loop-read-init
loop-read-init c = record {
  within = omega arith;
  rows = begins c.args.low.now c.args.high.now c.args.bytes.now _ _ _ c.number_at-count.ensures.number (take_all (length c.args.bytes.now - 2) (drop 2 c.args.bytes.now) (let h = length-drop 2 c.args.bytes.now in omega (arith, h)));
}

pub returns-in_default : goal.returns-in_default
returns-in_default c = record { rows = tt; bad = λ _. no_row c.args.low.now c.args.high.now _ _ _ _ _ _ _ _ c.loop-read.invariant.rows c.loop-read-test.true (search rules) }

pub returns-then-not-is_after : goal.returns-then-not-is_after
returns-then-not-is_after c = record { rows = tt; bad = λ _. no_rise c.args.low.now c.args.high.now _ _ _ _ _ _ _ _ c.loop-read.invariant.rows c.loop-read-test.true _ (sym c.in-Some.ensures) (search rules) }

pub loop-read-preserved : goal.loop-read-preserved
loop-read-preserved c = record {
  within = omega (arith, c.loop-read-test.true);
  rows = goes_on c.args.low.now c.args.high.now _ _ _ _ _ _ _ _ c.loop-read.invariant.rows c.loop-read-test.true _ (sym c.in-Some.ensures) (search rules) _ _ c.in_ok-add_if_within.ensures (search rules);
}

pub returns-then-are_zero : goal.returns-then-are_zero
returns-then-are_zero c = record { rows = ends c.args.low.now c.args.high.now _ _ _ _ _ _ _ _ c.loop-read.invariant.rows c.loop-read-test.false (search rules); bad = λ e. cc }

pub returns-else-are_zero : goal.returns-else-are_zero
returns-else-are_zero c = record { rows = tt; bad = λ _. ends_badly c.args.low.now c.args.high.now _ _ _ _ _ _ _ _ c.loop-read.invariant.rows c.loop-read-test.false (search rules) }
