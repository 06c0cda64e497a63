use Rattle.std.proofs.Common.{rules, arith, ◌-◌, sym, drop, take_all, length-drop, length}
use Rattle.cp_page.proofs.Reading.{begins, no_row, no_rise, goes_on, ends, ends_badly}
use Rattle.cp_page.proofs.finding.find_among.Goals as goal

pub loop-read-init : goal.loop-read-init
loop-read-init c = record { within = omega arith; rows = begins _ _ _ _ c.number_at-count.ensures.number (take_all (length c.args.bytes.now - 2) (drop 2 c.args.bytes.now) (let h = length-drop 2 c.args.bytes.now in omega (arith, h))) }

pub returns-in_default : goal.returns-in_default
returns-in_default c = no_row c.args.key.now c.args.bytes.now _ _ _ _ _ _ c.loop-read.invariant.rows c.loop-read-test.true (search rules)

pub returns-then-not-is_after : goal.returns-then-not-is_after
returns-then-not-is_after c = no_rise c.args.key.now c.args.bytes.now _ _ _ _ _ _ c.loop-read.invariant.rows c.loop-read-test.true _ (sym c.in-Some.ensures) (search rules)

pub loop-read-preserved : goal.loop-read-preserved
loop-read-preserved c = record {
  within = omega (arith, c.loop-read-test.true);
  rows = goes_on c.args.key.now c.args.bytes.now _ _ _ _ _ _ c.loop-read.invariant.rows c.loop-read-test.true _ (sym c.in-Some.ensures) (search rules) _ c.better-best.ensures;
}

pub returns-then-are_zero : goal.returns-then-are_zero
returns-then-are_zero c = ends c.args.key.now c.args.bytes.now _ _ _ _ _ _ c.loop-read.invariant.rows c.loop-read-test.false (search rules)

pub returns-else-are_zero : goal.returns-else-are_zero
returns-else-are_zero c = ends_badly c.args.key.now c.args.bytes.now _ _ _ _ _ _ c.loop-read.invariant.rows c.loop-read-test.false (search rules)
