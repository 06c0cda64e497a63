use Rattle.std.proofs.Common.{arith, length, ap}
use Rattle.cp_tree.proofs.Tallies.{deepest-fits}
use Rattle.cp_tree.proofs.Listed.{entries-root}
use Rattle.cp_tree.proofs.build.insert_tree.Goals as goal

pub list_tree-requires : goal.list_tree-requires
list_tree-requires g c = record { shallow = omega (arith, ap length c.root.ensures, deepest-fits _ _ _ c.requires.literal c.requires.fits) }

pub insert_rows-requires-clause-rows : goal.insert_rows-requires-clause-rows
insert_rows-requires-clause-rows g c =
    rw (entries-root c.root.result c.as_slice.result.now c.new-rows.result.items c.list_tree.new.rows.items _ c.as_slice.ensures.value c.root.ensures c.new-rows.ensures.items c.in_ok-list_tree.ensures) c.requires.literal

pub insert_rows-requires-clause-fits : goal.insert_rows-requires-clause-fits
insert_rows-requires-clause-fits g c =
    rw (entries-root c.root.result c.as_slice.result.now c.new-rows.result.items c.list_tree.new.rows.items _ c.as_slice.ensures.value c.root.ensures c.new-rows.ensures.items c.in_ok-list_tree.ensures) c.requires.fits

pub returns-clause-ok : goal.returns-clause-ok
returns-clause-ok g c =
    rw (← entries-root c.root.result c.as_slice.result.now c.new-rows.result.items c.list_tree.new.rows.items _ c.as_slice.ensures.value c.root.ensures c.new-rows.ensures.items c.in_ok-list_tree.ensures) c.insert_rows.ensures.ok
