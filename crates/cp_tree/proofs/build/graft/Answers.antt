use Rattle.std.proofs.Common.{◌∙◌}
use Rattle.cp_tree.proofs.ListingLemmas.{literal-below}
use Rattle.cp_tree.proofs.Listed.{entries-listed}
use Rattle.cp_tree.proofs.build.graft.Goals as goal

pub put_rows-requires-clause-rows : goal.put_rows-requires-clause-rows
put_rows-requires-clause-rows g c =
    rw (entries-listed c.as_slice.result.now _ _ (c.as_slice.ensures.value ∙ c.rows-2.view_is) c.in_ok-rows.ensures) (literal-below _ _ (g.met.O.TreeRep.is_tree _) c.requires.from)

pub put_rows-requires-clause-fits : goal.put_rows-requires-clause-fits
put_rows-requires-clause-fits g c = rw (entries-listed c.as_slice.result.now _ _ (c.as_slice.ensures.value ∙ c.rows-2.view_is) c.in_ok-rows.ensures) c.requires.fits

pub returns-clause-ok : goal.returns-clause-ok
returns-clause-ok g c = rw (← entries-listed c.as_slice.result.now _ _ (c.as_slice.ensures.value ∙ c.rows-2.view_is) c.in_ok-rows.ensures) c.put_rows.ensures.ok
