use Rattle.std.proofs.Common.{◌∙◌, refl}
use Rattle.cp_tree.proofs.ListingLemmas.{literal-below}
use Rattle.cp_tree.proofs.Listed.{entries-listed}
use Rattle.cp_operation.proofs.Changed.{on-ok}
use Rattle.cp_operation.proofs.OpRows.{rows-within, copy-within, subtree-added}
use Rattle.cp_operation.proofs.change.copy_from.Goals as goal

pub push_copies-requires : goal.push_copies-requires
push_copies-requires g c =
    let u = g.S.TreeRep.contents c.args.source.now in
    let q = c.args.from.now.path in
    let x = c.requires.copied in
    record {
      shallow = copy-within u c.args.from.now c.args.into.now c.in_ok-list.list x.origin x.places c.in_ok-list.ensures;
      source = rows-within u q q c.in_ok-list.list (g.met.S.TreeRep.is_tree c.args.source.now) x.origin refl c.in_ok-list.ensures;
    }

pub put_rows-requires-clause-rows : goal.put_rows-requires-clause-rows
put_rows-requires-clause-rows g c =
    rw (entries-listed c.as_slice.result.now _ _ (c.as_slice.ensures.value ∙ c.list.view_is) c.in_ok-list.ensures) (literal-below _ _ (g.met.S.TreeRep.is_tree _) c.requires.copied.origin)

pub put_rows-requires-clause-fits : goal.put_rows-requires-clause-fits
put_rows-requires-clause-fits g c = rw (entries-listed c.as_slice.result.now _ _ (c.as_slice.ensures.value ∙ c.list.view_is) c.in_ok-list.ensures) c.requires.copied.fits

pub returns-clause-tree : goal.returns-clause-tree
returns-clause-tree g c = rw (← entries-listed c.as_slice.result.now _ _ (c.as_slice.ensures.value ∙ c.list.view_is) c.in_ok-list.ensures) c.put_rows.ensures.ok

pub returns-clause-rows : goal.returns-clause-rows
returns-clause-rows g c =
    subtree-added c.put_rows.result c.args.tid (g.S.TreeRep.contents c.args.source.now) c.args.from.now c.args.into.now c.in_ok-list.list _ _ c.in_ok-list.ensures (on-ok c.put_rows.result c.in_ok-push_copies.ensures.ok)
