use Rattle.std.proofs.Common.{sym, ap, ◌∙◌}
use Rattle.std.specs.Prelude.{map}
use Rattle.cp_model.proofs.Kept.{closed-tree}
use Rattle.cp_model.proofs.SumsLemmas.{below-none}
use Rattle.cp_tree.specs.Rows.{entry_row}
use Rattle.cp_archive.proofs.Following.{gone-none}
use Rattle.cp_archive.proofs.follow.rows_below.Goals as goal

pub returns-then-not-is_there : goal.returns-then-not-is_there
returns-then-not-is_there g c =
    let t = g.R.TreeRep.contents c.args.tree.now in
    c.new-items.ensures.items
    ∙ ap (map entry_row) (sym (below-none t c.args.place.now (closed-tree t (g.met.R.TreeRep.is_tree c.args.tree.now).rooted) (gone-none t c.args.place.now (sym c.is_there.ensures ∙ c.if-not-is_there.true))))
