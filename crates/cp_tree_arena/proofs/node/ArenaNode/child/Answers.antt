use Rattle.std.proofs.Common.{◌∙◌, sym, [], refl}
use Rattle.cp_tree.proofs.BranchLemmas.{sub-root}
use Rattle.cp_tree.proofs.GoodLemmas.{sub_below, get_nothing}
use Rattle.cp_tree_arena.specs.Kept.{edges_at}
use Rattle.cp_tree_arena.proofs.node.ArenaNode.child.Goals as goal

pub returns-in-Some-clause-there : goal.returns-in-Some-clause-there
returns-in-Some-clause-there c =
    let es = edges_at c.args.self.slots.now c.args.self.children.number in
    sym (sub_below _ c.args.self.content.now es es c.args.label.now refl c.requires.good [] _ c.in-Some.ensures.there ∙ sub-root _)

pub returns-in-None-clause-gone : goal.returns-in-None-clause-gone
returns-in-None-clause-gone c =
    let es = edges_at c.args.self.slots.now c.args.self.children.number in
    get_nothing _ c.args.self.content.now es es c.args.label.now refl c.requires.good [] c.in-None.ensures.gone
