use Rattle.std.proofs.Common.{refl, subst}
use Rattle.cp_frame.specs.Entries.{IsEntry}
use Rattle.cp_frame.specs.Items.{an_entry}
use Rattle.cp_frame.specs.Sound.{IsSoundEntry}
use Rattle.cp_frame.specs.declared.entry.Entry.{Entry}
use Rattle.cp_db.proofs.OpeningItems.{is_start, other_entry_first, starts_as, starts_refused}
use Rattle.cp_db.proofs.start.Start.of_entry.Goals as goal

pub returns-in_ok-tree-in-Start-clause-started : goal.returns-in_ok-tree-in-Start-clause-started
returns-in_ok-tree-in-Start-clause-started g c = λ v f rest w tag entry reads.
    let view = g.R.TreeRep.contents in
    let is = subst (λ (e : Entry). IsEntry e w) c.in-Start.is entry in
    let sound = subst IsSoundEntry c.in-Start.is c.requires.sound in
    starts_as view c.args.at v f rest _ c.in-Start.tree w tag is reads (is_start c.in-Start.kind c.in-Start.tree (view c.in_ok-tree-in-Start.tree) w is sound.1 c.in_ok-tree-in-Start.ensures)

pub returns-in_ok-tree-in-Start-clause-tree : goal.returns-in_ok-tree-in-Start-clause-tree
returns-in_ok-tree-in-Start-clause-tree g c =
    let w = c.requires.spelled.1 in
    let is = subst (λ (e : Entry). IsEntry e w) c.in-Start.is c.requires.spelled.2 in
    let sound = subst IsSoundEntry c.in-Start.is c.requires.sound in
    (an_entry w, is_start c.in-Start.kind c.in-Start.tree (g.R.TreeRep.contents c.in_ok-tree-in-Start.tree) w is sound.1 c.in_ok-tree-in-Start.ensures)

pub returns-in_default-clause-started : goal.returns-in_default-clause-started
returns-in_default-clause-started g c = λ v f rest w tag is reads. starts_refused g.R.TreeRep.contents c.args.at v f rest (other_entry_first v f c.args.entry.now w tag reads is c.in_default.not-Start)
