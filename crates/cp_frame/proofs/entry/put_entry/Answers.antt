use Rattle.std.proofs.Common.{◌∙◌, ◌++◌, false, ap, subst, IsUtf8}
use Rattle.cp_path.specs.Encoding.{counted_bytes}
use Rattle.cp_frame.specs.Sound.{IsSoundEntry}
use Rattle.cp_format.proofs.Growing.{after_success}
use Rattle.cp_frame.proofs.FoundRows.{sound_writable}
use Rattle.cp_frame.proofs.PutEntries.{commit_put, load_put, stamped_put, start_put}
use Rattle.cp_frame.proofs.SpelledEntries.{batch_allowed}
use Rattle.cp_frame.proofs.entry.put_entry.Goals as goal

pub put_tree-requires-clause-texts : goal.put_tree-requires-clause-texts
put_tree-requires-clause-texts c = (sound_writable c.in-Start.tree (subst IsSoundEntry c.in-Start.is c.requires)).0

pub put_tree-requires-clause-few : goal.put_tree-requires-clause-few
put_tree-requires-clause-few c = (sound_writable c.in-Start.tree (subst IsSoundEntry c.in-Start.is c.requires)).1

pub put_tree-requires-in-Load-clause-texts : goal.put_tree-requires-in-Load-clause-texts
put_tree-requires-in-Load-clause-texts c = let s = subst IsSoundEntry c.in-Load.is c.requires in (sound_writable c.in-Load.tree (s.literal, s.tree)).0

pub put_tree-requires-in-Load-clause-few : goal.put_tree-requires-in-Load-clause-few
put_tree-requires-in-Load-clause-few c = let s = subst IsSoundEntry c.in-Load.is c.requires in (sound_writable c.in-Load.tree (s.literal, s.tree)).1

pub put_batch-requires : goal.put_batch-requires
put_batch-requires c = batch_allowed false c.in-Commit.ops c.in-Commit.records (subst IsSoundEntry c.in-Commit.is c.requires)

pub returns-in_ok-push-in-Start-2 : goal.returns-in_ok-push-in-Start-2
returns-in_ok-push-in-Start-2 c =
    after_success c.put_tree.result
    (start_put c.args.entry.now c.args.out.now.items c.push.new.self.items c.put_tree.new.out.items c.in-Start.kind c.in-Start.tree c.kind_number.result c.push-in-Start.new.self.items
    c.in-Start.is c.kind_number.ensures c.in_ok-push-in-Start.ensures.items c.in_ok-push-in-Start-2.ensures.items)
    c.put_tree.ensures.ok

pub returns-in_ok-put_counted-in-Load : goal.returns-in_ok-put_counted-in-Load
returns-in_ok-put_counted-in-Load c =
    after_success c.put_tree-in-Load.result
    (load_put c.args.entry.now c.args.out.now.items c.push-in-Load.new.self.items c.put_tree-in-Load.new.out.items c.in-Load.name c.in-Load.tree c.put_counted.new.out.items
    c.in-Load.is c.in_ok-push-in-Load.ensures.items
    (c.in_ok-put_counted-in-Load.ensures.ok ∙ ap (λ n. c.push-in-Load.new.self.items ++ counted_bytes n) (c.as_bytes.ensures.value ∙ c.as_str.ensures.text))
    (record { text = subst IsUtf8 c.as_str.ensures.text c.as_str.utf8; name = c.as_str.ensures.name }))
    c.put_tree-in-Load.ensures.ok

pub returns-in_ok-push-in-Commit : goal.returns-in_ok-push-in-Commit
returns-in_ok-push-in-Commit c =
    after_success c.put_batch.result
    (commit_put c.args.entry.now c.args.out.now.items c.push-in-Commit.new.self.items c.put_batch.new.out.items c.in-Commit.ops c.in-Commit.records c.in-Commit.is c.in_ok-push-in-Commit.ensures.items)
    c.put_batch.ensures

pub returns-in_ok-put_stamp-in-Stamped : goal.returns-in_ok-put_stamp-in-Stamped
returns-in_ok-put_stamp-in-Stamped c =
    after_success c.put_batch-in-Stamped.result
    (stamped_put c.args.entry.now c.args.out.now.items c.push-in-Stamped.new.self.items c.put_batch-in-Stamped.new.out.items c.in-Stamped.stamp c.in-Stamped.ops c.in-Stamped.records c.put_stamp.new.out.items
    c.in-Stamped.is c.in_ok-push-in-Stamped.ensures.items c.in_ok-put_stamp-in-Stamped.ensures.ok c.in_ok-put_stamp-in-Stamped.ensures.stamp)
    c.put_batch-in-Stamped.ensures
