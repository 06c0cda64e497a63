use Rattle.std.proofs.Common.{◌∙◌, ap, ◌++◌, IsUtf8, subst}
use Rattle.cp_path.specs.Encoding.{counted_bytes, path_bytes}
use Rattle.cp_record.specs.Kept.{IsLabel}
use Rattle.cp_format.proofs.Growing.{after_success}
use Rattle.cp_frame.proofs.PutOps.{planted_grew, planted_put}
use Rattle.cp_frame.proofs.operation.put_planted.Goals as goal

pub returns-clause-ok : goal.returns-clause-ok
returns-clause-ok c =
    let spelled : IsLabel c.args.label.now = record { text = subst IsUtf8 c.as_str.ensures.text c.as_str.utf8; short = c.as_str.ensures.short } in
    let label = c.in_ok-put_counted.ensures.ok ∙ ap (λ l. c.put_path.new.out.items ++ counted_bytes l) (c.as_bytes.ensures.value ∙ c.as_str.ensures.text) in
    after_success c.put_tree.result
    (planted_put c.args.into.now c.args.label.now c.args.tree.now c.args.out.now.items c.push.new.self.items c.put_path.new.out.items c.put_counted.new.out.items c.put_tree.new.out.items c.requires.branch
    c.in_ok-push.ensures.items c.in_ok-put_path.ensures.ok label c.in_ok-put_path.ensures.path spelled)
    c.put_tree.ensures.ok

pub returns-clause-err : goal.returns-clause-err
returns-clause-err c =
    let label = c.in_ok-put_counted.ensures.ok ∙ ap (λ l. c.put_path.new.out.items ++ counted_bytes l) (c.as_bytes.ensures.value ∙ c.as_str.ensures.text) in
    planted_grew c.args.tree.now (path_bytes c.args.into.now.path) (counted_bytes c.args.label.now) c.args.out.now.items c.push.new.self.items c.put_path.new.out.items c.put_counted.new.out.items c.put_tree.new.out.items c.put_tree.result
    c.in_ok-push.ensures.items c.in_ok-put_path.ensures.ok label c.put_tree.ensures.ok c.put_tree.ensures.err
