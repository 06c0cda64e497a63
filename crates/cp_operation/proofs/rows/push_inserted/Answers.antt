use Rattle.cp_model.specs.Literals.{literal_rows}
use Rattle.cp_tree.specs.Rows.{deepest}
use Rattle.cp_operation.proofs.OpRows.{child-room, made-within, ins-added}
use Rattle.cp_operation.proofs.rows.push_inserted.Goals as goal

pub child-requires : goal.child-requires
child-requires c = record { room = child-room c.args.into.now.path c.args.label.now (deepest (literal_rows c.args.literal.now)) c.requires.shallow }

pub push_literal-requires : goal.push_literal-requires
push_literal-requires c =
    record { shallow = made-within c.in_ok-base.base c.root.result c.args.into.now.path c.args.label.now (deepest (literal_rows c.args.literal.now)) c.in_ok-base.ensures c.root.ensures c.requires.shallow }

pub returns-clause-ok : goal.returns-clause-ok
returns-clause-ok c =
    ins-added c.push_literal.result c.args.tid c.in_ok-base.base c.root.result c.args.into.now.path c.args.label.now (literal_rows c.args.literal.now) _ _ c.in_ok-base.ensures c.root.ensures c.push_literal.ensures.ok
