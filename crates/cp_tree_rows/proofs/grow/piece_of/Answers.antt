use Rattle.std.proofs.Common.{arith, ap, subst, sym, length, ◌∷◌}
use Rattle.cp_tree_rows.specs.Spots.{IsPiece, piece_entries}
use Rattle.cp_tree_rows.proofs.Growing.{tree_piece}
use Rattle.cp_tree_rows.proofs.grow.piece_of.Goals as goal

pub returns-clause-piece : goal.returns-clause-piece
returns-clause-piece c =
    let n = c.args.tree in
    subst (IsPiece c.args.label.now) (sym c.in_ok-insert.ensures.items)
    (tree_piece c.args.label.now (record { label = c.in_ok-of.field-0; item = n.item; below = c.len.result; last = n.last }) n.rows.items c.in_ok-of.ensures (omega (arith, c.len.ensures, n.rows.ok.0)) n.part)

pub returns-clause-entries : goal.returns-clause-entries
returns-clause-entries c = ap piece_entries c.in_ok-insert.ensures.items

pub returns-clause-count : goal.returns-clause-count
returns-clause-count c = omega (arith, ap length c.in_ok-insert.ensures.items)
