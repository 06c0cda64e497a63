use Rattle.std.proofs.Common.{◌≡◌, true, refl}
use Rattle.cp_operation.proofs.OpRows.{rows-within, copy-within, subtree-added, copy-itself, copy-added}
use Rattle.cp_operation.proofs.rows.push_within.Goals as goal

pub returns-then-is_at-clause-ok : goal.returns-then-is_at-clause-ok
returns-then-is_at-clause-ok g c = λ ss named.
    copy-itself c.args.tid ss (g.R.TreeRep.contents c.args.tree.now) c.args.from.now c.args.into.now c.args.rows.now (c.is_at.ensures.0 c.if-is_at.true)

pub push_copies-requires : goal.push_copies-requires
push_copies-requires g c =
    let t = g.R.TreeRep.contents c.args.tree.now in
    let q = c.args.from.now.path in
    record {
      shallow = copy-within t c.args.from.now c.args.into.now c.in_ok-list.list c.requires.there c.requires.places c.in_ok-list.ensures;
      source = rows-within t q q c.in_ok-list.list (g.met.R.TreeRep.is_tree c.args.tree.now) c.requires.there refl c.in_ok-list.ensures;
    }

pub returns-clause-ok : goal.returns-clause-ok
returns-clause-ok g c = λ ss named.
    let t = g.R.TreeRep.contents c.args.tree.now in
    copy-added c.push_copies.result c.args.tid ss t t c.args.from.now c.args.into.now _ _ (λ e. let k : c.is_at.result ≡ true = c.is_at.ensures.1 e in cc) named
    (subtree-added c.push_copies.result c.args.tid t c.args.from.now c.args.into.now c.in_ok-list.list _ _ c.in_ok-list.ensures c.push_copies.ensures.ok)
