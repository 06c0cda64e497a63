use Rattle.std.proofs.Common.{◌∙◌, ◌+◌, [], ◌∷◌, false, ap, subst}
use Rattle.cp_model.specs.History.{after_load, load, start}
use Rattle.cp_journal.specs.declared.limits.TheConstants.{HEADER_SIZE, FRAME_HEAD}
use Rattle.cp_frame.specs.Sizes.{start_size, load_size}
use Rattle.cp_db.specs.Databases as database
use Rattle.cp_db.proofs.Keeping.{stands-then}
use Rattle.cp_gen.specs.Source.{source_name, source_tree}
use Rattle.cp_scratch.specs.Sessions.{empty_tree}
use Rattle.cp_scratch.proofs.Beginning.{is-source, source-ends, unspent}
use Rattle.cp_scratch.proofs.workload.db_with_source.Goals as goal

pub load-requires-clause-stands : goal.load-requires-clause-stands
load-requires-clause-stands g c = let z = c.in_ok-db.ensures.stands false in (z.state, z.holds)

pub load-requires-clause-source : goal.load-requires-clause-source
load-requires-clause-source g c = is-source (g.S.TreeRep.contents c.in_ok-tree.tree) c.in_ok-name.name c.in_ok-name.ensures c.in_ok-tree.ensures

pub returns-in-Ok-clause-stands : goal.returns-in-Ok-clause-stands
returns-in-Ok-clause-stands g c = λ right.
    let view = g.R.TreeRep.contents in
    let source_view = g.S.TreeRep.contents in
    let k = c.args.kind in
    let began = subst (λ t. database.Stands view source_view right c.in_ok-db.db (start k t ∷ [])) c.in_ok-root.ensures (c.in_ok-db.ensures.stands right) in
    let added =
    stands-then view source_view right c.in_ok-db.db c.load.new.self (start k empty_tree ∷ []) began (load c.in_ok-name.name (source_view c.in_ok-tree.tree)) (after_load began.state c.in_ok-name.name (source_view c.in_ok-tree.tree)) _
    (c.in-Ok.ensures.loaded began.state began.holds).2 in
    subst (λ n. database.Stands view source_view right c.load.new.self (start k empty_tree ∷ load n source_tree ∷ [])) c.in_ok-name.ensures
    (subst (λ t. database.Stands view source_view right c.load.new.self (start k empty_tree ∷ load c.in_ok-name.name t ∷ [])) c.in_ok-tree.ensures added)

pub returns-in-Ok-clause-ends : goal.returns-in-Ok-clause-ends
returns-in-Ok-clause-ends g c =
    let view = g.R.TreeRep.contents in
    let source_view = g.S.TreeRep.contents in
    let k = c.args.kind in
    let began = subst (λ t. database.Stands view source_view false c.in_ok-db.db (start k t ∷ [])) c.in_ok-root.ensures (c.in_ok-db.ensures.stands false) in
    let added = (c.in-Ok.ensures.loaded began.state began.holds).2.end in
    source-ends k (database.end_in c.in_ok-db.db) (database.end_in c.load.new.self)
    (c.in_ok-db.ensures.made.2 ∙ ap (λ t. HEADER_SIZE + FRAME_HEAD + start_size t) c.in_ok-root.ensures)
    (added ∙ ap (λ n. database.end_in c.in_ok-db.db + FRAME_HEAD + load_size n (source_view c.in_ok-tree.tree)) c.in_ok-name.ensures ∙ ap (λ t. database.end_in c.in_ok-db.db + FRAME_HEAD + load_size source_name t) c.in_ok-tree.ensures)

pub returns-in-Ok-clause-made : goal.returns-in-Ok-clause-made
returns-in-Ok-clause-made g c = (
  c.load.ensures.version ∙ c.in_ok-db.ensures.made.0,
  unspent (database.is_spent c.load.new.self) tt c.in-Ok.ensures.spent.0,
)
