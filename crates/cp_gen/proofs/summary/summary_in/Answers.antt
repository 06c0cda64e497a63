use Rattle.std.proofs.Common.{◌≡◌, ◌≤◌, ◌∙◌, true, length, map, sym, ap, subst}
use Rattle.cp_model.specs.Answers.{stats}
use Rattle.cp_model.specs.Keyed.{len}
use Rattle.cp_model.specs.Subtrees.{below, is_there}
use Rattle.cp_model.specs.declared.limits.TheConstants.{NODES_MAX}
use Rattle.cp_tree.specs.Rows.{entry_row}
use Rattle.cp_reply.specs.declared.reply.Reply.TheVariants.{Gen}
use Rattle.cp_gen.specs.Summaries.{count_born, count_copies, paths_in, row_paths}
use Rattle.cp_gen.proofs.Answered.{answered-at, answered-database, answered-then, tree-at}
use Rattle.cp_gen.proofs.Counting.{rows-length, rows-paths}
use Rattle.cp_gen.proofs.summary.summary_in.Goals as goal

pub rows-requires : goal.rows-requires
rows-requires g c = record { there = subst (λ p. is_there (g.R.TreeRep.contents c.tree.result.now) p ≡ true) (sym c.root-top.ensures) (g.met.R.TreeRep.is_tree c.tree.result.now).rooted.root }

pub count_places-requires-clause-stands : goal.count_places-requires-clause-stands
count_places-requires-clause-stands g c = answered-database g.R.TreeRep.contents g.S.TreeRep.contents c.args.db.now c.numbers_of.new.db c.numbers_of.ensures.same c.requires.stands

pub count_places-requires-clause-few : goal.count_places-requires-clause-few
count_places-requires-clause-few g c =
    let u = g.R.TreeRep.contents c.tree.result.now in
    let rows = rows-length u c.in_ok-rows.rows (subst (λ p. c.in_ok-rows.rows ≡ map entry_row (below p u)) c.root-top.ensures c.in_ok-rows.ensures) in
    subst (λ n. n ≤ NODES_MAX) (sym (ap length (c.as_slice.ensures.value ∙ c.rows-2.view_is) ∙ rows)) (g.met.R.TreeRep.is_tree c.tree.result.now).within.nodes

pub returns-in_err-counts-clause-same : goal.returns-in_err-counts-clause-same
returns-in_err-counts-clause-same g c = answered-then g.R.TreeRep.contents g.S.TreeRep.contents c.args.db.now c.numbers_of.new.db c.numbers_of.ensures.same c.count_places.new.db c.count_places.ensures.same

pub returns-clause-summary : goal.returns-clause-summary
returns-clause-summary g c = λ t z.
    let view = g.R.TreeRep.contents in
    let source_view = g.S.TreeRep.contents in
    let u = view c.tree.result.now in
    let now = answered-at view source_view c.args.db.now c.numbers_of.new.db c.numbers_of.ensures.same t z in
    let listed = subst (λ p. c.in_ok-rows.rows ≡ map entry_row (below p u)) c.root-top.ensures c.in_ok-rows.ensures in
    let paths : row_paths c.as_slice.result.now ≡ paths_in t = ap row_paths (c.as_slice.ensures.value ∙ c.rows-2.view_is) ∙ rows-paths t u c.in_ok-rows.rows listed (tree-at view source_view c.numbers_of.new.db t u c.tree.ensures now) in
    ap (λ n. Gen n n.nodes c.in_ok-counts.counts.born c.in_ok-counts.counts.copies) (c.in_ok-numbers.ensures.numbers t z)
    ∙ ap (λ b. Gen (stats t) (len t.tree) b c.in_ok-counts.counts.copies) (c.in_ok-counts.ensures.born t now ∙ ap (count_born t) paths)
    ∙ ap (Gen (stats t) (len t.tree) (count_born t (paths_in t))) (c.in_ok-counts.ensures.copies t now ∙ ap (count_copies t) paths)

pub returns-clause-same : goal.returns-clause-same
returns-clause-same g c = answered-then g.R.TreeRep.contents g.S.TreeRep.contents c.args.db.now c.numbers_of.new.db c.numbers_of.ensures.same c.count_places.new.db c.count_places.ensures.same
