use Rattle.std.proofs.Common.{◌≡◌, ◌∷◌, ◌++◌, [], sym, subst, refl, arith}
use Rattle.std.specs.FinMap.Entries.{put}
use Rattle.std.specs.declared.cmp.Ordering.TheVariants.{Less, Equal, Greater}
use Rattle.cp_path.specs.Text.{text_cmp}
use Rattle.cp_tree.specs.Sums.{AreChildren}
use Rattle.cp_tree.proofs.SumsLemmas.{children_front, children_back}
use Rattle.cp_tree_share.proofs.At.{put_in_left, put_in_right, put_in_mid, edges_alone}
use Rattle.cp_tree_share.proofs.forest.Forest.+put.Goals as goal
use Rattle.cp_tree_share.proofs.forest.Forest.+put.Goals.{In_ok-left-in-Less, In_ok-right-in-Greater, In-Equal}

in_left : (t : _) (c : goal.In_ok-left-in-Less t) → put text_cmp c.args.entry.now.0 c.args.entry.now.1 c.args.self.now.0 ≡ c.in_ok-left-in-Less.left.0 ++ c.in-Some.fork.now.entry ∷ c.in-Some.fork.now.right.0
in_left t c =
    let f = c.in-Some.ensures.full in
    let lt : text_cmp c.args.entry.now.0 c.in-Some.fork.now.entry.0 ≡ Less = sym c.in-Less.ensures in
    put_in_left _ _ _ _ f _ _ _ lt c.in_ok-left-in-Less.ensures.edges

in_right : (t : _) (c : goal.In_ok-right-in-Greater t) → put text_cmp c.args.entry.now.0 c.args.entry.now.1 c.args.self.now.0 ≡ c.in-Some.fork.now.left.0 ++ c.in-Some.fork.now.entry ∷ c.in_ok-right-in-Greater.right.0
in_right t c =
    let f = c.in-Some.ensures.full in
    let gt : text_cmp c.args.entry.now.0 c.in-Some.fork.now.entry.0 ≡ Greater = sym c.in-Greater.ensures in
    put_in_right _ _ _ _ f _ _ _ gt c.in_ok-right-in-Greater.ensures.edges

in_mid : (t : _) (c : goal.In-Equal t) → put text_cmp c.args.entry.now.0 c.args.entry.now.1 c.args.self.now.0 ≡ c.in-Some.fork.now.left.0 ++ c.args.entry.now ∷ c.in-Some.fork.now.right.0
in_mid t c =
    let f = c.in-Some.ensures.full in
    let eq : text_cmp c.args.entry.now.0 c.in-Some.fork.now.entry.0 ≡ Equal = sym c.in-Equal.ensures in
    put_in_mid _ _ _ _ f _ _ eq

pub balance-requires-clause-children : goal.balance-requires-clause-children
balance-requires-clause-children t c = subst AreChildren (in_left t (goal.at.balance-requires-clause-children t c).In_ok-left-in-Less) c.requires

pub fork_shared-requires-in-Equal-clause-children : goal.fork_shared-requires-in-Equal-clause-children
fork_shared-requires-in-Equal-clause-children t c = subst AreChildren (in_mid t c) c.requires

pub balance-requires-in-Greater-clause-children : goal.balance-requires-in-Greater-clause-children
balance-requires-in-Greater-clause-children t c = subst AreChildren (in_right t (goal.at.balance-requires-in-Greater-clause-children t c).In_ok-right-in-Greater) c.requires

pub returns-in_ok-left-in-Less-clause-edges : goal.returns-in_ok-left-in-Less-clause-edges
returns-in_ok-left-in-Less-clause-edges t c = rw (in_left t (goal.at.returns-in_ok-left-in-Less-clause-edges t c).In_ok-left-in-Less) c.balance.ensures.edges

pub returns-in-Equal-clause-edges : goal.returns-in-Equal-clause-edges
returns-in-Equal-clause-edges t c = rw (in_mid t (goal.at.returns-in-Equal-clause-edges t c).In-Equal) (edges_alone c.fork_shared-in-Equal.result _ c.fork_shared-in-Equal.ensures)

pub returns-in_ok-right-in-Greater-clause-edges : goal.returns-in_ok-right-in-Greater-clause-edges
returns-in_ok-right-in-Greater-clause-edges t c = rw (in_right t (goal.at.returns-in_ok-right-in-Greater-clause-edges t c).In_ok-right-in-Greater) c.balance-in-Greater.ensures.edges

pub put-requires : goal.put-requires
put-requires t c =
    let f = c.in-Some.ensures.full in
    let e = put_in_left _ _ _ _ f c.args.entry.now.0 c.args.entry.now.1 _ (sym c.in-Less.ensures) refl in
    (omega (arith, f.count, f.some), children_front (put text_cmp c.args.entry.now.0 c.args.entry.now.1 c.in-Some.fork.now.left.0) (c.in-Some.fork.now.entry ∷ c.in-Some.fork.now.right.0) (subst AreChildren e c.requires))

pub put-requires-in-Greater : goal.put-requires-in-Greater
put-requires-in-Greater t c =
    let f = c.in-Some.ensures.full in
    let e = put_in_right _ _ _ _ f c.args.entry.now.0 c.args.entry.now.1 _ (sym c.in-Greater.ensures) refl in
    (omega (arith, f.count, f.some), children_back (c.in-Some.fork.now.entry ∷ []) (put text_cmp c.args.entry.now.0 c.args.entry.now.1 c.in-Some.fork.now.right.0) (children_back c.in-Some.fork.now.left.0 (c.in-Some.fork.now.entry ∷ put text_cmp c.args.entry.now.0 c.args.entry.now.1 c.in-Some.fork.now.right.0) (subst AreChildren e c.requires)))
