use Rattle.std.proofs.Common.{◌≡◌, ◌∷◌, ◌++◌, [], sym, subst, refl, arith}
use Rattle.cp_tree.specs.Branch.{without_child}
use Rattle.cp_tree.specs.Sums.{AreChildren}
use Rattle.cp_tree.proofs.SumsLemmas.{children_front, children_back}
use Rattle.cp_tree_share.proofs.At.{cut_in_left, cut_in_right, cut_in_mid}
use Rattle.cp_tree_share.proofs.forest.Forest.+remove.Goals as goal
use Rattle.cp_tree_share.proofs.forest.Forest.+remove.Goals.{In_ok-left-in-Less, In_ok-right-in-Greater, In-Equal}

in_left : (t : _) (c : goal.In_ok-left-in-Less t) → without_child c.args.label.now c.args.self.now.0 ≡ c.in_ok-left-in-Less.left.0 ++ c.in-Some.fork.now.entry ∷ c.in-Some.fork.now.right.0
in_left t c =
    let f = c.in-Some.ensures.full in
    cut_in_left _ _ _ _ f _ _ (sym c.in-Less.ensures) c.in_ok-left-in-Less.ensures.edges

in_right : (t : _) (c : goal.In_ok-right-in-Greater t) → without_child c.args.label.now c.args.self.now.0 ≡ c.in-Some.fork.now.left.0 ++ c.in-Some.fork.now.entry ∷ c.in_ok-right-in-Greater.right.0
in_right t c =
    let f = c.in-Some.ensures.full in
    cut_in_right _ _ _ _ f _ _ (sym c.in-Greater.ensures) c.in_ok-right-in-Greater.ensures.edges

in_mid : (t : _) (c : goal.In-Equal t) → without_child c.args.label.now c.args.self.now.0 ≡ c.in-Some.fork.now.left.0 ++ c.in-Some.fork.now.right.0
in_mid t c =
    let f = c.in-Some.ensures.full in
    cut_in_mid _ _ _ _ f _ (sym c.in-Equal.ensures)

pub balance-requires-clause-children : goal.balance-requires-clause-children
balance-requires-clause-children t c = subst AreChildren (in_left t (goal.at.balance-requires-clause-children t c).In_ok-left-in-Less) c.requires

pub join-requires-clause-children : goal.join-requires-clause-children
join-requires-clause-children t c = subst AreChildren (in_mid t c) c.requires

pub balance-requires-in-Greater-clause-children : goal.balance-requires-in-Greater-clause-children
balance-requires-in-Greater-clause-children t c = subst AreChildren (in_right t (goal.at.balance-requires-in-Greater-clause-children t c).In_ok-right-in-Greater) c.requires

pub returns-in_ok-left-in-Less-clause-edges : goal.returns-in_ok-left-in-Less-clause-edges
returns-in_ok-left-in-Less-clause-edges t c = rw (in_left t (goal.at.returns-in_ok-left-in-Less-clause-edges t c).In_ok-left-in-Less) c.balance.ensures.edges

pub returns-in-Equal-clause-edges : goal.returns-in-Equal-clause-edges
returns-in-Equal-clause-edges t c = rw (in_mid t (goal.at.returns-in-Equal-clause-edges t c).In-Equal) c.join.ensures.edges

pub returns-in_ok-right-in-Greater-clause-edges : goal.returns-in_ok-right-in-Greater-clause-edges
returns-in_ok-right-in-Greater-clause-edges t c = rw (in_right t (goal.at.returns-in_ok-right-in-Greater-clause-edges t c).In_ok-right-in-Greater) c.balance-in-Greater.ensures.edges

pub remove-requires : goal.remove-requires
remove-requires t c =
    let f = c.in-Some.ensures.full in
    let e = cut_in_left _ _ _ _ f c.args.label.now _ (sym c.in-Less.ensures) refl in
    (omega (arith, f.count, f.some), children_front (without_child c.args.label.now c.in-Some.fork.now.left.0) (c.in-Some.fork.now.entry ∷ c.in-Some.fork.now.right.0) (subst AreChildren e c.requires))

pub remove-requires-in-Greater : goal.remove-requires-in-Greater
remove-requires-in-Greater t c =
    let f = c.in-Some.ensures.full in
    let e = cut_in_right _ _ _ _ f c.args.label.now _ (sym c.in-Greater.ensures) refl in
    (omega (arith, f.count, f.some), children_back (c.in-Some.fork.now.entry ∷ []) (without_child c.args.label.now c.in-Some.fork.now.right.0) (children_back c.in-Some.fork.now.left.0 (c.in-Some.fork.now.entry ∷ without_child c.args.label.now c.in-Some.fork.now.right.0) (subst AreChildren e c.requires)))
