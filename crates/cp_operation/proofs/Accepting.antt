-- What accepted operations are, and that those of a step that is done are accepted.
use Rattle.cp_path.specs.declared.limits.TheConstants.{LABELS_MAX, LOC_MAX}
use Rattle.std.specs.Prelude.{ℕ, ◌+◌, ◌-◌, ◌≤◌, ◌≡◌, Bool, true, false, ◌||◌, List, [], ◌∷◌, ◌++◌, length, fold, sum_by, is_some, nat_lt, refl}
use Rattle.std.proofs.Common.{sym, ap, subst, ◌∙◌, arith, length-append}
use Rattle.std.specs.List.{AllByRecursion}
use Rattle.std.proofs.lemmas.List.{length-map}
use Rattle.std.proofs.lemmas.List.Sums.{sum_by-append}
use Rattle.std.specs.declared.option.Option.{Option}
use Rattle.std.specs.declared.option.Option.TheVariants.{None, Some}
use Rattle.cp_path.specs.declared.loc.Loc.{Loc}
use Rattle.cp_path.proofs.Same.{text_eq-same}
use Rattle.cp_model.specs.declared.row.Content.{Content}
use Rattle.cp_model.specs.declared.literal.Literal.{Literal}
use Rattle.cp_model.specs.declared.op.Op.{Op}
use Rattle.cp_model.specs.declared.op.Op.TheVariants.{Ins, Del, Copy}
use Rattle.cp_model.specs.Place.{Label, Path, at_target, target, in_target, child, below_place, over_limit, size}
use Rattle.cp_model.specs.Keyed as keyed
use Rattle.cp_model.specs.Keyed.{look, from_entries}
use Rattle.cp_model.specs.Subtrees.{is_there}
use Rattle.cp_model.specs.Literals.{literal_rows, rows_under}
use Rattle.cp_model.specs.Tree.{Tree, Source, IsTree, refusal, tree_after, weight_of}
use Rattle.cp_model.specs.Step.{Working, contents, open_tree, apply_op, done, then_op, step, is_done}
use Rattle.cp_model.specs.History.{IsLiteral, IsWritten, AreWritten}
use Rattle.cp_model.specs.Laws.{AreSources, AreTrees}
use Rattle.cp_model.proofs.Accepted.{InsAccepted, ins_accepted, del_accepted, copy_accepted, at_most}
use Rattle.cp_model.proofs.Contents.{contents-applied, contents-opened}
use Rattle.cp_model.proofs.Folds.{done_is, first-accepted}
use Rattle.cp_model.proofs.Histories.{trees-sources}
use Rattle.cp_model.proofs.Kept.{none_passes, tree-changed}
use Rattle.cp_model.proofs.Lookups.{find-from_entries}
use Rattle.cp_tree.specs.Rows.{path_size}
use Rattle.cp_tree.proofs.BranchLemmas.{entries-from_entries}
use Rattle.cp_tree.proofs.Fits.{within-limit}
use Rattle.cp_tree.proofs.SumsLemmas.{len_entries, weight_entries}
use Rattle.cp_operation.specs.Accepted.{IsAcceptable}
use Rattle.cp_operation.specs.Passed.{AllAccepted}
use Rattle.cp_operation.proofs.Limits.{ins-numbers, literal-small}

-- ---- one by one

accepted_from : (ss : List Source) (ops : List Op) (j : ℕ) (w : Working) (k : ℕ) (v : Working) → fold (then_op ss) (done j w) ops ≡ done k v → AllAccepted ss (contents w) ops
accepted_from ss [] j w k v e = tt
accepted_from ss (op ∷ ops) j w k v e =
    let x = first-accepted ss op ops j w k v e in
    (x.0, subst (λ t. AllAccepted ss t ops) (contents-applied ss w op) (accepted_from ss ops (j + 1) (apply_op ss w op) k v x.1))

-- operations that are done as one step are accepted one by one
pub done-accepted : (ss : List Source) (t : Tree) (ops : List Op) → is_done (step t ss ops) ≡ true → AllAccepted ss t ops
unfolding step
done-accepted ss t ops h =
    let x = done_is (step t ss ops) h in
    subst (λ u. AllAccepted ss u ops) (contents-opened t) (accepted_from ss ops 0 (open_tree t) x.0 x.1 x.2)

-- ---- what is inserted

neither : (a b : Bool) → (a || b) ≡ false → (a ≡ false) × (b ≡ false)
neither true b e = absurd (cc)
neither false b e = (refl, e)

-- what is within the limits of places below a place of T is within them at the root of T
over_alone : (q : Loc) (s : Path) → in_target q ≡ true → over_limit (below_place q s) ≡ false → over_limit (at_target s) ≡ false
over_alone q s i n =
    let both = neither (nat_lt LABELS_MAX (length (q.path ++ s))) (nat_lt LOC_MAX (size (below_place q s))) n in
    let few : length s ≤ LABELS_MAX = omega (arith, at_most LABELS_MAX (length (q.path ++ s)) both.0, length-append q.path s) in
    let name : length q.db ≡ 1 = ap length (text_eq-same q.db target i) in
    let small : path_size s ≤ LOC_MAX - 1 = omega (arith, at_most LOC_MAX (size (below_place q s)) both.1, name, sum_by-append (λ (a : Label). length a + 1) q.path s) in
    within-limit s few small

-- what an accepted operation inserts is a tree by itself
pub inserted-tree : (t : Tree) (p : Loc) (a : Label) (l : Literal) → IsTree t → IsLiteral (literal_rows l) → InsAccepted t p a l → IsTree (from_entries (literal_rows l))
inserted-tree t p a l h w x =
    let rows : List (Path × Content) = literal_rows l in
    let m : Tree = from_entries rows in
    let same : keyed.entries m ≡ rows = entries-from_entries rows w.sorted in
    let free : is_there t (child p.path a) ≡ false = ap is_some x.free in
    let both = ins-numbers t p.path a l h w free in
    let count : length (rows_under a rows) ≡ length rows = length-map rows (λ r. (a ∷ r.0, r.1)) in
    let fits = x.fits in
    record {
      rooted = w.rooted;
      within = record {
        nodes = omega (arith, len_entries m, ap length same, both.0, count, fits.nodes);
        weighs = omega (arith, weight_entries m, ap (sum_by weight_of) same, literal-small t p a l h w free fits.weighs);
      };
      places = λ r i. there r (look r rows) refl (ap is_some (sym (find-from_entries rows r)) ∙ i);
      texts = λ r c e. w.texts r c (sym (find-from_entries rows r) ∙ e);
      spelled = λ r c e. w.spelled r c (sym (find-from_entries rows r) ∙ e);
    }
  where
    there : (r : Path) (o : Option Content) → look r (literal_rows l) ≡ o → is_some o ≡ true → over_limit (at_target r) ≡ false
    there r None e i = absurd (cc)
    there r (Some c) e i =
        let q : Loc = below_place p (a ∷ []) in
        over_alone q r x.target (none_passes (λ e. over_limit (below_place q e.0)) (literal_rows l) x.places r c e)

-- an accepted operation that can be written is acceptable
pub accepted-target : (ss : List Source) (t : Tree) (op : Op) → IsTree t → IsWritten op → refusal ss t op ≡ None → IsAcceptable op
accepted-target ss t (Ins p a l) h w n = let x = ins_accepted ss t p a l n in (x.target, w.1, inserted-tree t p a l h w.1 x)
accepted-target ss t (Del a p) h w n = (del_accepted ss t p a n).target
accepted-target ss t (Copy q p) h w n = (copy_accepted ss t q p n).target

targets_from : (ss : List Source) (t : Tree) (ops : List Op) → IsTree t → AreTrees ss → AreWritten ops → AllAccepted ss t ops → AllByRecursion IsAcceptable ops
targets_from ss t [] h r w a = tt
targets_from ss t (op ∷ ops) h r w a = (accepted-target ss t op h w.0 a.0, targets_from ss (tree_after ss t op) ops (tree-changed ss t op h r w.0 a.0) r w.1 a.1)

-- accepted operations that can be written are acceptable
pub accepted-targets : (ss : List Source) (t : Tree) (ops : List Op) → IsTree t → AreSources ss → AreWritten ops → AllAccepted ss t ops → AllByRecursion IsAcceptable ops
accepted-targets ss t ops h r w a = targets_from ss t ops h (trees-sources ss r) w a
