-- What an accepted operation gives to the change of the tree.
use Rattle.std.specs.Prelude.{◌≡◌, Bool, true, false, List, is_some, if◌then◌else◌, Result, Ok, Err, OnOk, OnErr}
use Rattle.std.proofs.Common.{sym, ap, subst, ◌∙◌}
use Rattle.std.specs.declared.option.Option.{Option}
use Rattle.std.specs.declared.option.Option.TheVariants.{None, Some}
use Rattle.cp_path.specs.declared.loc.Loc.{Loc}
use Rattle.cp_model.specs.declared.literal.Literal.{Literal}
use Rattle.cp_model.specs.declared.op.Op.{Op}
use Rattle.cp_model.specs.declared.op.Op.TheVariants.{Ins, Del, Copy}
use Rattle.cp_model.specs.Place.{Label, child, in_target, option_map}
use Rattle.cp_model.specs.Subtrees.{below, with_subtree, without, is_there}
use Rattle.cp_model.specs.Literals.{literal_rows}
use Rattle.cp_model.specs.Tree.{Tree, Source, source, database, IsTree, refusal, tree_after, subtree_at, reaches_over}
use Rattle.cp_model.specs.History.{IsWritten}
use Rattle.cp_model.proofs.Accepted.{ins_accepted, copy_accepted}
use Rattle.cp_model.specs.Laws.{AreTrees}
use Rattle.cp_model.proofs.Kept.{tree-changed}
use Rattle.cp_record.specs.Packed.{IsSmall}
use Rattle.cp_operation.specs.Copies.{IsCopied}
use Rattle.cp_operation.proofs.Limits.{literal-small}

-- an operation that isn't refused, seen as what it is
pub accepts : (ss : List Source) (t : Tree) (op o : Op) → op ≡ o → refusal ss t op ≡ None → refusal ss t o ≡ None
accepts ss t op o e n = ap (λ o. refusal ss t o) (sym e) ∙ n

-- an insertion puts the literal under its label
pub ins-changed : (ss : List Source) (t : Tree) (p : Loc) (a : Label) (l : Literal) → tree_after ss t (Ins p a l) ≡ with_subtree (child p.path a) (literal_rows l) t
unfolding tree_after
ins-changed ss t p a l = λ _. with_subtree (child p.path a) (literal_rows l) t

-- a deletion drops what is at the label
pub del-changed : (ss : List Source) (t : Tree) (p : Loc) (a : Label) → tree_after ss t (Del a p) ≡ without (child p.path a) t
unfolding tree_after
del-changed ss t p a = λ _. without (child p.path a) t

-- a copy puts the subtree of the tree that it names
pub copy-changed : (ss : List Source) (t u : Tree) (q p : Loc) → database ss t q ≡ Some u → tree_after ss t (Copy q p) ≡ with_subtree p.path (below q.path u) t
unfolding tree_after
copy-changed ss t u q p e = ap (λ o. with_subtree p.path (subtree_at o q.path) t) e

pub ins-tree : (ss : List Source) (t : Tree) (p : Loc) (a : Label) (l : Literal) → IsTree t → AreTrees ss → IsWritten (Ins p a l) → refusal ss t (Ins p a l) ≡ None → IsTree (with_subtree (child p.path a) (literal_rows l) t)
ins-tree ss t p a l h k w n = subst IsTree (ins-changed ss t p a l) (tree-changed ss t (Ins p a l) h k w n)

-- a copy that isn't refused is one from the tree that it names
pub copy-copied : (ss : List Source) (t u : Tree) (q p : Loc) → IsTree t → AreTrees ss → refusal ss t (Copy q p) ≡ None → database ss t q ≡ Some u → IsCopied t u q p
copy-copied ss t u q p h k n e =
    let x = copy_accepted ss t q p n in
    let same : x.tree ≡ u = let d : Some x.tree ≡ Some u = sym x.is_tree ∙ e in cc in
    record {
      there = x.there;
      origin = ap (λ v. is_there v q.path) (sym same) ∙ x.origin;
      places = ap (λ v. reaches_over p (below q.path v)) (sym same) ∙ x.places;
      fits = subst IsTree (copy-changed ss t u q p e) (tree-changed ss t (Copy q p) h k tt n);
    }

-- the tree itself is named by its own places
pub named-inside : (ss : List Source) (t : Tree) (q : Loc) (b : Bool) → b ≡ in_target q → b ≡ true → database ss t q ≡ Some t
named-inside ss t q b e i = ap (λ b. if b then Some t else source ss q.db) (sym e ∙ i)

-- and a source by those of its name, where o is what was found, and p what that is
pub named-loaded : {B : Type 0} (see : B → Tree) (ss : List Source) (t : Tree) (q : Loc) (b : Bool) (o p : Option B) → b ≡ in_target q → b ≡ false → option_map see o ≡ source ss q.db → o ≡ p → database ss t q ≡ option_map see p
named-loaded see ss t q b o p e i f k = ap (λ b. if b then Some t else source ss q.db) (sym e ∙ i) ∙ sym f ∙ ap (option_map see) k

-- a copy that isn't refused is from a database that is there
pub never-sourceless : (ss : List Source) (t : Tree) (q p : Loc) → refusal ss t (Copy q p) ≡ None → database ss t q ≡ None → ⊥
never-sourceless ss t q p n e = let x = copy_accepted ss t q p n in let d : None ≡ Some x.tree = sym e ∙ x.is_tree in cc

-- what an operation made of the tree is what it leads to
pub made : {E : Type 0} (result : Result (Unit {0}) E) (ss : List Source) (t new end : Tree) (op o : Op) → op ≡ o → tree_after ss t o ≡ end → OnOk result (new ≡ end) → OnOk result (new ≡ tree_after ss t op)
made (Ok u) ss t new end op o e c h = h ∙ sym c ∙ ap (λ o. tree_after ss t o) (sym e)
made (Err x) ss t new end op o e c h = tt

-- what holds in any case holds where a call fails, and where it doesn't
pub on-ok : {T E P : Type 0} (r : Result T E) → P → OnOk r P
on-ok (Ok x) p = p
on-ok (Err e) p = tt

pub on-err : {T E P : Type 0} (r : Result T E) → P → OnErr r P
on-err (Ok x) p = tt
on-err (Err e) p = p

-- what came to one end came to an equal one
pub then-is : {X E : Type 0} (result : Result (Unit {0}) E) (new end other : X) → other ≡ end → OnOk result (new ≡ end) → OnOk result (new ≡ other)
then-is (Ok u) new end other e h = h ∙ sym e
then-is (Err x) new end other e h = tt

-- what an accepted operation inserts is within the limit of weight
pub op-small : (ss : List Source) (t : Tree) (op o : Op) → IsTree t → IsWritten op → refusal ss t op ≡ None → o ≡ op → IsSmall o
op-small ss t op o h w n e = subst IsSmall (sym e) (small op w n)
  where
    small : (op : Op) → IsWritten op → refusal ss t op ≡ None → IsSmall op
    small (Ins p a l) w n = let x = ins_accepted ss t p a l n in literal-small t p a l h w.1 (ap is_some x.free) x.fits.weighs
    small (Del a p) w n = tt
    small (Copy q p) w n = tt
