-- A step of copies over what is the same already.
use Rattle.std.specs.Prelude.{◌≡◌, true, List, [], ◌∷◌, is_some, refl, if◌then◌else◌}
use Rattle.std.proofs.Common.{sym, ap, subst, ◌∙◌}
use Rattle.std.specs.List.{AllByRecursion}
use Rattle.std.specs.declared.option.Option.{Option}
use Rattle.std.specs.declared.option.Option.TheVariants.{None, Some}
use Rattle.cp_model.specs.Place.{Path, strip, in_target}
use Rattle.cp_model.specs.Keyed as keyed
use Rattle.cp_model.specs.Keyed.{look}
use Rattle.cp_model.specs.Laws.{at_rest_or}
use Rattle.cp_model.specs.Subtrees.{below}
use Rattle.cp_model.specs.Tree.{Tree, Source, database, source, subtree_at, tree_after, refusal}
use Rattle.cp_model.specs.declared.op.Op.{Op}
use Rattle.cp_model.specs.declared.op.Op.TheVariants.{Ins, Del, Copy}
use Rattle.cp_model.specs.declared.refusal.Refusal.{Refusal}
use Rattle.cp_model.proofs.KeyedLemmas.{same_map}
use Rattle.cp_model.proofs.Lookups.{find-below, get-replaced}
use Rattle.cp_model.proofs.Strips.{strip_is}
use Rattle.cp_operation.specs.Passed.{AllAccepted, tree_until}
use Rattle.cp_archive.specs.Touching.{Covers, IsIdle}

-- a copy over what is the same already leaves the tree
idle-leaves : (ss : List Source) (t : Tree) (op : Op) → IsIdle t op → tree_after ss t op ≡ t
unfolding tree_after
idle-leaves ss t (Ins p a l) h = absurd h
idle-leaves ss t (Del a p) h = absurd h
idle-leaves ss t (Copy q p) h = same_map (tree_after ss t (Copy q p)) t (λ r. get-replaced p.path (subtree_at (database ss t q) q.path) t r ∙ by r (strip p.path r) refl)
  where
    same : subtree_at (database ss t q) q.path ≡ below p.path t
    same = ap (λ b. subtree_at (if b then Some t else source ss q.db) q.path) h.0 ∙ h.1

    by : (r : Path) (o : Option Path) → strip p.path r ≡ o → at_rest_or o (λ s. look s (subtree_at (database ss t q) q.path)) (keyed.get t r) ≡ keyed.get t r
    by r None e = refl
    by r (Some s) e = ap (look s) same ∙ find-below p.path s t ∙ ap (keyed.get t) (sym (strip_is p.path r s e))

-- so do such copies one after another
until-idle : (ss : List Source) (t : Tree) (ops : List Op) → AllByRecursion (IsIdle t) ops → tree_until ss t ops ≡ t
until-idle ss t [] h = refl
until-idle ss t (op ∷ ops) h = by (refusal ss t op) (ap (λ u. tree_until ss u ops) (idle-leaves ss t op h.0) ∙ until-idle ss t ops h.1)
  where
    by : (o : Option Refusal) → tree_until ss (tree_after ss t op) ops ≡ t → (if is_some o then t else tree_until ss (tree_after ss t op) ops) ≡ t
    by None rest = rest
    by (Some r) rest = refl

-- no place need cover what they change
pub idle-covers : (t : Tree) (ops : List Op) (ps : List Path) → AllByRecursion (IsIdle t) ops → (ss : List Source) → AllAccepted ss t ops → Covers ps t (tree_until ss t ops)
idle-covers t ops ps h ss a = λ q n. ap (λ u. keyed.get u q) (until-idle ss t ops h)
