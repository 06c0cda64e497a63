-- Where the places of a working tree come from.
use Rattle.std.specs.Prelude.{ℕ, ◌+◌, ◌≡◌, Bool, true, false, List, [], ◌∷◌, ◌++◌, fold, is_some, refl}
use Rattle.std.proofs.Common.{sym, ap, subst, ◌∙◌}
use Rattle.std.specs.declared.option.Option.{Option}
use Rattle.std.specs.declared.option.Option.TheVariants.{None, Some}
use Rattle.cp_path.specs.declared.loc.Loc.{Loc}
use Rattle.cp_model.specs.declared.row.Content.{Content}
use Rattle.cp_model.specs.declared.op.Op.{Op}
use Rattle.cp_model.specs.declared.op.Op.TheVariants.{Ins, Del, Copy}
use Rattle.cp_model.specs.Place.{Path, strip, child, at_target, below_place, in_target, option_map}
use Rattle.cp_model.specs.Keyed as keyed
use Rattle.cp_model.specs.Keyed.{look}
use Rattle.cp_model.specs.Subtrees.{is_there, below, without, with_subtree}
use Rattle.cp_model.specs.Literals.{literal_rows}
use Rattle.cp_model.specs.Tree.{Tree, Source, source, subtree_at, IsTree}
use Rattle.cp_model.specs.Step.{Origin, new, was, Worked, Working, open_tree, as_new, from_source, entries_to_copy, apply_op, done, then_op, step}
use Rattle.cp_model.specs.Laws.{at_rest_or, AreSources, Every, Sound}
use Rattle.cp_model.proofs.Lookups.{find-below, find-with_values, get-replaced, get-without, get-mapped}
use Rattle.cp_model.proofs.Folds.{first-accepted}

same_origin : (y x : Worked) → Some y ≡ Some x → y.origin ≡ x.origin
same_origin y x e = cc

module _ (P : Origin → Type 0) where
  -- what is left after a subtree is dropped has origins as before
  pub every-without : (w : Working) (k : Path) → Every P w → Every P (without k w)
  every-without w k h p x e =
      elim (strip k p) as (λ o. at_rest_or o (λ _. None) (keyed.get w p) ≡ Some x → P x.origin) [
        | None ↦ λ e. h p x e
        | Some s ↦ λ e. absurd (cc)
      ] (sym (get-without k w p) ∙ e)

  -- a subtree with such origins put into the tree leaves every origin such
  pub every-replaced : (w : Working) (k : Path) (es : List (Path × Worked)) → ((s : Path) (x : Worked) → look s es ≡ Some x → P x.origin) → Every P w → Every P (with_subtree k es w)
  every-replaced w k es t h p x e =
      elim (strip k p) as (λ o. at_rest_or o (λ s. look s es) (keyed.get w p) ≡ Some x → P x.origin) [
        | None ↦ λ e. h p x e
        | Some s ↦ λ e. t s x e
      ] (sym (get-replaced k es w p) ∙ e)

  -- what is inserted is new
  pub every-as_new : (es : List (Path × Content)) → P new → (s : Path) (x : Worked) → look s (as_new es) ≡ Some x → P x.origin
  every-as_new es n s x e = one (look s es) (sym (find-with_values inserted s es) ∙ e)
    where
      inserted : Path → Content → Worked
      inserted _ c = record { content = c; origin = new }

      one : (o : Option Content) → option_map (inserted s) o ≡ Some x → P x.origin
      one None e = absurd (cc)
      one (Some c) e = subst P (same_origin (inserted s c) x e) n

  -- sources that a step may copy from
  abbrev pub Fit : List Source → Type 0
  Fit ss = (q : Loc) (t : Tree) (s : Path) → in_target q ≡ false → source ss q.db ≡ Some t → is_there t (q.path ++ s) ≡ true → P (was (below_place q s))

  carried-every : (ss : List Source) (w : Working) (q : Loc) → Fit ss → Every P w → (b : Bool) → in_target q ≡ b → (s : Path) (x : Worked) → look s (entries_to_copy ss w q b) ≡ Some x → P x.origin
  carried-every ss w q f h true i s x e = h (q.path ++ s) x (sym (find-below q.path s w) ∙ e)
  carried-every ss w q f h false i s x e = from (source ss q.db) refl e
    where
      arrived : Path → Content → Worked
      arrived s c = record { content = c; origin = was (below_place q s) }

      one : (t : Tree) → source ss q.db ≡ Some t → (o : Option Content) → keyed.get t (q.path ++ s) ≡ o → option_map (arrived s) o ≡ Some x → P x.origin
      one t k None g e = absurd (cc)
      one t k (Some c) g e = subst P (same_origin (arrived s c) x e) (f q t s i k (ap is_some g))

      from : (o : Option Tree) → source ss q.db ≡ o → look s (from_source q (subtree_at o q.path)) ≡ Some x → P x.origin
      from None k e = absurd (cc)
      from (Some t) k e = one t k (keyed.get t (q.path ++ s)) refl (sym (find-with_values arrived s (below q.path t) ∙ ap (option_map (arrived s)) (find-below q.path s t)) ∙ e)

  -- an operation leaves every origin such
  pub every-applied : (ss : List Source) (w : Working) (op : Op) → P new → Fit ss → Every P w → Every P (apply_op ss w op)
  unfolding apply_op
  every-applied ss w (Ins p a l) n f h = every-replaced w (child p.path a) (as_new (literal_rows l)) (every-as_new (literal_rows l) n) h
  every-applied ss w (Del a p) n f h = every-without w (child p.path a) h
  every-applied ss w (Copy q p) n f h = every-replaced w p.path (entries_to_copy ss w q (in_target q)) (carried-every ss w q f h (in_target q) refl) h

  -- operations that are done leave every origin such
  pub every-fold : (ss : List Source) (ops : List Op) (j : ℕ) (w : Working) (k : ℕ) (v : Working) → P new → Fit ss → Every P w → fold (then_op ss) (done j w) ops ≡ done k v → Every P v
  every-fold ss [] j w k v n f h e = same_end w v h e
    where
      same_end : (w v : Working) → Every P w → done j w ≡ done k v → Every P v
      same_end w v h e = let d : w ≡ v = cc in subst (Every P) d h
  every-fold ss (op ∷ ops) j w k v n f h e =
      let x = first-accepted ss op ops j w k v e in
      every-fold ss ops (j + 1) (apply_op ss w op) k v n f (every-applied ss w op n f h) x.1

  -- what holds of new, of the places of the tree and of those of the sources holds of every origin after a step
  pub every-step : (t : Tree) (ss : List Source) (ops : List Op) (k : ℕ) (w : Working) → P new → ((p : Path) → is_there t p ≡ true → P (was (at_target p))) → Fit ss → step t ss ops ≡ done k w → Every P w
  unfolding step
  every-step t ss ops k w n s f e = every-fold ss ops 0 (open_tree t) k w n f start e
    where
      open_at : Path → Content → Worked
      open_at p c = record { content = c; origin = was (at_target p) }

      one : (p : Path) (x : Worked) (o : Option Content) → keyed.get t p ≡ o → option_map (open_at p) o ≡ Some x → P x.origin
      one p x None g e = absurd (cc)
      one p x (Some c) g e = subst P (same_origin (open_at p c) x e) (s p (ap is_some g))

      start : Every P (open_tree t)
      start p x e = one p x (keyed.get t p) refl (sym (get-mapped open_at t p) ∙ e)

-- after a step every place is new, or from a place that the tree or a source had
pub sound-step : (t : Tree) (ss : List Source) (ops : List Op) (k : ℕ) (w : Working) → IsTree t → AreSources ss → step t ss ops ≡ done k w → Every (Sound ss t) w
sound-step t ss ops k w h s e = every-step (Sound ss t) t ss ops k w tt
    (λ p i. record { fits = h.places p i; in_tree = λ _. i; in_source = λ c. absurd (cc) })
    (λ q u r out k i. record {
      fits = (s.each q.db u k).places (q.path ++ r) i;
      in_tree = λ c. absurd (cc (sym out ∙ c));
      in_source = λ _. (u, k, i);
    })
    e
