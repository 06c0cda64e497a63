-- Walking back over the rows of the steps gives the pasts.
use Rattle.std.specs.Prelude.{ℕ, suc, zero, ◌≡◌, Bool, true, false, ◌&&◌, List, [], ◌∷◌, ◌++◌, refl, is_some, if◌then◌else◌}
use Rattle.std.proofs.Common.{sym, ap, ◌∙◌}
use Rattle.std.specs.declared.option.Option.TheVariants.{None, Some}
use Rattle.cp_path.specs.declared.loc.Loc.{Loc}
use Rattle.cp_model.specs.Place.{Path, in_target, path_eq, option_map}
use Rattle.cp_model.specs.Keyed as keyed
use Rattle.cp_model.specs.Subtrees.{is_there}
use Rattle.cp_model.specs.Step.{Origin, new, was, Worked, Working}
use Rattle.cp_model.specs.Past.{Event, born, copied, lost, AgedTree, past_of, past_at, past_by, past_after, settled_at, settle, loses_child}
use Rattle.cp_model.specs.Rows.{Effect, same, made, from, Reading, left, gone, effect}
use Rattle.cp_model.proofs.Lookups.{get-mapped}

-- the past after step t of a place p with this effect
abbrev pub walk_by : (Path → List Event) → ℕ → Path → Bool → Effect → List Event
walk_by prev t p l same = prev p ++ (if l then lost t ∷ [] else [])
walk_by prev t p l made = born t ∷ []
walk_by prev t p l (from q) = if in_target q then prev q.path ++ copied t q ∷ [] else copied t q ∷ []

-- the past after step t of a place p of which this is told
abbrev pub walk_on : (Path → List Event) → ℕ → Path → Bool → Reading → List Event
walk_on prev t p l (left e) = walk_by prev t p l e
walk_on prev t p l gone = []

-- reads and losses of each step, from step t back
abbrev pub walked : (ℕ → Path → Reading) → (ℕ → Path → Bool) → ℕ → Path → List Event
walked R L zero p = []
walked R L (suc t) p = walk_on (walked R L t) (suc t) p (L (suc t) p) (R (suc t) p)

-- the past that an origin gives is the walk over its effect
pub past_after-effect : (t : ℕ) (a : AgedTree) (w : Working) (p : Path) (o : Origin) → past_after t a w p o ≡ walk_by (past_at a) t p (loses_child a w p) (effect p o)
past_after-effect t a w p new = refl
past_after-effect t a w p (was q) = past_by-effect (in_target q) (path_eq q.path p) refl refl
  where
    past_by-effect : (b c : Bool) → in_target q ≡ b → path_eq q.path p ≡ c → past_by b c t a w p q ≡ walk_by (past_at a) t p (loses_child a w p) (if b && c then same else from q)
    past_by-effect false c e f = ap (λ b. if b then past_at a q.path ++ copied t q ∷ [] else copied t q ∷ []) (sym e)
    past_by-effect true false e f = ap (λ b. if b then past_at a q.path ++ copied t q ∷ [] else copied t q ∷ []) (sym e)
    past_by-effect true true e f = refl

-- a settled place has the past that its origin gives
pub past_settled : (t : ℕ) (a : AgedTree) (w : Working) (p : Path) (x : Worked) → keyed.get w p ≡ Some x → past_at (settle t a w) p ≡ past_after t a w p x.origin
unfolding settle
past_settled t a w p x e = ap past_of (get-mapped (settled_at t a w) w p) ∙ ap (λ o. past_of (option_map (settled_at t a w p) o)) e

-- what is there after a step is in its working tree
pub there_settled : (t : ℕ) (a : AgedTree) (w : Working) (p : Path) → is_there (settle t a w) p ≡ true → (x : Worked) × (keyed.get w p ≡ Some x)
unfolding settle
there_settled t a w p h =
    elim (keyed.get w p) as (λ o. keyed.get w p ≡ o → is_some (option_map (settled_at t a w p) o) ≡ true → (x : Worked) × (o ≡ Some x)) [
      | None ↦ λ e h. absurd (cc)
      | Some x ↦ λ e h. (x, refl)
    ] refl (ap is_some (sym (get-mapped (settled_at t a w) w p)) ∙ h)

-- the walk over one step is the same for walks that agree where it goes back
pub walk_same : (f g : Path → List Event) (t : ℕ) (p : Path) (l m : Bool) (e : Effect) →
    (e ≡ same → f p ≡ g p) → (e ≡ same → l ≡ m) → ((q : Loc) → e ≡ from q → in_target q ≡ true → f q.path ≡ g q.path) → walk_by f t p l e ≡ walk_by g t p m e
walk_same f g t p l m same s b k = ap (λ r. r ++ (if l then lost t ∷ [] else [])) (s refl) ∙ ap (λ c. g p ++ (if c then lost t ∷ [] else [])) (b refl)
walk_same f g t p l m made s b k = refl
walk_same f g t p l m (from q) s b k =
    elim (in_target q) as (λ c. in_target q ≡ c → (if c then f q.path ++ copied t q ∷ [] else copied t q ∷ []) ≡ (if c then g q.path ++ copied t q ∷ [] else copied t q ∷ [])) [
      | true ↦ λ c. ap (λ r. r ++ copied t q ∷ []) (k q refl c)
      | false ↦ λ _. refl
    ] refl
