-- All records of a replay are of places of T.
use Rattle.std.specs.Prelude.{ℕ, ◌+◌, ◌≡◌, ◌&&◌, true, List, [], ◌∷◌, ◌++◌, fold, refl, ⊤}
use Rattle.std.proofs.Common.{ap, subst, ◌∙◌}
use Rattle.std.specs.List.{list_all}
use Rattle.std.proofs.lemmas.List.Folds.{list_all-append}
use Rattle.std.specs.declared.option.Option.{Option}
use Rattle.std.specs.declared.option.Option.TheVariants.{None, Some}
use Rattle.cp_model.specs.Place.{Path, in_target}
use Rattle.cp_model.specs.Step.{Outcome, done, refused, step}
use Rattle.cp_model.specs.Past.{tree_of}
use Rattle.cp_model.specs.History.{Entry, start, load, commit, State, steps_of, rows_of, record_of, with_tid, after_settling, after_outcome, after_step, after_commit, start_state, then_entry, replay}
use Rattle.cp_model.specs.declared.op.Op.{Op}
use Rattle.cp_model.specs.declared.record.Record.{Record}
use Rattle.cp_model.specs.declared.record.RowMark.{RowMark as Mark}
use Rattle.cp_model.specs.declared.record.RowMark.TheVariants.{Made, Copied, Gone, Kept}

-- all of them are of T
abbrev AreOfTarget : List Record → Type 0
AreOfTarget rs = list_all (λ r. in_target r.loc) rs ≡ true

one-of-target : (t : ℕ) (p : Path) (m : Mark) → in_target (record_of t p m).loc ≡ true
one-of-target t p Made = refl
one-of-target t p (Copied q) = refl
one-of-target t p Gone = refl
one-of-target t p Kept = refl

step-of-target : (t : ℕ) (rows : List (Path × Mark)) → AreOfTarget (with_tid t rows)
step-of-target t [] = refl
step-of-target t (r ∷ rows) = ap (λ b. b && list_all (λ r. in_target r.loc) (with_tid t rows)) (one-of-target t r.0 r.1) ∙ step-of-target t rows

both-of-target : (xs ys : List Record) → AreOfTarget xs → AreOfTarget ys → AreOfTarget (xs ++ ys)
both-of-target xs ys a b = list_all-append (λ r. in_target r.loc) xs ys ∙ ap (λ c. c && list_all (λ r. in_target r.loc) ys) a ∙ b

after-step : (s : State) (ops : List Op) → AreOfTarget s.rows → AreOfTarget (after_step s ops).rows
unfolding after_step after_settling
after-step s ops a = by (step (tree_of s.tree) s.sources ops)
  where
    by : (o : Outcome) → AreOfTarget (after_outcome s o).rows
    by (done k w) = both-of-target s.rows (with_tid (s.now + 1) (rows_of s.kind (tree_of s.tree) w)) a (step-of-target (s.now + 1) (rows_of s.kind (tree_of s.tree) w))
    by (refused n r) = a

after-steps : (steps : List (List Op)) (s : State) → AreOfTarget s.rows → AreOfTarget (fold after_step s steps).rows
after-steps [] s a = a
after-steps (ops ∷ steps) s a = after-steps steps (after_step s ops) (after-step s ops a)

-- all records of the state are, if there is one
abbrev IsOfTarget : Option State → Type 0
IsOfTarget None = ⊤
IsOfTarget (Some s) = AreOfTarget s.rows

then-of-target : (o : Option State) (e : Entry) → IsOfTarget o → IsOfTarget (then_entry o e)
unfolding start_state after_commit
then-of-target None (start k t) a = refl
then-of-target None (load n t) a = tt
then-of-target None (commit stamp ops) a = tt
then-of-target (Some s) (start k t) a = refl
then-of-target (Some s) (load n t) a = a
then-of-target (Some s) (commit stamp ops) a = after-steps (steps_of s.kind ops) s a

all-of-target : (es : List Entry) (o : Option State) → IsOfTarget o → IsOfTarget (fold then_entry o es)
all-of-target [] o a = a
all-of-target (e ∷ es) o a = all-of-target es (then_entry o e) (then-of-target o e a)

-- all records to which a history leads are of T
pub records-of-target : (h : List Entry) (s : State) → replay h ≡ Some s → list_all (λ r. in_target r.loc) s.rows ≡ true
unfolding replay
records-of-target h s e = subst IsOfTarget e (all-of-target h None tt)
