-- Over a whole legal history: walking back over the records gives the pasts.
use Rattle.std.specs.Prelude.{ℕ, suc, ◌≡◌, true, List, [], ◌∷◌, fold, ⊤}
use Rattle.std.proofs.Common.{sym, subst, ◌∙◌, arith}
use Rattle.std.specs.declared.option.Option.{Option}
use Rattle.std.specs.declared.option.Option.TheVariants.{None, Some}
use Rattle.cp_model.specs.declared.kind.Kind.{Kind}
use Rattle.cp_model.specs.declared.kind.Kind.TheVariants as kind
use Rattle.cp_model.specs.declared.op.Op.{Op}
use Rattle.cp_model.specs.Place.{Path}
use Rattle.cp_model.specs.Subtrees.{is_there}
use Rattle.cp_model.specs.Step.{Working, done, step, is_done}
use Rattle.cp_model.specs.Past.{tree_of, past_at}
use Rattle.cp_model.specs.History.{Entry, start, load, commit, State, steps_of, each_alone, after_settling, after_outcome, after_step, after_commit, then_entry, replay, AreWritten, CanCommit, CanFollow, IsLegal, IsLegalFrom}
use Rattle.cp_model.proofs.Folds.{done_is}
use Rattle.cp_model.proofs.Alone.{AreDone, done-steps_of}
use Rattle.cp_model.specs.Laws.{IsSound}
use Rattle.cp_model.proofs.Histories.{sound-begun, sound-then}
use Rattle.cp_model.specs.Leaps.{leap_back}
use Rattle.cp_model.proofs.LeapsLemmas.{leaped-walked}
use Rattle.cp_model.specs.Records.{reads, loses}
use Rattle.cp_model.proofs.Walked.{IsWalked, walked-begun, walked-settled, sound-settled}

-- each step is of operations that a statement can write
abbrev pub AllWritten : List (List Op) → Type 0
AllWritten [] = ⊤
AllWritten (ops ∷ rest) = AreWritten ops × AllWritten rest

written-each_alone : (ops : List Op) → AreWritten ops → AllWritten (each_alone ops)
written-each_alone [] a = tt
written-each_alone (op ∷ ops) a = ((a.0, tt), written-each_alone ops a.1)

-- the steps of what a statement can write are such
pub written-steps_of : (k : Kind) (ops : List Op) → AreWritten ops → AllWritten (steps_of k ops)
written-steps_of kind.N ops a = written-each_alone ops a
written-steps_of kind.H ops a = written-each_alone ops a
written-steps_of kind.T ops a = (a, tt)
written-steps_of kind.HT ops a = (a, tt)

module _ (P : State → Type 0) (kept : (s : State) (ops : List Op) (k : ℕ) (w : Working) → P s → AreWritten ops → step (tree_of s.tree) s.sources ops ≡ done k w → P (after_settling s w)) where
  after_done : (s : State) (ops : List Op) → P s → AreWritten ops → is_done (step (tree_of s.tree) s.sources ops) ≡ true → P (after_step s ops)
  unfolding after_step
  after_done s ops p a d =
      let x = done_is (step (tree_of s.tree) s.sources ops) d in
      subst (λ o. P (after_outcome s o)) (sym x.2) (kept s ops x.0 x.1 p a x.2)

  -- what each done step keeps, all of them keep
  pub steps-keep : (steps : List (List Op)) (s : State) → P s → AllWritten steps → AreDone s steps → P (fold after_step s steps)
  steps-keep [] s p a d = p
  steps-keep (ops ∷ rest) s p a d = steps-keep rest (after_step s ops) (after_done s ops p a.0 d.0) a.1 d.1

-- a state that is sound and walked
abbrev pub IsGood : State → Type 0
IsGood s = IsSound s × IsWalked s

-- the state, if there is one, is sound and walked
abbrev pub IsGoodIf : Option State → Type 0
IsGoodIf None = ⊤
IsGoodIf (Some s) = IsGood s

good-settled : (s : State) (ops : List Op) (k : ℕ) (w : Working) → IsGood s → AreWritten ops → step (tree_of s.tree) s.sources ops ≡ done k w → IsGood (after_settling s w)
good-settled s ops k w g a e = (sound-settled s ops k w g.0 a e, walked-settled s ops k w g.0 g.1 a e)

-- a commit keeps a state sound and walked
pub good-commit : (s : State) (ops : List Op) → IsGood s → CanCommit s ops → IsGood (after_commit s ops)
unfolding after_commit
good-commit s ops g c =
    let x = done_is (step (tree_of s.tree) s.sources ops) c.accepted in
    let z : IsGood (fold after_step s (steps_of s.kind ops)) = steps-keep IsGood good-settled (steps_of s.kind ops) s g (written-steps_of s.kind ops c.written) (done-steps_of s ops x.0 x.1 x.2 s.kind) in
    (record { tree = (z.0).tree; sources = (z.0).sources }, record { walks = (z.1).walks; later = (z.1).later })

good-then : (o : Option State) (e : Entry) → IsGoodIf o → CanFollow o e → IsGoodIf (then_entry o e)
good-then None (start k t) g c = (sound-begun k t c, walked-begun k t)
good-then None (load n t) g c = absurd c
good-then None (commit stamp ops) g c = absurd c
good-then (Some s) (start k t) g c = absurd c
good-then (Some s) (load n t) g c = (sound-then (Some s) (load n t) g.0 c, record { walks = (g.1).walks; later = (g.1).later })
good-then (Some s) (commit stamp ops) g c = good-commit s ops g c

good-from : (o : Option State) (es : List Entry) → IsGoodIf o → IsLegalFrom o es → IsGoodIf (fold then_entry o es)
good-from o [] g c = g
good-from o (e ∷ es) g c = good-from (then_entry o e) es (good-then o e g c.0) c.1

-- the records of a legal history walk back to the pasts of its tree
pub legal-walked : (h : List Entry) (s : State) → IsLegal h → replay h ≡ Some s → IsWalked s
unfolding replay
legal-walked h s l e = let g : IsGood s = subst IsGoodIf e (good-from None h tt l) in g.1

-- in every kind, going from change to change in the records of a legal history gives the past of each place
pub legal-pasts : (h : List Entry) (s : State) → IsLegal h → replay h ≡ Some s → (p : Path) → is_there s.tree p ≡ true →
    leap_back (reads s.kind s.rows) (loses s.rows) (suc s.now) s.now p ≡ past_at s.tree p
legal-pasts h s l e p i =
    leaped-walked (reads s.kind s.rows) (loses s.rows) (suc s.now) s.now p (omega arith) ∙ (legal-walked h s l e).walks p i
