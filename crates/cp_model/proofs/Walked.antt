-- After one step more the records walk back to the pasts.
use Rattle.std.specs.Prelude.{ℕ, zero, suc, ◌+◌, ◌<◌, ◌≤◌, ◌≡◌, Bool, true, ◌&&◌, List, [], ◌++◌, refl}
use Rattle.std.proofs.Common.{sym, ap, subst, ◌∙◌, arith, add-one}
use Rattle.std.specs.List.{list_any}
use Rattle.std.specs.declared.option.Option.{Option}
use Rattle.std.specs.declared.option.Option.TheVariants.{None, Some}
use Rattle.cp_path.specs.declared.loc.Loc.{Loc}
use Rattle.cp_model.specs.declared.row.Content.{Content}
use Rattle.cp_model.specs.declared.kind.Kind.{Kind}
use Rattle.cp_model.specs.declared.op.Op.{Op}
use Rattle.cp_model.specs.declared.record.Record.{Record}
use Rattle.cp_model.specs.Place.{Path, in_target, option_map}
use Rattle.cp_model.specs.Keyed as keyed
use Rattle.cp_model.specs.Keyed.{look}
use Rattle.cp_model.specs.Subtrees.{is_there}
use Rattle.cp_model.specs.Tree.{Tree, IsTree}
use Rattle.cp_model.specs.Step.{Working, done, step}
use Rattle.cp_model.specs.Past.{AgedTree, Aged, tree_of, past_of, past_at, loses_child, is_child, settle}
use Rattle.cp_model.specs.Rows.{same, from, Reading, left, gone, effect, effect_at}
use Rattle.cp_model.specs.History.{State, rows_of, read_rows, with_tid, after_settling, start_state, AreWritten}
use Rattle.cp_model.proofs.Lookups.{get-mapped, there-mapped}
use Rattle.cp_model.proofs.Contents.{tree_of-settle}
use Rattle.cp_model.proofs.Kept.{tree-step}
use Rattle.cp_model.specs.Laws.{IsSound}
use Rattle.cp_model.proofs.Histories.{trees-sources}
use Rattle.cp_model.proofs.Origins.{sound-step}
use Rattle.cp_model.specs.Records.{is_D, rows_at, reads, loses}
use Rattle.cp_model.proofs.Walk.{walk_on, walked, past_after-effect, past_settled, there_settled, walk_same}
use Rattle.cp_model.proofs.Reading.{IsWorking}
use Rattle.cp_model.proofs.Effects.{working-step, same-there, from-there, read-rows_of, losses-rows_of}
use Rattle.cp_model.proofs.RecordsLemmas.{rows_before, rows_now, rows_after}

-- walks over what agrees up to a step agree there
pub walked-alike : (R S : ℕ → Path → Reading) (L M : ℕ → Path → Bool) (n : ℕ) → ((t : ℕ) (p : Path) → t ≤ n → R t p ≡ S t p) → ((t : ℕ) (p : Path) → t ≤ n → L t p ≡ M t p) → (p : Path) → walked R L n p ≡ walked S M n p
walked-alike R S L M zero r l p = refl
walked-alike R S L M (suc n) r l p =
    let before : (p : Path) → walked R L n p ≡ walked S M n p = λ p. walked-alike R S L M n (λ t p h. r t p (omega arith)) (λ t p h. l t p (omega arith)) p in
    ap (walk_on (walked R L n) (suc n) p (L (suc n) p)) (r (suc n) p (omega arith))
    ∙ by (S (suc n) p) before (l (suc n) p (omega arith))
  where
    by : (d : Reading) → ((p : Path) → walked R L n p ≡ walked S M n p) → L (suc n) p ≡ M (suc n) p → walk_on (walked R L n) (suc n) p (L (suc n) p) d ≡ walk_on (walked S M n) (suc n) p (M (suc n) p) d
    by (left e) b k = walk_same (walked R L n) (walked S M n) (suc n) p (L (suc n) p) (M (suc n) p) e (λ _. b p) (λ _. k) (λ q _ _. b q.path)
    by gone b k = refl

-- one step more is walked on
pub walked-more : (R : ℕ → Path → Reading) (L : ℕ → Path → Bool) (n : ℕ) (p : Path) → walked R L (n + 1) p ≡ walk_on (walked R L n) (n + 1) p (L (n + 1) p) (R (n + 1) p)
walked-more R L n p = subst (λ m. walked R L m p ≡ walk_on (walked R L n) m p (L m p) (R m p)) (sym (add-one n)) refl

-- a state whose records walk back to the pasts of its tree, with none of a later step
pub record IsWalked (s : State) : Type 0 where
  pub walks : (p : Path) → is_there s.tree p ≡ true → walked (reads s.kind s.rows) (loses s.rows) s.now p ≡ past_at s.tree p
  pub later : (t : ℕ) → s.now < t → rows_at s.rows t ≡ []

-- a history begins walked
pub walked-begun : (k : Kind) (t : Tree) → IsWalked (start_state k t)
unfolding start_state rows_at
walked-begun k t = record { walks = λ p _. sym (ap past_of (get-mapped (λ _ c. first c) t p) ∙ no_past (keyed.get t p)); later = λ u _. refl }
  where
    first : Content → Aged
    first c = record { content = c; past = [] }

    no_past : (o : Option Content) → past_of (option_map (λ c. first c) o) ≡ []
    no_past None = refl
    no_past (Some c) = refl

module _ (kd : Kind) (rs : List Record) (n : ℕ) (a : AgedTree) (w : Working) where
  abbrev more : List Record
  more = rs ++ with_tid (n + 1) (rows_of kd (tree_of a) w)

  older : (p : Path) → walked (reads kd more) (loses more) n p ≡ walked (reads kd rs) (loses rs) n p
  older = walked-alike (reads kd more) (reads kd rs) (loses more) (loses rs) n
      (λ t p h. ap (λ xs. read_rows kd (λ r. look r xs) p) (rows_before rs n (rows_of kd (tree_of a) w) t h))
      (λ t p h. ap (λ xs. list_any (λ r. is_child p r.0 && is_D r.1) xs) (rows_before rs n (rows_of kd (tree_of a) w) t h))

  -- after one step more the records walk back to the settled pasts
  pub walk-settled : rows_at rs (n + 1) ≡ [] → IsWorking w →
      ((p : Path) → effect_at w p ≡ Some same → is_there a p ≡ true) →
      ((p : Path) (q : Loc) → effect_at w p ≡ Some (from q) → in_target q ≡ true → is_there a q.path ≡ true) →
      ((p : Path) → is_there a p ≡ true → walked (reads kd rs) (loses rs) n p ≡ past_at a p) →
      (p : Path) → is_there (settle (n + 1) a w) p ≡ true →
      walked (reads kd (rs ++ with_tid (n + 1) (rows_of kd (tree_of a) w))) (loses (rs ++ with_tid (n + 1) (rows_of kd (tree_of a) w))) (n + 1) p ≡ past_at (settle (n + 1) a w) p
  walk-settled none ok there from_where walks p i =
      let x = there_settled (n + 1) a w p i in
      let e = effect p (x.0).origin in
      let at : effect_at w p ≡ Some e = ap (option_map (λ x. effect p x.origin)) x.1 in
      walked-more (reads kd more) (loses more) n p
      ∙ ap (walk_on (walked (reads kd more) (loses more) n) (n + 1) p (loses more (n + 1) p))
      (ap (λ xs. read_rows kd (λ r. look r xs) p) (rows_now rs n (rows_of kd (tree_of a) w) none) ∙ read-rows_of kd (tree_of a) w ok p e at)
      ∙ walk_same (walked (reads kd more) (loses more) n) (past_at a) (n + 1) p (loses more (n + 1) p) (loses_child a w p) e
      (λ k. older p ∙ walks p (there p (at ∙ ap (λ d. Some d) k)))
      (λ k. ap (λ xs. list_any (λ r. is_child p r.0 && is_D r.1) xs) (rows_now rs n (rows_of kd (tree_of a) w) none) ∙ losses-rows_of kd a w p (at ∙ ap (λ d. Some d) k))
      (λ q k c. older q.path ∙ walks q.path (from_where p q (at ∙ ap (λ d. Some d) k) c))
      ∙ sym (past_after-effect (n + 1) a w p (x.0).origin)
      ∙ sym (past_settled (n + 1) a w p x.0 x.1)

-- a step that is done keeps a state sound
pub sound-settled : (s : State) (ops : List Op) (k : ℕ) (w : Working) → IsSound s → AreWritten ops → step (tree_of s.tree) s.sources ops ≡ done k w → IsSound (after_settling s w)
unfolding after_settling
sound-settled s ops k w h a e = record {
  tree = subst IsTree (sym (tree_of-settle (s.now + 1) s.tree w)) (tree-step (tree_of s.tree) s.sources ops k w h.tree (trees-sources s.sources h.sources) a e);
  sources = h.sources;
}

-- a step that is done keeps a state walked
pub walked-settled : (s : State) (ops : List Op) (k : ℕ) (w : Working) → IsSound s → IsWalked s → AreWritten ops → step (tree_of s.tree) s.sources ops ≡ done k w → IsWalked (after_settling s w)
unfolding after_settling
walked-settled s ops k w h b a e =
    let origins = sound-step (tree_of s.tree) s.sources ops k w h.tree h.sources e in
    record {
      walks = walk-settled s.kind s.rows s.now s.tree w (b.later (s.now + 1) (omega arith)) (working-step (tree_of s.tree) s.sources ops k w h.tree h.sources a e)
          (λ p i. sym (there-mapped (λ _ x. x.content) s.tree p) ∙ same-there (tree_of s.tree) s.sources w origins p i)
          (λ p q i c. sym (there-mapped (λ _ x. x.content) s.tree q.path) ∙ from-there (tree_of s.tree) s.sources w origins p q i c)
          b.walks;
      later = λ t i. rows_after s.rows s.now (rows_of s.kind (tree_of s.tree) w) t i (b.later t (omega (arith, i)));
    }
