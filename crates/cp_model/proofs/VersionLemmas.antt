-- A legal history up to a step is legal, and up to its last step it is the whole history.
use Rattle.std.specs.Prelude.{ℕ, ◌+◌, ◌-◌, ◌≡◌, ◌≤◌, ◌<◌, true, false, List, [], ◌∷◌, length, fold, nat_lt, is_some, ◌++◌, refl}
use Rattle.std.proofs.Common.{sym, ap, subst, ◌∙◌, arith}
use Rattle.std.proofs.lemmas.Bool.Decides.{nat_tests}
use Rattle.std.proofs.lemmas.List.{length-map}
use Rattle.std.proofs.lemmas.Option.{same_Some}
use Rattle.std.specs.declared.option.Option.TheVariants.{Some}
use Rattle.cp_model.specs.declared.kind.Kind.{Kind}
use Rattle.cp_model.specs.declared.kind.Kind.TheVariants as kind
use Rattle.cp_model.specs.declared.op.Op.{Op}
use Rattle.cp_model.specs.declared.stamp.Stamp.{Stamp}
use Rattle.cp_model.specs.Tree.{Tree, source}
use Rattle.cp_model.specs.declared.limits.TheConstants.{SOURCES_MAX}
use Rattle.cp_model.specs.History.{Entry, start, load, commit, State, steps_of, after_commit, after_load, start_state, then_entry, replay, CanLoad, CanCommit, IsLegalFrom}
use Rattle.cp_model.proofs.Folds.{done_is}
use Rattle.cp_model.proofs.Histories.{after-commit}
use Rattle.cp_model.specs.Versions.{ops_in_steps, with_commit, entries_upto, version}
use Rattle.cp_model.specs.Laws.{VersionsAreLegal, LastVersionIsAll}
use Rattle.cp_model.proofs.FirstOperations.{ops-of-none, can-follow-upto, ops-of-all}

-- a commit that can follow leaves the sources and the kind, and adds its steps
pub committed-as : (s : State) (ops : List Op) → CanCommit s ops → ((after_commit s ops).sources ≡ s.sources) × ((after_commit s ops).kind ≡ s.kind) × ((after_commit s ops).now ≡ s.now + length (steps_of s.kind ops))
committed-as s ops c =
    let x = done_is _ c.accepted in
    let a = after-commit s ops x.0 x.1 x.2 in
    (a.2, a.3, a.1)

pub load-again : (s r : State) (n : List ℕ) (t : Tree) → s.sources ≡ r.sources → CanLoad r n t → CanLoad s n t
load-again s r n t e c = record {
  loadable = c.loadable;
  fresh = ap (λ ss. is_some (source ss n)) e ∙ c.fresh;
  few = subst (λ ss. length ss + 1 ≤ SOURCES_MAX) (sym e) c.few;
}

-- a commit before entries that may follow it, if it has an operation
legal-with : (s : State) (stamp : Stamp) (ops : List Op) (es : List Entry) → CanCommit s ops → IsLegalFrom (Some (after_commit s ops)) es → IsLegalFrom (Some s) (with_commit stamp ops es)
legal-with s stamp [] es c l = absurd (let h = c.some in omega (arith, h))
legal-with s stamp (op ∷ ops) es c l = (c, l)

-- r is a state of the whole history, and s one of the history up to a step, after which there are n more to come
legal-upto : (es : List Entry) (k : Kind) (n : ℕ) (s r : State) → r.kind ≡ k → s.sources ≡ r.sources → (0 < n → s ≡ r) → IsLegalFrom (Some r) es → IsLegalFrom (Some s) (entries_upto k n es)
legal-upto [] k n s r kd ss same l = tt
legal-upto (start j t ∷ es) k n s r kd ss same l = absurd l.0
legal-upto (load m t ∷ es) k n s r kd ss same l = (
  load-again s r m t ss l.0,
  legal-upto es k n (after_load s m t) (after_load r m t) kd (ap (λ xs. xs ++ record { name = m; tree = t } ∷ []) ss) (λ p. ap (λ x. after_load x m t) (same p)) l.1,
)
legal-upto (commit stamp ops ∷ es) k n s r kd ss same l =
    elim (nat_lt 0 n) as (λ b. nat_lt 0 n ≡ b → IsLegalFrom (Some s) (with_commit stamp (ops_in_steps k n ops) (entries_upto k (n - length (steps_of k ops)) es))) [
      | false ↦ λ z.
          let e : n ≡ 0 = grind (arith, nat_tests) in
          subst (λ os. IsLegalFrom (Some s) (with_commit stamp os (entries_upto k (n - length (steps_of k ops)) es))) (sym (ops-of-none k n ops e))
          (legal-upto es k (n - length (steps_of k ops)) s (after_commit r ops) (all.1 ∙ kd) (ss ∙ sym all.0) (λ p. absurd (omega (arith, p, e))) l.1)
      | true ↦ λ z.
          let p : 0 < n = grind (arith, nat_tests) in
          some p (same p) (λ x y d t q m. legal-upto es k (n - length (steps_of k ops)) x y d t q m)
    ] refl
  where
    all : ((after_commit r ops).sources ≡ r.sources) × ((after_commit r ops).kind ≡ r.kind) × ((after_commit r ops).now ≡ r.now + length (steps_of r.kind ops))
    all = committed-as r ops l.0

    some : 0 < n → s ≡ r → ((x y : State) → y.kind ≡ k → x.sources ≡ y.sources → (0 < n - length (steps_of k ops) → x ≡ y) → IsLegalFrom (Some y) es → IsLegalFrom (Some x) (entries_upto k (n - length (steps_of k ops)) es))
        → IsLegalFrom (Some s) (with_commit stamp (ops_in_steps k n ops) (entries_upto k (n - length (steps_of k ops)) es))
    some p e ih =
        let c : CanCommit s (ops_in_steps k n ops) = can-follow-upto s k n ops p (subst (λ x. CanCommit x ops) (sym e) l.0) in
        let mine = committed-as s (ops_in_steps k n ops) c in
        legal-with s stamp (ops_in_steps k n ops) (entries_upto k (n - length (steps_of k ops)) es) c
        (ih (after_commit s (ops_in_steps k n ops)) (after_commit r ops) (all.1 ∙ kd) (mine.0 ∙ ss ∙ sym all.0)
        (λ q. ap (λ x. after_commit x (ops_in_steps k n ops)) e ∙ ap (after_commit r) (ops-of-all k n ops p (omega (arith, q))))
        l.1)

pub kind_is : (k : Kind) (u : Tree) → (start_state k u).kind ≡ k
unfolding start_state
kind_is k u = refl

pub versions-are-legal : VersionsAreLegal
versions-are-legal [] t l = tt
versions-are-legal (start k u ∷ es) t l = (l.0, legal-upto es k t (start_state k u) (start_state k u) (kind_is k u) refl (λ _. refl) l.1)
versions-are-legal (load m u ∷ es) t l = absurd l.0
versions-are-legal (commit stamp ops ∷ es) t l = absurd l.0

pub now_is : (k : Kind) (u : Tree) → (start_state k u).now ≡ 0
unfolding start_state
now_is k u = refl

-- some operations make some steps
some-steps : (k : Kind) (ops : List Op) → 1 ≤ length ops → 1 ≤ length (steps_of k ops)
some-steps kind.N ops h = let e = length-map ops (λ op. op ∷ []) in omega (arith, h, e)
some-steps kind.H ops h = let e = length-map ops (λ op. op ∷ []) in omega (arith, h, e)
some-steps kind.T ops h = omega arith
some-steps kind.HT ops h = omega arith

-- the last Tid never falls
now-grows : (es : List Entry) (r z : State) → IsLegalFrom (Some r) es → fold then_entry (Some r) es ≡ Some z → r.now ≤ z.now
now-grows [] r z l e = let k : r ≡ z = same_Some r z e in let d = ap (λ (x : State). x.now) k in omega (arith, d)
now-grows (start j t ∷ es) r z l e = absurd l.0
now-grows (load m t ∷ es) r z l e = now-grows es (after_load r m t) z l.1 e
now-grows (commit stamp ops ∷ es) r z l e =
    let a = committed-as r ops l.0 in
    let h = now-grows es (after_commit r ops) z l.1 e in
    let d = a.2 in
    omega (arith, h, d)

-- with as many steps to come as there are the entries stay
upto-all : (es : List Entry) (k : Kind) (n : ℕ) (r z : State) → r.kind ≡ k → IsLegalFrom (Some r) es → fold then_entry (Some r) es ≡ Some z → z.now ≤ r.now + n → entries_upto k n es ≡ es
upto-all [] k n r z kd l e h = refl
upto-all (start j t ∷ es) k n r z kd l e h = absurd l.0
upto-all (load m t ∷ es) k n r z kd l e h = ap (λ xs. load m t ∷ xs) (upto-all es k n (after_load r m t) z kd l.1 e h)
upto-all (commit stamp ops ∷ es) k n r z kd l e h =
    let a = committed-as r ops l.0 in
    let grown = now-grows es (after_commit r ops) z l.1 e in
    let now : (after_commit r ops).now ≡ r.now + length (steps_of k ops) = a.2 ∙ ap (λ d. r.now + length (steps_of d ops)) kd in
    let few : length (steps_of k ops) ≤ n = omega (arith, grown, now, h) in
    let some = some-steps k ops (l.0).some in
    ap (λ os. with_commit stamp os (entries_upto k (n - length (steps_of k ops)) es)) (ops-of-all k n ops (omega (arith, few, some)) few)
    ∙ ap (with_commit stamp ops) (upto-all es k (n - length (steps_of k ops)) (after_commit r ops) z (a.1 ∙ kd) l.1 e (omega (arith, now, few, h)))
    ∙ by ops (l.0).some
  where
    by : (os : List Op) → 1 ≤ length os → with_commit stamp os es ≡ commit stamp os ∷ es
    by [] h = absurd (omega (arith, h))
    by (op ∷ os) h = refl

pub last-version-is-all : LastVersionIsAll
unfolding version replay
last-version-is-all [] s t l e le = e
last-version-is-all (start k u ∷ es) s t l e le =
    ap (λ xs. fold then_entry (Some (start_state k u)) xs) (upto-all es k t (start_state k u) s (kind_is k u) l.1 e (let z = now_is k u in omega (arith, le, z))) ∙ e
last-version-is-all (load m u ∷ es) s t l e le = absurd l.0
last-version-is-all (commit stamp ops ∷ es) s t l e le = absurd l.0
