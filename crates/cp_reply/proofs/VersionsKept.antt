-- What a version of a history is while the history grows by commits.
use Rattle.std.specs.Prelude.{ℕ, zero, suc, ◌+◌, ◌-◌, ◌≡◌, ◌≤◌, ◌<◌, true, false, List, [], ◌∷◌, ◌++◌, length, fold, refl, ⊤, if◌then◌else◌}
use Rattle.std.proofs.Common.{ap, ◌∙◌, arith}
use Rattle.std.proofs.lemmas.Option.{same_Some}
use Rattle.std.specs.declared.option.Option.TheVariants.{Some}
use Rattle.cp_model.specs.declared.kind.Kind.{Kind}
use Rattle.cp_model.specs.History.{Entry, start, load, commit, State, steps_of, after_commit, start_state, then_entry, replay, IsLegal, IsLegalFrom}
use Rattle.cp_model.specs.Versions.{ops_in_steps, with_commit, entries_upto, version}
use Rattle.cp_model.proofs.FirstOperations.{ops-of-none}
use Rattle.cp_model.proofs.VersionLemmas.{committed-as, kind_is, now_is, last-version-is-all}
use Rattle.cp_reply.specs.Session.{Desk, is_going, state_or, base}

-- commits alone
abbrev pub AreCommits : List Entry → Type 0
AreCommits [] = ⊤
AreCommits (start k t ∷ es) = ⊥
AreCommits (load n t ∷ es) = ⊥
AreCommits (commit stamp ops ∷ es) = AreCommits es

-- with no step to come commits leave nothing
none-kept : (k : Kind) (n : ℕ) (cs : List Entry) → AreCommits cs → n ≡ 0 → entries_upto k n cs ≡ []
none-kept k n [] a e = refl
none-kept k n (start j t ∷ cs) a e = absurd a
none-kept k n (load m t ∷ cs) a e = absurd a
none-kept k n (commit stamp ops ∷ cs) a e =
    ap (λ os. with_commit stamp os (entries_upto k (n - length (steps_of k ops)) cs)) (ops-of-none k n ops e)
    ∙ none-kept k (n - length (steps_of k ops)) cs a (omega (arith, e))

none_left : (n a b : ℕ) → a ≡ b → (0 < n → a + n ≤ b) → n ≡ 0
none_left zero a b e h = refl
none_left (suc n) a b e h = let g = h (omega arith) in absurd (omega (arith, g, e))

-- with no more steps to come than the entries have, commits after them leave nothing
kept-upto : (es cs : List Entry) (k : Kind) (n : ℕ) (r z : State) → r.kind ≡ k → IsLegalFrom (Some r) es → fold then_entry (Some r) es ≡ Some z → (0 < n → r.now + n ≤ z.now) → AreCommits cs → entries_upto k n (es ++ cs) ≡ entries_upto k n es
kept-upto [] cs k n r z kd l e h a = none-kept k n cs a (none_left n r.now z.now (ap (λ (x : State). x.now) (same_Some r z e)) h)
kept-upto (start j t ∷ es) cs k n r z kd l e h a = absurd l.0
kept-upto (load m t ∷ es) cs k n r z kd l e h a = ap (λ xs. load m t ∷ xs) (kept-upto es cs k n (record r { sources = r.sources ++ record { name = m; tree = t } ∷ [] }) z kd l.1 e h a)
kept-upto (commit stamp ops ∷ es) cs k n r z kd l e h a =
    let c = committed-as r ops l.0 in
    let now : (after_commit r ops).now ≡ r.now + length (steps_of k ops) = c.2 ∙ ap (λ j. r.now + length (steps_of j ops)) kd in
    ap (with_commit stamp (ops_in_steps k n ops))
    (kept-upto es cs k (n - length (steps_of k ops)) (after_commit r ops) z (c.1 ∙ kd) l.1 e (λ p. let g = h (omega (arith, p)) in omega (arith, g, p, now)) a)

-- commits after a legal history leave its versions
pub version-kept : (h cs : List Entry) (t : State) (v : ℕ) → IsLegal h → replay h ≡ Some t → v ≤ t.now → AreCommits cs → version (h ++ cs) v ≡ version h v
unfolding version replay
version-kept [] cs t v l e le a = absurd (cc)
version-kept (start k u ∷ es) cs t v l e le a =
    let z = now_is k u in
    ap (λ xs. fold then_entry (Some (start_state k u)) xs) (kept-upto es cs k v (start_state k u) t (kind_is k u) l.1 e (λ p. omega (arith, le, z)) a)
version-kept (load m u ∷ es) cs t v l e le a = absurd l.0
version-kept (commit stamp ops ∷ es) cs t v l e le a = absurd l.0

-- a going transaction works on the version after which it was opened
pub base-version : (h : List Entry) (t z : State) (d : Desk) → is_going d.opened ≡ true → version h d.since ≡ Some z → base h t d ≡ z
base-version h t z d g e = ap (λ b. if b then state_or t (version h d.since) else t) g ∙ ap (state_or t) e

-- and where there was no commit since, on the state that the history leads to
pub base-last : (h : List Entry) (t : State) (d : Desk) → IsLegal h → replay h ≡ Some t → t.now ≤ d.since → base h t d ≡ t
base-last h t d l e le =
    ap (λ o. if is_going d.opened then state_or t o else t) (last-version-is-all h t d.since l e le)
    ∙ elim (is_going d.opened) as (λ b. (if b then t else t) ≡ t) [ true ↦ refl | false ↦ refl ]
