-- Each version of a legal history is the state after a step.
use Rattle.std.specs.Prelude.{ℕ, zero, suc, ◌+◌, ◌-◌, ◌≡◌, ◌≤◌, ◌<◌, true, false, List, [], ◌∷◌, ◌++◌, length, take, drop, fold, nat_lt, filter, refl}
use Rattle.std.proofs.Common.{sym, ap, ◌∙◌, arith}
use Rattle.std.proofs.lemmas.List.{length-map}
use Rattle.std.proofs.lemmas.List.Sums.{fold-append}
use Rattle.std.proofs.lemmas.Bool.Decides.{nat_tests}
use Rattle.std.proofs.lemmas.Option.{same_Some}
use Rattle.std.specs.declared.option.Option.TheVariants.{Some}
use Rattle.cp_model.specs.declared.kind.Kind.{Kind}
use Rattle.cp_model.specs.declared.kind.Kind.TheVariants as kind
use Rattle.cp_model.specs.declared.op.Op.{Op}
use Rattle.cp_model.specs.declared.stamp.Stamp.{Stamp}
use Rattle.cp_model.specs.Tree.{Tree}
use Rattle.cp_model.specs.History.{Entry, start, load, commit, State, steps_of, each_alone, after_step, after_commit, after_load, start_state, then_entry, replay, CanCommit, IsLegalFrom}
use Rattle.cp_model.specs.Versions.{ops_in_steps, with_commit, entries_upto, version}
use Rattle.cp_model.specs.Laws.{is_upto, IsAfterStep, VersionsAreStates}
use Rattle.cp_model.proofs.FirstOperations.{ops-of-none, can-follow-upto, ops-of-all}
use Rattle.cp_model.proofs.VersionLemmas.{committed-as, kind_is, now_is}
use Rattle.cp_model.proofs.RowsUpto.{AddsRows, AreUpto, adds-steps, upto-same, upto-all, still-upto}

-- a commit adds the rows of its steps
commit-adds : (s : State) (ops : List Op) → AddsRows s (after_commit s ops)
unfolding after_commit
commit-adds s ops = let a = adds-steps (steps_of s.kind ops) s in record { extra = a.extra; rows = a.rows; later = a.later; early = a.early; grows = a.grows }

-- all of the history, and of what it is up to step t, where n steps more are to come
record IsSplit (k : Kind) (t n : ℕ) (s r : State) : Type 0 where
  kind : r.kind ≡ k
  same_kind : s.kind ≡ r.kind
  sources : s.sources ≡ r.sources
  same : 0 < n → s ≡ r
  now : s.now + n ≡ t
  rows : s.rows ≡ filter (is_upto t) r.rows
  past : n ≡ 0 → t ≤ r.now
  upto : AreUpto r

-- the first operations, each a step, and the others after them
alone-rest : (n : ℕ) (ops : List Op) → each_alone ops ≡ each_alone (take n ops) ++ each_alone (drop n ops)
alone-rest zero ops = refl
alone-rest (suc n) [] = refl
alone-rest (suc n) (op ∷ ops) = ap (λ xs. (op ∷ []) ∷ xs) (alone-rest n ops)

take-length : (n : ℕ) (ops : List Op) → n ≤ length ops → length (take n ops) ≡ n
take-length zero ops h = refl
take-length (suc n) [] h = absurd (omega (arith, h))
take-length (suc n) (op ∷ ops) h = let e = take-length n ops (omega (arith, h)) in omega (arith, e)

-- part of a commit's operations, each a step
part-alone : (r : State) (n t : ℕ) (ops : List Op) → AreUpto r → (fold after_step r (each_alone (take n ops))).now ≡ t → (fold after_step r (each_alone (take n ops))).rows ≡ filter (is_upto t) (fold after_step r (each_alone ops)).rows
part-alone r n t ops u e =
    let a = fold after_step r (each_alone (take n ops)) in
    let whole : fold after_step r (each_alone ops) ≡ fold after_step a (each_alone (drop n ops)) = ap (fold after_step r) (alone-rest n ops) ∙ fold-append after_step r (each_alone (take n ops)) (each_alone (drop n ops)) in
    sym (upto-all a t (still-upto r a (adds-steps (each_alone (take n ops)) r) u) (omega (arith, e)))
    ∙ sym (upto-same a (fold after_step a (each_alone (drop n ops))) t (adds-steps (each_alone (drop n ops)) a) (omega (arith, e)))
    ∙ ap (λ (z : State). filter (is_upto t) z.rows) (sym whole)

part-rows : (k : Kind) (r : State) (n t : ℕ) (ops : List Op) → r.kind ≡ k → AreUpto r → 0 < n → n < length (steps_of k ops) → (after_commit r (ops_in_steps k n ops)).now ≡ t → (after_commit r (ops_in_steps k n ops)).rows ≡ filter (is_upto t) (after_commit r ops).rows
unfolding after_commit
part-rows kind.N r n t ops kd u p l e =
    let s : steps_of r.kind (take n ops) ≡ each_alone (take n ops) = ap (λ k. steps_of k (take n ops)) kd in
    let w : steps_of r.kind ops ≡ each_alone ops = ap (λ k. steps_of k ops) kd in
    ap (λ xs. (fold after_step r xs).rows) s ∙ part-alone r n t ops u (ap (λ xs. (fold after_step r xs).now) (sym s) ∙ e) ∙ ap (λ xs. filter (is_upto t) (fold after_step r xs).rows) (sym w)
part-rows kind.H r n t ops kd u p l e =
    let s : steps_of r.kind (take n ops) ≡ each_alone (take n ops) = ap (λ k. steps_of k (take n ops)) kd in
    let w : steps_of r.kind ops ≡ each_alone ops = ap (λ k. steps_of k ops) kd in
    ap (λ xs. (fold after_step r xs).rows) s ∙ part-alone r n t ops u (ap (λ xs. (fold after_step r xs).now) (sym s) ∙ e) ∙ ap (λ xs. filter (is_upto t) (fold after_step r xs).rows) (sym w)
part-rows kind.T r n t ops kd u p l e = absurd (omega (arith, p, l))
part-rows kind.HT r n t ops kd u p l e = absurd (omega (arith, p, l))

part-steps : (k : Kind) (n : ℕ) (ops : List Op) → 0 < n → n < length (steps_of k ops) → length (steps_of k (ops_in_steps k n ops)) ≡ n
part-steps kind.N n ops p l = length-map (take n ops) (λ op. op ∷ []) ∙ take-length n ops (let e = length-map ops (λ op. op ∷ []) in omega (arith, l, e))
part-steps kind.H n ops p l = length-map (take n ops) (λ op. op ∷ []) ∙ take-length n ops (let e = length-map ops (λ op. op ∷ []) in omega (arith, l, e))
part-steps kind.T n ops p l = absurd (omega (arith, p, l))
part-steps kind.HT n ops p l = absurd (omega (arith, p, l))

-- one commit more
split-none : (k : Kind) (t n : ℕ) (s r : State) (ops : List Op) → n ≡ 0 → CanCommit r ops → IsSplit k t n s r → IsSplit k t (n - length (steps_of k ops)) s (after_commit r ops)
split-none k t n s r ops z c x =
    let a = committed-as r ops c in
    let adds = commit-adds r ops in
    let g = adds.grows in
    let now = x.now in
    let past = x.past z in
    record {
      kind = a.1 ∙ x.kind;
      same_kind = x.same_kind ∙ sym a.1;
      sources = x.sources ∙ sym a.0;
      same = λ p. absurd (omega (arith, p, z));
      now = omega (arith, now, z);
      rows = x.rows ∙ sym (upto-same r (after_commit r ops) t adds past);
      past = λ _. omega (arith, past, g);
      upto = still-upto r (after_commit r ops) adds x.upto;
    }

split-all : (k : Kind) (t n : ℕ) (s r : State) (ops : List Op) → 0 < n → length (steps_of k ops) ≤ n → CanCommit r ops → IsSplit k t n s r → IsSplit k t (n - length (steps_of k ops)) (after_commit s (ops_in_steps k n ops)) (after_commit r ops)
split-all k t n s r ops p l c x =
    let a = committed-as r ops c in
    let adds = commit-adds r ops in
    let upto = still-upto r (after_commit r ops) adds x.upto in
    let same : after_commit s (ops_in_steps k n ops) ≡ after_commit r ops = ap (λ z. after_commit z (ops_in_steps k n ops)) (x.same p) ∙ ap (after_commit r) (ops-of-all k n ops p l) in
    let start_now : s.now ≡ r.now = ap (λ (z : State). z.now) (x.same p) in
    let steps : length (steps_of r.kind ops) ≡ length (steps_of k ops) = ap (λ k. length (steps_of k ops)) x.kind in
    let now = x.now in
    let grown = a.2 in
    let sum : (after_commit r ops).now + (n - length (steps_of k ops)) ≡ t = omega (arith, now, start_now, steps, grown, l) in
    record {
      kind = a.1 ∙ x.kind;
      same_kind = ap (λ (z : State). z.kind) same;
      sources = ap (λ (z : State). z.sources) same;
      same = λ _. same;
      now = ap (λ (z : State). z.now + (n - length (steps_of k ops))) same ∙ sum;
      rows = ap (λ (z : State). z.rows) same ∙ sym (upto-all (after_commit r ops) t upto (omega (arith, sum)));
      past = λ e. omega (arith, sum, e);
      upto = upto;
    }

split-part : (k : Kind) (t n : ℕ) (s r : State) (ops : List Op) → 0 < n → n < length (steps_of k ops) → CanCommit r ops → IsSplit k t n s r → IsSplit k t (n - length (steps_of k ops)) (after_commit s (ops_in_steps k n ops)) (after_commit r ops)
split-part k t n s r ops p l c x =
    let a = committed-as r ops c in
    let same : s ≡ r = x.same p in
    let part : CanCommit r (ops_in_steps k n ops) = can-follow-upto r k n ops p c in
    let b = committed-as r (ops_in_steps k n ops) part in
    let mine : after_commit s (ops_in_steps k n ops) ≡ after_commit r (ops_in_steps k n ops) = ap (λ z. after_commit z (ops_in_steps k n ops)) same in
    let start_now : s.now ≡ r.now = ap (λ (z : State). z.now) same in
    let steps : length (steps_of r.kind (ops_in_steps k n ops)) ≡ n = ap (λ j. length (steps_of j (ops_in_steps k n ops))) x.kind ∙ part-steps k n ops p l in
    let all_steps : length (steps_of r.kind ops) ≡ length (steps_of k ops) = ap (λ j. length (steps_of j ops)) x.kind in
    let now = x.now in
    let grown = b.2 in
    let all_grown = a.2 in
    let at : (after_commit r (ops_in_steps k n ops)).now ≡ t = omega (arith, now, start_now, steps, grown) in
    record {
      kind = a.1 ∙ x.kind;
      same_kind = ap (λ (z : State). z.kind) mine ∙ b.1 ∙ sym a.1;
      sources = ap (λ (z : State). z.sources) mine ∙ b.0 ∙ sym a.0;
      same = λ q. absurd (omega (arith, q, l));
      now = ap (λ (z : State). z.now + (n - length (steps_of k ops))) mine ∙ (let e = at in omega (arith, e, l));
      rows = ap (λ (z : State). z.rows) mine ∙ part-rows k r n t ops x.kind x.upto p l at;
      past = λ _. omega (arith, now, start_now, all_grown, all_steps, l);
      upto = still-upto r (after_commit r ops) (commit-adds r ops) x.upto;
    }

then-with : (s : State) (stamp : Stamp) (ops : List Op) (es : List Entry) → 1 ≤ length ops → fold then_entry (Some s) (with_commit stamp ops es) ≡ fold then_entry (Some (after_commit s ops)) es
then-with s stamp [] es h = absurd (omega (arith, h))
then-with s stamp (op ∷ ops) es h = refl

-- the version is reached, and is the state after its step
abbrev Arrives : Kind → ℕ → ℕ → State → State → List Entry → Type 0
Arrives k t n s z es = (y : State) × (fold then_entry (Some s) (entries_upto k n es) ≡ Some y) × IsAfterStep z y t

arrives : (es : List Entry) (k : Kind) (t n : ℕ) (s r z : State) → IsSplit k t n s r → IsLegalFrom (Some r) es → fold then_entry (Some r) es ≡ Some z → t ≤ z.now → Arrives k t n s z es
arrives [] k t n s r z x l e h =
    let d : r ≡ z = same_Some r z e in
    let end : r.now ≡ z.now = ap (λ (y : State). y.now) d in
    let sum = x.now in
    let none : n ≡ 0 =
    elim (nat_lt 0 n) as (λ b. nat_lt 0 n ≡ b → n ≡ 0) [
      | true ↦ λ b. let p : 0 < n = grind (arith, nat_tests) in let m = ap (λ (y : State). y.now) (x.same p) in absurd (omega (arith, p, m, sum, end, h))
      | false ↦ λ b. grind (arith, nat_tests)
    ] refl in (
      s,
      refl,
      record {
        kind = x.same_kind ∙ ap (λ (y : State). y.kind) d;
        now = omega (arith, sum, none);
        rows = x.rows ∙ ap (λ (y : State). filter (is_upto t) y.rows) d;
        sources = x.sources ∙ ap (λ (y : State). y.sources) d;
      },
    )
arrives (start j u ∷ es) k t n s r z x l e h = absurd l.0
arrives (load m u ∷ es) k t n s r z x l e h =
    arrives es k t n (after_load s m u) (after_load r m u) z (record { kind = x.kind; same_kind = x.same_kind; sources = ap (λ xs. xs ++ record { name = m; tree = u } ∷ []) x.sources; same = λ p. ap (λ y. after_load y m u) (x.same p); now = x.now; rows = x.rows; past = x.past; upto = x.upto }) l.1 e h
arrives (commit stamp ops ∷ es) k t n s r z x l e h =
    elim (nat_lt 0 n) as (λ b. nat_lt 0 n ≡ b → Arrives k t n s z (commit stamp ops ∷ es)) [
      | false ↦ λ b.
          let none : n ≡ 0 = grind (arith, nat_tests) in
          let y = arrives es k t (n - length (steps_of k ops)) s (after_commit r ops) z (split-none k t n s r ops none l.0 x) l.1 e h in
          (y.0, ap (λ os. fold then_entry (Some s) (with_commit stamp os (entries_upto k (n - length (steps_of k ops)) es))) (ops-of-none k n ops none) ∙ y.1, y.2)
      | true ↦ λ b.
          let p : 0 < n = grind (arith, nat_tests) in
          let some = (can-follow-upto r k n ops p l.0).some in
          let y = arrives es k t (n - length (steps_of k ops)) (after_commit s (ops_in_steps k n ops)) (after_commit r ops) z
          (elim (nat_lt n (length (steps_of k ops))) as (λ d. nat_lt n (length (steps_of k ops)) ≡ d → IsSplit k t (n - length (steps_of k ops)) (after_commit s (ops_in_steps k n ops)) (after_commit r ops)) [
            | true ↦ λ d. split-part k t n s r ops p (grind (arith, nat_tests)) l.0 x
            | false ↦ λ d. split-all k t n s r ops p (grind (arith, nat_tests)) l.0 x
          ] refl) l.1 e h in
          (y.0, then-with s stamp (ops_in_steps k n ops) (entries_upto k (n - length (steps_of k ops)) es) some ∙ y.1, y.2)
    ] refl

rows_is : (k : Kind) (u : Tree) → (start_state k u).rows ≡ []
unfolding start_state
rows_is k u = refl

upto_is : (k : Kind) (u : Tree) → AreUpto (start_state k u)
unfolding start_state
upto_is k u = refl

pub versions-are-states : VersionsAreStates
unfolding version replay
versions-are-states [] s t l e h = absurd (cc)
versions-are-states (start k u ∷ es) s t l e h =
    let z = now_is k u in
    arrives es k t t (start_state k u) (start_state k u) s
    (record { kind = kind_is k u; same_kind = refl; sources = refl; same = λ _. refl; now = omega (arith, z); rows = rows_is k u ∙ sym (ap (filter (is_upto t)) (rows_is k u)); past = λ n. omega (arith, n, z); upto = upto_is k u }) l.1 e h
versions-are-states (load m u ∷ es) s t l e h = absurd l.0
versions-are-states (commit stamp ops ∷ es) s t l e h = absurd l.0
