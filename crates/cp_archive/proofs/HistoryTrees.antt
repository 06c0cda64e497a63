-- The trees after the steps of a history are those of its versions.
use Rattle.std.specs.Prelude.{ℕ, zero, suc, ◌+◌, ◌-◌, ◌^◌, ◌≡◌, ◌≤◌, ◌<◌, true, false, List, [], ◌∷◌, ◌++◌, length, take, get_or, fold, nat_lt, is_some, if◌then◌else◌, refl}
use Rattle.std.proofs.Common.{sym, ap, subst, ◌∙◌, arith, append-nil, append_assoc, length-append}
use Rattle.std.proofs.lemmas.Bool.Decides.{nat_tests}
use Rattle.std.proofs.lemmas.List.{length-map, take_all}
use Rattle.std.proofs.lemmas.Option.{same_Some}
use Rattle.std.specs.List.{slice_get}
use Rattle.std.specs.declared.option.Option.{Option}
use Rattle.std.specs.declared.option.Option.TheVariants.{None, Some}
use Rattle.cp_model.specs.declared.kind.Kind.{Kind}
use Rattle.cp_model.specs.declared.kind.Kind.TheVariants as kind
use Rattle.cp_model.specs.declared.op.Op.{Op}
use Rattle.cp_model.specs.declared.refusal.Refusal.{Refusal}
use Rattle.cp_model.specs.declared.stamp.Stamp.{Stamp}
use Rattle.cp_model.specs.Keyed.{empty}
use Rattle.cp_model.specs.Past.{tree_of}
use Rattle.cp_model.specs.Tree.{Tree, Source, refusal, tree_after}
use Rattle.cp_model.specs.History.{Entry, start, load, commit, State, steps_of, after_commit, after_load, start_state, then_entry, replay, CanCommit, IsLegal, IsLegalFrom}
use Rattle.cp_model.specs.Versions.{ops_in_steps, with_commit, entries_upto, history_upto, version}
use Rattle.cp_model.proofs.Contents.{tree_of-aged}
use Rattle.cp_model.proofs.FirstOperations.{ops-of-none, can-follow-upto, ops-of-all}
use Rattle.cp_model.proofs.VersionLemmas.{committed-as, kind_is, now_is}
use Rattle.cp_operation.specs.Passed.{Stage, next_stage, stage_after, tree_until, AllAccepted}
use Rattle.cp_operation.proofs.Replayed.{HaveReplayed, replayed-none, replayed-more, replayed-refused, replayed-all, take_more}
use Rattle.cp_engine.proofs.Committed.{committed, commit-accepted}
use Rattle.cp_archive.specs.Histories.{trees_alone, trees_of_steps, trees_from, trees_of_history, AreVersions}
use Rattle.cp_archive.specs.Laws.{TreesAreVersions}
use Rattle.cp_archive.specs.Trees.{newest_after, newest}

-- ---- the last of some trees

-- the last is the one that was added last
pub newest-last : (t u : Tree) (ts : List Tree) → newest_after t (ts ++ u ∷ []) ≡ u
newest-last t u [] = refl
newest-last t u (x ∷ ts) = newest-last x u ts

-- after more trees the last is the last of these
pub newest-after : (t : Tree) (ts us : List Tree) → newest_after t (ts ++ us) ≡ newest_after (newest_after t ts) us
newest-after t [] us = refl
newest-after t (x ∷ ts) us = newest-after x ts us

-- what stands after some trees
get-after : (t : Tree) (ts us : List Tree) (n : ℕ) → slice_get (t ∷ ts ++ us) (length ts + n) ≡ slice_get (newest_after t ts ∷ us) n
get-after t [] us n = ap (slice_get (t ∷ us)) (omega arith)
get-after t (x ∷ ts) us n = let next : length (x ∷ ts) + n ≡ suc (length ts + n) = omega arith in ap (slice_get (t ∷ x ∷ ts ++ us)) next ∙ get-after x ts us n

-- ---- one operation after another

module _ (ss : List Source) where
  -- the tree to which operations lead is the last of those after each
  stage-newest : (k : Kind) (x : Stage) (ops : List Op) → (fold (next_stage k ss) x ops).tree ≡ newest_after x.tree (trees_alone ss x.tree ops)
  unfolding next_stage
  stage-newest k x [] = refl
  stage-newest k x (op ∷ ops) = stage-newest k (next_stage k ss x op) ops

  pub stage-alone : (k : Kind) (t : Tree) (n : ℕ) (ops : List Op) → (stage_after k ss t n ops).tree ≡ newest_after t (trees_alone ss t ops)
  unfolding stage_after
  stage-alone k t n ops = stage-newest k (record { tree = t; next = n; records = [] }) ops

  pub until-alone : (t : Tree) (ops : List Op) → AllAccepted ss t ops → tree_until ss t ops ≡ newest_after t (trees_alone ss t ops)
  until-alone t [] a = refl
  until-alone t (op ∷ ops) a = ap (λ o. if is_some o then t else tree_until ss (tree_after ss t op) ops) a.0 ∙ until-alone (tree_after ss t op) ops a.1

  -- where they are accepted, the stage that they lead to has the tree that they lead to
  pub until-stage : (k : Kind) (t : Tree) (n : ℕ) (ops : List Op) → AllAccepted ss t ops → tree_until ss t ops ≡ (stage_after k ss t n ops).tree
  until-stage k t n ops a = until-alone t ops a ∙ sym (stage-alone k t n ops)

  -- the trees of one operation more
  pub alone-more : (t : Tree) (ops : List Op) (op : Op) → trees_alone ss t (ops ++ op ∷ []) ≡ trees_alone ss t ops ++ tree_after ss (newest_after t (trees_alone ss t ops)) op ∷ []
  alone-more t [] op = refl
  alone-more t (o ∷ ops) op = ap (λ ts. tree_after ss t o ∷ ts) (alone-more (tree_after ss t o) ops op)

  pub alone-count : (t : Tree) (ops : List Op) → length (trees_alone ss t ops) ≡ length ops
  alone-count t [] = refl
  alone-count t (op ∷ ops) = ap suc (alone-count (tree_after ss t op) ops)

  -- the tree after the first n operations
  alone-at : (t : Tree) (ops : List Op) (n : ℕ) (us : List Tree) → n ≤ length ops → slice_get (t ∷ trees_alone ss t ops ++ us) n ≡ Some (newest_after t (trees_alone ss t (take n ops)))
  alone-at t ops zero us h = refl
  alone-at t [] (suc n) us h = absurd (omega (arith, h))
  alone-at t (op ∷ ops) (suc n) us h = alone-at (tree_after ss t op) ops n us (omega (arith, h))

  -- ---- steps

  pub steps-count : (k : Kind) (t : Tree) (ops : List Op) → length (trees_of_steps k ss t ops) ≡ length (steps_of k ops)
  steps-count kind.N t ops = alone-count t ops ∙ sym (length-map ops (λ op. op ∷ []))
  steps-count kind.H t ops = alone-count t ops ∙ sym (length-map ops (λ op. op ∷ []))
  steps-count kind.T t ops = refl
  steps-count kind.HT t ops = refl

  -- the last tree is the one to which the operations lead
  steps-newest : (k : Kind) (t : Tree) (ops : List Op) → AllAccepted ss t ops → newest_after t (trees_of_steps k ss t ops) ≡ newest_after t (trees_alone ss t ops)
  steps-newest kind.N t ops a = refl
  steps-newest kind.H t ops a = refl
  steps-newest kind.T t ops a = until-alone t ops a
  steps-newest kind.HT t ops a = until-alone t ops a

  -- the tree after the first n steps, where there are more
  steps-at : (k : Kind) (t : Tree) (ops : List Op) (n : ℕ) (us : List Tree) → 0 < n → n < length (steps_of k ops) → slice_get (t ∷ trees_of_steps k ss t ops ++ us) n ≡ Some (newest_after t (trees_alone ss t (ops_in_steps k n ops)))
  steps-at kind.N t ops n us p l = alone-at t ops n us (let e = length-map ops (λ op. op ∷ []) in omega (arith, l, e))
  steps-at kind.H t ops n us p l = alone-at t ops n us (let e = length-map ops (λ op. op ∷ []) in omega (arith, l, e))
  steps-at kind.T t ops n us p l = absurd (omega (arith, p, l))
  steps-at kind.HT t ops n us p l = absurd (omega (arith, p, l))

-- a commit leads to the last of the trees after its steps
commit-newest : (s : State) (ops : List Op) → CanCommit s ops → tree_of (after_commit s ops).tree ≡ newest_after (tree_of s.tree) (trees_alone s.sources (tree_of s.tree) ops)
commit-newest s ops c = (committed s ops c.some (commit-accepted s ops c)).tree ∙ stage-alone s.sources s.kind (tree_of s.tree) (s.now + 1) ops

-- ---- versions

-- without a step more the tree stays
no-step : (k : Kind) (es : List Entry) (s r y : State) → IsLegalFrom (Some r) es → fold then_entry (Some s) (entries_upto k 0 es) ≡ Some y → tree_of y.tree ≡ tree_of s.tree
no-step k [] s r y l e = ap (λ (x : State). tree_of x.tree) (sym (same_Some s y e))
no-step k (start j t ∷ es) s r y l e = absurd l.0
no-step k (load m t ∷ es) s r y l e = no-step k es (after_load s m t) (after_load r m t) y l.1 e
no-step k (commit stamp ops ∷ es) s r y l e =
    let none : 0 - length (steps_of k ops) ≡ 0 = omega arith in
    no-step k es s (after_commit r ops) y l.1
    (ap (λ n. fold then_entry (Some s) (entries_upto k n es)) (sym none)
    ∙ ap (λ os. fold then_entry (Some s) (with_commit stamp os (entries_upto k (0 - length (steps_of k ops)) es))) (sym (ops-of-none k 0 ops refl))
    ∙ e)

then-with : (s : State) (stamp : Stamp) (ops : List Op) (es : List Entry) → 1 ≤ length ops → fold then_entry (Some s) (with_commit stamp ops es) ≡ fold then_entry (Some (after_commit s ops)) es
then-with s stamp [] es h = absurd (omega (arith, h))
then-with s stamp (op ∷ ops) es h = refl

abbrev IsAt : ℕ → State → List Entry → State → Type 0
IsAt n s es y = slice_get (tree_of s.tree ∷ trees_from s es) n ≡ Some (tree_of y.tree)

module _ (stamp : Stamp) (ops : List Op) (es : List Entry) (s y z : State) (n : ℕ) (p : 0 < n) (c : CanCommit s ops) (e : fold then_entry (Some s) (entries_upto s.kind n (commit stamp ops ∷ es)) ≡ Some y) where
  part : CanCommit s (ops_in_steps s.kind n ops)
  part = can-follow-upto s s.kind n ops p c

  -- the rest of the history after the operations that are taken
  rest : fold then_entry (Some (after_commit s (ops_in_steps s.kind n ops))) (entries_upto s.kind (n - length (steps_of s.kind ops)) es) ≡ Some y
  rest = sym (then-with s stamp (ops_in_steps s.kind n ops) (entries_upto s.kind (n - length (steps_of s.kind ops)) es) part.some) ∙ e

  -- the version lies in the commit
  within : IsLegalFrom (Some (after_commit s ops)) es → n < length (steps_of s.kind ops) → IsAt n s (commit stamp ops ∷ es) y
  within l h =
      let none : n - length (steps_of s.kind ops) ≡ 0 = omega (arith, h) in
      let stays = no-step s.kind es (after_commit s (ops_in_steps s.kind n ops)) (after_commit s ops) y l (ap (λ m. fold then_entry (Some (after_commit s (ops_in_steps s.kind n ops))) (entries_upto s.kind m es)) (sym none) ∙ rest) in
      steps-at s.sources s.kind (tree_of s.tree) ops n (trees_from (after_commit s ops) es) p h
      ∙ ap (λ t. Some t) (sym (stays ∙ commit-newest s (ops_in_steps s.kind n ops) part))

  -- or after it
  beyond : length (steps_of s.kind ops) ≤ n → (fold then_entry (Some (after_commit s ops)) (entries_upto s.kind (n - length (steps_of s.kind ops)) es) ≡ Some y → IsAt (n - length (steps_of s.kind ops)) (after_commit s ops) es y) → IsAt n s (commit stamp ops ∷ es) y
  beyond h ih =
      let trees = trees_of_steps s.kind s.sources (tree_of s.tree) ops in
      let count = steps-count s.sources s.kind (tree_of s.tree) ops in
      let sum : n ≡ length trees + (n - length (steps_of s.kind ops)) = omega (arith, h, count) in
      ap (slice_get (tree_of s.tree ∷ trees ++ trees_from (after_commit s ops) es)) sum
      ∙ get-after (tree_of s.tree) trees (trees_from (after_commit s ops) es) (n - length (steps_of s.kind ops))
      ∙ ap (λ t. slice_get (t ∷ trees_from (after_commit s ops) es) (n - length (steps_of s.kind ops))) (steps-newest s.sources s.kind (tree_of s.tree) ops (commit-accepted s ops c) ∙ sym (commit-newest s ops c))
      ∙ ih (ap (λ os. fold then_entry (Some (after_commit s os)) (entries_upto s.kind (n - length (steps_of s.kind ops)) es)) (sym (ops-of-all s.kind n ops p h)) ∙ rest)

-- n steps after the state s stands the tree of the version
at-version : (es : List Entry) (s y z : State) (n : ℕ) → IsLegalFrom (Some s) es → fold then_entry (Some s) es ≡ Some z → s.now + n ≤ z.now → fold then_entry (Some s) (entries_upto s.kind n es) ≡ Some y → IsAt n s es y
at-version [] s y z zero l f h e = ap (λ (x : State). Some (tree_of x.tree)) (same_Some s y e)
at-version [] s y z (suc n) l f h e = let d : s.now ≡ z.now = ap (λ (x : State). x.now) (same_Some s z f) in absurd (omega (arith, h, d))
at-version (start j t ∷ es) s y z n l f h e = absurd l.0
at-version (load m t ∷ es) s y z n l f h e = at-version es (after_load s m t) y z n l.1 f h e
at-version (commit stamp ops ∷ es) s y z n l f h e =
    elim (nat_lt 0 n) as (λ b. nat_lt 0 n ≡ b → IsAt n s (commit stamp ops ∷ es) y) [
      | false ↦ λ b.
          let none : n ≡ 0 = grind (arith, nat_tests) in
          ap (slice_get (tree_of s.tree ∷ trees_from s (commit stamp ops ∷ es))) none
          ∙ ap (λ t. Some t) (sym (no-step s.kind (commit stamp ops ∷ es) s s y l (ap (λ m. fold then_entry (Some s) (entries_upto s.kind m (commit stamp ops ∷ es))) (sym none) ∙ e)))
      | true ↦ λ b.
          let p : 0 < n = grind (arith, nat_tests) in
          elim (nat_lt n (length (steps_of s.kind ops))) as (λ d. nat_lt n (length (steps_of s.kind ops)) ≡ d → IsAt n s (commit stamp ops ∷ es) y) [
            | true ↦ λ d. within stamp ops es s y z n p l.0 e l.1 (grind (arith, nat_tests))
            | false ↦ λ d.
                let few : length (steps_of s.kind ops) ≤ n = grind (arith, nat_tests) in
                let a = committed-as s ops l.0 in
                let grown = a.2 in
                beyond stamp ops es s y z n p l.0 e few
                (λ r. at-version es (after_commit s ops) y z (n - length (steps_of s.kind ops)) l.1 f (omega (arith, h, grown, few)) (ap (λ k. fold then_entry (Some (after_commit s ops)) (entries_upto k (n - length (steps_of s.kind ops)) es)) a.1 ∙ r))
          ] refl
    ] refl

-- there are as many trees as steps
trees-count : (es : List Entry) (s z : State) → IsLegalFrom (Some s) es → fold then_entry (Some s) es ≡ Some z → s.now + length (trees_from s es) ≡ z.now
trees-count [] s z l f = let d : s.now ≡ z.now = ap (λ (x : State). x.now) (same_Some s z f) in omega (arith, d)
trees-count (start j t ∷ es) s z l f = absurd l.0
trees-count (load m t ∷ es) s z l f = trees-count es (after_load s m t) z l.1 f
trees-count (commit stamp ops ∷ es) s z l f =
    let grown = (committed-as s ops l.0).2 in
    let rest = trees-count es (after_commit s ops) z l.1 f in
    let count = steps-count s.sources s.kind (tree_of s.tree) ops in
    let all = length-append (trees_of_steps s.kind s.sources (tree_of s.tree) ops) (trees_from (after_commit s ops) es) in
    omega (arith, grown, rest, count, all)

start_tree : (k : Kind) (t : Tree) → tree_of (start_state k t).tree ≡ t
unfolding start_state
start_tree k t = tree_of-aged t

pub trees-are-versions : TreesAreVersions
unfolding version replay
trees-are-versions [] s l f = absurd (cc)
trees-are-versions (start k u ∷ es) s l f =
    let first = now_is k u in
    let count = trees-count es (start_state k u) s l.1 f in
    record {
      count = omega (arith, count, first);
      each = λ t z le e.
          ap (λ x. slice_get (x ∷ trees_from (start_state k u) es) t) (sym (start_tree k u))
          ∙ at-version es (start_state k u) z s t l.1 f (omega (arith, le, first)) (ap (λ j. fold then_entry (Some (start_state k u)) (entries_upto j t es)) (kind_is k u) ∙ e);
    }
trees-are-versions (load m u ∷ es) s l f = absurd l.0
trees-are-versions (commit stamp ops ∷ es) s l f = absurd l.0

-- ---- one entry more

more_from : (es : List Entry) (s z : State) (e : Entry) → IsLegalFrom (Some s) es → fold then_entry (Some s) es ≡ Some z → trees_from s (es ++ e ∷ []) ≡ trees_from s es ++ trees_from z (e ∷ [])
more_from [] s z e l f = ap (λ x. trees_from x (e ∷ [])) (same_Some s z f)
more_from (start j t ∷ es) s z e l f = absurd l.0
more_from (load m t ∷ es) s z e l f = more_from es (after_load s m t) z e l.1 f
more_from (commit stamp ops ∷ es) s z e l f =
    ap (λ ts. trees_of_steps s.kind s.sources (tree_of s.tree) ops ++ ts) (more_from es (after_commit s ops) z e l.1 f)
    ∙ sym (append_assoc (trees_of_steps s.kind s.sources (tree_of s.tree) ops) (trees_from (after_commit s ops) es) (trees_from z (e ∷ [])))

-- an entry more adds the trees after its steps
pub trees-more : (h : List Entry) (s : State) (e : Entry) → IsLegal h → replay h ≡ Some s → trees_of_history (h ++ e ∷ []) ≡ trees_of_history h ++ trees_from s (e ∷ [])
unfolding replay
trees-more [] s e l f = absurd (cc f)
trees-more (start k u ∷ es) s e l f = ap (λ ts. u ∷ ts) (more_from es (start_state k u) s e l.1 f)
trees-more (load m u ∷ es) s e l f = absurd l.0
trees-more (commit stamp ops ∷ es) s e l f = absurd l.0

-- ---- operations each as a step of its own

-- so many of the operations lead from the tree t to u, and with the tree after each the trees xs have become ys
pub record HaveStepped (ss : List Source) (t : Tree) (ops : List Op) (xs : List Tree) (i : ℕ) (u : Tree) (ys : List Tree) : Type 0 where
  pub replayed : HaveReplayed ss t ops i u
  pub added : ys ≡ xs ++ trees_alone ss t (take i ops)
  pub newest : newest ys ≡ u

take-few : (ops : List Op) (i : ℕ) → length (take i ops) ≤ length ops
take-few ops zero = omega arith
take-few [] (suc i) = omega arith
take-few (op ∷ ops) (suc i) = let h = take-few ops i in omega (arith, h)

module _ (ss : List Source) (t : Tree) (ops : List Op) (xs : List Tree) where
  pub stepped-none : newest xs ≡ t → HaveStepped ss t ops xs 0 t xs
  stepped-none e = record { replayed = replayed-none ss t ops; added = sym (append-nil xs); newest = e }

  module _ (i : ℕ) (u : Tree) (ys : List Tree) (h : HaveStepped ss t ops xs i u ys) where
    -- there is room for the tree after one more
    pub stepped-few : length xs + length ops < 2 ^ 63 → length ys < 2 ^ 63
    stepped-few few =
        let long = ap length h.added in
        let sum = length-append xs (trees_alone ss t (take i ops)) in
        let count = alone-count ss t (take i ops) in
        let less = take-few ops i in
        omega (arith, few, long, sum, count, less)

    module _ (op : Op) (within : i < length ops) (is : op ≡ get_or ops i op) (os : List Op) (one : os ≡ op ∷ []) where
      -- where one is refused, not all are accepted
      pub stepped-refused : (AllAccepted ss u os → ⊥) → AllAccepted ss t ops → ⊥
      stepped-refused never all = by (refusal ss u op) refl
        where
          by : (o : Option Refusal) → refusal ss u op ≡ o → ⊥
          by None e = never (subst (AllAccepted ss u) (sym one) (e, tt))
          by (Some r) e = replayed-refused ss t ops i u h.replayed op within is (ap is_some e) all

      -- one more that is accepted
      pub stepped-more : (v : Tree) (zs : List Tree) → AllAccepted ss u os → v ≡ tree_until ss u os → zs ≡ ys ++ v ∷ [] → HaveStepped ss t ops xs (i + 1) v zs
      stepped-more v zs a e z =
          let none : refusal ss u op ≡ None = (subst (AllAccepted ss u) one a).0 in
          let after : v ≡ tree_after ss u op = e ∙ ap (tree_until ss u) one ∙ ap (λ o. if is_some o then u else tree_after ss u op) none in
          let here : newest_after t (trees_alone ss t (take i ops)) ≡ u = sym (h.replayed.tree kind.N 0 ∙ stage-alone ss kind.N t 0 (take i ops)) in
          record {
            replayed = replayed-more ss t ops i u h.replayed op v within is none after;
            added =
                z
                ∙ ap (λ us. us ++ v ∷ []) h.added
                ∙ append_assoc xs (trees_alone ss t (take i ops)) (v ∷ [])
                ∙ ap (λ w. xs ++ (trees_alone ss t (take i ops) ++ w ∷ [])) (after ∙ ap (λ w. tree_after ss w op) (sym here))
                ∙ ap (λ us. xs ++ us) (sym (alone-more ss t (take i ops) op))
                ∙ ap (λ os. xs ++ trees_alone ss t os) (sym (take_more ops i op within is));
            newest = ap newest z ∙ newest-last empty v ys;
          }

    module _ (all : length ops ≤ i) where
      -- where none is left, all are accepted
      pub stepped-accepted : AllAccepted ss t ops
      stepped-accepted = subst (AllAccepted ss t) (take_all i ops all) h.replayed.accepted

      pub stepped-until : u ≡ tree_until ss t ops
      stepped-until = replayed-all ss t ops i u h.replayed all

      pub stepped-added : ys ≡ xs ++ trees_alone ss t ops
      stepped-added = h.added ∙ ap (λ os. xs ++ trees_alone ss t os) (take_all i ops all)
