-- The records of a legal history rise.
use Rattle.std.specs.Prelude.{ℕ, ◌+◌, ◌≤◌, ◌≡◌, ◌==◌, ◌&&◌, ◌||◌, Bool, true, false, List, [], ◌∷◌, ◌++◌, fold, nat_lt, refl, ⊤}
use Rattle.std.proofs.Common.{ap, subst, ◌∙◌, arith, T}
use Rattle.std.proofs.lemmas.Bool.Decides.{nat_tests}
use Rattle.std.proofs.lemmas.List.Folds.{list_all-append}
use Rattle.std.specs.List.{list_all}
use Rattle.std.specs.Ordering.{is_lt}
use Rattle.std.specs.FinMap.Entries.{is_sorted, below_all}
use Rattle.std.specs.declared.option.Option.{Option}
use Rattle.std.specs.declared.option.Option.TheVariants.{None, Some}
use Rattle.cp_path.specs.declared.loc.Loc.{Loc}
use Rattle.cp_model.specs.declared.op.Op.{Op}
use Rattle.cp_model.specs.declared.record.Record.{Record}
use Rattle.cp_model.specs.Place.{Path, path_cmp, in_target, at_target}
use Rattle.cp_model.specs.Tree.{Tree}
use Rattle.cp_model.specs.Step.{Outcome, done, refused, step}
use Rattle.cp_model.specs.Past.{tree_of}
use Rattle.cp_model.specs.Rows.{Mark, I, C, D, K}
use Rattle.cp_model.specs.History.{Entry, start, load, commit, State, record_of, rows_of, with_tid, steps_of, after_settling, after_outcome, after_step, after_commit, start_state, then_entry, replay, CanFollow, IsLegal, IsLegalFrom}
use Rattle.cp_model.specs.declared.kind.Kind.{Kind}
use Rattle.cp_model.specs.Changes.{goes_before, rises, is_source, is_between, AreNext}
use Rattle.cp_model.proofs.Passing.{and_true, and_both, or_true}
use Rattle.cp_model.proofs.Sorted.{parts_of}
use Rattle.cp_model.proofs.MarkedRows.{sorted-rows_of}

-- a record has the Tid of its step
pub tid-record_of : (t : ℕ) (p : Path) (m : Mark) → (record_of t p m).tid ≡ t
tid-record_of t p I = refl
tid-record_of t p (C q) = refl
tid-record_of t p D = refl
tid-record_of t p K = refl

-- a record is of its place
pub loc-record_of : (t : ℕ) (p : Path) (m : Mark) → (record_of t p m).loc ≡ at_target p
loc-record_of t p I = refl
loc-record_of t p (C q) = refl
loc-record_of t p D = refl
loc-record_of t p K = refl

-- what passes one test passes a weaker one
pub all-weaker : {A : Type 0} (f g : A → Bool) → ((x : A) → f x ≡ true → g x ≡ true) → (xs : List A) → list_all f xs ≡ true → list_all g xs ≡ true
all-weaker f g h [] e = refl
all-weaker f g h (x ∷ xs) e = let parts = and_true (f x) (list_all f xs) e in and_both (g x) (list_all g xs) (h x parts.0) (all-weaker f g h xs parts.1)

or_first : (a b : Bool) → a ≡ true → (a || b) ≡ true
or_first true b e = refl
or_first false b e = absurd (cc)

truth : (b : Bool) → T b → b ≡ true
truth true h = refl
truth false h = absurd h

tid_itself : (t : ℕ) → (t == t) ≡ true
tid_itself t = grind (arith, nat_tests)

in_step : (t : ℕ) (p r : Path) (m k : Mark) → T (is_lt (path_cmp p r)) → goes_before (record_of t p m) (record_of t r k) ≡ true
in_step t p r m k l =
    let a : Record = record_of t p m in
    let b : Record = record_of t r k in
    or_true (nat_lt a.tid b.tid) (a.tid == b.tid && is_lt (path_cmp a.loc.path b.loc.path))
    (and_both (a.tid == b.tid) (is_lt (path_cmp a.loc.path b.loc.path))
    (ap (λ n. n == b.tid) (tid-record_of t p m) ∙ ap (λ n. t == n) (tid-record_of t r k) ∙ tid_itself t)
    (ap (λ (q : Loc). is_lt (path_cmp q.path b.loc.path)) (loc-record_of t p m) ∙ ap (λ (q : Loc). is_lt (path_cmp p q.path)) (loc-record_of t r k) ∙ truth (is_lt (path_cmp p r)) l))

-- rows that rise are records that rise
pub rises-with_tid : (t : ℕ) (rows : List (Path × Mark)) → T (is_sorted path_cmp rows) → rises (with_tid t rows) ≡ true
rises-with_tid t [] h = refl
rises-with_tid t (r ∷ []) h = refl
rises-with_tid t (r ∷ s ∷ rows) h =
    let parts = parts_of (below_all path_cmp r.0 (s ∷ rows)) (is_sorted path_cmp (s ∷ rows)) h in
    let first = parts_of (is_lt (path_cmp r.0 s.0)) (below_all path_cmp r.0 rows) parts.0 in
    and_both (goes_before (record_of t r.0 r.1) (record_of t s.0 s.1)) (rises (with_tid t (s ∷ rows))) (in_step t r.0 s.0 r.1 s.1 first.0) (rises-with_tid t (s ∷ rows) parts.1)

-- records of a later step rise behind those that rise
pub rises-append : (t : ℕ) (rows : List (Path × Mark)) (rs : List Record) → list_all (λ r. nat_lt r.tid t) rs ≡ true → rises rs ≡ true → rises (with_tid t rows) ≡ true → rises (rs ++ with_tid t rows) ≡ true
rises-append t rows [] b h k = k
rises-append t [] (r ∷ []) b h k = refl
rises-append t (s ∷ rows) (r ∷ []) b h k =
    and_both (goes_before r (record_of t s.0 s.1)) (rises (with_tid t (s ∷ rows)))
    (or_first (nat_lt r.tid (record_of t s.0 s.1).tid) _ (ap (nat_lt r.tid) (tid-record_of t s.0 s.1) ∙ (and_true (nat_lt r.tid t) true b).0)) k
rises-append t rows (r ∷ s ∷ rs) b h k =
    let parts = and_true (goes_before r s) (rises (s ∷ rs)) h in
    and_both (goes_before r s) (rises ((s ∷ rs) ++ with_tid t rows)) parts.0 (rises-append t rows (s ∷ rs) (and_true (nat_lt r.tid t) (list_all (λ r. nat_lt r.tid t) (s ∷ rs)) b).1 parts.1 k)

between_of : (low high : ℕ) (p : Path) (m : Mark) → low ≤ high → is_between low (high + 1) (record_of (high + 1) p m) ≡ true
between_of low high p m l =
    ap (λ q. in_target q && nat_lt low (record_of (high + 1) p m).tid && nat_lt (record_of (high + 1) p m).tid (high + 1 + 1)) (loc-record_of (high + 1) p m)
    ∙ ap (λ n. nat_lt low n && nat_lt n (high + 1 + 1)) (tid-record_of (high + 1) p m)
    ∙ reach low high l
  where
    reach : (low high : ℕ) → low ≤ high → (nat_lt low (high + 1) && nat_lt (high + 1) (high + 1 + 1)) ≡ true
    reach low high l = grind (arith, nat_tests)

between_all : (low high : ℕ) (rows : List (Path × Mark)) → low ≤ high → list_all (is_between low (high + 1)) (with_tid (high + 1) rows) ≡ true
between_all low high [] l = refl
between_all low high (r ∷ rows) l = and_both (is_between low (high + 1) (record_of (high + 1) r.0 r.1)) _ (between_of low high r.0 r.1 l) (between_all low high rows l)

before_next : (low high : ℕ) (r : Record) → is_between low high r ≡ true → nat_lt r.tid (high + 1) ≡ true
before_next low high r e = (and_true (in_target r.loc && nat_lt low r.tid) (nat_lt r.tid (high + 1)) e).1

between_more : (low high : ℕ) (r : Record) → is_between low high r ≡ true → is_between low (high + 1) r ≡ true
between_more low high r e =
    let parts = and_true (in_target r.loc && nat_lt low r.tid) (nat_lt r.tid (high + 1)) e in
    and_both (in_target r.loc && nat_lt low r.tid) (nat_lt r.tid (high + 1 + 1)) parts.0 (later r.tid parts.1)
  where
    later : (n : ℕ) → nat_lt n (high + 1) ≡ true → nat_lt n (high + 1 + 1) ≡ true
    later n e = grind (arith, nat_tests)

sources_all : (t : ℕ) (rows : List (Path × Mark)) → list_all (λ r. is_source r.op r.src) (with_tid t rows) ≡ true
sources_all t [] = refl
sources_all t (r ∷ rows) = and_both (is_source (record_of t r.0 r.1).op (record_of t r.0 r.1).src) _ (one r.1) (sources_all t rows)
  where
    one : (m : Mark) → is_source (record_of t r.0 m).op (record_of t r.0 m).src ≡ true
    one I = refl
    one (C q) = refl
    one D = refl
    one K = refl

-- the rows of the next step come next
pub next-step : (low high : ℕ) (rs : List Record) (rows : List (Path × Mark)) → low ≤ high → AreNext low high rs → T (is_sorted path_cmp rows) → AreNext low (high + 1) (rs ++ with_tid (high + 1) rows)
next-step low high rs rows l h s = record {
  rise = rises-append (high + 1) rows rs (all-weaker (is_between low high) (λ r. nat_lt r.tid (high + 1)) (before_next low high) rs h.between) h.rise (rises-with_tid (high + 1) rows s);
  sources =
      list_all-append (λ r. is_source r.op r.src) rs (with_tid (high + 1) rows)
      ∙ and_both (list_all (λ r. is_source r.op r.src) rs) (list_all (λ r. is_source r.op r.src) (with_tid (high + 1) rows)) h.sources (sources_all (high + 1) rows);
  between =
      list_all-append (is_between low (high + 1)) rs (with_tid (high + 1) rows)
      ∙ and_both (list_all (is_between low (high + 1)) rs) (list_all (is_between low (high + 1)) (with_tid (high + 1) rows)) (all-weaker (is_between low high) (is_between low (high + 1)) (between_more low high) rs h.between) (between_all low high rows l);
}

-- ---- histories

-- the records of a state rise
abbrev HasRising : State → Type 0
HasRising s = AreNext 0 s.now s.rows

-- the records of a state, if there is one, rise
abbrev HasRisingIf : Option State → Type 0
HasRisingIf None = ⊤
HasRisingIf (Some s) = HasRising s

rising-outcome : (s : State) (o : Outcome) → HasRising s → HasRising (after_outcome s o)
unfolding after_settling
rising-outcome s (done k w) h = next-step 0 s.now s.rows (rows_of s.kind (tree_of s.tree) w) (omega arith) h (sorted-rows_of s.kind (tree_of s.tree) w)
rising-outcome s (refused n r) h = h

rising-step : (s : State) (ops : List Op) → HasRising s → HasRising (after_step s ops)
unfolding after_step
rising-step s ops h = rising-outcome s (step (tree_of s.tree) s.sources ops) h

rising-steps : (steps : List (List Op)) (s : State) → HasRising s → HasRising (fold after_step s steps)
rising-steps [] s h = h
rising-steps (ops ∷ steps) s h = rising-steps steps (after_step s ops) (rising-step s ops h)

rising-commit : (s : State) (ops : List Op) → HasRising s → HasRising (after_commit s ops)
unfolding after_commit
rising-commit s ops h = rising-steps (steps_of s.kind ops) s h

rising-start : (k : Kind) (t : Tree) → HasRising (start_state k t)
unfolding start_state
rising-start k t = record { rise = refl; sources = refl; between = refl }

rising-then : (o : Option State) (e : Entry) → HasRisingIf o → CanFollow o e → HasRisingIf (then_entry o e)
rising-then None (start k t) h c = rising-start k t
rising-then None (load n t) h c = absurd c
rising-then None (commit stamp ops) h c = absurd c
rising-then (Some s) (start k t) h c = absurd c
rising-then (Some s) (load n t) h c = record { rise = h.rise; sources = h.sources; between = h.between }
rising-then (Some s) (commit stamp ops) h c = rising-commit s ops h

rising-from : (o : Option State) (es : List Entry) → HasRisingIf o → IsLegalFrom o es → HasRisingIf (fold then_entry o es)
rising-from o [] h c = h
rising-from o (e ∷ es) h c = rising-from (then_entry o e) es (rising-then o e h c.0) c.1

-- the records of a legal history rise
pub records-rise : (h : List Entry) (s : State) → IsLegal h → replay h ≡ Some s → AreNext 0 s.now s.rows
unfolding replay
records-rise h s l e = subst HasRisingIf e (rising-from None h tt l)
