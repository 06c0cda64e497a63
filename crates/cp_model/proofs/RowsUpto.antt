-- The rows of the first steps among those of all.
use Rattle.std.specs.Prelude.{ℕ, ◌+◌, ◌≡◌, ◌≤◌, ◌&&◌, Bool, true, false, List, [], ◌∷◌, ◌++◌, fold, nat_lt, filter, cond, refl}
use Rattle.std.proofs.Common.{sym, ap, subst, ◌∙◌, arith, append_assoc}
use Rattle.std.specs.List.{list_all}
use Rattle.std.proofs.lemmas.List.{append-nil}
use Rattle.std.proofs.lemmas.List.Elements.{filter-append}
use Rattle.std.proofs.lemmas.Bool.{and_parts}
use Rattle.std.proofs.lemmas.Bool.Decides.{nat_tests}
use Rattle.cp_model.specs.declared.op.Op.{Op}
use Rattle.cp_model.specs.declared.record.Record.{Record}
use Rattle.cp_model.specs.declared.record.RowMark.{RowMark as Mark}
use Rattle.cp_model.specs.declared.record.RowMark.TheVariants.{Made as I, Copied as C, Gone as D, Kept as K}
use Rattle.cp_model.specs.Place.{Path}
use Rattle.cp_model.specs.Step.{Outcome, done, refused, step}
use Rattle.cp_model.specs.Past.{tree_of}
use Rattle.cp_model.specs.History.{State, rows_of, record_of, with_tid, after_settling, after_outcome, after_step}
use Rattle.cp_model.specs.Laws.{is_upto}

-- a row of a step after t
abbrev pub is_later : ℕ → Record → Bool
is_later t r = nat_lt t r.tid

-- steps add rows, each with a Tid of theirs
pub record AddsRows (s z : State) : Type 0 where
  pub extra : List Record
  pub rows : z.rows ≡ s.rows ++ extra
  pub later : list_all (is_later s.now) extra ≡ true
  pub early : list_all (is_upto z.now) extra ≡ true
  pub grows : s.now ≤ z.now

adds-none : (s : State) → AddsRows s s
adds-none s = record { extra = []; rows = sym (append-nil s.rows); later = refl; early = refl; grows = omega arith }

tid-of : (t : ℕ) (p : Path) (m : Mark) → (record_of t p m).tid ≡ t
tid-of t p I = refl
tid-of t p (C q) = refl
tid-of t p D = refl
tid-of t p K = refl

all-tids : (f : ℕ → Bool) (t : ℕ) → f t ≡ true → (rows : List (Path × Mark)) → list_all (λ r. f r.tid) (with_tid t rows) ≡ true
all-tids f t h [] = refl
all-tids f t h (r ∷ rows) = ap (λ b. b && list_all (λ r. f r.tid) (with_tid t rows)) (ap f (tid-of t r.0 r.1) ∙ h) ∙ all-tids f t h rows

all-append : (p : Record → Bool) (xs ys : List Record) → list_all p xs ≡ true → list_all p ys ≡ true → list_all p (xs ++ ys) ≡ true
all-append p [] ys a b = b
all-append p (x ∷ xs) ys a b = let c = and_parts (p x) (list_all p xs) a in ap (λ d. d && list_all p (xs ++ ys)) c.0 ∙ all-append p xs ys c.1 b

all-weaker : (p q : Record → Bool) → ((r : Record) → p r ≡ true → q r ≡ true) → (xs : List Record) → list_all p xs ≡ true → list_all q xs ≡ true
all-weaker p q h [] a = refl
all-weaker p q h (x ∷ xs) a = let c = and_parts (p x) (list_all p xs) a in ap (λ d. d && list_all q xs) (h x c.0) ∙ all-weaker p q h xs c.1

adds-then : (s y z : State) → AddsRows s y → AddsRows y z → AddsRows s z
adds-then s y z a b =
    let m = a.grows in
    let n = b.grows in
    record {
      extra = a.extra ++ b.extra;
      rows = b.rows ∙ ap (λ xs. xs ++ b.extra) a.rows ∙ append_assoc s.rows a.extra b.extra;
      later = all-append (is_later s.now) a.extra b.extra a.later (all-weaker (is_later y.now) (is_later s.now) (λ r h. grind (arith, nat_tests, h, m)) b.extra b.later);
      early = all-append (is_upto z.now) a.extra b.extra (all-weaker (is_upto y.now) (is_upto z.now) (λ r h. grind (arith, nat_tests, h, n)) a.extra a.early) b.early;
      grows = omega (arith, m, n);
    }

adds-step : (s : State) (ops : List Op) → AddsRows s (after_step s ops)
unfolding after_step after_settling
adds-step s ops = by (step (tree_of s.tree) s.sources ops)
  where
    by : (o : Outcome) → AddsRows s (after_outcome s o)
    by (done k w) = record {
      extra = with_tid (s.now + 1) (rows_of s.kind (tree_of s.tree) w);
      rows = refl;
      later = all-tids (λ t. nat_lt s.now t) (s.now + 1) (grind (arith, nat_tests)) (rows_of s.kind (tree_of s.tree) w);
      early = all-tids (λ t. nat_lt t (s.now + 1 + 1)) (s.now + 1) (grind (arith, nat_tests)) (rows_of s.kind (tree_of s.tree) w);
      grows = omega arith;
    }
    by (refused n r) = adds-none s

pub adds-steps : (steps : List (List Op)) (s : State) → AddsRows s (fold after_step s steps)
adds-steps [] s = adds-none s
adds-steps (ops ∷ steps) s = adds-then s (after_step s ops) (fold after_step (after_step s ops) steps) (adds-step s ops) (adds-steps steps (after_step s ops))

-- ---- those up to t

pub all-kept : (p : Record → Bool) (xs : List Record) → list_all p xs ≡ true → filter p xs ≡ xs
all-kept p [] h = refl
all-kept p (x ∷ xs) h = let c = and_parts (p x) (list_all p xs) h in ap (λ b. cond b (x ∷ filter p xs) (filter p xs)) c.0 ∙ ap (λ ys. x ∷ ys) (all-kept p xs c.1)

pub none-kept : (t : ℕ) (xs : List Record) → list_all (is_later t) xs ≡ true → filter (is_upto t) xs ≡ []
none-kept t [] h = refl
none-kept t (x ∷ xs) h =
    let c = and_parts (is_later t x) (list_all (is_later t) xs) h in
    let n : is_upto t x ≡ false = (let a = c.0 in grind (arith, nat_tests, a)) in
    ap (λ b. cond b (x ∷ filter (is_upto t) xs) (filter (is_upto t) xs)) n ∙ none-kept t xs c.1

-- later steps leave the rows up to t
pub upto-same : (s z : State) (t : ℕ) → AddsRows s z → t ≤ s.now → filter (is_upto t) z.rows ≡ filter (is_upto t) s.rows
upto-same s z t a h =
    ap (filter (is_upto t)) a.rows
    ∙ filter-append (is_upto t) s.rows a.extra
    ∙ ap (λ xs. filter (is_upto t) s.rows ++ xs) (none-kept t a.extra (all-weaker (is_later s.now) (is_later t) (λ r k. grind (arith, nat_tests, k, h)) a.extra a.later))
    ∙ append-nil (filter (is_upto t) s.rows)

-- all rows are of steps up to the last
abbrev pub AreUpto : State → Type 0
AreUpto s = list_all (is_upto s.now) s.rows ≡ true

pub still-upto : (s z : State) → AddsRows s z → AreUpto s → AreUpto z
still-upto s z a h =
    let n = a.grows in
    subst (λ xs. list_all (is_upto z.now) xs ≡ true) (sym a.rows) (all-append (is_upto z.now) s.rows a.extra (all-weaker (is_upto s.now) (is_upto z.now) (λ r k. grind (arith, nat_tests, k, n)) s.rows h) a.early)

pub upto-all : (s : State) (t : ℕ) → AreUpto s → s.now ≤ t → filter (is_upto t) s.rows ≡ s.rows
upto-all s t h l = all-kept (is_upto t) s.rows (all-weaker (is_upto s.now) (is_upto t) (λ r k. grind (arith, nat_tests, k, l)) s.rows h)
