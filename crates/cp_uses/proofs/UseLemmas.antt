-- The places that use another are those of the reach that stand now.
use Rattle.std.specs.Prelude.{ℕ, zero, suc, ◌+◌, ◌-◌, ◌≤◌, ◌<◌, ◌≡◌, ◌==◌, ◌&&◌, ◌||◌, Bool, true, false, List, [], ◌∷◌, ◌++◌, refl, nat_lt, sum_by, if◌then◌else◌}
use Rattle.std.proofs.Common.{sym, ap, subst, ◌∙◌, arith, inl, inr}
use Rattle.std.specs.List.{list_any}
use Rattle.std.proofs.lemmas.Bool.{and_parts}
use Rattle.std.proofs.lemmas.Bool.Decides.{nat_tests}
use Rattle.std.specs.List.Sorted.{IsStrictlySortedBy}
use Rattle.std.specs.declared.option.Option.TheVariants.{None, Some}
use Rattle.cp_path.specs.declared.loc.Loc.{Loc}
use Rattle.cp_path.proofs.Same.{place_eq-same, place_eq-refl}
use Rattle.std.proofs.Math.Bool.{or-true}
use Rattle.cp_model.specs.Place.{Path, at_target, in_target, place_eq, nearest, or_else}
use Rattle.cp_model.specs.declared.record.RowMark.{RowMark as Mark}
use Rattle.cp_model.specs.Keyed.{look}
use Rattle.cp_model.specs.Subtrees.{is_there}
use Rattle.cp_model.specs.Tree.{Tree}
use Rattle.cp_model.specs.declared.effect.Effect.TheVariants.{Same as same, From as from}
use Rattle.cp_model.specs.Rows.{left, read_nearest}
use Rattle.cp_model.specs.History.{Entry, State, IsLegal, replay, read_rows}
use Rattle.cp_model.specs.Past.{tree_of}
use Rattle.cp_model.specs.Records.{reads, rows_at}
use Rattle.cp_model.specs.Answers.{trace}
use Rattle.cp_model.specs.Changes.{change_at, AreNext}
use Rattle.cp_model.specs.declared.kind.Kind.{Kind}
use Rattle.cp_model.specs.declared.kind.Kind.TheVariants as kind
use Rattle.cp_model.specs.declared.record.Record.{Record}
use Rattle.cp_model.proofs.Lookups.{there-mapped}
use Rattle.cp_model.proofs.Pasts.{legal-walked}
use Rattle.cp_model.proofs.Rising.{records-rise}
use Rattle.cp_store.specs.declared.store.ProvStore.{Ghosts}
use Rattle.cp_uses.specs.declared.reached.Reached.{Reached}
use Rattle.cp_uses.specs.Reach.{Reaches, begins, renewed, carried, passes, is_new_data}
use Rattle.cp_uses.specs.Laws.{IsReachedAt}
use Rattle.cp_uses.specs.Onward.{is_early}
use Rattle.cp_uses.specs.Closing.{Stands, AreApart, Closes}
use Rattle.cp_uses.specs.Following.{IsKept}
use Rattle.cp_uses.specs.Front.{is_reached}
use Rattle.cp_model.specs.Leaps.{Readings}
use Rattle.cp_uses.specs.Current.{is_current, stands_now}
use Rattle.cp_query.specs.Asked.{is_in}
use Rattle.cp_uses.specs.Renewals.{renewals, renewals_at, changes_at}
use Rattle.cp_uses.proofs.Fronts.{same-loc}
use Rattle.cp_uses.specs.Users.{is_among, place_cmp, AreUsers, ServesFor, IsServed}
use Rattle.cp_uses.proofs.Targets.{records-of-target}
use Rattle.cp_uses.proofs.UserLemmas.{users-are-reached}
use Rattle.cp_uses.proofs.Arrived.{early-quiet, quiet-early}
use Rattle.cp_uses.proofs.Whole.{firsts, found-reached, reached-found}

nowhere : (p : Path) → nearest {X = Mark} (λ _. None) p ≡ None
nowhere [] = refl
nowhere (a ∷ p) = ap (λ o. or_else o None) (nowhere p)

-- no rows of a step say that nothing changed
silent : (k : Kind) (rs : List Record) (t : ℕ) (p : Path) → rows_at rs t ≡ [] → reads k rs t p ≡ left same
silent kind.N rs t p e = ap (λ xs. read_rows kind.N (λ r. look r xs) p) e
silent kind.T rs t p e = ap (λ xs. read_rows kind.T (λ r. look r xs) p) e
silent kind.H rs t p e = ap (λ xs. read_rows kind.H (λ r. look r xs) p) e ∙ ap read_nearest (nowhere p)
silent kind.HT rs t p e = ap (λ xs. read_rows kind.HT (λ r. look r xs) p) e ∙ ap read_nearest (nowhere p)

-- nothing is reached after the last step
reached-early : (k : Kind) (rs : List Record) (last : ℕ) → ((t : ℕ) → last < t → rows_at rs t ≡ []) → (q c : Loc) (t : ℕ) → Reaches (reads k rs) q c t → t ≤ last
reached-early k rs last later q c t (begins _ _ e z) = omega (arith, z)
reached-early k rs last later q c t (renewed _ _ e i p h) =
    elim (nat_lt last t) as (λ b. nat_lt last t ≡ b → t ≤ last) [
      | true ↦ λ n. let z : last < t = grind (arith, nat_tests) in let d = ap is_new_data (silent k rs t c.path (later t z)) in absurd (cc)
      | false ↦ λ n. grind (arith, nat_tests)
    ] refl
reached-early k rs last later q c t (carried a s _ _ r lt i fits is quiet) =
    elim (nat_lt last t) as (λ b. nat_lt last t ≡ b → t ≤ last) [
      | true ↦ λ n. let z : last < t = grind (arith, nat_tests) in let d : left same ≡ left (from a) = sym (silent k rs t c.path (later t z)) ∙ is in absurd (cc)
      | false ↦ λ n. grind (arith, nat_tests)
    ] refl

-- ---- standing now

some-stands : (f : Reached → Bool) (xs : List Reached) → list_any f xs ≡ true → (x : Reached) × Stands xs x × (f x ≡ true)
some-stands f [] h = absurd (cc)
some-stands f (y ∷ xs) h =
    elim (f y) as (λ b. f y ≡ b → (b || list_any f xs) ≡ true → (x : Reached) × Stands (y ∷ xs) x × (f x ≡ true)) [
      | true ↦ λ e _. (y, inl refl, e)
      | false ↦ λ _ h. let r = some-stands f xs h in (r.0, inr r.1, r.2)
    ] refl h

stands-some : (f : Reached → Bool) (xs : List Reached) (x : Reached) → Stands xs x → f x ≡ true → list_any f xs ≡ true
stands-some f [] x s h = absurd s
stands-some f (y ∷ xs) x (inl e) h = ap (λ b. b || list_any f xs) (ap f e ∙ h)
stands-some f (y ∷ xs) x (inr s) h = ap (λ b. f y || b) (stands-some f xs x s h) ∙ or-true (f y)

same-bool : (a b : Bool) → (a ≡ true → b ≡ true) → (b ≡ true → a ≡ true) → a ≡ b
same-bool true b f g = sym (f refl)
same-bool false true f g = g refl
same-bool false false f g = refl

-- ---- calls

-- the place itself stands among its own once for each step
falling : (E : Readings) (q : Loc) (n t : ℕ) (p : Loc) → n < t → is_reached (record { place = p; tid = t }) (renewals E q n) ≡ false
falling E q zero t p h = refl
falling E q (suc n) t p h = by (is_new_data (E (suc n) q.path)) (falling E q n t p (omega (arith, h)))
  where
    apart : (t == suc n) ≡ false
    apart = grind (arith, nat_tests, h)

    second : (a b : Bool) → b ≡ false → (a && b) ≡ false
    second true b e = e
    second false b e = refl

    by : (b : Bool) → is_reached (record { place = p; tid = t }) (renewals E q n) ≡ false → is_reached (record { place = p; tid = t }) (if b then record { place = q; tid = suc n } ∷ renewals E q n else renewals E q n) ≡ false
    by true e = ap (λ b. b || is_reached (record { place = p; tid = t }) (renewals E q n)) (second (place_eq p q) (t == suc n) apart) ∙ e
    by false e = e

renewals-apart : (E : Readings) (q : Loc) (n : ℕ) → AreApart (renewals E q n)
renewals-apart E q zero = tt
renewals-apart E q (suc n) = by (is_new_data (E (suc n) q.path)) (renewals-apart E q n)
  where
    by : (b : Bool) → AreApart (renewals E q n) → AreApart (if b then record { place = q; tid = suc n } ∷ renewals E q n else renewals E q n)
    by true a = (falling E q n (suc n) q (omega arith), a)
    by false a = a

never-first : (E : Readings) (q : Loc) (n : ℕ) → is_reached (record { place = q; tid = 0 }) (renewals E q n) ≡ false
never-first E q zero = refl
never-first E q (suc n) = by (is_new_data (E (suc n) q.path)) (never-first E q n)
  where
    zero_not : (0 == suc n) ≡ false
    zero_not = grind (arith, nat_tests)

    second : (a b : Bool) → b ≡ false → (a && b) ≡ false
    second true b e = e
    second false b e = refl

    by : (b : Bool) → is_reached (record { place = q; tid = 0 }) (renewals E q n) ≡ false → is_reached (record { place = q; tid = 0 }) (if b then record { place = q; tid = suc n } ∷ renewals E q n else renewals E q n) ≡ false
    by true e = ap (λ b. b || is_reached (record { place = q; tid = 0 }) (renewals E q n)) (second (place_eq q q) (0 == suc n) zero_not) ∙ e
    by false e = e

firsts-apart : (k : Kind) (rs : List Record) (q : Loc) (n : ℕ) → AreApart (firsts k rs q n)
firsts-apart k rs q n = by (in_target q)
  where
    by : (b : Bool) → (is_reached (record { place = q; tid = 0 }) (if b then renewals (reads k rs) q n else []) ≡ false) × AreApart (if b then renewals (reads k rs) q n else [])
    by true = (never-first (reads k rs) q n, renewals-apart (reads k rs) q n)
    by false = (refl, tt)

module _ (h : List Entry) (s : State) (legal : IsLegal h) (replayed : replay h ≡ Some s) (q : Loc) (xs : List Reached) (c : Closes s.kind s.rows s.rows (firsts s.kind s.rows q s.now) xs) where
  there : (p : Path) → is_there s.tree p ≡ is_there (tree_of s.tree) p
  there p = sym (there-mapped (λ _ x. x.content) s.tree p)

  -- it is this place, as it stands now
  abbrev stands_at : Loc → Reached → Bool
  stands_at p x = place_eq p x.place && is_current s.kind s.rows s.now (tree_of s.tree) x

  current-reached : (p : Path) (x : Reached) → Stands xs x → stands_at (at_target p) x ≡ true → IsReachedAt (reads s.kind s.rows) q s.now p
  current-reached p x w e =
      let a = and_parts (place_eq (at_target p) x.place) (is_current s.kind s.rows s.now (tree_of s.tree) x) e in
      let at : at_target p ≡ x.place = place_eq-same (at_target p) x.place a.0 in
      let b = and_parts (is_in (tree_of s.tree) x.place) (is_early x.tid (change_at s.kind s.rows s.now x.place)) a.1 in
      let r : Reaches (reads s.kind s.rows) q (at_target p) x.tid = subst (λ d. Reaches (reads s.kind s.rows) q d x.tid) (sym at) (found-reached s.kind s.rows q s.now xs c x w) in
      let n : s.now + 1 - 1 ≡ s.now = omega arith in
      let early : is_early x.tid (change_at s.kind s.rows (s.now + 1 - 1) (at_target p)) ≡ true = ap (λ d. is_early x.tid (change_at s.kind s.rows (s.now + 1 - 1) d)) at ∙ ap (λ m. is_early x.tid (change_at s.kind s.rows m x.place)) n ∙ b.1 in
      record {
        tid = x.tid;
        early = reached-early s.kind s.rows s.now ((legal-walked h s legal replayed).later) q (at_target p) x.tid r;
        reached = r;
        quiet = λ v l m. early-quiet s.kind s.rows (at_target p) x.tid (s.now + 1) early refl v l (omega (arith, m));
      }

  reached-current : (p : Path) → is_there s.tree p ≡ true → IsReachedAt (reads s.kind s.rows) q s.now p → stands_now s.kind s.rows s.now (tree_of s.tree) xs (at_target p) ≡ true
  reached-current p i r =
      let x : Reached = record { place = at_target p; tid = r.tid } in
      let w = reached-found s.kind s.rows q s.now xs c (records-of-target h s replayed) (at_target p) r.tid r.reached r.early in
      let n : s.now + 1 - 1 ≡ s.now = omega arith in
      let early : is_early r.tid (change_at s.kind s.rows s.now (at_target p)) ≡ true = ap (λ m. is_early r.tid (change_at s.kind s.rows m (at_target p))) (sym n) ∙ quiet-early s.kind s.rows (at_target p) r.tid (s.now + 1) (λ _ v l m. r.quiet v l (omega (arith, m))) in
      stands-some (stands_at (at_target p)) xs x w
      (ap (λ b. b && is_current s.kind s.rows s.now (tree_of s.tree) x) (place_eq-refl (at_target p)) ∙ ap (λ b. b && is_early r.tid (change_at s.kind s.rows s.now (at_target p))) (sym (there p) ∙ i) ∙ early)

  pub users-are : (places : List Loc) → IsStrictlySortedBy place_cmp places → ((p : Loc) → is_among p places ≡ stands_now s.kind s.rows s.now (tree_of s.tree) xs p) → AreUsers s q places
  users-are places order u = record {
    order = order;
    users = λ p i.
        u (at_target p)
        ∙ same-bool (stands_now s.kind s.rows s.now (tree_of s.tree) xs (at_target p)) (passes q (trace s.now s.tree p))
        (λ e. let w = some-stands (stands_at (at_target p)) xs e in (users-are-reached h s legal replayed q p i).1 (current-reached p w.0 w.1 w.2))
        (λ e. reached-current p i ((users-are-reached h s legal replayed q p i).0 e));
    only = λ p e.
        let w = some-stands (stands_at p) xs (sym (u p) ∙ e) in
        let x = w.0 in
        let a = and_parts (place_eq p x.place) (is_current s.kind s.rows s.now (tree_of s.tree) x) w.2 in
        let at : p ≡ x.place = place_eq-same p x.place a.0 in
        let b = and_parts (is_in (tree_of s.tree) x.place) (is_early x.tid (change_at s.kind s.rows s.now x.place)) a.1 in
        let d = and_parts (in_target x.place) (is_there (tree_of s.tree) x.place.path) b.0 in
        (ap in_target at ∙ d.0, there p.path ∙ ap (λ (l : Loc). is_there (tree_of s.tree) l.path) at ∙ d.1);
  }

  serves : (cost : Reached → ℕ) → ServesFor s q cost (1 + changes_at s.kind s.rows q s.now + sum_by cost xs)
  serves cost = record { pairs = xs; apart = c.apart (firsts-apart s.kind s.rows q s.now); reached = found-reached s.kind s.rows q s.now xs c; served = refl }

  pub is-served : (cost : Reached → ℕ) (a b d most : ℕ) → b ≤ a + (changes_at s.kind s.rows q s.now + 1) → d ≤ b + most → most ≤ sum_by cost xs → IsServed s q cost a d
  is-served cost a b d most x y z = record { calls = 1 + changes_at s.kind s.rows q s.now + sum_by cost xs; serves = serves cost; rose = omega (arith, x, y, z) }

-- ---- a whole run

-- a store that keeps the rows of a legal history keeps them in order
pub kept-in-order : {P : Type 0} (p : Ghosts P) (at : P) (h : List Entry) (s : State) (rows : List Record) → IsLegal h → replay h ≡ Some s → p.keeps at s.rows → p.last_tid at ≡ s.now → rows ≡ s.rows → IsKept p at rows
kept-in-order p at h s rows legal replayed k n e = record { keeps = subst (p.keeps at) (sym e) k; next = subst (λ m. AreNext 0 m rows) (sym n) (subst (AreNext 0 s.now) (sym e) (records-rise h s legal replayed)) }

-- what a walk over the state's own rows has found, by what the functions say of a store and an index that keep them
pub closes-all : (s : State) (k j : Kind) (last : ℕ) (rows : List Record) (q start : Loc) (none one two all : List Reached) → none ≡ [] → one ≡ none ++ record { place = start; tid = 0 } ∷ [] → (start.db ≡ q.db) × (start.path ≡ q.path) →
    two ≡ one ++ renewals_at k s.rows q last → Closes j rows rows two all → k ≡ s.kind → j ≡ s.kind → last ≡ s.now → rows ≡ s.rows → Closes s.kind s.rows s.rows (firsts s.kind s.rows q s.now) all
closes-all s k j last rows q start none one two all a b e c h d f n r =
    let first : one ≡ record { place = q; tid = 0 } ∷ [] = b ∙ ap (λ xs. xs ++ record { place = start; tid = 0 } ∷ []) a ∙ ap (λ l. record { place = l; tid = 0 } ∷ []) (same-loc start q e) in
    let is : two ≡ firsts s.kind s.rows q s.now = c ∙ ap (λ xs. xs ++ renewals_at k s.rows q last) first ∙ ap (λ j. record { place = q; tid = 0 } ∷ renewals_at j s.rows q last) d ∙ ap (λ m. record { place = q; tid = 0 } ∷ renewals_at s.kind s.rows q m) n in
    subst (λ xs. Closes s.kind s.rows s.rows xs all) is (subst (λ z. Closes s.kind z z two all) r (subst (λ z. Closes z rows rows two all) f h))

pub noted-all : (s : State) (k : Kind) (rows : List Record) (last : ℕ) (t : Tree) (all : List Reached) (none keys places : List Loc) → none ≡ [] → places ≡ keys → k ≡ s.kind → rows ≡ s.rows → last ≡ s.now → t ≡ tree_of s.tree →
    ((p : Loc) → is_among p keys ≡ (is_among p none || stands_now k rows last t all p)) → (p : Loc) → is_among p places ≡ stands_now s.kind s.rows s.now (tree_of s.tree) all p
noted-all s k rows last t all none keys places e l d w n r h p =
    ap (is_among p) l
    ∙ h p
    ∙ ap (λ ks. is_among p ks || stands_now k rows last t all p) e
    ∙ ap (λ j. stands_now j rows last t all p) d ∙ ap (λ z. stands_now s.kind z last t all p) w ∙ ap (λ m. stands_now s.kind s.rows m t all p) n ∙ ap (λ u. stands_now s.kind s.rows s.now u all p) r
