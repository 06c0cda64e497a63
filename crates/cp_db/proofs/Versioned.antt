-- Records that come next, one list after another and up to a step, and what a history leads to after that step.
use Rattle.std.specs.Prelude.{ℕ, ◌≡◌, ◌≤◌, ◌<◌, ◌+◌, ◌++◌, ◌&&◌, ◌||◌, ◌==◌, Bool, true, false, List, [], ◌∷◌, cond, filter, length, nat_lt, refl}
use Rattle.std.proofs.Common.{sym, ap, subst, ◌∙◌, arith}
use Rattle.std.specs.List.{list_all, slice_get}
use Rattle.std.specs.Ordering.{is_lt}
use Rattle.std.specs.declared.option.Option.TheVariants.{Some}
use Rattle.std.proofs.lemmas.Bool.{and_parts}
use Rattle.std.proofs.lemmas.Bool.Decides.{nat_tests}
use Rattle.std.proofs.lemmas.List.Folds.{list_all-append}
use Rattle.std.proofs.lemmas.Option.{same_Some}
use Rattle.cp_model.specs.Changes.{goes_before, rises, is_source, is_between, AreNext}
use Rattle.cp_model.specs.History.{Entry, State}
use Rattle.cp_model.specs.Laws.{is_upto, IsAfterStep}
use Rattle.cp_model.specs.Past.{tree_of}
use Rattle.cp_model.specs.Place.{in_target, path_cmp}
use Rattle.cp_model.specs.Tree.{Tree}
use Rattle.cp_model.specs.Versions.{history_upto, version}
use Rattle.cp_model.specs.declared.kind.Kind.{Kind}
use Rattle.cp_model.specs.declared.record.Record.{Record}
use Rattle.cp_model.proofs.VersionLemmas.{versions-are-legal}
use Rattle.cp_model.proofs.VersionStates.{versions-are-states}
use Rattle.cp_frame.specs.Items.{Item}
use Rattle.cp_query.specs.Asked.{IsCommitted}
use Rattle.cp_db.specs.Archives.{HasVersions}
use Rattle.cp_db.specs.declared.archive.Kept.{Kept}

and_of : (a b : Bool) → a ≡ true → b ≡ true → (a && b) ≡ true
and_of a b h g = ap (λ c. c && b) h ∙ g

first_le : (a b : ℕ) (x : Bool) → (nat_lt a b || (a == b && x)) ≡ true → a ≤ b
first_le a b true h = grind (arith, nat_tests)
first_le a b false h = grind (arith, nat_tests)

-- what goes before a row is of no later step
before_le : (r s : Record) → goes_before r s ≡ true → r.tid ≤ s.tid
before_le r s h = first_le r.tid s.tid (is_lt (path_cmp r.loc.path s.loc.path)) h

-- a row of a step up to n goes before one of a step after n
before_later : (n : ℕ) (r s : Record) → nat_lt r.tid (n + 1) ≡ true → nat_lt n s.tid ≡ true → goes_before r s ≡ true
before_later n r s h k = ap (λ b. b || (r.tid == s.tid && is_lt (path_cmp r.loc.path s.loc.path))) (let l : nat_lt r.tid s.tid ≡ true = grind (arith, nat_tests, h, k) in l)

-- ---- one list after another

module _ (low mid high : ℕ) (lm : low ≤ mid) (mh : mid ≤ high) where
  upto_mid : (r : Record) → is_between low mid r ≡ true → nat_lt r.tid (mid + 1) ≡ true
  upto_mid r h = (and_parts (in_target r.loc && nat_lt low r.tid) (nat_lt r.tid (mid + 1)) h).1

  after_mid : (r : Record) → is_between mid high r ≡ true → nat_lt mid r.tid ≡ true
  after_mid r h = (and_parts (in_target r.loc) (nat_lt mid r.tid) (and_parts (in_target r.loc && nat_lt mid r.tid) (nat_lt r.tid (high + 1)) h).0).1

  rises_both : (rs qs : List Record) → rises rs ≡ true → list_all (is_between low mid) rs ≡ true → rises qs ≡ true → list_all (is_between mid high) qs ≡ true → rises (rs ++ qs) ≡ true
  rises_both [] qs a u b v = b
  rises_both (r ∷ []) [] a u b v = refl
  rises_both (r ∷ []) (q ∷ qs) a u b v =
      and_of (goes_before r q) (rises (q ∷ qs)) (before_later mid r q (upto_mid r (and_parts (is_between low mid r) true u).0) (after_mid q (and_parts (is_between mid high q) (list_all (is_between mid high) qs) v).0)) b
  rises_both (r ∷ s ∷ rs) qs a u b v =
      let p = and_parts (goes_before r s) (rises (s ∷ rs)) a in
      let w = and_parts (is_between low mid r) (list_all (is_between low mid) (s ∷ rs)) u in
      and_of (goes_before r s) (rises ((s ∷ rs) ++ qs)) p.0 (rises_both (s ∷ rs) qs p.1 w.1 b v)

  wider_high : (rs : List Record) → list_all (is_between low mid) rs ≡ true → list_all (is_between low high) rs ≡ true
  wider_high [] h = refl
  wider_high (r ∷ rs) h =
      let p = and_parts (is_between low mid r) (list_all (is_between low mid) rs) h in
      let q = and_parts (in_target r.loc && nat_lt low r.tid) (nat_lt r.tid (mid + 1)) p.0 in
      let l : nat_lt r.tid (high + 1) ≡ true = (let m = q.1 in grind (arith, nat_tests, m, mh)) in
      and_of (is_between low high r) (list_all (is_between low high) rs) (and_of (in_target r.loc && nat_lt low r.tid) (nat_lt r.tid (high + 1)) q.0 l) (wider_high rs p.1)

  wider_low : (rs : List Record) → list_all (is_between mid high) rs ≡ true → list_all (is_between low high) rs ≡ true
  wider_low [] h = refl
  wider_low (r ∷ rs) h =
      let p = and_parts (is_between mid high r) (list_all (is_between mid high) rs) h in
      let q = and_parts (in_target r.loc && nat_lt mid r.tid) (nat_lt r.tid (high + 1)) p.0 in
      let t = and_parts (in_target r.loc) (nat_lt mid r.tid) q.0 in
      let l : nat_lt low r.tid ≡ true = (let m = t.1 in grind (arith, nat_tests, m, lm)) in
      and_of (is_between low high r) (list_all (is_between low high) rs) (and_of (in_target r.loc && nat_lt low r.tid) (nat_lt r.tid (high + 1)) (and_of (in_target r.loc) (nat_lt low r.tid) t.0 l) q.1) (wider_low rs p.1)

  -- records of the first steps, and those of the next ones
  pub next-append : (rs qs : List Record) → AreNext low mid rs → AreNext mid high qs → AreNext low high (rs ++ qs)
  next-append rs qs a b = record {
    rise = rises_both rs qs a.rise a.between b.rise b.between;
    sources = list_all-append (λ r. is_source r.op r.src) rs qs ∙ and_of (list_all (λ r. is_source r.op r.src) rs) (list_all (λ r. is_source r.op r.src) qs) a.sources b.sources;
    between = list_all-append (is_between low high) rs qs ∙ and_of (list_all (is_between low high) rs) (list_all (is_between low high) qs) (wider_high rs a.between) (wider_low qs b.between);
  }

-- ---- up to a step

module _ (t : ℕ) where
  later_too : (r s : Record) → goes_before r s ≡ true → is_upto t r ≡ false → is_upto t s ≡ false
  later_too r s h n = let l = before_le r s h in grind (arith, nat_tests, l, n)

  none_after : (r : Record) (rs : List Record) → rises (r ∷ rs) ≡ true → is_upto t r ≡ false → filter (is_upto t) rs ≡ []
  none_after r [] h n = refl
  none_after r (s ∷ rs) h n =
      let p = and_parts (goes_before r s) (rises (s ∷ rs)) h in
      let m = later_too r s p.0 n in
      ap (λ b. cond b (s ∷ filter (is_upto t) rs) (filter (is_upto t) rs)) m ∙ none_after s rs p.1 m

  front_rises : (r : Record) (rs : List Record) → rises (r ∷ rs) ≡ true → rises (r ∷ filter (is_upto t) rs) ≡ true
  front_rises r [] h = refl
  front_rises r (s ∷ rs) h =
      let p = and_parts (goes_before r s) (rises (s ∷ rs)) h in
      elim (is_upto t s) as (λ b. is_upto t s ≡ b → rises (r ∷ cond b (s ∷ filter (is_upto t) rs) (filter (is_upto t) rs)) ≡ true) [
        | true ↦ λ _. and_of (goes_before r s) (rises (s ∷ filter (is_upto t) rs)) p.0 (front_rises s rs p.1)
        | false ↦ λ n. ap (λ xs. rises (r ∷ xs)) (none_after s rs p.1 n)
      ] refl

  rises_upto : (rs : List Record) → rises rs ≡ true → rises (filter (is_upto t) rs) ≡ true
  rises_upto [] h = refl
  rises_upto (r ∷ rs) h =
      elim (is_upto t r) as (λ b. is_upto t r ≡ b → rises (cond b (r ∷ filter (is_upto t) rs) (filter (is_upto t) rs)) ≡ true) [
        | true ↦ λ _. front_rises r rs h
        | false ↦ λ n. ap rises (none_after r rs h n)
      ] refl

  all_upto : (p : Record → Bool) (rs : List Record) → list_all p rs ≡ true → list_all p (filter (is_upto t) rs) ≡ true
  all_upto p [] h = refl
  all_upto p (r ∷ rs) h =
      let c = and_parts (p r) (list_all p rs) h in
      elim (is_upto t r) as (λ b. list_all p (cond b (r ∷ filter (is_upto t) rs) (filter (is_upto t) rs)) ≡ true) [
        | true ↦ and_of (p r) (list_all p (filter (is_upto t) rs)) c.0 (all_upto p rs c.1)
        | false ↦ all_upto p rs c.1
      ]

  between_upto : (n : ℕ) (rs : List Record) → list_all (is_between 0 n) rs ≡ true → list_all (is_between 0 t) (filter (is_upto t) rs) ≡ true
  between_upto n [] h = refl
  between_upto n (r ∷ rs) h =
      let c = and_parts (is_between 0 n r) (list_all (is_between 0 n) rs) h in
      let front = (and_parts (in_target r.loc && nat_lt 0 r.tid) (nat_lt r.tid (n + 1)) c.0).0 in
      elim (is_upto t r) as (λ b. is_upto t r ≡ b → list_all (is_between 0 t) (cond b (r ∷ filter (is_upto t) rs) (filter (is_upto t) rs)) ≡ true) [
        | true ↦ λ u. and_of (is_between 0 t r) (list_all (is_between 0 t) (filter (is_upto t) rs)) (and_of (in_target r.loc && nat_lt 0 r.tid) (nat_lt r.tid (t + 1)) front u) (between_upto n rs c.1)
        | false ↦ λ _. between_upto n rs c.1
      ] refl

  -- of records of steps up to some Tid, those up to t
  pub next-upto : (n : ℕ) (rs : List Record) → AreNext 0 n rs → AreNext 0 t (filter (is_upto t) rs)
  next-upto n rs a = record { rise = rises_upto rs a.rise; sources = all_upto (λ r. is_source r.op r.src) rs a.sources; between = between_upto n rs a.between }

-- ---- what the history leads to

module _ (right : Bool) (h : List Entry) (items : List Item) (kept : Kept) (k : HasVersions right h items kept) (t : ℕ) (z : State) (is : version h t ≡ Some z) (there : t < length kept.archive) where
  within : t ≤ k.state.now
  within = let counted = k.versions.count in omega (arith, counted, there)

  after : IsAfterStep k.state z t
  after = let v = versions-are-states h k.state t k.legal k.replayed within in subst (λ (y : State). IsAfterStep k.state y t) (same_Some v.0 z (sym v.1 ∙ is)) v.2

  -- the tree that is kept of it
  pub version-tree : (tree : Tree) → slice_get kept.archive t ≡ Some tree → tree_of z.tree ≡ tree
  version-tree tree found = same_Some (tree_of z.tree) tree (sym (k.versions.each t z within is) ∙ found)

module _ (h : List Entry) (items : List Item) (kept : Kept) (k : HasVersions true h items kept) (t : ℕ) (z : State) (is : version h t ≡ Some z) (there : t < length kept.archive) where
  -- the rows that are kept of it
  pub version-rows : z.rows ≡ filter (is_upto t) kept.rows
  version-rows = (after true h items kept k t z is there).rows ∙ ap (filter (is_upto t)) (sym (k.rows refl))

  -- a legal history leads there
  pub version-committed : (kind : Kind) (n : ℕ) (tree : Tree) → kind ≡ kept.kind → n ≡ t → slice_get kept.archive t ≡ Some tree → IsCommitted kind n z.rows tree z
  unfolding version
  version-committed kind n tree of_kind upto found = record {
    history = history_upto h t;
    legal = versions-are-legal h t k.legal;
    replayed = is;
    kind = (after true h items kept k t z is there).kind ∙ sym k.of_kind ∙ sym of_kind;
    now = (after true h items kept k t z is there).now ∙ sym upto;
    rows = refl;
    tree = version-tree true h items kept k t z is there tree found;
  }
