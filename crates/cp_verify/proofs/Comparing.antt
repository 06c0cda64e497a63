-- Two lists of records, gone through side by side.
use Rattle.std.specs.Prelude.{ℕ, zero, suc, ◌≡◌, ◌<◌, ◌≤◌, ◌+◌, true, false, List, [], ◌∷◌, ◌++◌, length, take, drop, is_some, MatchOption, refl}
use Rattle.std.proofs.Common.{sym, ap, subst, ◌∙◌, arith}
use Rattle.std.proofs.lemmas.List.{take_all}
use Rattle.std.specs.List.{slice_get}
use Rattle.std.specs.declared.option.Option.{Option}
use Rattle.std.specs.declared.option.Option.TheVariants.{None, Some}
use Rattle.cp_model.specs.declared.record.Record.{Record}
use Rattle.cp_verify.specs.Verify.{FirstDiffer, IsDifference}

-- the first n of both are the same, and these are the others of each
pub record AgreeSoFar (stored expected : List Record) (n : ℕ) (ours theirs : List Record) : Type 0 where
  pub within : n ≤ length stored
  pub same : take n stored ≡ take n expected
  pub ours_are : ours ≡ drop n stored
  pub theirs_are : theirs ≡ drop n expected

-- ---- one list

get-dropped : (rs : List Record) (n : ℕ) → slice_get rs n ≡ slice_get (drop n rs) 0
get-dropped [] zero = refl
get-dropped [] (suc n) = refl
get-dropped (r ∷ rs) zero = refl
get-dropped (r ∷ rs) (suc n) = get-dropped rs n

drop-next : (rs : List Record) (n : ℕ) (r : Record) (rest : List Record) → drop n rs ≡ r ∷ rest → drop (suc n) rs ≡ rest
drop-next [] zero r rest e = absurd (cc)
drop-next [] (suc n) r rest e = absurd (cc)
drop-next (q ∷ rs) zero r rest e = cc
drop-next (q ∷ rs) (suc n) r rest e = drop-next rs n r rest e

take-next : (rs : List Record) (n : ℕ) (r : Record) (rest : List Record) → drop n rs ≡ r ∷ rest → take (suc n) rs ≡ take n rs ++ r ∷ []
take-next [] zero r rest e = absurd (cc)
take-next [] (suc n) r rest e = absurd (cc)
take-next (q ∷ rs) zero r rest e = ap (λ (l : List Record). take 1 l) e
take-next (q ∷ rs) (suc n) r rest e = ap (λ (l : List Record). q ∷ l) (take-next rs n r rest e)

none-dropped : (rs : List Record) (n : ℕ) → drop n rs ≡ [] → take n rs ≡ rs
none-dropped [] zero e = refl
none-dropped [] (suc n) e = refl
none-dropped (q ∷ rs) zero e = absurd (cc)
none-dropped (q ∷ rs) (suc n) e = ap (λ (l : List Record). q ∷ l) (none-dropped rs n e)

some-dropped : (rs : List Record) (n : ℕ) → n < length rs → drop n rs ≡ [] → ⊥
some-dropped [] n h e = omega (arith, h)
some-dropped (q ∷ rs) zero h e = cc
some-dropped (q ∷ rs) (suc n) h e = some-dropped rs n (omega (arith, h)) e

-- what is next of the others is the record at the position
pub next-is : (rs : List Record) (n : ℕ) (old new : List Record) (o : Option Record) → old ≡ drop n rs → MatchOption o (old ≡ []) (λ r. old ≡ r ∷ new) → o ≡ slice_get rs n
next-is rs n old new None at next = sym (get-dropped rs n ∙ ap (λ (l : List Record). slice_get l 0) (sym at ∙ next))
next-is rs n old new (Some r) at next = sym (get-dropped rs n ∙ ap (λ (l : List Record). slice_get l 0) (sym at ∙ next))

none-next : (t : Option Record) (theirs others : List Record) → MatchOption t (theirs ≡ []) (λ r. theirs ≡ r ∷ others) → is_some t ≡ false → theirs ≡ []
none-next None theirs others next e = next
none-next (Some r) theirs others next e = absurd (cc)

-- ---- both

module _ (stored expected : List Record) (n : ℕ) (ours theirs : List Record) (s : AgreeSoFar stored expected n ours theirs) (o t : Option Record) (more others : List Record)
    (our_next : MatchOption o (ours ≡ []) (λ r. ours ≡ r ∷ more)) (their_next : MatchOption t (theirs ≡ []) (λ r. theirs ≡ r ∷ others)) where
  our_is : o ≡ slice_get stored n
  our_is = next-is stored n ours more o s.ours_are our_next

  their_is : t ≡ slice_get expected n
  their_is = next-is expected n theirs others t s.theirs_are their_next

  -- the next two differ
  pub differ-here : (o ≡ t → ⊥) → IsDifference stored expected (Some n)
  differ-here h = record { position = n; same = s.same; in_stored = refl; in_expected = refl; differ = λ e. h (our_is ∙ e ∙ sym their_is) }

-- the next two are the same
pub agree-here : (stored expected : List Record) (n : ℕ) (ours theirs : List Record) → AgreeSoFar stored expected n ours theirs → (o t : Option Record) (more others : List Record)
    → MatchOption o (ours ≡ []) (λ r. ours ≡ r ∷ more) → MatchOption t (theirs ≡ []) (λ r. theirs ≡ r ∷ others) → n < length stored → o ≡ t → AgreeSoFar stored expected (n + 1) more others
agree-here stored expected n ours theirs s None t more others our their lt e = absurd (some-dropped stored n lt (sym s.ours_are ∙ our))
agree-here stored expected n ours theirs s (Some r) None more others our their lt e = absurd (cc)
agree-here stored expected n ours theirs s (Some r) (Some q) more others our their lt e =
    let same : r ≡ q = cc in
    let ours_at : drop n stored ≡ r ∷ more = sym s.ours_are ∙ our in
    let theirs_at : drop n expected ≡ q ∷ others = sym s.theirs_are ∙ their in
    let one_more : suc n ≡ n + 1 = omega arith in
    subst (λ k. AgreeSoFar stored expected k more others) one_more (record {
      within = omega (arith, lt);
      same = take-next stored n r more ours_at ∙ ap (λ (l : List Record). l ++ r ∷ []) s.same ∙ ap (λ (x : Record). take n expected ++ x ∷ []) same ∙ sym (take-next expected n q others theirs_at);
      ours_are = sym (drop-next stored n r more ours_at);
      theirs_are = sym (drop-next expected n q others theirs_at);
    })

module _ (stored expected : List Record) (n : ℕ) (ours theirs : List Record) (s : AgreeSoFar stored expected n ours theirs) (all : length stored ≤ n) (t : Option Record) (others : List Record)
    (their_next : MatchOption t (theirs ≡ []) (λ r. theirs ≡ r ∷ others)) where
  stored_none : (rs : List Record) (k : ℕ) → length rs ≤ k → slice_get rs k ≡ None
  stored_none [] k le = refl
  stored_none (r ∷ rs) zero le = absurd (omega (arith, le))
  stored_none (r ∷ rs) (suc k) le = stored_none rs k (omega (arith, le))

  -- the other list goes on
  pub differ-behind : (count : ℕ) → count ≡ length stored → is_some t ≡ true → IsDifference stored expected (Some count)
  differ-behind count e some =
      let is : n ≡ count = omega (arith, all, s.within, e) in
      let their_is = next-is expected n theirs others t s.theirs_are their_next in
      let differ : slice_get stored n ≡ slice_get expected n → ⊥ = λ f. let no : false ≡ true = sym (ap is_some (their_is ∙ sym f ∙ stored_none stored n all)) ∙ some in absurd (cc no) in
      subst (λ k. IsDifference stored expected (Some k)) is (record { position = n; same = s.same; in_stored = refl; in_expected = refl; differ = differ })

  -- neither goes on
  pub same-all : is_some t ≡ false → IsDifference stored expected None
  same-all e = sym (take_all n stored all) ∙ s.same ∙ none-dropped expected n (sym s.theirs_are ∙ none-next t theirs others their_next e)
