-- Pages of a run that aren't pages of rows, where a call meets them.
use Rattle.std.proofs.Common.{arith, ◌≡◌, ◌<◌, ◌+◌, ◌*◌, ◌∙◌, inl, inr, refl, subst, sym, ℕ, zero, suc, List, [], ◌∷◌, ◌++◌, Contains, Option, Some, None, Err, IsErrOf}
use Rattle.std.proofs.lemmas.List.Elements.{Contains-append_left, Contains-append_right}
use Rattle.cp_page.specs.Keys.{first_key}
use Rattle.cp_page.specs.Rows.{rows_of}
use Rattle.cp_page.specs.declared.page.TheConstants.{PAGE_SIZE}
use Rattle.cp_page.specs.declared.row.PageRow.{PageRow}
use Rattle.cp_page.proofs.Firsts.{first_keys_are_of_rows}
use Rattle.cp_run.specs.Bad.{IsNoPage, IsBadPage, IsBadAmong, NoneIsBad}
use Rattle.cp_run.specs.Holding.{page_at, HaveRows}
use Rattle.cp_run.specs.declared.fault.RunFault.{RunFault}
use Rattle.cp_run.specs.declared.run.Run.{Run}

first_or_none : (bytes : List ℕ) (o : Option (List PageRow)) → rows_of bytes ≡ o → first_key bytes ≡ None → o ≡ None
first_or_none bytes None is none = refl
first_or_none bytes (Some rows) is none = absurd (let h = first_keys_are_of_rows bytes rows is in cc)

-- where the bytes don't have the key of a first row, they are no page of rows
pub no_first_key : (bytes : List ℕ) → first_key bytes ≡ None → rows_of bytes ≡ None
no_first_key bytes none = first_or_none bytes (rows_of bytes) refl none

-- the page of this number of the run is none of rows
pub bad_page : (content now : List ℕ) (run : Run) (i n at : ℕ) → now ≡ content → i < run.pages → at ≡ run.at + i * PAGE_SIZE → n ≡ at → IsNoPage now at → IsBadPage content run n
bad_page content now run i n at same within is at_n bad = record {
  number = i;
  within = within;
  place = at_n ∙ is;
  bad = subst (λ f. IsNoPage f n) same (subst (IsNoPage now) (sym at_n) bad);
}

pub bad_same : (content now : List ℕ) (run : Run) (n : ℕ) → now ≡ content → IsBadPage now run n → IsBadPage content run n
bad_same content now run n same bad = subst (λ f. IsBadPage f run n) same bad

-- one run's, where the file's bytes are the same
pub bad_of_one : (content now : List ℕ) (runs : List Run) (run : Run) (n : ℕ) → now ≡ content → runs ≡ run ∷ [] → IsBadPage now run n → IsBadAmong content runs n
bad_of_one content now runs run n same is bad = record {
  run = run;
  among = subst (λ (l : List Run). Contains l run) (sym is) (Contains-append_right [] (run ∷ []) run (0, omega arith, refl));
  page = subst (λ f. IsBadPage f run n) same bad;
}

pub bad_more : (content now : List ℕ) (runs some before after : List Run) (n : ℕ) → now ≡ content → runs ≡ (before ++ some) ++ after → IsBadAmong now some n → IsBadAmong content runs n
bad_more content now runs some before after n same is bad = record {
  run = bad.run;
  among = subst (λ (l : List Run). Contains l bad.run) (sym is) (Contains-append_left (before ++ some) after bad.run (Contains-append_right before some bad.run bad.among));
  page = subst (λ f. IsBadPage f bad.run n) same bad.page;
}

none_some : {X : Type 0} (o : Option X) (x : X) → o ≡ Some x → o ≡ None → ⊥
none_some o x some none = cc

-- each page of so many that have rows is whole and one of rows
no_page : (content : List ℕ) (at n i : ℕ) → HaveRows content at n → i < n → IsNoPage content (at + i * PAGE_SIZE) → ⊥
no_page content at zero i has l bad = omega (arith, l)
no_page content at (suc n) zero has l bad =
    let here : at + 0 * PAGE_SIZE ≡ at = omega arith in
    let whole = has.0.whole in
    elim (subst (IsNoPage content) here bad) [
      | inl cut ↦ omega (arith, cut, whole)
      | inr other ↦ none_some (rows_of (page_at content at)) (has.0.first ∷ has.0.more) has.0.rows other
    ]
no_page content at (suc n) (suc i) has l bad =
    let on : at + suc i * PAGE_SIZE ≡ at + PAGE_SIZE + i * PAGE_SIZE = omega arith in
    no_page content (at + PAGE_SIZE) n i has.1 (omega (arith, l)) (subst (IsNoPage content) on bad)

pub none_is_bad : NoneIsBad
none_is_bad content run at has bad = no_page content run.at run.pages bad.number has.pages bad.within (subst (IsNoPage content) bad.place bad.bad)

pub fault_of_page : {T : Type 0} (e f : RunFault) → IsErrOf {T = T} {E = RunFault} (Err e) f → e ≡ f
fault_of_page e f is = cc
