-- Packed rows that are kept one after another.
use Rattle.std.proofs.Common.{◌≡◌, ℕ, ◌+◌, ◌≤◌, ◌<◌, List, [], ◌∷◌, ◌++◌, true, refl, sym, ap, subst, ◌∙◌, append_assoc, append-nil, length, length-append, take, get_or, arith}
use Rattle.std.specs.Prelude.{nat_lt}
use Rattle.std.specs.List.{list_all}
use Rattle.std.proofs.lemmas.List.{take_at}
use Rattle.cp_model.specs.declared.record.Record.{Record}
use Rattle.cp_model.specs.Changes.{goes_before, AreNext}
use Rattle.cp_store.proofs.Before.{all-before, next-le}

-- of these rows some are kept, behind those that were there, and the rest are still to come
pub record KeepsSome (old now rows rest : List Record) : Type 0 where
  pub seen : List Record
  pub all : rows ≡ seen ++ rest
  pub list : now ≡ old ++ seen

-- none is kept yet
pub keeps-none : (old rows rest : List Record) → rest ≡ rows → KeepsSome old old rows rest
keeps-none old rows rest e = record { seen = []; all = sym e; list = sym (append-nil old) }

-- all are kept
pub keeps-all : (old now rows rest : List Record) → rest ≡ [] → KeepsSome old now rows rest → now ≡ old ++ rows
keeps-all old now rows rest e k = k.list ∙ ap (λ (l : List Record). old ++ l) (sym (k.all ∙ ap (λ (l : List Record). k.seen ++ l) e ∙ append-nil k.seen))

get-seen : (seen rest : List Record) (r d : Record) → get_or (seen ++ r ∷ rest) (length seen) d ≡ r
get-seen [] rest r d = refl
get-seen (s ∷ seen) rest r d = get-seen seen rest r d

module _ (old now rows here rest : List Record) (r : Record) (next : here ≡ r ∷ rest) (k : KeepsSome old now rows here) where
  all_is : rows ≡ k.seen ++ r ∷ rest
  all_is = k.all ∙ ap (λ (l : List Record). k.seen ++ l) next

  -- one more is kept
  pub keeps-more : (new : List Record) → new ≡ now ++ r ∷ [] → KeepsSome old new rows rest
  keeps-more new e = record {
    seen = k.seen ++ r ∷ [];
    all = all_is ∙ sym (append_assoc k.seen (r ∷ []) rest);
    list = e ∙ ap (λ (l : List Record). l ++ r ∷ []) k.list ∙ append_assoc old k.seen (r ∷ []);
  }

  module _ (low high : ℕ) (are : AreNext low high rows) where
    within : length k.seen < length rows
    within = let size : length rows ≡ length k.seen + length (r ∷ rest) = ap length all_is ∙ length-append k.seen (r ∷ rest) in omega (arith, size)

    at : get_or rows (length k.seen) r ≡ r
    at = ap (λ (l : List Record). get_or l (length k.seen) r) all_is ∙ get-seen k.seen rest r r

    front : take (length k.seen) rows ≡ k.seen
    front = ap (take (length k.seen)) all_is ∙ take_at k.seen (r ∷ rest) (length k.seen) refl

    -- the next is of no later step than the last
    pub next-within : r.tid ≤ high
    next-within = subst (λ (s : Record). s.tid ≤ high) at (next-le low high rows (length k.seen) r are within)

    -- all that are kept go before it
    pub next-behind : list_all (λ s. nat_lt s.tid (low + 1)) old ≡ true → list_all (λ s. goes_before s r) now ≡ true
    next-behind none_later =
        subst (λ (l : List Record). list_all (λ s. goes_before s r) l ≡ true) (ap (λ (l : List Record). old ++ l) front ∙ sym k.list)
        (subst (λ (s : Record). list_all (λ q. goes_before q s) (old ++ take (length k.seen) rows) ≡ true) at (all-before low high rows old (length k.seen) r are none_later within))
