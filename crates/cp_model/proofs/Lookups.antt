-- What a tree answers at a path after a change.
use Rattle.std.specs.Prelude.{◌≡◌, Bool, true, false, cond, not, ◌&&◌, List, [], ◌∷◌, ◌++◌, refl, is_some}
use Rattle.std.proofs.Common.{sym, ap, ◌∙◌}
use Rattle.std.specs.List.{filter_map, cons_option}
use Rattle.std.specs.declared.option.Option.{Option}
use Rattle.std.specs.declared.option.Option.TheVariants.{None, Some}
use Rattle.cp_model.specs.Place.{Path, path_eq, label_eq, strip, starts_with, option_map, or_else}
use Rattle.cp_path.proofs.Same.{path_eq-same}
use Rattle.cp_path.specs.PathOrder.{path_eq_equiv}
use Rattle.cp_model.proofs.KeyedLemmas.{get-put_all, get-entries, get-empty, get-retain_keys}
use Rattle.cp_model.specs.Keyed as keyed
use Rattle.cp_model.specs.Keyed.{look, Keyed}
use Rattle.cp_model.specs.Subtrees.{below, entries_under, without, with_subtree, entry_below, with_values, map_values}
use Rattle.cp_model.specs.Laws.{at_rest_or}

-- equal paths are equal the other way round
pub path_eq-sym : (p q : Path) → path_eq p q ≡ path_eq q p
path_eq-sym = path_eq_equiv.symm

and_is : (a b : Bool) → (a && b) ≡ cond a b false
and_is true b = refl
and_is false b = refl

-- whether the rest is s, if there is a rest
abbrev pub rest_is : Option Path → Path → Bool
rest_is None s = false
rest_is (Some r) s = path_eq s r

cond_rest : (b : Bool) (o : Option Path) (s : Path) → cond b (rest_is o s) false ≡ rest_is (cond b o None) s
cond_rest true o s = refl
cond_rest false o s = refl

-- a path is q and s after it where s is what follows q in it
pub path_eq-append : (q s r : Path) → path_eq (q ++ s) r ≡ rest_is (strip q r) s
path_eq-append [] s r = refl
path_eq-append (a ∷ q) s [] = refl
path_eq-append (a ∷ q) s (b ∷ r) =
    and_is (label_eq a b) (path_eq (q ++ s) r) ∙ ap (λ c. cond (label_eq a b) c false) (path_eq-append q s r) ∙ cond_rest (label_eq a b) (strip q r) s

-- a path starts with p where something follows p in it
pub starts_with-strip : (r p : Path) → starts_with r p ≡ is_some (strip p r)
starts_with-strip r [] = refl
starts_with-strip [] (a ∷ p) = refl
starts_with-strip (b ∷ r) (a ∷ p) =
    elim (label_eq a b) as (λ c. cond c (starts_with r p) false ≡ is_some (cond c (strip p r) None)) [ true ↦ starts_with-strip r p | false ↦ refl ]

-- nothing after an option changes nothing
pub or_none : {X : Type 0} (o : Option X) → or_else o None ≡ o
or_none None = refl
or_none (Some x) = refl

found_below : {X : Type 0} (o : Option Path) (s : Path) (x : X) (rest : List (Path × X)) → look s (cons_option (option_map (λ r. (r, x)) o) rest) ≡ cond (rest_is o s) (Some x) (look s rest)
found_below None s x rest = refl
found_below (Some r) s x rest = refl

module _ {X : Type 0} where
  -- among the entries below q, seen from q, s is what q and s is among all
  pub find_below : (q s : Path) (es : List (Path × X)) → look s (filter_map (entry_below q) es) ≡ look (q ++ s) es
  find_below q s [] = refl
  find_below q s (e ∷ es) =
      found_below (strip q e.0) s e.1 (filter_map (entry_below q) es)
      ∙ ap (λ b. cond b (Some e.1) (look s (filter_map (entry_below q) es))) (sym (path_eq-append q s e.0))
      ∙ ap (cond (path_eq (q ++ s) e.0) (Some e.1)) (find_below q s es)

  -- what the subtree at q has at s, the tree has at q and s
  pub find-below : (q s : Path) (m : Keyed X) → look s (below q m) ≡ keyed.get m (q ++ s)
  unfolding below
  find-below q s m = find_below q s (keyed.entries m) ∙ sym (get-entries m (q ++ s))

  moved_case : (o : Option Path) (k : Path) (x : X) (f : Path → Option X) → cond (rest_is o k) (Some x) (at_rest_or o f None) ≡ at_rest_or o (λ s. cond (path_eq s k) (Some x) (f s)) None
  moved_case None k x f = refl
  moved_case (Some s) k x f = ap (λ b. cond b (Some x) (f s)) (path_eq-sym k s)

  placed_none : (o : Option Path) → at_rest_or {X = X} o (λ _. None) None ≡ None
  placed_none None = refl
  placed_none (Some s) = refl

  without_case : (o : Option Path) (v : Option X) → cond (not (is_some o)) v None ≡ at_rest_or o (λ _. None) v
  without_case None v = refl
  without_case (Some s) v = refl

  replaced_case : (o : Option Path) (f : Path → Option X) (v : Option X) → or_else (at_rest_or o f None) (at_rest_or o (λ _. None) v) ≡ at_rest_or o f v
  replaced_case None f v = refl
  replaced_case (Some s) f v = or_none (f s)

  -- entries behind p answer by what follows p
  pub find-moved : (p r : Path) (es : List (Path × X)) → look r (entries_under p es) ≡ at_rest_or (strip p r) (λ s. look s es) None
  unfolding entries_under
  find-moved p r [] = sym (placed_none (strip p r))
  find-moved p r (e ∷ es) =
      ap (λ b. cond b (Some e.1) (look r (entries_under p es))) (path_eq-sym r (p ++ e.0) ∙ path_eq-append p e.0 r)
      ∙ ap (cond (rest_is (strip p r) e.0) (Some e.1)) (find-moved p r es)
      ∙ moved_case (strip p r) e.0 e.1 (λ s. look s es)

  -- without p there is nothing at or below p, and all else is as before
  pub get-without : (p : Path) (m : Keyed X) (r : Path) → keyed.get (without p m) r ≡ at_rest_or (strip p r) (λ _. None) (keyed.get m r)
  unfolding without
  get-without p m r =
      get-retain_keys m (λ k. not (starts_with k p)) r
      ∙ ap (λ b. cond (not b) (keyed.get m r) None) (starts_with-strip r p)
      ∙ without_case (strip p r) (keyed.get m r)

  -- where the subtree at p is replaced, the entries answer at and below p, and all else is as before
  pub get-replaced : (p : Path) (es : List (Path × X)) (m : Keyed X) (r : Path) → keyed.get (with_subtree p es m) r ≡ at_rest_or (strip p r) (λ s. look s es) (keyed.get m r)
  unfolding with_subtree
  get-replaced p es m r =
      get-put_all (entries_under p es) (without p m) r
      ∙ ap (λ o. or_else o (keyed.get (without p m) r)) (find-moved p r es)
      ∙ ap (or_else (at_rest_or (strip p r) (λ s. look s es) None)) (get-without p m r)
      ∙ replaced_case (strip p r) (λ s. look s es) (keyed.get m r)

module _ {X Y : Type 0} where
  -- a value made of each entry is found at the entry's path
  pub find-with_values : (f : Path → X → Y) (q : Path) (es : List (Path × X)) → look q (with_values f es) ≡ option_map (f q) (look q es)
  find-with_values f q [] = refl
  find-with_values f q (e ∷ es) =
      elim (path_eq q e.0) as (λ b. path_eq q e.0 ≡ b → cond b (Some (f e.0 e.1)) (look q (with_values f es)) ≡ option_map (f q) (cond b (Some e.1) (look q es))) [
        | true ↦ λ b. ap (λ k. Some (f k e.1)) (sym (path_eq-same q e.0 b))
        | false ↦ λ _. find-with_values f q es
      ] refl

  -- a mapped tree has at each path what is made of the old value there
  pub get-mapped : (f : Path → X → Y) (m : Keyed X) (q : Path) → keyed.get (map_values f m) q ≡ option_map (f q) (keyed.get m q)
  get-mapped f m q =
      get-put_all (with_values f (keyed.entries m)) keyed.empty q
      ∙ ap (λ o. or_else (look q (with_values f (keyed.entries m))) o) (get-empty q)
      ∙ or_none (look q (with_values f (keyed.entries m)))
      ∙ find-with_values f q (keyed.entries m)
      ∙ ap (option_map (f q)) (sym (get-entries m q))

  some_mapped : (f : X → Y) (o : Option X) → is_some (option_map f o) ≡ is_some o
  some_mapped f None = refl
  some_mapped f (Some x) = refl

  -- what is mapped is there where it was
  pub there-mapped : (f : Path → X → Y) (m : Keyed X) (q : Path) → is_some (keyed.get (map_values f m) q) ≡ is_some (keyed.get m q)
  there-mapped f m q = ap is_some (get-mapped f m q) ∙ some_mapped (f q) (keyed.get m q)

-- the rows of a literal are found in the tree that they make
pub find-from_entries : {X : Type 0} (es : List (Path × X)) (q : Path) → keyed.get (keyed.from_entries es) q ≡ look q es
find-from_entries es q = get-put_all es keyed.empty q ∙ ap (or_else (look q es)) (get-empty q) ∙ or_none (look q es)
