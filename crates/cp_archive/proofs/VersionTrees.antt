-- The trees of the versions that the phases make.
use Rattle.std.specs.Prelude.{ℕ, suc, zero, ◌+◌, ◌≡◌, ◌≤◌, ◌<◌, Bool, true, false, cond, List, [], ◌∷◌, ◌++◌, length, fold, is_some, nat_lt, refl, if◌then◌else◌}
use Rattle.std.proofs.Common.{sym, ap, ◌∙◌, arith, length-append}
use Rattle.std.specs.List.{filter_map, cons_option, slice_get}
use Rattle.std.specs.Global.{Vec}
use Rattle.std.specs.Option.{option_map, option_copied, unwrap_or}
use Rattle.std.proofs.lemmas.Option.{slice_get_past}
use denote.Bor.{Bor}
use Rattle.std.specs.declared.option.Option.{Option}
use Rattle.std.specs.declared.option.Option.TheVariants.{None, Some}
use Rattle.std.proofs.lemmas.Bool.Decides.{nat_tests}
use Rattle.std.proofs.lemmas.List.Sums.{fold-append}
use Rattle.cp_path.proofs.Same.{path_eq-same}
use Rattle.cp_model.specs.Place.{Path, path_eq}
use Rattle.cp_model.specs.Keyed as keyed
use Rattle.cp_model.specs.Keyed.{look}
use Rattle.cp_model.specs.Tree.{Tree}
use Rattle.cp_model.specs.declared.row.Content.{Content}
use Rattle.cp_model.proofs.KeyedLemmas.{same_map}
use Rattle.cp_model.proofs.Lookups.{find-from_entries}
use Rattle.cp_archive.specs.declared.phase.Phase.{Phase}
use Rattle.cp_archive.specs.declared.difference.Difference.{Difference}
use Rattle.cp_archive.specs.Phases.{Paths, then_phase, content_at, phases_of, content_of, tree_of_version, versions}
use Rattle.cp_archive.specs.Notes.{HasSamePhases, AreNoted, phase_at, phases_at}
use Rattle.cp_archive.specs.Trees.{newest_after, newest, there_if, is_there_in}
use Rattle.cp_archive.proofs.PhaseLemmas.{later-phase, no-phase}

-- ---- one version

module _ (m : Paths) (t : ℕ) where
  abbrev pub entry_of : Path × Vec Phase → Option (Path × Content)
  entry_of e = option_map (λ c. (e.0, c)) (content_of m t e.0)

  abbrev if_key : Bool → Path → Option Content
  if_key b p = if b then content_of m t p else None

  at_key : (p : Path) (o : Option Content) (k : Path) (b : Bool) (rest : List (Path × Content)) → path_eq p k ≡ true → look p rest ≡ (if b then o else None) → look p (cons_option (option_map (λ c. (k, c)) o) rest) ≡ o
  at_key p None k true rest e h = h
  at_key p None k false rest e h = h
  at_key p (Some c) k b rest e h = ap (λ d. cond d (Some c) (look p rest)) e

  off_key : (p : Path) (o : Option Content) (k : Path) (rest : List (Path × Content)) → path_eq p k ≡ false → look p (cons_option (option_map (λ c. (k, c)) o) rest) ≡ look p rest
  off_key p None k rest e = refl
  off_key p (Some c) k rest e = ap (λ d. cond d (Some c) (look p rest)) e

  found_entry : (p : Path) (es : List (Path × Vec Phase)) → look p (filter_map entry_of es) ≡ if_key (is_some (look p es)) p
  found_entry p [] = refl
  found_entry p (e ∷ es) =
      elim (path_eq p e.0) as (λ b. path_eq p e.0 ≡ b → look p (cons_option (option_map (λ c. (e.0, c)) (content_of m t e.0)) (filter_map entry_of es)) ≡ if_key (is_some (cond b (Some e.1) (look p es))) p) [
        | true ↦ λ h.
            let same : p ≡ e.0 = path_eq-same p e.0 h in
            at_key p (content_of m t e.0) e.0 (is_some (look p es)) (filter_map entry_of es) h (found_entry p es ∙ ap (λ q. if is_some (look p es) then content_of m t q else None) same) ∙ ap (content_of m t) (sym same)
        | false ↦ λ h. off_key p (content_of m t e.0) e.0 (filter_map entry_of es) h ∙ found_entry p es
      ] refl

  key_or_not : (p : Path) → if_key (is_some (look p m.entries)) p ≡ content_of m t p
  unfolding phases_of
  key_or_not p = elim (look p m.entries) as (λ o. look p m.entries ≡ o → if_key (is_some o) p ≡ content_of m t p) [
    | Some v ↦ λ _. refl
    | None ↦ λ h. sym (no-phase t) ∙ ap (λ o. content_at (unwrap_or (option_map (λ (v : Vec Phase). v.items) o) []) t) (sym h)
  ] refl

  -- the tree of a version has at each path what its phases say
  pub version-get : (p : Path) → keyed.get (tree_of_version m t) p ≡ content_of m t p
  unfolding tree_of_version
  version-get p = find-from_entries (filter_map entry_of m.entries) p ∙ found_entry p m.entries ∙ key_or_not p

-- the same phases make the same tree
pub version-same : (m k : Paths) → HasSamePhases m k → (t : ℕ) → tree_of_version k t ≡ tree_of_version m t
version-same m k h t = same_map (tree_of_version k t) (tree_of_version m t) (λ p. version-get k t p ∙ ap (λ xs. content_at xs t) (h p) ∙ sym (version-get m t p))

-- ---- all versions

pub versions-same : (m k : Paths) (n : ℕ) → ((t : ℕ) → t ≤ n → tree_of_version k t ≡ tree_of_version m t) → versions k n ≡ versions m n
versions-same m k zero h = ap (λ x. x ∷ []) (h 0 (omega arith))
versions-same m k (suc n) h = ap (λ xs. xs ++ tree_of_version k (suc n) ∷ []) (versions-same m k n (λ t l. h t (omega (arith, l)))) ∙ ap (λ x. versions m n ++ x ∷ []) (h (suc n) (omega arith))

pub versions-length : (m : Paths) (n : ℕ) → length (versions m n) ≡ n + 1
versions-length m zero = refl
versions-length m (suc n) = let a = length-append (versions m n) (tree_of_version m (suc n) ∷ []) in let b = versions-length m n in omega (arith, a, b)

get_left : (xs : List Tree) (y : Tree) (i : ℕ) → i < length xs → slice_get (xs ++ y ∷ []) i ≡ slice_get xs i
get_left [] y i l = absurd (omega (arith, l))
get_left (x ∷ xs) y zero l = refl
get_left (x ∷ xs) y (suc i) l = get_left xs y i (omega (arith, l))

get_end : (xs : List Tree) (y : Tree) (i : ℕ) → i ≡ length xs → slice_get (xs ++ y ∷ []) i ≡ Some y
get_end [] y zero e = refl
get_end [] y (suc i) e = absurd (omega (arith, e))
get_end (x ∷ xs) y zero e = absurd (omega (arith, e))
get_end (x ∷ xs) y (suc i) e = get_end xs y i (omega (arith, e))

-- each version up to the last is there
pub versions-at : (m : Paths) (n t : ℕ) → t ≤ n → slice_get (versions m n) t ≡ Some (tree_of_version m t)
versions-at m zero zero l = refl
versions-at m zero (suc t) l = absurd (omega (arith, l))
versions-at m (suc n) t l =
    let long = versions-length m n in
    elim (nat_lt t (suc n)) as (λ b. nat_lt t (suc n) ≡ b → slice_get (versions m n ++ tree_of_version m (suc n) ∷ []) t ≡ Some (tree_of_version m t)) [
      | true ↦ λ h. let less : t < suc n = grind (arith, nat_tests, h) in get_left (versions m n) (tree_of_version m (suc n)) t (omega (arith, less, long)) ∙ versions-at m n t (omega (arith, less))
      | false ↦ λ h. let same : t ≡ suc n = (let no : suc n ≤ t = grind (arith, nat_tests, h) in omega (arith, no, l)) in get_end (versions m n) (tree_of_version m (suc n)) t (omega (arith, same, long)) ∙ ap (λ i. Some (tree_of_version m i)) (sym same)
    ] refl

-- the newest of trees with one more is that one
pub newest-more : (t : Tree) (us : List Tree) (x : Tree) → newest_after t (us ++ x ∷ []) ≡ x
newest-more t [] x = refl
newest-more t (u ∷ us) x = newest-more u us x

pub newest-version : (m : Paths) (n : ℕ) → newest (versions m n) ≡ tree_of_version m n
newest-version m zero = refl
newest-version m (suc n) = newest-more keyed.empty (versions m n) (tree_of_version m (suc n))

-- ---- phases of a later version

later_one : (t v : ℕ) (p : Path) (d : Difference) (o : Option Content) → t < v → fold (then_phase t) o (phase_at v p d) ≡ o
later_one t v p d o l = elim (path_eq p d.path) as (λ b. fold (then_phase t) o (if b then record { since = v; content = d.content } ∷ [] else []) ≡ o) [
  | true ↦ later-phase t o (record { since = v; content = d.content }) l
  | false ↦ refl
]

later_all : (t v : ℕ) (p : Path) (ds : List Difference) (o : Option Content) → t < v → fold (then_phase t) o (phases_at v p ds) ≡ o
later_all t v p [] o l = refl
later_all t v p (d ∷ ds) o l = fold-append (then_phase t) o (phase_at v p d) (phases_at v p ds) ∙ ap (λ c. fold (then_phase t) c (phases_at v p ds)) (later_one t v p d o l) ∙ later_all t v p ds o l

-- phases of a later version leave the earlier ones as they are
pub version-before : (m k : Paths) (v : ℕ) (ds : List Difference) → AreNoted m k v ds → (t : ℕ) → t < v → tree_of_version k t ≡ tree_of_version m t
unfolding content_at
version-before m k v ds h t l =
    same_map (tree_of_version k t) (tree_of_version m t) (λ p.
    version-get k t p
    ∙ ap (fold (then_phase t) None) (h p)
    ∙ fold-append (then_phase t) None (phases_of m p) (phases_at v p ds)
    ∙ later_all t v p ds (content_of m t p) l
    ∙ sym (version-get m t p))

-- ---- what is there in a version

-- a path is there in a version up to the last where its phases say so
pub there-at : (m : Paths) (n t : ℕ) (p : Path) → t ≤ n → is_some (content_of m t p) ≡ is_there_in (versions m n) t p
there-at m n t p l = ap is_some (sym (version-get m t p)) ∙ ap (λ o. there_if o p) (sym (versions-at m n t l))

-- and nowhere after it
pub not-there : (m : Paths) (n t : ℕ) (p : Path) → n < t → is_there_in (versions m n) t p ≡ false
not-there m n t p l = let long = versions-length m n in ap (λ o. there_if o p) (slice_get_past (versions m n) t (omega (arith, long, l)))

pub some-copied : {X : Type 0} (o : Option (Bor X)) → is_some o ≡ is_some (option_copied o)
some-copied None = refl
some-copied (Some x) = refl

-- a map without entries has no phases
pub no-entries : (m : Paths) → m.entries ≡ [] → (p : Path) → phases_of m p ≡ []
unfolding phases_of
no-entries m e p = ap (λ (es : List (Path × Vec Phase)). unwrap_or (option_map (λ v. v.items) (look p es)) []) e
