-- The key of a path comes apart in one way.
use Rattle.std.proofs.Common.{arith, ◌≡◌, ◌<◌, ◌≤◌, ◌+◌, ◌∙◌, inl, inr, ap, sym, refl, subst, ℕ, zero, suc, Bool, true, false, List, [], ◌∷◌, ◌++◌, append_assoc, append-nil, length, length-append}
use Rattle.std.specs.Prelude.{◌||◌, nat_lt}
use Rattle.std.specs.List.{flat_map, AllByRecursion}
use Rattle.std.proofs.lemmas.Grind.{flat_map-append}
use Rattle.cp_path.specs.Place.{Label, Path, at_target, over_limit, size}
use Rattle.cp_path.specs.Text.{target}
use Rattle.cp_path.specs.declared.limits.TheConstants.{LABELS_MAX, LOC_MAX}
use Rattle.cp_path.specs.declared.loc.Loc.{Loc}
use Rattle.cp_record.specs.Kept.{IsLabel, IsPath}
use Rattle.cp_page.specs.KeyReading.{IsTargetPlace}
use Rattle.cp_page.specs.PlaceKeys.{escaped, label_key, path_key, place_key}
use Rattle.cp_page.proofs.KeyBytes.{same_key, label_front, no_byte_at_last}

key_front : (a : Label) (p : Path) → path_key (a ∷ p) ≡ label_key a ++ path_key p
key_front a p = append_assoc (label_key a) (flat_map label_key p) (0 ∷ 0 ∷ [])

labels_front : (a : Label) (p : Path) (rest : List ℕ) → flat_map label_key (a ∷ p) ++ rest ≡ label_key a ++ (flat_map label_key p ++ rest)
labels_front a p rest = append_assoc (label_key a) (flat_map label_key p) rest

-- no label stands at the end of a path
pub no_label_at_last : (a rest : List ℕ) → 0 ∷ 0 ∷ [] ≡ label_key a ++ rest → ⊥
no_label_at_last [] rest e = absurd (cc)
no_label_at_last (zero ∷ a) rest e = absurd (cc)
no_label_at_last (suc b ∷ a) rest e = absurd (cc)

-- what a path whose key the bytes are has after these labels
pub peel : (path p : Path) (rest : List ℕ) → path_key p ≡ flat_map label_key path ++ rest → (more : Path) × (p ≡ path ++ more) × (path_key more ≡ rest)
peel [] p rest e = (p, refl, e)
peel (a ∷ path) [] rest e = absurd (no_label_at_last a (flat_map label_key path ++ rest) (e ∙ labels_front a path rest))
peel (a ∷ path) (b ∷ p) rest e =
    let on = same_key b a (path_key p) (flat_map label_key path ++ rest) (sym (key_front b p) ∙ e ∙ labels_front a path rest) in
    let found = peel path p rest on.1 in
    (found.0, ap (λ x. x ∷ p) on.0 ∙ ap (λ q. a ∷ q) found.1, found.2)

label_among : (path : Path) (a : Label) (more : Path) → AllByRecursion IsLabel (path ++ a ∷ more) → IsLabel a
label_among [] a more all = all.0
label_among (b ∷ path) a more all = label_among path a more all.1

pub labels_more : (path : Path) (a : Label) → AllByRecursion IsLabel path → IsLabel a → AllByRecursion IsLabel (path ++ a ∷ [])
labels_more [] a all is = (is, tt)
labels_more (b ∷ path) a all is = (all.0, labels_more path a all.1 is)

pub one_label : (bytes : List ℕ) (path : Path) (rest text next : List ℕ) (a : Label) → bytes ≡ flat_map label_key path ++ rest → rest ≡ label_key text ++ next → a ≡ text → bytes ≡ flat_map label_key (path ++ a ∷ []) ++ next
one_label bytes path rest text next a is on same =
    is ∙ ap (λ r. flat_map label_key path ++ r) on ∙ ap (λ x. flat_map label_key path ++ (label_key x ++ next)) (sym same)
    ∙ sym (append_assoc (flat_map label_key path) (label_key a) next)
    ∙ ap (λ m. m ++ next) (ap (λ m. flat_map label_key path ++ m) (sym (append-nil (label_key a))) ∙ sym (flat_map-append label_key path (a ∷ [])))

pub label_shorter : (rest text next : List ℕ) → rest ≡ label_key text ++ next → length next < length rest
label_shorter rest text next e =
    let l = ap length e ∙ length-append (label_key text) next in
    let k = length-append (escaped text) (0 ∷ 1 ∷ []) in
    omega (arith, l, k)

module _ (bytes : List ℕ) (path : Path) (rest : List ℕ) (is : bytes ≡ flat_map label_key path ++ rest) where
  -- what follows a label that can't be one
  no_more : (text next : List ℕ) → rest ≡ label_key text ++ next → (p : Path) (more : Path) → p ≡ path ++ more → path_key more ≡ rest → (a : Label) × (m : Path) × (more ≡ a ∷ m) × (a ≡ text)
  no_more text next on p [] same e = absurd (no_label_at_last text next (e ∙ on))
  no_more text next on p (a ∷ m) same e = (a, m, refl, (same_key a text (path_key m) next (sym (key_front a m) ∙ e ∙ on)).0)

  pub no_path_label : (text next : List ℕ) → rest ≡ label_key text ++ next → (IsLabel text → ⊥) → (p : Path) → IsPath p → path_key p ≡ bytes → ⊥
  no_path_label text next on bad p fit e =
      let found = peel path p rest (e ∙ is) in
      let a = no_more text next on p found.0 found.1 found.2 in
      let all : AllByRecursion IsLabel (path ++ a.0 ∷ a.1) = subst (AllByRecursion IsLabel) (found.1 ∙ ap (λ m. path ++ m) a.2) fit.labels in
      bad (subst IsLabel a.3 (label_among path a.0 a.1 all))

  pub no_path_deep : (text next : List ℕ) → rest ≡ label_key text ++ next → length path ≡ LABELS_MAX → (p : Path) → IsPath p → path_key p ≡ bytes → ⊥
  no_path_deep text next on deep p fit e =
      let found = peel path p rest (e ∙ is) in
      let a = no_more text next on p found.0 found.1 found.2 in
      let l = ap length (found.1 ∙ ap (λ m. path ++ m) a.2) ∙ length-append path (a.0 ∷ a.1) in
      let few = fit.few in
      omega (arith, l, few, deep)

  ends_so : ((a s : List ℕ) → rest ≡ label_key a ++ s → ⊥) → (more : Path) → path_key more ≡ rest → rest ≡ 0 ∷ 0 ∷ []
  ends_so none [] e = sym e
  ends_so none (a ∷ m) e = absurd (none a (path_key m) (sym e ∙ key_front a m))

  pub no_path_end : ((a s : List ℕ) → rest ≡ label_key a ++ s → ⊥) → (rest ≡ 0 ∷ 0 ∷ [] → ⊥) → (p : Path) → IsPath p → path_key p ≡ bytes → ⊥
  no_path_end none other p fit e =
      let found = peel path p rest (e ∙ is) in
      other (ends_so none found.0 found.2)

  pub a_path : AllByRecursion IsLabel path → length path ≤ LABELS_MAX → rest ≡ 0 ∷ 0 ∷ [] → IsPath path × (path_key path ≡ bytes)
  a_path labels few on = (record { labels = labels; few = few }, ap (λ r. flat_map label_key path ++ r) (sym on) ∙ sym is)

-- ---- places of T

same_paths : (path p : Path) → path_key p ≡ path_key path → p ≡ path
same_paths path p e =
    let found = peel path p (0 ∷ 0 ∷ []) e in
    found.1 ∙ ap (λ m. path ++ m) (none found.0 found.2) ∙ append-nil path
  where
    none : (more : Path) → path_key more ≡ 0 ∷ 0 ∷ [] → more ≡ []
    none [] h = refl
    none (a ∷ m) h = absurd (no_label_at_last a (path_key m) (sym h ∙ key_front a m))

target_key : (q : Loc) → IsTargetPlace q → place_key q ≡ target ++ 0 ∷ 1 ∷ path_key q.path
target_key q fit = ap place_key fit.place

pub no_target : (key : List ℕ) → ((rest : List ℕ) → key ≡ target ++ 0 ∷ 1 ∷ rest → ⊥) → (q : Loc) → IsTargetPlace q → place_key q ≡ key → ⊥
no_target key none q fit e = none (path_key q.path) (sym e ∙ target_key q fit)

path_behind : (key rest : List ℕ) → key ≡ target ++ 0 ∷ 1 ∷ rest → (q : Loc) → IsTargetPlace q → place_key q ≡ key → path_key q.path ≡ rest
path_behind key rest on q fit e = let same = sym (target_key q fit) ∙ e ∙ on in cc

pub no_target_path : (key rest : List ℕ) → key ≡ target ++ 0 ∷ 1 ∷ rest → ((p : Path) → IsPath p → path_key p ≡ rest → ⊥) → (q : Loc) → IsTargetPlace q → place_key q ≡ key → ⊥
no_target_path key rest on none q fit e = none q.path fit.path (path_behind key rest on q fit e)

second_false : (a b : Bool) → (a || b) ≡ false → b ≡ false
second_false true b h = cc
second_false false b h = h

pub too_large : (key rest db : List ℕ) (path : Path) → key ≡ target ++ 0 ∷ 1 ∷ rest → path_key path ≡ rest → db ≡ target → LOC_MAX < size (record { db = db; path = path }) → (q : Loc) → IsTargetPlace q → place_key q ≡ key → ⊥
too_large key rest db path on is at large q fit e =
    let same = same_paths path q.path (path_behind key rest on q fit e ∙ sym is) in
    let here : q ≡ at_target path = fit.place ∙ ap at_target same in
    let here_size : LOC_MAX < size (at_target path) = subst (λ d. LOC_MAX < size (record { db = d; path = path })) at large in
    let within : nat_lt LOC_MAX (size (at_target path)) ≡ false = ap (λ x. nat_lt LOC_MAX (size x)) (sym here) ∙ second_false (nat_lt LABELS_MAX (length q.path)) (nat_lt LOC_MAX (size q)) fit.fits in
    grind (arith, within, here_size)
