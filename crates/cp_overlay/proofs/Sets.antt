-- Setting rows one by one, and giving them up.
use Rattle.std.proofs.Common.{ℕ, suc, ◌+◌, ◌-◌, ◌<◌, ◌≤◌, ◌≡◌, Bool, true, false, cond, ◌||◌, List, [], ◌∷◌, ◌++◌, refl, sym, ap, subst, ◌∙◌, append_assoc, take, length, get_or, set, take-suc, arith}
use Rattle.std.proofs.lemmas.List.{take-set}
use Rattle.std.specs.Prelude.{is_some}
use Rattle.std.specs.List.{list_any}
use Rattle.std.specs.declared.option.Option.{Option}
use Rattle.std.specs.declared.option.Option.TheVariants.{None, Some}
use Rattle.std.specs.Global.{Vec}
use Rattle.cp_path.proofs.Same.{path_eq-same}
use Rattle.cp_path.specs.PathOrder.{path_eq_equiv}
use Rattle.cp_model.specs.Place.{Path, Label, path_eq, or_else, strip, option_map}
use Rattle.cp_model.specs.Keyed.{look}
use Rattle.cp_model.specs.Subtrees.{entries_under}
use Rattle.cp_model.specs.Laws.{at_rest_or}
use Rattle.cp_model.specs.declared.origin.Origin.{Origin}
use Rattle.cp_model.proofs.Lookups.{find-moved, find_below}
use Rattle.cp_model.proofs.Strips.{strip_is}
use Rattle.cp_overlay.specs.Shown.{OriginMap, joined, shown, kept, has_key, set_or, blank, run, paths, AreThere}
use Rattle.cp_overlay.specs.Kept.{Origins, put_below}
use Rattle.cp_overlay.proofs.Gathered.{shown-append}

module _ {X : Type 0} where
  -- a look-up in two lists
  pub look-append : (r : Path) (es fs : List (Path × X)) → look r (es ++ fs) ≡ or_else (look r es) (look r fs)
  look-append r [] fs = refl
  look-append r (e ∷ es) fs = elim (path_eq r e.0) as (λ b. cond b (Some e.1) (look r (es ++ fs)) ≡ or_else (cond b (Some e.1) (look r es)) (look r fs)) [ true ↦ refl | false ↦ look-append r es fs ]

  -- a look-up with one more row
  pub look-last : (r : Path) (es : List (Vec Label × X)) (k : Vec Label) (o : X) → look r (shown (es ++ (k, o) ∷ [])) ≡ or_else (look r (shown es)) (cond (path_eq r k.items) (Some o) None)
  look-last r es k o = ap (look r) (shown-append es ((k, o) ∷ [])) ∙ look-append r (shown es) ((k.items, o) ∷ [])

  -- of two rows the first counts
  pub set_or-else : (o p : Option (Option X)) (v : Option X) → set_or (or_else o p) v ≡ set_or o (set_or p v)
  set_or-else None p v = refl
  set_or-else (Some x) p v = refl

-- one row is set
pub set_turn : (r : Path) (es fs : List (Vec Label × Option Origin)) (k : Vec Label) (o : Option Origin) (m n : OriginMap) → fs ≡ es ++ (k, o) ∷ [] → kept n r ≡ cond (path_eq r k.items) o (kept m r) →
    set_or (look r (shown es)) (kept n r) ≡ set_or (look r (shown fs)) (kept m r)
set_turn r es fs k o m n e h =
    ap (set_or (look r (shown es))) (h ∙ one (path_eq r k.items))
    ∙ sym (set_or-else (look r (shown es)) (cond (path_eq r k.items) (Some o) None) (kept m r))
    ∙ ap (λ d. set_or d (kept m r)) (sym (look-last r es k o) ∙ ap (λ xs. look r (shown xs)) (sym e))
  where
    one : (b : Bool) → cond b o (kept m r) ≡ set_or (cond b (Some o) None) (kept m r)
    one true = refl
    one false = refl

some_or_else : {X : Type 0} (o p : Option X) → is_some (or_else o p) ≡ (is_some o || is_some p)
some_or_else None p = refl
some_or_else (Some x) p = refl

-- the key of the last row is there
pub there_last : (m : OriginMap) (es fs : List (Vec Label × Option Origin)) (k : Vec Label) (o : Option Origin) → fs ≡ es ++ (k, o) ∷ [] → AreThere m (shown fs) → has_key m k.items ≡ true
there_last m es fs k o e h = h k.items (ap (λ xs. is_some (look k.items (shown xs))) e ∙ ap is_some (look-last k.items es k o) ∙ some_or_else (look k.items (shown es)) _ ∙ ap (λ b. is_some (look k.items (shown es)) || is_some (cond b (Some o) None)) (path_eq_equiv.refl k.items) ∙ or_true (is_some (look k.items (shown es))))
  where
    or_true : (b : Bool) → (b || true) ≡ true
    or_true true = refl
    or_true false = refl

-- the keys of the other rows are there
pub there_init : (m : OriginMap) (es fs : List (Vec Label × Option Origin)) (k : Vec Label) (o : Option Origin) → fs ≡ es ++ (k, o) ∷ [] → AreThere m (shown fs) → AreThere m (shown es)
there_init m es fs k o e h r i = h r (ap (λ xs. is_some (look r (shown xs))) e ∙ ap is_some (look-last r es k o) ∙ some_or_else (look r (shown es)) _ ∙ ap (λ b. b || is_some (cond (path_eq r k.items) (Some o) None)) i)

-- one more row has room
pub there_more : (m n : OriginMap) (es fs : List (Vec Label × Option Origin)) (k : Vec Label) (o : Option Origin) → fs ≡ es ++ (k, o) ∷ [] → AreThere m (shown es) → ((r : Path) → has_key m r ≡ true → has_key n r ≡ true) → has_key n k.items ≡ true → AreThere n (shown fs)
there_more m n es fs k o e h g t r i =
    by_case (is_some (look r (shown es))) refl (sym (ap (λ xs. is_some (look r (shown xs))) e ∙ ap is_some (look-last r es k o) ∙ some_or_else (look r (shown es)) _) ∙ i)
  where
    last : (b : Bool) → path_eq r k.items ≡ b → is_some (cond b (Some o) None) ≡ true → has_key n r ≡ true
    last true s j = ap (has_key n) (path_eq-same r k.items s) ∙ t
    last false s j = absurd (cc)

    by_case : (b : Bool) → is_some (look r (shown es)) ≡ b → (b || is_some (cond (path_eq r k.items) (Some o) None)) ≡ true → has_key n r ≡ true
    by_case true s j = g r (h r s)
    by_case false s j = last (path_eq r k.items) refl j

-- one more item
pub take_next : {A : Type 0} (xs : List A) (i : ℕ) (x : A) → i < length xs → x ≡ get_or xs i x → take (i + 1) xs ≡ take i xs ++ x ∷ []
take_next xs i x h e = let s : i + 1 ≡ suc i = omega arith in ap (λ n. take n xs) s ∙ take-suc xs i x h ∙ ap (λ y. take i xs ++ y ∷ []) (sym e)

-- one more row behind p
pub under_more : (p : Path) (done : List (Path × Option Origin)) (row : Vec Label × Option Origin) (rest it : List (Vec Label × Option Origin)) → it ≡ row ∷ rest
    → (done ++ (p ++ row.0.items, row.1) ∷ []) ++ entries_under p (shown rest) ≡ done ++ entries_under p (shown it)
unfolding entries_under
under_more p done row rest it i = append_assoc done ((p ++ row.0.items, row.1) ∷ []) (entries_under p (shown rest)) ∙ ap (λ xs. done ++ entries_under p (shown xs)) (sym i)

-- one more blank row behind p
pub blank_more : (p : Path) (start : List (Path × Option Origin)) (out done all : List (Vec Label × Option Origin)) (row : Vec Label × Option Origin) (key : Vec Label) →
    all ≡ done ++ row ∷ [] → shown out ≡ start ++ entries_under p (blank (shown done)) → key.items ≡ p ++ row.0.items → shown (out ++ (key, None) ∷ []) ≡ start ++ entries_under p (blank (shown all))
unfolding entries_under
blank_more p start out done all row key a e k =
    shown-append out ((key, None) ∷ [])
    ∙ ap (λ xs. xs ++ (key.items, None) ∷ []) e
    ∙ append_assoc start (entries_under p (blank (shown done))) ((key.items, None) ∷ [])
    ∙ ap (λ q. start ++ (entries_under p (blank (shown done)) ++ (q, None) ∷ [])) k
    ∙ ap (λ xs. start ++ xs) (sym (along done))
    ∙ ap (λ xs. start ++ entries_under p (blank (shown xs))) (sym a)
  where
    along : (done : List (Vec Label × Option Origin)) → entries_under p (blank (shown (done ++ row ∷ []))) ≡ entries_under p (blank (shown done)) ++ (p ++ row.0.items, None) ∷ []
    along [] = refl
    along (d ∷ done) = ap (λ xs. (p ++ d.0.items, None) ∷ xs) (along done)

-- no row
pub under_nil : {X : Type 0} (xs : List (Path × X)) (p : Path) → xs ≡ xs ++ entries_under p []
unfolding entries_under
under_nil [] p = refl
under_nil (x ∷ xs) p = ap (λ ys. x ∷ ys) (under_nil xs p)

look-blank : {X : Type 0} (r : Path) (es : List (Path × Option X)) → look r (blank es) ≡ option_map (λ _. None) (look r es)
look-blank r [] = refl
look-blank r (e ∷ es) = elim (path_eq r e.0) as (λ b. cond b (Some None) (look r (blank es)) ≡ option_map (λ _. None) (cond b (Some e.1) (look r es))) [ true ↦ refl | false ↦ look-blank r es ]

-- what the changes do: rows of h behind p, and blanks behind p for what was there
pub replaces : (p : Path) (es : List (Path × Option Origin)) (f g : Origins) (m : OriginMap) → ((r : Path) → f r ≡ kept m r) →
    ((r : Path) → g r ≡ set_or (look r (entries_under p es ++ entries_under p (blank (run p m.entries)))) (kept m r)) → (r : Path) → g r ≡ put_below p (λ s. joined (look s es)) f r
unfolding put_below kept run
replaces p es f g m ff h r =
    h r
    ∙ ap (λ o. set_or o (kept m r)) (look-append r (entries_under p es) (entries_under p (blank (run p m.entries))))
    ∙ ap (λ o. set_or (or_else o (look r (entries_under p (blank (run p m.entries))))) (kept m r)) (find-moved p r es)
    ∙ ap (λ o. set_or (or_else (at_rest_or (strip p r) (λ s. look s es) None) o) (kept m r)) (find-moved p r (blank (run p m.entries)))
    ∙ elim (strip p r) as (λ d. strip p r ≡ d → set_or (or_else (at_rest_or d (λ s. look s es) None) (at_rest_or d (λ s. look s (blank (run p m.entries))) None)) (kept m r) ≡ at_rest_or d (λ s. joined (look s es)) (f r)) [
      | None ↦ λ _. sym (ff r)
      | Some s ↦ λ e. inside s (strip_is p r s e) (look s es) (look s (blank (run p m.entries))) (look-blank s (run p m.entries) ∙ ap (option_map (λ _. None)) (find_below p s (shown m.entries)))
    ] refl
  where
    blanked : (o : Option (Option Origin)) → set_or (option_map (λ _. None) o) (joined o) ≡ None
    blanked None = refl
    blanked (Some x) = refl

    inside : (s : Path) → r ≡ p ++ s → (o b : Option (Option Origin)) → b ≡ option_map (λ _. None) (look (p ++ s) (shown m.entries)) → set_or (or_else o b) (kept m r) ≡ joined o
    inside s e (Some x) b k = refl
    inside s e None b k = ap (λ q. set_or b (joined (look q (shown m.entries)))) e ∙ ap (λ c. set_or c (joined (look (p ++ s) (shown m.entries)))) k ∙ blanked (look (p ++ s) (shown m.entries))

-- one key more is given up
pub removed_more : (r : Path) (m0 m n : OriginMap) (k : Vec Label) (done all : List (Vec Label)) → all ≡ done ++ k ∷ [] → kept m r ≡ cond (list_any (path_eq r) (paths done)) None (kept m0 r) → kept n r ≡ cond (path_eq r k.items) None (kept m r)
    → kept n r ≡ cond (list_any (path_eq r) (paths all)) None (kept m0 r)
removed_more r m0 m n k done all a h e =
    e
    ∙ ap (cond (path_eq r k.items) None) h
    ∙ both (list_any (path_eq r) (paths done)) (path_eq r k.items)
    ∙ ap (λ b. cond b None (kept m0 r)) (sym (along done))
    ∙ ap (λ ks. cond (list_any (path_eq r) (paths ks)) None (kept m0 r)) (sym a)
  where
    both : (b c : Bool) → cond c None (cond b None (kept m0 r)) ≡ cond (b || c) None (kept m0 r)
    both true true = refl
    both true false = refl
    both false true = refl
    both false false = refl

    or_false : (b : Bool) → (b || false) ≡ b
    or_false true = refl
    or_false false = refl

    along : (done : List (Vec Label)) → list_any (path_eq r) (paths (done ++ k ∷ [])) ≡ (list_any (path_eq r) (paths done) || path_eq r k.items)
    along [] = or_false (path_eq r k.items)
    along (d ∷ done) = ap (λ b. path_eq r d.items || b) (along done) ∙ or_assoc (path_eq r d.items) (list_any (path_eq r) (paths done)) (path_eq r k.items)
      where
        or_assoc : (a b c : Bool) → (a || (b || c)) ≡ ((a || b) || c)
        or_assoc true b c = refl
        or_assoc false b c = refl

-- nothing is left of a list without items
pub no_items : {A : Type 0} (xs : List A) → length xs ≡ 0 → xs ≡ []
no_items [] e = refl
no_items (x ∷ xs) e = absurd (omega (arith, e))

-- the last of the first rows is set
module _ (m n : OriginMap) (rows : List (Vec Label × Option Origin)) (count : ℕ) (row none : Vec Label × Option Origin) (some : 0 < count) (few : count ≤ length rows) (is : row ≡ get_or rows (count - 1) row) where
  fronts : take count rows ≡ take (count - 1) rows ++ row ∷ []
  fronts =
      let one : (count - 1) + 1 ≡ count = omega (arith, some) in
      let within : count - 1 < length rows = omega (arith, some, few) in
      ap (λ i. take i rows) (sym one) ∙ take_next rows (count - 1) row within is

  -- what is kept
  pub set_front : (r : Path) → kept n r ≡ cond (path_eq r row.0.items) row.1 (kept m r) → set_or (look r (shown (take (count - 1) (set rows (count - 1) none)))) (kept n r) ≡ set_or (look r (shown (take count rows))) (kept m r)
  set_front r h = ap (λ xs. set_or (look r (shown xs)) (kept n r)) (take-set rows (count - 1) none) ∙ set_turn r (take (count - 1) rows) (take count rows) row.0 row.1 m n fronts h

  -- its key is there
  pub front_there : AreThere m (shown (take count rows)) → has_key m row.0.items ≡ true
  front_there h = there_last m (take (count - 1) rows) (take count rows) row.0 row.1 fronts h

  -- the keys of the rows before it are there
  pub fronts_there : AreThere m (shown (take count rows)) → ((r : Path) → has_key n r ≡ has_key m r) → AreThere n (shown (take (count - 1) (set rows (count - 1) none)))
  fronts_there h e = subst (λ xs. AreThere n (shown xs)) (sym (take-set rows (count - 1) none)) (λ r i. e r ∙ there_init m (take (count - 1) rows) (take count rows) row.0 row.1 fronts h r i)

-- no row is left
pub under_done : (p : Path) (done it es : List (Vec Label × Option Origin)) → shown done ++ entries_under p (shown it) ≡ entries_under p (shown es) → it ≡ [] → shown done ≡ entries_under p (shown es)
under_done p done it es w i = under_nil (shown done) p ∙ ap (λ xs. shown done ++ entries_under p (shown xs)) (sym i) ∙ w
