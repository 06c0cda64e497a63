-- Which origin a place has, after a change too.
use Rattle.std.proofs.Common.{ℕ, zero, suc, ◌-◌, ◌≤◌, ◌≡◌, Bool, true, false, cond, [], ◌∷◌, ◌++◌, refl, sym, ap, subst, ◌∙◌, append_assoc, take, drop, length, arith}
use Rattle.std.proofs.lemmas.Grind.{common_steps}
use Rattle.std.specs.declared.option.Option.{Option}
use Rattle.std.specs.declared.option.Option.TheVariants.{None, Some}
use Rattle.cp_path.specs.declared.loc.Loc.{Loc}
use Rattle.cp_path.proofs.Same.{path_eq-same, text_eq-same}
use Rattle.cp_path.specs.PathOrder.{path_eq_equiv}
use Rattle.std.specs.Cmp.Lexicographic.{nat_list_eq_equiv}
use Rattle.cp_model.specs.Place.{Path, Label, path_eq, label_eq, strip, or_else, with_rest, nearest, at_target, below_place, target}
use Rattle.cp_model.specs.Laws.{at_rest_or}
use Rattle.cp_model.specs.declared.origin.Origin.{Origin}
use Rattle.cp_model.specs.declared.origin.Origin.TheVariants.{New as new, Was as was}
use Rattle.cp_model.proofs.Strips.{strip_is, strip-append, append-nil, path_ind, further, nearest-snoc, nearest-here, nearest-below}
use Rattle.cp_overlay.specs.Kept.{Origins, carry, origin_by, origin_at, put_below, but}

-- one value, at the root
abbrev pub alone : {X : Type 0} → X → Path → Option X
alone x [] = Some x
alone x (a ∷ s) = None

-- no value
abbrev pub nothing : {X : Type 0} → Path → Option X
nothing s = None

-- what a copy from q takes along
abbrev pub taken : Origins → Path → Path → Option Origin
taken f q [] = Some (origin_at f q)
taken f q (a ∷ s) = f (q ++ a ∷ s)

-- maps that are alike at the prefixes of a path find the same
pub nearest-ext : {X : Type 0} (f g : Path → Option X) (r : Path) → ((s t : Path) → r ≡ s ++ t → f s ≡ g s) → nearest f r ≡ nearest g r
nearest-ext f g [] h = ap (λ o. with_rest o []) (h [] [] refl)
nearest-ext f g (a ∷ r) h =
    ap (λ o. or_else o (with_rest (f []) (a ∷ r))) (nearest-ext (λ s. f (a ∷ s)) (λ s. g (a ∷ s)) r (λ s t e. h (a ∷ s) t (ap (λ q. a ∷ q) e)))
    ∙ ap (λ o. or_else (nearest (λ s. g (a ∷ s)) r) (with_rest o (a ∷ r))) (h [] (a ∷ r) refl)

carry-snoc : (v : Origin) (s : Path) (a : Label) → carry v (s ++ a ∷ []) ≡ carry (carry v s) (a ∷ [])
carry-snoc new s a = refl
carry-snoc (was q) s a = ap (λ r. was (record { db = q.db; path = r })) (sym (append_assoc q.path s (a ∷ [])))

-- an origin carried nowhere is itself
pub carry-nil : (v : Origin) → carry v [] ≡ v
carry-nil new = refl
carry-nil (was q) = ap (λ r. was (record { db = q.db; path = r })) (append-nil q.path)

origin_by-snoc : (p : Path) (a : Label) (o : Option (Origin × Path)) → origin_by (p ++ a ∷ []) (further (a ∷ []) o) ≡ carry (origin_by p o) (a ∷ [])
origin_by-snoc p a None = refl
origin_by-snoc p a (Some e) = carry-snoc e.0 e.1 a

-- what a value of its own, or the one above, gives one label further down
abbrev pub own_or : Option Origin → Origin → Label → Origin
own_or None v a = carry v (a ∷ [])
own_or (Some x) v a = x

-- the origin one label further down
pub snoc_step : (f : Origins) (k r : Path) (a : Label) (v : Option Origin) → f (r ++ a ∷ []) ≡ v → origin_by (k ++ a ∷ []) (nearest f (r ++ a ∷ [])) ≡ own_or v (origin_by k (nearest f r)) a
snoc_step f k r a v e =
    ap (origin_by (k ++ a ∷ [])) (nearest-snoc f r a ∙ ap (λ o. or_else (with_rest o []) (further (a ∷ []) (nearest f r))) e) ∙ by_own v
  where
    by_own : (v : Option Origin) → origin_by (k ++ a ∷ []) (or_else (with_rest v []) (further (a ∷ []) (nearest f r))) ≡ own_or v (origin_by k (nearest f r)) a
    by_own None = origin_by-snoc k a (nearest f r)
    by_own (Some x) = carry-nil x

-- the origin of a place one label further down
pub origin-snoc : (f : Origins) (r : Path) (a : Label) → origin_at f (r ++ a ∷ []) ≡ own_or (f (r ++ a ∷ [])) (origin_at f r) a
unfolding origin_at
origin-snoc f r a = snoc_step f r r a (f (r ++ a ∷ [])) refl

-- what is not below p has no prefix below p
pub not_below : (p r s t : Path) → strip p r ≡ None → r ≡ s ++ t → strip p s ≡ None
not_below p r s t n e =
    elim (strip p s) as (λ o. strip p s ≡ o → o ≡ None) [
      | None ↦ λ _. refl
      | Some u ↦ λ k. let along = ap (strip p) (sym (append_assoc p u t) ∙ ap (λ q. q ++ t) (sym (strip_is p s u k)) ∙ sym e) in absurd (cc (strip-append p (u ++ t)))
    ] refl

-- one label further down a copy takes what is kept there
pub taken_below : (f : Origins) (q s : Path) (a : Label) → taken f q (s ++ a ∷ []) ≡ f (q ++ (s ++ a ∷ []))
taken_below f q [] a = refl
taken_below f q (b ∷ s) a = refl

-- the taken origins give at s what the map gives at q and s
carried_along : (f : Origins) (p q s : Path) → origin_by (p ++ s) (nearest (taken f q) s) ≡ origin_at f (q ++ s)
unfolding origin_at
carried_along f p q = path_ind (λ s. origin_by (p ++ s) (nearest (taken f q) s) ≡ origin_at f (q ++ s)) base more
  where
    base : origin_by (p ++ []) (nearest (taken f q) []) ≡ origin_at f (q ++ [])
    base = carry-nil (origin_at f q) ∙ ap (origin_at f) (sym (append-nil q))

    more : (s : Path) (a : Label) → origin_by (p ++ s) (nearest (taken f q) s) ≡ origin_at f (q ++ s) → origin_by (p ++ (s ++ a ∷ [])) (nearest (taken f q) (s ++ a ∷ [])) ≡ origin_at f (q ++ (s ++ a ∷ []))
    more s a ih =
        let v = f (q ++ (s ++ a ∷ [])) in
        ap (λ k. origin_by k (nearest (taken f q) (s ++ a ∷ []))) (sym (append_assoc p s (a ∷ [])))
        ∙ snoc_step (taken f q) (p ++ s) s a v (taken_below f q s a)
        ∙ ap (λ u. own_or v u a) ih
        ∙ sym (snoc_step f (q ++ s) (q ++ s) a v (ap f (append_assoc q s (a ∷ []))))
        ∙ ap (λ k. origin_at f k) (append_assoc q s (a ∷ []))

module _ (p : Path) (h f f' : Origins) (is : (r : Path) → f' r ≡ put_below p h f r) where
  -- the origins that are not below p stay
  pub origin-aside : (r : Path) → strip p r ≡ None → origin_at f' r ≡ origin_at f r
  unfolding origin_at put_below
  origin-aside r n = ap (origin_by r) (nearest-ext f' f r (λ s t e. is s ∙ ap (λ o. at_rest_or o h (f s)) (not_below p r s t n e)))

  -- what is kept below p is what h keeps
  pub at_below : (s : Path) → f' (p ++ s) ≡ h s
  unfolding put_below
  at_below s = is (p ++ s) ∙ ap (λ o. at_rest_or o h (f (p ++ s))) (strip-append p s)

  -- those below p are what h gives
  pub origin-below : (x : Origin) → h [] ≡ Some x → (s : Path) → origin_at f' (p ++ s) ≡ origin_by (p ++ s) (nearest h s)
  unfolding origin_at
  origin-below x e s =
      ap (origin_by (p ++ s)) (nearest-below f' p s x (ap f' (sym (append-nil p)) ∙ at_below [] ∙ e) ∙ nearest-ext (λ t. f' (p ++ t)) h s (λ u t _. at_below u))

nearest-alone : (x : Origin) (s : Path) → nearest (alone x) s ≡ Some (x, s)
nearest-alone x [] = refl
nearest-alone x (a ∷ s) = ap (λ o. or_else o (Some (x, a ∷ s))) (none s)
  where
    none : (s : Path) → nearest {X = Origin} (λ r. None) s ≡ None
    none [] = refl
    none (b ∷ s) = ap (λ o. or_else o None) (none s)

-- after a copy each place has the origin of where it was taken from
pub origin-taken : (p q : Path) (f f' : Origins) → ((r : Path) → f' r ≡ put_below p (taken f q) f r) → (s : Path) → origin_at f' (p ++ s) ≡ origin_at f (q ++ s)
origin-taken p q f f' is s = origin-below p (taken f q) f f' is (origin_at f q) refl s ∙ carried_along f p q s

-- below one value alone each place has that, carried down
pub origin-alone : (p : Path) (x : Origin) (f f' : Origins) → ((r : Path) → f' r ≡ put_below p (alone x) f r) → (s : Path) → origin_at f' (p ++ s) ≡ carry x s
origin-alone p x f f' is s = origin-below p (alone x) f f' is x refl s ∙ ap (origin_by (p ++ s)) (nearest-alone x s)

-- the origin of a place that keeps one
pub origin-own : (f : Origins) (p : Path) (x : Origin) → f p ≡ Some x → origin_at f p ≡ x
unfolding origin_at
origin-own f p x e = ap (origin_by p) (nearest-here f p x e) ∙ carry-nil x

-- where origins are kept alike, each place has the same
pub origin-ext : (f g : Origins) → ((r : Path) → f r ≡ g r) → (r : Path) → origin_at f r ≡ origin_at g r
unfolding origin_at
origin-ext f g h r = ap (origin_by r) (nearest-ext f g r (λ s t e. h s))

-- ---- what the place above gives

true_false : (b : Bool) → b ≡ true → b ≡ false → ⊥
true_false b e f = cc

but_at : (p : Path) (f : Origins) → but p f p ≡ None
unfolding but
but_at p f = ap (λ b. cond b None (f p)) (path_eq_equiv.refl p)

but_other : (p : Path) (f : Origins) (r : Path) → path_eq r p ≡ false → but p f r ≡ f r
unfolding but
but_other p f r e = ap (λ b. cond b None (f r)) e

longer : (s t p : Path) (a : Label) → s ++ t ≡ p → path_eq s (p ++ a ∷ []) ≡ false
longer s t p a e =
    elim (path_eq s (p ++ a ∷ [])) as (λ b. path_eq s (p ++ a ∷ []) ≡ b → b ≡ false) [
      | false ↦ λ _. refl
      | true ↦ λ h. absurd (too_long p a t (ap (λ q. q ++ t) (sym (path_eq-same s (p ++ a ∷ []) h)) ∙ e))
    ] refl
  where
    too_long : (p : Path) (a : Label) (t : Path) → (p ++ a ∷ []) ++ t ≡ p → ⊥
    too_long [] a t e = absurd (cc)
    too_long (b ∷ p) a t e = let h : (p ++ a ∷ []) ++ t ≡ p = cc in too_long p a t h

-- the origin of a place, if it kept none itself
pub but_snoc : (f : Origins) (p : Path) (a : Label) → origin_at (but (p ++ a ∷ []) f) (p ++ a ∷ []) ≡ origin_by (p ++ a ∷ []) (further (a ∷ []) (nearest f p))
unfolding origin_at
but_snoc f p a =
    let k = p ++ a ∷ [] in
    ap (origin_by k) (nearest-snoc (but k f) p a)
    ∙ ap (λ o. origin_by k (or_else (with_rest o []) (further (a ∷ []) (nearest (but k f) p)))) (but_at k f)
    ∙ ap (λ o. origin_by k (further (a ∷ []) o)) (nearest-ext (but k f) f p (λ s t e. but_other k f s (longer s t p a (sym e))))

-- the origin of the root, if it kept none itself
pub given_top : (f : Origins) → origin_at (but [] f) [] ≡ was (at_target [])
unfolding origin_at
given_top f = ap (λ v. origin_by [] (with_rest v [])) (but_at [] f)

-- elsewhere it is that of the place above, carried down
pub but_carried : (f : Origins) (p : Path) (a : Label) → origin_at (but (p ++ a ∷ []) f) (p ++ a ∷ []) ≡ carry (origin_at f p) (a ∷ [])
unfolding origin_at
but_carried f p a = but_snoc f p a ∙ origin_by-snoc p a (nearest f p)

-- at the root what is kept is given where it is the root itself
pub given_root : (f : Origins) (p : Path) (o : Origin) → length p ≡ 0 → f p ≡ Some o → o ≡ was (at_target p) → f p ≡ Some (origin_at (but p f) p)
unfolding origin_at
given_root f [] o n e h = e ∙ ap (λ x. Some x) (h ∙ sym (ap (λ v. origin_by [] (with_rest v [])) (but_at [] f)))
given_root f (a ∷ p) o n e h = absurd (omega (arith, n))

-- elsewhere it is given where it is what the nearest above gives
pub given_below : (f : Origins) (p : Path) (a : Label) (o : Origin) → f (p ++ a ∷ []) ≡ Some o → o ≡ origin_by (p ++ a ∷ []) (further (a ∷ []) (nearest f p)) → f (p ++ a ∷ []) ≡ Some (origin_at (but (p ++ a ∷ []) f) (p ++ a ∷ []))
given_below f p a o e h = e ∙ ap (λ x. Some x) (h ∙ sym (but_snoc f p a))

drop_more : (n : ℕ) (p : Path) (a : Label) → n ≤ length p → drop n (p ++ a ∷ []) ≡ drop n p ++ a ∷ []
drop_more zero p a h = refl
drop_more (suc n) [] a h = absurd (omega (arith, h))
drop_more (suc n) (b ∷ p) a h = let k : n ≤ length p = omega (arith, h) in drop_more n p a k

-- where an origin is kept above
pub given_some : (f : Origins) (k p : Path) (a : Label) (o from : Origin) (n : ℕ) → k ≡ p ++ a ∷ [] → f k ≡ Some o → n ≤ length p → nearest f p ≡ Some (from, drop n p) → o ≡ carry from (drop n k) → f k ≡ Some (origin_at (but k f) k)
given_some f k p a o from n s e few h c =
    subst (λ k. f k ≡ Some (origin_at (but k f) k)) (sym s)
    (given_below f p a o (ap f (sym s) ∙ e) (c ∙ ap (λ q. carry from (drop n q)) s ∙ ap (carry from) (drop_more n p a few) ∙ sym (ap (λ v. origin_by (p ++ a ∷ []) (further (a ∷ []) v)) h)))

-- where none is
pub given_none : (f : Origins) (k p : Path) (a : Label) (o : Origin) → k ≡ p ++ a ∷ [] → f k ≡ Some o → nearest f p ≡ None → o ≡ was (at_target k) → f k ≡ Some (origin_at (but k f) k)
given_none f k p a o s e h c =
    subst (λ k. f k ≡ Some (origin_at (but k f) k)) (sym s)
    (given_below f p a o (ap f (sym s) ∙ e) (c ∙ ap (λ q. was (at_target q)) s ∙ sym (ap (λ v. origin_by (p ++ a ∷ []) (further (a ∷ []) v)) h)))

root_other : (f : Origins) (p : Path) → path_eq [] p ≡ false → origin_at (but p f) [] ≡ origin_at f []
unfolding origin_at
root_other f p n = ap (λ o. origin_by [] (with_rest o [])) (but_other p f [] n)

-- without an origin that is given each place has the origin that it had
pub settled_same : (f g : Origins) (p : Path) → ((r : Path) → g r ≡ but p f r) → f p ≡ Some (origin_at (but p f) p) → (r : Path) → origin_at g r ≡ origin_at f r
settled_same f g p is given r = origin-ext g (but p f) is r ∙ path_ind (λ r. origin_at (but p f) r ≡ origin_at f r) base more r
  where
    own : origin_at (but p f) p ≡ origin_at f p
    own = sym (origin-own f p (origin_at (but p f) p) given)

    at_own : (r : Path) → path_eq r p ≡ true → origin_at (but p f) r ≡ origin_at f r
    at_own r t = ap (origin_at (but p f)) (path_eq-same r p t) ∙ own ∙ ap (origin_at f) (sym (path_eq-same r p t))

    base : origin_at (but p f) [] ≡ origin_at f []
    base = elim (path_eq [] p) as (λ b. path_eq [] p ≡ b → origin_at (but p f) [] ≡ origin_at f []) [
      | true ↦ at_own []
      | false ↦ root_other f p
    ] refl

    more : (r : Path) (a : Label) → origin_at (but p f) r ≡ origin_at f r → origin_at (but p f) (r ++ a ∷ []) ≡ origin_at f (r ++ a ∷ [])
    more r a ih = elim (path_eq (r ++ a ∷ []) p) as (λ b. path_eq (r ++ a ∷ []) p ≡ b → origin_at (but p f) (r ++ a ∷ []) ≡ origin_at f (r ++ a ∷ [])) [
      | true ↦ at_own (r ++ a ∷ [])
      | false ↦ λ n. origin-snoc (but p f) r a ∙ ap (λ v. own_or v (origin_at (but p f) r) a) (but_other p f (r ++ a ∷ []) n) ∙ ap (λ v. own_or (f (r ++ a ∷ [])) v a) ih ∙ sym (origin-snoc f r a)
    ] refl

-- ---- origins compared

-- the data that stood at this place of T
pub own_was : (q : Loc) (p : Path) → label_eq q.db target ≡ true → path_eq q.path p ≡ true → was q ≡ was (at_target p)
own_was q p d e = λ i. was (record { db = text_eq-same q.db target d i; path = path_eq-same q.path p e i })

-- a place below another
pub carried_was : (q from : Loc) (rest s : Path) → label_eq q.db from.db ≡ true → Some rest ≡ strip from.path q.path → path_eq rest s ≡ true → was q ≡ was (below_place from s)
carried_was q from rest s d e h =
    let path : q.path ≡ from.path ++ s = strip_is from.path q.path rest (sym e) ∙ ap (λ r. from.path ++ r) (path_eq-same rest s h) in
    λ i. was (record { db = text_eq-same q.db from.db d i; path = path i })

-- where nothing is kept nothing is found
pub nearest_none : {X : Type 0} (f : Path → Option X) (p : Path) → ((r : Path) → f r ≡ None) → nearest f p ≡ None
nearest_none f [] h = ap (λ o. with_rest o []) (h [])
nearest_none f (a ∷ p) h = ap (λ o. or_else o (with_rest (f []) (a ∷ p))) (nearest_none (λ r. f (a ∷ r)) p (λ r. h (a ∷ r))) ∙ ap (λ o. with_rest o (a ∷ p)) (h [])

-- where nothing is found a place is itself
pub origin_none : (f : Origins) (p : Path) → nearest f p ≡ None → origin_at f p ≡ was (at_target p)
unfolding origin_at
origin_none f p e = ap (origin_by p) e

-- where something is found it is carried down
pub origin_some : (f : Origins) (p s : Path) (o : Origin) → nearest f p ≡ Some (o, s) → origin_at f p ≡ carry o s
unfolding origin_at
origin_some f p s o e = ap (origin_by p) e

-- all but what is kept at a path
pub but_is : (p : Path) (f : Origins) (r : Path) → cond (path_eq r p) None (f r) ≡ but p f r
unfolding but
but_is p f r = refl

-- the labels from a number on, up to the end
pub drop_whole : (n : ℕ) (p : Path) → take (length p - n) (drop n p) ≡ drop n p
drop_whole n p = grind (arith, common_steps)

abbrev path_of : Origin → Path
path_of new = []
path_of (was q) = q.path

abbrev db_of : Origin → Label
db_of new = []
db_of (was q) = q.db

-- two places of T that are the same have one path
pub same_path : (p q : Path) → was (at_target p) ≡ was (at_target q) → p ≡ q
same_path p q e = ap path_of e

-- places with the same name and path are the same
pub same_place : (a b : Loc) → (a.db ≡ b.db) × (a.path ≡ b.path) → a ≡ b
same_place a b e = λ i. record { db = e.0 i; path = e.1 i }

-- ---- comparisons that succeed

-- a place of T lies in T
pub was_target : (q : Loc) (p : Path) → was q ≡ was (at_target p) → label_eq q.db target ≡ true
was_target q p e = ap (λ d. label_eq d target) (ap db_of e) ∙ nat_list_eq_equiv.refl target

-- and its path is the same
pub was_path : (q : Loc) (p : Path) → was q ≡ was (at_target p) → path_eq q.path p ≡ true
was_path q p e = ap (λ r. path_eq r p) (ap path_of e) ∙ path_eq_equiv.refl p

-- a place below another lies in the same database
pub below_db : (q from : Loc) (s : Path) → was q ≡ was (below_place from s) → label_eq q.db from.db ≡ true
below_db q from s e = ap (λ d. label_eq d from.db) (ap db_of e) ∙ nat_list_eq_equiv.refl from.db

-- and these labels follow the other's
pub below_rest : (q from : Loc) (s : Path) → was q ≡ was (below_place from s) → strip from.path q.path ≡ Some s
below_rest q from s e = ap (strip from.path) (ap path_of e) ∙ strip-append from.path s

-- what doesn't follow it isn't below it
pub none_rest : (q from : Loc) (s : Path) → None ≡ strip from.path q.path → was q ≡ was (below_place from s) → ⊥
none_rest q from s h e = cc (h ∙ below_rest q from s e)

-- what is the rest is the same
pub rest_same : (r : Path) (s : Path) → Some r ≡ Some s → path_eq r s ≡ true
rest_same r s e = let t : r ≡ s = cc in ap (λ q. path_eq q s) t ∙ path_eq_equiv.refl s

-- what is new isn't a place
pub new_apart : (q : Loc) → new ≡ was q → ⊥
new_apart q e = cc

-- and a place isn't new
pub was_apart : (q : Loc) → was q ≡ new → ⊥
was_apart q e = cc

-- what is kept at the root is given only as the root
pub root_given : (f : Origins) (p : Path) (o : Origin) → length p ≡ 0 → f p ≡ Some o → f p ≡ Some (origin_at (but p f) p) → o ≡ was (at_target p)
root_given f p o n e g = let s : o ≡ origin_at (but p f) p = some_is (sym e ∙ g) in s ∙ at_root p n
  where
    some_is : {x y : Origin} → Some x ≡ Some y → x ≡ y
    some_is e = cc

    at_root : (p : Path) → length p ≡ 0 → origin_at (but p f) p ≡ was (at_target p)
    at_root [] n = given_top f
    at_root (a ∷ p) n = absurd (omega (arith, n))

-- elsewhere as what the nearest above gives
pub some_given : (f : Origins) (k p : Path) (a : Label) (o from : Origin) (n : ℕ) → k ≡ p ++ a ∷ [] → f k ≡ Some o → n ≤ length p → nearest f p ≡ Some (from, drop n p) → f k ≡ Some (origin_at (but k f) k) → o ≡ carry from (drop n k)
some_given f k p a o from n s e few h g =
    some_is (sym e ∙ g)
    ∙ ap (λ k. origin_at (but k f) k) s
    ∙ but_snoc f p a
    ∙ ap (λ v. origin_by (p ++ a ∷ []) (further (a ∷ []) v)) h
    ∙ ap (carry from) (sym (drop_more n p a few) ∙ ap (drop n) (sym s))
  where
    some_is : {x y : Origin} → Some x ≡ Some y → x ≡ y
    some_is e = cc

-- or as the place itself
pub none_given : (f : Origins) (k p : Path) (a : Label) (o : Origin) → k ≡ p ++ a ∷ [] → f k ≡ Some o → nearest f p ≡ None → f k ≡ Some (origin_at (but k f) k) → o ≡ was (at_target k)
none_given f k p a o s e h g =
    some_is (sym e ∙ g)
    ∙ ap (λ k. origin_at (but k f) k) s
    ∙ but_snoc f p a
    ∙ ap (λ v. origin_by (p ++ a ∷ []) (further (a ∷ []) v)) h
    ∙ ap (λ q. was (at_target q)) (sym s)
  where
    some_is : {x y : Origin} → Some x ≡ Some y → x ≡ y
    some_is e = cc
