-- The desks of a session, after one of them has changed.
use Rattle.std.specs.Prelude.{ℕ, ◌≡◌, Bool, true, false, List, [], ◌∷◌, if◌then◌else◌, refl}
use Rattle.std.proofs.Common.{sym, ap, ◌∙◌}
use Rattle.std.specs.List.{AllByRecursion}
use Rattle.std.specs.Cmp.Lexicographic.{nat_list_eq_equiv}
use Rattle.cp_path.specs.Text.{text_eq}
use Rattle.cp_path.proofs.Same.{text_eq-same}
use Rattle.cp_reply.specs.Session.{closed, is_closed, Desk, desk_of, other_desks, with_desk, any_open}

-- each desk that is listed has a transaction open
abbrev pub AreOpen : List Desk → Type 0
AreOpen ds = AllByRecursion (λ d. is_closed d.opened ≡ false) ds

-- what a name has that isn't listed
abbrev pub empty_desk : ℕ → List ℕ → Desk
empty_desk now n = record { name = n; opened = closed; since = now }

-- a name is the same as itself
pub name-same : (n : List ℕ) → text_eq n n ≡ true
name-same n = nat_list_eq_equiv.refl n

-- names that differ differ either way round
name_other : (n m : List ℕ) → text_eq n m ≡ false → text_eq m n ≡ false
name_other n m e = by (text_eq m n) refl
  where
    by : (b : Bool) → text_eq m n ≡ b → b ≡ false
    by true h = sym (name-same n) ∙ ap (text_eq n) (sym (text_eq-same m n h)) ∙ e
    by false h = refl

-- the desk of a name has that name
pub desk-name : (now : ℕ) (n : List ℕ) (ds : List Desk) → (desk_of now n ds).name ≡ n
desk-name now n [] = refl
desk-name now n (d ∷ ds) = by (text_eq n d.name) refl (desk-name now n ds)
  where
    by : (b : Bool) → text_eq n d.name ≡ b → (desk_of now n ds).name ≡ n → (if b then d else desk_of now n ds).name ≡ n
    by true e h = sym (text_eq-same n d.name e)
    by false e h = h

-- ---- a name's desk is taken away

-- the others keep theirs
other-kept : (now : ℕ) (m n : List ℕ) (ds : List Desk) → text_eq n m ≡ false → desk_of now m (other_desks n ds) ≡ desk_of now m ds
other-kept now m n [] e = refl
other-kept now m n (d ∷ ds) e = by (text_eq n d.name) (text_eq m d.name) refl refl (other-kept now m n ds e)
  where
    by : (a b : Bool) → text_eq n d.name ≡ a → text_eq m d.name ≡ b → desk_of now m (other_desks n ds) ≡ desk_of now m ds → desk_of now m (if a then other_desks n ds else d ∷ other_desks n ds) ≡ (if b then d else desk_of now m ds)
    by true true p q h = absurd (let same : n ≡ m = text_eq-same n d.name p ∙ sym (text_eq-same m d.name q) in let own : true ≡ false = sym (name-same n) ∙ ap (text_eq n) same ∙ e in cc)
    by true false p q h = h
    by false true p q h = ap (λ c. if c then d else desk_of now m (other_desks n ds)) q
    by false false p q h = ap (λ c. if c then d else desk_of now m (other_desks n ds)) q ∙ h

-- it has none
other-gone : (now : ℕ) (n : List ℕ) (ds : List Desk) → desk_of now n (other_desks n ds) ≡ empty_desk now n
other-gone now n [] = refl
other-gone now n (d ∷ ds) = by (text_eq n d.name) refl (other-gone now n ds)
  where
    by : (a : Bool) → text_eq n d.name ≡ a → desk_of now n (other_desks n ds) ≡ empty_desk now n → desk_of now n (if a then other_desks n ds else d ∷ other_desks n ds) ≡ empty_desk now n
    by true e h = h
    by false e h = ap (λ c. if c then d else desk_of now n (other_desks n ds)) e ∙ h

open_others : (n : List ℕ) (ds : List Desk) → AreOpen ds → AreOpen (other_desks n ds)
open_others n [] h = tt
open_others n (d ∷ ds) h = by (text_eq n d.name) (open_others n ds h.1)
  where
    by : (a : Bool) → AreOpen (other_desks n ds) → AreOpen (if a then other_desks n ds else d ∷ other_desks n ds)
    by true k = k
    by false k = (h.0, k)

-- ---- it has this desk, or none where that is closed

-- the others keep theirs
pub with-kept : (now : ℕ) (m : List ℕ) (d : Desk) (ds : List Desk) → text_eq d.name m ≡ false → desk_of now m (with_desk d ds) ≡ desk_of now m ds
with-kept now m d ds e = by (is_closed d.opened)
  where
    by : (a : Bool) → desk_of now m (if a then other_desks d.name ds else d ∷ other_desks d.name ds) ≡ desk_of now m ds
    by true = other-kept now m d.name ds e
    by false = ap (λ c. if c then d else desk_of now m (other_desks d.name ds)) (name_other d.name m e) ∙ other-kept now m d.name ds e

-- it is there
pub with-there : (now : ℕ) (d : Desk) (ds : List Desk) → is_closed d.opened ≡ false → desk_of now d.name (with_desk d ds) ≡ d
with-there now d ds e =
    ap (λ c. desk_of now d.name (if c then other_desks d.name ds else d ∷ other_desks d.name ds)) e
    ∙ ap (λ c. if c then d else desk_of now d.name (other_desks d.name ds)) (name-same d.name)

-- it is gone
pub with-gone : (now : ℕ) (d : Desk) (ds : List Desk) → is_closed d.opened ≡ true → desk_of now d.name (with_desk d ds) ≡ empty_desk now d.name
with-gone now d ds e = ap (λ c. desk_of now d.name (if c then other_desks d.name ds else d ∷ other_desks d.name ds)) e ∙ other-gone now d.name ds

-- each desk that is listed has a transaction open
pub open-with : (d : Desk) (ds : List Desk) → AreOpen ds → AreOpen (with_desk d ds)
open-with d ds h = by (is_closed d.opened) refl
  where
    by : (a : Bool) → is_closed d.opened ≡ a → AreOpen (if a then other_desks d.name ds else d ∷ other_desks d.name ds)
    by true e = open_others d.name ds h
    by false e = (e, open_others d.name ds h)

-- ---- what is closed

-- where each desk that is listed has a transaction open, one that has none isn't listed
pub closed-empty : (now : ℕ) (n : List ℕ) (ds : List Desk) → AreOpen ds → is_closed (desk_of now n ds).opened ≡ true → desk_of now n ds ≡ empty_desk now n
closed-empty now n [] h e = refl
closed-empty now n (d ∷ ds) h e = by (text_eq n d.name) e (closed-empty now n ds h.1)
  where
    by : (b : Bool) → is_closed (if b then d else desk_of now n ds).opened ≡ true → (is_closed (desk_of now n ds).opened ≡ true → desk_of now n ds ≡ empty_desk now n) → (if b then d else desk_of now n ds) ≡ empty_desk now n
    by true k f = absurd (let both : true ≡ false = sym k ∙ h.0 in cc)
    by false k f = f k

-- where no name has one, none is listed
pub none-listed : (now : ℕ) (ds : List Desk) → AreOpen ds → ((n : List ℕ) → (desk_of now n ds).opened ≡ closed) → ds ≡ []
none-listed now [] h e = refl
none-listed now (d ∷ ds) h e =
    let own : d.opened ≡ closed = ap (λ c. (if c then d else desk_of now d.name ds).opened) (sym (name-same d.name)) ∙ e d.name in
    absurd (let both : true ≡ false = ap is_closed (sym own) ∙ h.0 in cc)

-- where one has, somebody has a transaction open
pub some-listed : (now : ℕ) (n : List ℕ) (ds : List Desk) → is_closed (desk_of now n ds).opened ≡ false → any_open ds ≡ true
some-listed now n [] e = absurd (cc)
some-listed now n (d ∷ ds) e = refl

-- ---- after another Tid

-- a desk that is listed is the same
pub later-there : (now later : ℕ) (n : List ℕ) (ds : List Desk) → is_closed (desk_of now n ds).opened ≡ false → desk_of later n ds ≡ desk_of now n ds
later-there now later n [] e = absurd (cc)
later-there now later n (d ∷ ds) e = by (text_eq n d.name) e (later-there now later n ds)
  where
    by : (b : Bool) → is_closed (if b then d else desk_of now n ds).opened ≡ false → (is_closed (desk_of now n ds).opened ≡ false → desk_of later n ds ≡ desk_of now n ds) → (if b then d else desk_of later n ds) ≡ (if b then d else desk_of now n ds)
    by true k f = refl
    by false k f = f k

-- one that is closed is closed
pub later-closed : (now later : ℕ) (n : List ℕ) (ds : List Desk) → (desk_of now n ds).opened ≡ closed → (desk_of later n ds).opened ≡ closed
later-closed now later n [] e = refl
later-closed now later n (d ∷ ds) e = by (text_eq n d.name) e (later-closed now later n ds)
  where
    by : (b : Bool) → (if b then d else desk_of now n ds).opened ≡ closed → ((desk_of now n ds).opened ≡ closed → (desk_of later n ds).opened ≡ closed) → (if b then d else desk_of later n ds).opened ≡ closed
    by true k f = k
    by false k f = f k
