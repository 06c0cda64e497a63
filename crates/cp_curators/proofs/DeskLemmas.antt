-- What curators stand for after a desk has changed, and what they have at a name.
use Rattle.std.specs.Prelude.{ℕ, ◌≡◌, Bool, true, false, cond, List, if◌then◌else◌, refl, is_some}
use Rattle.std.proofs.Common.{sym, ap, subst}
use Rattle.std.specs.Map.{lookup}
use Rattle.std.specs.declared.option.Option.{Option}
use Rattle.std.specs.declared.option.Option.TheVariants.{None, Some}
use Rattle.indexmap.specs.IndexMap.{get, WritesThrough}
use Rattle.cp_path.specs.Text.{text_eq}
use Rattle.cp_path.proofs.Same.{text_eq-same}
use Rattle.cp_model.specs.Tree.{Tree, Source}
use Rattle.cp_model.specs.Laws.{AreSources}
use Rattle.cp_curators.specs.Desks.{Desk, Desks, with_desk}
use Rattle.cp_curators.specs.Curators.{IsDeskOf, Keeps, Stands}
use Rattle.cp_curators.specs.declared.curators.Curators.{Curators}
use Rattle.cp_curators.specs.declared.desk.OpenDesk.{OpenDesk}

-- the new map has this at the name, and at the others what the old one has
pub record Changes {R : Type 0} (n : List ℕ) (w : Option (OpenDesk R)) (old new : Curators R) : Type 0 where
  pub at : (q : List ℕ) → get text_eq new.desks q ≡ cond (text_eq n q) w (get text_eq old.desks q)

-- a write through the reference to what a name has
pub changes-written : {R : Type 0} (old new : Curators R) (n : List ℕ) (x w : OpenDesk R) → get text_eq old.desks n ≡ Some x → WritesThrough text_eq (text_eq n) old.desks w new.desks → Changes n (Some w) old new
changes-written old new n x w e h = record { at = (h.3 (ap is_some e)).0 }

module _ {R : Type 0} (view : R → Tree) (ss : List Source) where
  -- a name has another desk, and the other names keep theirs
  pub stands-with : (old new : Curators R) (desks : Desks) (n : List ℕ) (w : Option (OpenDesk R)) (d : Option Desk) → Changes n w old new → Keeps view ss w d → Stands view ss old desks → Stands view ss new (with_desk n d desks)
  stands-with old new desks n w d h k s = record {
    sources = s.sources;
    each = λ q. subst (λ o. Keeps view ss o (with_desk n d desks q)) (sym (h.at q)) (either q (text_eq n q));
  }
    where
      either : (q : List ℕ) (b : Bool) → Keeps view ss (cond b w (get text_eq old.desks q)) (if b then d else desks q)
      either q true = k
      either q false = s.each q

  -- a name has its own desk anew
  pub stands-again : (old new : Curators R) (desks : Desks) (n : List ℕ) (w : Option (OpenDesk R)) → Changes n w old new → Keeps view ss w (desks n) → Stands view ss old desks → Stands view ss new desks
  stands-again old new desks n w h k s = record {
    sources = s.sources;
    each = λ q. subst (λ o. Keeps view ss o (desks q)) (sym (h.at q)) (either q (text_eq n q) refl);
  }
    where
      either : (q : List ℕ) (b : Bool) → text_eq n q ≡ b → Keeps view ss (cond b w (get text_eq old.desks q)) (desks q)
      either q true e = subst (λ m. Keeps view ss w (desks m)) (text_eq-same n q e) k
      either q false e = s.each q

  -- the name has none any more
  pub stands-closed : (old new : Curators R) (desks : Desks) (n : List ℕ) → ((q : List ℕ) → get text_eq new.desks q ≡ cond (text_eq n q) None (get text_eq old.desks q)) → Stands view ss old desks → Stands view ss new (with_desk n None desks)
  stands-closed old new desks n h s = stands-with old new desks n None None (record { at = h }) tt s

  -- nothing was changed
  pub stands-unchanged : (old new : Curators R) (desks : Desks) → new.desks.entries ≡ old.desks.entries → Stands view ss old desks → Stands view ss new desks
  stands-unchanged old new desks e s = record {
    sources = s.sources;
    each = λ q. subst (λ es. Keeps view ss (lookup (text_eq q) es) (desks q)) (sym e) (s.each q);
  }

  -- they stand for desks that are the same at each name
  pub stands-alike : (c : Curators R) (desks others : Desks) → ((n : List ℕ) → desks n ≡ others n) → Stands view ss c desks → Stands view ss c others
  stands-alike c desks others alike s = record {
    sources = s.sources;
    each = λ n. subst (Keeps view ss (get text_eq c.desks n)) (alike n) (s.each n);
  }

  -- what a kept transaction is the desk of
  pub record Has (x : OpenDesk R) (o : Option Desk) : Type 0 where
    pub desk : Desk
    pub is : o ≡ Some desk
    pub of : IsDeskOf view ss x desk

  has : (x : OpenDesk R) (o : Option Desk) → Keeps view ss (Some x) o → Has x o
  has x None k = absurd k
  has x (Some d) k = record { desk = d; is = refl; of = k }

  has_none : (o : Option Desk) → Keeps view ss None o → o ≡ None
  has_none None k = refl
  has_none (Some d) k = absurd k

  module _ (c : Curators R) (desks : Desks) (n : List ℕ) (s : Stands view ss c desks) where
    -- a name at which a transaction is kept has a desk
    pub desk-there : (x : OpenDesk R) → get text_eq c.desks n ≡ Some x → Has x (desks n)
    desk-there x e = has x (desks n) (subst (λ o. Keeps view ss o (desks n)) e (s.each n))

    -- another has none
    pub no-desk : get text_eq c.desks n ≡ None → desks n ≡ None
    no-desk e = has_none (desks n) (subst (λ o. Keeps view ss o (desks n)) e (s.each n))

-- where nobody has a transaction open, other sources may come in the place of those that were loaded
module _ {R : Type 0} (view : R → Tree) (ss us : List Source) where
  keeps_none : (o : Option (OpenDesk R)) (d : Option Desk) → d ≡ None → Keeps view ss o d → Keeps view us o d
  keeps_none None None e k = tt
  keeps_none (Some x) None e k = absurd k
  keeps_none o (Some d) e k = absurd (cc)

  pub stands-loaded : (c : Curators R) (desks : Desks) → ((n : List ℕ) → desks n ≡ None) → AreSources us → Stands view ss c desks → Stands view us c desks
  stands-loaded c desks none are s = record {
    sources = are;
    each = λ n. keeps_none (get text_eq c.desks n) (desks n) (none n) (s.each n);
  }
