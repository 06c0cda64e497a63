-- What an operation's places are to an overlay.
use Rattle.std.specs.Prelude.{ℕ, ◌≡◌, true, List, Result, Ok, Err, OnOk}
use Rattle.std.proofs.Common.{sym, ap, subst}
use Rattle.std.specs.declared.option.Option.TheVariants.{None}
use Rattle.cp_path.specs.declared.loc.Loc.{Loc}
use Rattle.cp_path.proofs.Same.{text_eq-same}
use Rattle.cp_model.specs.Place.{Label, in_target, at_target, target}
use Rattle.cp_model.specs.Tree.{Tree, Source, refusal}
use Rattle.cp_model.specs.Step.{contents, apply_op}
use Rattle.cp_model.specs.declared.literal.Literal.{Literal}
use Rattle.cp_model.specs.declared.op.Op.{Op}
use Rattle.cp_model.specs.declared.op.Op.TheVariants.{Ins, Del, Copy}
use Rattle.cp_model.proofs.Accepted.{ins_accepted, del_accepted, copy_accepted}
use Rattle.cp_overlay.specs.Kept.{Kept, Stands, Follows}

-- what follows from what holds where a call doesn't fail
pub ok-then : {T E P Q : Type 0} → (P → Q) → (r : Result T E) → OnOk r P → OnOk r Q
ok-then f (Ok x) h = f h
ok-then f (Err e) h = tt

-- a place of T is its path there
pub at-target : (p : Loc) → in_target p ≡ true → at_target p.path ≡ p
at-target p i = ap (λ (d : List ℕ). record { db = d; path = p.path }) (sym (text_eq-same p.db target i))

module _ (ss : List Source) (a : Tree) (o later : Kept) where
  -- an operation that is refused unless its place is one of T
  followed : (f : Loc → Op) (p : Loc) → ((t : Tree) → refusal ss t (f p) ≡ None → in_target p ≡ true) → Follows ss a o later (f (at_target p.path)) → Follows ss a o later (f p)
  followed f p target h = λ w i n s.
      let same : at_target p.path ≡ p = at-target p (target (contents w) n) in
      subst (λ q. Stands later a (apply_op ss w (f q))) same (h w i (subst (λ q. refusal ss (contents w) (f q) ≡ None) (sym same) n) s)

  -- an insertion into the path of its place is one into the place
  pub follows-ins : (p : Loc) (l : Label) (lit : Literal) (op : Op) → op ≡ Ins p l lit → Follows ss a o later (Ins (at_target p.path) l lit) → Follows ss a o later op
  follows-ins p l lit op e h = subst (Follows ss a o later) (sym e) (followed (λ q. Ins q l lit) p (λ t n. (ins_accepted ss t p l lit n).target) h)

  -- and so is a deletion
  pub follows-del : (l : Label) (p : Loc) (op : Op) → op ≡ Del l p → Follows ss a o later (Del l (at_target p.path)) → Follows ss a o later op
  follows-del l p op e h = subst (Follows ss a o later) (sym e) (followed (λ q. Del l q) p (λ t n. (del_accepted ss t p l n).target) h)

  -- and a copy
  pub follows-copy : (q p : Loc) (op : Op) → op ≡ Copy q p → Follows ss a o later (Copy q (at_target p.path)) → Follows ss a o later op
  follows-copy q p op e h = subst (Follows ss a o later) (sym e) (followed (λ r. Copy q r) p (λ t n. (copy_accepted ss t q p n).target) h)

  -- one from a place of T is one from its path there
  pub follows-within : (q p : Loc) (op : Op) → op ≡ Copy q p → in_target q ≡ true → Follows ss a o later (Copy (at_target q.path) (at_target p.path)) → Follows ss a o later op
  follows-within q p op e i h = follows-copy q p op e (subst (λ r. Follows ss a o later (Copy r (at_target p.path))) (at-target q i) h)
