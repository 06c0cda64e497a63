-- That some transaction is open.
use Rattle.std.specs.Prelude.{ℕ, ◌≡◌, Bool, true, false, not, cond, IsTrue, List, [], ◌∷◌, length, refl}
use Rattle.std.proofs.Common.{ap, ◌∙◌}
use Rattle.std.specs.Map.{lookup}
use Rattle.std.specs.Cmp.Lexicographic.{nat_list_eq_equiv}
use Rattle.std.specs.declared.option.Option.TheVariants.{Some}
use Rattle.cp_path.specs.Text.{text_eq}
use Rattle.cp_model.specs.Tree.{Tree, Source}
use Rattle.cp_curators.specs.Desks.{Desk, Desks}
use Rattle.cp_curators.specs.Curators.{Stands}
use Rattle.cp_curators.specs.declared.curators.Curators.{Curators}
use Rattle.cp_curators.specs.declared.desk.OpenDesk.{OpenDesk}
use Rattle.cp_curators.proofs.DeskLemmas.{desk-there}

module _ {R : Type 0} (view : R → Tree) (ss : List Source) (c : Curators R) (desks : Desks) (s : Stands view ss c desks) where
  -- the first entry's name has a desk
  first-open : (es : List (List ℕ × OpenDesk R)) → c.desks.entries ≡ es → (length es ≡ 0 → ⊥) → (n : List ℕ) × (d : Desk) × (desks n ≡ Some d)
  first-open [] e some = absurd (some refl)
  first-open (x ∷ xs) e some =
      let there = desk-there view ss c desks x.0 s x.1 (ap (lookup (text_eq x.0)) e ∙ ap (λ b. cond b (Some x.1) (lookup (text_eq x.0) xs)) (nat_list_eq_equiv.refl x.0)) in
      (x.0, there.desk, there.is)

  -- where the map isn't empty some name has one
  pub some-open : (b : Bool) → (IsTrue b → length c.desks.entries ≡ 0) × (length c.desks.entries ≡ 0 → IsTrue b) → not b ≡ true → (n : List ℕ) × (d : Desk) × (desks n ≡ Some d)
  some-open true h e = absurd (cc)
  some-open false h e = first-open c.desks.entries refl (λ z. let t = h.1 z in absurd (cc))
