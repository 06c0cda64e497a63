-- A place whose changes are looked up, newest first.
use Rattle.std.specs.Prelude.{ℕ, ◌+◌, ◌-◌, ◌^◌, ◌≡◌, ◌≤◌, ◌<◌, List, ◌++◌, IfSome}
use Rattle.std.proofs.Common.{sym, ap, subst, ◌∙◌, arith, append_assoc}
use Rattle.std.proofs.Math.Nat.{min-le_left}
use Rattle.cp_outside.specs.Causes.{one_more}
use Rattle.std.proofs.lemmas.List.{append-nil}
use Rattle.std.specs.declared.option.Option.{Option}
use Rattle.std.specs.declared.option.Option.TheVariants.{None, Some}
use Rattle.cp_path.specs.declared.loc.Loc.{Loc}
use Rattle.cp_model.specs.Rows.{Reading}
use Rattle.cp_model.specs.Changes.{change_at, change_told, reading_of_what}
use Rattle.cp_model.specs.declared.change.Change.{Change}
use Rattle.cp_model.specs.declared.kind.Kind.{Kind}
use Rattle.cp_model.specs.declared.record.Record.{Record}
use Rattle.cp_uses.specs.declared.reached.Reached.{Reached}
use Rattle.cp_uses.specs.Renewals.{if_new, renewals_at, changes_at}
use Rattle.cp_uses.proofs.Renewed.{none-left, some-left}

-- what a look-up tells
pub told-some : (k j : Kind) (rs : List Record) (t : ℕ) (q : Loc) (o : Option Change) (c : Change) → o ≡ Some c → change_told o ≡ change_at j rs t q → j ≡ k → change_at k rs t q ≡ Some (c.tid, reading_of_what c.what)
told-some k j rs t q o c e h a = sym (h ∙ ap (λ j. change_at j rs t q) a) ∙ ap change_told e

pub told-none : (k j : Kind) (rs : List Record) (t : ℕ) (q : Loc) (o : Option Change) → o ≡ None → change_told o ≡ change_at j rs t q → j ≡ k → change_at k rs t q ≡ None
told-none k j rs t q o e h a = sym (h ∙ ap (λ j. change_at j rs t q) a) ∙ ap change_told e

module _ (k : Kind) (rs : List Record) (q : Loc) (high : ℕ) where
  pub found-more : (c : ℕ × Reading) (low : ℕ) (items new all : List Reached) → change_at k rs high q ≡ Some c → low ≡ c.0 - 1 → new ≡ items ++ if_new q c.0 c.1 → items ++ renewals_at k rs q high ≡ all → new ++ renewals_at k rs q low ≡ all
  found-more c low items new all e l n h =
      ap (λ xs. xs ++ renewals_at k rs q low) n
      ∙ append_assoc items (if_new q c.0 c.1) (renewals_at k rs q low)
      ∙ ap (λ m. items ++ (if_new q c.0 c.1 ++ renewals_at k rs q m)) l
      ∙ ap (λ xs. items ++ xs) (sym (some-left k rs q high c e).2)
      ∙ h

  pub found-all : (items all : List Reached) → change_at k rs high q ≡ None → items ++ renewals_at k rs q high ≡ all → items ≡ all
  found-all items all e h = sym (append-nil items) ∙ ap (λ xs. items ++ xs) (sym (none-left k rs q high e).0) ∙ h

  -- one call for one change
  pub calls-more : (c : ℕ × Reading) (low a b d most : ℕ) → change_at k rs high q ≡ Some c → low ≡ c.0 - 1 → b + changes_at k rs q high ≤ a + most → d ≤ b + 1 → d + changes_at k rs q low ≤ a + most
  calls-more c low a b d most e l h g =
      let m : changes_at k rs q high ≡ changes_at k rs q low + 1 = (some-left k rs q high c e).3 ∙ ap (λ m. changes_at k rs q m + 1) (sym l) in
      omega (arith, h, g, m)

  -- and one at the end
  pub calls-all : (a b d most : ℕ) → b + changes_at k rs q high ≤ a + most → d ≤ b + 1 → d ≤ a + (most + 1)
  calls-all a b d most h g = omega (arith, h, g)

-- ---- one look-up

pub one-call : (a b : ℕ) → b ≡ one_more a → b ≤ a + 1
one-call a b e = let l = min-le_left (a + 1) (2 ^ 64 - 1) in omega (arith, l, e)

-- it is of a step within those that were asked
pub some-within : (o : Option Change) (c : Change) (high : ℕ) → o ≡ Some c → IfSome o (λ d. (0 < d.tid) × (d.tid ≤ high)) → (0 < c.tid) × (c.tid ≤ high)
some-within o c high e h = subst (λ p. IfSome p (λ d. (0 < d.tid) × (d.tid ≤ high))) e h
