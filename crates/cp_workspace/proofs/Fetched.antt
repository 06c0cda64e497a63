-- What a source file gives, by what the code made of it.
use Rattle.cp_workspace.specs.declared.limits.TheConstants.{FILE_MAX}
use Rattle.std.specs.Prelude.{ℕ, ◌≡◌, ◌≤◌, ◌<◌, Bool, true, false, List, length, nat_lt, if◌then◌else◌, Result, Ok, Err}
use Rattle.std.proofs.Common.{refl, sym, ap, subst, ◌∙◌, arith}
use Rattle.std.proofs.lemmas.Bool.Decides.{nat_tests}
use Rattle.std.specs.declared.option.Option.{Option}
use Rattle.std.specs.declared.option.Option.TheVariants.{None, Some}
use Rattle.cp_model.specs.Tree.{Tree}
use Rattle.cp_model.specs.declared.query.Form.{Form}
use Rattle.cp_reply.specs.declared.reply.Why.{Why}
use Rattle.cp_reply.specs.declared.reply.Why.TheVariants as why
use Rattle.cp_reply.specs.Session.{FetchedFile, gives, withholds}
use Rattle.cp_workspace.specs.Fetching.{file_gives, form_given}
use Rattle.cp_workspace.specs.Fetched.{Gives}

-- a tree
pub given-tree : {R : Type 0} (view : R → Tree) (g : FetchedFile) (x : R) → Gives view g (Ok x) → g ≡ gives (view x)
given-tree view (gives t) x h = ap (λ z. gives z) (sym h)
given-tree view (withholds y) x h = absurd h

-- why it gives none
pub given-why : {R : Type 0} (view : R → Tree) (g : FetchedFile) (w : Why) → Gives view g (Err w) → g ≡ withholds w
given-why view (gives t) w h = absurd h
given-why view (withholds y) w h = ap (λ z. withholds z) (sym h)

-- ---- by how the file was read

not_longer : (n : ℕ) → n ≤ FILE_MAX → nat_lt FILE_MAX n ≡ false
not_longer n h = grind (arith, nat_tests)

longer : (n : ℕ) → FILE_MAX < n → nat_lt FILE_MAX n ≡ true
longer n h = grind (arith, nat_tests)

module _ {R : Type 0} (view : R → Tree) (name : List ℕ) (form : Form) (file : Option (List ℕ)) where
  -- all of it gives what its bytes give
  pub gives-whole : (bytes : List ℕ) (r : Result R Why) → file ≡ Some bytes → length bytes ≤ FILE_MAX → Gives view (form_given name form bytes) r → Gives view (file_gives name form file) r
  gives-whole bytes r is fits h =
      subst (λ g. Gives view g r) (sym (ap (file_gives name form) is ∙ ap (λ (b : Bool). if b then withholds why.FileTooLong else form_given name form bytes) (not_longer (length bytes) fits))) h

  -- one that is too long gives nothing
  pub gives-long : (all : List ℕ) → file ≡ Some all → FILE_MAX < length all → Gives view (file_gives name form file) (Err why.FileTooLong)
  gives-long all is past =
      subst (λ g. Gives view g (Err why.FileTooLong)) (sym (ap (file_gives name form) is ∙ ap (λ (b : Bool). if b then withholds why.FileTooLong else form_given name form all) (longer (length all) past))) refl

  -- nor does one that isn't there
  pub gives-none : file ≡ None → Gives view (file_gives name form file) (Err why.NoFile)
  gives-none is = subst (λ g. Gives view g (Err why.NoFile)) (sym (ap (file_gives name form) is)) refl
