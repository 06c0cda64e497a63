-- Counts of reads, one after another.
use Rattle.std.proofs.Common.{◌≡◌, ℕ, zero, suc, ◌+◌, inr, sym, ap, ◌∙◌, subst, Result, Ok, Err, arith}
use Rattle.cp_outside.specs.Causes.{one_more}
use Rattle.cp_workspace.specs.Files.{KnownFiles, more, HasRead, ReadsOrNone}

-- so many reads, and then others
pub more-more : (n k j : ℕ) → more (more n k) j ≡ more n (k + j)
more-more n k zero = let none : k ≡ k + 0 = omega arith in ap (more n) none
more-more n k (suc j) = let next : suc (k + j) ≡ k + suc j = omega arith in ap one_more (more-more n k j) ∙ ap (more n) next

-- so many files were read, and then others
pub read-then : (b m a : KnownFiles) (k j : ℕ) → HasRead b m k → HasRead m a j → HasRead b a (k + j)
read-then b m a k j h i = i ∙ ap (λ n. more n j) h ∙ more-more b.reads k j

-- the same of a sum
pub read-sum : (b m a : KnownFiles) (k j n : ℕ) → n ≡ k + j → HasRead b m k → HasRead m a j → HasRead b a n
read-sum b m a k j n e h i = subst (HasRead b a) (sym e) (read-then b m a k j h i)

-- so many files were read, whatever the call gave
pub reads-all : {T E : Type 0} (n : ℕ) (b a : KnownFiles) (result : Result T E) → HasRead b a n → ReadsOrNone n b a result
reads-all n b a (Ok x) read = read
reads-all n b a (Err e) read = inr read
