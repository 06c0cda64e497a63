-- What the clock and the files told, one after another.
use Rattle.std.proofs.Common.{◌≡◌, List, [], ◌∷◌, ◌++◌, refl, ◌∙◌, sym, subst}
use Rattle.std.specs.declared.option.Option.{Option}
use Rattle.std.specs.declared.option.Option.TheVariants.{None, Some}
use Rattle.std.specs.Prelude.{ℕ}
use Rattle.std.proofs.lemmas.Option.{same_Some}
use Rattle.cp_outside.specs.FileReads.{FileTable, EndsAs, ReadsFile}
use Rattle.cp_outside.specs.declared.files.FileEnd.{FileEnd}
use Rattle.cp_outside.specs.Moments.{TellsOne}
use Rattle.cp_outside.proofs.Telling.{told-one, told-then}
use Rattle.cp_reply.specs.Session.{Supply, no_supply, followed_by}
use Rattle.cp_workspace.specs.Files.{KnownFiles, IsFound, AreFound}
use Rattle.cp_workspace.specs.Clocks.{KnownClock}
use Rattle.cp_workspace.specs.Supplies.{IsSupplied}

-- ---- files

-- what a read found, as a table
abbrev table_with : Option FileTable → Option (List ℕ) → FileTable
table_with None file = λ name. file
table_with (Some files) file = files

-- that is what is known of them
is_known : (known : KnownFiles) (file : Option (List ℕ)) (o : Option FileTable) → known.found ≡ o → (f : FileTable) → known.found ≡ Some f → table_with o file ≡ f
is_known known file None e f told = absurd (let x : None ≡ Some f = sym e ∙ told in cc)
is_known known file (Some t) e f told = same_Some t f (sym e ∙ told)

-- these are the files, as far as they are known, among which a read found this one
pub found-one : (known : KnownFiles) (name : List ℕ) (file : Option (List ℕ)) → ((f : FileTable) → known.found ≡ Some f → f name ≡ file) → (t : FileTable) × IsFound known t × (t name ≡ file)
found-one known name file h = (table_with known.found file, is_known known file known.found refl, names known.found refl)
  where
    names : (o : Option FileTable) → known.found ≡ o → table_with o file name ≡ file
    names None e = refl
    names (Some t) e = h t e

-- among these files the read ended so
pub found-read : (known : KnownFiles) (name : List ℕ) (limit : ℕ) (bytes : List ℕ) (end : FileEnd) → ReadsFile known.found name limit bytes end → (t : FileTable) × IsFound known t × EndsAs (t name) limit bytes end
found-read known name limit bytes end read = let x = found-one known name read.0 read.1 in (x.0, x.1, subst (λ file. EndsAs file limit bytes end) (sym x.2) read.2)

-- the files, where none was read
pub found-any : (known : KnownFiles) → (t : FileTable) × IsFound known t
found-any known = (table_with known.found None, is_known known None known.found refl)

-- some, and then others
pub found-then : (b m : KnownFiles) (xs ys : List FileTable) → m.found ≡ b.found → AreFound b xs → AreFound m ys → AreFound b (xs ++ ys)
found-then b m [] [] same h k = tt
found-then b m [] (t ∷ ts) same h k = (λ f told. k.0 f (same ∙ told), found-then b m [] ts same tt k.1)
found-then b m (x ∷ xs) ys same h k = (h.0, found-then b m xs ys same h.1 k)

-- ---- supplies

-- nothing
pub supplied-none : (f : KnownFiles) (k : KnownClock) → IsSupplied f k k no_supply
supplied-none f k = record { told = refl; found = tt }

-- one table
abbrev pub one_table : FileTable → Supply
one_table t = record { moments = []; tables = t ∷ [] }

pub supplied-table : (f : KnownFiles) (k : KnownClock) (t : FileTable) → IsFound f t → IsSupplied f k k (one_table t)
supplied-table f k t h = record { told = refl; found = (h, tt) }

-- one moment
abbrev pub one_moment : ℕ → Supply
one_moment m = record { moments = m ∷ []; tables = [] }

pub supplied-moment : (f : KnownFiles) (kb ka : KnownClock) (m : ℕ) → TellsOne kb.left ka.left m → IsSupplied f kb ka (one_moment m)
supplied-moment f kb ka m h = record { told = told-one kb.left ka.left m h; found = tt }

-- some, and then others
pub supplied-then : (fb fm : KnownFiles) (kb km ka : KnownClock) (x y : Supply) → fm.found ≡ fb.found → IsSupplied fb kb km x → IsSupplied fm km ka y → IsSupplied fb kb ka (followed_by x y)
supplied-then fb fm kb km ka x y same first second = record {
  told = told-then kb.left km.left ka.left x.moments y.moments first.told second.told;
  found = found-then fb fm x.tables y.tables same first.found second.found;
}
