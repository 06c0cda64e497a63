-- What the code made of a source file.
use Rattle.std.specs.Prelude.{ℕ, ◌≡◌, List, true, false, Result, Ok, Err}
use Rattle.cp_model.specs.Place.{Path, over_limit}
use Rattle.cp_model.specs.Subtrees.{is_there}
use Rattle.cp_model.specs.Tree.{Tree}
use Rattle.cp_reply.specs.declared.reply.Why.{Why}
use Rattle.cp_outside.specs.FileReads.{FileTable}
use Rattle.cp_reply.specs.Session.{FetchedFile, gives, withholds}
use Rattle.cp_workspace.specs.Files.{KnownFiles, IsFound}

-- the tree that the file gives, or why it gives none
abbrev pub Gives : {R : Type 0} → (R → Tree) → FetchedFile → Result R Why → Type 0
Gives view (gives t) (Ok x) = view x ≡ t
Gives view (gives t) (Err w) = ⊥
Gives view (withholds v) (Ok x) = ⊥
Gives view (withholds v) (Err w) = w ≡ v

-- These are the files, where they are known, and they give the tree, or the code says why there is none.
abbrev pub GivesFound : {R : Type 0} → (R → Tree) → KnownFiles → (FileTable → FetchedFile)
    → Result R Why → Type 0
GivesFound view known given r = (t : FileTable) × IsFound known t × Gives view (given t) r

-- the tree's places are within the limits of places under the name
abbrev pub FitsUnder : List ℕ → Tree → Type 0
FitsUnder name t =
    (p : Path) → is_there t p ≡ true → over_limit (record { db = name; path = p }) ≡ false
