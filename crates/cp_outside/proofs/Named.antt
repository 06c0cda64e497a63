-- What a name names among the files from one on.
use Rattle.std.proofs.Common.{ℕ, ◌+◌, ◌<◌, ◌≤◌, ◌≡◌, true, false, List, ◌∷◌, length, drop, None, Some, refl, ap, sym, ◌∙◌}
use Rattle.std.proofs.lemmas.List.{at_drop_more, at_drop_all}
use Rattle.std.proofs.Math.ListN.{get_or}
use Rattle.std.proofs.lemmas.Option.{same_Some}
use Rattle.std.specs.Prelude.{bytes_eq}
use Rattle.cp_outside.specs.FileReads.{FileTable, EndsAs, ReadsFile}
use Rattle.cp_outside.specs.MemoryStates.{FileState, file_named}
use Rattle.cp_outside.specs.declared.files.FileEnd.{FileEnd}

named_at : (files : List FileState) (i : ℕ) (file : FileState) (name : List ℕ) → i < length files → file ≡ get_or files i file → file_named (drop i files) name ≡ file_named (file ∷ drop (i + 1) files) name
named_at files i file name within is = at_drop_more (λ l. file_named l name) files i file within ∙ ap (λ f. file_named (f ∷ drop (i + 1) files) name) (sym is)

-- a file with this name is what it names
pub named_here : (files : List FileState) (i : ℕ) (file : FileState) (name : List ℕ) → i < length files → file ≡ get_or files i file → bytes_eq file.name name ≡ true → file_named (drop i files) name ≡ Some file.bytes
named_here files i file name within is same = rw (named_at files i file name within is, same) refl

-- a file with another name is passed
pub named_later : (files : List FileState) (i : ℕ) (file : FileState) (name : List ℕ) → i < length files → file ≡ get_or files i file → bytes_eq file.name name ≡ false → file_named (drop i files) name ≡ file_named (drop (i + 1) files) name
named_later files i file name within is other = rw (named_at files i file name within is, other) refl

-- behind the last file a name names nothing
pub named_nowhere : (files : List FileState) (i : ℕ) (name : List ℕ) → length files ≤ i → file_named (drop i files) name ≡ None
named_nowhere files i name past = at_drop_all (λ l. file_named l name) files i past

-- what these files name is what a read finds, where they are told
pub told : (f : FileTable) (name : List ℕ) (limit : ℕ) (bytes : List ℕ) (end : FileEnd) → EndsAs (f name) limit bytes end → ReadsFile (Some f) name limit bytes end
told f name limit bytes end ends = (f name, λ g is. ap (λ h. h name) (sym (same_Some f g is)), ends)
