-- What the refusing of labels and of records out of order rests on.
use Rattle.std.specs.Prelude.{ℕ, ◌≡◌, ◌≤◌, ◌<◌, ◌+◌, ◌++◌, true, false, List, length, take}
use Rattle.std.specs.declared.option.Option.TheVariants.{Some}
use Rattle.std.specs.declared.result.Result.{Result}
use Rattle.std.specs.declared.result.Result.TheVariants.{Ok, Err}
use Rattle.std.specs.Ordering.{is_lt}
use Rattle.std.specs.List.{flat_map}
use Rattle.cp_path.specs.Encoding.{counted_bytes, path_bytes}
use Rattle.cp_model.specs.Place.{Path, path_cmp}
use Rattle.cp_format.specs.declared.fault.FormatFault.{FormatFault}
use Rattle.cp_format.specs.declared.fault.FormatFault.TheVariants.{BadByte, Memory}
use Rattle.cp_frame.specs.Entries.{labels_decided_at, path_decided_at}
use Rattle.cp_frame.specs.Trees.{comes_after, decided_at}

-- each label of so many bytes that begins as these do, up to the byte at this offset, doesn't come after the other, as that byte decides
pub record LabelIsEarly (elder begun : List ℕ) (count at : ℕ) : Type 0 where
  pub there : at ≤ length begun
  pub early : (a rest : List ℕ) → length a ≡ count → a ≡ take at begun ++ rest → (comes_after (Some elder) a ≡ false) × (decided_at elder a ≡ at)

-- each label of so many bytes that begins with these comes after the other, where one of them decides
abbrev pub LabelMayFollow : List ℕ → List ℕ → ℕ → Type 0
LabelMayFollow elder begun count = (a rest : List ℕ) → length a ≡ count → a ≡ begun ++ rest → decided_at elder a ≤ length begun → comes_after (Some elder) a ≡ true

-- so many labels that begin as these bytes do, up to the one at this offset, don't come after the others, as that byte decides
pub record LabelsAreEarly (p : Path) (begun : List ℕ) (count at : ℕ) : Type 0 where
  pub there : at < length begun
  pub early : (s : Path) (more rest : List ℕ) → length s ≡ count → flat_map counted_bytes s ++ more ≡ take (at + 1) begun ++ rest → (is_lt (path_cmp p s) ≡ false) × (labels_decided_at p s ≡ at)

-- so many labels that begin with these bytes come after the others, where one of the bytes decides
abbrev pub LabelsMayFollow : Path → List ℕ → ℕ → Type 0
LabelsMayFollow p begun count =
    (s : Path) (more rest : List ℕ) → length s ≡ count → flat_map counted_bytes s ++ more ≡ begun ++ rest → labels_decided_at p s < length begun → is_lt (path_cmp p s) ≡ true

-- the same of a path
pub record PathIsEarly (p : Path) (begun : List ℕ) (at : ℕ) : Type 0 where
  pub there : at < length begun
  pub early : (s : Path) (more rest : List ℕ) → path_bytes s ++ more ≡ take (at + 1) begun ++ rest → (is_lt (path_cmp p s) ≡ false) × (path_decided_at p s ≡ at)

abbrev pub PathMayFollow : Path → List ℕ → Type 0
PathMayFollow p begun = (s : Path) (more rest : List ℕ) → path_bytes s ++ more ≡ begun ++ rest → path_decided_at p s < length begun → is_lt (path_cmp p s) ≡ true

-- where reading stopped that began at this offset: at the end of what stands there, or at the fault
abbrev pub end_of : {T : Type 0} → Result (T × ℕ) FormatFault → ℕ → ℕ
end_of (Ok x) at = x.1
end_of (Err (BadByte n)) at = n
end_of (Err Memory) at = at
