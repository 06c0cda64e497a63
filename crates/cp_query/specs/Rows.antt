-- Rows that rise, among any.
use Rattle.std.specs.Prelude.{◌≡◌, Bool, true, List, [], ◌∷◌, ◌++◌, if◌then◌else◌, ⊤}
use Rattle.cp_model.specs.declared.answer.Answer.{Answer}
use Rattle.cp_model.specs.declared.answer.Answer.TheVariants as answer
use Rattle.cp_model.specs.declared.record.Record.{Record}
use Rattle.cp_model.specs.Changes.{goes_before, rises}

-- the row comes after the last of these, if there is one
abbrev pub comes_next : List Record → Record → Bool
comes_next [] next = true
comes_next (r ∷ []) next = goes_before r next
comes_next (r ∷ s ∷ rs) next = comes_next (s ∷ rs) next

-- these, and the row where it comes after them
abbrev pub with_next : List Record → Record → List Record
with_next rs next = if comes_next rs next then rs ++ next ∷ [] else rs

-- the records of an answer rise, if it has any
abbrev pub RecordsRise : Answer → Type 0
RecordsRise (answer.Src t) = ⊤
RecordsRise (answer.Tids ts) = ⊤
RecordsRise (answer.Trace t) = ⊤
RecordsRise (answer.From f) = ⊤
RecordsRise (answer.Records rs) = rises rs ≡ true
RecordsRise (answer.Stats s) = ⊤
