-- The operations of a drawn script.
use Rattle.std.specs.Prelude.{ℕ, zero, suc, ◌+◌, List, [], ◌∷◌, ◌++◌, length, codes, decimal, slice_index}
use Rattle.std.specs.List.{remove}
use Rattle.cp_path.specs.Place.{Label, at_target}
use Rattle.cp_model.specs.declared.literal.Literal.TheVariants as literal
use Rattle.cp_model.specs.declared.op.Op.{Op}
use Rattle.cp_model.specs.declared.op.Op.TheVariants.{Ins, Del, Copy}
use Rattle.cp_gen.specs.declared.choice.Choice.{Choice}
use Rattle.cp_gen.specs.declared.choice.Choice.TheVariants.{Insert, CopyIn, CopyInside, Delete}
use Rattle.cp_gen.specs.Drawing.{drawn_number, next_draw}
use Rattle.cp_gen.specs.Choices.{choice}
use Rattle.cp_gen.specs.Source.{at_source, source_label}

-- the label of a place: e and its number
abbrev pub place_label : ℕ → Label
place_label n = codes "e" ++ decimal n

-- `ins {eN : {}} into T`
abbrev pub insertion : ℕ → Op
insertion n = Ins (at_target []) (place_label n) (literal.Node [])

-- the operation of a choice, where these places are there and n is the next new number
abbrev pub chosen_op : Choice → List ℕ → ℕ → Op
chosen_op Insert there n = insertion n
chosen_op (CopyIn k at) there n = Copy (at_source (source_label k ∷ [])) (at_target (place_label (slice_index there at) ∷ []))
chosen_op (CopyInside from into) there n = Copy (at_target (place_label (slice_index there from) ∷ [])) (at_target (place_label (slice_index there into) ∷ []))
chosen_op (Delete at) there n = Del (place_label (slice_index there at)) (at_target [])

-- the numbers of the places that are there after it
abbrev pub there_after : Choice → List ℕ → ℕ → List ℕ
there_after Insert there n = there ++ n ∷ []
there_after (CopyIn k at) there n = there
there_after (CopyInside from into) there n = there
there_after (Delete at) there n = remove there at

-- the next new number after it
abbrev pub next_after : Choice → ℕ → ℕ
next_after Insert n = n + 1
next_after (CopyIn k at) n = n
next_after (CopyInside from into) n = n
next_after (Delete at) n = n

-- where a script stands: the state of its draws, the numbers of the places that are there, and the next new number
pub record ScriptState : Type 0 where
  pub draws : ℕ
  pub there : List ℕ
  pub next : ℕ

-- where a script begins
abbrev pub first_state : ℕ → ScriptState
first_state seed = record { draws = seed; there = []; next = 0 }

-- the choice of the next operation: one number is drawn for it
abbrev pub next_choice : ScriptState → Choice
next_choice s = choice (length s.there) (drawn_number (next_draw s.draws))

-- the next operation
abbrev pub next_operation : ScriptState → Op
next_operation s = chosen_op (next_choice s) s.there s.next

-- where the script stands after the next operation
abbrev pub next_state : ScriptState → ScriptState
next_state s =
    let c = next_choice s in
    record { draws = next_draw s.draws; there = there_after c s.there s.next; next = next_after c s.next }

-- so many operations from here on
abbrev pub operations : ℕ → ScriptState → List Op
operations zero s = []
operations (suc n) s = next_operation s ∷ operations n (next_state s)
