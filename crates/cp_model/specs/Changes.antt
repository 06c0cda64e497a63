-- What a store answers over the rows that it keeps.
use Rattle.std.specs.Prelude.{ℕ, ◌+◌, ◌≡◌, ◌==◌, ◌&&◌, ◌||◌, Bool, true, List, [], ◌∷◌, not, nat_lt, is_some, filter, if◌then◌else◌}
use Rattle.std.specs.List.{list_all}
use Rattle.std.specs.Ordering.{is_lt}
use Rattle.std.specs.declared.option.Option.{Option}
use Rattle.std.specs.declared.option.Option.TheVariants.{None, Some}
use Rattle.cp_path.specs.declared.loc.Loc.{Loc}
use Rattle.cp_model.specs.Place.{in_target, path_cmp}
use Rattle.cp_model.specs.declared.effect.Effect.TheVariants.{New as made, From as from}
use Rattle.cp_model.specs.Rows.{Reading, left, gone}
use Rattle.cp_model.specs.Leaps.{last}
use Rattle.cp_model.specs.Records.{reads}
use Rattle.cp_model.specs.declared.kind.Kind.{Kind}
use Rattle.cp_model.specs.declared.record.Record.{Record}
use Rattle.cp_model.specs.declared.record.RecOp.{RecOp}
use Rattle.cp_model.specs.declared.record.RecOp.TheVariants as op
use Rattle.cp_model.specs.declared.change.Change.{Change}
use Rattle.cp_model.specs.declared.change.What.{What}
use Rattle.cp_model.specs.declared.change.What.TheVariants.{New, From, Gone}

-- what a change tells of its place
abbrev pub reading_of_what : What → Reading
reading_of_what New = left made
reading_of_what (From q) = left (from q)
reading_of_what Gone = gone

-- the Tid of a change, and what it tells
abbrev pub change_told : Option Change → Option (ℕ × Reading)
change_told None = None
change_told (Some c) = Some (c.tid, reading_of_what c.what)

-- the greatest Tid up to t at which the rows tell of the place other than that it is the same, with what they tell; no
-- row is of a place of a source
unfoldable pub change_at : Kind → List Record → ℕ → Loc → Option (ℕ × Reading)
change_at k rs t q = if in_target q then last (reads k rs) t q.path else None

-- the rows of one step
unfoldable pub records_at : List Record → ℕ → List Record
records_at rs t = filter (λ r. r.tid == t) rs

-- of an earlier step, or of the same step and an earlier place
abbrev pub goes_before : Record → Record → Bool
goes_before r s = nat_lt r.tid s.tid || (r.tid == s.tid && is_lt (path_cmp r.loc.path s.loc.path))

-- each row goes before the next
abbrev pub rises : List Record → Bool
rises [] = true
rises (r ∷ []) = true
rises (r ∷ s ∷ rs) = goes_before r s && rises (s ∷ rs)

-- a row of a place of T, of a step after low up to high
abbrev pub is_between : ℕ → ℕ → Record → Bool
is_between low high r = in_target r.loc && nat_lt low r.tid && nat_lt r.tid (high + 1)

-- a source exactly where the letter is that of a copy
abbrev pub is_source : RecOp → Option Loc → Bool
is_source op.I q = not (is_some q)
is_source op.C q = is_some q
is_source op.D q = not (is_some q)
is_source op.K q = not (is_some q)

-- rows of T that rise by Tid and place, of steps after low up to high, each with a source exactly where it is a copy
pub record AreNext (low high : ℕ) (rs : List Record) : Type 0 where
  pub rise : rises rs ≡ true
  pub sources : list_all (λ r. is_source r.op r.src) rs ≡ true
  pub between : list_all (is_between low high) rs ≡ true
