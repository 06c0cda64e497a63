-- What an aged tree answers about its places, and a state about itself.
use Rattle.std.specs.Prelude.{ℕ, ◌-◌, ◌==◌, Bool, ◌&&◌, List, [], ◌∷◌, map, reverse, length, nat_lt, if◌then◌else◌, filter}
use Rattle.std.specs.List.{filter_map, flat_map}
use Rattle.std.specs.declared.option.Option.{Option}
use Rattle.std.specs.declared.option.Option.TheVariants.{None, Some}
use Rattle.cp_model.specs.Place.{Path, at_target, in_target}
use Rattle.cp_model.specs.Keyed as keyed
use Rattle.cp_model.specs.Subtrees.{is_there, below}
use Rattle.cp_model.specs.Past.{Event, born, copied, lost, AgedTree, past_at}
use Rattle.cp_model.specs.History.{State}
use Rattle.cp_path.specs.declared.loc.Loc.{Loc}
use Rattle.cp_model.specs.declared.record.Record.{Record}
use Rattle.cp_model.specs.declared.answer.Segment.{Segment}
use Rattle.cp_model.specs.declared.answer.Trace.{Trace}
use Rattle.cp_model.specs.declared.answer.TraceEnd.{TraceEnd}
use Rattle.cp_model.specs.declared.answer.TraceEnd.TheVariants as end
use Rattle.cp_model.specs.declared.answer.FromAnswer.{FromAnswer}
use Rattle.cp_model.specs.declared.answer.FromAnswer.TheVariants as came
use Rattle.cp_model.specs.declared.answer.Stats.{Stats}
use Rattle.cp_model.specs.declared.answer.Answer.{Answer}
use Rattle.cp_model.specs.declared.answer.Answer.TheVariants as answer
use Rattle.cp_model.specs.declared.query.Query.{Query}
use Rattle.cp_model.specs.declared.query.Query.TheVariants as query

-- ---- trace

-- the data stood at the path c of T from the version low to the version high
abbrev pub segment : Path → ℕ → ℕ → Segment
segment c low high = record { loc = at_target c; low = low; high = high }

-- a newer segment before a trace
abbrev pub after_segment : Segment → Trace → Trace
after_segment s t = record { segments = s ∷ t.segments; end = t.end }

-- one segment, and the end
abbrev pub alone : Segment → TraceEnd → Trace
alone s e = record { segments = s ∷ []; end = e }

-- events from the newest; the data stood at c up to the version high
abbrev pub trace_from_events : Path → ℕ → List Event → Trace
trace_from_events c high [] = alone (segment c 0 high) end.Start
trace_from_events c high (lost t ∷ es) = trace_from_events c high es
trace_from_events c high (born t ∷ es) = alone (segment c t high) end.New
trace_from_events c high (copied t q ∷ es) =
    if in_target q then after_segment (segment c t high) (trace_from_events q.path (t - 1) es) else alone (segment c t high) (end.Source q)

-- the places at which the data stood, newest first, and where it came from
abbrev pub trace : ℕ → AgedTree → Path → Trace
trace now a p = trace_from_events p now (reverse (past_at a p))

-- ---- src, hist, mod, from

-- the Tid of the first event, if it is an insertion
abbrev pub src_of : List Event → Option ℕ
src_of [] = None
src_of (born t ∷ es) = Some t
src_of (copied t q ∷ es) = None
src_of (lost t ∷ es) = None

-- the Tid of the insertion with which the past begins
abbrev pub src : AgedTree → Path → Option ℕ
src a p = src_of (past_at a p)

-- the Tid of a copy
abbrev pub copy_tid : Event → Option ℕ
copy_tid (copied t q) = Some t
copy_tid (born t) = None
copy_tid (lost t) = None

-- the Tids of the copies
abbrev pub hist : AgedTree → Path → List ℕ
hist a p = filter_map copy_tid (past_at a p)

-- the Tid of an event
abbrev pub tid_of : Event → ℕ
tid_of (copied t q) = t
tid_of (born t) = t
tid_of (lost t) = t

-- into a rising list without repeats
abbrev pub insert_tid : ℕ → List ℕ → List ℕ
insert_tid t [] = t ∷ []
insert_tid t (u ∷ us) = if nat_lt t u then t ∷ u ∷ us else (if t == u then u ∷ us else u ∷ insert_tid t us)

-- in order, each once
abbrev pub tids_in_order : List ℕ → List ℕ
tids_in_order [] = []
tids_in_order (t ∷ ts) = insert_tid t (tids_in_order ts)

-- the Tids of all events at or below p
abbrev pub mod_tids : AgedTree → Path → List ℕ
mod_tids a p = tids_in_order (flat_map (λ e. map tid_of e.1.past) (below p a))

-- the newest insertion or copy of events from the newest
abbrev pub newest : List Event → FromAnswer
newest [] = came.Start
newest (lost t ∷ es) = newest es
newest (born t ∷ es) = came.New t
newest (copied t q ∷ es) = came.At q t

-- where the data came from at last
abbrev pub from : AgedTree → Path → FromAnswer
from a p = newest (reverse (past_at a p))

-- ---- records and numbers

-- the records of one step, or all
abbrev pub records : State → Option ℕ → List Record
records s None = s.rows
records s (Some t) = filter (λ r. r.tid == t) s.rows

-- the numbers of a state
abbrev pub stats : State → Stats
stats s = record { kind = s.kind; tid = s.now; transactions = s.commits; records = length s.rows; nodes = keyed.len s.tree; sources = length s.sources }

-- ---- queries

-- the place is in the committed tree
abbrev pub has_place : State → Loc → Bool
has_place s q = in_target q && is_there s.tree q.path

-- the answer, if its place is there
abbrev pub answer_at : State → Loc → Answer → Option Answer
answer_at s q a = if has_place s q then Some a else None

-- the answer to a query; none where its place isn't there
unfoldable pub answer_to : State → Query → Option Answer
answer_to s (query.Src q) = answer_at s q (answer.Src (src s.tree q.path))
answer_to s (query.Hist q) = answer_at s q (answer.Tids (hist s.tree q.path))
answer_to s (query.Mod q) = answer_at s q (answer.Tids (mod_tids s.tree q.path))
answer_to s (query.Trace q) = answer_at s q (answer.Trace (trace s.now s.tree q.path))
answer_to s (query.From q) = answer_at s q (answer.From (from s.tree q.path))
answer_to s (query.Records t) = Some (answer.Records (records s t))
answer_to s query.Stats = Some (answer.Stats (stats s))
