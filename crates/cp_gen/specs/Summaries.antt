-- What a history has come to, in numbers.
use Rattle.std.specs.Prelude.{ℕ, ◌≡◌, Bool, true, false, List, length, map, is_some, sum_by}
use Rattle.std.specs.List.{count_by}
use Rattle.cp_model.specs.Place.{Path}
use Rattle.cp_model.specs.Keyed as keyed
use Rattle.cp_model.specs.Tree.{Tree}
use Rattle.cp_model.specs.History.{Entry, State, replay}
use Rattle.std.specs.declared.option.Option.TheVariants.{Some}
use Rattle.cp_model.specs.Answers.{src, hist, stats}
use Rattle.cp_model.specs.declared.answer.Answer.{Answer}
use Rattle.cp_model.specs.declared.answer.Answer.TheVariants as answer
use Rattle.cp_model.specs.declared.row.Row.{Row}
use Rattle.cp_reply.specs.declared.reply.Reply.{Reply}
use Rattle.cp_reply.specs.declared.reply.Reply.TheVariants as reply
use Rattle.cp_db.specs.Committed.{HasRows, LeadsTo}
use Rattle.cp_db.specs.Databases.{HoldsSame, HoldsState, IsSameFile}
use Rattle.cp_db.specs.declared.database.Db.{Db}

-- the data at a path was inserted in a step: the answer to `src` has a Tid
abbrev pub is_born : State → Path → Bool
is_born t p = is_some (src t.tree p)

-- how often it was copied: the number of Tids in the answer to `hist`
abbrev pub copies_at : State → Path → ℕ
copies_at t p = length (hist t.tree p)

-- at how many of these paths the data was inserted in a step
abbrev pub count_born : State → List Path → ℕ
count_born t ps = count_by (is_born t) ps

-- how often the data at these paths was copied, added up
abbrev pub count_copies : State → List Path → ℕ
count_copies t ps = sum_by (copies_at t) ps

-- the paths of a state's tree
abbrev pub paths_in : State → List Path
paths_in t = map (λ e. e.0) (keyed.entries t.tree)

-- the numbers of a state, and of its places: how many there are, at how many the data was inserted, and how often it was copied
abbrev pub summary_of : State → Reply
summary_of t = reply.Gen (stats t) (keyed.len t.tree) (count_born t (paths_in t)) (count_copies t (paths_in t))

-- ---- parts

-- whether an answer to `src` has a Tid
abbrev pub has_tid : Answer → Bool
has_tid (answer.Src t) = is_some t
has_tid (answer.Tids ts) = false
has_tid (answer.Trace t) = false
has_tid (answer.From f) = false
has_tid (answer.Records rs) = false
has_tid (answer.Stats n) = false

-- the number of Tids in an answer to `hist`
abbrev pub tid_count : Answer → ℕ
tid_count (answer.Src t) = 0
tid_count (answer.Tids ts) = length ts
tid_count (answer.Trace t) = 0
tid_count (answer.From f) = 0
tid_count (answer.Records rs) = 0
tid_count (answer.Stats n) = 0

-- the paths of rows
abbrev pub row_paths : List Row → List Path
row_paths rows = map (λ r. r.path) rows

-- the database holds this state with its rows, and a history leads there
pub record IsAt {R S : Type 0} (view : R → Tree) (source_view : S → Tree) (d : Db R S) (t : State) : Type 0 where
  pub history : List Entry
  pub led : LeadsTo history t
  pub holds : HoldsState view source_view d t
  pub rows : HasRows d.committed t

-- after queries the database holds the states that it held before, with their rows, and what it keeps of its file is the same
pub record HasAnswered {R S : Type 0} (view : R → Tree) (source_view : S → Tree) (old new : Db R S) : Type 0 where
  pub same : HoldsSame view source_view old new
  pub file : IsSameFile old new
