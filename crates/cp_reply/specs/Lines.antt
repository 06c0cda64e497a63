-- The lines of replies.
use Rattle.std.specs.Prelude.{ℕ, ◌==◌, List, [], ◌∷◌, ◌++◌, codes, decimal, map, length, if◌then◌else◌}
use Rattle.std.specs.List.{flat_map}
use Rattle.std.specs.declared.option.Option.{Option}
use Rattle.std.specs.declared.option.Option.TheVariants.{None, Some}
use Rattle.cp_path.specs.Spelling.{place_text, label_text}
use Rattle.cp_path.specs.declared.loc.Loc.{Loc}
use Rattle.cp_path.specs.declared.fault.PathFault.{PathFault}
use Rattle.cp_path.specs.declared.fault.PathFault.TheVariants as fault
use Rattle.cp_model.specs.declared.kind.Kind.{Kind}
use Rattle.cp_model.specs.declared.kind.Kind.TheVariants as kind
use Rattle.cp_model.specs.declared.record.RecOp.{RecOp}
use Rattle.cp_model.specs.declared.record.RecOp.TheVariants as op
use Rattle.cp_model.specs.declared.record.Record.{Record}
use Rattle.cp_model.specs.declared.record.Verdict.{Verdict}
use Rattle.cp_model.specs.declared.record.Verdict.TheVariants as verdict
use Rattle.cp_model.specs.declared.query.Query.{Query}
use Rattle.cp_model.specs.declared.query.Query.TheVariants as query
use Rattle.cp_model.specs.declared.answer.Answer.{Answer}
use Rattle.cp_model.specs.declared.answer.Answer.TheVariants as answer
use Rattle.cp_model.specs.declared.answer.Segment.{Segment}
use Rattle.cp_model.specs.declared.answer.Trace.{Trace}
use Rattle.cp_model.specs.declared.answer.TraceEnd.{TraceEnd}
use Rattle.cp_model.specs.declared.answer.TraceEnd.TheVariants as end
use Rattle.cp_model.specs.declared.answer.FromAnswer.{FromAnswer}
use Rattle.cp_model.specs.declared.answer.FromAnswer.TheVariants as came
use Rattle.cp_model.specs.declared.answer.Stats.{Stats}
use Rattle.cp_model.specs.declared.answer.LogLine.{LogLine}
use Rattle.cp_model.specs.Trees.{between, tree_text}
use Rattle.cp_reply.specs.declared.reply.Of.{Of}
use Rattle.cp_reply.specs.declared.reply.Of.TheVariants as of
use Rattle.cp_reply.specs.declared.reply.Why.{Why}
use Rattle.cp_reply.specs.declared.reply.Why.TheVariants as why
use Rattle.cp_reply.specs.declared.reply.Reply.{Reply}
use Rattle.cp_reply.specs.declared.reply.Reply.TheVariants as reply
use Rattle.cp_reply.specs.declared.said.Said.{Said}

-- a line ends with a line feed
abbrev pub line : List ℕ → List ℕ
line text = text ++ 10 ∷ []

-- in an input of several curators, the one whom a line answers
abbrev pub whose_text : Option (List ℕ) → List ℕ
whose_text None = []
whose_text (Some n) = codes "@" ++ (n ++ codes " ")

-- a line for a curator, or for nobody
abbrev pub line_for : Option (List ℕ) → List ℕ → List ℕ
line_for whose text = whose_text whose ++ line text

-- ---- parts of lines

-- the word of a kind
abbrev pub kind_text : Kind → List ℕ
kind_text kind.N = codes "n"
kind_text kind.T = codes "t"
kind_text kind.H = codes "h"
kind_text kind.HT = codes "ht"

-- the letter of a record
abbrev pub letter_text : RecOp → List ℕ
letter_text op.I = codes "I"
letter_text op.C = codes "C"
letter_text op.D = codes "D"
letter_text op.K = codes "K"

-- the source of a copy, behind a space
abbrev pub source_text : Option Loc → List ℕ
source_text None = []
source_text (Some q) = codes " " ++ place_text q

-- the Tid, the letter, the place, and for a copy its source
abbrev pub record_text : Record → List ℕ
record_text r = decimal r.tid ++ (codes " " ++ (letter_text r.op ++ (codes " " ++ (place_text r.loc ++ source_text r.src))))

-- a record, or none
abbrev pub record_or_none : Option Record → List ℕ
record_or_none None = codes "none"
record_or_none (Some r) = record_text r

-- a Tid, or none
abbrev pub tid_or_none : Option ℕ → List ℕ
tid_or_none None = codes "none"
tid_or_none (Some t) = decimal t

-- the Tids with a space between
abbrev pub tids_text : List ℕ → List ℕ
tids_text [] = codes "none"
tids_text (t ∷ ts) = between (codes " ") (map decimal (t ∷ ts))

-- the places with a space between
abbrev pub places_text : List Loc → List ℕ
places_text [] = codes "none"
places_text (q ∷ qs) = between (codes " ") (map place_text (q ∷ qs))

-- one number, or the first and the last
abbrev pub range_text : ℕ → ℕ → List ℕ
range_text low high = if low == high then decimal low else decimal low ++ (codes ".." ++ decimal high)

-- the place and the versions
abbrev pub segment_text : Segment → List ℕ
segment_text s = place_text s.loc ++ (codes "@" ++ (decimal s.low ++ (codes ".." ++ decimal s.high)))

-- how a trace ends
abbrev pub end_text : TraceEnd → List ℕ
end_text end.New = codes "new"
end_text end.Start = codes "start"
end_text (end.Source q) = place_text q

-- the segments and the end
abbrev pub trace_text : Trace → List ℕ
trace_text t = between (codes " < ") (map segment_text t.segments ++ end_text t.end ∷ [])

-- where data came from
abbrev pub from_text : FromAnswer → List ℕ
from_text (came.New t) = codes "new at " ++ decimal t
from_text (came.At q t) = place_text q ++ (codes " at " ++ decimal t)
from_text came.Start = codes "start"

-- the numbers of a state
abbrev pub stats_text : Stats → List ℕ
stats_text s =
    codes "stats: kind " ++ (kind_text s.kind ++ (codes ", tid " ++ (decimal s.tid ++ (codes ", transactions " ++ (decimal s.transactions
    ++ (codes ", records " ++ (decimal s.records ++ (codes ", nodes " ++ (decimal s.nodes ++ (codes ", sources " ++ decimal s.sources))))))))))

-- ---- answers

-- the statement, up to the answer
abbrev pub query_text : Query → List ℕ
query_text (query.Src q) = codes "src " ++ (place_text q ++ codes ": ")
query_text (query.Hist q) = codes "hist " ++ (place_text q ++ codes ": ")
query_text (query.Mod q) = codes "mod " ++ (place_text q ++ codes ": ")
query_text (query.Trace q) = codes "trace " ++ (place_text q ++ codes ": ")
query_text (query.From q) = codes "from " ++ (place_text q ++ codes ": ")
query_text (query.Records t) = []
query_text query.Stats = []

-- the line or lines of an answer
abbrev pub answer_lines_for : Option (List ℕ) → Query → Answer → List ℕ
answer_lines_for whose q (answer.Src t) = line_for whose (query_text q ++ tid_or_none t)
answer_lines_for whose q (answer.Tids ts) = line_for whose (query_text q ++ tids_text ts)
answer_lines_for whose q (answer.Trace t) = line_for whose (query_text q ++ trace_text t)
answer_lines_for whose q (answer.From f) = line_for whose (query_text q ++ from_text f)
answer_lines_for whose q (answer.Records rs) = flat_map (λ r. line_for whose (record_text r)) rs ++ line_for whose (codes "records: " ++ decimal (length rs))
answer_lines_for whose q (answer.Stats s) = line_for whose (stats_text s)

-- for nobody
abbrev pub answer_lines : Query → Answer → List ℕ
answer_lines q a = answer_lines_for None q a

-- ---- refusals

-- why a word is no place, label or value
abbrev pub place_fault_text : PathFault → List ℕ
place_fault_text (fault.BadEscape at) = codes "bad escape"
place_fault_text fault.LabelTooLong = codes "label too long"
place_fault_text fault.TooDeep = codes "place too deep"
place_fault_text fault.PathTooLong = codes "place too long"
place_fault_text fault.BadValue = codes "bad value"
place_fault_text fault.BadName = []
place_fault_text fault.Memory = []

-- a transaction, or the commit of one, that failed at its n-th operation
abbrev pub failed_text : Of → ℕ → List ℕ
failed_text of.Commit n = codes "failed at " ++ decimal n
failed_text _ n = codes "transaction failed at " ++ decimal n

-- why something is refused
abbrev pub why_text : Of → Why → List ℕ
why_text o (why.NoPlace q) = codes "no place " ++ place_text q
why_text o (why.LabelThere a q) = codes "label " ++ (label_text a ++ (codes " is there in " ++ place_text q))
why_text o (why.NoLabel a q) = codes "no label " ++ (label_text a ++ (codes " in " ++ place_text q))
why_text o (why.NotANode q) = codes "not a node " ++ place_text q
why_text o (why.ReadOnly q) = codes "read only " ++ place_text q
why_text o (why.NoSource n) = codes "no source " ++ n
why_text o (why.NoOrigin q) = codes "no origin " ++ place_text q
why_text o why.TooDeep = codes "too deep"
why_text o why.TooMany = codes "too many nodes"
why_text o why.TooBig = codes "tree too big"
why_text o why.TooManyOps = codes "too many operations"
why_text o (why.FailedAt n) = failed_text o n
why_text o why.StatementTooLong = codes "statement too long"
why_text o (why.Syntax at) = codes "syntax at " ++ decimal at
why_text o (why.Place at f) = place_fault_text f ++ (codes " at " ++ decimal at)
why_text o why.NoOperation = codes "no operation"
why_text o why.TransactionTooLarge = codes "transaction too large"
why_text o why.NoFile = codes "no file"
why_text o why.FileTooLong = codes "file too long"
why_text o why.TransactionOpen = codes "a transaction is open"
why_text o (why.SourceThere n) = codes "source " ++ (n ++ codes " is there")
why_text o why.TooManySources = codes "too many sources"
why_text o why.NotJson = codes "not JSON"
why_text o why.LabelTooLong = codes "label too long"
why_text o why.PlaceTooDeep = codes "place too deep"
why_text o why.PlaceTooLong = codes "place too long"
why_text o why.TextTooLong = codes "text too long"
why_text o (why.NotWhole q) = codes "number not whole at " ++ place_text q
why_text o why.NoHeader = codes "no header"
why_text o (why.NotUtf8 n) = codes "not UTF-8 at row " ++ decimal n
why_text o (why.RepeatedHeader n) = codes "repeated header at column " ++ decimal n
why_text o why.NoColumn = codes "no column"
why_text o (why.Ragged n) = codes "row " ++ (decimal n ++ codes " is ragged")
why_text o (why.RepeatedKey n) = codes "repeated key at row " ++ decimal n
why_text o why.StoreTooLarge = codes "store too large"
why_text o why.StoreExists = codes "store exists"
why_text o (why.NoVersion n) = codes "no version " ++ decimal n
why_text o (why.Stale n) = codes "stale at " ++ decimal n

-- what is refused
abbrev pub refused_front : Of → List ℕ
refused_front of.Statement = codes "refused: "
refused_front of.Commit = codes "refused commit: "
refused_front of.Load = codes "refused load: "
refused_front of.Init = codes "refused init: "
refused_front of.Scratch = codes "refused scratch: "
refused_front of.Checkpoint = codes "refused checkpoint: "

-- ---- all lines

-- the stored and the expected one
abbrev pub differs_text : ℕ → List ℕ → List ℕ → List ℕ
differs_text at stored expected = codes "differs at " ++ (decimal at ++ (codes ": stored " ++ (stored ++ (codes ", expected " ++ expected))))

-- what comes of a comparison
abbrev pub verdict_text : Verdict → List ℕ
verdict_text (verdict.Agrees n) = codes "agrees " ++ decimal n
verdict_text (verdict.Differs at stored expected) = differs_text at (record_or_none stored) (record_or_none expected)
verdict_text (verdict.TreeDiffers at q) = codes "differs at " ++ (decimal at ++ (codes ": tree at " ++ place_text q))
verdict_text (verdict.NumberDiffers at stored expected) = differs_text at (decimal stored) (decimal expected)

-- a commit in the log
abbrev pub commit_text : LogLine → List ℕ
commit_text c =
    codes "commit " ++ (range_text c.low c.high ++ (codes " by " ++ (label_text c.curator ++ (codes " at " ++ (decimal c.moment ++ (codes ", operations " ++ decimal c.operations))))))

-- the line or lines of a reply, for a curator or for nobody
unfoldable pub lines_for : Option (List ℕ) → Reply → List ℕ
lines_for whose (reply.Created k nodes) = line_for whose (codes "created " ++ (kind_text k ++ (codes " " ++ decimal nodes)))
lines_for whose (reply.Loaded n nodes) = line_for whose (codes "loaded " ++ (n ++ (codes " " ++ decimal nodes)))
lines_for whose (reply.Committed low high) = line_for whose (codes "committed " ++ range_text low high)
lines_for whose (reply.Aborted count) = line_for whose (codes "aborted " ++ decimal count)
lines_for whose (reply.Answered q a) = answer_lines_for whose q a
lines_for whose (reply.Show q rows) = line_for whose (codes "show " ++ (place_text q ++ (codes ": " ++ tree_text rows)))
lines_for whose (reply.Checkpoint t) = line_for whose (codes "checkpoint " ++ decimal t)
lines_for whose (reply.Verified v) = line_for whose (verdict_text v)
lines_for whose (reply.Logged commits) = flat_map (λ c. line_for whose (commit_text c)) commits ++ line_for whose (codes "log: " ++ decimal (length commits))
lines_for whose (reply.Gen s places born copies) =
    line_for whose (stats_text s) ++ line_for whose (codes "gen: places " ++ (decimal places ++ (codes ", born " ++ (decimal born ++ (codes ", copies " ++ decimal copies)))))
lines_for whose (reply.Uses q qs) = line_for whose (codes "uses " ++ (place_text q ++ (codes ": " ++ places_text qs)))
lines_for whose (reply.Archive versions ranges) = line_for whose (codes "archive: versions " ++ (decimal versions ++ (codes ", ranges " ++ decimal ranges)))
lines_for whose (reply.Refused o w) = line_for whose (refused_front o ++ why_text o w)

-- for nobody
unfoldable pub lines : Reply → List ℕ
lines r = lines_for None r

-- for whom it is
abbrev pub said_lines : Said → List ℕ
said_lines x = lines_for x.whose x.reply
