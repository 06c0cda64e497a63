-- What a source file gives: its tree, or the first of the refusals of its reading.
use Rattle.cp_workspace.specs.declared.limits.TheConstants.{FILE_MAX}
use Rattle.std.specs.Prelude.{ℕ, List, length, nat_lt, if◌then◌else◌, Result, Ok, Err}
use Rattle.std.specs.declared.option.Option.{Option}
use Rattle.std.specs.declared.option.Option.TheVariants.{None, Some}
use Rattle.cp_outside.specs.FileReads.{FileTable}
use Rattle.cp_model.specs.Tree.{Tree}
use Rattle.cp_model.specs.declared.query.Form.{Form}
use Rattle.cp_model.specs.declared.query.Form.TheVariants.{Json, Csv}
use Rattle.cp_lang.specs.declared.syntax_tree.Load.{Load}
use Rattle.cp_sources.specs.JsonTrees.{json_tree}
use Rattle.cp_sources.specs.declared.json_fault.JsonFault.{JsonFault}
use Rattle.cp_sources.specs.declared.json_fault.JsonFault.TheVariants as json
use Rattle.cp_sources.specs.CsvTrees.{csv_tree}
use Rattle.cp_sources.specs.declared.csv_fault.CsvFault.{CsvFault}
use Rattle.cp_sources.specs.declared.csv_fault.CsvFault.TheVariants as csv
use Rattle.cp_reply.specs.declared.reply.Why.{Why}
use Rattle.cp_reply.specs.declared.reply.Why.TheVariants as why
use Rattle.cp_reply.specs.Session.{FetchedFile, gives, withholds}

-- why a JSON text that is loaded under the name gives no tree; want of memory is no refusal
abbrev pub json_why : List ℕ → JsonFault → Why
json_why name json.NotJson = why.NotJson
json_why name json.LabelTooLong = why.LabelTooLong
json_why name json.TooDeep = why.PlaceTooDeep
json_why name json.PathTooLong = why.PlaceTooLong
json_why name json.TextTooLong = why.TextTooLong
json_why name json.TooMany = why.TooMany
json_why name json.TooBig = why.TooBig
json_why name (json.NotWhole p) = why.NotWhole (record { db = name; path = p })
json_why name json.Memory = why.NotJson

-- why a CSV text gives no tree; want of memory is no refusal
abbrev pub csv_why : CsvFault → Why
csv_why csv.NoHeader = why.NoHeader
csv_why (csv.NotUtf8 n) = why.NotUtf8 n
csv_why csv.LabelTooLong = why.LabelTooLong
csv_why (csv.RepeatedHeader n) = why.RepeatedHeader n
csv_why csv.NoColumn = why.NoColumn
csv_why (csv.Ragged n) = why.Ragged n
csv_why csv.TextTooLong = why.TextTooLong
csv_why (csv.RepeatedKey n) = why.RepeatedKey n
csv_why csv.TooMany = why.TooMany
csv_why csv.TooBig = why.TooBig
csv_why csv.Memory = why.NoHeader

-- a JSON text
abbrev pub json_given : List ℕ → Result Tree JsonFault → FetchedFile
json_given name (Ok t) = gives t
json_given name (Err e) = withholds (json_why name e)

-- a CSV text
abbrev pub csv_given : Result Tree CsvFault → FetchedFile
csv_given (Ok t) = gives t
csv_given (Err e) = withholds (csv_why e)

-- bytes of either form
abbrev pub form_given : List ℕ → Form → List ℕ → FetchedFile
form_given name Json bytes = json_given name (json_tree name bytes)
form_given name (Csv key) bytes = csv_given (csv_tree bytes key)

-- a file, which may be none, that is loaded under the name
abbrev pub file_gives : List ℕ → Form → Option (List ℕ) → FetchedFile
file_gives name form None = withholds why.NoFile
file_gives name form (Some bytes) =
    if nat_lt FILE_MAX (length bytes) then withholds why.FileTooLong else form_given name form bytes

-- what a load finds in these files
abbrev pub fetch : FileTable → Load → FetchedFile
fetch files l = file_gives l.name l.form (files l.file)
