-- What a history starts from.
use Rattle.std.specs.Prelude.{ℕ, List}
use Rattle.cp_model.specs.Place.{target}
use Rattle.cp_model.specs.declared.query.Form.TheVariants.{Json}
use Rattle.cp_lang.specs.declared.syntax_tree.Load.{Load}
use Rattle.cp_reply.specs.Session.{FetchedFile, gives}
use Rattle.cp_outside.specs.FileReads.{FileTable}
use Rattle.cp_workspace.specs.Fetching.{fetch}
use Rattle.cp_words.specs.declared.command.Start.{Start}
use Rattle.cp_words.specs.declared.command.Start.TheVariants.{Alone, TreeIn}
use Rattle.cp_scratch.specs.Sessions.{empty_tree}

-- the tree of a JSON file, as if it were loaded under the name T
abbrev pub start_load : List ℕ → Load
start_load file = record { name = target; form = Json; file = file }

-- the tree that a history starts from, or why it starts from none
abbrev pub start_given : FileTable → Start → FetchedFile
start_given files Alone = gives empty_tree
start_given files (TreeIn file) = fetch files (start_load file)

-- how many files are read for the start tree
abbrev pub start_reads : Start → ℕ
start_reads Alone = 0
start_reads (TreeIn file) = 1
