-- The grammar: what may stand at each position of a statement, and what statement the tokens are.
use Rattle.cp_path.specs.declared.limits.TheConstants.{LABELS_MAX}
use Rattle.std.specs.Prelude.{ℕ, ◌==◌, ◌||◌, List, [], ◌∷◌, ◌++◌, Bool, length, nat_le, codes, if◌then◌else◌, Result, Ok, Err}
use Rattle.std.specs.List.{list_any}
use Rattle.std.specs.Str.{bytes_eq}
use Rattle.std.specs.Str.Lossy.{utf8_valid_len}
use Rattle.std.specs.declared.option.Option.{Option}
use Rattle.std.specs.declared.option.Option.TheVariants.{None, Some}
use Rattle.std.specs.BTreeMap.{insert_entry}
use Rattle.cp_path.specs.Text.{is_name, text_cmp, text_eq}
use Rattle.cp_path.specs.Place.{Label, Path, at_target, target}
use Rattle.cp_spelling.specs.Words.{place_reading, label_reading, value_reading, string_reading}
use Rattle.cp_path.specs.declared.loc.Loc.{Loc}
use Rattle.cp_path.specs.declared.fault.PathFault.{PathFault}
use Rattle.cp_model.specs.Literals.{literal_rows, rows_under}
use Rattle.cp_model.specs.declared.row.Content.{Content}
use Rattle.cp_model.specs.declared.literal.Literal.{Literal}
use Rattle.cp_model.specs.declared.literal.Literal.TheVariants as literal
use Rattle.cp_model.specs.declared.op.Op.TheVariants.{Ins, Del, Copy}
use Rattle.cp_model.specs.declared.query.Query.TheVariants as query
use Rattle.cp_model.specs.declared.query.Form.TheVariants as form
use Rattle.cp_lang.specs.Lexer.{Shape, opens, closes, colon, comma, word, quotes, Token, tokens_of}
use Rattle.cp_lang.specs.Decimal.{decimal_value}
use Rattle.cp_lang.specs.declared.syntax_tree.Stmt.{Stmt}
use Rattle.cp_lang.specs.declared.syntax_tree.Stmt.TheVariants as stmt
use Rattle.cp_lang.specs.declared.syntax_tree.StmtFault.{StmtFault}
use Rattle.cp_lang.specs.declared.syntax_tree.StmtFault.TheVariants as fault

-- ---- literal trees

-- the edges of a node, in the order of their labels
abbrev pub Edges : Type 0
Edges = List (Label × Literal)

-- a node whose closing brace is still to come: the label that leads to it, and its edges so far
pub record Level : Type 0 where
  pub label : Label
  pub edges : Edges

-- the rows below a node with these edges
abbrev pub rows_of_edges : Edges → List (Path × Content)
rows_of_edges [] = []
rows_of_edges (e ∷ es) = rows_under e.0 (literal_rows e.1) ++ rows_of_edges es

-- the node with these edges
abbrev pub node : Edges → Literal
node es = literal.Node (rows_of_edges es)

-- an edge of this label is there
abbrev pub has_edge : Label → Edges → Bool
has_edge a es = list_any (λ e. text_eq a e.0) es

-- ---- positions

-- the queries that name a place
pub data Question : Type 0 where
  asks_src : Question
  asks_hist : Question
  asks_mod : Question
  asks_trace : Question
  asks_from : Question

-- what is wanted next
pub data Spot : Type 0 where
  -- a statement's first word
  start : Spot
  -- ins { LABEL : TREE } into PLACE
  ins_open : Spot
  ins_label : Spot
  -- the colon behind a label, and then its tree, within these nodes, the innermost first
  tree_colon : Label → List Level → Spot
  tree : Label → List Level → Spot
  -- behind an opening brace: a label or the closing brace
  first_edge : List Level → Spot
  -- behind a comma: a label
  next_edge : List Level → Spot
  -- behind an edge: a comma or the closing brace
  edge_end : List Level → Spot
  ins_close : Label → Literal → Spot
  ins_into : Label → Literal → Spot
  ins_place : Label → Literal → Spot
  -- del LABEL from PLACE
  del_label : Spot
  del_from : Label → Spot
  del_place : Label → Spot
  -- copy PLACE into PLACE
  copy_origin : Spot
  copy_into : Loc → Spot
  copy_place : Loc → Spot
  -- load NAME json FILE, load NAME csv FILE, and perhaps by LABEL
  load_name : Spot
  load_form : List ℕ → Spot
  json_file : List ℕ → Spot
  csv_file : List ℕ → Spot
  csv_by : List ℕ → List ℕ → Spot
  csv_column : List ℕ → List ℕ → Spot
  -- a query's place
  asked_place : Question → Spot
  -- show, and perhaps a place
  show_place : Spot
  -- records, and perhaps a number
  records_tid : Spot
  -- nothing
  ended : Stmt → Spot

-- what a token does at a position: it leads on, it can't stand there, or it is read with a fault
pub data Move : Type 0 where
  goes : Spot → Move
  cant : Move
  bad : PathFault → Move

-- ---- one token

-- the opening brace leads on
abbrev pub at_open : Shape → Spot → Move
at_open opens next = goes next
at_open s next = cant

-- the closing brace leads on
abbrev pub at_close : Shape → Spot → Move
at_close closes next = goes next
at_close s next = cant

-- the colon leads on
abbrev pub at_colon : Shape → Spot → Move
at_colon colon next = goes next
at_colon s next = cant

-- the key word leads on
abbrev pub at_word : List ℕ → Shape → Spot → Move
at_word text (word w) next = if bytes_eq w text then goes next else cant
at_word text s next = cant

-- what is read leads on
abbrev pub by_reading : {X : Type 0} → Result X PathFault → (X → Move) → Move
by_reading (Ok x) next = next x
by_reading (Err e) next = bad e

-- a word or a quoted token is read
abbrev pub reading_of : {X : Type 0} → (List ℕ → Result X PathFault) → Shape → (X → Move) → Move
reading_of read (word w) next = by_reading (read w) next
reading_of read (quotes w) next = by_reading (read w) next
reading_of read s next = cant

-- a label leads on
abbrev pub at_label : Shape → (Label → Move) → Move
at_label s next = reading_of label_reading s next

-- a place leads on
abbrev pub at_place : Shape → (Loc → Move) → Move
at_place s next = reading_of place_reading s next

-- the name of a source leads on
abbrev pub at_name : Shape → (List ℕ → Move) → Move
at_name (word w) next = if is_name w then (if text_eq w target then cant else next w) else cant
at_name s next = cant

-- what is there leads on
abbrev pub if_some : {X : Type 0} → Option X → (X → Move) → Move
if_some None next = cant
if_some (Some x) next = next x

-- the name of a file leads on
abbrev pub at_file : Shape → (List ℕ → Move) → Move
at_file (quotes w) next = if_some (string_reading w) next
at_file s next = cant

-- a number leads on
abbrev pub at_number : Shape → (ℕ → Move) → Move
at_number (word w) next = if_some (decimal_value w) next
at_number s next = cant

-- ---- trees

-- the tree of this label is whole: the insertion's own, or an edge of the innermost node
abbrev pub after_tree : Label → Literal → List Level → Spot
after_tree a t [] = ins_close a t
after_tree a t (l ∷ ls) = edge_end (record { label = l.label; edges = insert_entry text_cmp l.edges a t } ∷ ls)

-- the innermost node is whole
abbrev pub close_node : List Level → Move
close_node [] = cant
close_node (l ∷ ls) = goes (after_tree l.label (node l.edges) ls)

-- a label of the innermost node: not a second time, and not behind as many labels as a way may have
abbrev pub new_edge : List Level → Label → Move
new_edge [] a = cant
new_edge (l ∷ ls) a = if nat_le LABELS_MAX (length (l ∷ ls)) || has_edge a l.edges then cant else goes (tree_colon a (l ∷ ls))

-- a value, or the opening brace of a node
abbrev pub at_tree : Label → List Level → Shape → Move
at_tree a ls opens = goes (first_edge (record { label = a; edges = [] } ∷ ls))
at_tree a ls s = reading_of value_reading s (λ v. goes (after_tree a (literal.Leaf v) ls))

-- a label, or the closing brace of a node without edges
abbrev pub at_first : List Level → Shape → Move
at_first ls closes = close_node ls
at_first ls s = at_label s (new_edge ls)

-- one edge more, or the end of the node
abbrev pub at_edge_end : List Level → Shape → Move
at_edge_end ls comma = goes (next_edge ls)
at_edge_end ls closes = close_node ls
at_edge_end ls s = cant

-- ---- statements

-- the position behind the first word of a question
abbrev pub after_question : List ℕ → Move
after_question w =
    if bytes_eq w (codes "src") then goes (asked_place asks_src)
    else (if bytes_eq w (codes "hist") then goes (asked_place asks_hist)
    else (if bytes_eq w (codes "mod") then goes (asked_place asks_mod)
    else (if bytes_eq w (codes "trace") then goes (asked_place asks_trace)
    else (if bytes_eq w (codes "from") then goes (asked_place asks_from)
    else (if bytes_eq w (codes "show") then goes show_place
    else (if bytes_eq w (codes "records") then goes records_tid
    else (if bytes_eq w (codes "stats") then goes (ended (stmt.Ask query.Stats)) else cant)))))))

-- the position behind a statement's first word
abbrev pub after_start : List ℕ → Move
after_start w =
    if bytes_eq w (codes "ins") then goes ins_open
    else (if bytes_eq w (codes "del") then goes del_label
    else (if bytes_eq w (codes "copy") then goes copy_origin
    else (if bytes_eq w (codes "commit") then goes (ended stmt.Commit)
    else (if bytes_eq w (codes "abort") then goes (ended stmt.Abort)
    else (if bytes_eq w (codes "load") then goes load_name else after_question w)))))

-- a statement's first word
abbrev pub at_start : Shape → Move
at_start (word w) = after_start w
at_start s = cant

-- the form of a file
abbrev pub at_form : List ℕ → Shape → Move
at_form n (word w) =
    if bytes_eq w (codes "json") then goes (json_file n) else (if bytes_eq w (codes "csv") then goes (csv_file n) else cant)
at_form n s = cant

-- the query of a place
abbrev pub query_of : Question → Loc → Stmt
query_of asks_src q = stmt.Ask (query.Src q)
query_of asks_hist q = stmt.Ask (query.Hist q)
query_of asks_mod q = stmt.Ask (query.Mod q)
query_of asks_trace q = stmt.Ask (query.Trace q)
query_of asks_from q = stmt.Ask (query.From q)

-- the loading of a JSON file
abbrev pub json_load : List ℕ → List ℕ → Stmt
json_load n f = stmt.Load (record { name = n; form = form.Json; file = f })

-- the loading of a CSV file
abbrev pub csv_load : List ℕ → List ℕ → Option Label → Stmt
csv_load n f key = stmt.Load (record { name = n; form = form.Csv key; file = f })

-- what a token does at each position
unfoldable pub takes : Spot → Shape → Move
takes start s = at_start s
takes ins_open s = at_open s ins_label
takes ins_label s = at_label s (λ a. goes (tree_colon a []))
takes (tree_colon a ls) s = at_colon s (tree a ls)
takes (tree a ls) s = at_tree a ls s
takes (first_edge ls) s = at_first ls s
takes (next_edge ls) s = at_label s (new_edge ls)
takes (edge_end ls) s = at_edge_end ls s
takes (ins_close a t) s = at_close s (ins_into a t)
takes (ins_into a t) s = at_word (codes "into") s (ins_place a t)
takes (ins_place a t) s = at_place s (λ p. goes (ended (stmt.Op (Ins p a t))))
takes del_label s = at_label s (λ a. goes (del_from a))
takes (del_from a) s = at_word (codes "from") s (del_place a)
takes (del_place a) s = at_place s (λ p. goes (ended (stmt.Op (Del a p))))
takes copy_origin s = at_place s (λ q. goes (copy_into q))
takes (copy_into q) s = at_word (codes "into") s (copy_place q)
takes (copy_place q) s = at_place s (λ p. goes (ended (stmt.Op (Copy q p))))
takes load_name s = at_name s (λ n. goes (load_form n))
takes (load_form n) s = at_form n s
takes (json_file n) s = at_file s (λ f. goes (ended (json_load n f)))
takes (csv_file n) s = at_file s (λ f. goes (csv_by n f))
takes (csv_by n f) s = at_word (codes "by") s (csv_column n f)
takes (csv_column n f) s = at_label s (λ a. goes (ended (csv_load n f (Some a))))
takes (asked_place k) s = at_place s (λ q. goes (ended (query_of k q)))
takes show_place s = at_place s (λ q. goes (ended (stmt.Show q)))
takes records_tid s = at_number s (λ t. goes (ended (stmt.Ask (query.Records (Some t)))))
takes (ended x) s = cant

-- the statement that is whole at a position, or that the text of so many bytes ends too early
abbrev pub end_of : ℕ → Spot → Result Stmt StmtFault
end_of n (ended x) = Ok x
end_of n show_place = Ok (stmt.Show (at_target []))
end_of n records_tid = Ok (stmt.Ask (query.Records None))
end_of n (csv_by name f) = Ok (csv_load name f None)
end_of n s = Err (fault.Syntax n)

-- the first token that can't stand, or is read with a fault, is the refusal
abbrev pub refused_or : Move → ℕ → (Spot → Result Stmt StmtFault) → Result Stmt StmtFault
refused_or (goes s) at next = next s
refused_or cant at next = Err (fault.Syntax at)
refused_or (bad e) at next = Err (fault.Place at e)

-- the tokens in their order, from a position of a text of so many bytes
unfoldable pub reads : ℕ → Spot → List Token → Result Stmt StmtFault
reads n s [] = end_of n s
reads n s (t ∷ ts) = refused_or (takes s t.shape) t.at (λ next. reads n next ts)

-- the statement that a text is, or why it is none
unfoldable pub statement_reading : List ℕ → Result Stmt StmtFault
statement_reading text = reads (length text) start (tokens_of text)

-- bytes are a text, up to the first that isn't UTF-8
abbrev pub bytes_reading : List ℕ → Result Stmt StmtFault
bytes_reading bs = if utf8_valid_len bs == length bs then statement_reading bs else Err (fault.Syntax (utf8_valid_len bs))
