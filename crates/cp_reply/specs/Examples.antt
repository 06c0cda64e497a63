-- Worked examples: whole sessions over values, each with the text that it writes.
use Rattle.std.specs.Prelude.{ℕ, zero, suc, ◌≡◌, ◌==◌, pos, List, [], ◌∷◌, ◌++◌, true, false, codes, flat_map, map, length, nat_lt, if◌then◌else◌}
use Rattle.std.specs.declared.option.Option.{Option}
use Rattle.std.specs.declared.option.Option.TheVariants.{None, Some}
use Prim.Native.String.{String}
use Rattle.cp_path.specs.Place.{Path, label_eq, child_place}
use Rattle.cp_path.specs.Text.{text_eq}
use Rattle.cp_path.specs.declared.loc.Loc.{Loc}
use Rattle.cp_path.specs.declared.value.Value.TheVariants.{Null, Whole, Text}
use Rattle.cp_model.specs.Keyed as keyed
use Rattle.cp_model.specs.Literals.{literal_rows, edge_rows}
use Rattle.cp_model.specs.Tree.{Tree}
use Rattle.cp_model.specs.History.{log_of}
use Rattle.cp_model.specs.declared.kind.Kind.{Kind}
use Rattle.cp_model.specs.declared.kind.Kind.TheVariants as kind
use Rattle.cp_model.specs.declared.literal.Literal.{Literal}
use Rattle.cp_model.specs.declared.literal.Literal.TheVariants as literal
use Rattle.cp_model.specs.declared.literal.LitEdge.{LitEdge}
use Rattle.cp_model.specs.declared.op.Op.{Op}
use Rattle.cp_model.specs.declared.op.Op.TheVariants.{Ins, Del, Copy}
use Rattle.cp_model.specs.declared.query.Query.TheVariants as query
use Rattle.cp_model.specs.declared.query.Form.TheVariants.{Json, Csv}
use Rattle.cp_lang.specs.declared.cut.Cut.{Cut}
use Rattle.cp_lang.specs.declared.cut.Cut.TheVariants as cut
use Rattle.cp_lang.specs.declared.syntax_tree.Stmt.{Stmt}
use Rattle.cp_lang.specs.declared.syntax_tree.Stmt.TheVariants as stmt
use Rattle.cp_reply.specs.Lines.{lines, said_lines}
use Rattle.cp_reply.specs.declared.reply.Reply.TheVariants as reply
use Rattle.cp_reply.specs.declared.reply.Why.TheVariants as why
use Rattle.cp_reply.specs.Sharing.{statement_in}
use Rattle.cp_reply.specs.Session.{Setting, Session, going, TextReading, says, unread, FetchedFile, gives, withholds, fresh, replies_to, session_after, replies_to_statements, session_after_statements}

-- ---- places, trees and statements in short

-- into the first part
abbrev pub onto_first : ℕ → List (List ℕ) → List (List ℕ)
onto_first x [] = (x ∷ []) ∷ []
onto_first x (w ∷ ws) = (x ∷ w) ∷ ws

-- what stands between the slashes
abbrev pub parts : List ℕ → List (List ℕ)
parts [] = [] ∷ []
parts (x ∷ xs) = if x == 47 then [] ∷ parts xs else onto_first x (parts xs)

abbrev pub place_of : List (List ℕ) → Loc
place_of [] = record { db = []; path = [] }
place_of (name ∷ labels) = record { db = name; path = labels }

-- the name and the labels that stand between the slashes, each as it is
abbrev pub place : String → Loc
place s = place_of (parts (codes s))

abbrev pub whole : ℕ → Literal
whole n = literal.Leaf (Whole (pos n))

abbrev pub null : Literal
null = literal.Leaf Null

abbrev pub text : String → Literal
text s = literal.Leaf (Text (codes s))

abbrev pub edge : String → Literal → LitEdge
edge a t = record { label = codes a; tree = t }

abbrev pub node : List LitEdge → Literal
node es = literal.Node (edge_rows es)

abbrev pub tree : List LitEdge → Tree
tree es = keyed.from_entries (literal_rows (node es))

-- `ins {a : t} into p`
abbrev pub ins : String → Literal → String → Stmt
ins a t p = stmt.Op (Ins (place p) (codes a) t)

-- `del a from p`
abbrev pub del : String → String → Stmt
del a p = stmt.Op (Del (codes a) (place p))

-- `copy q into p`
abbrev pub copy : String → String → Stmt
copy q p = stmt.Op (Copy (place q) (place p))

-- `load n json f`
abbrev pub load : String → String → Stmt
load n f = stmt.Load (record { name = codes n; form = Json; file = codes f })

-- `load n csv f by k`
abbrev pub load_by : String → String → String → Stmt
load_by n f k = stmt.Load (record { name = codes n; form = Csv (Some (codes k)); file = codes f })

abbrev pub ask_src : String → Stmt
ask_src p = stmt.Ask (query.Src (place p))

-- `src p/a`, where the label may have a slash
abbrev pub ask_src_below : String → String → Stmt
ask_src_below p a = stmt.Ask (query.Src (child_place (place p) (codes a)))

abbrev pub ask_hist : String → Stmt
ask_hist p = stmt.Ask (query.Hist (place p))

abbrev pub ask_mod : String → Stmt
ask_mod p = stmt.Ask (query.Mod (place p))

abbrev pub ask_trace : String → Stmt
ask_trace p = stmt.Ask (query.Trace (place p))

abbrev pub ask_from : String → Stmt
ask_from p = stmt.Ask (query.From (place p))

-- `records t`
abbrev pub ask_records : ℕ → Stmt
ask_records t = stmt.Ask (query.Records (Some t))

-- `records`
abbrev pub ask_all_records : Stmt
ask_all_records = stmt.Ask (query.Records None)

abbrev pub ask_stats : Stmt
ask_stats = stmt.Ask query.Stats

abbrev pub show : String → Stmt
show p = stmt.Show (place p)

-- ---- the trees

abbrev pub empty_tree : Tree
empty_tree = tree []

-- `{"c1":{"x":1,"y":3},"c3":{"x":0},"c5":{"x":9,"y":7}}`
abbrev pub curated_tree : Tree
curated_tree =
    tree (edge "c1" (node (edge "x" (whole 1) ∷ edge "y" (whole 3) ∷ []))
    ∷ edge "c3" (node (edge "x" (whole 0) ∷ []))
    ∷ edge "c5" (node (edge "x" (whole 9) ∷ edge "y" (whole 7) ∷ [])) ∷ [])

-- `{"a1":{"x":1,"y":2},"a2":{"x":3},"a3":{"x":7,"y":6}}`
abbrev pub first_source : Tree
first_source =
    tree (edge "a1" (node (edge "x" (whole 1) ∷ edge "y" (whole 2) ∷ []))
    ∷ edge "a2" (node (edge "x" (whole 3) ∷ []))
    ∷ edge "a3" (node (edge "x" (whole 7) ∷ edge "y" (whole 6) ∷ [])) ∷ [])

-- `{"b2":{"x":4},"b3":{"x":6,"y":5}}`
abbrev pub second_source : Tree
second_source = tree (edge "b2" (node (edge "x" (whole 4) ∷ [])) ∷ edge "b3" (node (edge "x" (whole 6) ∷ edge "y" (whole 5) ∷ [])) ∷ [])

-- `{"x":{"a":8}}`
abbrev pub small_source : Tree
small_source = tree (edge "x" (node (edge "a" (whole 8) ∷ [])) ∷ [])

-- `{"x":5}`
abbrev pub one_leaf : Tree
one_leaf = tree (edge "x" (whole 5) ∷ [])

-- a row `g,s,c` of a table with the header `gene,symbol,chrom`, under its gene
abbrev pub gene_row : String → String → String → LitEdge
gene_row g s c = edge g (node (edge "chrom" (text c) ∷ edge "gene" (text g) ∷ edge "symbol" (text s) ∷ []))

-- three rows of it
abbrev pub genes : Tree
genes = tree (gene_row "ENSG01" "BRCA1" "17" ∷ gene_row "ENSG02" "TP53" "17" ∷ gene_row "ENSG03" "EGFR" "7" ∷ [])

-- ---- sessions

abbrev pub example_file : List ℕ → FetchedFile
example_file f =
    if label_eq f (codes "s1.json") then gives first_source
    else if label_eq f (codes "s2.json") then gives second_source
    else if label_eq f (codes "s.json") then gives small_source
    else if label_eq f (codes "x.json") then gives one_leaf
    else if label_eq f (codes "g.csv") then gives genes
    else withholds why.NoFile

-- these files, no curator's name, and room for all
abbrev pub example_setting : Setting
example_setting =
    record {
      read = λ _. unread (why.Syntax 0);
      fetch = λ _ l. example_file l.file;
      fits = λ _ _ _ _. true;
      has_room = λ _ _ _. true;
      curator = [];
      shared = false;
    }

-- the same, but no entry of two operations or more is within the limits
abbrev pub cramped_setting : Setting
cramped_setting = record example_setting { fits = λ _ _ ops _. nat_lt (length ops) 2 }

-- one leaf, where there is a file
abbrev pub leaf_of : Option (List ℕ) → FetchedFile
leaf_of None = withholds why.NoFile
leaf_of (Some bytes) = gives one_leaf

-- the same, but each file that is there has one leaf
abbrev pub told_setting : Setting
told_setting = record example_setting { fetch = λ files l. leaf_of (files l.file) }

-- the same, for this curator
abbrev pub signed_by : String → Setting → Setting
signed_by curator c = record c { curator = codes curator }

-- all that a session writes which begins with this tree and is given these statements
abbrev pub output_with : Setting → Kind → Tree → List Stmt → List ℕ
output_with c k t script = flat_map lines (replies_to_statements c (fresh k t []) script)

abbrev pub output : Kind → Tree → List Stmt → List ℕ
output k t script = output_with example_setting k t script

-- the log of the history to which these statements lead, from an empty tree, where the clock tells these moments
abbrev pub log_lines : Setting → Kind → List ℕ → List Stmt → List ℕ
log_lines c k moments script = lines (reply.Logged (log_of (session_after_statements c (fresh k empty_tree moments) script).history))

-- the lines, each with its line feed
abbrev pub lines_of : List String → List ℕ
lines_of texts = flat_map (λ s. codes s ++ 10 ∷ []) texts

-- ---- copies and pastes from two sources, in each kind

-- two sources are loaded, and ten operations curate the tree from them
abbrev pub curation : List Stmt
curation =
    load "S1" "s1.json" ∷ load "S2" "s2.json"
    ∷ del "c5" "T" ∷ copy "S1/a1/y" "T/c1/y" ∷ ins "c2" (node []) "T" ∷ copy "S1/a2" "T/c2"
    ∷ ins "y" (node []) "T/c2" ∷ copy "S2/b3/y" "T/c2/y" ∷ copy "S1/a3" "T/c3"
    ∷ ins "c4" (node []) "T" ∷ copy "S2/b2" "T/c4" ∷ ins "y" (whole 12) "T/c4" ∷ stmt.Commit ∷ []

-- the naive kind numbers each operation and records each place that it touched; what a copy has replaced is in no past
abbrev pub naive_kind_records_each_place : Type 0
naive_kind_records_each_place =
    output kind.N curated_tree (curation ++ ask_stats ∷ ask_mod "T" ∷ show "T" ∷ [])
    ≡ lines_of ("loaded S1 9" ∷ "loaded S2 6" ∷ "committed 1..10"
    ∷ "stats: kind n, tid 10, transactions 1, records 16, nodes 13, sources 2"
    ∷ "mod T: 1 2 4 6 7 9 10"
    ∷ "show T: {c1 : {x : 1, y : 2}, c2 : {x : 3, y : 5}, c3 : {x : 7, y : 6}, c4 : {x : 4, y : 12}}" ∷ [])

-- the transactional kind has one number for the whole transaction, and records its net effect alone
abbrev pub transactional_kind_records_net_effects : Type 0
transactional_kind_records_net_effects =
    output kind.T curated_tree (curation ++ ask_stats ∷ ask_mod "T" ∷ [])
    ≡ lines_of ("loaded S1 9" ∷ "loaded S2 6" ∷ "committed 1"
    ∷ "stats: kind t, tid 1, transactions 1, records 13, nodes 13, sources 2"
    ∷ "mod T: 1" ∷ [])

-- the hierarchical kind has ten records for ten operations, and answers as the naive one
abbrev pub hierarchical_kind_has_fewer_records : Type 0
hierarchical_kind_has_fewer_records =
    output kind.H curated_tree (curation ++ ask_stats ∷ ask_mod "T" ∷ [])
    ≡ lines_of ("loaded S1 9" ∷ "loaded S2 6" ∷ "committed 1..10"
    ∷ "stats: kind h, tid 10, transactions 1, records 10, nodes 13, sources 2"
    ∷ "mod T: 1 2 4 6 7 9 10" ∷ [])

-- of each operation the hierarchical kind has one record: that of the place which the operation names
abbrev pub hierarchical_kind_records_each_operation_once : Type 0
hierarchical_kind_records_each_operation_once =
    output kind.H curated_tree (curation ++ ask_all_records ∷ [])
    ≡ lines_of ("loaded S1 9" ∷ "loaded S2 6" ∷ "committed 1..10"
    ∷ "1 D T/c5" ∷ "2 C T/c1/y S1/a1/y" ∷ "3 I T/c2" ∷ "4 C T/c2 S1/a2" ∷ "5 I T/c2/y" ∷ "6 C T/c2/y S2/b3/y"
    ∷ "7 C T/c3 S1/a3" ∷ "8 I T/c4" ∷ "9 C T/c4 S2/b2" ∷ "10 I T/c4/y" ∷ "records: 10" ∷ [])

-- the hierarchical-transactional kind has seven; T/c2/y has one although T/c2 does, since that would imply S1/a2/y
abbrev pub implied_records_are_left_out : Type 0
implied_records_are_left_out =
    output kind.HT curated_tree (curation ++ ask_records 1 ∷ [])
    ≡ lines_of ("loaded S1 9" ∷ "loaded S2 6" ∷ "committed 1"
    ∷ "1 C T/c1/y S1/a1/y" ∷ "1 C T/c2 S1/a2" ∷ "1 C T/c2/y S2/b3/y" ∷ "1 C T/c3 S1/a3" ∷ "1 C T/c4 S2/b2" ∷ "1 I T/c4/y" ∷ "1 D T/c5"
    ∷ "records: 7" ∷ [])

-- a trace ends in the source, at the start tree or at the insertion
abbrev pub pasts_end_where_data_came_from : Type 0
pasts_end_where_data_came_from =
    output kind.T curated_tree (curation ++ ask_trace "T/c1/y" ∷ ask_trace "T/c1/x" ∷ ask_from "T/c2/x" ∷ ask_src "T/c4/y" ∷ ask_hist "T/c2/y" ∷ [])
    ≡ lines_of ("loaded S1 9" ∷ "loaded S2 6" ∷ "committed 1"
    ∷ "trace T/c1/y: T/c1/y@1..1 < S1/a1/y"
    ∷ "trace T/c1/x: T/c1/x@0..1 < start"
    ∷ "from T/c2/x: S1/a2/x at 1"
    ∷ "src T/c4/y: 1"
    ∷ "hist T/c2/y: 1" ∷ [])

-- data that was inserted, and data of the start tree
abbrev pub from_tells_new_and_start : Type 0
from_tells_new_and_start =
    output kind.N curated_tree (ins "n" (whole 7) "T" ∷ stmt.Commit ∷ ask_from "T/n" ∷ ask_from "T/c1/x" ∷ ask_src "T/c1/x" ∷ [])
    ≡ lines_of ("committed 1" ∷ "from T/n: new at 1" ∷ "from T/c1/x: start" ∷ "src T/c1/x: none" ∷ [])

-- a trace passes over the loss of a child, which changes the node and not where its data came from
abbrev pub trace_passes_a_loss : Type 0
trace_passes_a_loss =
    output kind.T empty_tree (ins "a" (node (edge "b" (whole 1) ∷ [])) "T" ∷ stmt.Commit ∷ del "b" "T/a" ∷ stmt.Commit
    ∷ ask_trace "T/a" ∷ ask_from "T/a" ∷ ask_mod "T/a"
    ∷ ins "c" null "T" ∷ copy "T/a" "T/c" ∷ stmt.Commit
    ∷ ask_trace "T/c" ∷ ask_src "T/c" ∷ ask_hist "T/c" ∷ ask_mod "T/c" ∷ [])
    ≡ lines_of ("committed 1" ∷ "committed 2"
    ∷ "trace T/a: T/a@1..2 < new" ∷ "from T/a: new at 1" ∷ "mod T/a: 1 2"
    ∷ "committed 3"
    ∷ "trace T/c: T/c@3..3 < T/a@1..2 < new" ∷ "src T/c: 1" ∷ "hist T/c: 3" ∷ "mod T/c: 1 2 3" ∷ [])

-- the records of all commits come in the order of their Tids, or those of one Tid alone
abbrev pub records_of_several_commits : Type 0
records_of_several_commits =
    output kind.N empty_tree (ins "a" (whole 1) "T" ∷ stmt.Commit ∷ ins "b" null "T" ∷ copy "T/a" "T/b" ∷ stmt.Commit ∷ del "a" "T" ∷ stmt.Commit
    ∷ ask_all_records ∷ ask_records 3 ∷ ask_records 5 ∷ [])
    ≡ lines_of ("committed 1" ∷ "committed 2..3" ∷ "committed 4"
    ∷ "1 I T/a" ∷ "2 I T/b" ∷ "3 C T/b T/a" ∷ "4 D T/a" ∷ "records: 4"
    ∷ "3 C T/b T/a" ∷ "records: 1"
    ∷ "records: 0" ∷ [])

pub record CopyPasteHolds : Type 0 where
  pub naive : naive_kind_records_each_place
  pub transactional : transactional_kind_records_net_effects
  pub hierarchical : hierarchical_kind_has_fewer_records
  pub hierarchical_records : hierarchical_kind_records_each_operation_once
  pub hierarchical_transactional : implied_records_are_left_out
  pub pasts : pasts_end_where_data_came_from
  pub from_new : from_tells_new_and_start
  pub loss : trace_passes_a_loss
  pub commits : records_of_several_commits

-- ---- copies inside the tree, and of a whole source

-- data that was copied to another place and deleted at the old one keeps its insertion
abbrev pub moved_data_keeps_its_insertion : Type 0
moved_data_keeps_its_insertion =
    output kind.T empty_tree (ins "a" (whole 1) "T" ∷ stmt.Commit
    ∷ ins "b" (node []) "T" ∷ copy "T/a" "T/b" ∷ del "a" "T" ∷ stmt.Commit
    ∷ ask_src "T/b" ∷ ask_hist "T/b" ∷ ask_trace "T/b" ∷ ask_mod "T" ∷ ask_from "T/b" ∷ [])
    ≡ lines_of ("committed 1" ∷ "committed 2"
    ∷ "src T/b: 1" ∷ "hist T/b: 2" ∷ "trace T/b: T/b@2..2 < T/a@1..1 < new" ∷ "mod T: 1 2" ∷ "from T/b: T/a at 2" ∷ [])

-- the same in the naive kind, where the copy has a number of its own
abbrev pub naive_trace_numbers_each_operation : Type 0
naive_trace_numbers_each_operation =
    output kind.N empty_tree (ins "a" (whole 1) "T" ∷ stmt.Commit
    ∷ ins "b" (node []) "T" ∷ copy "T/a" "T/b" ∷ del "a" "T" ∷ stmt.Commit
    ∷ ask_src "T/b" ∷ ask_hist "T/b" ∷ ask_trace "T/b" ∷ [])
    ≡ lines_of ("committed 1" ∷ "committed 2..4"
    ∷ "src T/b: 1" ∷ "hist T/b: 3" ∷ "trace T/b: T/b@3..4 < T/a@1..2 < new" ∷ [])

-- a node may be copied into a place below itself; the copy is of what stood there before
abbrev pub node_is_copied_into_itself : Type 0
node_is_copied_into_itself =
    output kind.H curated_tree (copy "T/c1" "T/c1/y" ∷ stmt.Commit ∷ ask_records 1 ∷ show "T/c1" ∷ ask_trace "T/c1/y/y" ∷ [])
    ≡ lines_of ("committed 1" ∷ "1 C T/c1/y T/c1" ∷ "records: 1"
    ∷ "show T/c1: {x : 1, y : {x : 1, y : 3}}"
    ∷ "trace T/c1/y/y: T/c1/y/y@1..1 < T/c1/y@0..0 < start" ∷ [])

-- a source that replaces the whole tree has one record where the rest is implied
abbrev pub whole_source_has_one_record : Type 0
whole_source_has_one_record =
    output kind.HT curated_tree (load "S1" "s1.json" ∷ copy "S1" "T" ∷ stmt.Commit ∷ ask_all_records ∷ ask_hist "T" ∷ ask_mod "T" ∷ [])
    ≡ lines_of ("loaded S1 9" ∷ "committed 1" ∷ "1 C T S1" ∷ "records: 1" ∷ "hist T: 1" ∷ "mod T: 1" ∷ [])

-- and a record for each of its nine places where nothing is implied; what it replaced has none
abbrev pub whole_source_in_full : Type 0
whole_source_in_full =
    output kind.T curated_tree (load "S1" "s1.json" ∷ copy "S1" "T" ∷ stmt.Commit ∷ ask_all_records ∷ ask_hist "T" ∷ ask_mod "T" ∷ [])
    ≡ lines_of ("loaded S1 9" ∷ "committed 1"
    ∷ "1 C T S1" ∷ "1 C T/a1 S1/a1" ∷ "1 C T/a1/x S1/a1/x" ∷ "1 C T/a1/y S1/a1/y" ∷ "1 C T/a2 S1/a2" ∷ "1 C T/a2/x S1/a2/x"
    ∷ "1 C T/a3 S1/a3" ∷ "1 C T/a3/x S1/a3/x" ∷ "1 C T/a3/y S1/a3/y" ∷ "records: 9"
    ∷ "hist T: 1" ∷ "mod T: 1" ∷ [])

pub record CopiesHold : Type 0 where
  pub moved : moved_data_keeps_its_insertion
  pub moved_naive : naive_trace_numbers_each_operation
  pub into_itself : node_is_copied_into_itself
  pub whole_source : whole_source_has_one_record
  pub whole_source_full : whole_source_in_full

-- ---- net effects

-- a copy of a place onto itself takes a number and leaves no record, in each kind
abbrev pub copy_onto_itself_leaves_no_record : Kind → Type 0
copy_onto_itself_leaves_no_record k =
    output k empty_tree (ins "a" (whole 1) "T" ∷ stmt.Commit ∷ copy "T/a" "T/a" ∷ stmt.Commit ∷ ask_records 2 ∷ ask_src "T/a" ∷ ask_hist "T/a" ∷ [])
    ≡ lines_of ("committed 1" ∷ "committed 2" ∷ "records: 0" ∷ "src T/a: 1" ∷ "hist T/a: none" ∷ [])

-- a place that was put aside and put back inside a copied node is recorded as kept, and its past is as it was
abbrev pub kept_place_is_recorded : Type 0
kept_place_is_recorded =
    output kind.HT (tree (edge "r" (node (edge "a" (whole 5) ∷ [])) ∷ [])) (load "S" "s.json"
    ∷ ins "tmp" (node []) "T" ∷ copy "T/r" "T/tmp" ∷ copy "S/x" "T/r" ∷ copy "T/tmp/a" "T/r/a" ∷ del "tmp" "T" ∷ stmt.Commit
    ∷ ask_records 1 ∷ ask_hist "T/r/a" ∷ ask_trace "T/r/a" ∷ show "T" ∷ [])
    ≡ lines_of ("loaded S 3" ∷ "committed 1"
    ∷ "1 C T/r S/x" ∷ "1 K T/r/a" ∷ "records: 2"
    ∷ "hist T/r/a: none" ∷ "trace T/r/a: T/r/a@0..1 < start" ∷ "show T: {r : {a : 5}}" ∷ [])

-- what lies below a kept place is kept with it, and needs no record
abbrev pub place_below_a_kept_one_is_kept : Type 0
place_below_a_kept_one_is_kept =
    output kind.HT (tree (edge "r" (node (edge "a" (node (edge "b" (whole 5) ∷ [])) ∷ [])) ∷ [])) (load "S" "s.json"
    ∷ ins "tmp" (node []) "T" ∷ copy "T/r" "T/tmp" ∷ copy "S/x" "T/r" ∷ copy "T/tmp/a" "T/r/a" ∷ del "tmp" "T" ∷ stmt.Commit
    ∷ ask_records 1 ∷ ask_hist "T/r/a/b" ∷ ask_trace "T/r/a/b" ∷ ask_from "T/r/a/b" ∷ ask_mod "T/r" ∷ ask_mod "T/r/a" ∷ show "T" ∷ [])
    ≡ lines_of ("loaded S 3" ∷ "committed 1"
    ∷ "1 C T/r S/x" ∷ "1 K T/r/a" ∷ "records: 2"
    ∷ "hist T/r/a/b: none" ∷ "trace T/r/a/b: T/r/a/b@0..1 < start" ∷ "from T/r/a/b: start" ∷ "mod T/r: 1" ∷ "mod T/r/a: none"
    ∷ "show T: {r : {a : {b : 5}}}" ∷ [])

-- a node that was put aside, changed and put back has a record of the change alone, in both transactional kinds
abbrev pub round_trip_records_the_loss : Kind → Type 0
round_trip_records_the_loss k =
    output k (tree (edge "r" (node (edge "a" (whole 1) ∷ edge "b" (whole 2) ∷ [])) ∷ [])) (ins "tmp" (node []) "T" ∷ copy "T/r" "T/tmp" ∷ del "a" "T/tmp" ∷ copy "T/tmp" "T/r" ∷ del "tmp" "T" ∷ stmt.Commit
    ∷ ask_records 1 ∷ ask_mod "T/r" ∷ [])
    ≡ lines_of ("committed 1" ∷ "1 D T/r/a" ∷ "records: 1" ∷ "mod T/r: 1" ∷ [])

-- data that was made and given up within a transaction leaves no record
abbrev pub temporary_data_leaves_no_record : Type 0
temporary_data_leaves_no_record =
    output kind.T empty_tree (ins "a" (whole 1) "T" ∷ del "a" "T" ∷ stmt.Commit ∷ ask_src "T" ∷ ask_hist "T" ∷ ask_records 1 ∷ [])
    ≡ lines_of ("committed 1" ∷ "src T: none" ∷ "hist T: none" ∷ "records: 0" ∷ [])

pub record NetEffectsHold : Type 0 where
  pub onto_itself_naive : copy_onto_itself_leaves_no_record kind.N
  pub onto_itself_transactional : copy_onto_itself_leaves_no_record kind.T
  pub onto_itself_hierarchical : copy_onto_itself_leaves_no_record kind.H
  pub onto_itself_hierarchical_transactional : copy_onto_itself_leaves_no_record kind.HT
  pub kept : kept_place_is_recorded
  pub below_kept : place_below_a_kept_one_is_kept
  pub round_trip_transactional : round_trip_records_the_loss kind.T
  pub round_trip_hierarchical_transactional : round_trip_records_the_loss kind.HT
  pub temporary : temporary_data_leaves_no_record

-- ---- insertions of whole trees

-- `ins {g : {loc : {chrom : "17"}, sym : "TP53"}} into T`
abbrev pub gene : Stmt
gene = ins "g" (node (edge "loc" (node (edge "chrom" (text "17") ∷ [])) ∷ edge "sym" (text "TP53") ∷ [])) "T"

-- a tree that is inserted at once has one record where the rest is implied
abbrev pub inserted_tree_has_one_record : Type 0
inserted_tree_has_one_record =
    output kind.H empty_tree (gene ∷ stmt.Commit ∷ ask_records 1 ∷ ask_src "T/g/loc/chrom" ∷ show "T" ∷ [])
    ≡ lines_of ("committed 1" ∷ "1 I T/g" ∷ "records: 1" ∷ "src T/g/loc/chrom: 1"
    ∷ "show T: {g : {loc : {chrom : \"17\"}, sym : \"TP53\"}}" ∷ [])

-- and a record for each of its places where nothing is implied
abbrev pub inserted_tree_in_full : Type 0
inserted_tree_in_full =
    output kind.N empty_tree (gene ∷ stmt.Commit ∷ ask_records 1 ∷ [])
    ≡ lines_of ("committed 1" ∷ "1 I T/g" ∷ "1 I T/g/loc" ∷ "1 I T/g/loc/chrom" ∷ "1 I T/g/sym" ∷ "records: 4" ∷ [])

pub record InsertedTreesHold : Type 0 where
  pub one_record : inserted_tree_has_one_record
  pub full : inserted_tree_in_full

-- ---- transactions

-- the first refused operation fails the transaction, which then can only be ended and changes nothing
abbrev pub failed_transaction_changes_nothing : Type 0
failed_transaction_changes_nothing =
    output kind.N empty_tree (ins "a" (whole 1) "T" ∷ del "z" "T" ∷ ins "b" (whole 2) "T" ∷ stmt.Commit ∷ show "T" ∷ [])
    ≡ lines_of ("refused: no label z in T" ∷ "refused: transaction failed at 2" ∷ "refused commit: failed at 2" ∷ "show T: {}" ∷ [])

-- where no transaction is open there is nothing to commit, and an abort goes through
abbrev pub empty_commit_is_refused : Type 0
empty_commit_is_refused =
    output kind.T empty_tree (stmt.Commit ∷ ins "a" (whole 1) "T" ∷ stmt.Commit ∷ stmt.Commit ∷ stmt.Abort ∷ [])
    ≡ lines_of ("refused commit: no operation" ∷ "committed 1" ∷ "refused commit: no operation" ∷ "aborted 0" ∷ [])

-- a label stands once below its node
abbrev pub label_is_inserted_once : Type 0
label_is_inserted_once =
    output kind.N empty_tree (ins "a" (whole 1) "T" ∷ ins "a" (whole 2) "T" ∷ stmt.Commit ∷ [])
    ≡ lines_of ("refused: label a is there in T" ∷ "refused commit: failed at 2" ∷ [])

-- a query sees what is committed, and not the open transaction
abbrev pub query_sees_what_is_committed : Type 0
query_sees_what_is_committed =
    output kind.N empty_tree (ins "a" (node []) "T" ∷ ins "b" (text "x") "T/a" ∷ ask_src "T/a/b" ∷ stmt.Commit ∷ ask_src "T/a/b" ∷ stmt.Abort ∷ [])
    ≡ lines_of ("refused: no place T/a/b" ∷ "committed 1..2" ∷ "src T/a/b: 2" ∷ "aborted 0" ∷ [])

-- operations whose entry is over a limit are given up
abbrev pub commit_that_does_not_fit_is_refused : Type 0
commit_that_does_not_fit_is_refused =
    output_with cramped_setting kind.N empty_tree (ins "a" (whole 1) "T" ∷ ins "b" (whole 2) "T" ∷ stmt.Commit ∷ show "T" ∷ ask_stats
    ∷ ins "b" (whole 2) "T" ∷ stmt.Commit ∷ show "T" ∷ [])
    ≡ lines_of ("refused commit: transaction too large" ∷ "show T: {}" ∷ "stats: kind n, tid 0, transactions 0, records 0, nodes 1, sources 0"
    ∷ "committed 1" ∷ "show T: {b : 2}" ∷ [])

-- the log has each commit with its Tids, who made it and when, and the number of its operations
abbrev pub log_tells_who_and_when : Type 0
log_tells_who_and_when =
    log_lines (signed_by "Ada L" example_setting) kind.N (1000 ∷ 2000 ∷ []) (ins "a" (whole 1) "T" ∷ stmt.Commit ∷ ins "b" (whole 2) "T" ∷ ins "c" (whole 3) "T" ∷ stmt.Commit ∷ [])
    ≡ lines_of ("commit 1 by \"Ada L\" at 1000, operations 1" ∷ "commit 2..3 by \"Ada L\" at 2000, operations 2" ∷ "log: 2" ∷ [])

-- a commit that doesn't fit has taken a moment, one without operations none; where the clock tells no more the moment is 0
abbrev pub moments_are_taken_in_turn : Type 0
moments_are_taken_in_turn =
    log_lines (signed_by "ann" cramped_setting) kind.HT (5 ∷ 6 ∷ []) (stmt.Commit ∷ ins "a" (whole 1) "T" ∷ ins "b" (whole 2) "T" ∷ stmt.Commit
    ∷ ins "c" (whole 3) "T" ∷ stmt.Commit ∷ ins "d" (whole 4) "T" ∷ stmt.Commit ∷ [])
    ≡ lines_of ("commit 1 by ann at 6, operations 1" ∷ "commit 2 by ann at 0, operations 1" ∷ "log: 2" ∷ [])

pub record TransactionsHold : Type 0 where
  pub failed : failed_transaction_changes_nothing
  pub empty : empty_commit_is_refused
  pub label_there : label_is_inserted_once
  pub committed : query_sees_what_is_committed
  pub too_large : commit_that_does_not_fit_is_refused
  pub log : log_tells_who_and_when
  pub moments : moments_are_taken_in_turn

-- ---- refusals of operations

-- each operation alone in a transaction
abbrev pub one_by_one : List Stmt → List Stmt
one_by_one script = flat_map (λ x. x ∷ stmt.Abort ∷ []) script

-- the refusal of each, and the end of its transaction
abbrev pub each_refused : List String → List ℕ
each_refused reasons = flat_map (λ s. lines_of (s ∷ "aborted 0" ∷ [])) reasons

-- of an insertion or a deletion: first that the place isn't of T, then that it isn't there, then that it is a leaf
abbrev pub insertions_and_deletions_are_refused : Type 0
insertions_and_deletions_are_refused =
    output kind.N curated_tree (load "S" "s.json" ∷ one_by_one (
    ins "a" (whole 1) "S/x" ∷ ins "a" (whole 1) "R/x" ∷ ins "a" (whole 1) "T/z" ∷ ins "a" (whole 1) "T/c1/x/z" ∷ ins "a" (whole 1) "T/c1/x"
    ∷ ins "x" (whole 1) "T/c1" ∷ del "a" "S/x" ∷ del "x" "T/z" ∷ del "x" "T/c1/x" ∷ del "z" "T/c1" ∷ []))
    ≡ lines_of ("loaded S 3" ∷ []) ++ each_refused (
    "refused: read only S/x" ∷ "refused: read only R/x" ∷ "refused: no place T/z" ∷ "refused: no place T/c1/x/z" ∷ "refused: not a node T/c1/x"
    ∷ "refused: label x is there in T/c1" ∷ "refused: read only S/x" ∷ "refused: no place T/z" ∷ "refused: not a node T/c1/x" ∷ "refused: no label z in T/c1" ∷ [])

-- of a copy: first that its destination isn't of T, then that this isn't there, then that there is no such source, then that
-- the source has no such place; a leaf may be replaced
abbrev pub copies_are_refused : Type 0
copies_are_refused =
    output kind.N curated_tree (load "S" "s.json" ∷ one_by_one (
    copy "T/c1" "S/x" ∷ copy "R/x" "S/x" ∷ copy "R/x" "T/z" ∷ copy "R/x" "T/c1" ∷ copy "S/y" "T/c1" ∷ copy "T/z" "T/c1/x" ∷ []))
    ≡ lines_of ("loaded S 3" ∷ []) ++ each_refused (
    "refused: read only S/x" ∷ "refused: read only S/x" ∷ "refused: no place T/z" ∷ "refused: no source R" ∷ "refused: no origin S/y" ∷ "refused: no origin T/z" ∷ [])

-- nodes with the label `a`, so many one below the other
abbrev pub nested_nodes : ℕ → Literal
nested_nodes zero = node []
nested_nodes (suc n) = node (edge "a" (nested_nodes n) ∷ [])

-- the place that is so many labels `a` below the root
abbrev pub under : ℕ → Path
under zero = []
under (suc n) = codes "a" ∷ under n

-- a place has at most 64 labels, whether a tree is inserted, a leaf is, or a subtree is copied
abbrev pub deeper_places_are_refused : Type 0
deeper_places_are_refused =
    output kind.H (keyed.from_entries (literal_rows (nested_nodes 64))) (one_by_one (
    stmt.Op (Ins (record { db = codes "T"; path = under 64 }) (codes "b") (whole 1)) ∷ ins "b" (nested_nodes 64) "T" ∷ copy "T" "T/a" ∷ copy "T/a/a" "T/a/a/a" ∷ [])
    ++ ins "b" (nested_nodes 63) "T" ∷ copy "T/a/a" "T/a" ∷ [])
    ≡ each_refused ("refused: too deep" ∷ "refused: too deep" ∷ "refused: too deep" ∷ "refused: too deep" ∷ [])

-- the operation so many times
abbrev pub repeat_op : ℕ → Op → List Op
repeat_op zero op = []
repeat_op (suc n) op = op ∷ repeat_op n op

-- a transaction has 65,535 operations at most
abbrev pub one_more_operation_is_refused : Type 0
one_more_operation_is_refused =
    flat_map lines (replies_to_statements example_setting (record (fresh kind.T curated_tree []) { opened = going (repeat_op 65535 (Copy (place "T/c1") (place "T/c3"))) }) (del "c1" "T" ∷ stmt.Abort ∷ []))
    ≡ lines_of ("refused: too many operations" ∷ "aborted 65535" ∷ [])

pub record RefusalsHold : Type 0 where
  pub at_labels : insertions_and_deletions_are_refused
  pub of_copies : copies_are_refused
  pub deep : deeper_places_are_refused
  pub many : one_more_operation_is_refused

-- ---- sources

-- a row of a table is copied, and its trace ends in the table
abbrev pub row_of_a_table_is_copied : Type 0
row_of_a_table_is_copied =
    output kind.T empty_tree (load_by "G" "g.csv" "gene" ∷ ins "tp53" (node []) "T" ∷ copy "G/ENSG02" "T/tp53" ∷ stmt.Commit
    ∷ ask_trace "T/tp53/symbol" ∷ show "T/tp53" ∷ [])
    ≡ lines_of ("loaded G 13" ∷ "committed 1"
    ∷ "trace T/tp53/symbol: T/tp53/symbol@1..1 < G/ENSG02/symbol"
    ∷ "show T/tp53: {chrom : \"17\", gene : \"ENSG02\", symbol : \"TP53\"}" ∷ [])

-- the same in the naive kind; a row that isn't there can't be copied
abbrev pub copied_row_has_to_be_there : Type 0
copied_row_has_to_be_there =
    output kind.N empty_tree (load_by "G" "g.csv" "gene" ∷ ins "tp53" (node []) "T" ∷ copy "G/ENSG02" "T/tp53" ∷ stmt.Commit
    ∷ ask_trace "T/tp53/symbol" ∷ copy "G/X" "T" ∷ [])
    ≡ lines_of ("loaded G 13" ∷ "committed 1..2"
    ∷ "trace T/tp53/symbol: T/tp53/symbol@2..2 < G/ENSG02/symbol"
    ∷ "refused: no origin G/X" ∷ [])

-- a source is loaded once
abbrev pub source_is_loaded_once : Type 0
source_is_loaded_once =
    output kind.N empty_tree (load "S" "x.json" ∷ load "S" "x.json" ∷ []) ≡ lines_of ("loaded S 2" ∷ "refused load: source S is there" ∷ [])

-- a session to whose reads no file is there, then each, and then none
abbrev pub changing_files : Session
changing_files = record (fresh kind.N empty_tree []) { supply = record { moments = []; tables = (λ _. None) ∷ (λ _. Some []) ∷ (λ _. None) ∷ [] } }

-- each load finds the file as it is then, unless something is in its way before
abbrev pub files_are_read_in_turn : Type 0
files_are_read_in_turn =
    flat_map lines (replies_to_statements told_setting changing_files (load "S" "s.json" ∷ load "S" "s.json" ∷ load "S" "s.json" ∷ load "R" "s.json" ∷ []))
    ≡ lines_of ("refused load: no file" ∷ "loaded S 2" ∷ "refused load: source S is there" ∷ "refused load: no file" ∷ [])

pub record SourcesHold : Type 0 where
  pub copied : row_of_a_table_is_copied
  pub there : copied_row_has_to_be_there
  pub once : source_is_loaded_once
  pub in_turn : files_are_read_in_turn

-- ---- several curators

-- a text, and the statement behind its name, if there is one
pub record Given : Type 0 where
  pub text : String
  pub statement : Option Stmt

abbrev pub given : String → Stmt → Given
given text x = record { text = text; statement = Some x }

abbrev pub unreadable : String → Given
unreadable text = record { text = text; statement = None }

-- a statement, or that the text is none
abbrev pub says_or_not : List ℕ → Option Stmt → TextReading
says_or_not text None = unread (why.Syntax (length text))
says_or_not text (Some x) = says x

-- what a statement's text says, if it stands in one of these
abbrev pub reading_among : List Given → List ℕ → TextReading
reading_among [] text = unread (why.Syntax (length text))
reading_among (g ∷ gs) text = if text_eq text (statement_in (codes g.text)) then says_or_not text g.statement else reading_among gs text

-- an input of several curators
abbrev pub shared_setting : List Given → Setting
shared_setting texts = record example_setting { read = reading_among texts; shared = true }

-- what several curators' session writes whose input is cut so
abbrev pub lines_of_cuts : Setting → Session → List Cut → List ℕ
lines_of_cuts c s cuts = flat_map said_lines (replies_to c s cuts)

abbrev pub cuts_of_texts : List Given → List Cut
cuts_of_texts texts = map (λ g. cut.Text (codes g.text)) texts

-- all that several curators' session writes which begins with this tree and is given these texts
abbrev pub shared_output : Kind → Tree → List Given → List ℕ
shared_output k t texts = lines_of_cuts (shared_setting texts) (fresh k t []) (cuts_of_texts texts)

-- the log of the history to which it leads, where the clock tells these moments
abbrev pub shared_log : Kind → List ℕ → List Given → List ℕ
shared_log k moments texts = lines (reply.Logged (log_of (session_after (shared_setting texts) (fresh k empty_tree moments) (cuts_of_texts texts)).history))

-- two curators insert the same label, and one more of them another
abbrev pub rivals : List Given
rivals =
    given "@ann ins {a : 1} into T" (ins "a" (whole 1) "T") ∷ given " @bob ins {a : 2} into T" (ins "a" (whole 2) "T")
    ∷ given " @ann commit" stmt.Commit ∷ given " @bob commit" stmt.Commit
    ∷ given " @bob ins {b : 2} into T" (ins "b" (whole 2) "T") ∷ given " @bob commit" stmt.Commit ∷ []

-- the first to commit wins; the other is told so, and may begin again
abbrev pub first_to_commit_wins : Type 0
first_to_commit_wins =
    shared_output kind.T empty_tree (rivals ++ given " @ann src T/b" (ask_src "T/b") ∷ [])
    ≡ lines_of ("@ann committed 1" ∷ "@bob refused commit: stale at 1" ∷ "@bob committed 2" ∷ "@ann src T/b: 2" ∷ [])

-- each commit is its curator's, and the one that is stale takes no moment
abbrev pub commits_are_signed : Type 0
commits_are_signed =
    shared_log kind.N (5 ∷ 6 ∷ []) rivals
    ≡ lines_of ("commit 1 by ann at 5, operations 1" ∷ "commit 2 by bob at 6, operations 1" ∷ "log: 2" ∷ [])

-- while somebody's transaction is open no source is loaded, and the others see the committed tree
abbrev pub open_transaction_is_its_curators : Type 0
open_transaction_is_its_curators =
    shared_output kind.T empty_tree (given "@ann ins {a : 1} into T" (ins "a" (whole 1) "T") ∷ given " @bob load S json \"s.json\"" (load "S" "s.json")
    ∷ given " @bob show T" (show "T") ∷ given " @ann show T" (show "T") ∷ given " @ann abort" stmt.Abort ∷ unreadable " ins {c : 1} into T"
    ∷ given "@bob load S json \"s.json\"" (load "S" "s.json") ∷ [])
    ≡ lines_of ("@bob refused load: a transaction is open" ∷ "@bob show T: {}" ∷ "@ann show T: {a : 1}" ∷ "@ann aborted 1" ∷ "refused: syntax at 1"
    ∷ "@bob loaded S 3" ∷ [])

-- a transaction works on the tree on which it began, and a query sees what is committed
abbrev pub transaction_keeps_its_tree : Kind → Type 0
transaction_keeps_its_tree k =
    shared_output k empty_tree (given "@ann ins {a : 1} into T" (ins "a" (whole 1) "T") ∷ given "@bob ins {b : 2} into T" (ins "b" (whole 2) "T") ∷ given "@bob commit" stmt.Commit
    ∷ given "@ann ins {b : 3} into T" (ins "b" (whole 3) "T") ∷ given "@ann show T" (show "T") ∷ given "@bob show T" (show "T") ∷ given "@ann src T/a" (ask_src "T/a")
    ∷ given "@ann commit" stmt.Commit ∷ given "@ann show T" (show "T") ∷ [])
    ≡ lines_of ("@bob committed 1" ∷ "@ann show T: {a : 1, b : 3}" ∷ "@bob show T: {b : 2}" ∷ "@ann refused: no place T/a"
    ∷ "@ann refused commit: stale at 1" ∷ "@ann show T: {b : 2}" ∷ [])

-- one that has failed says so, also after another's commit
abbrev pub failed_transaction_is_not_stale : Type 0
failed_transaction_is_not_stale =
    shared_output kind.T empty_tree (given "@ann del z from T" (del "z" "T") ∷ given "@bob ins {b : 2} into T" (ins "b" (whole 2) "T") ∷ given "@bob commit" stmt.Commit
    ∷ given "@ann ins {a : 1} into T" (ins "a" (whole 1) "T") ∷ given "@ann commit" stmt.Commit ∷ given "@ann commit" stmt.Commit ∷ [])
    ≡ lines_of ("@ann refused: no label z in T" ∷ "@bob committed 1" ∷ "@ann refused: transaction failed at 1" ∷ "@ann refused commit: failed at 1" ∷ "@ann refused commit: no operation" ∷ [])

-- a name alone fails its curator's transaction, and `T` is a name like any other; a text that is nobody's fails none
abbrev pub names_alone : Type 0
names_alone =
    shared_output kind.N empty_tree (given "@ann ins {a : 1} into T" (ins "a" (whole 1) "T") ∷ unreadable "@ann" ∷ unreadable " @T" ∷ unreadable "@" ∷ unreadable " @1" ∷ unreadable "@ann@ commit"
    ∷ unreadable "@a23456789012345678901234567890123 commit" ∷ given "@a2345678901234567890123456789012 commit" stmt.Commit
    ∷ given "@ann commit" stmt.Commit ∷ given "@T commit" stmt.Commit ∷ [])
    ≡ lines_of ("@ann refused: syntax at 4" ∷ "@T refused: syntax at 3" ∷ "refused: syntax at 0" ∷ "refused: syntax at 1" ∷ "refused: syntax at 0"
    ∷ "refused: syntax at 0" ∷ "@a2345678901234567890123456789012 refused commit: no operation"
    ∷ "@ann refused commit: failed at 2" ∷ "@T refused commit: failed at 1" ∷ [])

-- a text that isn't ended is refused at its end and one that isn't UTF-8 at its first wrong byte; one that is too long is nobody's
abbrev pub cuts_that_are_no_texts : Type 0
cuts_that_are_no_texts =
    lines_of_cuts (shared_setting (given "@ann commit" stmt.Commit ∷ [])) (fresh kind.N empty_tree [])
    (cut.Unfinished (codes "@ann ins {a") ∷ cut.Unfinished (codes " ins {a") ∷ cut.Text (32 ∷ 64 ∷ 255 ∷ []) ∷ cut.Unfinished (64 ∷ 255 ∷ 32 ∷ []) ∷ cut.TooLong
    ∷ cut.Text (codes "@ann commit") ∷ [])
    ≡ lines_of ("@ann refused: syntax at 11" ∷ "refused: syntax at 7" ∷ "refused: syntax at 2" ∷ "refused: syntax at 1" ∷ "refused: statement too long"
    ∷ "@ann refused commit: failed at 1" ∷ [])

pub record SharedHold : Type 0 where
  pub first : first_to_commit_wins
  pub signed : commits_are_signed
  pub own : open_transaction_is_its_curators
  pub tree_naive : transaction_keeps_its_tree kind.N
  pub tree_transactional : transaction_keeps_its_tree kind.T
  pub tree_hierarchical : transaction_keeps_its_tree kind.H
  pub tree_hierarchical_transactional : transaction_keeps_its_tree kind.HT
  pub failed : failed_transaction_is_not_stale
  pub names : names_alone
  pub cuts : cuts_that_are_no_texts

-- ---- spellings

-- a slash and a tilde in a label are escaped, the empty label and one with a space are quoted, and labels come in the order of their bytes
abbrev pub labels_are_escaped_and_quoted : Type 0
labels_are_escaped_and_quoted =
    output kind.T empty_tree (ins "a/b" (whole 1) "T" ∷ ins "~" (whole 2) "T" ∷ ins "" (whole 3) "T" ∷ ins "x y" (whole 4) "T" ∷ stmt.Commit
    ∷ ask_src_below "T" "a/b" ∷ ask_src_below "T" "~" ∷ ask_src_below "T" "" ∷ ask_src_below "T" "x y" ∷ show "T" ∷ [])
    ≡ lines_of ("committed 1"
    ∷ "src T/a~1b: 1" ∷ "src T/~0: 1" ∷ "src T/: 1" ∷ "src \"T/x y\": 1"
    ∷ "show T: {\"\" : 3, a~1b : 1, \"x y\" : 4, ~0 : 2}" ∷ [])

pub record SpellingsHold : Type 0 where
  pub labels : labels_are_escaped_and_quoted
