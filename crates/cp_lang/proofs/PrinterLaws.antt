-- A printed statement is read as the statement.
use Rattle.cp_path.specs.declared.limits.TheConstants.{LABELS_MAX, LABEL_MAX}
use Rattle.std.specs.Prelude.{ℕ, ◌≤◌, ◌<◌, ◌≡◌, List, [], ◌∷◌, ◌++◌, true, false, codes, decimal, length, refl, Ok, if◌then◌else◌}
use Rattle.std.proofs.Common.{ap, sym, ◌∙◌, arith, append-nil}
use Rattle.std.specs.declared.option.Option.TheVariants.{None, Some}
use Rattle.json.specs.Print.{quoted}
use Rattle.cp_path.specs.Text.{is_name, text_eq}
use Rattle.cp_path.specs.Place.{Label, target}
use Rattle.cp_path.specs.Spelling.{has_trigger, place_text, label_text}
use Rattle.cp_spelling.specs.Words.{place_reading, label_reading, string_reading}
use Rattle.cp_spelling.proofs.WordLaws.{place_reads_back, label_reads_back, place_shape, label_shape}
use Rattle.cp_spelling.proofs.ValueLaws.{string_reads_back}
use Rattle.cp_path.specs.declared.loc.Loc.{Loc}
use Rattle.cp_model.specs.Literals.{literal_rows}
use Rattle.cp_model.specs.declared.literal.Literal.{Literal}
use Rattle.cp_model.specs.declared.literal.Literal.TheVariants as literal
use Rattle.cp_model.specs.declared.op.Op.{Op}
use Rattle.cp_model.specs.declared.op.Op.TheVariants.{Ins, Del, Copy}
use Rattle.cp_model.specs.declared.query.Query.{Query}
use Rattle.cp_model.specs.declared.query.Query.TheVariants as query
use Rattle.cp_model.specs.declared.query.Form.{Form}
use Rattle.cp_model.specs.declared.query.Form.TheVariants as form
use Rattle.cp_lang.specs.Lexer.{word, quotes, tokens_in}
use Rattle.cp_lang.proofs.LexerLaws.{stops_word}
use Rattle.cp_lang.specs.Grammar.{Spot, Move, start, ins_open, ins_label, tree_colon, tree, ins_close, ins_into, ins_place, del_label, del_from, del_place, copy_origin, copy_into, copy_place, load_name, load_form, json_file, csv_file, csv_by, csv_column, asked_place, Question, asks_src, asks_hist, asks_mod, asks_trace, asks_from, show_place, records_tid, ended, goes, cant, takes, reads, end_of, by_reading, if_some, query_of, json_load, csv_load, statement_reading}
use Rattle.cp_lang.specs.Printer.{literal_text, op_text, form_text, query_text, statement_text, IsPlaceWithinLimits, SpellsOp, SpellsForm, SpellsQuery, IsSpellable}
use Rattle.cp_lang.proofs.Layers.{literal-layers}
use Rattle.cp_lang.proofs.Reached.{Reaches, on, from_same, to_same, space_on, mark_on, word_on, quoted_on, read_on}
use Rattle.cp_lang.proofs.TreeReads.{literal_of, tree_on}
use Rattle.cp_lang.proofs.Bare.{name_some, name_bare, decimal_some, decimal_bare, decimal_reads_back}
use Rattle.cp_lang.specs.declared.syntax_tree.Stmt.{Stmt}
use Rattle.cp_lang.specs.declared.syntax_tree.Stmt.TheVariants as stmt

-- the whole text is read, up to this position
abbrev IsRead : List ℕ → Spot → Type 0
IsRead text t = Reaches start text t []

-- ---- parts

-- a place is wanted
record WantsPlace (s : Spot) (next : Loc → Move) : Type 0 where
  bare : (u : List ℕ) → takes s (word u) ≡ by_reading (place_reading u) next
  inside : (u : List ℕ) → takes s (quotes u) ≡ by_reading (place_reading u) next

place_on : (q : Loc) (next : Loc → Move) (s t : Spot) (rest : List ℕ) → IsPlaceWithinLimits q → WantsPlace s next → stops_word rest ≡ true → next q ≡ goes t → Reaches s (place_text q ++ rest) t rest
place_on q next s t rest h w e g =
    read_on place_reading next (place_text q) q s t rest (place_shape q h.name) e w.bare w.inside (place_reads_back q h.name h.short h.few h.small) g

last_place : (q : Loc) (next : Loc → Move) (s t : Spot) → IsPlaceWithinLimits q → WantsPlace s next → next q ≡ goes t → Reaches s (place_text q) t []
last_place q next s t h w g = from_same (sym (append-nil (place_text q))) (place_on q next s t [] h w refl g)

-- a label is wanted
record WantsLabel (s : Spot) (next : Label → Move) : Type 0 where
  bare : (u : List ℕ) → takes s (word u) ≡ by_reading (label_reading u) next
  inside : (u : List ℕ) → takes s (quotes u) ≡ by_reading (label_reading u) next

label_on : (a : Label) (next : Label → Move) (s t : Spot) (rest : List ℕ) → length a ≤ LABEL_MAX → WantsLabel s next → stops_word rest ≡ true → next a ≡ goes t → Reaches s (label_text a ++ rest) t rest
label_on a next s t rest h w e g = read_on label_reading next (label_text a) a s t rest (label_shape a) e w.bare w.inside (label_reads_back a h) g

last_label : (a : Label) (next : Label → Move) (s t : Spot) → length a ≤ LABEL_MAX → WantsLabel s next → next a ≡ goes t → Reaches s (label_text a) t []
last_label a next s t h w g = from_same (sym (append-nil (label_text a))) (label_on a next s t [] h w refl g)

literal_of-rows : (t : Literal) → literal_of (literal_rows t) ≡ t
literal_of-rows (literal.Leaf v) = refl
literal_of-rows (literal.Node below) = refl

-- ---- operations

ins_read : (p : Loc) (a : Label) (t : Literal) → SpellsOp (Ins p a t) → IsRead (op_text (Ins p a t)) (ended (stmt.Op (Ins p a t)))
unfolding takes
ins_read p a t h =
    let last = codes "} into " ++ place_text p in
    let behind = literal_text t ++ last in
    on (word_on (codes "ins") start ins_open (codes " {" ++ (label_text a ++ (codes " : " ++ behind))) (omega arith) refl refl refl)
    (on (space_on ins_open (123 ∷ label_text a ++ (codes " : " ++ behind)))
    (on (mark_on 123 ins_open ins_label (label_text a ++ (codes " : " ++ behind)) refl refl refl refl)
    (on (label_on a (λ b. goes (tree_colon b [])) ins_label (tree_colon a []) (codes " : " ++ behind) h.1 (record { bare = λ u. refl; inside = λ u. refl }) refl refl)
    (on (space_on (tree_colon a []) (codes ": " ++ behind))
    (on (mark_on 58 (tree_colon a []) (tree a []) (32 ∷ behind) refl refl refl refl)
    (on (space_on (tree a []) behind)
    (on (to_same (tree_on LABELS_MAX 65 (omega arith) (literal_rows t) a [] last (literal-layers 63 (literal_rows t) h.2.0 h.2.1) (omega arith) refl) (ap (ins_close a) (literal_of-rows t)))
    (on (mark_on 125 (ins_close a t) (ins_into a t) (codes " into " ++ place_text p) refl refl refl refl)
    (on (space_on (ins_into a t) (codes "into " ++ place_text p))
    (on (word_on (codes "into") (ins_into a t) (ins_place a t) (32 ∷ place_text p) (omega arith) refl refl refl)
    (on (space_on (ins_place a t) (place_text p))
    (last_place p (λ q. goes (ended (stmt.Op (Ins q a t)))) (ins_place a t) (ended (stmt.Op (Ins p a t))) h.0 (record { bare = λ u. refl; inside = λ u. refl }) refl))))))))))))

del_read : (a : Label) (p : Loc) → SpellsOp (Del a p) → IsRead (op_text (Del a p)) (ended (stmt.Op (Del a p)))
unfolding takes
del_read a p h =
    on (word_on (codes "del") start del_label (32 ∷ label_text a ++ (codes " from " ++ place_text p)) (omega arith) refl refl refl)
    (on (space_on del_label (label_text a ++ (codes " from " ++ place_text p)))
    (on (label_on a (λ b. goes (del_from b)) del_label (del_from a) (codes " from " ++ place_text p) h.0 (record { bare = λ u. refl; inside = λ u. refl }) refl refl)
    (on (space_on (del_from a) (codes "from " ++ place_text p))
    (on (word_on (codes "from") (del_from a) (del_place a) (32 ∷ place_text p) (omega arith) refl refl refl)
    (on (space_on (del_place a) (place_text p))
    (last_place p (λ q. goes (ended (stmt.Op (Del a q)))) (del_place a) (ended (stmt.Op (Del a p))) h.1 (record { bare = λ u. refl; inside = λ u. refl }) refl))))))

copy_read : (q p : Loc) → SpellsOp (Copy q p) → IsRead (op_text (Copy q p)) (ended (stmt.Op (Copy q p)))
unfolding takes
copy_read q p h =
    on (word_on (codes "copy") start copy_origin (32 ∷ place_text q ++ (codes " into " ++ place_text p)) (omega arith) refl refl refl)
    (on (space_on copy_origin (place_text q ++ (codes " into " ++ place_text p)))
    (on (place_on q (λ r. goes (copy_into r)) copy_origin (copy_into q) (codes " into " ++ place_text p) h.0 (record { bare = λ u. refl; inside = λ u. refl }) refl refl)
    (on (space_on (copy_into q) (codes "into " ++ place_text p))
    (on (word_on (codes "into") (copy_into q) (copy_place q) (32 ∷ place_text p) (omega arith) refl refl refl)
    (on (space_on (copy_place q) (place_text p))
    (last_place p (λ r. goes (ended (stmt.Op (Copy q r)))) (copy_place q) (ended (stmt.Op (Copy q p))) h.1 (record { bare = λ u. refl; inside = λ u. refl }) refl))))))

op_read : (op : Op) → SpellsOp op → IsRead (op_text op) (ended (stmt.Op op))
op_read (Ins p a t) h = ins_read p a t h
op_read (Del a p) h = del_read a p h
op_read (Copy q p) h = copy_read q p h

-- ---- loads

name_on : (w : List ℕ) (rest : List ℕ) → is_name w ≡ true → text_eq w target ≡ false → stops_word rest ≡ true → Reaches load_name (w ++ rest) (load_form w) rest
unfolding takes
name_on w rest n o e =
    word_on w load_name (load_form w) rest (name_some w n) (name_bare w n) e
    (ap (λ b. if b then (if text_eq w target then cant else goes (load_form w)) else cant) n ∙ ap (λ b. if b then cant else goes (load_form w)) o)

-- the name of a file in quotation marks
file_on : (f : List ℕ) (next : List ℕ → Move) (s t : Spot) (rest : List ℕ) → ((u : List ℕ) → takes s (quotes u) ≡ if_some (string_reading u) next) → next f ≡ goes t → Reaches s (quoted f ++ rest) t rest
file_on f next s t rest w g = quoted_on f s t rest (w (quoted f) ∙ ap (λ o. if_some o next) (string_reads_back f) ∙ g)

last_file : (f : List ℕ) (next : List ℕ → Move) (s t : Spot) → ((u : List ℕ) → takes s (quotes u) ≡ if_some (string_reading u) next) → next f ≡ goes t → Reaches s (quoted f) t []
last_file f next s t w g = from_same (sym (append-nil (quoted f))) (file_on f next s t [] w g)

-- where a form's text ends
abbrev form_end : List ℕ → Form → List ℕ → Spot
form_end n form.Json f = ended (json_load n f)
form_end n (form.Csv None) f = csv_by n f
form_end n (form.Csv (Some a)) f = ended (csv_load n f (Some a))

form_on : (n : List ℕ) (m : Form) (f : List ℕ) → SpellsForm m → Reaches (load_form n) (form_text m f) (form_end n m f) []
unfolding takes
form_on n form.Json f h =
    on (space_on (load_form n) (codes "json " ++ quoted f))
    (on (word_on (codes "json") (load_form n) (json_file n) (32 ∷ quoted f) (omega arith) refl refl refl)
    (on (space_on (json_file n) (quoted f))
    (last_file f (λ g. goes (ended (json_load n g))) (json_file n) (ended (json_load n f)) (λ u. refl) refl)))
form_on n (form.Csv None) f h =
    on (space_on (load_form n) (codes "csv " ++ quoted f))
    (on (word_on (codes "csv") (load_form n) (csv_file n) (32 ∷ quoted f) (omega arith) refl refl refl)
    (on (space_on (csv_file n) (quoted f))
    (last_file f (λ g. goes (csv_by n g)) (csv_file n) (csv_by n f) (λ u. refl) refl)))
form_on n (form.Csv (Some a)) f h =
    on (space_on (load_form n) (codes "csv " ++ (quoted f ++ (codes " by " ++ label_text a))))
    (on (word_on (codes "csv") (load_form n) (csv_file n) (32 ∷ quoted f ++ (codes " by " ++ label_text a)) (omega arith) refl refl refl)
    (on (space_on (csv_file n) (quoted f ++ (codes " by " ++ label_text a)))
    (on (file_on f (λ g. goes (csv_by n g)) (csv_file n) (csv_by n f) (codes " by " ++ label_text a) (λ u. refl) refl)
    (on (space_on (csv_by n f) (codes "by " ++ label_text a))
    (on (word_on (codes "by") (csv_by n f) (csv_column n f) (32 ∷ label_text a) (omega arith) refl refl refl)
    (on (space_on (csv_column n f) (label_text a))
    (last_label a (λ b. goes (ended (csv_load n f (Some b)))) (csv_column n f) (ended (csv_load n f (Some a))) h (record { bare = λ u. refl; inside = λ u. refl }) refl)))))))

stops-form : (m : Form) (f : List ℕ) → stops_word (form_text m f) ≡ true
stops-form form.Json f = refl
stops-form (form.Csv None) f = refl
stops-form (form.Csv (Some a)) f = refl

load_read : (n : List ℕ) (m : Form) (f : List ℕ) → is_name n ≡ true → text_eq n target ≡ false → SpellsForm m → IsRead (codes "load " ++ (n ++ form_text m f)) (form_end n m f)
unfolding takes
load_read n m f h o k =
    on (word_on (codes "load") start load_name (32 ∷ n ++ form_text m f) (omega arith) refl refl refl)
    (on (space_on load_name (n ++ form_text m f))
    (on (name_on n (form_text m f) h o (stops-form m f))
    (form_on n m f k)))

-- ---- questions

asked_read : (w : List ℕ) (k : Question) (q : Loc) → 0 < length w → has_trigger w ≡ false → takes start (word w) ≡ goes (asked_place k) → IsPlaceWithinLimits q → IsRead (w ++ 32 ∷ place_text q) (ended (query_of k q))
unfolding takes
asked_read w k q l b g h =
    on (word_on w start (asked_place k) (32 ∷ place_text q) l b refl g)
    (on (space_on (asked_place k) (place_text q))
    (last_place q (λ r. goes (ended (query_of k r))) (asked_place k) (ended (query_of k q)) h (record { bare = λ u. refl; inside = λ u. refl }) refl))

-- where a question's text ends
abbrev query_end : Query → Spot
query_end (query.Src q) = ended (stmt.Ask (query.Src q))
query_end (query.Hist q) = ended (stmt.Ask (query.Hist q))
query_end (query.Mod q) = ended (stmt.Ask (query.Mod q))
query_end (query.Trace q) = ended (stmt.Ask (query.Trace q))
query_end (query.From q) = ended (stmt.Ask (query.From q))
query_end (query.Records None) = records_tid
query_end (query.Records (Some t)) = ended (stmt.Ask (query.Records (Some t)))
query_end query.Stats = ended (stmt.Ask query.Stats)

query_read : (q : Query) → SpellsQuery q → IsRead (query_text q) (query_end q)
unfolding takes
query_read (query.Src q) h = asked_read (codes "src") asks_src q (omega arith) refl refl h
query_read (query.Hist q) h = asked_read (codes "hist") asks_hist q (omega arith) refl refl h
query_read (query.Mod q) h = asked_read (codes "mod") asks_mod q (omega arith) refl refl h
query_read (query.Trace q) h = asked_read (codes "trace") asks_trace q (omega arith) refl refl h
query_read (query.From q) h = asked_read (codes "from") asks_from q (omega arith) refl refl h
query_read (query.Records None) h = word_on (codes "records") start records_tid [] (omega arith) refl refl refl
query_read (query.Records (Some t)) h =
    on (word_on (codes "records") start records_tid (32 ∷ decimal t) (omega arith) refl refl refl)
    (on (space_on records_tid (decimal t))
    (from_same (sym (append-nil (decimal t)))
    (word_on (decimal t) records_tid (ended (stmt.Ask (query.Records (Some t)))) [] (decimal_some t h) (decimal_bare t h) refl
    (ap (λ o. if_some o (λ n. goes (ended (stmt.Ask (query.Records (Some n)))))) (decimal_reads_back t h)))))
query_read query.Stats h = word_on (codes "stats") start (ended (stmt.Ask query.Stats)) [] (omega arith) refl refl refl

query_ends : (n : ℕ) (q : Query) → end_of n (query_end q) ≡ Ok (stmt.Ask q)
query_ends n (query.Src q) = refl
query_ends n (query.Hist q) = refl
query_ends n (query.Mod q) = refl
query_ends n (query.Trace q) = refl
query_ends n (query.From q) = refl
query_ends n (query.Records None) = refl
query_ends n (query.Records (Some t)) = refl
query_ends n query.Stats = refl

show_read : (q : Loc) → IsPlaceWithinLimits q → IsRead (codes "show " ++ place_text q) (ended (stmt.Show q))
unfolding takes
show_read q h =
    on (word_on (codes "show") start show_place (32 ∷ place_text q) (omega arith) refl refl refl)
    (on (space_on show_place (place_text q))
    (last_place q (λ r. goes (ended (stmt.Show r))) show_place (ended (stmt.Show q)) h (record { bare = λ u. refl; inside = λ u. refl }) refl))

form_ends : (k : ℕ) (n : List ℕ) (m : Form) (f : List ℕ) → end_of k (form_end n m f) ≡ Ok (stmt.Load (record { name = n; form = m; file = f }))
form_ends k n form.Json f = refl
form_ends k n (form.Csv None) f = refl
form_ends k n (form.Csv (Some a)) f = refl

-- ---- statements

whole_read : (text : List ℕ) (t : Spot) (s : Stmt) → IsRead text t → ((n : ℕ) → end_of n t ≡ Ok s) → statement_reading text ≡ Ok s
unfolding statement_reading reads tokens_in
whole_read text t s h e = (h.leads (length text) 0).1 ∙ e (length text)

-- what is printed is read as the statement
pub printed_reads : (s : Stmt) → IsSpellable s → statement_reading (statement_text s) ≡ Ok s
unfolding statement_text takes
printed_reads (stmt.Op op) h = whole_read (op_text op) (ended (stmt.Op op)) (stmt.Op op) (op_read op h) (λ n. refl)
printed_reads stmt.Commit h = whole_read (codes "commit") (ended stmt.Commit) stmt.Commit (word_on (codes "commit") start (ended stmt.Commit) [] (omega arith) refl refl refl) (λ n. refl)
printed_reads stmt.Abort h = whole_read (codes "abort") (ended stmt.Abort) stmt.Abort (word_on (codes "abort") start (ended stmt.Abort) [] (omega arith) refl refl refl) (λ n. refl)
printed_reads (stmt.Load l) h =
    whole_read (codes "load " ++ (l.name ++ form_text l.form l.file)) (form_end l.name l.form l.file) (stmt.Load l) (load_read l.name l.form l.file h.0 h.1 h.2) (λ n. form_ends n l.name l.form l.file)
printed_reads (stmt.Ask q) h = whole_read (query_text q) (query_end q) (stmt.Ask q) (query_read q h) (λ n. query_ends n q)
printed_reads (stmt.Show q) h = whole_read (codes "show " ++ place_text q) (ended (stmt.Show q)) (stmt.Show q) (show_read q h) (λ n. refl)
