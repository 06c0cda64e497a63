-- Statements as texts: one space between tokens, none behind `{` and none before `}` and `,`.
use Rattle.cp_path.specs.declared.limits.TheConstants.{LABELS_MAX, LABEL_MAX, LOC_MAX}
use Rattle.std.specs.Prelude.{◌-◌, ℕ, ◌≡◌, ◌≤◌, ◌^◌, ◌<◌, List, [], ◌∷◌, ◌++◌, codes, decimal, length, ⊤, false, true}
use Rattle.std.specs.declared.option.Option.TheVariants.{None, Some}
use Rattle.json.specs.Print.{quoted}
use Rattle.cp_path.specs.Text.{is_name, text_eq}
use Rattle.cp_path.specs.Place.{Label, Path, target, size}
use Rattle.cp_spelling.specs.Reading.{any_long}
use Rattle.cp_path.specs.Spelling.{place_text, label_text}
use Rattle.cp_path.specs.declared.loc.Loc.{Loc}
use Rattle.cp_model.specs.Trees.{tree_at, levels}
use Rattle.cp_model.specs.Literals.{literal_rows}
use Rattle.cp_model.specs.Tree.{IsNumber}
use Rattle.cp_model.specs.History.{IsLiteral}
use Rattle.cp_model.specs.declared.row.Content.{Content}
use Rattle.cp_model.specs.declared.literal.Literal.{Literal}
use Rattle.cp_model.specs.declared.op.Op.{Op}
use Rattle.cp_model.specs.declared.op.Op.TheVariants.{Ins, Del, Copy}
use Rattle.cp_model.specs.declared.query.Query.{Query}
use Rattle.cp_model.specs.declared.query.Query.TheVariants as query
use Rattle.cp_model.specs.declared.query.Form.{Form}
use Rattle.cp_model.specs.declared.query.Form.TheVariants as form
use Rattle.cp_lang.specs.declared.syntax_tree.Stmt.{Stmt}
use Rattle.cp_lang.specs.declared.syntax_tree.Stmt.TheVariants as stmt

-- ---- texts

-- a value, `{}`, or each label with its tree in braces, in the order of labels
abbrev pub literal_text : Literal → List ℕ
literal_text t = tree_at levels (literal_rows t)

-- an operation
abbrev pub op_text : Op → List ℕ
op_text (Ins p a t) = codes "ins {" ++ (label_text a ++ (codes " : " ++ (literal_text t ++ (codes "} into " ++ place_text p))))
op_text (Del a p) = codes "del " ++ (label_text a ++ (codes " from " ++ place_text p))
op_text (Copy q p) = codes "copy " ++ (place_text q ++ (codes " into " ++ place_text p))

-- the form, the file and the key column
abbrev pub form_text : Form → List ℕ → List ℕ
form_text form.Json f = codes " json " ++ quoted f
form_text (form.Csv None) f = codes " csv " ++ quoted f
form_text (form.Csv (Some a)) f = codes " csv " ++ (quoted f ++ (codes " by " ++ label_text a))

-- a question
abbrev pub query_text : Query → List ℕ
query_text (query.Src q) = codes "src " ++ place_text q
query_text (query.Hist q) = codes "hist " ++ place_text q
query_text (query.Mod q) = codes "mod " ++ place_text q
query_text (query.Trace q) = codes "trace " ++ place_text q
query_text (query.From q) = codes "from " ++ place_text q
query_text (query.Records None) = codes "records"
query_text (query.Records (Some t)) = codes "records " ++ decimal t
query_text query.Stats = codes "stats"

-- the text of a statement
unfoldable pub statement_text : Stmt → List ℕ
statement_text (stmt.Op op) = op_text op
statement_text stmt.Commit = codes "commit"
statement_text stmt.Abort = codes "abort"
statement_text (stmt.Load l) = codes "load " ++ (l.name ++ form_text l.form l.file)
statement_text (stmt.Ask q) = query_text q
statement_text (stmt.Show q) = codes "show " ++ place_text q

-- ---- which statements a text spells

-- a place within every limit
pub record IsPlaceWithinLimits (q : Loc) : Type 0 where
  pub name : is_name q.db ≡ true
  pub short : any_long q.path ≡ false
  pub few : length q.path ≤ LABELS_MAX
  pub small : size q ≤ LOC_MAX

-- a label within its limit
abbrev pub IsShortLabel : Label → Type 0
IsShortLabel a = length a ≤ LABEL_MAX

-- rows whose labels and numbers are within their limits, and whose ways have at most so many labels
abbrev pub AreShort : ℕ → List (Path × Content) → Type 0
AreShort n [] = ⊤
AreShort n (r ∷ rows) = (length r.0 ≤ n) × (any_long r.0 ≡ false) × IsNumber r.1 × AreShort n rows

-- a literal tree below one label: siblings rise, texts are within their limit, and no way has more labels than a path may, with that one
abbrev pub IsShortTree : Literal → Type 0
IsShortTree t = IsLiteral (literal_rows t) × AreShort (LABELS_MAX - 1) (literal_rows t)

-- the parts of an operation are within their limits
abbrev pub SpellsOp : Op → Type 0
SpellsOp (Ins p a t) = IsPlaceWithinLimits p × IsShortLabel a × IsShortTree t
SpellsOp (Del a p) = IsShortLabel a × IsPlaceWithinLimits p
SpellsOp (Copy q p) = IsPlaceWithinLimits q × IsPlaceWithinLimits p

-- a key column within its limit
abbrev pub SpellsForm : Form → Type 0
SpellsForm form.Json = ⊤
SpellsForm (form.Csv None) = ⊤
SpellsForm (form.Csv (Some a)) = IsShortLabel a

-- the place or number of a question is within its limits
abbrev pub SpellsQuery : Query → Type 0
SpellsQuery (query.Src q) = IsPlaceWithinLimits q
SpellsQuery (query.Hist q) = IsPlaceWithinLimits q
SpellsQuery (query.Mod q) = IsPlaceWithinLimits q
SpellsQuery (query.Trace q) = IsPlaceWithinLimits q
SpellsQuery (query.From q) = IsPlaceWithinLimits q
SpellsQuery (query.Records None) = ⊤
SpellsQuery (query.Records (Some t)) = t < 2 ^ 64
SpellsQuery query.Stats = ⊤

-- all parts of a statement are within their limits, and no source is called T
abbrev pub IsSpellable : Stmt → Type 0
IsSpellable (stmt.Op op) = SpellsOp op
IsSpellable stmt.Commit = ⊤
IsSpellable stmt.Abort = ⊤
IsSpellable (stmt.Load l) = (is_name l.name ≡ true) × (text_eq l.name target ≡ false) × SpellsForm l.form
IsSpellable (stmt.Ask q) = SpellsQuery q
IsSpellable (stmt.Show q) = IsPlaceWithinLimits q
