-- What a parser's steps come to.
use Rattle.std.proofs.Common.{◌≡◌, ◌⊎◌, inl, inr, ℕ, ◌+◌, List, [], ◌∷◌, Bool, true, false, if◌then◌else◌, codes, length, refl, ap, sym, ◌∙◌, arith, MatchOption, IfSome, IsErrAnd, Result, Ok, Err, subst, ◌++◌, ◌||◌, ◌==◌, cond, append_assoc, append-nil}
use Rattle.std.specs.Option.{IfNone, is_some}
use Rattle.std.specs.Str.{bytes_eq, IsUtf8}
use Rattle.std.specs.Str.Lossy.{utf8_valid_len}
use Rattle.std.proofs.lemmas.Str.{utf8_valid_len-IsUtf8}
use Rattle.std.proofs.lemmas.Bool.Decides.{nat_tests}
use Rattle.std.specs.Map.{lookup}
use Rattle.std.specs.BTreeMap.{is_at}
use Rattle.std.specs.Cmp.Lexicographic.{texts_ties}
use Rattle.cp_path.specs.Text.{text_cmp, text_eq}
use Rattle.cp_model.specs.Literals.{edge_rows, literal_rows, rows_under}
use Rattle.cp_model.specs.declared.row.Content.{Content}
use Rattle.cp_model.specs.declared.literal.LitEdge.{LitEdge}
use Rattle.std.specs.declared.option.Option.{Option}
use Rattle.std.specs.declared.option.Option.TheVariants.{None, Some}
use Rattle.cp_path.specs.Place.{Label, Path}
use Rattle.cp_path.specs.declared.loc.Loc.{Loc}
use Rattle.cp_path.specs.declared.fault.PathFault.{PathFault}
use Rattle.cp_path.specs.declared.fault.PathFault.TheVariants as path
use Rattle.cp_spelling.specs.Words.{value_reading}
use Rattle.cp_model.specs.declared.literal.Literal.{Literal}
use Rattle.cp_model.specs.declared.literal.Literal.TheVariants as literal
use Rattle.cp_model.specs.declared.op.Op.TheVariants.{Ins, Del, Copy}
use Rattle.cp_lang.specs.Lexer as lexer
use Rattle.cp_lang.specs.Lexer.{Shape, first_offset, tokens_of, spaces, tokens_at}
use Rattle.cp_lang.proofs.LexerLaws.{tokens_space, tokens_first}
use Rattle.cp_lang.specs.Spaces.{is_space}
use Rattle.cp_lang.specs.Tokenized.{token_of, shape_of}
use Rattle.cp_lang.specs.Grammar.{Spot, Move, takes, goes, cant, refused_or, by_reading, reading_of, bytes_reading, statement_reading, end_of, reads, Edges, Level, node, after_tree, close_node, at_open, at_close, at_colon, at_word, at_label, at_place, at_name, at_file, at_form, at_start, at_tree, at_first, at_edge_end, json_load, csv_load, query_of, Question, start, ins_open, ins_label, tree_colon, tree, first_edge, next_edge, edge_end, ins_close, ins_into, ins_place, del_label, del_from, del_place, copy_origin, copy_into, copy_place, load_name, load_form, json_file, csv_file, csv_by, csv_column, asked_place, show_place, ended, new_edge, has_edge, rows_of_edges}
use Rattle.cp_lang.specs.Parser.{reading, edge_reading, Wants, Stops, Fails, IsRead, Steps, ReadsPart, ReadsTree, spelling_fault, within, after_edge}
use Rattle.cp_lang.specs.declared.lexer.Token.{Token}
use Rattle.cp_lang.specs.declared.parser.Parser.{Parser}
use Rattle.cp_lang.specs.declared.syntax_tree.Stmt.{Stmt}
use Rattle.cp_lang.specs.declared.syntax_tree.Stmt.TheVariants as stmt
use Rattle.cp_lang.specs.declared.syntax_tree.StmtFault.{StmtFault}
use Rattle.cp_lang.specs.declared.syntax_tree.StmtFault.TheVariants as fault

-- ---- the first token

spaces_from : (at : ℕ) (bs : List ℕ) → at + spaces bs ≡ first_offset (at + length bs) (tokens_at at bs)
unfolding lexer.tokens_in
spaces_from at [] = refl
spaces_from at (x ∷ xs) = by (is_space x) refl (spaces_from (at + 1) xs)
  where
    by : (b : Bool) → is_space x ≡ b → at + 1 + spaces xs ≡ first_offset (at + 1 + length xs) (tokens_at (at + 1) xs)
        → at + spaces (x ∷ xs) ≡ first_offset (at + length (x ∷ xs)) (tokens_at at (x ∷ xs))
    by true e behind =
        let s : spaces (x ∷ xs) ≡ spaces xs + 1 = ap (λ b. if b then spaces xs + 1 else 0) e in
        let n : at + (spaces xs + 1) ≡ at + 1 + spaces xs = omega arith in
        let m : at + 1 + length xs ≡ at + length (x ∷ xs) = omega arith in
        ap (λ k. at + k) s ∙ n ∙ behind ∙ ap (λ k. first_offset k (tokens_at (at + 1) xs)) m
        ∙ ap (λ ts. first_offset (at + length (x ∷ xs)) ts) (sym (tokens_space at x xs e))
    by false e behind =
        let s : spaces (x ∷ xs) ≡ 0 = ap (λ b. if b then spaces xs + 1 else 0) e in
        let n : at + 0 ≡ at = omega arith in
        ap (λ k. at + k) s ∙ n ∙ ap (λ ts. first_offset (at + length (x ∷ xs)) ts) (sym (tokens_first at x xs e))

pub spaces_first : (bs : List ℕ) → spaces bs ≡ first_offset (length bs) (tokens_of bs)
spaces_first bs =
    let l : spaces bs ≡ 0 + spaces bs = omega arith in
    let n : 0 + length bs ≡ length bs = omega arith in
    l ∙ spaces_from 0 bs ∙ ap (λ k. first_offset k (tokens_at 0 bs)) n

-- ---- one token

-- a token is there
pub next_more : (n : ℕ) (old new : List lexer.Token) (r : Option Token) → MatchOption r ((old ≡ []) × (new ≡ [])) (λ t. old ≡ token_of t ∷ new)
    → IfSome r (λ t. (s : Spot) → reads n s old ≡ refused_or (takes s (shape_of t.shape)) t.at (λ next. reads n next new))
unfolding reads
next_more n old new None h = tt
next_more n old new (Some t) h = λ s. ap (λ (ts : List lexer.Token). reads n s ts) h

-- none is there
pub next_none : (n : ℕ) (old new : List lexer.Token) (r : Option Token) → MatchOption r ((old ≡ []) × (new ≡ [])) (λ t. old ≡ token_of t ∷ new)
    → IfNone r ((s : Spot) → reads n s old ≡ end_of n s)
unfolding reads
next_none n old new None h = λ s. ap (λ (ts : List lexer.Token). reads n s ts) h.0
next_none n old new (Some t) h = tt

pub next_last : (n : ℕ) (old new : List lexer.Token) (r : Option Token) → MatchOption r ((old ≡ []) × (new ≡ [])) (λ t. old ≡ token_of t ∷ new)
    → IfNone r ((x : Stmt) → reads n (ended x) new ≡ Ok x)
unfolding reads
next_last n old new None h = λ x. ap (λ (ts : List lexer.Token). reads n (ended x) ts) h.1
next_last n old new (Some t) h = tt

-- ---- composition

-- a fault of a token is a fault of the position before it
pub fails_stops : (p q : Parser) (s : Spot) (x : Shape) (at : ℕ) (t : Move) (e : StmtFault)
    → reading p s ≡ refused_or (takes s x) at (reading q) → takes s x ≡ t → Fails at t e → Stops p s e
fails_stops p q s x at t e h w (inl m) = inl m
fails_stops p q s x at t e h w (inr r) = inr (h ∙ ap (λ (u : Move). refused_or u at (reading q)) w ∙ r (reading q))

-- a fault of a reading is the fault of its token
pub fails_by : {X : Type 0} (at : ℕ) (f : PathFault) (r : Result X PathFault) (next : X → Move)
    → (f ≡ path.Memory) ⊎ (r ≡ Err f) → Fails at (by_reading r next) (spelling_fault at f)
fails_by at f r next (inl m) = inl (ap (spelling_fault at) m)
fails_by at path.Memory r next (inr q) = inl refl
fails_by at f r next (inr q) = inr (λ k. ap (λ v. refused_or (by_reading v next) at k) q)

-- a fault behind steps that lead there
pub on : (p q : Parser) (s t : Spot) (e : StmtFault) → reading p s ≡ reading q t → Stops q t e → Stops p s e
on p q s t e h (inl m) = inl m
on p q s t e h (inr r) = inr (h ∙ r)

-- ---- parts

-- what a token is read as is the step of its position
pub steps_by : {X : Type 0} (p q : Parser) (x : Shape) (at : ℕ) (step : Shape → (X → Move) → Move) (r : Result X StmtFault)
    → ((s : Spot) → reading p s ≡ refused_or (takes s x) at (reading q)) → IsRead at (step x) r → Steps p q step r
steps_by p q x at step (Ok b) h k = λ s next w. h s ∙ ap (λ (u : Move). refused_or u at (reading q)) (w.taken x ∙ k (λ c. goes (next c)))
steps_by p q x at step (Err e) h k = λ s next w. fails_stops p q s x at (step x (λ c. goes (next c))) e (h s) (w.taken x) (k (λ c. goes (next c)))

-- steps that lead to the beginning of a part, and then the part
pub joined : {X : Type 0} (p q r : Parser) (s t : Spot) (next : X → Spot) (result : Result X StmtFault)
    → reading p s ≡ reading q t → ReadsPart q r t next result → ReadsPart p r s next result
joined p q r s t next (Ok x) e h = e ∙ h
joined p q r s t next (Err f) e h = on p q s t f e h

-- the fault of a part is the fault of the whole
pub stopped : {X : Type 0} (p q : Parser) (s : Spot) (next : X → Spot) (result : Result X StmtFault) (e : StmtFault)
    → IsErrAnd result (λ f. f ≡ e) → Stops p s e → ReadsPart p q s next result
stopped p q s next (Ok x) e k h = absurd k
stopped p q s next (Err f) e k h = subst (λ v. Stops p s v) (sym k) h

-- the same behind steps that lead to the part
pub stopped_on : {X : Type 0} (p q r : Parser) (s t : Spot) (next : X → Spot) (result : Result X StmtFault) (e : StmtFault)
    → IsErrAnd result (λ f. f ≡ e) → reading p s ≡ reading q t → Stops q t e → ReadsPart p r s next result
stopped_on p q r s t next result e k h m = stopped p r s next result e k (on p q s t e h m)

-- a token that leads on
pub leads : (p q : Parser) (s next : Spot) (x : Shape) (at : ℕ) (t : Move)
    → reading p s ≡ refused_or (takes s x) at (reading q) → takes s x ≡ t → t ≡ goes next → reading p s ≡ reading q next
leads p q s next x at t h w g = h ∙ ap (λ (u : Move). refused_or u at (reading q)) (w ∙ g)

-- a token that can't stand
pub refused : (p q : Parser) (s : Spot) (x : Shape) (at : ℕ) (t : Move)
    → reading p s ≡ refused_or (takes s x) at (reading q) → takes s x ≡ t → t ≡ cant → reading p s ≡ Err (fault.Syntax at)
refused p q s x at t h w g = h ∙ ap (λ (u : Move). refused_or u at (reading q)) (w ∙ g)

-- a key word, by its test
pub worded : (text : List ℕ) (x : Shape) (b : Bool) (s : Spot) → at_word text x s ≡ (if b then goes s else cant) → b ≡ true → at_word text x s ≡ goes s
worded text x b s h e = h ∙ ap (λ v. if v then goes s else cant) e

pub unworded : (text : List ℕ) (x : Shape) (b : Bool) (s : Spot) → at_word text x s ≡ (if b then goes s else cant) → b ≡ false → at_word text x s ≡ cant
unworded text x b s h e = h ∙ ap (λ v. if v then goes s else cant) e

-- one edge more, or the end of the node
pub after_reads : (p q : Parser) (x : Shape) (at : ℕ) (o : Option Bool) (more : Bool) (a : Label) (es : Edges) (ls : List Level)
    → reading p (edge_end (within a es ls)) ≡ refused_or (takes (edge_end (within a es ls)) x) at (reading q)
    → at_edge_end (within a es ls) x ≡ after_edge o (within a es ls) → o ≡ Some more
    → reading p (edge_end (within a es ls)) ≡ reading q (if more then next_edge (within a es ls) else after_tree a (node es) ls)
unfolding takes
after_reads p q x at o true a es ls h w i = h ∙ ap (λ (u : Move). refused_or u at (reading q)) (w ∙ ap (λ v. after_edge v (within a es ls)) i)
after_reads p q x at o false a es ls h w i = h ∙ ap (λ (u : Move). refused_or u at (reading q)) (w ∙ ap (λ v. after_edge v (within a es ls)) i)

-- ---- the form of a file

pub form_json : (n : List ℕ) (x : Shape) → at_word (codes "json") x (json_file n) ≡ goes (json_file n) → at_form n x ≡ goes (json_file n)
form_json n (lexer.word w) h = by (bytes_eq w (codes "json")) h
  where
    by : (b : Bool) → (if b then goes (json_file n) else cant) ≡ goes (json_file n)
        → (if b then goes (json_file n) else (if bytes_eq w (codes "csv") then goes (csv_file n) else cant)) ≡ goes (json_file n)
    by true g = refl
    by false g = cc
form_json n x h = cc

pub form_csv : (n : List ℕ) (x : Shape) → at_word (codes "json") x (json_file n) ≡ cant → at_word (codes "csv") x (csv_file n) ≡ goes (csv_file n) → at_form n x ≡ goes (csv_file n)
form_csv n (lexer.word w) h g = by (bytes_eq w (codes "json")) h
  where
    by : (b : Bool) → (if b then goes (json_file n) else cant) ≡ cant
        → (if b then goes (json_file n) else (if bytes_eq w (codes "csv") then goes (csv_file n) else cant)) ≡ goes (csv_file n)
    by true k = cc
    by false k = g
form_csv n x h g = cc

pub form_none : (n : List ℕ) (x : Shape) → at_word (codes "json") x (json_file n) ≡ cant → at_word (codes "csv") x (csv_file n) ≡ cant → at_form n x ≡ cant
form_none n (lexer.word w) h g = by (bytes_eq w (codes "json")) h
  where
    by : (b : Bool) → (if b then goes (json_file n) else cant) ≡ cant
        → (if b then goes (json_file n) else (if bytes_eq w (codes "csv") then goes (csv_file n) else cant)) ≡ cant
    by true k = cc
    by false k = g
form_none n x h g = refl

-- ---- edges

-- a map has the labels of its entries
pub edge_there : (a : Label) (es : Edges) → is_some (lookup (is_at (text_cmp a)) es) ≡ has_edge a es
edge_there a [] = refl
edge_there a (e ∷ es) = by (text_eq a e.0) (is_at (text_cmp a) e.0) (texts_ties a e.0) (edge_there a es)
  where
    by : (p q : Bool) → p ≡ q → is_some (lookup (is_at (text_cmp a)) es) ≡ has_edge a es
        → is_some (cond q (Some e.1) (lookup (is_at (text_cmp a)) es)) ≡ (p || has_edge a es)
    by true true h i = refl
    by true false h i = cc
    by false true h i = cc
    by false false h i = i

rows_more : (xs : List LitEdge) (a : Label) (t : Literal) → edge_rows (xs ++ record { label = a; tree = t } ∷ []) ≡ edge_rows xs ++ rows_under a (literal_rows t)
rows_more [] a t = append-nil _
rows_more (x ∷ xs) a t = ap (λ rows. rows_under x.label (literal_rows x.tree) ++ rows) (rows_more xs a t) ∙ sym (append_assoc (rows_under x.label (literal_rows x.tree)) _ _)

-- one entry more is listed
pub listed : (xs ys : List LitEdge) (a : Label) (t : Literal) (es fs all : Edges) → edge_rows xs ++ rows_of_edges es ≡ rows_of_edges all
    → es ≡ (a, t) ∷ fs → ys ≡ xs ++ record { label = a; tree = t } ∷ [] → edge_rows ys ++ rows_of_edges fs ≡ rows_of_edges all
listed xs ys a t es fs all h e f =
    ap (λ (zs : List LitEdge). edge_rows zs ++ rows_of_edges fs) f
    ∙ ap (λ (rows : List (Path × Content)). rows ++ rows_of_edges fs) (rows_more xs a t)
    ∙ append_assoc (edge_rows xs) _ _
    ∙ ap (λ (zs : Edges). edge_rows xs ++ rows_of_edges zs) (sym e)
    ∙ h

-- ---- what a token does at the positions that aren't wanted alone

pub takes_start : (x : Shape) → takes start x ≡ at_start x
unfolding takes
takes_start x = refl

pub takes_tree : (a : Label) (ls : List Level) (x : Shape) → takes (tree a ls) x ≡ at_tree a ls x
unfolding takes
takes_tree a ls x = refl

pub takes_first_edge : (ls : List Level) (x : Shape) → takes (first_edge ls) x ≡ at_first ls x
unfolding takes
takes_first_edge ls x = refl

pub takes_next_edge : (ls : List Level) (x : Shape) → takes (next_edge ls) x ≡ at_label x (new_edge ls)
unfolding takes
takes_next_edge ls x = refl

pub takes_load_form : (n : List ℕ) (x : Shape) → takes (load_form n) x ≡ at_form n x
unfolding takes
takes_load_form n x = refl

pub takes_csv_by : (n f : List ℕ) (x : Shape) → takes (csv_by n f) x ≡ at_word (codes "by") x (csv_column n f)
unfolding takes
takes_csv_by n f x = refl

pub takes_show_place : (x : Shape) → takes show_place x ≡ at_place x (λ q. goes (ended (stmt.Show q)))
unfolding takes
takes_show_place x = refl

-- ---- trees

-- a fault behind an equation
pub past : (x y : Result Stmt StmtFault) (e : StmtFault) → x ≡ y → (e ≡ fault.Memory) ⊎ (y ≡ Err e) → (e ≡ fault.Memory) ⊎ (x ≡ Err e)
past x y e h (inl m) = inl m
past x y e h (inr r) = inr (h ∙ r)

-- a fault of a token
pub fails_past : (x : Result Stmt StmtFault) (at : ℕ) (t : Move) (next : Spot → Result Stmt StmtFault) (e : StmtFault)
    → x ≡ refused_or t at next → Fails at t e → (e ≡ fault.Memory) ⊎ (x ≡ Err e)
fails_past x at t next e h (inl m) = inl m
fails_past x at t next e h (inr r) = inr (h ∙ r next)

-- the closing brace of a node without edges
pub first_close : (p q : Parser) (x : Shape) (at : ℕ) (b : Bool) (a : Label) (ls : List Level)
    → reading p (first_edge (within a [] ls)) ≡ refused_or (takes (first_edge (within a [] ls)) x) at (reading q)
    → at_first (within a [] ls) x ≡ (if b then close_node (within a [] ls) else at_label x (new_edge (within a [] ls))) → b ≡ true
    → reading p (first_edge (within a [] ls)) ≡ reading q (after_tree a (node []) ls)
first_close p q x at b a ls h w e =
    h ∙ ap (λ (u : Move). refused_or u at (reading q))
    (takes_first_edge (within a [] ls) x ∙ w ∙ ap (λ v. if v then close_node (within a [] ls) else at_label x (new_edge (within a [] ls))) e)

-- the first label of a node
pub first_label : (p q : Parser) (t : Token) (b : Bool) (a : Label) (ls : List Level)
    → reading p (first_edge (within a [] ls)) ≡ refused_or (takes (first_edge (within a [] ls)) (shape_of t.shape)) t.at (reading q)
    → at_first (within a [] ls) (shape_of t.shape) ≡ (if b then close_node (within a [] ls) else at_label (shape_of t.shape) (new_edge (within a [] ls))) → b ≡ false
    → reading p (first_edge (within a [] ls)) ≡ edge_reading q t a [] ls
first_label p q t b a ls h w e =
    h ∙ ap (λ (u : Move). refused_or u t.at (reading q))
    (takes_first_edge (within a [] ls) (shape_of t.shape) ∙ w ∙ ap (λ v. if v then close_node (within a [] ls) else at_label (shape_of t.shape) (new_edge (within a [] ls))) e)

-- a label behind a comma
pub next_label : (p q r : Parser) (t : Token) (b : Bool) (a : Label) (es : Edges) (ls : List Level)
    → reading p (edge_end (within a es ls)) ≡ reading q (if b then next_edge (within a es ls) else after_tree a (node es) ls) → b ≡ true
    → reading q (next_edge (within a es ls)) ≡ refused_or (takes (next_edge (within a es ls)) (shape_of t.shape)) t.at (reading r)
    → reading p (edge_end (within a es ls)) ≡ edge_reading r t a es ls
next_label p q r t b a es ls h e k =
    h ∙ ap (λ v. reading q (if v then next_edge (within a es ls) else after_tree a (node es) ls)) e ∙ k
    ∙ ap (λ (u : Move). refused_or u t.at (reading r)) (takes_next_edge (within a es ls) (shape_of t.shape))

-- the opening brace of a node
pub tree_opens : (p q : Parser) (x : Shape) (at : ℕ) (b : Bool) (a : Label) (ls : List Level)
    → reading p (tree a ls) ≡ refused_or (takes (tree a ls) x) at (reading q)
    → at_tree a ls x ≡ (if b then goes (first_edge (within a [] ls)) else reading_of value_reading x (λ v. goes (after_tree a (literal.Leaf v) ls))) → b ≡ true
    → reading p (tree a ls) ≡ reading q (first_edge (within a [] ls))
tree_opens p q x at b a ls h w e =
    h ∙ ap (λ (u : Move). refused_or u at (reading q))
    (takes_tree a ls x ∙ w ∙ ap (λ v. if v then goes (first_edge (within a [] ls)) else reading_of value_reading x (λ v. goes (after_tree a (literal.Leaf v) ls))) e)

-- steps that lead to the beginning of a tree, and then the tree
pub tree_joined : (p q r : Parser) (depth : ℕ) (f g : Label → List Level → Spot) (result : Result Literal StmtFault)
    → ((a : Label) (ls : List Level) → length ls + 1 ≡ depth → reading p (f a ls) ≡ reading q (g a ls)) → ReadsTree q r depth g result → ReadsTree p r depth f result
tree_joined p q r depth f g (Ok t) e h = λ a ls k. e a ls k ∙ h a ls k
tree_joined p q r depth f g (Err m) e h = λ a ls k. on p q (f a ls) (g a ls) m (e a ls k) (h a ls k)

-- a value
pub tree_value : (p q : Parser) (x : Shape) (at : ℕ) (b : Bool) (a : Label) (ls : List Level)
    → reading p (tree a ls) ≡ refused_or (takes (tree a ls) x) at (reading q)
    → at_tree a ls x ≡ (if b then goes (first_edge (within a [] ls)) else reading_of value_reading x (λ v. goes (after_tree a (literal.Leaf v) ls))) → b ≡ false
    → reading p (tree a ls) ≡ refused_or (reading_of value_reading x (λ v. goes (after_tree a (literal.Leaf v) ls))) at (reading q)
tree_value p q x at b a ls h w e =
    h ∙ ap (λ (u : Move). refused_or u at (reading q))
    (takes_tree a ls x ∙ w ∙ ap (λ v. if v then goes (first_edge (within a [] ls)) else reading_of value_reading x (λ v. goes (after_tree a (literal.Leaf v) ls))) e)

-- the label, the colon and the tree of an edge
pub label_leads : (p : Parser) (t : Token) (a b : Label) (es : Edges) (ls : List Level)
    → at_label (shape_of t.shape) (new_edge (within b es ls)) ≡ goes (tree_colon a (within b es ls))
    → edge_reading p t b es ls ≡ reading p (tree_colon a (within b es ls))
label_leads p t a b es ls h = ap (λ (u : Move). refused_or u t.at (reading p)) h

-- one label deeper
pub deeper : (b : Label) (es : Edges) (ls : List Level) (depth : ℕ) → length ls + 1 ≡ depth → length (within b es ls) + 1 ≡ depth + 1
deeper b es ls depth h = omega arith

-- ---- bytes

pub bytes_text : (bs ts : List ℕ) → ts ≡ bs → IsUtf8 bs → bytes_reading bs ≡ statement_reading ts
bytes_text bs ts e u =
    let n : utf8_valid_len bs ≡ length bs = utf8_valid_len-IsUtf8 bs u in
    let h : (utf8_valid_len bs == length bs) ≡ true = grind (arith, nat_tests) in
    ap (λ b. if b then statement_reading bs else Err (fault.Syntax (utf8_valid_len bs))) h ∙ ap statement_reading (sym e)

-- ---- what is wanted at each position

pub at_ins_open : Wants ins_open (λ x. at_open x ins_label)
unfolding takes
at_ins_open = record { taken = λ x. refl; ended = λ n. refl }

pub at_ins_label : Wants ins_label (λ x. at_label x (λ a. goes (tree_colon a [])))
unfolding takes
at_ins_label = record { taken = λ x. refl; ended = λ n. refl }

pub at_tree_colon : (a : Label) (ls : List Level) → Wants (tree_colon a ls) (λ x. at_colon x (tree a ls))
unfolding takes
at_tree_colon a ls = record { taken = λ x. refl; ended = λ n. refl }

pub at_ins_close : (a : Label) (t : Literal) → Wants (ins_close a t) (λ x. at_close x (ins_into a t))
unfolding takes
at_ins_close a t = record { taken = λ x. refl; ended = λ n. refl }

pub at_ins_into : (a : Label) (t : Literal) → Wants (ins_into a t) (λ x. at_word (codes "into") x (ins_place a t))
unfolding takes
at_ins_into a t = record { taken = λ x. refl; ended = λ n. refl }

pub at_ins_place : (a : Label) (t : Literal) → Wants (ins_place a t) (λ x. at_place x (λ p. goes (ended (stmt.Op (Ins p a t)))))
unfolding takes
at_ins_place a t = record { taken = λ x. refl; ended = λ n. refl }

pub at_del_label : Wants del_label (λ x. at_label x (λ a. goes (del_from a)))
unfolding takes
at_del_label = record { taken = λ x. refl; ended = λ n. refl }

pub at_del_from : (a : Label) → Wants (del_from a) (λ x. at_word (codes "from") x (del_place a))
unfolding takes
at_del_from a = record { taken = λ x. refl; ended = λ n. refl }

pub at_del_place : (a : Label) → Wants (del_place a) (λ x. at_place x (λ p. goes (ended (stmt.Op (Del a p)))))
unfolding takes
at_del_place a = record { taken = λ x. refl; ended = λ n. refl }

pub at_copy_origin : Wants copy_origin (λ x. at_place x (λ q. goes (copy_into q)))
unfolding takes
at_copy_origin = record { taken = λ x. refl; ended = λ n. refl }

pub at_copy_into : (q : Loc) → Wants (copy_into q) (λ x. at_word (codes "into") x (copy_place q))
unfolding takes
at_copy_into q = record { taken = λ x. refl; ended = λ n. refl }

pub at_copy_place : (q : Loc) → Wants (copy_place q) (λ x. at_place x (λ p. goes (ended (stmt.Op (Copy q p)))))
unfolding takes
at_copy_place q = record { taken = λ x. refl; ended = λ n. refl }

pub at_load_name : Wants load_name (λ x. at_name x (λ n. goes (load_form n)))
unfolding takes
at_load_name = record { taken = λ x. refl; ended = λ n. refl }

pub at_json_file : (n : List ℕ) → Wants (json_file n) (λ x. at_file x (λ f. goes (ended (json_load n f))))
unfolding takes
at_json_file n = record { taken = λ x. refl; ended = λ n. refl }

pub at_csv_file : (n : List ℕ) → Wants (csv_file n) (λ x. at_file x (λ f. goes (csv_by n f)))
unfolding takes
at_csv_file n = record { taken = λ x. refl; ended = λ n. refl }

pub at_csv_column : (n f : List ℕ) → Wants (csv_column n f) (λ x. at_label x (λ a. goes (ended (csv_load n f (Some a)))))
unfolding takes
at_csv_column n f = record { taken = λ x. refl; ended = λ n. refl }

pub at_asked_place : (k : Question) → Wants (asked_place k) (λ x. at_place x (λ q. goes (ended (query_of k q))))
unfolding takes
at_asked_place k = record { taken = λ x. refl; ended = λ n. refl }

-- the first label of an insertion is alone on its way
pub one : length {A = Level} [] + 1 ≡ 1
one = omega arith
