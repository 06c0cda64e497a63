-- What the parts of a parser promise: which position their tokens lead to.
use Rattle.std.specs.Prelude.{ℕ, ◌+◌, List, ◌∷◌, ◌≡◌, ◌⊎◌, Bool, true, false, length, Result, Ok, Err, MatchResult, if◌then◌else◌}
use Rattle.std.specs.declared.option.Option.{Option}
use Rattle.std.specs.declared.option.Option.TheVariants.{None, Some}
use Rattle.cp_lang.specs.Lexer.{Shape}
use Rattle.cp_path.specs.Place.{Label}
use Rattle.cp_path.specs.declared.fault.PathFault.{PathFault}
use Rattle.cp_path.specs.declared.fault.PathFault.TheVariants as path
use Rattle.cp_lang.specs.Grammar as at
use Rattle.cp_lang.specs.Grammar.{Spot, Move, goes, cant, takes, end_of, refused_or, reads, Edges, Level, next_edge, close_node, at_label, new_edge, edge_end, tree_colon, after_tree, node}
use Rattle.cp_lang.specs.Tokenized.{shape_of}
use Rattle.cp_lang.specs.declared.lexer.Token.{Token}
use Rattle.cp_lang.specs.declared.parser.Parser.{Parser}
use Rattle.cp_model.specs.declared.literal.Literal.{Literal}
use Rattle.cp_model.specs.declared.query.Query.TheVariants.{Stats as stats}
use Rattle.cp_lang.specs.declared.syntax_tree.Stmt.{Stmt}
use Rattle.cp_lang.specs.declared.syntax_tree.Stmt.TheVariants as stmt
use Rattle.cp_lang.specs.declared.verb.Verb.{Verb}
use Rattle.cp_lang.specs.declared.verb.Verb.TheVariants as verb
use Rattle.cp_lang.specs.declared.syntax_tree.StmtFault.{StmtFault}
use Rattle.cp_lang.specs.declared.syntax_tree.StmtFault.TheVariants as fault

-- what the tokens that are left are, from a position
abbrev pub reading : Parser → Spot → Result Stmt StmtFault
reading p s = reads p.end s p.lexer

-- a position where a token is wanted, and what the token does there
pub record Wants (s : Spot) (does : Shape → Move) : Type 0 where
  pub taken : (x : Shape) → takes s x ≡ does x
  pub ended : (n : ℕ) → end_of n s ≡ Err (fault.Syntax n)

-- memory ran out, or the fault is what the tokens that are left are refused with
abbrev pub Stops : Parser → Spot → StmtFault → Type 0
Stops p s e = (e ≡ fault.Memory) ⊎ (reading p s ≡ Err e)

-- the fault is what a token at this offset is refused with
abbrev pub Refuses : ℕ → Move → StmtFault → Type 0
Refuses at t e = (next : Spot → Result Stmt StmtFault) → refused_or t at next ≡ Err e

-- the same, or memory ran out
abbrev pub Fails : ℕ → Move → StmtFault → Type 0
Fails at t e = (e ≡ fault.Memory) ⊎ Refuses at t e

-- how a token at this offset is read: the step goes on with what was read, or the token is refused
abbrev pub IsReadOrRefused : {X : Type 0} → ℕ → ((X → Move) → Move) → Result X StmtFault → Type 0
IsReadOrRefused {X} at step result = MatchResult result (λ x. (next : X → Move) → step next ≡ next x) (λ e. (next : X → Move) → Refuses at (step next) e)

-- the same, or memory ran out
abbrev pub IsRead : {X : Type 0} → ℕ → ((X → Move) → Move) → Result X StmtFault → Type 0
IsRead {X} at step result = MatchResult result (λ x. (next : X → Move) → step next ≡ next x) (λ e. (next : X → Move) → Fails at (step next) e)

-- the next token, whatever its position does with it, or a text that ends too early
abbrev pub GivesToken : Parser → Parser → Result Token StmtFault → Type 0
GivesToken old new result = MatchResult result
    (λ t. (s : Spot) → reading old s ≡ refused_or (takes s (shape_of t.shape)) t.at (reading new))
    (λ e. (s : Spot) → ((n : ℕ) → end_of n s ≡ Err (fault.Syntax n)) → reading old s ≡ Err e)

-- how a parser takes a mark or a key word: where it is wanted it leads on, or the text is refused
abbrev pub Passes : Parser → Parser → (Shape → Spot → Move) → Result (Unit {0}) StmtFault → Type 0
Passes old new step result = MatchResult result
    (λ _. (s next : Spot) → Wants s (λ x. step x next) → reading old s ≡ reading new next)
    (λ e. (s next : Spot) → Wants s (λ x. step x next) → reading old s ≡ Err e)

-- how a parser takes one token: where this step is wanted it goes on with what was read, or the text is refused, or memory ran out
abbrev pub Steps : {X : Type 0} → Parser → Parser → (Shape → (X → Move) → Move) → Result X StmtFault → Type 0
Steps {X} old new step result = MatchResult result
    (λ x. (s : Spot) (next : X → Spot) → Wants s (λ y. step y (λ b. goes (next b))) → reading old s ≡ reading new (next x))
    (λ e. (s : Spot) (next : X → Spot) → Wants s (λ y. step y (λ b. goes (next b))) → Stops old s e)

-- how a parser reads a part that begins at a position: it leads to the position that what was read gives, or the text is refused, or memory ran out
abbrev pub ReadsPart : {X : Type 0} → Parser → Parser → Spot → (X → Spot) → Result X StmtFault → Type 0
ReadsPart old new s next result = MatchResult result (λ x. reading old s ≡ reading new (next x)) (λ e. Stops old s e)

-- the end of the text is wanted where a whole statement was read
abbrev pub ReadsEnd : Parser → Result (Unit {0}) StmtFault → Type 0
ReadsEnd old result = MatchResult result (λ _. (x : Stmt) → reading old (at.ended x) ≡ Ok x) (λ e. (x : Stmt) → reading old (at.ended x) ≡ Err e)

-- the fault of a token at this offset that is wrongly spelled
abbrev pub spelling_fault : ℕ → PathFault → StmtFault
spelling_fault at path.Memory = fault.Memory
spelling_fault at e = fault.Place at e

-- the open nodes, the innermost with this label and these edges
abbrev pub within : Label → Edges → List Level → List Level
within a es ls = record { label = a; edges = es } ∷ ls

-- what is left from the token of an edge's label on, in a node with these edges
abbrev pub edge_reading : Parser → Token → Label → Edges → List Level → Result Stmt StmtFault
edge_reading p t a es ls = refused_or (at_label (shape_of t.shape) (new_edge (within a es ls))) t.at (reading p)

-- how the label of one edge more is read, in a node at this depth with these edges
abbrev pub IsEdgeLabel : Token → ℕ → Edges → Result Label StmtFault → Type 0
IsEdgeLabel t depth es result = MatchResult result
    (λ a. (b : Label) (ls : List Level) → length ls + 1 ≡ depth → at_label (shape_of t.shape) (new_edge (within b es ls)) ≡ goes (tree_colon a (within b es ls)))
    (λ e. (b : Label) (ls : List Level) → length ls + 1 ≡ depth → Fails t.at (at_label (shape_of t.shape) (new_edge (within b es ls))) e)

-- how a parser reads what begins with an edge's label, in a node at this depth with these edges
abbrev pub ReadsEdges : {X : Type 0} → Parser → Parser → Token → ℕ → Edges → (Label → List Level → Spot) → Result X StmtFault → Type 0
ReadsEdges old new t depth es next result = MatchResult result
    (λ _. (a : Label) (ls : List Level) → length ls + 1 ≡ depth → edge_reading old t a es ls ≡ reading new (next a ls))
    (λ e. (a : Label) (ls : List Level) → length ls + 1 ≡ depth → (e ≡ fault.Memory) ⊎ (edge_reading old t a es ls ≡ Err e))

-- how a parser reads a tree at this depth, from the position that its label and the open nodes give
abbrev pub ReadsTree : Parser → Parser → ℕ → (Label → List Level → Spot) → Result Literal StmtFault → Type 0
ReadsTree old new depth start result = MatchResult result
    (λ t. (a : Label) (ls : List Level) → length ls + 1 ≡ depth → reading old (start a ls) ≡ reading new (after_tree a t ls))
    (λ e. (a : Label) (ls : List Level) → length ls + 1 ≡ depth → Stops old (start a ls) e)

-- how a parser reads what stands behind an edge: whether one more follows
abbrev pub ReadsMore : Parser → Parser → Result Bool StmtFault → Type 0
ReadsMore old new result = MatchResult result
    (λ more. (a : Label) (es : Edges) (ls : List Level)
    → reading old (edge_end (within a es ls)) ≡ reading new (if more then next_edge (within a es ls) else after_tree a (node es) ls))
    (λ e. (ls : List Level) → reading old (edge_end ls) ≡ Err e)

-- behind an edge: one more, or the end of the node, or what can't stand
abbrev pub after_edge : Option Bool → List Level → Move
after_edge None ls = cant
after_edge (Some true) ls = goes (next_edge ls)
after_edge (Some false) ls = close_node ls

-- the position behind a statement's first word
abbrev pub after_verb : Verb → Spot
after_verb verb.Ins = at.ins_open
after_verb verb.Del = at.del_label
after_verb verb.Copy = at.copy_origin
after_verb verb.Commit = at.ended stmt.Commit
after_verb verb.Abort = at.ended stmt.Abort
after_verb verb.Load = at.load_name
after_verb verb.Src = at.asked_place at.asks_src
after_verb verb.Hist = at.asked_place at.asks_hist
after_verb verb.Mod = at.asked_place at.asks_mod
after_verb verb.Trace = at.asked_place at.asks_trace
after_verb verb.From = at.asked_place at.asks_from
after_verb verb.Show = at.show_place
after_verb verb.Records = at.records_tid
after_verb verb.Stats = at.ended (stmt.Ask stats)

-- what a first word does
abbrev pub at_verb : Option Verb → Move
at_verb None = cant
at_verb (Some v) = goes (after_verb v)
