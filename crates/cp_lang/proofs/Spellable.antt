-- A statement that is read is within every limit, so it can be printed, and written in a history.
use Rattle.cp_path.specs.declared.limits.TheConstants.{LABELS_MAX}
use Rattle.std.specs.Prelude.{ℕ, suc, ◌≤◌, ◌<◌, ◌^◌, ◌≡◌, List, [], ◌∷◌, Bool, true, false, ◌&&◌, ◌||◌, nat_le, nat_lt, length, ⊤, codes, refl, Result, Ok, Err, if◌then◌else◌}
use Rattle.std.proofs.Common.{subst, arith}
use Rattle.std.proofs.lemmas.Bool.{leb-false, ltb-true}
use Rattle.std.specs.Str.Parse.{digits_value}
use Rattle.std.specs.Str.{bytes_eq}
use Rattle.std.specs.declared.option.Option.{Option}
use Rattle.std.specs.declared.option.Option.TheVariants.{None, Some}
use Rattle.cp_path.specs.Text.{is_name, text_eq}
use Rattle.cp_path.specs.Place.{Label, target, at_target}
use Rattle.cp_spelling.specs.Reading.{SpellsValue}
use Rattle.cp_spelling.specs.Words.{place_reading, label_reading, value_reading, string_reading}
use Rattle.cp_spelling.proofs.WordLaws.{place_read, label_read}
use Rattle.cp_spelling.specs.Laws.{IsValueWithin}
use Rattle.cp_spelling.proofs.ValueLaws.{value_read}
use Rattle.cp_path.specs.declared.loc.Loc.{Loc}
use Rattle.cp_path.specs.declared.value.Value.{Value}
use Rattle.cp_path.specs.declared.value.Value.TheVariants as value
use Rattle.cp_path.specs.declared.fault.PathFault.{PathFault}
use Rattle.cp_model.specs.declared.literal.Literal.{Literal}
use Rattle.cp_model.specs.declared.literal.Literal.TheVariants as literal
use Rattle.cp_model.specs.declared.op.Op.TheVariants.{Ins, Del, Copy}
use Rattle.cp_model.specs.declared.query.Query.TheVariants as query
use Rattle.cp_lang.specs.Decimal.{is_decimal, decimal_value}
use Rattle.cp_lang.specs.Lexer.{Shape, opens, closes, colon, comma, word, quotes, stray, Token, tokens_of}
use Rattle.cp_lang.specs.Grammar.{Level, has_edge, node, after_tree, close_node, new_edge, at_tree, at_first, at_edge_end, at_form, after_start, reading_of, by_reading, if_some, at_word, at_open, at_close, at_colon, at_label, at_place, at_name, at_file, at_number, json_load, csv_load, Spot, Question, query_of, Move, goes, cant, bad, takes, reads, end_of, refused_or, statement_reading, start, ins_open, ins_label, tree_colon, tree, first_edge, next_edge, edge_end, ins_close, ins_into, ins_place, del_label, del_from, del_place, copy_origin, copy_into, copy_place, load_name, load_form, json_file, csv_file, csv_by, csv_column, asked_place, asks_src, asks_hist, asks_mod, asks_trace, asks_from, show_place, records_tid, ended}
use Rattle.cp_lang.specs.Printer.{IsPlaceWithinLimits, IsShortLabel, IsShortTree, IsSpellable}
use Rattle.cp_lang.proofs.Placing.{IsBelow, AreEdges, node-below, leaf-below, short-below, edges-insert}
use Rattle.cp_lang.specs.Written.{IsWrittenStmt}
use Rattle.cp_lang.specs.declared.syntax_tree.Stmt.{Stmt}
use Rattle.cp_lang.specs.declared.syntax_tree.Stmt.TheVariants as stmt
use Rattle.cp_lang.specs.declared.syntax_tree.StmtFault.{StmtFault}

-- the innermost node has no edge of this label
abbrev IsNew : Label → List Level → Type 0
IsNew a [] = ⊤
IsNew a (l ∷ ls) = has_edge a l.edges ≡ false

-- a label that may be placed below these nodes
abbrev MayCome : Label → List Level → Type 0
MayCome a ls = IsShortLabel a × (length ls ≤ 63) × IsNew a ls

-- nodes whose labels and edges are within their limits
abbrev AreLevels : List Level → Type 0
AreLevels [] = ⊤
AreLevels (l ∷ ls) = MayCome l.label ls × AreEdges (length ls) l.edges × AreLevels ls

-- the name of a source
abbrev IsOther : List ℕ → Type 0
IsOther n = (is_name n ≡ true) × (text_eq n target ≡ false)

-- what was read up to a position is within its limits
abbrev IsGood : Spot → Type 0
IsGood start = ⊤
IsGood ins_open = ⊤
IsGood ins_label = ⊤
IsGood (tree_colon a ls) = MayCome a ls × AreLevels ls
IsGood (tree a ls) = MayCome a ls × AreLevels ls
IsGood (first_edge ls) = AreLevels ls
IsGood (next_edge ls) = AreLevels ls
IsGood (edge_end ls) = AreLevels ls
IsGood (ins_close a t) = IsShortLabel a × IsShortTree t
IsGood (ins_into a t) = IsShortLabel a × IsShortTree t
IsGood (ins_place a t) = IsShortLabel a × IsShortTree t
IsGood del_label = ⊤
IsGood (del_from a) = IsShortLabel a
IsGood (del_place a) = IsShortLabel a
IsGood copy_origin = ⊤
IsGood (copy_into q) = IsPlaceWithinLimits q
IsGood (copy_place q) = IsPlaceWithinLimits q
IsGood load_name = ⊤
IsGood (load_form n) = IsOther n
IsGood (json_file n) = IsOther n
IsGood (csv_file n) = IsOther n
IsGood (csv_by n f) = IsOther n
IsGood (csv_column n f) = IsOther n
IsGood (asked_place k) = ⊤
IsGood show_place = ⊤
IsGood records_tid = ⊤
IsGood (ended x) = IsSpellable x

-- where a token leads is
abbrev Leads : Move → Type 0
Leads (goes s) = IsGood s
Leads cant = ⊤
Leads (bad e) = ⊤

-- ---- one token

reading-leads : {X : Type 0} (r : Result X PathFault) (next : X → Move) → ((x : X) → r ≡ Ok x → Leads (next x)) → Leads (by_reading r next)
reading-leads (Ok x) next h = h x refl
reading-leads (Err e) next h = tt

shape-leads : {X : Type 0} (read : List ℕ → Result X PathFault) (s : Shape) (next : X → Move) → ((w : List ℕ) (x : X) → read w ≡ Ok x → Leads (next x)) → Leads (reading_of read s next)
shape-leads read (word w) next h = reading-leads (read w) next (h w)
shape-leads read (quotes w) next h = reading-leads (read w) next (h w)
shape-leads read opens next h = tt
shape-leads read closes next h = tt
shape-leads read colon next h = tt
shape-leads read comma next h = tt
shape-leads read stray next h = tt

label-leads : (s : Shape) (next : Label → Move) → ((a : Label) → IsShortLabel a → Leads (next a)) → Leads (at_label s next)
label-leads s next h = shape-leads label_reading s next (λ w a e. h a (label_read w a e).1)

place-leads : (s : Shape) (next : Loc → Move) → ((q : Loc) → IsPlaceWithinLimits q → Leads (next q)) → Leads (at_place s next)
place-leads s next h = shape-leads place_reading s next (λ w q e. h q (let p = place_read w q e in record { name = p.3; short = p.4; few = p.2; small = p.1 }))

if-leads : (b : Bool) (t : Move) → Leads t → Leads (if b then t else cant)
if-leads true t h = h
if-leads false t h = tt

word-leads : (text : List ℕ) (s : Shape) (next : Spot) → IsGood next → Leads (at_word text s next)
word-leads text (word w) next h = if-leads (bytes_eq w text) (goes next) h
word-leads text (quotes w) next h = tt
word-leads text opens next h = tt
word-leads text closes next h = tt
word-leads text colon next h = tt
word-leads text comma next h = tt
word-leads text stray next h = tt

open-leads : (s : Shape) (next : Spot) → IsGood next → Leads (at_open s next)
open-leads opens next h = h
open-leads (word w) next h = tt
open-leads (quotes w) next h = tt
open-leads closes next h = tt
open-leads colon next h = tt
open-leads comma next h = tt
open-leads stray next h = tt

brace-leads : (s : Shape) (next : Spot) → IsGood next → Leads (at_close s next)
brace-leads closes next h = h
brace-leads (word w) next h = tt
brace-leads (quotes w) next h = tt
brace-leads opens next h = tt
brace-leads colon next h = tt
brace-leads comma next h = tt
brace-leads stray next h = tt

colon-leads : (s : Shape) (next : Spot) → IsGood next → Leads (at_colon s next)
colon-leads colon next h = h
colon-leads (word w) next h = tt
colon-leads (quotes w) next h = tt
colon-leads opens next h = tt
colon-leads closes next h = tt
colon-leads comma next h = tt
colon-leads stray next h = tt

some-leads : {X : Type 0} (o : Option X) (next : X → Move) → ((x : X) → o ≡ Some x → Leads (next x)) → Leads (if_some o next)
some-leads None next h = tt
some-leads (Some x) next h = h x refl

file-leads : (s : Shape) (next : List ℕ → Move) → ((f : List ℕ) → Leads (next f)) → Leads (at_file s next)
file-leads (quotes w) next h = some-leads (string_reading w) next (λ f e. h f)
file-leads (word w) next h = tt
file-leads opens next h = tt
file-leads closes next h = tt
file-leads colon next h = tt
file-leads comma next h = tt
file-leads stray next h = tt

same_some : (m n : ℕ) → Some m ≡ Some n → m ≡ n
same_some m n e = cc

number_small : (w : List ℕ) (n : ℕ) → decimal_value w ≡ Some n → n < 2 ^ 64
number_small w n h = by (is_decimal w) (nat_lt (digits_value 10 w) (2 ^ 64)) refl h
  where
    by : (a b : Bool) → nat_lt (digits_value 10 w) (2 ^ 64) ≡ b → (if a && b then Some (digits_value 10 w) else None) ≡ Some n → n < 2 ^ 64
    by true true e k = let same : digits_value 10 w ≡ n = same_some (digits_value 10 w) n k in let l = ltb-true (digits_value 10 w) (2 ^ 64) e in subst (λ m. m < 2 ^ 64) same l
    by true false e k = absurd (cc)
    by false b e k = absurd (cc)

number-leads : (s : Shape) (next : ℕ → Move) → ((n : ℕ) → n < 2 ^ 64 → Leads (next n)) → Leads (at_number s next)
number-leads (word w) next h = some-leads (decimal_value w) next (λ n e. h n (number_small w n e))
number-leads (quotes w) next h = tt
number-leads opens next h = tt
number-leads closes next h = tt
number-leads colon next h = tt
number-leads comma next h = tt
number-leads stray next h = tt

name-leads : (s : Shape) (next : List ℕ → Move) → ((n : List ℕ) → IsOther n → Leads (next n)) → Leads (at_name s next)
name-leads (word w) next h = by (is_name w) (text_eq w target) refl refl
  where
    by : (a b : Bool) → is_name w ≡ a → text_eq w target ≡ b → Leads (if a then (if b then cant else next w) else cant)
    by true true e f = tt
    by true false e f = h w (e, f)
    by false b e f = tt
name-leads (quotes w) next h = tt
name-leads opens next h = tt
name-leads closes next h = tt
name-leads colon next h = tt
name-leads comma next h = tt
name-leads stray next h = tt

choice-leads : (b : Bool) (t u : Move) → Leads t → Leads u → Leads (if b then t else u)
choice-leads true t u h k = h
choice-leads false t u h k = k

-- ---- trees

-- a tree is placed
placed-good : (a : Label) (t : Literal) (ls : List Level) → MayCome a ls → AreLevels ls → IsBelow (length ls) t → IsGood (after_tree a t ls)
placed-good a t [] m h b = (m.0, short-below t b)
placed-good a t (l ∷ ls) m h b = (h.0, edges-insert (length ls) a t l.edges m.0 b m.2 h.1, h.2)

-- a node is closed
close-leads : (ls : List Level) → AreLevels ls → Leads (close_node ls)
close-leads [] h = tt
close-leads (l ∷ ls) h = placed-good l.label (node l.edges) ls h.0 h.2 (node-below (length ls) l.edges h.0.1 h.1)

-- a label comes
new-leads : (ls : List Level) (a : Label) → IsShortLabel a → AreLevels ls → Leads (new_edge ls a)
new-leads [] a l h = tt
new-leads (k ∷ ls) a l h = by (nat_le LABELS_MAX (suc (length ls))) (has_edge a k.edges) refl refl
  where
    by : (b c : Bool) → nat_le LABELS_MAX (suc (length ls)) ≡ b → has_edge a k.edges ≡ c → Leads (if b || c then cant else goes (tree_colon a (k ∷ ls)))
    by true c e f = tt
    by false true e f = tt
    by false false e f = let few = leb-false LABELS_MAX (suc (length ls)) e in ((l, omega (arith, few), f), h)

spelled-within : (w : List ℕ) (v : Value) → SpellsValue w v → IsValueWithin v
spelled-within w value.Null h = tt
spelled-within w value.False h = tt
spelled-within w value.True h = tt
spelled-within w (value.Whole n) h = h.0
spelled-within w (value.Text t) h = h.1

value-leads : (a : Label) (ls : List Level) → MayCome a ls → AreLevels ls → (w : List ℕ) (v : Value) → value_reading w ≡ Ok v → Leads (goes (after_tree a (literal.Leaf v) ls))
value-leads a ls m h w v e = placed-good a (literal.Leaf v) ls m h (leaf-below (length ls) v m.1 (spelled-within w v (value_read w v e)))

tree-leads : (a : Label) (ls : List Level) (s : Shape) → MayCome a ls → AreLevels ls → Leads (at_tree a ls s)
tree-leads a ls opens m h = (m, tt, h)
tree-leads a ls (word w) m h = reading-leads (value_reading w) (λ v. goes (after_tree a (literal.Leaf v) ls)) (value-leads a ls m h w)
tree-leads a ls (quotes w) m h = reading-leads (value_reading w) (λ v. goes (after_tree a (literal.Leaf v) ls)) (value-leads a ls m h w)
tree-leads a ls closes m h = tt
tree-leads a ls colon m h = tt
tree-leads a ls comma m h = tt
tree-leads a ls stray m h = tt

edge-leads : (ls : List Level) (s : Shape) → AreLevels ls → Leads (at_label s (new_edge ls))
edge-leads ls s h = label-leads s (new_edge ls) (λ a l. new-leads ls a l h)

first-leads : (ls : List Level) (s : Shape) → AreLevels ls → Leads (at_first ls s)
first-leads ls closes h = close-leads ls h
first-leads ls (word w) h = edge-leads ls (word w) h
first-leads ls (quotes w) h = edge-leads ls (quotes w) h
first-leads ls opens h = tt
first-leads ls colon h = tt
first-leads ls comma h = tt
first-leads ls stray h = tt

end-leads : (ls : List Level) (s : Shape) → AreLevels ls → Leads (at_edge_end ls s)
end-leads ls comma h = h
end-leads ls closes h = close-leads ls h
end-leads ls (word w) h = tt
end-leads ls (quotes w) h = tt
end-leads ls opens h = tt
end-leads ls colon h = tt
end-leads ls stray h = tt

-- ---- statements

start-leads : (w : List ℕ) → Leads (after_start w)
start-leads w =
    choice-leads (bytes_eq w (codes "ins")) (goes ins_open) _ tt
    (choice-leads (bytes_eq w (codes "del")) (goes del_label) _ tt
    (choice-leads (bytes_eq w (codes "copy")) (goes copy_origin) _ tt
    (choice-leads (bytes_eq w (codes "commit")) (goes (ended stmt.Commit)) _ tt
    (choice-leads (bytes_eq w (codes "abort")) (goes (ended stmt.Abort)) _ tt
    (choice-leads (bytes_eq w (codes "load")) (goes load_name) _ tt
    (choice-leads (bytes_eq w (codes "src")) (goes (asked_place asks_src)) _ tt
    (choice-leads (bytes_eq w (codes "hist")) (goes (asked_place asks_hist)) _ tt
    (choice-leads (bytes_eq w (codes "mod")) (goes (asked_place asks_mod)) _ tt
    (choice-leads (bytes_eq w (codes "trace")) (goes (asked_place asks_trace)) _ tt
    (choice-leads (bytes_eq w (codes "from")) (goes (asked_place asks_from)) _ tt
    (choice-leads (bytes_eq w (codes "show")) (goes show_place) _ tt
    (choice-leads (bytes_eq w (codes "records")) (goes records_tid) _ tt
    (choice-leads (bytes_eq w (codes "stats")) (goes (ended (stmt.Ask query.Stats))) cant tt tt)))))))))))))

form-leads : (n : List ℕ) (s : Shape) → IsOther n → Leads (at_form n s)
form-leads n (word w) h = choice-leads (bytes_eq w (codes "json")) (goes (json_file n)) _ h (choice-leads (bytes_eq w (codes "csv")) (goes (csv_file n)) cant h tt)
form-leads n (quotes w) h = tt
form-leads n opens h = tt
form-leads n closes h = tt
form-leads n colon h = tt
form-leads n comma h = tt
form-leads n stray h = tt

asked-good : (k : Question) (q : Loc) → IsPlaceWithinLimits q → IsSpellable (query_of k q)
asked-good asks_src q h = h
asked-good asks_hist q h = h
asked-good asks_mod q h = h
asked-good asks_trace q h = h
asked-good asks_from q h = h

takes-leads : (s : Spot) (x : Shape) → IsGood s → Leads (takes s x)
unfolding takes
takes-leads start (word w) h = start-leads w
takes-leads start (quotes w) h = tt
takes-leads start opens h = tt
takes-leads start closes h = tt
takes-leads start colon h = tt
takes-leads start comma h = tt
takes-leads start stray h = tt
takes-leads ins_open x h = open-leads x ins_label tt
takes-leads ins_label x h = label-leads x (λ a. goes (tree_colon a [])) (λ a l. ((l, omega arith, tt), tt))
takes-leads (tree_colon a ls) x h = colon-leads x (tree a ls) h
takes-leads (tree a ls) x h = tree-leads a ls x h.0 h.1
takes-leads (first_edge ls) x h = first-leads ls x h
takes-leads (next_edge ls) x h = edge-leads ls x h
takes-leads (edge_end ls) x h = end-leads ls x h
takes-leads (ins_close a t) x h = brace-leads x (ins_into a t) h
takes-leads (ins_into a t) x h = word-leads (codes "into") x (ins_place a t) h
takes-leads (ins_place a t) x h = place-leads x (λ p. goes (ended (stmt.Op (Ins p a t)))) (λ p q. (q, h.0, h.1))
takes-leads del_label x h = label-leads x (λ a. goes (del_from a)) (λ a l. l)
takes-leads (del_from a) x h = word-leads (codes "from") x (del_place a) h
takes-leads (del_place a) x h = place-leads x (λ p. goes (ended (stmt.Op (Del a p)))) (λ p q. (h, q))
takes-leads copy_origin x h = place-leads x (λ q. goes (copy_into q)) (λ q p. p)
takes-leads (copy_into q) x h = word-leads (codes "into") x (copy_place q) h
takes-leads (copy_place q) x h = place-leads x (λ p. goes (ended (stmt.Op (Copy q p)))) (λ p i. (h, i))
takes-leads load_name x h = name-leads x (λ n. goes (load_form n)) (λ n o. o)
takes-leads (load_form n) x h = form-leads n x h
takes-leads (json_file n) x h = file-leads x (λ f. goes (ended (json_load n f))) (λ f. (h.0, h.1, tt))
takes-leads (csv_file n) x h = file-leads x (λ f. goes (csv_by n f)) (λ f. h)
takes-leads (csv_by n f) x h = word-leads (codes "by") x (csv_column n f) h
takes-leads (csv_column n f) x h = label-leads x (λ a. goes (ended (csv_load n f (Some a)))) (λ a l. (h.0, h.1, l))
takes-leads (asked_place k) x h = place-leads x (λ q. goes (ended (query_of k q))) (λ q p. asked-good k q p)
takes-leads show_place x h = place-leads x (λ q. goes (ended (stmt.Show q))) (λ q p. p)
takes-leads records_tid x h = number-leads x (λ t. goes (ended (stmt.Ask (query.Records (Some t))))) (λ t l. l)
takes-leads (ended y) x h = tt

same_statement : (x y : Stmt) (r : Result Stmt StmtFault) → r ≡ Ok x → r ≡ Ok y → x ≡ y
same_statement x y r e f = cc

ends-good : (n : ℕ) (s : Spot) (x : Stmt) → IsGood s → end_of n s ≡ Ok x → IsSpellable x
ends-good n (ended y) x h e = subst IsSpellable (same_statement y x (Ok y) refl e) h
ends-good n show_place x h e = subst IsSpellable (same_statement (stmt.Show (at_target [])) x (Ok (stmt.Show (at_target []))) refl e) (record { name = refl; short = refl; few = omega arith; small = omega arith })
ends-good n records_tid x h e = subst IsSpellable (same_statement (stmt.Ask (query.Records None)) x (Ok (stmt.Ask (query.Records None))) refl e) tt
ends-good n (csv_by m f) x h e = subst IsSpellable (same_statement (csv_load m f None) x (Ok (csv_load m f None)) refl e) (h.0, h.1, tt)
ends-good n s x h e = absurd (cc)

reads-good : (n : ℕ) (s : Spot) (ts : List Token) (x : Stmt) → IsGood s → reads n s ts ≡ Ok x → IsSpellable x
unfolding reads
reads-good n s [] x h e = ends-good n s x h e
reads-good n s (t ∷ ts) x h e = by (takes s t.shape) (takes-leads s t.shape h) (λ u g k. reads-good n u ts x g k) e
  where
    by : (k : Move) → Leads k → ((u : Spot) → IsGood u → reads n u ts ≡ Ok x → IsSpellable x) → refused_or k t.at (λ u. reads n u ts) ≡ Ok x → IsSpellable x
    by (goes u) g later e = later u g e
    by cant g later e = absurd (cc)
    by (bad f) g later e = absurd (cc)

-- a statement that is read is within every limit
pub read_spellable : (text : List ℕ) (s : Stmt) → statement_reading text ≡ Ok s → IsSpellable s
unfolding statement_reading
read_spellable text s e = reads-good (length text) start (tokens_of text) s tt e

-- a statement within every limit can be written
spellable_written : (s : Stmt) → IsSpellable s → IsWrittenStmt s
spellable_written (stmt.Op (Ins p a t)) h = let tree : IsShortTree t = h.2 in (h.1, tree.0)
spellable_written (stmt.Op (Del a p)) h = tt
spellable_written (stmt.Op (Copy q p)) h = tt
spellable_written stmt.Commit h = tt
spellable_written stmt.Abort h = tt
spellable_written (stmt.Load l) h = h.1
spellable_written (stmt.Ask q) h = tt
spellable_written (stmt.Show q) h = tt

-- a statement that is read can be written
pub read_written : (text : List ℕ) (s : Stmt) → statement_reading text ≡ Ok s → IsWrittenStmt s
read_written text s e = spellable_written s (read_spellable text s e)
