-- What has been written of a literal.
use Rattle.std.proofs.Common.{◌≡◌, ◌++◌, ◌∷◌, [], ℕ, suc, ◌+◌, List, drop, codes, ap, sym, ◌∙◌, append_assoc, append-nil, subst, arith, Result, Ok, Err, OnOk, if◌then◌else◌}
use Rattle.std.specs.Result.{is_ok}
use Rattle.cp_path.specs.Spelling.{value_text}
use Rattle.cp_path.specs.declared.value.Value.{Value}
use Rattle.cp_model.specs.Literals.{literal_rows, edge_rows}
use Rattle.cp_model.specs.Trees.{tree_at, levels}
use Rattle.cp_model.specs.declared.row.Content.TheVariants.{Node}
use Rattle.cp_model.specs.declared.literal.LitEdge.{LitEdge}
use Rattle.cp_model.specs.declared.literal.Literal.{Literal}
use Rattle.cp_model.specs.declared.literal.Literal.TheVariants as literal
use Rattle.cp_lang.specs.Printed.{Rows, AreWithin, IsOrdered, edge_text, edges_text, node_edges_text}
use Rattle.cp_lang.specs.Printer.{AreShort, IsShortTree}
use Rattle.cp_lang.proofs.PrintedLemmas.{AreOrdered, node_edges, node_text, leaf_text}

-- the first edges, so many, are written; what follows is still to come, with this text before it
abbrev pub IsWritten : List LitEdge → ℕ → List ℕ → List ℕ → List ℕ → Type 0
IsWritten edges i separator out before =
    (n : ℕ) → AreOrdered n edges → AreOrdered n (drop i edges) × (out ++ edges_text n separator (drop i edges) ≡ before ++ edges_text n [] edges)

-- one edge more
pub written_more : (edges : List LitEdge) (i : ℕ) (e : LitEdge) (separator out parted more before : List ℕ) →
    drop i edges ≡ e ∷ drop (i + 1) edges → IsWritten edges i separator out before → parted ≡ out ++ separator →
    ((n : ℕ) → IsOrdered n (literal_rows e.tree) → more ≡ parted ++ edge_text n e) → IsWritten edges (i + 1) (codes ", ") more before
written_more edges i e separator out parted more before d w p f n h =
    let k : AreOrdered n (e ∷ drop (i + 1) edges) = subst (AreOrdered n) d (w n h).0 in
    let later = edges_text n (codes ", ") (drop (i + 1) edges) in (
      k.1,
      ap (λ bs. bs ++ later) (f n k.0 ∙ ap (λ bs. bs ++ edge_text n e) p)
          ∙ append_assoc (out ++ separator) (edge_text n e) later
          ∙ append_assoc out separator (edge_text n e ++ later)
          ∙ ap (λ es. out ++ edges_text n separator es) (sym d)
          ∙ (w n h).1,
    )

-- all edges
pub written_all : (edges : List LitEdge) (rows : Rows) (i : ℕ) (separator out before : List ℕ) → rows ≡ edge_rows edges → drop i edges ≡ [] → IsWritten edges i separator out before →
    (n : ℕ) → IsOrdered (suc n) (([], Node) ∷ rows) → out ≡ before ++ node_edges_text n rows
written_all edges rows i separator out before e d w n h =
    let k = node_edges n edges (subst (λ rs. IsOrdered (suc n) (([], Node) ∷ rs)) e h) in
    sym (append-nil out) ∙ ap (λ es. out ++ edges_text n separator es) (sym d) ∙ (w n k.0).1 ∙ ap (λ bs. before ++ bs) (sym k.1) ∙ ap (λ rs. before ++ node_edges_text n rs) (sym e)

-- the node and its braces
pub written_node : (t : Literal) (rows : Rows) (before opened filled out : List ℕ) → t ≡ literal.Node rows → opened ≡ before ++ codes "{" →
    ((n : ℕ) → IsOrdered (suc n) (([], Node) ∷ rows) → filled ≡ opened ++ node_edges_text n rows) → out ≡ filled ++ codes "}" →
    (n : ℕ) → IsOrdered n (literal_rows t) → out ≡ before ++ tree_at n (literal_rows t)
written_node t rows before opened filled out e a f b n h =
    let g : IsOrdered n (([], Node) ∷ rows) = subst (λ x. IsOrdered n (literal_rows x)) e h in
    let k = node_text n rows g in
    let edges = node_edges_text k.0 rows in
    b ∙ ap (λ bs. bs ++ codes "}") (f k.0 (subst (λ m. IsOrdered m (([], Node) ∷ rows)) k.1 g) ∙ ap (λ bs. bs ++ edges) a)
    ∙ append_assoc (before ++ codes "{") edges (codes "}")
    ∙ append_assoc before (codes "{") (edges ++ codes "}")
    ∙ ap (λ bs. before ++ bs) (sym k.2)
    ∙ ap (λ x. before ++ tree_at n (literal_rows x)) (sym e)

-- the value
pub written_leaf : (t : Literal) (v : Value) (before out : List ℕ) → t ≡ literal.Leaf v → out ≡ before ++ value_text v →
    (n : ℕ) → IsOrdered n (literal_rows t) → out ≡ before ++ tree_at n (literal_rows t)
written_leaf t v before out e a n h =
    a ∙ ap (λ bs. before ++ bs) (sym (leaf_text n v (subst (λ x. IsOrdered n (literal_rows x)) e h))) ∙ ap (λ x. before ++ tree_at n (literal_rows x)) (sym e)

pub on_ok : {A E : Type 0} (r : Result A E) (P Q : Type 0) → (P → Q) → OnOk r P → OnOk r Q
on_ok (Ok a) P Q f h = f h
on_ok (Err e) P Q f h = h

pub on_ok_bytes : {A E : Type 0} (r : Result A E) (bytes more same : List ℕ) (P : Type 0) → bytes ≡ (if is_ok r then more else same) → (bytes ≡ more → P) → OnOk r P
on_ok_bytes (Ok a) bytes more same P e f = f e
on_ok_bytes (Err x) bytes more same P e f = tt

short_within : (rows : Rows) → AreShort 63 rows → AreWithin levels rows
short_within [] h = tt
short_within (r ∷ rows) h = (omega (arith, h.0), short_within rows h.3)

-- a literal that a statement spells is in order
pub short_ordered : (t : Literal) → IsShortTree t → IsOrdered levels (literal_rows t)
short_ordered t h = record { sorted = h.0.sorted; within = short_within (literal_rows t) h.1 }
