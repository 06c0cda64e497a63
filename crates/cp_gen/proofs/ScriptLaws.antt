-- What a generator gives of the statements that are left.
use Rattle.std.specs.Prelude.{ℕ, zero, suc, ◌≡◌, ◌==◌, ◌+◌, ◌-◌, ◌%◌, ◌<◌, ◌≤◌, false, List, [], ◌∷◌, ◌++◌, if◌then◌else◌}
use Rattle.std.proofs.Common.{sym, ap, ◌∙◌, arith}
use Rattle.std.proofs.lemmas.Grind.{common_steps}
use Rattle.cp_model.specs.declared.op.Op.{Op}
use Rattle.cp_lang.specs.declared.syntax_tree.Stmt.TheVariants as stmt
use Rattle.cp_gen.specs.declared.limits.TheConstants.{COMMIT_EVERY}
use Rattle.cp_gen.specs.declared.choice.Choice.{Choice}
use Rattle.cp_gen.specs.declared.choice.Choice.TheVariants.{Insert, CopyIn, CopyInside, Delete}
use Rattle.cp_gen.specs.Operations.{ScriptState, next_after, next_choice, next_operation, next_state, operations}
use Rattle.cp_gen.specs.Script.{commit_due, statements_left, with_commits}

after-bound : (c : Choice) (n : ℕ) → next_after c n ≤ n + 1
after-bound Insert n = omega arith
after-bound (CopyIn k at) n = omega arith
after-bound (CopyInside from into) n = omega arith
after-bound (Delete at) n = omega arith

-- an operation takes one new number at most
pub next-bound : (d e : ScriptState) → e ≡ next_state d → e.next ≤ d.next + 1
next-bound d e h = omega (arith, ap (λ (s : ScriptState). s.next) h, after-bound (next_choice d) d.next)

not_due : (k : ℕ) → k < COMMIT_EVERY → commit_due k ≡ []
not_due k h =
    let other : (k == COMMIT_EVERY) ≡ false = grind (arith, common_steps) in
    ap (λ b. if b then stmt.Commit ∷ [] else []) other

-- with fewer than ten pending, no commit is due
none-due : (ops : List Op) (k : ℕ) → k < COMMIT_EVERY → statements_left ops k ≡ with_commits ops k
none-due ops k h =
    let same : k % COMMIT_EVERY ≡ k = omega arith in
    ap (λ m. commit_due k ++ with_commits ops m) same ∙ ap (λ d. d ++ with_commits ops k) (not_due k h)

-- the next operation is given
pub operation-given : (d e : ScriptState) (op : Op) (l m k j : ℕ) → 0 < l → m ≡ l - 1 → k < COMMIT_EVERY → j ≡ k + 1 → e ≡ next_state d → op ≡ next_operation d →
    statements_left (operations l d) k ≡ stmt.Op op ∷ statements_left (operations m e) j
operation-given d e op zero m k j p a h b x o = absurd (omega arith)
operation-given d e op (suc n) m k j p a h b x o =
    let same : n ≡ m = omega arith in
    none-due (operations (suc n) d) k h
    ∙ ap (λ i. stmt.Op (next_operation d) ∷ statements_left (operations n (next_state d)) i) (sym b)
    ∙ ap (λ i. stmt.Op (next_operation d) ∷ statements_left (operations i (next_state d)) j) same
    ∙ ap (λ s. stmt.Op (next_operation d) ∷ statements_left (operations m s) j) (sym x)
    ∙ ap (λ q. stmt.Op q ∷ statements_left (operations m e) j) (sym o)
