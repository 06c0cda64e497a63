-- How a workload begins: on a new database with the source of the scripts.
use Rattle.std.proofs.Common.{◌≡◌, ◌∙◌, ℕ, ◌+◌, List, [], ◌∷◌, Bool, true, false, Ok, Err, refl, inl, inr, sym, subst}
use Rattle.std.specs.Prelude.{IsTrue, ◌⊎◌, ⊤}
use Rattle.cp_model.specs.Tree.{Tree}
use Rattle.cp_model.specs.History.{start, load, IsSource}
use Rattle.cp_model.specs.declared.kind.Kind.{Kind}
use Rattle.cp_journal.specs.declared.limits.TheConstants.{HEADER_SIZE, FRAME_HEAD}
use Rattle.cp_frame.specs.Sizes.{start_size, load_size}
use Rattle.cp_frame.proofs.Ends.{end_of-none}
use Rattle.cp_db.specs.declared.fault.LoadFault.TheVariants as fault
use Rattle.cp_gen.specs.Source.{source_name, source_tree}
use Rattle.cp_gen.proofs.SourceLaws.{source-loads}
use Rattle.cp_workspace.specs.Workspaces.{EndsAt}
use Rattle.cp_workspace.proofs.Standing.{ends-added}
use Rattle.cp_scratch.specs.Sessions.{empty_tree}
use Rattle.cp_scratch.specs.Workloads.{workload_start, workload_terms}

-- the source of the scripts may be loaded under its name
pub is-source : (u : Tree) (n : List ℕ) → n ≡ source_name → u ≡ source_tree → IsSource n u
is-source u n named is = subst (λ m. IsSource m u) (sym named) (subst (λ m. IsSource source_name m) (sym is) source-loads)

-- where the frames end with it
pub source-ends : (k : Kind) (before now : ℕ) → before ≡ HEADER_SIZE + FRAME_HEAD + start_size empty_tree → now ≡ before + FRAME_HEAD + load_size source_name source_tree
    → EndsAt (workload_terms k).ends (workload_start k) now
source-ends k before now began is =
    let f = (workload_terms k).ends in
    ends-added f (start k empty_tree ∷ []) before now (load source_name source_tree) (record { later = []; begun = refl; is_end = began ∙ sym (end_of-none f) }) is

not_true : (b : Bool) → (IsTrue b → ⊥) → b ≡ false
not_true true h = absurd (h refl)
not_true false h = refl

-- a source that was loaded spends nothing
pub unspent : (b : Bool) (u : ⊤) → (IsTrue b → (Ok u ≡ Err fault.Disk) ⊎ (Ok u ≡ Err fault.Memory)) → b ≡ false
unspent b u f = not_true b (λ t. elim (f t) [ inl e ↦ absurd (cc) | inr e ↦ absurd (cc) ])
