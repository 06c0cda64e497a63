-- A commit of accepted operations: that it may be made, and what it does to the state of a history.
use Rattle.cp_model.specs.declared.limits.TheConstants.{OPS_MAX}
use Rattle.std.specs.Prelude.{◌+◌, ◌≤◌, ◌≡◌, List, [], ◌∷◌, ◌++◌, length, refl}
use Rattle.std.proofs.Common.{sym, subst, arith}
use Rattle.cp_model.specs.Past.{tree_of}
use Rattle.cp_model.specs.History.{State, AreWritten, CanCommit, steps_of, after_commit}
use Rattle.cp_model.specs.declared.kind.Kind.{Kind}
use Rattle.cp_model.specs.declared.kind.Kind.TheVariants as kind
use Rattle.cp_model.specs.declared.op.Op.{Op}
use Rattle.cp_model.proofs.Histories.{after-commit}
use Rattle.cp_model.specs.Changes.{AreNext}
use Rattle.cp_operation.specs.Passed.{stage_after, records_of, AllAccepted}
use Rattle.cp_operation.proofs.Accepting.{done-accepted}
use Rattle.cp_operation.proofs.Linked.{accepted-step, accepted-done}
use Rattle.cp_engine.proofs.Stepped.{stepped-in}

-- accepted operations may be committed, where they are some, not too many, and can be written
pub can-commit : (s : State) (ops : List Op) → 1 ≤ length ops → length ops ≤ OPS_MAX → AreWritten ops → AllAccepted s.sources (tree_of s.tree) ops → CanCommit s ops
can-commit s ops some few w a = record { some = some; few = few; written = w; accepted = accepted-done s.sources (tree_of s.tree) ops a }

-- and what may be committed is accepted
pub commit-accepted : (s : State) (ops : List Op) → CanCommit s ops → AllAccepted s.sources (tree_of s.tree) ops
commit-accepted s ops c = done-accepted s.sources (tree_of s.tree) ops c.accepted

-- operations are some steps
pub some-steps : (k : Kind) (ops : List Op) → 1 ≤ length ops → 1 ≤ length (steps_of k ops)
some-steps kind.N [] h = absurd (omega (arith, h))
some-steps kind.N (op ∷ ops) h = omega arith
some-steps kind.H [] h = absurd (omega (arith, h))
some-steps kind.H (op ∷ ops) h = omega arith
some-steps kind.T ops h = omega arith
some-steps kind.HT ops h = omega arith

-- a commit of the operations leads from the state s to z: they are some steps, whose records come next
pub record IsCommitted (s : State) (ops : List Op) (z : State) : Type 0 where
  pub kind : z.kind ≡ s.kind
  pub sources : z.sources ≡ s.sources
  pub tree : tree_of z.tree ≡ (stage_after s.kind s.sources (tree_of s.tree) (s.now + 1) ops).tree
  pub rows : z.rows ≡ s.rows ++ records_of s.kind s.sources (tree_of s.tree) (s.now + 1) ops
  pub now : z.now ≡ s.now + length (steps_of s.kind ops)
  pub commits : z.commits ≡ s.commits + 1
  pub next : AreNext s.now z.now (records_of s.kind s.sources (tree_of s.tree) (s.now + 1) ops)
  pub some : 1 ≤ length (steps_of s.kind ops)
  pub few : length (steps_of s.kind ops) ≤ length ops

-- accepted operations are committed so
pub committed : (s : State) (ops : List Op) → 1 ≤ length ops → AllAccepted s.sources (tree_of s.tree) ops → IsCommitted s ops (after_commit s ops)
unfolding after_commit
committed s ops some a =
    let i = stepped-in s ops some a s.kind refl in
    let x = accepted-step s.kind s.sources (tree_of s.tree) (s.now + 1) ops a in
    record {
      kind = i.kind;
      sources = i.sources;
      tree = i.tree;
      rows = i.rows;
      now = i.now;
      commits = (after-commit s ops (length ops) x.0 x.1).4;
      next = subst (λ n. AreNext s.now n (records_of s.kind s.sources (tree_of s.tree) (s.now + 1) ops)) (sym i.now) i.next;
      some = some-steps s.kind ops some;
      few = i.few;
    }
