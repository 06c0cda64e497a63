-- What a text says, by how it reads.
use Rattle.std.proofs.Common.{◌≡◌, ℕ, List, Ok, Err, inl, inr, ap, ◌∙◌}
use Rattle.std.specs.Prelude.{◌⊎◌}
use Rattle.cp_path.specs.declared.fault.PathFault.{PathFault}
use Rattle.cp_lang.specs.Grammar.{bytes_reading}
use Rattle.cp_lang.specs.declared.syntax_tree.Stmt.{Stmt}
use Rattle.cp_lang.specs.declared.syntax_tree.StmtFault.{StmtFault}
use Rattle.cp_lang.specs.declared.syntax_tree.StmtFault.TheVariants as fault
use Rattle.cp_reply.specs.declared.reply.Why.TheVariants as why
use Rattle.cp_reply.specs.Session.{says, unread}
use Rattle.cp_workspace.specs.Texts.{read_as, reading}

-- a statement
pub says_ok : (text : List ℕ) (s : Stmt) → bytes_reading text ≡ Ok s → reading text ≡ says s
unfolding reading
says_ok text s e = ap (read_as text) e

-- no statement
pub says_err : (text : List ℕ) (e : StmtFault) → bytes_reading text ≡ Err e → reading text ≡ read_as text (Err e)
unfolding reading
says_err text e h = ap (read_as text) h

-- a text with a token that can't stand
pub says_syntax : (text : List ℕ) (e : StmtFault) (at : ℕ) → (e ≡ fault.Memory) ⊎ (bytes_reading text ≡ Err e) → e ≡ fault.Syntax at → reading text ≡ unread (why.Syntax at)
says_syntax text e at h k = elim h [
  | inl m ↦ absurd (cc)
  | inr r ↦ says_err text e r ∙ ap (λ x. read_as text (Err x)) k
]

-- a text with a token that reads as nothing
pub says_place : (text : List ℕ) (e : StmtFault) (at : ℕ) (f : PathFault) → (e ≡ fault.Memory) ⊎ (bytes_reading text ≡ Err e) → e ≡ fault.Place at f → reading text ≡ unread (why.Place at f)
says_place text e at f h k = elim h [
  | inl m ↦ absurd (cc)
  | inr r ↦ says_err text e r ∙ ap (λ x. read_as text (Err x)) k
]
