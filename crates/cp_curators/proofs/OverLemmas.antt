-- Curators over a database, after each call.
use Rattle.std.specs.Prelude.{ℕ, ◌+◌, ◌<◌, List, [], ◌∷◌, ◌++◌, length, Result, Ok, Err, OnOk, OnErr, ⊤}
use Rattle.std.specs.declared.option.Option.TheVariants.{None, Some}
use Rattle.cp_model.specs.Tree.{Tree, Source}
use Rattle.cp_model.specs.declared.kind.Kind.{Kind}
use Rattle.cp_model.specs.declared.op.Op.{Op}
use Rattle.cp_model.specs.declared.refusal.Cause.TheVariants.{Refused}
use Rattle.cp_engine.specs.Transactions.{Progress, going, failed, after_unread}
use Rattle.cp_engine.specs.declared.fault.ApplyFault.{ApplyFault}
use Rattle.cp_engine.specs.declared.fault.ApplyFault.TheVariants as denied
use Rattle.cp_curators.specs.Desks.{Desks, HaveBegunBy, after_unread_text, come_to, desk_or, new_desk, with_desk}
use Rattle.cp_curators.specs.Curators.{Stands, StandsOver, OperatesFrom, Operates}
use Rattle.cp_curators.specs.declared.curators.Curators.{Curators}
use Rattle.cp_curators.proofs.DeskLaws.{goes_on, ends, committed}

-- what follows from a result and from an error follows
pub either : {A E P Q C : Type 0} (r : Result A E) → OnOk r P → OnErr r Q → (P → C) → (Q → C) → C
either (Ok x) p q f g = f p
either (Err e) p q f g = g q

module _ {R : Type 0} (view : R → Tree) (ss : List Source) (t : Tree) (k : Kind) (m : ℕ) (desks : Desks) (begun : HaveBegunBy t k m desks) (new : Curators R) where
  -- nothing was changed
  pub over-same : Stands view ss new desks → StandsOver view ss t k m new
  over-same s = (desks, s, begun)

  module _ (n : List ℕ) where
    -- the name's transaction goes on, or one begins
    over-goes_on : (p : Progress) → Stands view ss new (with_desk n (Some (come_to (desk_or (desks n) (new_desk t k m)) p)) desks) → StandsOver view ss t k m new
    over-goes_on p s = (with_desk n (Some (come_to (desk_or (desks n) (new_desk t k m)) p)) desks, s, goes_on t k m desks n p begun)

    -- a text couldn't be read
    pub over-spoiled : Stands view ss new (with_desk n (Some (after_unread_text (desk_or (desks n) (new_desk t k m)))) desks) → StandsOver view ss t k m new
    over-spoiled s = over-goes_on (after_unread (desk_or (desks n) (new_desk t k m)).progress) s

    -- the name's transaction ended
    pub over-ended : Stands view ss new (with_desk n None desks) → StandsOver view ss t k m new
    over-ended s = (with_desk n None desks, s, ends t k m desks n begun)

    operated : (op : Op) (p : Progress) (result : Result ⊤ ApplyFault) → OperatesFrom view ss desks n (desk_or (desks n) (new_desk t k m)) p op new result → StandsOver view ss t k m new
    operated op (going ops) (Ok u) h = over-goes_on (going (ops ++ op ∷ [])) h.1
    operated op (going ops) (Err (denied.Failed j)) h = absurd h
    operated op (going ops) (Err (denied.Refused r)) h = over-goes_on (failed (length ops + 1) (Refused r)) h.1
    operated op (going ops) (Err denied.Memory) h = over-same h
    operated op (failed i c) (Ok u) h = absurd h
    operated op (failed i c) (Err (denied.Failed j)) h = over-same h.1
    operated op (failed i c) (Err (denied.Refused r)) h = absurd h
    operated op (failed i c) (Err denied.Memory) h = absurd h

    -- an operation of the name
    pub over-operated : (op : Op) (result : Result ⊤ ApplyFault) → Operates view ss desks n (desk_or (desks n) (new_desk t k m)) op new result → StandsOver view ss t k m new
    over-operated op result h = operated op (desk_or (desks n) (new_desk t k m)).progress result h

-- after a commit they stand over the database as it is then
pub over-committed : {R : Type 0} (view : R → Tree) (ss : List Source) (t u : Tree) (k : Kind) (n o : ℕ) (c : Curators R) → n < o → StandsOver view ss t k n c → StandsOver view ss u k o c
over-committed view ss t u k n o c l h = (h.0, h.1, committed t u k n o h.0 h.2 l)
