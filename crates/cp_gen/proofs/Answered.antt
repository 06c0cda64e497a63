-- What a database answers, query after query.
use Rattle.std.specs.Prelude.{◌≡◌, true, List, refl, Result}
use Rattle.std.proofs.Common.{◌∙◌}
use Rattle.cp_model.specs.Tree.{Tree}
use Rattle.cp_model.specs.Past.{tree_of}
use Rattle.cp_model.specs.History.{Entry, State}
use Rattle.cp_model.specs.declared.answer.Answer.{Answer}
use Rattle.cp_model.specs.declared.query.Query.{Query}
use Rattle.cp_query.specs.Asked.{AnswersTo}
use Rattle.cp_query.specs.declared.fault.QueryFault.{QueryFault}
use Rattle.cp_db.specs.Databases.{HoldsState, IsDatabase, Stands}
use Rattle.cp_db.specs.declared.database.Db.{Db}
use Rattle.cp_gen.specs.Summaries.{IsAt, HasAnswered}

module _ {R S : Type 0} (view : R → Tree) (source_view : S → Tree) where
  -- what is answered in the state of each history for which it stands is answered in this one
  pub answers-at : (d : Db R S) (t : State) (asked : Query) (result : Result Answer QueryFault) → ((h : List Entry) (z : Stands view source_view true d h) → AnswersTo z.state asked result) → IsAt view source_view d t → AnswersTo t asked result
  answers-at d t asked result f z = f z.history (record { state = t; led = z.led; holds = z.holds; rows = λ right. z.rows })

  -- the tree is that of the state
  pub tree-at : (d : Db R S) (t : State) (u : Tree) → ((s : State) → HoldsState view source_view d s → u ≡ tree_of s.tree) → IsAt view source_view d t → u ≡ tree_of t.tree
  tree-at d t u f z = f t z.holds

  -- before any query
  pub answered-none : (d : Db R S) → HasAnswered view source_view d d
  answered-none d = record { same = record { states = λ s. (λ z. z, λ z. z); rows = λ s z. z }; file = (refl, refl, refl) }

  module _ (old new : Db R S) (x : HasAnswered view source_view old new) where
    -- one query after others
    pub answered-then : (last : Db R S) → HasAnswered view source_view new last → HasAnswered view source_view old last
    answered-then last y = record {
      same = record {
        states = λ s. (λ z. (y.same.states s).0 ((x.same.states s).0 z), λ z. (x.same.states s).1 ((y.same.states s).1 z));
        rows = λ s z. y.same.rows s (x.same.rows s z);
      };
      file = (y.file.0 ∙ x.file.0, y.file.1 ∙ x.file.1, y.file.2 ∙ x.file.2);
    }

    -- after queries it holds some state
    pub answered-database : IsDatabase view source_view old → IsDatabase view source_view new
    answered-database z = (z.0, (x.same.states z.0).0 z.1)

    -- and the same one
    pub answered-at : (t : State) → IsAt view source_view old t → IsAt view source_view new t
    answered-at t z = record { history = z.history; led = z.led; holds = (x.same.states t).0 z.holds; rows = x.same.rows t z.rows }
