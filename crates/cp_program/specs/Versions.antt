-- What is replied to who asks something of a version of the history in a store, and how many versions it has.
use Rattle.std.specs.Prelude.{◌≡◌, ◌+◌, ℕ, Bool, true, false, List, nat_lt}
use Rattle.std.specs.declared.option.Option.{Option}
use Rattle.std.specs.declared.option.Option.TheVariants.{None, Some}
use Rattle.cp_model.specs.Answers.{answer_to}
use Rattle.cp_model.specs.History.{Entry, State, replay}
use Rattle.cp_model.specs.Past.{tree_of}
use Rattle.cp_model.specs.Tree.{Tree}
use Rattle.cp_model.specs.Versions.{version}
use Rattle.cp_model.specs.declared.answer.Answer.{Answer}
use Rattle.cp_model.specs.declared.query.Query.{Query}
use Rattle.cp_archive.specs.Histories.{AreVersions}
use Rattle.cp_archive.specs.Ranges.{range_count}
use Rattle.cp_frame.specs.Stands.{IsTold}
use Rattle.cp_reply.specs.Session.{no_place_of}
use Rattle.cp_reply.specs.declared.reply.Of.TheVariants as of
use Rattle.cp_reply.specs.declared.reply.Why.TheVariants as why
use Rattle.cp_reply.specs.declared.reply.Reply.{Reply}
use Rattle.cp_reply.specs.declared.reply.Reply.TheVariants as reply
use Rattle.cp_words.specs.declared.command.Asked.{Asked}
use Rattle.cp_words.specs.declared.command.Asked.TheVariants as of_version
use Rattle.cp_workspace.specs.Workspaces.{shown_reply}

-- the reply to a query of a place is its answer, where the records are right, and says that the place isn't there, where there is none; where they aren't right, another answer may stand for it
abbrev pub RepliesTo : Bool → Query → Option Answer → Reply → Type 0
RepliesTo right q None y = y ≡ reply.Refused of.Statement (no_place_of q)
RepliesTo true q (Some a) y = y ≡ reply.Answered q a
RepliesTo false q (Some a) y = (b : Answer) × (y ≡ reply.Answered q b)

-- the reply is that on the state of a version: to a `show` what its tree has there, to a query the answer
abbrev pub RepliesOn : Asked → Bool → State → Reply → Type 0
RepliesOn (of_version.Show p) right z y = y ≡ shown_reply p (tree_of z.tree)
RepliesOn (of_version.Ask q) right z y = RepliesTo right q (answer_to z q) y

-- the reply is that on the version of the history after this step; or, where the step comes after the last one, that there is no such version
abbrev pub TellsVersion : Bool → Bool → ℕ → Asked → List Entry → Reply → Type 0
TellsVersion true right tid asked h y = y ≡ reply.Refused of.Statement (why.NoVersion tid)
TellsVersion false right tid asked h y = (z : State) × (version h tid ≡ Some z) × RepliesOn asked right z y

-- the reply is so of the history that the content tells, with the right records or not
abbrev pub IsAnswerAt : ℕ → Asked → List ℕ → Reply → Type 0
IsAnswerAt tid asked c y = (right : Bool) (h : List Entry) (s : State) → IsTold right h c → replay h ≡ Some s → TellsVersion (nat_lt s.now tid) right tid asked h y

-- the reply has the number of the versions of the history that the content tells, be its records right or not, and that of the ranges in their trees
abbrev pub IsArchiveOf : List ℕ → Reply → Type 0
IsArchiveOf c y = (h : List Entry) (s : State) → IsTold false h c → replay h ≡ Some s → (ts : List Tree) × AreVersions h s ts × (y ≡ reply.Archive (s.now + 1) (range_count ts))
