-- What a store replies to who asks something of a version, and how many versions it has.
use Rattle.std.proofs.Common.{◌≡◌, ℕ, ◌+◌, ◌<◌, ◌≤◌, List, Bool, true, false, Result, Ok, Err, refl, sym, ap, subst, ◌∙◌, length, arith}
use Rattle.std.specs.Prelude.{IfOk, IsErrOf, ◌↔◌, ◌&&◌, not, nat_lt, if◌then◌else◌}
use Rattle.std.specs.declared.option.Option.{Option}
use Rattle.std.specs.List.{slice_get}
use Rattle.std.specs.declared.option.Option.TheVariants.{None, Some}
use Rattle.std.proofs.lemmas.Bool.Decides.{nat_tests}
use Rattle.std.proofs.lemmas.Option.{same_Some}
use Rattle.cp_path.specs.declared.loc.Loc.{Loc}
use Rattle.cp_model.specs.History.{Entry, State}
use Rattle.cp_model.specs.Answers.{answer_at, answer_to, from, has_place, hist, mod_tids, records, src, stats, trace}
use Rattle.cp_model.specs.Past.{Aged, tree_of}
use Rattle.cp_model.specs.Place.{Path, in_target}
use Rattle.cp_model.specs.Subtrees.{is_there}
use Rattle.cp_model.specs.Tree.{Tree}
use Rattle.cp_model.specs.Versions.{version}
use Rattle.cp_model.specs.declared.answer.Answer.{Answer}
use Rattle.cp_model.specs.declared.answer.Answer.TheVariants as answer
use Rattle.cp_model.specs.declared.query.Query.{Query}
use Rattle.cp_model.specs.declared.query.Query.TheVariants as query
use Rattle.cp_model.proofs.Lookups.{there-mapped}
use Rattle.cp_model.proofs.VersionStates.{versions-are-states}
use Rattle.cp_archive.specs.Histories.{AreVersions}
use Rattle.cp_archive.specs.Ranges.{range_count}
use Rattle.cp_disk.specs.Views.{KnownDisk}
use Rattle.cp_frame.specs.Items.{Item}
use Rattle.cp_frame.specs.Stands.{OpensAndReplays}
use Rattle.cp_db.specs.Archives.{ArchivesAs, HasVersions}
use Rattle.cp_db.specs.declared.archive.Kept.{Kept}
use Rattle.cp_query.specs.Asked.{AnswersTo, is_in, lacks_place, names_place}
use Rattle.cp_query.specs.declared.fault.QueryFault.{QueryFault}
use Rattle.cp_query.specs.declared.fault.QueryFault.TheVariants.{NoPlace}
use Rattle.cp_reply.specs.Session.{no_place_of}
use Rattle.cp_reply.specs.declared.reply.Of.TheVariants as of
use Rattle.cp_reply.specs.declared.reply.Why.TheVariants as why
use Rattle.cp_reply.specs.declared.reply.Reply.{Reply}
use Rattle.cp_reply.specs.declared.reply.Reply.TheVariants as reply
use Rattle.cp_words.specs.Commands.{asks_of_target}
use Rattle.cp_words.specs.declared.command.Asked.{Asked}
use Rattle.cp_words.specs.declared.command.Asked.TheVariants as of_version
use Rattle.cp_interpreter.specs.Begins.{AnsweredAs}
use Rattle.cp_program.specs.Versions.{RepliesTo, RepliesOn, TellsVersion, IsAnswerAt, IsArchiveOf}

-- ---- on the state of a version

-- a query of a place of T names a place
pub target-named : (q : Query) → asks_of_target q ≡ true → names_place q ≡ true
target-named (query.Src q) h = refl
target-named (query.Hist q) h = refl
target-named (query.Mod q) h = refl
target-named (query.Trace q) h = refl
target-named (query.From q) h = refl
target-named (query.Records t) h = absurd (cc)
target-named query.Stats h = absurd (cc)

there-of : (z : State) (p : Path) → is_there z.tree p ≡ is_there (tree_of z.tree) p
there-of z p = sym (there-mapped (λ _ (x : Aged). x.content) z.tree p)

-- a query has no answer exactly where its place isn't in the tree
module _ (z : State) (p : Loc) (a : Answer) where
  abbrev told_at : Bool → Option Answer
  told_at b = if b then Some a else None

  same_place : has_place z p ≡ is_in (tree_of z.tree) p
  same_place = ap (λ b. in_target p && b) (there-of z p.path)

  answer-gone : not (is_in (tree_of z.tree) p) ≡ true → answer_at z p a ≡ None
  answer-gone h = ap told_at (same_place ∙ not_true (is_in (tree_of z.tree) p) h)
    where
      not_true : (b : Bool) → not b ≡ true → b ≡ false
      not_true true e = absurd (cc)
      not_true false e = refl

  answer-there : not (is_in (tree_of z.tree) p) ≡ false → answer_at z p a ≡ Some a
  answer-there h = ap told_at (same_place ∙ not_false (is_in (tree_of z.tree) p) h)
    where
      not_false : (b : Bool) → not b ≡ false → b ≡ true
      not_false true e = refl
      not_false false e = absurd (cc)

unanswered-gone : (z : State) (q : Query) → lacks_place (tree_of z.tree) q ≡ true → answer_to z q ≡ None
unfolding answer_to
unanswered-gone z (query.Src p) h = answer-gone z p (answer.Src (src z.tree p.path)) h
unanswered-gone z (query.Hist p) h = answer-gone z p (answer.Tids (hist z.tree p.path)) h
unanswered-gone z (query.Mod p) h = answer-gone z p (answer.Tids (mod_tids z.tree p.path)) h
unanswered-gone z (query.Trace p) h = answer-gone z p (answer.Trace (trace z.now z.tree p.path)) h
unanswered-gone z (query.From p) h = answer-gone z p (answer.From (from z.tree p.path)) h
unanswered-gone z (query.Records t) h = absurd (cc)
unanswered-gone z query.Stats h = absurd (cc)

answered-there : (z : State) (q : Query) → lacks_place (tree_of z.tree) q ≡ false → (a : Answer) × (answer_to z q ≡ Some a)
unfolding answer_to
answered-there z (query.Src p) h = (answer.Src (src z.tree p.path), answer-there z p (answer.Src (src z.tree p.path)) h)
answered-there z (query.Hist p) h = (answer.Tids (hist z.tree p.path), answer-there z p (answer.Tids (hist z.tree p.path)) h)
answered-there z (query.Mod p) h = (answer.Tids (mod_tids z.tree p.path), answer-there z p (answer.Tids (mod_tids z.tree p.path)) h)
answered-there z (query.Trace p) h = (answer.Trace (trace z.now z.tree p.path), answer-there z p (answer.Trace (trace z.now z.tree p.path)) h)
answered-there z (query.From p) h = (answer.From (from z.tree p.path), answer-there z p (answer.From (from z.tree p.path)) h)
answered-there z (query.Records t) h = (answer.Records (records z t), refl)
answered-there z query.Stats h = (answer.Stats (stats z), refl)

module _ (z : State) (t : Tree) (q : Query) (r : Result Answer QueryFault) (same : t ≡ tree_of z.tree) (place : IsErrOf r NoPlace ↔ (lacks_place t q ≡ true)) where
  place_here : IsErrOf r NoPlace ↔ (lacks_place (tree_of z.tree) q ≡ true)
  place_here = subst (λ (u : Tree). IsErrOf r NoPlace ↔ (lacks_place u q ≡ true)) same place

  not_gone : (a : Answer) → r ≡ Ok a → (b : Bool) → lacks_place (tree_of z.tree) q ≡ b → lacks_place (tree_of z.tree) q ≡ false
  not_gone a is true e = let gone = sym is ∙ place_here.1 e in absurd (cc)
  not_gone a is false e = e

  -- an answer was given
  pub replies-answered : (right : Bool) (a : Answer) → r ≡ Ok a → (right ≡ true → AnswersTo z q r) → RepliesOn (of_version.Ask q) right z (reply.Answered q a)
  replies-answered true a is exact =
      let told = subst (λ x. IfOk x (λ b. answer_to z q ≡ Some b)) is (exact refl).answer in
      subst (λ (o : Option Answer). RepliesTo true q o (reply.Answered q a)) (sym told) refl
  replies-answered false a is exact =
      let there = answered-there z q (not_gone a is (lacks_place (tree_of z.tree) q) refl) in
      subst (λ (o : Option Answer). RepliesTo false q o (reply.Answered q a)) (sym there.1) (a, refl)

  -- the place isn't there
  pub replies-refused : (right : Bool) (y : Reply) → IsErrOf r NoPlace → y ≡ reply.Refused of.Statement (no_place_of q) → RepliesOn (of_version.Ask q) right z y
  replies-refused right y gone is = subst (λ (o : Option Answer). RepliesTo right q o y) (sym (unanswered-gone z q (place_here.0 gone))) is

-- ---- of the versions that are kept

module _ (right : Bool) (h : List Entry) (items : List Item) (kept : Kept) (k : HasVersions right h items kept) (tid : ℕ) where
  -- the tree that is kept of a version
  pub tree-kept : (z : State) → version h tid ≡ Some z → tid < length kept.archive → (t : Tree) → slice_get kept.archive tid ≡ Some t → tree_of z.tree ≡ t
  tree-kept z is there t found =
      let counted = k.versions.count in
      same_Some (tree_of z.tree) t (sym (k.versions.each tid z (omega (arith, counted, there)) is) ∙ found)

  -- after the last version there is none
  pub tells-none : (asked : Asked) (last : ℕ) → last + 1 ≡ length kept.archive → last < tid → TellsVersion (nat_lt k.state.now tid) right tid asked h (reply.Refused of.Statement (why.NoVersion tid))
  tells-none asked last is later =
      let counted = k.versions.count in
      let after : nat_lt k.state.now tid ≡ true = grind (arith, nat_tests, is, later, counted) in
      subst (λ (b : Bool). TellsVersion b right tid asked h (reply.Refused of.Statement (why.NoVersion tid))) (sym after) refl

  -- up to it there is one
  tells_there : (asked : Asked) (y : Reply) → tid < length kept.archive → ((z : State) → version h tid ≡ Some z → RepliesOn asked right z y) → TellsVersion (nat_lt k.state.now tid) right tid asked h y
  tells_there asked y there f =
      let counted = k.versions.count in
      let within : tid ≤ k.state.now = omega (arith, counted, there) in
      let before : nat_lt k.state.now tid ≡ false = grind (arith, nat_tests, within) in
      let v = versions-are-states h k.state tid k.legal k.replayed within in
      subst (λ (b : Bool). TellsVersion b right tid asked h y) (sym before) (v.0, v.1, f v.0 v.1)

  pub tells-version : {E : Type 0} (asked : Asked) (r : Result Reply E) → tid < length kept.archive → ((z : State) → version h tid ≡ Some z → IfOk r (RepliesOn asked right z)) → IfOk r (TellsVersion (nat_lt k.state.now tid) right tid asked h)
  tells-version asked (Ok y) there f = tells_there asked y there f
  tells-version asked (Err e) there f = tt

-- ---- of a file

-- a version was asked
pub answered-version : (v : KnownDisk) (kept : Kept) (tid : ℕ) (asked : Asked) (y : Reply) → ArchivesAs v.view.content (Ok kept)
    → ((right : Bool) (h : List Entry) (items : List Item) (k : HasVersions right h items kept) → TellsVersion (nat_lt k.state.now tid) right tid asked h y)
    → AnsweredAs OpensAndReplays (IsAnswerAt tid asked) v (Ok y)
answered-version v kept tid asked y o f = (
  o.0,
  λ right h s told replayed. (
      let k = o.1 right h told in
      subst (λ (t : State). TellsVersion (nat_lt t.now tid) right tid asked h y) (same_Some k.state s (sym k.replayed ∙ replayed)) (f right h told.items k)
      ),
)

-- the versions were counted
pub answered-archive : (v : KnownDisk) (kept : Kept) (n m : ℕ) → ArchivesAs v.view.content (Ok kept) → n ≡ length kept.archive → m ≡ range_count kept.archive
    → AnsweredAs OpensAndReplays IsArchiveOf v (Ok (reply.Archive n m))
answered-archive v kept n m o many ranges = (
  o.0,
  λ h s told replayed. (
      let k = o.1 false h told in
      let vs = subst (λ (t : State). AreVersions h t kept.archive) (same_Some k.state s (sym k.replayed ∙ replayed)) k.versions in
      (kept.archive, vs, ap (λ x. reply.Archive x m) (many ∙ vs.count) ∙ ap (λ x. reply.Archive (s.now + 1) x) ranges)
      ),
)
