-- What calls write: the lines of replies, and of these the refusals.
use Rattle.std.proofs.Common.{◌≡◌, inl, inr, ⊎_elim, ℕ, List, [], ◌∷◌, ◌++◌, drop, length, Bool, true, false, Option, Result, Ok, Err, OnOk, refl, sym, ap, ◌∙◌, subst, append_assoc, append-nil, arith}
use Rattle.std.specs.Prelude.{◌||◌, ⊤, codes, decimal}
use Rattle.std.specs.List.{flat_map}
use Rattle.std.specs.declared.option.Option.TheVariants.{None}
use Rattle.std.proofs.Math.Bool.{or_assoc}
use Rattle.std.proofs.KnownBytes.{Appends-nil, Appends-trans}
use Rattle.std.proofs.lemmas.Bool.{cases_Bool}
use Rattle.std.proofs.lemmas.Grind.{flat_map-append}
use Rattle.std.proofs.lemmas.List.Folds.{list_any-append}
use Rattle.std.specs.Io.KnownBytes.{Appends}
use Rattle.cp_outside.specs.Sinks.{TakesLess}
use Rattle.cp_model.specs.declared.record.Verdict.{Verdict}
use Rattle.cp_model.specs.declared.record.Verdict.TheVariants as verdict
use Rattle.cp_model.specs.declared.query.Query.{Query}
use Rattle.cp_model.specs.declared.answer.Answer.{Answer}
use Rattle.cp_model.specs.declared.answer.Answer.TheVariants as answer
use Rattle.cp_model.specs.Trees.{tree_text}
use Rattle.cp_path.specs.Spelling.{place_text}
use Rattle.cp_reply.specs.Lines.{line, line_for, lines, lines_for, answer_lines_for, commit_text, from_text, kind_text, places_text, query_text, range_text, record_text, refused_front, said_lines, stats_text, tid_or_none, tids_text, trace_text, verdict_text, whose_text, why_text}
use Rattle.cp_reply.specs.declared.reply.Why.{Why}
use Rattle.cp_reply.specs.declared.reply.Of.{Of}
use Rattle.cp_reply.specs.declared.reply.Of.TheVariants as of
use Rattle.cp_reply.specs.declared.reply.Reply.{Reply}
use Rattle.cp_reply.specs.declared.reply.Reply.TheVariants as reply
use Rattle.cp_reply.specs.declared.said.Said.{Said}
use Rattle.cp_reply.specs.Session.{said_to}
use Rattle.cp_workspace.specs.declared.fault.WorkspaceFault.{WorkspaceFault}
use Rattle.cp_workspace.specs.declared.fault.WorkspaceFault.TheVariants as fails
use Rattle.cp_interpreter.specs.Job.{is_refusal, says_refusal}
use Rattle.cp_interpreter.specs.Outside.{KnownOutput}
use Rattle.cp_interpreter.specs.Replied.{AreNamed, HasLine, HasRefusalLine, IsNamed, SendsReplies, SendsAs, StopsInReply, TookRefusal, WroteAs, WroteReplies, has_refusal, lines_of}
use Rattle.cp_interpreter.specs.Story.{Writes, WasRefused, StopsAfter, TakesFrom, WritesLast, SaidLine, IsEarly, early_line}
use Rattle.cp_interpreter.specs.Texts.{input_line, memory_line, too_long_line}
use Rattle.cp_interpreter.specs.Turns.{SendsOut, RefusesWrite, TellsStop, UsesOutput, end_of_stop}
use Rattle.cp_interpreter.specs.declared.end.End.{End}
use Rattle.cp_interpreter.specs.declared.end.End.TheVariants as how
use Rattle.cp_interpreter.specs.declared.stop.Stop.{Stop}
use Rattle.cp_interpreter.specs.declared.stop.Stop.TheVariants.{Output, Full, File, Disk, NoStore, Clock, Memory}
use Rattle.cp_interpreter.proofs.Plays.{or-false}
use Rattle.cp_interpreter.proofs.Runs.{last-after, stops-after}

-- ---- replies one after another

lines-append : (xs ys : List Said) → lines_of (xs ++ ys) ≡ lines_of xs ++ lines_of ys
lines-append xs ys = flat_map-append said_lines xs ys

-- they go to curators with names
named-append : (xs ys : List Said) → AreNamed xs → AreNamed ys → AreNamed (xs ++ ys)
named-append [] ys first next = next
named-append (x ∷ xs) ys first next = (first.0, named-append xs ys first.1 next)

-- a refusal is among all of them where one is among the first or the others
refusal-append : (a b c : Bool) (xs ys : List Said) → b ≡ (a || has_refusal xs) → c ≡ (b || has_refusal ys) → c ≡ (a || has_refusal (xs ++ ys))
refusal-append a b c xs ys first next =
    next ∙ ap (λ (x : Bool). x || has_refusal ys) first ∙ or_assoc a (has_refusal xs) (has_refusal ys) ∙ ap (λ (x : Bool). a || x) (sym (list_any-append says_refusal xs ys))

-- the output stops in a reply after these
stops-later : (xs ys : List Said) (b m a : KnownOutput) → Writes b m (lines_of xs) → StopsInReply ys m a → StopsInReply (xs ++ ys) b a
stops-later xs ys b m a first s =
    let all : lines_of xs ++ lines_of (ys ++ s.next ∷ []) ≡ lines_of ((xs ++ ys) ++ s.next ∷ []) = sym (lines-append xs (ys ++ s.next ∷ [])) ∙ ap lines_of (sym (append_assoc xs ys (s.next ∷ []))) in
    record {
      next = s.next;
      named = s.named;
      stops =
          subst (λ (z : List ℕ). StopsAfter b a z (lines_of ((xs ++ ys) ++ s.next ∷ []))) (sym (lines-append xs ys))
          (subst (StopsAfter b a (lines_of xs ++ lines_of ys)) all (stops-after b m a (lines_of xs) (lines_of ys) (lines_of (ys ++ s.next ∷ [])) first s.stops));
    }

-- these are written after those
writes-later : (xs ys : List Said) (b m a : KnownOutput) → Writes b m (lines_of xs) → Writes m a (lines_of ys) → Writes b a (lines_of (xs ++ ys))
writes-later xs ys b m a first next = (
  next.0 ∙ first.0,
  subst (Appends b.contents a.contents) (sym (lines-append xs ys)) (Appends-trans b.contents m.contents a.contents (lines_of xs) (lines_of ys) first.1 next.1),
)

-- a last line comes after those and these
last-later : (xs ys : List Said) (last : List ℕ) (b m a : KnownOutput) → Writes b m (lines_of xs) → WritesLast m a (lines_of ys) last → WritesLast b a (lines_of (xs ++ ys)) last
last-later xs ys last b m a first next = subst (λ (z : List ℕ). WritesLast b a z last) (sym (lines-append xs ys)) (last-after b m a (lines_of xs) (lines_of ys) last first next)

-- ---- sessions

-- nothing was written
pub sent-none : (refused : Bool) (o : KnownOutput) → SendsReplies refused refused o o (Ok tt)
sent-none refused o = record { said = []; named = tt; sent = ((refl, Appends-nil o.contents), or-false refused) }

-- nothing was written, and something else than the output stopped the session
pub sent-stopped : (old new : Bool) (o : KnownOutput) (stop : Stop) → (stop ≡ Output → ⊥) → (stop ≡ Full → ⊥) → SendsReplies old new o o (Err stop)
sent-stopped old new o Output a b = absurd (a refl)
sent-stopped old new o Full a b = absurd (b refl)
sent-stopped old new o File a b = record { said = []; named = tt; sent = (refl, Appends-nil o.contents) }
sent-stopped old new o Disk a b = record { said = []; named = tt; sent = (refl, Appends-nil o.contents) }
sent-stopped old new o (NoStore at) a b = record { said = []; named = tt; sent = (refl, Appends-nil o.contents) }
sent-stopped old new o Clock a b = record { said = []; named = tt; sent = (refl, Appends-nil o.contents) }
sent-stopped old new o Memory a b = record { said = []; named = tt; sent = (refl, Appends-nil o.contents) }

-- memory ran out
pub sent-memory : (old new : Bool) (o : KnownOutput) (stop : Stop) → stop ≡ Memory → SendsReplies old new o o (Err stop)
sent-memory old new o stop e = sent-stopped old new o stop (λ h. absurd (cc)) (λ h. absurd (cc))

-- a turn failed
pub sent-fault : (old new : Bool) (o : KnownOutput) (fault : WorkspaceFault) (stop : Stop) → (fault ≡ fails.File → stop ≡ File) × (fault ≡ fails.Disk → stop ≡ Disk) × (fault ≡ fails.Clock → stop ≡ Clock) × (fault ≡ fails.Memory → stop ≡ Memory)
    → SendsReplies old new o o (Err stop)
sent-fault old new o fails.File stop becomes = let e = becomes.0 refl in sent-stopped old new o stop (λ h. absurd (cc)) (λ h. absurd (cc))
sent-fault old new o fails.Disk stop becomes = let e = becomes.1 refl in sent-stopped old new o stop (λ h. absurd (cc)) (λ h. absurd (cc))
sent-fault old new o fails.Clock stop becomes = let e = becomes.2 refl in sent-stopped old new o stop (λ h. absurd (cc)) (λ h. absurd (cc))
sent-fault old new o fails.Memory stop becomes = let e = becomes.3 refl in sent-stopped old new o stop (λ h. absurd (cc)) (λ h. absurd (cc))

-- the output stopped in the first reply
stops-first : (y : Said) (b a : KnownOutput) → IsNamed y.whose → WasRefused b a → TakesLess b.contents a.contents (said_lines y) → StopsInReply [] b a
stops-first y b a named refused less = record {
  next = y;
  named = named;
  stops = (refused, subst (TakesFrom 0 b.contents a.contents) (sym (append-nil (said_lines y))) (less.0, omega arith, less.1, less.2));
}

module _ (y : Said) (named : IsNamed y.whose) (old new : Bool) (b a : KnownOutput) where
  sends : (result : Result ⊤ Stop) → SendsOut (said_lines y) b.contents a.contents result → RefusesWrite b a result → OnOk result (new ≡ (old || says_refusal y)) → SendsReplies old new b a result
  sends (Ok x) went refuses flag = record {
    said = y ∷ [];
    named = (named, tt);
    sent = ((refuses, subst (Appends b.contents a.contents) (sym (append-nil (said_lines y))) went), flag ∙ ap (λ (z : Bool). old || z) (or-false (says_refusal y)));
  }
  sends (Err Output) went refuses flag = record { said = []; named = tt; sent = stops-first y b a named refuses went }
  sends (Err Full) went refuses flag = record { said = []; named = tt; sent = stops-first y b a named refuses went }
  sends (Err File) went refuses flag = absurd went
  sends (Err Disk) went refuses flag = absurd went
  sends (Err (NoStore at)) went refuses flag = absurd went
  sends (Err Clock) went refuses flag = absurd went
  sends (Err Memory) went refuses flag = record { said = []; named = tt; sent = (refuses, went) }

  -- the lines of a reply were sent out
  pub sent-reply : (result : Result ⊤ Stop) → SendsOut (said_lines y) b.contents a.contents result → UsesOutput b a result → OnOk result (new ≡ (old || says_refusal y)) → SendsReplies old new b a result
  sent-reply result went used flag = sends result went used.refuses flag

module _ (f g h : Bool) (b m a : KnownOutput) (first : SendsReplies f g b m (Ok tt)) where
  after : (ys : List Said) (result : Result ⊤ Stop) → SendsAs ys g h m a result → SendsAs (first.said ++ ys) f h b a result
  after ys (Ok x) next = (writes-later first.said ys b m a first.sent.0 next.0, refusal-append f g h first.said ys first.sent.1 next.1)
  after ys (Err Output) next = stops-later first.said ys b m a first.sent.0 next
  after ys (Err Full) next = stops-later first.said ys b m a first.sent.0 next
  after ys (Err File) next = writes-later first.said ys b m a first.sent.0 next
  after ys (Err Disk) next = writes-later first.said ys b m a first.sent.0 next
  after ys (Err (NoStore at)) next = writes-later first.said ys b m a first.sent.0 next
  after ys (Err Clock) next = writes-later first.said ys b m a first.sent.0 next
  after ys (Err Memory) next = writes-later first.said ys b m a first.sent.0 next

  -- more is sent after it
  pub sent-then : (result : Result ⊤ Stop) → SendsReplies g h m a result → SendsReplies f h b a result
  sent-then result next = record { said = first.said ++ next.said; named = named-append first.said next.said first.named next.named; sent = after next.said result next.sent }

-- ---- calls

module _ (f g : Bool) (b m : KnownOutput) (first : SendsReplies f g b m (Ok tt)) where
  flag-then : (c : Bool) (ys : List Said) → (g || has_refusal ys) ≡ c → (f || has_refusal (first.said ++ ys)) ≡ c
  flag-then c ys is = sym (refusal-append f g c first.said ys first.sent.1 (sym is))

  wrote : (a : KnownOutput) (ys : List Said) (end : End) → WroteAs ys g m a end → WroteAs (first.said ++ ys) f b a end
  wrote a ys how.Done w = (flag-then false ys w.0, writes-later first.said ys b m a first.sent.0 w.1)
  wrote a ys how.Refused w = (flag-then true ys w.0, writes-later first.said ys b m a first.sent.0 w.1)
  wrote a ys how.Usage w = absurd w
  wrote a ys how.Input w = last-later first.said ys _ b m a first.sent.0 w
  wrote a ys how.File w = last-later first.said ys _ b m a first.sent.0 w
  wrote a ys how.Output w = stops-later first.said ys b m a first.sent.0 w
  wrote a ys how.Disk w = last-later first.said ys _ b m a first.sent.0 w
  wrote a ys (how.NoStore at) w = last-later first.said ys _ b m a first.sent.0 w
  wrote a ys how.Memory (inl stops) = inl (stops-later first.said ys b m a first.sent.0 stops)
  wrote a ys how.Memory (inr last) = inr (last-later first.said ys _ b m a first.sent.0 last)
  wrote a ys how.TooLong w = last-later first.said ys _ b m a first.sent.0 w
  wrote a ys how.Clock w = last-later first.said ys _ b m a first.sent.0 w

  -- what a call wrote after it
  pub replied-then : (a : KnownOutput) (end : End) → WroteReplies g m a end → WroteReplies f b a end
  replied-then a end next = record { said = first.said ++ next.said; named = named-append first.said next.said first.named next.named; wrote = wrote a next.said end next.wrote }

  -- all was done then, as the session knows
  pub replied-done : g ≡ false → WroteReplies f b m how.Done
  replied-done none = record { said = first.said; named = first.named; wrote = (sym first.sent.1 ∙ none, first.sent.0) }

  pub replied-refused : g ≡ true → WroteReplies f b m how.Refused
  replied-refused some = record { said = first.said; named = first.named; wrote = (sym first.sent.1 ∙ some, first.sent.0) }

-- a last line alone
last-only : (xs : List Said) (last : List ℕ) (b m a : KnownOutput) → Writes b m (lines_of xs) → WritesLast m a [] last → WritesLast b a (lines_of xs) last
last-only xs last b m a first next = subst (λ (z : List ℕ). WritesLast b a z last) (append-nil (lines_of xs)) (last-after b m a (lines_of xs) [] last first next)

module _ (f g : Bool) (b m a : KnownOutput) where
  stopped : (xs : List Said) (stop : Stop) → SendsAs xs f g b m (Err stop) → TellsStop m a stop → WroteAs xs f b a (end_of_stop stop)
  stopped xs Output sent tells = subst (λ (o : KnownOutput). StopsInReply xs b o) (sym tells) sent
  stopped xs Full sent tells = inl (subst (λ (o : KnownOutput). StopsInReply xs b o) (sym tells) sent)
  stopped xs File sent tells = last-only xs _ b m a sent tells
  stopped xs Disk sent tells = last-only xs _ b m a sent tells
  stopped xs (NoStore at) sent tells = last-only xs _ b m a sent tells
  stopped xs Clock sent tells = last-only xs _ b m a sent tells
  stopped xs Memory sent tells = inr (last-only xs _ b m a sent tells)

  -- something stopped the session, and the last line was written, unless it was the output
  pub replied-stopped : (stop : Stop) → SendsReplies f g b m (Err stop) → TellsStop m a stop → WroteReplies f b a (end_of_stop stop)
  replied-stopped stop sent tells = record { said = sent.said; named = sent.named; wrote = stopped sent.said stop sent.sent tells }

-- a call ended without a reply for one that isn't the output's
pub replied-unbegun : (refused : Bool) (b a : KnownOutput) (stop : Stop) → (stop ≡ Output → ⊥) → (stop ≡ Full → ⊥) → TellsStop b a stop → WroteReplies refused b a (end_of_stop stop)
replied-unbegun refused b a stop p q tells = replied-stopped refused refused b b a stop (sent-stopped refused refused b stop p q) tells

-- with these last lines alone
pub replied-input : (refused : Bool) (b a : KnownOutput) → WritesLast b a [] input_line → WroteReplies refused b a how.Input
replied-input refused b a w = record { said = []; named = tt; wrote = w }

pub replied-too-long : (refused : Bool) (b a : KnownOutput) → WritesLast b a [] too_long_line → WroteReplies refused b a how.TooLong
replied-too-long refused b a w = record { said = []; named = tt; wrote = w }

pub replied-memory : (refused : Bool) (b a : KnownOutput) → WritesLast b a [] memory_line → WroteReplies refused b a how.Memory
replied-memory refused b a w = record { said = []; named = tt; wrote = inr w }

early-wrote : (b a : KnownOutput) (end : End) → IsEarly end → WritesLast b a [] (early_line end) → WroteReplies false b a end
early-wrote b a how.Disk e w = record { said = []; named = tt; wrote = w }
early-wrote b a (how.NoStore at) e w = record { said = []; named = tt; wrote = w }
early-wrote b a how.Memory e w = record { said = []; named = tt; wrote = inr w }
early-wrote b a how.Done e w = absurd (⊎_elim (λ d. cc d) (λ r. ⊎_elim (λ n. cc (n.1)) (λ m. cc m) r) e)
early-wrote b a how.Refused e w = absurd (⊎_elim (λ d. cc d) (λ r. ⊎_elim (λ n. cc (n.1)) (λ m. cc m) r) e)
early-wrote b a how.Usage e w = absurd (⊎_elim (λ d. cc d) (λ r. ⊎_elim (λ n. cc (n.1)) (λ m. cc m) r) e)
early-wrote b a how.Input e w = absurd (⊎_elim (λ d. cc d) (λ r. ⊎_elim (λ n. cc (n.1)) (λ m. cc m) r) e)
early-wrote b a how.File e w = absurd (⊎_elim (λ d. cc d) (λ r. ⊎_elim (λ n. cc (n.1)) (λ m. cc m) r) e)
early-wrote b a how.Output e w = absurd (⊎_elim (λ d. cc d) (λ r. ⊎_elim (λ n. cc (n.1)) (λ m. cc m) r) e)
early-wrote b a how.TooLong e w = absurd (⊎_elim (λ d. cc d) (λ r. ⊎_elim (λ n. cc (n.1)) (λ m. cc m) r) e)
early-wrote b a how.Clock e w = absurd (⊎_elim (λ d. cc d) (λ r. ⊎_elim (λ n. cc (n.1)) (λ m. cc m) r) e)

-- a call ended before it was known what to say
pub replied-early : (b a : KnownOutput) (end : End) → IsEarly end → WritesLast b a [] (early_line end) → WroteReplies false b a end
replied-early b a end early w = early-wrote b a end early w

-- the lines of one reply
pub replied-said : (y : Reply) (b a : KnownOutput) (end : End) → SaidLine (lines y) (is_refusal y) b a end → WroteReplies false b a end
unfolding lines
replied-said y b a how.Done s = record { said = said_to None y ∷ []; named = (tt, tt); wrote = (sym (or-false (is_refusal y)) ∙ s.0, subst (Writes b a) (sym (append-nil (lines y))) s.1) }
replied-said y b a how.Refused s = record { said = said_to None y ∷ []; named = (tt, tt); wrote = (sym (or-false (is_refusal y)) ∙ s.0, subst (Writes b a) (sym (append-nil (lines y))) s.1) }
replied-said y b a how.Usage s = absurd s
replied-said y b a how.Input s = absurd s
replied-said y b a how.File s = absurd s
replied-said y b a how.Output s = record { said = []; named = tt; wrote = stops-first (said_to None y) b a tt s.0 s.1 }
replied-said y b a how.Disk s = absurd s
replied-said y b a (how.NoStore at) s = absurd s
replied-said y b a how.Memory (inl s) = record { said = []; named = tt; wrote = inl (stops-first (said_to None y) b a tt s.0 s.1) }
replied-said y b a how.Memory (inr w) = replied-memory false b a w
replied-said y b a how.TooLong s = absurd s
replied-said y b a how.Clock s = absurd s

-- ---- the lines of refusals

-- a text that ends with a line feed
abbrev EndsLine : List ℕ → Type 0
EndsLine text = (front : List ℕ) × (text ≡ line front)

module _ (whose : Option (List ℕ)) where
  -- lines and then one more
  ends-after : (before text : List ℕ) → EndsLine (before ++ line_for whose text)
  ends-after before text = (
    before ++ (whose_text whose ++ text),
    ap (λ (z : List ℕ). before ++ z) (sym (append_assoc (whose_text whose) text (10 ∷ []))) ∙ sym (append_assoc before (whose_text whose ++ text) (10 ∷ [])),
  )

  -- an answer ends so
  answer-ends : (q : Query) (a : Answer) → EndsLine (answer_lines_for whose q a)
  answer-ends q (answer.Src t) = ends-after [] (query_text q ++ tid_or_none t)
  answer-ends q (answer.Tids ts) = ends-after [] (query_text q ++ tids_text ts)
  answer-ends q (answer.Trace t) = ends-after [] (query_text q ++ trace_text t)
  answer-ends q (answer.From f) = ends-after [] (query_text q ++ from_text f)
  answer-ends q (answer.Records rs) = ends-after (flat_map (λ r. line_for whose (record_text r)) rs) (codes "records: " ++ decimal (length rs))
  answer-ends q (answer.Stats s) = ends-after [] (stats_text s)

  -- and so do the lines of a reply
  lines-end : (y : Reply) → EndsLine (lines_for whose y)
  unfolding lines_for
  lines-end (reply.Created k n) = ends-after [] (codes "created " ++ (kind_text k ++ (codes " " ++ decimal n)))
  lines-end (reply.Loaded m n) = ends-after [] (codes "loaded " ++ (m ++ (codes " " ++ decimal n)))
  lines-end (reply.Committed low high) = ends-after [] (codes "committed " ++ range_text low high)
  lines-end (reply.Aborted n) = ends-after [] (codes "aborted " ++ decimal n)
  lines-end (reply.Answered q a) = answer-ends q a
  lines-end (reply.Show q rows) = ends-after [] (codes "show " ++ (place_text q ++ (codes ": " ++ tree_text rows)))
  lines-end (reply.Checkpoint t) = ends-after [] (codes "checkpoint " ++ decimal t)
  lines-end (reply.Verified v) = ends-after [] (verdict_text v)
  lines-end (reply.Logged cs) = ends-after (flat_map (λ c. line_for whose (commit_text c)) cs) (codes "log: " ++ decimal (length cs))
  lines-end (reply.Gen s p b c) = ends-after (line_for whose (stats_text s)) (codes "gen: places " ++ (decimal p ++ (codes ", born " ++ (decimal b ++ (codes ", copies " ++ decimal c)))))
  lines-end (reply.Archive versions ranges) = ends-after [] (codes "archive: versions " ++ (decimal versions ++ (codes ", ranges " ++ decimal ranges)))
  lines-end (reply.Uses q qs) = ends-after [] (codes "uses " ++ (place_text q ++ (codes ": " ++ places_text qs)))
  lines-end (reply.Refused o w) = ends-after [] (refused_front o ++ why_text o w)

  -- a line that begins so comes after the lines of a reply
  line-later : (begins : List ℕ) (y : Reply) (bytes : List ℕ) → HasLine begins bytes → HasLine begins (lines_for whose y ++ bytes)
  line-later begins y bytes l =
      let text = lines_for whose y in
      record {
        before = text ++ l.before;
        whose = l.whose;
        named = l.named;
        after = l.after;
        is = ap (λ (z : List ℕ). text ++ z) l.is ∙ sym (append_assoc text l.before (whose_text l.whose ++ (begins ++ l.after)));
        starts = ⊎_elim
            (λ none. inr ((lines-end y).0, ap (λ (z : List ℕ). text ++ z) none ∙ append-nil text ∙ (lines-end y).1))
            (λ some. inr (text ++ some.0, ap (λ (z : List ℕ). text ++ z) some.1 ∙ sym (append_assoc text some.0 (10 ∷ []))))
            l.starts;
      }

  module _ (named : IsNamed whose) where
    -- a reply that begins so is such a line
    line-first : (begins rest bytes : List ℕ) (y : Reply) → lines_for whose y ≡ whose_text whose ++ (begins ++ rest) → HasLine begins (lines_for whose y ++ bytes)
    line-first begins rest bytes y is = record {
      before = [];
      whose = whose;
      named = named;
      after = rest ++ bytes;
      is = ap (λ (z : List ℕ). z ++ bytes) is ∙ append_assoc (whose_text whose) (begins ++ rest) bytes ∙ ap (λ (z : List ℕ). whose_text whose ++ z) (append_assoc begins rest bytes);
      starts = inl refl;
    }

    -- a refusal begins with its word
    refused-begins : (o : Of) (w : Why) → lines_for whose (reply.Refused o w) ≡ whose_text whose ++ (codes "refused" ++ drop 7 (lines_for None (reply.Refused o w)))
    unfolding lines_for
    refused-begins of.Statement w = refl
    refused-begins of.Commit w = refl
    refused-begins of.Load w = refl
    refused-begins of.Init w = refl
    refused-begins of.Scratch w = refl
    refused-begins of.Checkpoint w = refl

    -- and so does a verdict that tells of a difference
    differs-begins : (v : Verdict) → is_refusal (reply.Verified v) ≡ true → lines_for whose (reply.Verified v) ≡ whose_text whose ++ (codes "differs" ++ drop 7 (lines_for None (reply.Verified v)))
    unfolding lines_for
    differs-begins (verdict.Agrees n) is = let no : false ≡ true = is in absurd (cc no)
    differs-begins (verdict.Differs at s e) is = refl
    differs-begins (verdict.TreeDiffers at q) is = refl
    differs-begins (verdict.NumberDiffers at s e) is = refl

    refusal-first : (y : Reply) (bytes : List ℕ) → is_refusal y ≡ true → HasRefusalLine (lines_for whose y ++ bytes)
    refusal-first (reply.Refused o w) bytes is = inl (line-first (codes "refused") _ bytes (reply.Refused o w) (refused-begins o w))
    refusal-first (reply.Verified v) bytes is = inr (line-first (codes "differs") _ bytes (reply.Verified v) (differs-begins v is))
    refusal-first (reply.Created k n) bytes is = let no : false ≡ true = is in absurd (cc no)
    refusal-first (reply.Loaded k n) bytes is = let no : false ≡ true = is in absurd (cc no)
    refusal-first (reply.Committed k n) bytes is = let no : false ≡ true = is in absurd (cc no)
    refusal-first (reply.Aborted n) bytes is = let no : false ≡ true = is in absurd (cc no)
    refusal-first (reply.Answered q a) bytes is = let no : false ≡ true = is in absurd (cc no)
    refusal-first (reply.Show q rows) bytes is = let no : false ≡ true = is in absurd (cc no)
    refusal-first (reply.Checkpoint n) bytes is = let no : false ≡ true = is in absurd (cc no)
    refusal-first (reply.Logged cs) bytes is = let no : false ≡ true = is in absurd (cc no)
    refusal-first (reply.Gen s p b c) bytes is = let no : false ≡ true = is in absurd (cc no)
    refusal-first (reply.Archive versions ranges) bytes is = let no : false ≡ true = is in absurd (cc no)
    refusal-first (reply.Uses q qs) bytes is = let no : false ≡ true = is in absurd (cc no)

-- where a refusal is among replies, a line of theirs begins so
refusal-line : (xs : List Said) → AreNamed xs → has_refusal xs ≡ true → HasRefusalLine (lines_of xs)
refusal-line [] named is = let no : false ≡ true = is in absurd (cc no)
refusal-line (x ∷ xs) named is = elim (cases_Bool (says_refusal x)) [
  | inl here ↦ refusal-first x.whose named.0 x.reply (lines_of xs) here
  | inr other ↦ (let later : has_refusal xs ≡ true = rw other at is in
      ⊎_elim (λ l. inl (line-later x.whose (codes "refused") x.reply (lines_of xs) l)) (λ l. inr (line-later x.whose (codes "differs") x.reply (lines_of xs) l)) (refusal-line xs named.1 later))
]

-- a call that ends so has written a line of a refusal
pub refusal-told : (b a : KnownOutput) → WroteReplies false b a how.Refused → TookRefusal b.contents a.contents
refusal-told b a w = record { bytes = lines_of w.said; took = w.wrote.1.1; refusal = refusal-line w.said w.named w.wrote.0 }
