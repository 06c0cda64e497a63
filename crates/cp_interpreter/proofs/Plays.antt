-- Bytes played one after another, and what was written for them.
use Rattle.std.proofs.Common.{◌≡◌, ◌≤◌, ◌⊎◌, inl, inr, ℕ, ◌+◌, ◌<◌, get_or, List, [], ◌∷◌, ◌++◌, take, drop, length, Bool, true, false, IsTrue, Option, Result, Ok, Err, OnOk, refl, sym, ap, ◌∙◌, subst, append_assoc, append-nil, arith}
use Rattle.std.proofs.Math.Bool.{or_assoc}
use Rattle.std.specs.Prelude.{◌||◌, ⊤, nat_lt, if◌then◌else◌}
use Rattle.cp_lang.specs.declared.limits.TheConstants.{STATEMENT_MAX}
use Rattle.cp_lang.specs.Spaces.{is_blank}
use Rattle.std.specs.List.{flat_map, list_any}
use Rattle.std.specs.declared.option.Option.TheVariants.{None, Some}
use Rattle.std.proofs.Math.Seq.{take-append-add, take-append_seam}
use Rattle.std.proofs.lemmas.Grind.{flat_map-append}
use Rattle.std.proofs.lemmas.List.Folds.{list_any-append}
use Rattle.std.proofs.lemmas.List.{take-append-le, length-append, take_more, take-append-drop}
use Rattle.std.specs.Io.KnownBytes.{Appends}
use Rattle.cp_outside.specs.Sinks.{TakesLess}
use Rattle.std.proofs.KnownBytes.{Appends-nil, Appends-trans}
use Rattle.cp_lang.specs.declared.cut.Cut.{Cut}
use Rattle.cp_lang.specs.declared.cut.Cut.TheVariants.{Text, TooLong, Unfinished}
use Rattle.cp_lang.specs.Cuts.{Scan, scan_byte, scan_bytes, rest_of}
use Rattle.cp_lang.proofs.Pieces.{scan-append, cuts-append}
use Rattle.cp_lang.specs.CutterState.{CutterState, held_of, byte_cuts, byte_held}
use Rattle.cp_lang.proofs.Bytewise.{byte_cuts-is, byte_held-is}
use Rattle.cp_model.specs.Tree.{Tree}
use Rattle.cp_model.specs.History.{Entry}
use Rattle.cp_frame.specs.Stands.{StandsFor, StandsForEither}
use Rattle.cp_db.proofs.Keeping.{kept-images}
use Rattle.cp_reply.specs.Lines.{said_lines}
use Rattle.cp_reply.specs.declared.reply.Why.TheVariants as why
use Rattle.cp_reply.specs.declared.said.Said.{Said}
use Rattle.cp_reply.specs.Session.{Supply, no_supply, followed_by, Session, Setting, unread, turn, turn_alone, turn_by_owner, shared_turn, replies_to, session_after}
use Rattle.cp_reply.specs.Sharing.{owner, bad_byte_or}
use Rattle.cp_reply.proofs.Appended.{replies_to-append, session_after-append}
use Rattle.cp_reply.proofs.Supplies.{followed-assoc}
use Rattle.cp_workspace.specs.Supplies.{IsSupplied}
use Rattle.cp_workspace.specs.Texts.{Terms, setting}
use Rattle.cp_workspace.specs.Loads.{cut_reads, cut_reads_alone, shared_reads}
use Rattle.cp_workspace.specs.Commits.{cut_asks, cut_asks_alone, shared_asks}
use Rattle.cp_workspace.specs.Spending.{HasSpent, Spends}
use Rattle.cp_disk.specs.Views.{KnownDisk, Leaves}
use Rattle.cp_workspace.specs.Workspaces.{expected, workspace_at, Stands, IsUsable, HasStamps, HoldsFile, TurnsAs, HasTurned}
use Rattle.cp_workspace.specs.declared.fault.WorkspaceFault.{WorkspaceFault}
use Rattle.cp_workspace.specs.declared.fault.WorkspaceFault.TheVariants as fails
use Rattle.cp_workspace.specs.declared.workspace.Workspace.{Workspace}
use Rattle.cp_workspace.proofs.Supplied.{supplied-none, supplied-then}
use Rattle.cp_workspace.proofs.Spent.{spent-none, spent-sum, spent-as}
use Rattle.cp_interpreter.specs.Job.{Report, report_of, says_refusal, reads_in, asks_in}
use Rattle.cp_interpreter.specs.Outside.{World}
use Rattle.cp_interpreter.specs.Play.{Seen, played_as, bytes_played, plays, after_play, closes, plays_all}
use Rattle.cp_interpreter.specs.Story.{TakesFrom, left_on, SpentAs, SpentNothing}
use Rattle.cp_interpreter.specs.Turns.{session_at, cuts_played, Follows, MayGoOn, SendsOut, Goes, Went, Fed, WasFed, RunsLast, RanLast, LeavesAlong, cuts_play, after_cuts}
use Rattle.cp_interpreter.specs.declared.interpreter.Interpreter.{Interpreter}
use Rattle.cp_interpreter.specs.declared.stop.Stop.{Stop}
use Rattle.cp_interpreter.specs.declared.stop.Stop.TheVariants.{Output, Full, File, Disk, NoStore, Clock, Memory}

-- false adds nothing
pub or-false : (b : Bool) → b ≡ (b || false)
or-false true = refl
or-false false = refl

-- ---- lines one after another

-- what was done first, and then
abbrev pub joined : Report → Report → Report
joined e f = record { out = e.out ++ f.out; refused = e.refused || f.refused; reads = e.reads + f.reads; asks = e.asks + f.asks; history = f.history }

report : List ℕ → Bool → ℕ → ℕ → List Entry → Report
report out refused reads asks history = record { out = out; refused = refused; reads = reads; asks = asks; history = history }

-- the lines of replies, where so many files were read, the clock was asked so often, and the history is this
told : List Said → ℕ → ℕ → List Entry → Report
told xs n k h = report (flat_map said_lines xs) (list_any says_refusal xs) n k h

-- the lines of replies one after another
told-append : (xs ys : List Said) (n k : ℕ) (h : List Entry) → told (xs ++ ys) n k h ≡ report (flat_map said_lines xs ++ flat_map said_lines ys) (list_any says_refusal xs || list_any says_refusal ys) n k h
unfolding told report
told-append xs ys n k h =
    ap (λ o. report o (list_any says_refusal (xs ++ ys)) n k h) (flat_map-append said_lines xs ys) ∙ ap (λ b. report (flat_map said_lines xs ++ flat_map said_lines ys) b n k h) (list_any-append says_refusal xs ys)

-- the files that cuts read one after another
reads_in-append : (c : Setting) (s : Session) (xs ys : List Cut) → reads_in c s (xs ++ ys) ≡ reads_in c s xs + reads_in c (session_after c s xs) ys
unfolding reads_in session_after
reads_in-append c s [] ys = omega arith
reads_in-append c s (x ∷ xs) ys = omega (arith, reads_in-append c (turn c s x).next xs ys)

-- how often cuts ask the clock one after another
asks_in-append : (c : Setting) (s : Session) (xs ys : List Cut) → asks_in c s (xs ++ ys) ≡ asks_in c s xs + asks_in c (session_after c s xs) ys
unfolding asks_in session_after
asks_in-append c s [] ys = omega arith
asks_in-append c s (x ∷ xs) ys = omega (arith, asks_in-append c (turn c s x).next xs ys)

-- ---- parts of texts

-- a part of the second text, behind all of the first
pub part-then : (b m a : Option (List ℕ)) (xs ys : List ℕ) → Appends b m xs → TakesLess m a ys → TakesFrom (length xs) b a (xs ++ ys)
part-then b m a xs ys h t =
    (length xs + t.0, omega arith, omega (arith, length-append xs ys, t.1), subst (Appends b a) (sym (take-append-add xs ys t.0)) (Appends-trans b m a xs (take t.0 ys) h t.2))

-- nothing written behind a text
pub nothing-more : (b m a : Option (List ℕ)) (xs : List ℕ) → Appends b m xs → Appends m a [] → Appends b a xs
nothing-more b m a xs h k = subst (Appends b a) (append-nil xs) (Appends-trans b m a xs [] h k)

-- the bytes up to one, that one, and the rest
pub split_at : (xs : List ℕ) (i : ℕ) → i < length xs → xs ≡ take i xs ++ get_or xs i 0 ∷ drop (i + 1) xs
split_at xs i h =
    sym (take-append-drop (i + 1) xs) ∙ ap (λ z. z ++ drop (i + 1) xs) (take_more xs i 0 h) ∙ append_assoc (take i xs) (get_or xs i 0 ∷ []) (drop (i + 1) xs)

-- cuts of which none is the text of a statement
AreUnread : List Cut → Type 0
AreUnread [] = ⊤
AreUnread (Text x ∷ cuts) = ⊥
AreUnread (TooLong ∷ cuts) = AreUnread cuts
AreUnread (Unfinished x ∷ cuts) = AreUnread cuts

-- what is left at the end of the input is none
rest-unread : (c : Scan) → AreUnread (rest_of c)
unfolding AreUnread
rest-unread c =
    elim (is_blank c.text) as (λ b. AreUnread (if b then [] else (if nat_lt STATEMENT_MAX (length c.text) then TooLong ∷ [] else Unfinished c.text ∷ []))) [
      | true ↦ tt
      | false ↦ elim (nat_lt STATEMENT_MAX (length c.text)) as (λ b. AreUnread (if b then TooLong ∷ [] else Unfinished c.text ∷ [])) [ true ↦ tt | false ↦ tt ]
    ]

-- what is seen of a session
abbrev pub seen : Scan → Terms → Session → Seen
seen c terms s = record { scan = c; terms = terms; session = s }

-- ---- what a crash leaves

-- a disk that holds the file of a history leaves that history, beside another
pub held-left : {R S : Type 0} (d : Workspace R S) (h i : List Entry) (w : KnownDisk) → (IsTrue w.known → HoldsFile d h w) → left_on w h i
held-left d h i w holds = λ known c image. inl (kept-images d.db h w.view (holds known) c image)

-- the other may come first
pub held-left_second : {R S : Type 0} (d : Workspace R S) (h i : List Entry) (w : KnownDisk) → (IsTrue w.known → HoldsFile d i w) → left_on w h i
held-left_second d h i w holds = λ known c image. inr (kept-images d.db i w.view (holds known) c image)

-- the same of histories that are the same
pub left-same : (w : KnownDisk) (h i j k : List Entry) → h ≡ j → i ≡ k → left_on w h i → left_on w j k
left-same w h i j k p q left = subst (λ z. left_on w j z) q (subst (λ z. left_on w z i) p left)

-- a disk that is as it was leaves what it could leave
pub both-none : (h i : List Entry) (v : KnownDisk) → Leaves (StandsForEither h i) v v
both-none h i v = λ known. (omega arith, λ t c le at. inl at)

-- ---- what the code keeps

-- what is kept behind a reply, where the workspace is this
abbrev pub after_reply : {R S : Type 0} → Interpreter R S → Workspace R S → Interpreter R S
after_reply k d = record { alloc = k.alloc; cutter = k.cutter; workspace = d; text = k.text; refused = k.refused }

-- what is kept where the cutter is this
abbrev pub after_cutter : {R S : Type 0} → Interpreter R S → CutterState → Interpreter R S
after_cutter k h = record { alloc = k.alloc; cutter = h; workspace = k.workspace; text = k.text; refused = k.refused }

-- what the cutter keeps behind a byte is what is kept of the scan behind it
pub held-byte : (s : Scan) (x : ℕ) (old new : CutterState) → old ≡ held_of s → new ≡ byte_held old x → new ≡ held_of (scan_byte s x).scan
held-byte s x old new f e = e ∙ ap (λ z. byte_held z x) f ∙ byte_held-is s x

-- where the cutter stands elsewhere, the code follows the session from there
pub follows-cutter : {R S : Type 0} (view : R → Tree) (source_view : S → Tree) (v : KnownDisk) (old mid : Interpreter R S) (s : Seen) (c : Scan)
    → Follows view source_view v old s → mid.cutter ≡ held_of c → mid.workspace ≡ old.workspace → Follows view source_view v mid (seen c s.terms s.session)
follows-cutter view source_view v old mid s c f h l = record {
  cutter = h;
  stands = subst (λ z. Stands view source_view s.terms z s.session) (sym l) f.stands;
  holds = λ known. subst (λ z. HoldsFile z s.session.history v) (sym l) (f.holds known);
}

-- where it stands elsewhere, the code may still go on
pub goes_on-cutter : {R S : Type 0} (view : R → Tree) (source_view : S → Tree) (v : KnownDisk) (old mid : Interpreter R S) (c : Scan)
    → MayGoOn view source_view v old → mid.cutter ≡ held_of c → mid.workspace ≡ old.workspace → MayGoOn view source_view v mid
goes_on-cutter view source_view v old mid c f h l = record { scan = c; cutter = h; usable = subst (λ z. IsUsable view source_view v z) (sym l) f.usable; stamps = subst HasStamps (sym l) f.stamps }

-- behind a byte too
pub goes_on-byte : {R S : Type 0} (view : R → Tree) (source_view : S → Tree) (v : KnownDisk) (x : ℕ) (old mid : Interpreter R S)
    → MayGoOn view source_view v old → mid.cutter ≡ byte_held old.cutter x → mid.workspace ≡ old.workspace → MayGoOn view source_view v mid
goes_on-byte view source_view v x old mid f h l = goes_on-cutter view source_view v old mid (scan_byte f.scan x).scan f (held-byte f.scan x old.cutter mid.cutter f.cutter h) l

-- and behind a reply that was written, where the workspace may be used, and commit
pub goes_on-told : {R S : Type 0} (view : R → Tree) (source_view : S → Tree) (v w : KnownDisk) (old new : Interpreter R S) (d : Workspace R S) (result : Result ⊤ Stop)
    → MayGoOn view source_view v old → IsUsable view source_view w d → HasStamps d → OnOk result (new.cutter ≡ old.cutter) → OnOk result (new.workspace ≡ d) → OnOk result (MayGoOn view source_view w new)
goes_on-told view source_view v w old new d (Ok x) f u t h l = record { scan = f.scan; cutter = h ∙ f.cutter; usable = subst (λ z. IsUsable view source_view w z) (sym l) u; stamps = subst HasStamps (sym l) t }
goes_on-told view source_view v w old new d (Err e) f u t h l = tt

-- what cuts do one after another
pub cuts-then : (terms : Terms) (s : Session) (xs ys : List Cut) → report_of terms s (xs ++ ys) ≡ joined (report_of terms s xs) (report_of terms (session_after (setting terms) s xs) ys)
unfolding told report
cuts-then terms s xs ys =
    let c = setting terms in
    let out = flat_map said_lines (replies_to c s xs) ++ flat_map said_lines (replies_to c (session_after c s xs) ys) in
    let refused = list_any says_refusal (replies_to c s xs) || list_any says_refusal (replies_to c (session_after c s xs) ys) in
    let reads = reads_in c s xs + reads_in c (session_after c s xs) ys in
    let asks = asks_in c s xs + asks_in c (session_after c s xs) ys in
    ap (λ (all : List Said). told all (reads_in c s (xs ++ ys)) (asks_in c s (xs ++ ys)) (session_after c s (xs ++ ys)).history) (replies_to-append c s xs ys)
    ∙ told-append (replies_to c s xs) (replies_to c (session_after c s xs) ys) (reads_in c s (xs ++ ys)) (asks_in c s (xs ++ ys)) (session_after c s (xs ++ ys)).history
    ∙ ap (λ n. report out refused n (asks_in c s (xs ++ ys)) (session_after c s (xs ++ ys)).history) (reads_in-append c s xs ys)
    ∙ ap (λ n. report out refused reads n (session_after c s (xs ++ ys)).history) (asks_in-append c s xs ys)
    ∙ ap (λ (z : Session). report out refused reads asks z.history) (session_after-append c s xs ys)

-- bytes are played in any pieces
pub plays-append : (s : Seen) (xs ys : List ℕ) → plays s (xs ++ ys) ≡ joined (plays s xs) (plays (after_play s xs) ys)
unfolding plays after_play
plays-append s xs ys = ap (λ c. report_of s.terms s.session c) (cuts-append s.scan xs ys) ∙ cuts-then s.terms s.session (scan_bytes s.scan xs).cuts (scan_bytes (scan_bytes s.scan xs).scan ys).cuts

-- what is seen behind them is the same
pub after-append : (s : Seen) (xs ys : List ℕ) → after_play s (xs ++ ys) ≡ after_play (after_play s xs) ys
unfolding after_play
after-append s xs ys =
    ap (λ c. seen c s.terms (session_after (setting s.terms) s.session (scan_bytes s.scan (xs ++ ys)).cuts)) (scan-append s.scan xs ys)
    ∙ ap (λ z. seen (scan_bytes (scan_bytes s.scan xs).scan ys).scan s.terms z)
    (ap (λ cs. session_after (setting s.terms) s.session cs) (cuts-append s.scan xs ys) ∙ session_after-append (setting s.terms) s.session (scan_bytes s.scan xs).cuts (scan_bytes (scan_bytes s.scan xs).scan ys).cuts)

-- the session behind bytes has the history to which they come
pub after-history : (s : Seen) (xs : List ℕ) → (after_play s xs).session.history ≡ (plays s xs).history
unfolding plays after_play
after-history s xs = refl

-- what all the rest writes is what the bytes write, and then the cut at their end
pub all-closes : (s : Seen) (xs : List ℕ) → plays_all s xs ≡ joined (plays s xs) (closes (after_play s xs))
unfolding plays plays_all after_play closes
all-closes s xs = cuts-then s.terms s.session (scan_bytes s.scan xs).cuts (rest_of (scan_bytes s.scan xs).scan)

joined-assoc : (d e f : Report) → joined (joined d e) f ≡ joined d (joined e f)
unfolding report
joined-assoc d e f =
    let reads : (d.reads + e.reads) + f.reads ≡ d.reads + (e.reads + f.reads) = omega arith in
    let asks : (d.asks + e.asks) + f.asks ≡ d.asks + (e.asks + f.asks) = omega arith in
    ap (λ o. report o ((d.refused || e.refused) || f.refused) ((d.reads + e.reads) + f.reads) ((d.asks + e.asks) + f.asks) f.history) (append_assoc d.out e.out f.out)
    ∙ ap (λ b. report (d.out ++ (e.out ++ f.out)) b ((d.reads + e.reads) + f.reads) ((d.asks + e.asks) + f.asks) f.history) (or_assoc d.refused e.refused f.refused)
    ∙ ap (λ n. report (d.out ++ (e.out ++ f.out)) (d.refused || (e.refused || f.refused)) n ((d.asks + e.asks) + f.asks) f.history) reads
    ∙ ap (λ n. report (d.out ++ (e.out ++ f.out)) (d.refused || (e.refused || f.refused)) (d.reads + (e.reads + f.reads)) n f.history) asks

-- the rest may begin with bytes that are played
pub all-append : (s : Seen) (xs ys : List ℕ) → plays_all s (xs ++ ys) ≡ joined (plays s xs) (plays_all (after_play s xs) ys)
all-append s xs ys =
    all-closes s (xs ++ ys)
    ∙ ap (λ e. joined e (closes (after_play s (xs ++ ys)))) (plays-append s xs ys)
    ∙ ap (λ t. joined (joined (plays s xs) (plays (after_play s xs) ys)) (closes t)) (after-append s xs ys)
    ∙ joined-assoc (plays s xs) (plays (after_play s xs) ys) (closes (after_play (after_play s xs) ys))
    ∙ ap (joined (plays s xs)) (sym (all-closes (after_play s xs) ys))

-- no byte does nothing
pub plays-none : (s : Seen) → ((plays s []).out ≡ []) × ((plays s []).reads ≡ 0) × ((plays s []).asks ≡ 0)
unfolding plays scan_bytes replies_to reads_in asks_in
plays-none s = (refl, refl, refl)

-- and it adds no entry
pub history-none : (s : Seen) → (plays s []).history ≡ s.session.history
unfolding plays scan_bytes session_after
history-none s = refl

-- at the end of the input
pub all-none : (s : Seen) → plays_all s [] ≡ closes s
unfolding plays_all closes scan_bytes
all-none s = refl

-- a cut that isn't the text of a statement reads no file, whosever input it is
unread-reads : (c : Setting) (u : Session) (x : Cut) → AreUnread (x ∷ []) → cut_reads c u x ≡ 0
unfolding AreUnread
unread-reads c u (Text x) a = absurd a
unread-reads c u TooLong a = elim c.shared as (λ b. (if b then shared_reads u TooLong else cut_reads_alone u TooLong) ≡ 0) [ true ↦ refl | false ↦ refl ]
unread-reads c u (Unfinished x) a = elim c.shared as (λ b. (if b then shared_reads u (Unfinished x) else cut_reads_alone u (Unfinished x)) ≡ 0) [ true ↦ refl | false ↦ refl ]

-- nor does it ask the clock
unread-asks : (c : Setting) (u : Session) (x : Cut) → AreUnread (x ∷ []) → cut_asks c u x ≡ 0
unfolding AreUnread
unread-asks c u (Text x) a = absurd a
unread-asks c u TooLong a = elim c.shared as (λ b. (if b then shared_asks u TooLong else cut_asks_alone u TooLong) ≡ 0) [ true ↦ refl | false ↦ refl ]
unread-asks c u (Unfinished x) a = elim c.shared as (λ b. (if b then shared_asks u (Unfinished x) else cut_asks_alone u (Unfinished x)) ≡ 0) [ true ↦ refl | false ↦ refl ]

-- the cut at the end reads no file
pub closes-reads : (s : Seen) → (closes s).reads ≡ 0
unfolding closes reads_in AreUnread
closes-reads s = none s.session (rest_of s.scan) (rest-unread s.scan)
  where
    none : (u : Session) (cuts : List Cut) → AreUnread cuts → reads_in (setting s.terms) u cuts ≡ 0
    none u [] a = refl
    none u (Text x ∷ cuts) a = absurd a
    none u (TooLong ∷ cuts) a = omega (arith, unread-reads (setting s.terms) u TooLong tt, none (turn (setting s.terms) u TooLong).next cuts a)
    none u (Unfinished x ∷ cuts) a = omega (arith, unread-reads (setting s.terms) u (Unfinished x) tt, none (turn (setting s.terms) u (Unfinished x)).next cuts a)

-- nor does it ask the clock
pub closes-asks : (s : Seen) → (closes s).asks ≡ 0
unfolding closes asks_in AreUnread
closes-asks s = none s.session (rest_of s.scan) (rest-unread s.scan)
  where
    none : (u : Session) (cuts : List Cut) → AreUnread cuts → asks_in (setting s.terms) u cuts ≡ 0
    none u [] a = refl
    none u (Text x ∷ cuts) a = absurd a
    none u (TooLong ∷ cuts) a = omega (arith, unread-asks (setting s.terms) u TooLong tt, none (turn (setting s.terms) u TooLong).next cuts a)
    none u (Unfinished x ∷ cuts) a = omega (arith, unread-asks (setting s.terms) u (Unfinished x) tt, none (turn (setting s.terms) u (Unfinished x)).next cuts a)

-- a text that nobody, or somebody, left unfinished adds no entry
unfinished-kept : (c : Setting) (u : Session) (at : ℕ) (o : Option (List ℕ)) (n : ℕ) → (turn_by_owner c u at o (unread (why.Syntax n))).next.history ≡ u.history
unfinished-kept c u at None n = refl
unfinished-kept c u at (Some name) n = refl

-- nor does one cut that isn't the text of a statement, whosever input it is
turn-kept : (c : Setting) (u : Session) (x : Cut) → AreUnread (x ∷ []) → (turn c u x).next.history ≡ u.history
unfolding turn AreUnread
turn-kept c u (Text x) a = absurd a
turn-kept c u TooLong a = elim c.shared as (λ b. (if b then shared_turn c u TooLong else turn_alone c u TooLong).next.history ≡ u.history) [ true ↦ refl | false ↦ refl ]
turn-kept c u (Unfinished x) a = elim c.shared as (λ b. (if b then shared_turn c u (Unfinished x) else turn_alone c u (Unfinished x)).next.history ≡ u.history) [
  | true ↦ unfinished-kept c u (bad_byte_or (length x) x) (owner x) (length x)
  | false ↦ refl
]

-- nor does the last cut
pub closes-history : (s : Seen) → (closes s).history ≡ s.session.history
unfolding closes session_after AreUnread
closes-history s = none s.session (rest_of s.scan) (rest-unread s.scan)
  where
    none : (u : Session) (cuts : List Cut) → AreUnread cuts → (session_after (setting s.terms) u cuts).history ≡ u.history
    none u [] a = refl
    none u (Text x ∷ cuts) a = absurd a
    none u (TooLong ∷ cuts) a = none (turn (setting s.terms) u TooLong).next cuts a ∙ turn-kept (setting s.terms) u TooLong tt
    none u (Unfinished x ∷ cuts) a = none (turn (setting s.terms) u (Unfinished x)).next cuts a ∙ turn-kept (setting s.terms) u (Unfinished x) tt

-- ---- what a crash leaves along bytes

-- no byte
pub along-none : (s : Seen) (v : KnownDisk) → LeavesAlong s [] v v
along-none s v = λ known. (omega arith, λ t c le at. inl at)

-- a byte whose cut was run
pub along-one : (s : Seen) (x : ℕ) (v w : KnownDisk) → Leaves (StandsForEither s.session.history (plays s (x ∷ [])).history) v w → LeavesAlong s (x ∷ []) v w
along-one s x v w both = λ known. ((both known).0, λ t c le at. found c ((both known).1 t c le at))
  where
    found : {A : Type 0} (c : List ℕ) → A ⊎ (StandsFor s.session.history c ⊎ StandsFor (plays s (x ∷ [])).history c) → A ⊎ ((k : ℕ) × (k ≤ length (x ∷ [])) × StandsFor (plays s (take k (x ∷ []))).history c)
    found c (inl a) = inl a
    found c (inr (inl h)) = inr (0, omega arith, subst (λ z. StandsFor z c) (sym (history-none s)) h)
    found c (inr (inr h)) = inr (1, omega arith, h)

-- bytes, and then others
pub along-then : (s : Seen) (xs ys : List ℕ) (v u w : KnownDisk) → (IsTrue v.known → IsTrue u.known) → LeavesAlong s xs v u → LeavesAlong (after_play s xs) ys u w → LeavesAlong s (xs ++ ys) v w
along-then s xs ys v u w still first second = λ known.
    let one = first known in
    let two = second (still known) in (
      omega (arith, one.0, two.0),
      λ t c le at. (elim (two.1 t c (omega (arith, le, one.0)) at) [
        | inl before ↦ elim (one.1 t c le before) [
          | inl a ↦ inl a
          | inr p ↦ inr (p.0, omega (arith, p.1, length-append xs ys), subst (λ zs. StandsFor (plays s zs).history c) (sym (take-append-le p.0 xs ys p.1)) p.2)
        ]
        | inr q ↦ inr (
          length xs + q.0,
          omega (arith, q.1, length-append xs ys),
          subst (λ zs. StandsFor (plays s zs).history c) (sym (take-append-add xs ys q.0)) (subst (λ (z : Report). StandsFor z.history c) (sym (plays-append s xs (take q.0 ys))) q.2),
        )
      ]),
    )

-- whatever bytes come next
pub along-more : (s : Seen) (xs ys : List ℕ) (v w : KnownDisk) → LeavesAlong s xs v w → LeavesAlong s (xs ++ ys) v w
along-more s xs ys v w along = λ known. (
  (along known).0,
  λ t c le at. (elim ((along known).1 t c le at) [
    | inl a ↦ inl a
    | inr p ↦ inr (p.0, omega (arith, p.1, length-append xs ys), subst (λ zs. StandsFor (plays s zs).history c) (sym (take-append-le p.0 xs ys p.1)) p.2)
  ]),
)

-- ---- cuts

-- what one cut spends
one_read : (terms : Terms) (s : Session) (cut : Cut) → cut_reads (setting terms) s cut ≡ reads_in (setting terms) s (cut ∷ [])
unfolding reads_in
one_read terms s cut = omega arith

one_ask : (terms : Terms) (s : Session) (cut : Cut) → cut_asks (setting terms) s cut ≡ asks_in (setting terms) s (cut ∷ [])
unfolding asks_in
one_ask terms s cut = omega arith

one_spent : (s : Seen) (cut : Cut) (b a : World) → HasSpent (cut_reads (setting s.terms) s.session cut) (cut_asks (setting s.terms) s.session cut) b.files a.files b.clock a.clock → SpentAs (cuts_play s (cut ∷ [])) b a
one_spent s cut b a n =
    spent-as b.files a.files b.clock a.clock (cut_reads (setting s.terms) s.session cut) (cut_asks (setting s.terms) s.session cut) (cuts_play s (cut ∷ [])).reads (cuts_play s (cut ∷ [])).asks
    (sym (one_read s.terms s.session cut)) (sym (one_ask s.terms s.session cut)) n

-- a turn leaves the history before it or after it
pub turned-both : {R S : Type 0} (view : R → Tree) (source_view : S → Tree) (s : Seen) (cut : Cut) (rest : Supply) (old new : Workspace R S) (v w : KnownDisk) (result : Result (Option Said) WorkspaceFault)
    → TurnsAs view source_view (λ (r : Option Said). r) (expected s.terms (turn (setting s.terms) s.session cut) s.session rest) (workspace_at old v) (workspace_at new w) result → (IsTrue v.known → HoldsFile old s.session.history v)
    → Leaves (StandsForEither s.session.history (cuts_play s (cut ∷ [])).history) v w
unfolding session_after
turned-both view source_view s cut rest old new v w result t holds = λ known. (let l = t.leaves known (holds known) in (l.later, l.since))

-- a cut brought no reply
pub ran-silent : {R S : Type 0} (view : R → Tree) (source_view : S → Tree) (s : Seen) (cut : Cut) (rest : Supply) (old new : Interpreter R S) (b a : World) (v w : KnownDisk)
    → TurnsAs view source_view (λ (r : Option Said). r) (expected s.terms (turn (setting s.terms) s.session cut) s.session rest) (workspace_at old.workspace v) (workspace_at new.workspace w) (Ok None) → (IsTrue w.known → IsTrue v.known)
    → Follows view source_view v old s → HasSpent (cut_reads (setting s.terms) s.session cut) (cut_asks (setting s.terms) s.session cut) b.files a.files b.clock a.clock → Appends b.output.contents a.output.contents [] → new.cutter ≡ old.cutter → new.refused ≡ old.refused
    → Goes view source_view (played_as (cuts_play s (cut ∷ [])) (after_cuts s (cut ∷ []))) s.session.history rest (session_at old v b) (session_at new w a) (Ok tt)
unfolding replies_to session_after
ran-silent view source_view s cut rest old new b a v w t still f n o h r =
    rw (sym t.turned.0) (
      record { cutter = h ∙ f.cutter; stands = t.turned.1; holds = λ known. t.kept (still known) (f.holds (still known)) },
      r ∙ or-false old.refused,
      o,
      one_spent s cut b a n,
      t.taken,
    )

-- the lines of a cut's reply were written
pub ran-said : {R S : Type 0} (view : R → Tree) (source_view : S → Tree) (s : Seen) (cut : Cut) (x : Said) (rest : Supply) (old mid new : Interpreter R S) (b a : World) (v w : KnownDisk) (result : Result ⊤ Stop)
    → TurnsAs view source_view (λ (o : Option Said). o) (expected s.terms (turn (setting s.terms) s.session cut) s.session rest) (workspace_at old.workspace v) (workspace_at mid.workspace w) (Ok (Some x)) → (IsTrue w.known → IsTrue v.known)
    → Follows view source_view v old s → HasSpent (cut_reads (setting s.terms) s.session cut) (cut_asks (setting s.terms) s.session cut) b.files a.files b.clock a.clock → mid.cutter ≡ old.cutter → mid.refused ≡ old.refused
    → SendsOut (said_lines x) b.output.contents a.output.contents result → OnOk result (new.cutter ≡ mid.cutter) → OnOk result (new.workspace ≡ mid.workspace) → OnOk result (new.refused ≡ (mid.refused || says_refusal x))
    → Goes view source_view (played_as (cuts_play s (cut ∷ [])) (after_cuts s (cut ∷ []))) s.session.history rest (session_at old v b) (session_at new w a) result
unfolding replies_to session_after
ran-said view source_view s cut x rest old mid new b a v w (Ok y) t still f n h g o h' l' g' =
    rw (sym t.turned.0) (
      record {
        cutter = h' ∙ h ∙ f.cutter;
        stands = subst (λ z. Stands view source_view s.terms z (turn (setting s.terms) s.session cut).next) (sym l') t.turned.1;
        holds = λ known. subst (λ z. HoldsFile z (turn (setting s.terms) s.session cut).next.history w) (sym l') (t.kept (still known) (f.holds (still known)));
      },
      g' ∙ ap (λ z. z || says_refusal x) g ∙ ap (λ z. old.refused || z) (or-false (says_refusal x)),
      subst (Appends b.output.contents a.output.contents) (sym (append-nil (said_lines x))) o,
      one_spent s cut b a n,
      t.taken,
    )
ran-said view source_view s cut x rest old mid new b a v w (Err Output) t still f n h g o h' l' g' =
    rw (sym t.turned.0) (
      subst (TakesLess b.output.contents a.output.contents) (sym (append-nil (said_lines x))) o,
      one_spent s cut b a n,
      held-left mid.workspace _ _ w (λ known. t.kept (still known) (f.holds (still known))),
    )
ran-said view source_view s cut x rest old mid new b a v w (Err Full) t still f n h g o h' l' g' =
    rw (sym t.turned.0) (
      subst (TakesLess b.output.contents a.output.contents) (sym (append-nil (said_lines x))) o,
      one_spent s cut b a n,
      held-left mid.workspace _ _ w (λ known. t.kept (still known) (f.holds (still known))),
    )
ran-said view source_view s cut x rest old mid new b a v w (Err File) t still f n h g o h' l' g' = absurd o
ran-said view source_view s cut x rest old mid new b a v w (Err Disk) t still f n h g o h' l' g' = absurd o
ran-said view source_view s cut x rest old mid new b a v w (Err (NoStore at)) t still f n h g o h' l' g' = absurd o
ran-said view source_view s cut x rest old mid new b a v w (Err Clock) t still f n h g o h' l' g' = absurd o
ran-said view source_view s cut x rest old mid new b a v w (Err Memory) t still f n h g o h' l' g' =
    (o, inr (one_spent s cut b a n), held-left_second mid.workspace _ _ w (λ known. t.kept (still known) (f.holds (still known))))

-- a cut stopped the session before its reply: its file, the disk or the clock failed, or memory ran out
pub ran-stopped_early : {R S : Type 0} (view : R → Tree) (source_view : S → Tree) (s : Seen) (cut : Cut) (rest : Supply) (old new : Interpreter R S) (b a : World) (v w : KnownDisk) (fault : WorkspaceFault) (stop : Stop)
    → TurnsAs view source_view (λ (o : Option Said). o) (expected s.terms (turn (setting s.terms) s.session cut) s.session rest) (workspace_at old.workspace v) (workspace_at new.workspace w) (Err fault) → (IsTrue w.known → IsTrue v.known) → Follows view source_view v old s
    → (fault ≡ fails.File → stop ≡ File) → (fault ≡ fails.Disk → stop ≡ Disk) → (fault ≡ fails.Clock → stop ≡ Clock) → (fault ≡ fails.Memory → stop ≡ Memory)
    → (fault ≡ fails.File → left_on w s.session.history s.session.history) → (fault ≡ fails.Clock → left_on w s.session.history s.session.history)
    → Spends {T = Option Said} (cut_reads (setting s.terms) s.session cut) (cut_asks (setting s.terms) s.session cut) b.files a.files b.clock a.clock (Err fault) → Appends b.output.contents a.output.contents []
    → Goes view source_view (played_as (cuts_play s (cut ∷ [])) (after_cuts s (cut ∷ []))) s.session.history rest (session_at old v b) (session_at new w a) (Err stop)
unfolding session_after
ran-stopped_early view source_view s cut rest old new b a v w fails.File stop t still f file disk clock memory same untouched n o =
    subst (λ z. Goes view source_view (played_as (cuts_play s (cut ∷ [])) (after_cuts s (cut ∷ []))) s.session.history rest (session_at old v b) (session_at new w a) (Err z)) (sym (file refl))
    (sym (one_read s.terms s.session cut) ∙ n.0, o, one_spent s cut b a n.1, same refl)
ran-stopped_early view source_view s cut rest old new b a v w fails.Disk stop t still f file disk clock memory same untouched n o =
    subst (λ z. Goes view source_view (played_as (cuts_play s (cut ∷ [])) (after_cuts s (cut ∷ []))) s.session.history rest (session_at old v b) (session_at new w a) (Err z)) (sym (disk refl))
    (omega (arith, one_read s.terms s.session cut, one_ask s.terms s.session cut, n.0), o, one_spent s cut b a n.1, λ known c image. (t.leaves (still known) (f.holds (still known))).now c image)
ran-stopped_early view source_view s cut rest old new b a v w fails.Clock stop t still f file disk clock memory same untouched n o =
    subst (λ z. Goes view source_view (played_as (cuts_play s (cut ∷ [])) (after_cuts s (cut ∷ []))) s.session.history rest (session_at old v b) (session_at new w a) (Err z)) (sym (clock refl))
    (sym (one_ask s.terms s.session cut) ∙ n.0, o, one_spent s cut b a n.1, untouched refl)
ran-stopped_early view source_view s cut rest old new b a v w fails.Memory stop t still f file disk clock memory same untouched n o =
    subst (λ z. Goes view source_view (played_as (cuts_play s (cut ∷ [])) (after_cuts s (cut ∷ []))) s.session.history rest (session_at old v b) (session_at new w a) (Err z)) (sym (memory refl))
    (o, elim n [ inl y ↦ inl y | inr y ↦ inr (one_spent s cut b a y) ], λ known c image. (t.leaves (still known) (f.holds (still known))).now c image)

-- no cut
pub ran-none : {R S : Type 0} (view : R → Tree) (source_view : S → Tree) (s : Seen) (rest : Supply) (k : Interpreter R S) (a : World) (v : KnownDisk) → Follows view source_view v k s → s.session.supply ≡ rest
    → Goes view source_view (played_as (cuts_play s []) (after_cuts s [])) s.session.history rest (session_at k v a) (session_at k v a) (Ok tt)
unfolding replies_to session_after reads_in asks_in
ran-none view source_view s rest k a v f e = (f, or-false k.refused, Appends-nil a.output.contents, spent-none a.files a.clock, e)

-- ---- bytes

-- one byte and the cut that ends with it
pub plays-one : (s : Seen) (x : ℕ) → (plays s (x ∷ []) ≡ cuts_play s (byte_cuts (held_of s.scan) x)) × (after_play s (x ∷ []) ≡ after_cuts (seen (scan_byte s.scan x).scan s.terms s.session) (byte_cuts (held_of s.scan) x))
unfolding plays after_play scan_bytes
plays-one s x = (
  ap (λ c. report_of s.terms s.session c) one,
  ap (λ c. seen (scan_byte s.scan x).scan s.terms (session_after (setting s.terms) s.session c)) one,
)
  where
    one : (scan_byte s.scan x).cuts ++ [] ≡ byte_cuts (held_of s.scan) x
    one = append-nil (scan_byte s.scan x).cuts ∙ sym (byte_cuts-is s.scan x)

-- the cut that a byte ends was run
pub pushed-goes : {R S : Type 0} (view : R → Tree) (source_view : S → Tree) (s : Seen) (x : ℕ) (rest : Supply) (cuts : List Cut) (old mid new : Interpreter R S) (b a : World) (v w : KnownDisk) (result : Result ⊤ Stop)
    → Follows view source_view v old s → cuts ≡ byte_cuts old.cutter x → mid.refused ≡ old.refused
    → Goes view source_view (played_as (cuts_play (seen (scan_byte s.scan x).scan s.terms s.session) cuts) (after_cuts (seen (scan_byte s.scan x).scan s.terms s.session) cuts)) s.session.history rest (session_at mid v b) (session_at new w a) result
    → Leaves (StandsForEither s.session.history (cuts_play s cuts).history) v w
    → Goes view source_view (played_as (plays s (x ∷ [])) (after_play s (x ∷ []))) s.session.history rest (session_at old v b) (session_at new w a) result × Leaves (StandsForEither s.session.history (plays s (x ∷ [])).history) v w
pushed-goes view source_view s x rest cuts old mid new b a v w result f c r go both =
    rw ((plays-one s x).0, (plays-one s x).1) (moved result (subst at is go), subst (λ z. Leaves (StandsForEither s.session.history (cuts_play s z).history) v w) is both)
  where
    t : Seen
    t = seen (scan_byte s.scan x).scan s.terms s.session

    is : cuts ≡ byte_cuts (held_of s.scan) x
    is = c ∙ ap (λ z. byte_cuts z x) f.cutter

    at : List Cut → Type 0
    at z = Goes view source_view (played_as (cuts_play t z) (after_cuts t z)) s.session.history rest (session_at mid v b) (session_at new w a) result

    moved : (e : Result ⊤ Stop) → Goes view source_view (played_as (cuts_play t (byte_cuts (held_of s.scan) x)) (after_cuts t (byte_cuts (held_of s.scan) x))) s.session.history rest (session_at mid v b) (session_at new w a) e
        → Goes view source_view (played_as (cuts_play s (byte_cuts (held_of s.scan) x)) (after_cuts t (byte_cuts (held_of s.scan) x))) s.session.history rest (session_at old v b) (session_at new w a) e
    moved (Ok y) g = (g.0, g.1 ∙ ap (λ z. z || (cuts_play t (byte_cuts (held_of s.scan) x)).refused) r, g.2, g.3, g.4)
    moved (Err Output) g = g
    moved (Err Full) g = g
    moved (Err File) g = g
    moved (Err Disk) g = g
    moved (Err (NoStore n)) g = g
    moved (Err Clock) g = g
    moved (Err Memory) g = g

-- no byte is played at once
pub goes-none : {R S : Type 0} (view : R → Tree) (source_view : S → Tree) (s : Seen) (rest : Supply) (k : Interpreter R S) (a : World) (v : KnownDisk) → Follows view source_view v k s → s.session.supply ≡ rest
    → Goes view source_view (played_as (plays s []) (after_play s [])) s.session.history rest (session_at k v a) (session_at k v a) (Ok tt)
unfolding plays after_play scan_bytes replies_to session_after reads_in asks_in
goes-none view source_view s rest k a v f e = (f, or-false k.refused, Appends-nil a.output.contents, spent-none a.files a.clock, e)

-- bytes, and then others
pub goes-then : {R S : Type 0} (view : R → Tree) (source_view : S → Tree) (s : Seen) (xs ys : List ℕ) (mid_rest rest : Supply) (old mid new : Interpreter R S) (b m a : World) (v u w : KnownDisk)
    → Goes view source_view (played_as (plays s xs) (after_play s xs)) s.session.history mid_rest (session_at old v b) (session_at mid u m) (Ok tt)
    → Goes view source_view (played_as (plays (after_play s xs) ys) (after_play (after_play s xs) ys)) (after_play s xs).session.history rest (session_at mid u m) (session_at new w a) (Ok tt)
    → Goes view source_view (played_as (plays s (xs ++ ys)) (after_play s (xs ++ ys))) s.session.history rest (session_at old v b) (session_at new w a) (Ok tt)
goes-then view source_view s xs ys mid_rest rest old mid new b m a v u w g h =
    rw (plays-append s xs ys, after-append s xs ys) (
      h.0,
      h.1 ∙ ap (λ z. z || (plays (after_play s xs) ys).refused) g.1 ∙ or_assoc old.refused (plays s xs).refused (plays (after_play s xs) ys).refused,
      Appends-trans b.output.contents m.output.contents a.output.contents (plays s xs).out (plays (after_play s xs) ys).out g.2 h.2,
      spent-sum b.files m.files a.files b.clock m.clock a.clock (plays s xs).reads (plays s xs).asks (plays (after_play s xs) ys).reads (plays (after_play s xs) ys).asks _ _ refl refl g.3 h.3,
      h.4,
    )

-- a byte at which the session stops, whatever would come next
pub fed-stopped : {R S : Type 0} (view : R → Tree) (source_view : S → Tree) (s : Seen) (xs : List ℕ) (x : ℕ) (ys : List ℕ) (mid_rest rest : Supply) (old mid new : Interpreter R S) (b m a : World) (v u w : KnownDisk) (e : Stop)
    → Goes view source_view (played_as (plays s xs) (after_play s xs)) s.session.history mid_rest (session_at old v b) (session_at mid u m) (Ok tt)
    → Goes view source_view (played_as (plays (after_play s xs) (x ∷ [])) (after_play (after_play s xs) (x ∷ []))) (after_play s xs).session.history rest (session_at mid u m) (session_at new w a) (Err e)
    → Fed view source_view s (xs ++ x ∷ ys) rest (session_at old v b) (session_at new w a) (Err e)
fed-stopped view source_view s xs x ys mid_rest rest old mid new b m a v u w e g h = stopped e h
  where
    whole : List ℕ
    whole = xs ++ x ∷ ys

    front : take (length xs) whole ≡ xs
    front = take-append_seam xs (x ∷ ys)

    one : take (length xs + 1) whole ≡ xs ++ x ∷ []
    one = take-append-add xs (x ∷ ys) 1

    more : length xs + 1 ≤ length whole
    more = omega (arith, length-append xs (x ∷ ys))

    before : (after_play s xs).session.history ≡ (plays s (take (length xs) whole)).history
    before = after-history s xs ∙ ap (λ zs. (plays s zs).history) (sym front)

    behind : (plays (after_play s xs) (x ∷ [])).history ≡ (plays s (take (length xs + 1) whole)).history
    behind = ap (λ (r : Report). r.history) (sym (plays-append s xs (x ∷ []))) ∙ ap (λ zs. (plays s zs).history) (sym one)

    nothing : Appends m.output.contents a.output.contents [] → Appends b.output.contents a.output.contents (plays s (take (length xs) whole)).out
    nothing k = subst (λ zs. Appends b.output.contents a.output.contents (plays s zs).out) (sym front) (nothing-more b.output.contents m.output.contents a.output.contents (plays s xs).out g.2 k)

    part : TakesLess m.output.contents a.output.contents (plays (after_play s xs) (x ∷ [])).out
        → TakesFrom (length (plays s (take (length xs) whole)).out) b.output.contents a.output.contents (plays s (take (length xs + 1) whole)).out
    part k =
        subst (λ zs. TakesFrom (length (plays s zs).out) b.output.contents a.output.contents (plays s (take (length xs + 1) whole)).out) (sym front)
        (subst (λ zs. TakesFrom (length (plays s xs).out) b.output.contents a.output.contents (plays s zs).out) (sym one)
        (subst (λ (r : Report). TakesFrom (length (plays s xs).out) b.output.contents a.output.contents r.out) (sym (plays-append s xs (x ∷ [])))
        (part-then b.output.contents m.output.contents a.output.contents (plays s xs).out (plays (after_play s xs) (x ∷ [])).out g.2 k)))

    reads_one : (plays s (take (length xs + 1) whole)).reads ≡ (plays s (take (length xs) whole)).reads + (plays (after_play s xs) (x ∷ [])).reads
    reads_one = ap (λ zs. (plays s zs).reads) one ∙ ap (λ (r : Report). r.reads) (plays-append s xs (x ∷ [])) ∙ ap (λ zs. (plays s zs).reads + (plays (after_play s xs) (x ∷ [])).reads) (sym front)

    asks_one : (plays s (take (length xs + 1) whole)).asks ≡ (plays s (take (length xs) whole)).asks + (plays (after_play s xs) (x ∷ [])).asks
    asks_one = ap (λ zs. (plays s zs).asks) one ∙ ap (λ (r : Report). r.asks) (plays-append s xs (x ∷ [])) ∙ ap (λ zs. (plays s zs).asks + (plays (after_play s xs) (x ∷ [])).asks) (sym front)

    spent_before : SpentAs (plays s (take (length xs) whole)) b m
    spent_before = subst (λ zs. SpentAs (plays s zs) b m) (sym front) g.3

    spent_then : (i j n k : ℕ) → n ≡ (plays s (take (length xs) whole)).reads + i → k ≡ (plays s (take (length xs) whole)).asks + j
        → HasSpent i j m.files a.files m.clock a.clock → HasSpent n k b.files a.files b.clock a.clock
    spent_then i j n k is js spent =
        spent-sum b.files m.files a.files b.clock m.clock a.clock (plays s (take (length xs) whole)).reads (plays s (take (length xs) whole)).asks i j n k is js spent_before spent

    spent_one : SpentAs (plays (after_play s xs) (x ∷ [])) m a → SpentAs (plays s (take (length xs + 1) whole)) b a
    spent_one k = spent_then (plays (after_play s xs) (x ∷ [])).reads (plays (after_play s xs) (x ∷ [])).asks _ _ reads_one asks_one k

    spent_either : SpentNothing m a ⊎ SpentAs (plays (after_play s xs) (x ∷ [])) m a → SpentAs (plays s (take (length xs) whole)) b a ⊎ SpentAs (plays s (take (length xs + 1) whole)) b a
    spent_either k = elim k [ inl none ↦ inl (spent_then 0 0 _ _ (omega arith) (omega arith) none) | inr all ↦ inr (spent_one all) ]

    stopped : (z : Stop) → Goes view source_view (played_as (plays (after_play s xs) (x ∷ [])) (after_play (after_play s xs) (x ∷ []))) (after_play s xs).session.history rest (session_at mid u m) (session_at new w a) (Err z) → Fed view source_view s whole rest (session_at old v b) (session_at new w a) (Err z)
    stopped Output k = record { at = length xs; inside = omega (arith, more); wrote = part k.0; spent = spent_one k.1; left = left-same w _ _ _ _ behind behind k.2 }
    stopped Full k = record { at = length xs; inside = omega (arith, more); wrote = part k.0; spent = spent_one k.1; left = left-same w _ _ _ _ behind behind k.2 }
    stopped File k = record {
      at = length xs;
      inside = omega (arith, more);
      load = omega (arith, reads_one, k.0);
      wrote = nothing k.1;
      spent = spent_one k.2;
      left = left-same w _ _ _ _ before before k.3;
    }
    stopped Disk k = record {
      at = length xs;
      inside = omega (arith, more);
      writing = omega (arith, reads_one, asks_one, k.0);
      wrote = nothing k.1;
      spent = spent_one k.2;
      left = left-same w _ _ _ _ before behind k.3;
    }
    stopped (NoStore n) k = k
    stopped Clock k = record {
      at = length xs;
      inside = omega (arith, more);
      commit = omega (arith, asks_one, k.0);
      wrote = nothing k.1;
      spent = spent_one k.2;
      left = left-same w _ _ _ _ before before k.3;
    }
    stopped Memory k = record { at = length xs; within = omega (arith, more); wrote = nothing k.0; spent = spent_either k.1; left = left-same w _ _ _ _ before behind k.2 }

-- ---- the end of the input

-- the cut at the end was run
pub ran-last_goes : {R S : Type 0} (view : R → Tree) (source_view : S → Tree) (s : Seen) (c : Scan) (rest : Supply) (cuts : List Cut) (old mid new : Interpreter R S) (b a : World) (v w : KnownDisk) (result : Result ⊤ Stop)
    → cuts ≡ rest_of s.scan → mid.refused ≡ old.refused
    → Goes view source_view (played_as (cuts_play (seen c s.terms s.session) cuts) (after_cuts (seen c s.terms s.session) cuts)) s.session.history rest (session_at mid v b) (session_at new w a) result
    → Leaves (StandsForEither s.session.history (cuts_play s cuts).history) v w
    → RunsLast s (session_at old v b) (session_at new w a) result × Leaves (StandsForEither s.session.history s.session.history) v w
unfolding closes
ran-last_goes view source_view s c rest cuts old mid new b a v w result is r go both =
    (moved result go, subst (λ z. Leaves (StandsForEither s.session.history z) v w) kept both)
  where
    same : report_of s.terms s.session cuts ≡ report_of s.terms s.session (rest_of s.scan)
    same = ap (λ z. report_of s.terms s.session z) is

    none : (report_of s.terms s.session cuts).reads ≡ 0
    none = ap (λ (e : Report). e.reads) same ∙ closes-reads s

    no_ask : (report_of s.terms s.session cuts).asks ≡ 0
    no_ask = ap (λ (e : Report). e.asks) same ∙ closes-asks s

    nothing : SpentAs (report_of s.terms s.session cuts) b a → SpentNothing b a
    nothing k = spent-as b.files a.files b.clock a.clock (report_of s.terms s.session cuts).reads (report_of s.terms s.session cuts).asks 0 0 (sym none) (sym no_ask) k

    kept : (report_of s.terms s.session cuts).history ≡ s.session.history
    kept = ap (λ (e : Report). e.history) same ∙ closes-history s

    left : left_on w (report_of s.terms s.session cuts).history (report_of s.terms s.session cuts).history → left_on w s.session.history s.session.history
    left k = left-same w _ _ _ _ kept kept k

    part : TakesLess b.output.contents a.output.contents (report_of s.terms s.session cuts).out → TakesLess b.output.contents a.output.contents (report_of s.terms s.session (rest_of s.scan)).out
    part k = subst (λ (e : Report). TakesLess b.output.contents a.output.contents e.out) same k

    moved : (e : Result ⊤ Stop) → Goes view source_view (played_as (cuts_play (seen c s.terms s.session) cuts) (after_cuts (seen c s.terms s.session) cuts)) s.session.history rest (session_at mid v b) (session_at new w a) e → RunsLast s (session_at old v b) (session_at new w a) e
    moved (Ok y) g = (
      g.1 ∙ ap (λ z. z || (report_of s.terms s.session cuts).refused) r ∙ ap (λ (e : Report). old.refused || e.refused) same,
      subst (λ (e : Report). Appends b.output.contents a.output.contents e.out) same g.2,
      nothing g.3,
      left (held-left new.workspace _ _ w g.0.holds),
    )
    moved (Err Output) g = (part g.0, nothing g.1, left g.2)
    moved (Err Full) g = (part g.0, nothing g.1, left g.2)
    moved (Err File) g = absurd (omega (arith, none, g.0))
    moved (Err Disk) g = absurd (omega (arith, none, no_ask, g.0))
    moved (Err (NoStore n)) g = g
    moved (Err Clock) g = absurd (omega (arith, no_ask, g.0))
    moved (Err Memory) g = (g.0, elim g.1 [ inl y ↦ y | inr y ↦ nothing y ], left-same w _ _ _ _ refl kept g.2)

-- ---- steps of the code

module _ {R S : Type 0} (view : R → Tree) (source_view : S → Tree) where
  -- no cut was run
  pub went-none : (x : Interpreter R S) (a : World) (v : KnownDisk) → Went view source_view (λ s. cuts_played s []) (session_at x v a) (session_at x v a) (Ok tt)
  went-none x a v = record {
    supply = no_supply;
    supplied = supplied-none a.files a.clock;
    goes = λ s rest f e. (ran-none view source_view s rest x a v f e, both-none s.session.history (cuts_play s []).history v);
  }

  -- a cut brought no reply
  pub went-silent : (cut : Cut) (old new : Interpreter R S) (b a : World) (v w : KnownDisk)
      → HasTurned view source_view (λ (o : Option Said). o) (λ terms s. turn (setting terms) s cut) (IsSupplied b.files b.clock a.clock) (workspace_at old.workspace v) (workspace_at new.workspace w) (Ok None)
      → ((terms : Terms) (s : Session) → Stands view source_view terms old.workspace s → HasSpent (cut_reads (setting terms) s cut) (cut_asks (setting terms) s cut) b.files a.files b.clock a.clock) → (IsTrue w.known → IsTrue v.known)
      → Appends b.output.contents a.output.contents [] → new.cutter ≡ old.cutter → new.refused ≡ old.refused
      → Went view source_view (λ s. cuts_played s (cut ∷ [])) (session_at old v b) (session_at new w a) (Ok tt)
  went-silent cut old new b a v w turned spent still o h r = record {
    supply = turned.supply;
    supplied = turned.supplied;
    goes = λ s rest f e. (
        let t = turned.turns s.terms s.session rest f.stands e in (
          ran-silent view source_view s cut rest old new b a v w t still f (spent s.terms s.session f.stands) o h r,
          turned-both view source_view s cut rest old.workspace new.workspace v w (Ok None) t f.holds,
        ));
  }

  -- the lines of a cut's reply were written
  pub went-said : (cut : Cut) (y : Said) (old mid new : Interpreter R S) (b a : World) (v w : KnownDisk) (result : Result ⊤ Stop)
      → HasTurned view source_view (λ (o : Option Said). o) (λ terms s. turn (setting terms) s cut) (IsSupplied b.files b.clock a.clock) (workspace_at old.workspace v) (workspace_at mid.workspace w) (Ok (Some y))
      → ((terms : Terms) (s : Session) → Stands view source_view terms old.workspace s → HasSpent (cut_reads (setting terms) s cut) (cut_asks (setting terms) s cut) b.files a.files b.clock a.clock) → (IsTrue w.known → IsTrue v.known)
      → mid.cutter ≡ old.cutter → mid.refused ≡ old.refused
      → SendsOut (said_lines y) b.output.contents a.output.contents result → OnOk result (new.cutter ≡ mid.cutter) → OnOk result (new.workspace ≡ mid.workspace) → OnOk result (new.refused ≡ (mid.refused || says_refusal y))
      → Went view source_view (λ s. cuts_played s (cut ∷ [])) (session_at old v b) (session_at new w a) result
  went-said cut y old mid new b a v w result turned spent still h r o h' l' r' = record {
    supply = turned.supply;
    supplied = turned.supplied;
    goes = λ s rest f e. (
        let t = turned.turns s.terms s.session rest f.stands e in (
          ran-said view source_view s cut y rest old mid new b a v w result t still f (spent s.terms s.session f.stands) h r o h' l' r',
          turned-both view source_view s cut rest old.workspace mid.workspace v w (Ok (Some y)) t f.holds,
        ));
  }

  -- a cut stopped the session before its reply; where a file or the clock failed, the disk is as it was
  pub went-stopped_early : (cut : Cut) (old new : Interpreter R S) (b a : World) (v w : KnownDisk) (fault : WorkspaceFault) (stop : Stop)
      → HasTurned view source_view (λ (o : Option Said). o) (λ terms s. turn (setting terms) s cut) (IsSupplied b.files b.clock a.clock) (workspace_at old.workspace v) (workspace_at new.workspace w) (Err fault)
      → ((terms : Terms) (s : Session) → Stands view source_view terms old.workspace s → Spends {T = Option Said} (cut_reads (setting terms) s cut) (cut_asks (setting terms) s cut) b.files a.files b.clock a.clock (Err fault)) → (IsTrue w.known → IsTrue v.known)
      → (fault ≡ fails.File → stop ≡ File) × (fault ≡ fails.Disk → stop ≡ Disk) × (fault ≡ fails.Clock → stop ≡ Clock) × (fault ≡ fails.Memory → stop ≡ Memory)
      → (fault ≡ fails.File → (c : List ℕ) → w.view.images c → v.view.images c) → (fault ≡ fails.Clock → (c : List ℕ) → w.view.images c → v.view.images c)
      → Appends b.output.contents a.output.contents []
      → Went view source_view (λ s. cuts_played s (cut ∷ [])) (session_at old v b) (session_at new w a) (Err stop)
  went-stopped_early cut old new b a v w fault stop turned spent still stops same untouched o = record {
    supply = turned.supply;
    supplied = turned.supplied;
    goes = λ s rest f e. (
        let t = turned.turns s.terms s.session rest f.stands e in
        let left : left_on v s.session.history s.session.history = held-left old.workspace s.session.history s.session.history v f.holds in (
          ran-stopped_early view source_view s cut rest old new b a v w fault stop t still f stops.0 stops.1 stops.2 stops.3
              (λ is known c image. left (still known) c (same is c image)) (λ is known c image. left (still known) c (untouched is c image)) (spent s.terms s.session f.stands) o,
          turned-both view source_view s cut rest old.workspace new.workspace v w (Err fault) t f.holds,
        ));
  }

  -- the cut that a byte ends was run
  pub pushed : (x : ℕ) (cuts : List Cut) (old mid new : Interpreter R S) (b a : World) (v w : KnownDisk) (result : Result ⊤ Stop)
      → cuts ≡ byte_cuts old.cutter x → mid.cutter ≡ byte_held old.cutter x → mid.workspace ≡ old.workspace → mid.refused ≡ old.refused
      → Went view source_view (λ s. cuts_played s cuts) (session_at mid v b) (session_at new w a) result
      → Went view source_view (λ s. bytes_played s (x ∷ [])) (session_at old v b) (session_at new w a) result
  pushed x cuts old mid new b a v w result c h l r went = record {
    supply = went.supply;
    supplied = went.supplied;
    goes = λ s rest f e. (
        let z = (scan_byte s.scan x).scan in
        let go = went.goes (seen z s.terms s.session) rest (follows-cutter view source_view v old mid s z f (held-byte s.scan x old.cutter mid.cutter f.cutter h) l) e in
        pushed-goes view source_view s x rest cuts old mid new b a v w result f c r go.0 go.1);
  }

  -- memory ran out before a byte was taken
  pub unpushed : (x : ℕ) (old new : Interpreter R S) (a : World) (v : KnownDisk) (stop : Stop) → stop ≡ Memory
      → Went view source_view (λ s. bytes_played s (x ∷ [])) (session_at old v a) (session_at new v a) (Err stop)
  unpushed x old new a v stop is = subst (λ z. Went view source_view (λ s. bytes_played s (x ∷ [])) (session_at old v a) (session_at new v a) (Err z)) (sym is) (record {
    supply = no_supply;
    supplied = supplied-none a.files a.clock;
    goes = λ s rest f e. (
      (Appends-nil a.output.contents, inl (spent-none a.files a.clock), held-left old.workspace s.session.history (plays s (x ∷ [])).history v f.holds),
      both-none s.session.history (plays s (x ∷ [])).history v,
    );
  })

  -- no byte of a piece was taken
  pub fed-none : (x : Interpreter R S) (a : World) (v : KnownDisk) → WasFed view source_view [] (session_at x v a) (session_at x v a) (Ok tt)
  fed-none x a v = record {
    supply = no_supply;
    supplied = supplied-none a.files a.clock;
    fed = λ s rest f e. (goes-none view source_view s rest x a v f e, along-none s v);
  }

  module _ (xs : List ℕ) (x : ℕ) (old mid new : Interpreter R S) (b m a : World) (v u w : KnownDisk) (first : WasFed view source_view xs (session_at old v b) (session_at mid u m) (Ok tt))
      (same : m.files.found ≡ b.files.found) (still : IsTrue v.known → IsTrue u.known) where
    -- one byte more of a piece
    pub fed-then : Went view source_view (λ s. bytes_played s (x ∷ [])) (session_at mid u m) (session_at new w a) (Ok tt) → WasFed view source_view (xs ++ x ∷ []) (session_at old v b) (session_at new w a) (Ok tt)
    fed-then next = record {
      supply = followed_by first.supply next.supply;
      supplied = supplied-then b.files m.files b.clock m.clock a.clock first.supply next.supply same first.supplied next.supplied;
      fed = λ s rest f e. (
          let one = first.fed s (followed_by next.supply rest) f (e ∙ followed-assoc first.supply next.supply rest) in
          let two = next.goes (after_play s xs) rest one.0.0 one.0.4 in (
            goes-then view source_view s xs (x ∷ []) (followed_by next.supply rest) rest old mid new b m a v u w one.0 two.0,
            along-then s xs (x ∷ []) v u w still one.1 (along-one (after_play s xs) x u w two.1),
          ));
    }

    -- a byte at which the session stops
    pub fed-until : (ys : List ℕ) (stop : Stop) → Went view source_view (λ s. bytes_played s (x ∷ [])) (session_at mid u m) (session_at new w a) (Err stop) → WasFed view source_view (xs ++ x ∷ ys) (session_at old v b) (session_at new w a) (Err stop)
    fed-until ys stop next = record {
      supply = followed_by first.supply next.supply;
      supplied = supplied-then b.files m.files b.clock m.clock a.clock first.supply next.supply same first.supplied next.supplied;
      fed = λ s rest f e. (
          let one = first.fed s (followed_by next.supply rest) f (e ∙ followed-assoc first.supply next.supply rest) in
          let two = next.goes (after_play s xs) rest one.0.0 one.0.4 in (
            fed-stopped view source_view s xs x ys (followed_by next.supply rest) rest old mid new b m a v u w stop one.0 two.0,
            subst (λ zs. LeavesAlong s zs v w) (append_assoc xs (x ∷ []) ys)
                (along-more s (xs ++ x ∷ []) ys v w (along-then s xs (x ∷ []) v u w still one.1 (along-one (after_play s xs) x u w two.1))),
          ));
    }

  -- the cut at the end of the input was run
  pub ran-last : (c : Scan) (cuts : List Cut) (old mid new : Interpreter R S) (b a : World) (v w : KnownDisk) (result : Result ⊤ Stop)
      → ((z : Scan) → old.cutter ≡ held_of z → cuts ≡ rest_of z) → mid.cutter ≡ held_of c → mid.workspace ≡ old.workspace → mid.refused ≡ old.refused
      → Went view source_view (λ s. cuts_played s cuts) (session_at mid v b) (session_at new w a) result
      → RanLast view source_view (session_at old v b) (session_at new w a) result
  ran-last c cuts old mid new b a v w result end h l r went = record {
    supply = went.supply;
    supplied = went.supplied;
    runs = λ s rest f e. (
        let go = went.goes (seen c s.terms s.session) rest (follows-cutter view source_view v old mid s c f h l) e in
        ran-last_goes view source_view s c rest cuts old mid new b a v w result (end s.scan f.cutter) r go.0 go.1);
  }
