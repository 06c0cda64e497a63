-- A run is its first turns, and then the rest.
use Rattle.cp_interpreter.proofs.Lines.{refused-after}
use Rattle.cp_interpreter.specs.declared.limits.TheConstants.{INPUT_MAX, PIECE_MAX}
use Rattle.std.proofs.Common.{◌≡◌, ℕ, ◌+◌, ◌≤◌, ◌<◌, List, [], ◌++◌, take, length, Bool, true, false, Ok, Err, inl, inr, refl, sym, ap, ◌∙◌, subst, append_assoc, append-nil, arith}
use Rattle.std.proofs.Math.Bool.{or_assoc}
use Rattle.std.specs.Prelude.{◌||◌, ◌⊎◌, ⊤, OnOk, Result, IsTrue}
use Rattle.std.proofs.Math.Seq.{take-append-add}
use Rattle.std.proofs.lemmas.List.{length-append}
use Rattle.std.specs.Io.KnownBytes.{Appends, Consumes, Keeps, IsAtEnd}
use Rattle.std.proofs.KnownBytes.{Appends-trans, Consumes-trans, Consumes-nil, Consumes-kept}
use Rattle.cp_outside.specs.Causes.{Accounts}
use Rattle.cp_reply.specs.Session.{Supply, no_supply, followed_by}
use Rattle.cp_reply.proofs.Supplies.{followed-assoc}
use Rattle.cp_model.specs.Tree.{Tree}
use Rattle.cp_frame.specs.Stands.{StandsFor, StandsForEither}
use Rattle.cp_db.proofs.Keeping.{kept-images}
use Rattle.cp_disk.specs.Views.{KnownDisk, Leaves}
use Rattle.cp_workspace.specs.Files.{KnownFiles}
use Rattle.cp_workspace.proofs.Supplied.{supplied-none, supplied-then}
use Rattle.cp_workspace.proofs.Spent.{spent-none, spent-sum, spent-as}
use Rattle.cp_workspace.proofs.Standing.{on-ok}
use Rattle.cp_interpreter.specs.Texts.{input_line, file_line, disk_line, clock_line, memory_line, too_long_line}
use Rattle.cp_interpreter.specs.Job.{Report}
use Rattle.cp_interpreter.specs.Outside.{KnownInput, KnownClock, KnownOutput, World, Outside, call_at, world_of}
use Rattle.cp_interpreter.specs.Play.{Seen, plays, after_play, closes, plays_all}
use Rattle.cp_interpreter.specs.Story.{Writes, WasRefused, StopsIn, StopsAfter, WritesLast, Leaving, left_on, SpentAs, SpentNothing, AllDone, OutputStopped, OutOfMemory, Did, HasCauses, DiskCauses, result_of}
use Rattle.cp_interpreter.specs.declared.interpreter.Interpreter.{Interpreter}
use Rattle.cp_interpreter.specs.Turns.{session_at, Follows, StopRefusesWrite, IsOpenedStop, StopsWriting, Fed, WasFed, RunsLast, RanLast, LeavesAlong, with_refusal, work_from, RanFrom, TookPiece, IsSteady, TellsStop, Closes, HasClosed, IsClosing, end_of_stop}
use Rattle.cp_interpreter.specs.declared.end.End.{End}
use Rattle.cp_interpreter.specs.declared.end.End.TheVariants as how
use Rattle.cp_interpreter.specs.declared.stop.Stop.{Stop}
use Rattle.cp_interpreter.specs.declared.stop.Stop.TheVariants.{Output, Full, File, Disk, NoStore, Clock, Memory}
use Rattle.cp_interpreter.proofs.Plays.{plays-append, all-append, all-none, closes-reads, closes-asks, closes-history, plays-none, history-none, along-then, goes-none, goes-then}

-- the outside, of its parts
abbrev pub parts : KnownInput → KnownFiles → KnownClock → KnownOutput → Outside
parts i f c o = record { input = i; files = f; clock = c; output = o }

abbrev pub world : KnownFiles → KnownClock → KnownOutput → World
world f c o = record { files = f; clock = c; output = o }

-- ---- lines one after another

-- a last line after what was written before
pub last-after : (b m a : KnownOutput) (xs ys last : List ℕ) → Writes b m xs → WritesLast m a ys last → WritesLast b a (xs ++ ys) last
last-after b m a xs ys last h w = elim w [
  | inl whole ↦ inl (whole.0 ∙ h.0, subst (Appends b.contents a.contents) (sym (append_assoc xs ys last)) (Appends-trans b.contents m.contents a.contents xs (ys ++ last) h.1 whole.1))
  | inr part ↦ inr (
    refused-after b m a h.0 part.0,
    part.1,
    part.2,
    subst (Appends b.contents a.contents) (sym (append_assoc xs ys (take part.1 last))) (Appends-trans b.contents m.contents a.contents xs (ys ++ take part.1 last) h.1 part.3),
  )
]

-- a last line after nothing
pub last-alone : (b m a : KnownOutput) (last : List ℕ) → Writes b m [] → WritesLast m a [] last → WritesLast b a [] last
last-alone b m a last h w = last-after b m a [] [] last h w

-- the output stopped after what was written before
pub stops-after : (b m a : KnownOutput) (xs first ys : List ℕ) → Writes b m xs → StopsAfter m a first ys → StopsAfter b a (xs ++ first) (xs ++ ys)
stops-after b m a xs first ys h w = (
  refused-after b m a h.0 w.0,
  (
    length xs + w.1.0,
    omega (arith, length-append xs first, w.1.1),
    omega (arith, length-append xs ys, w.1.2),
    subst (Appends b.contents a.contents) (sym (take-append-add xs ys w.1.0)) (Appends-trans b.contents m.contents a.contents xs (take w.1.0 ys) h.1 w.1.3),
  ),
)

-- ---- what a crash leaves

-- of a disk that holds the code's file it leaves the session's history
pub left-here : {R S : Type 0} (view : R → Tree) (source_view : S → Tree) (v : KnownDisk) (x : Interpreter R S) (s : Seen) → Follows view source_view v x s → left_on v s.session.history s.session.history
left-here view source_view v x s f = λ known c i. inl (kept-images x.workspace.db s.session.history v.view (f.holds known) c i)

-- of a disk that no step touches nothing else
pub along-still : (s : Seen) (bytes : List ℕ) (v : KnownDisk) → LeavesAlong s bytes v v
along-still s bytes v = λ known. (omega arith, λ t c le h. inl h)

-- at the end of the input the history stays
pub along-closed : (s : Seen) (v w : KnownDisk) → Leaves (StandsForEither s.session.history s.session.history) v w → LeavesAlong s [] v w
along-closed s v w l = λ known. (
  (l known).0,
  λ t c le h. elim ((l known).1 t c le h) [
    | inl before ↦ inl before
    | inr now ↦ inr (0, omega arith, here c now)
  ],
)
  where
    here : (c : List ℕ) → StandsFor s.session.history c ⊎ StandsFor s.session.history c → StandsFor (plays s []).history c
    here c (inl x) = subst (λ h. StandsFor h c) (sym (history-none s)) x
    here c (inr x) = subst (λ h. StandsFor h c) (sym (history-none s)) x

-- ---- sessions that go on

-- a last line after no byte
last-first : (b a : KnownOutput) (s : Seen) (last : List ℕ) → WritesLast b a [] last → WritesLast b a (plays s []).out last
last-first b a s last w = subst (λ z. WritesLast b a z last) (sym (plays-none s).0) w

-- what is left after no byte
left-first : (L : Leaving) (s : Seen) → L s.session.history s.session.history → L (plays s []).history (plays s []).history
left-first L s w = subst (λ z. L z z) (sym (history-none s)) w

-- whether a refusal was written, after the bytes and then the rest
refused-then : (s : Seen) (f : Bool) (xs ys : List ℕ) → (with_refusal f (plays_all s (xs ++ ys))).refused ≡ (with_refusal (f || (plays s xs).refused) (plays_all (after_play s xs) ys)).refused
refused-then s f xs ys = ap (λ (e : Report). f || e.refused) (all-append s xs ys) ∙ sym (or_assoc f (plays s xs).refused (plays_all (after_play s xs) ys).refused)

-- all that was written and spent, and the history, after the bytes and then the rest
out-then : (s : Seen) (xs ys : List ℕ) → (plays_all s (xs ++ ys)).out ≡ (plays s xs).out ++ (plays_all (after_play s xs) ys).out
out-then s xs ys = ap (λ (e : Report). e.out) (all-append s xs ys)

all_read-then : (s : Seen) (xs ys : List ℕ) → (plays_all s (xs ++ ys)).reads ≡ (plays s xs).reads + (plays_all (after_play s xs) ys).reads
all_read-then s xs ys = ap (λ (e : Report). e.reads) (all-append s xs ys)

all_asks-then : (s : Seen) (xs ys : List ℕ) → (plays_all s (xs ++ ys)).asks ≡ (plays s xs).asks + (plays_all (after_play s xs) ys).asks
all_asks-then s xs ys = ap (λ (e : Report). e.asks) (all-append s xs ys)

all_history-then : (s : Seen) (xs ys : List ℕ) → (plays_all s (xs ++ ys)).history ≡ (plays_all (after_play s xs) ys).history
all_history-then s xs ys = ap (λ (e : Report). e.history) (all-append s xs ys)

-- what the bytes write and spend, and then others, and the history to which they come
played-then : (s : Seen) (xs ys : List ℕ) → (plays s (xs ++ ys)).out ≡ (plays s xs).out ++ (plays (after_play s xs) ys).out
played-then s xs ys = ap (λ (e : Report). e.out) (plays-append s xs ys)

reads-then : (s : Seen) (xs ys : List ℕ) → (plays s (xs ++ ys)).reads ≡ (plays s xs).reads + (plays (after_play s xs) ys).reads
reads-then s xs ys = ap (λ (e : Report). e.reads) (plays-append s xs ys)

asks-then : (s : Seen) (xs ys : List ℕ) → (plays s (xs ++ ys)).asks ≡ (plays s xs).asks + (plays (after_play s xs) ys).asks
asks-then s xs ys = ap (λ (e : Report). e.asks) (plays-append s xs ys)

history-then : (s : Seen) (xs ys : List ℕ) → (plays s (xs ++ ys)).history ≡ (plays (after_play s xs) ys).history
history-then s xs ys = ap (λ (e : Report). e.history) (plays-append s xs ys)

-- the same of a front part of the others
front-then : (s : Seen) (xs ys : List ℕ) (k : ℕ) → (plays s (take (length xs + k) (xs ++ ys))).out ≡ (plays s xs).out ++ (plays (after_play s xs) (take k ys)).out
front-then s xs ys k = ap (λ zs. (plays s zs).out) (take-append-add xs ys k) ∙ played-then s xs (take k ys)

front_reads-then : (s : Seen) (xs ys : List ℕ) (k : ℕ) → (plays s (take (length xs + k) (xs ++ ys))).reads ≡ (plays s xs).reads + (plays (after_play s xs) (take k ys)).reads
front_reads-then s xs ys k = ap (λ zs. (plays s zs).reads) (take-append-add xs ys k) ∙ reads-then s xs (take k ys)

front_asks-then : (s : Seen) (xs ys : List ℕ) (k : ℕ) → (plays s (take (length xs + k) (xs ++ ys))).asks ≡ (plays s xs).asks + (plays (after_play s xs) (take k ys)).asks
front_asks-then s xs ys k = ap (λ zs. (plays s zs).asks) (take-append-add xs ys k) ∙ asks-then s xs (take k ys)

front_history-then : (s : Seen) (xs ys : List ℕ) (k : ℕ) → (plays s (take (length xs + k) (xs ++ ys))).history ≡ (plays (after_play s xs) (take k ys)).history
front_history-then s xs ys k = ap (λ zs. (plays s zs).history) (take-append-add xs ys k) ∙ history-then s xs (take k ys)

-- what is left after a front part of the others
front_left-then : (L : Leaving) (s : Seen) (xs ys : List ℕ) (k j n : ℕ) → n ≡ length xs + j → L (plays (after_play s xs) (take k ys)).history (plays (after_play s xs) (take j ys)).history
    → L (plays s (take (length xs + k) (xs ++ ys))).history (plays s (take n (xs ++ ys))).history
front_left-then L s xs ys k j n e w =
    subst (λ z. L (plays s (take (length xs + k) (xs ++ ys))).history z) (sym (ap (λ z. (plays s (take z (xs ++ ys))).history) e ∙ front_history-then s xs ys j))
    (subst (λ z. L z (plays (after_play s xs) (take j ys)).history) (sym (front_history-then s xs ys k)) w)

module _ (s : Seen) (f : Bool) (count : ℕ) (xs ys : List ℕ) (b m a : Outside) (L : Leaving) (h : Writes b.output m.output (plays s xs).out) (r : SpentAs (plays s xs) (world_of b) (world_of m)) where
  abbrev next : Seen
  next = after_play s xs

  abbrev flag : Bool
  flag = f || (plays s xs).refused

  -- what was spent, and what was for the bytes before it
  spent_all : (n k : Report) → k.reads ≡ (plays s xs).reads + n.reads → k.asks ≡ (plays s xs).asks + n.asks → SpentAs n (world_of m) (world_of a) → SpentAs k (world_of b) (world_of a)
  spent_all n k reads asks w = spent-sum b.files m.files a.files b.clock m.clock a.clock (plays s xs).reads (plays s xs).asks n.reads n.asks k.reads k.asks reads asks r w

  -- the same of a front part
  spent_front : (j n : ℕ) → n ≡ length xs + j → SpentAs (plays next (take j ys)) (world_of m) (world_of a) → SpentAs (plays s (take n (xs ++ ys))) (world_of b) (world_of a)
  spent_front j n e w =
      subst (λ i. SpentAs (plays s (take i (xs ++ ys))) (world_of b) (world_of a)) (sym e)
      (spent_all (plays next (take j ys)) (plays s (take (length xs + j) (xs ++ ys))) (front_reads-then s xs ys j) (front_asks-then s xs ys j) w)

  -- and of the whole
  spent_whole : SpentAs (plays_all next ys) (world_of m) (world_of a) → SpentAs (plays_all s (xs ++ ys)) (world_of b) (world_of a)
  spent_whole w = spent_all (plays_all next ys) (plays_all s (xs ++ ys)) (all_read-then s xs ys) (all_asks-then s xs ys) w

  -- what is spent up to a byte
  reads_at : (k : ℕ) → (plays s (take ((length xs + k) + 1) (xs ++ ys))).reads ≡ (plays s xs).reads + (plays next (take (k + 1) ys)).reads
  reads_at k = let same : (length xs + k) + 1 ≡ length xs + (k + 1) = omega arith in ap (λ n. (plays s (take n (xs ++ ys))).reads) same ∙ front_reads-then s xs ys (k + 1)

  asks_at : (k : ℕ) → (plays s (take ((length xs + k) + 1) (xs ++ ys))).asks ≡ (plays s xs).asks + (plays next (take (k + 1) ys)).asks
  asks_at k = let same : (length xs + k) + 1 ≡ length xs + (k + 1) = omega arith in ap (λ n. (plays s (take n (xs ++ ys))).asks) same ∙ front_asks-then s xs ys (k + 1)

  -- a last line, and what was written before it
  written_last : (k : ℕ) (last : List ℕ) → WritesLast m.output a.output (plays next (take k ys)).out last → WritesLast b.output a.output (plays s (take (length xs + k) (xs ++ ys))).out last
  written_last k last w =
      subst (λ z. WritesLast b.output a.output z last) (sym (front-then s xs ys k)) (last-after b.output m.output a.output (plays s xs).out (plays next (take k ys)).out last h w)

  -- what is left at the end
  all_left : L (plays_all next ys).history (plays_all next ys).history → L (plays_all s (xs ++ ys)).history (plays_all s (xs ++ ys)).history
  all_left w = subst (λ z. L z z) (sym (all_history-then s xs ys)) w

  -- and after a front part
  front_left : (k : ℕ) → L (plays next (take k ys)).history (plays next (take k ys)).history → L (plays s (take (length xs + k) (xs ++ ys))).history (plays s (take (length xs + k) (xs ++ ys))).history
  front_left k w = front_left-then L s xs ys k k (length xs + k) refl w

  all_done : (t : Bool) → AllDone (work_from next flag) L ys m a t → AllDone (work_from s f) L (xs ++ ys) b a t
  all_done t w = record {
    refused_is = refused-then s f xs ys ∙ w.refused_is;
    wrote = (w.wrote.0 ∙ h.0, subst (Appends b.output.contents a.output.contents) (sym (out-then s xs ys)) (Appends-trans b.output.contents m.output.contents a.output.contents (plays s xs).out (plays_all next ys).out h.1 w.wrote.1));
    spent = spent_whole w.spent;
    left = all_left w.left;
  }

  stopped_after : (k : ℕ) → StopsAfter m.output a.output (plays next (take k ys)).out (plays next (take (k + 1) ys)).out
      → StopsAfter b.output a.output (plays s (take (length xs + k) (xs ++ ys))).out (plays s (take (length xs + k + 1) (xs ++ ys))).out
  stopped_after k w =
      let same : length xs + (k + 1) ≡ length xs + k + 1 = omega arith in
      subst (λ z. StopsAfter b.output a.output z (plays s (take (length xs + k + 1) (xs ++ ys))).out) (sym (front-then s xs ys k))
      (subst (λ n. StopsAfter b.output a.output ((plays s xs).out ++ (plays next (take k ys)).out) (plays s (take n (xs ++ ys))).out) same
      (subst (StopsAfter b.output a.output ((plays s xs).out ++ (plays next (take k ys)).out)) (sym (front-then s xs ys (k + 1)))
      (stops-after b.output m.output a.output (plays s xs).out (plays next (take k ys)).out (plays next (take (k + 1) ys)).out h w)))

  stopped : OutputStopped (work_from next flag) L ys m a → OutputStopped (work_from s f) L (xs ++ ys) b a
  stopped v = elim v [
    | inl part ↦ inl (record {
      at = length xs + part.at;
      inside = omega (arith, part.inside, length-append xs ys);
      wrote = stopped_after part.at part.wrote;
      spent = spent_front (part.at + 1) ((length xs + part.at) + 1) (omega arith) part.spent;
      left = subst (λ n. L (plays s (take n (xs ++ ys))).history (plays s (take n (xs ++ ys))).history) (omega arith) (front_left (part.at + 1) part.left);
    })
    | inr part ↦ inr (record {
      ended = part.ended;
      wrote = subst (λ z. StopsAfter b.output a.output z (plays_all s (xs ++ ys)).out) (sym (played-then s xs ys))
          (subst (StopsAfter b.output a.output ((plays s xs).out ++ (plays next ys).out)) (sym (out-then s xs ys))
          (stops-after b.output m.output a.output (plays s xs).out (plays next ys).out (plays_all next ys).out h part.wrote));
      spent = spent_whole part.spent;
      left = all_left part.left;
    })
  ]

  -- what is left by a statement that was run or not
  left_inside : (k : ℕ) → L (plays next (take k ys)).history (plays next (take (k + 1) ys)).history → L (plays s (take (length xs + k) (xs ++ ys))).history (plays s (take ((length xs + k) + 1) (xs ++ ys))).history
  left_inside k w = front_left-then L s xs ys k (k + 1) ((length xs + k) + 1) (omega arith) w

  inside : OutOfMemory (work_from next flag) L ys m a → OutOfMemory (work_from s f) L (xs ++ ys) b a
  inside w = record {
    at = length xs + w.at;
    within = omega (arith, w.within, length-append xs ys);
    wrote = written_last w.at memory_line w.wrote;
    spent = elim w.spent [
      | inl none ↦ inl (spent_front w.at (length xs + w.at) refl none)
      | inr all ↦ inr (spent_front (w.at + 1) ((length xs + w.at) + 1) (omega arith) all)
    ];
    left = left_inside w.at w.left;
  }

  -- bytes, and then the end
  pub did-then : (e : End) → Did (work_from next flag) L (count + length xs) ys m a e → Did (work_from s f) L count (xs ++ ys) b a e
  did-then how.Done w = all_done _ w
  did-then how.Refused w = all_done _ w
  did-then how.Usage w = absurd w
  did-then how.Input w = record {
    wrote = subst (λ z. WritesLast b.output a.output z input_line) (sym (played-then s xs ys)) (last-after b.output m.output a.output (plays s xs).out (plays next ys).out input_line h w.wrote);
    spent = spent_all (plays next ys) (plays s (xs ++ ys)) (reads-then s xs ys) (asks-then s xs ys) w.spent;
    left = subst (λ z. L z z) (sym (history-then s xs ys)) w.left;
  }
  did-then how.File w = record {
    at = length xs + w.at;
    inside = omega (arith, w.inside, length-append xs ys);
    load = omega (arith, front_reads-then s xs ys w.at, reads_at w.at, w.load);
    wrote = written_last w.at file_line w.wrote;
    spent = spent_front (w.at + 1) ((length xs + w.at) + 1) (omega arith) w.spent;
    left = front_left w.at w.left;
  }
  did-then how.Output w = stopped w
  did-then how.Disk w = record {
    at = length xs + w.at;
    inside = omega (arith, w.inside, length-append xs ys);
    writing = omega (arith, front_reads-then s xs ys w.at, front_asks-then s xs ys w.at, reads_at w.at, asks_at w.at, w.writing);
    wrote = written_last w.at disk_line w.wrote;
    spent = spent_front (w.at + 1) ((length xs + w.at) + 1) (omega arith) w.spent;
    left = left_inside w.at w.left;
  }
  did-then (how.NoStore at) w = absurd w
  did-then how.Memory w = elim w [
    | inl full ↦ inl (stopped full)
    | inr ran ↦ inr (inside ran)
  ]
  did-then how.TooLong w = record {
    at = length xs + w.at;
    within = omega (arith, w.within);
    last_piece = omega (arith, w.last_piece, length-append xs ys);
    wrote = written_last w.at too_long_line w.wrote;
    spent = spent_front w.at (length xs + w.at) refl w.spent;
    left = front_left w.at w.left;
  }
  did-then how.Clock w = record {
    at = length xs + w.at;
    inside = omega (arith, w.inside, length-append xs ys);
    commit = omega (arith, front_asks-then s xs ys w.at, asks_at w.at, w.commit);
    wrote = written_last w.at clock_line w.wrote;
    spent = spent_front (w.at + 1) ((length xs + w.at) + 1) (omega arith) w.spent;
    left = front_left w.at w.left;
  }

-- ---- sessions that end

-- no byte spends nothing
spent_first : (s : Seen) (b a : World) → SpentNothing b a → SpentAs (plays s []) b a
spent_first s b a n = spent-as b.files a.files b.clock a.clock 0 0 (plays s []).reads (plays s []).asks (plays-none s).1 (plays-none s).2 n

-- nor does the end of the input
spent_closed : (s : Seen) (b a : World) → SpentNothing b a → SpentAs (plays_all s []) b a
spent_closed s b a n =
    spent-as b.files a.files b.clock a.clock 0 0 (plays_all s []).reads (plays_all s []).asks
    (ap (λ (e : Report). e.reads) (all-none s) ∙ closes-reads s) (ap (λ (e : Report). e.asks) (all-none s) ∙ closes-asks s) n

-- the input failed
pub did-input : (L : Leaving) (s : Seen) (f : Bool) (count : ℕ) (b a : Outside) → WritesLast b.output a.output [] input_line → SpentNothing (world_of b) (world_of a) → L s.session.history s.session.history → Did (work_from s f) L count [] b a how.Input
did-input L s f count b a w r l = record { wrote = last-first b.output a.output s input_line w; spent = spent_first s (world_of b) (world_of a) r; left = left-first L s l }

-- too much has come
pub did-too-long : (L : Leaving) (s : Seen) (f : Bool) (count : ℕ) (bytes : List ℕ) (b a : Outside) → count ≤ INPUT_MAX → length bytes ≤ PIECE_MAX → WritesLast b.output a.output [] too_long_line → SpentNothing (world_of b) (world_of a) → L s.session.history s.session.history
    → Did (work_from s f) L count bytes b a how.TooLong
did-too-long L s f count bytes b a le piece w r l = record {
  at = 0;
  within = omega (arith, le);
  last_piece = omega (arith, piece);
  wrote = last-first b.output a.output s too_long_line w;
  spent = spent_first s (world_of b) (world_of a) r;
  left = left-first L s l;
}

-- the input has ended
module _ (s : Seen) (f : Bool) (count : ℕ) (b a : Outside) (w : KnownDisk) (end : IsAtEnd a.input.left) where
  abbrev L : Leaving
  L = left_on w

  left_closed : L s.session.history s.session.history → L (plays_all s []).history (plays_all s []).history
  left_closed l = subst (λ z. L z z) (sym (ap (λ (e : Report). e.history) (all-none s) ∙ closes-history s)) l

  all_closed : (t : Bool) → ((f || (closes s).refused) ≡ t) × Writes b.output a.output (closes s).out × SpentNothing (world_of b) (world_of a) × L s.session.history s.session.history → AllDone (work_from s f) L [] b a t
  all_closed t c = record {
    refused_is = ap (λ (e : Report). f || e.refused) (all-none s) ∙ c.0;
    wrote = subst (λ (e : Report). Writes b.output a.output e.out) (sym (all-none s)) c.1;
    spent = spent_closed s (world_of b) (world_of a) c.2;
    left = left_closed c.3;
  }

  ending : StopsIn b.output a.output (closes s).out × SpentNothing (world_of b) (world_of a) × L s.session.history s.session.history → OutputStopped (work_from s f) L [] b a
  ending c = inr (record {
    ended = end;
    wrote = subst (λ xs. StopsAfter b.output a.output xs (plays_all s []).out) (sym (plays-none s).0)
        (subst (λ (e : Report). StopsAfter b.output a.output [] e.out) (sym (all-none s)) (c.0.0, (c.0.1.0, omega arith, c.0.1.1, c.0.1.2)));
    spent = spent_closed s (world_of b) (world_of a) c.1;
    left = left_closed c.2;
  })

  closing : WritesLast b.output a.output [] memory_line × SpentNothing (world_of b) (world_of a) × L s.session.history s.session.history → OutOfMemory (work_from s f) L [] b a
  closing c = record { at = 0; within = omega arith; wrote = last-first b.output a.output s memory_line c.0; spent = inl (spent_first s (world_of b) (world_of a) c.1); left = left-first L s c.2 }

  pub did-closed : (e : End) → Closes s f (world_of b) (world_of a) w e → Did (work_from s f) (left_on w) count [] b a e
  did-closed how.Done c = all_closed _ c
  did-closed how.Refused c = all_closed _ c
  did-closed how.Usage c = absurd c
  did-closed how.Input c = absurd c
  did-closed how.File c = absurd c
  did-closed how.Output c = ending c
  did-closed how.Disk c = absurd c
  did-closed (how.NoStore at) c = absurd c
  did-closed how.Memory c = elim c [ inl full ↦ inl (ending full) | inr last ↦ inr (closing last) ]
  did-closed how.TooLong c = absurd c
  did-closed how.Clock c = absurd c

-- the session was stopped
module _ {R S : Type 0} (view : R → Tree) (source_view : S → Tree) (s : Seen) (f : Bool) (rest : Supply) (old new : Interpreter R S) (count : ℕ) (bytes : List ℕ) (ib ia : KnownInput) (fb fm : KnownFiles) (cb cm : KnownClock) (ob om oa : KnownOutput) (v w : KnownDisk) where
  -- a last line behind what was written up to a byte
  line_at : (at : ℕ) (last : List ℕ) → Writes ob om (plays s (take at bytes)).out → WritesLast om oa [] last → WritesLast ob oa (plays s (take at bytes)).out last
  line_at at last g t = subst (λ z. WritesLast ob oa z last) (append-nil (plays s (take at bytes)).out) (last-after ob om oa (plays s (take at bytes)).out [] last g t)

  writing : StopsWriting s bytes (world fb cb ob) (world fm cm om) w → WasRefused ob om → oa ≡ om → OutputStopped (work_from s f) (left_on w) bytes (parts ib fb cb ob) (parts ia fm cm oa)
  writing g r t = inl (record { at = g.at; inside = g.inside; wrote = subst (λ o. StopsAfter ob o (plays s (take g.at bytes)).out (plays s (take (g.at + 1) bytes)).out) (sym t) (r, g.wrote); spent = g.spent; left = g.left })

  pub did-stopped : (stop : Stop) → Fed view source_view s bytes rest (session_at old v (world fb cb ob)) (session_at new w (world fm cm om)) (Err stop) → StopRefusesWrite ob om stop → TellsStop om oa stop
      → Did (work_from s f) (left_on w) count bytes (parts ib fb cb ob) (parts ia fm cm oa) (end_of_stop stop)
  did-stopped Output g r t = writing g r t
  did-stopped Full g r t = inl (writing g r t)
  did-stopped File g r t = record { at = g.at; inside = g.inside; load = g.load; wrote = line_at g.at file_line (r, g.wrote) t; spent = g.spent; left = g.left }
  did-stopped Disk g r t = record { at = g.at; inside = g.inside; writing = g.writing; wrote = line_at g.at disk_line (r, g.wrote) t; spent = g.spent; left = g.left }
  did-stopped (NoStore at) g r t = absurd g
  did-stopped Clock g r t = record { at = g.at; inside = g.inside; commit = g.commit; wrote = line_at g.at clock_line (r, g.wrote) t; spent = g.spent; left = g.left }
  did-stopped Memory g r t = inr (record { at = g.at; within = g.within; wrote = line_at g.at memory_line (r, g.wrote) t; spent = g.spent; left = g.left })

-- ---- sessions that were stopped

-- a session was stopped at the end of its input
pub closes-stopped : {R S : Type 0} (s : Seen) (f : Bool) (old new : Interpreter R S) (fb fm : KnownFiles) (cb cm : KnownClock) (ob om oa : KnownOutput) (v w : KnownDisk) (stop : Stop) → RunsLast s (session_at old v (world fb cb ob)) (session_at new w (world fm cm om)) (Err stop)
    → StopRefusesWrite ob om stop → TellsStop om oa stop → Closes s f (world fb cb ob) (world fm cm oa) w (end_of_stop stop)
closes-stopped s f old new fb fm cb cm ob om oa v w Output g r t = (subst (λ o. StopsIn ob o (closes s).out) (sym t) (r, g.0), g.1, g.2)
closes-stopped s f old new fb fm cb cm ob om oa v w Full g r t = inl (subst (λ o. StopsIn ob o (closes s).out) (sym t) (r, g.0), g.1, g.2)
closes-stopped s f old new fb fm cb cm ob om oa v w File g r t = absurd g
closes-stopped s f old new fb fm cb cm ob om oa v w Disk g r t = absurd g
closes-stopped s f old new fb fm cb cm ob om oa v w (NoStore at) g r t = absurd g
closes-stopped s f old new fb fm cb cm ob om oa v w Clock g r t = absurd g
closes-stopped s f old new fb fm cb cm ob om oa v w Memory g r t = inr (last-alone ob om oa memory_line (r, g.0) t, g.1, g.2)

-- the end of a stop is an end of its own
pub closing-stopped : (stop : Stop) → IsOpenedStop stop → IsClosing (end_of_stop stop)
closing-stopped Output n = record { running = record { fitting = λ e. absurd (cc); opened = λ at e. absurd (cc) }; input = λ e. absurd (cc); too_much = λ e. absurd (cc) }
closing-stopped Full n = record { running = record { fitting = λ e. absurd (cc); opened = λ at e. absurd (cc) }; input = λ e. absurd (cc); too_much = λ e. absurd (cc) }
closing-stopped File n = record { running = record { fitting = λ e. absurd (cc); opened = λ at e. absurd (cc) }; input = λ e. absurd (cc); too_much = λ e. absurd (cc) }
closing-stopped Disk n = record { running = record { fitting = λ e. absurd (cc); opened = λ at e. absurd (cc) }; input = λ e. absurd (cc); too_much = λ e. absurd (cc) }
closing-stopped (NoStore at) n = absurd (n at refl)
closing-stopped Clock n = record { running = record { fitting = λ e. absurd (cc); opened = λ at e. absurd (cc) }; input = λ e. absurd (cc); too_much = λ e. absurd (cc) }
closing-stopped Memory n = record { running = record { fitting = λ e. absurd (cc); opened = λ at e. absurd (cc) }; input = λ e. absurd (cc); too_much = λ e. absurd (cc) }

-- at which not all was done
stop-ended : (stop : Stop) (P : Type 0) → OnOk (result_of (end_of_stop stop)) P
stop-ended Output P = tt
stop-ended Full P = tt
stop-ended File P = tt
stop-ended Disk P = tt
stop-ended (NoStore at) P = tt
stop-ended Clock P = tt
stop-ended Memory P = tt

-- ---- the end of the input

module _ {R S : Type 0} (view : R → Tree) (source_view : S → Tree) (old new : Interpreter R S) (fb fm : KnownFiles) (cb cm : KnownClock) (ob om oa : KnownOutput) (v w : KnownDisk) where
  -- it was stopped
  pub closed-stopped : (stop : Stop) → IsOpenedStop stop → RanLast view source_view (session_at old v (world fb cb ob)) (session_at new w (world fm cm om)) (Err stop) → StopRefusesWrite ob om stop → TellsStop om oa stop
      → HasClosed view source_view (session_at old v (world fb cb ob)) (session_at new w (world fm cm oa)) (end_of_stop stop)
  closed-stopped stop n g r t = record {
    supply = g.supply;
    supplied = g.supplied;
    closing = closing-stopped stop n;
    closed = λ s rest f m. (let x = g.runs s rest f m in (closes-stopped s old.refused old new fb fm cb cm ob om oa v w stop x.0 r t, x.1));
  }

  -- some line refuses a statement
  pub closed-refused : RanLast view source_view (session_at old v (world fb cb ob)) (session_at new w (world fm cm om)) (Ok tt) → om.refusals ≡ ob.refusals → new.refused ≡ true → HasClosed view source_view (session_at old v (world fb cb ob)) (session_at new w (world fm cm om)) how.Refused
  closed-refused g r t = record {
    supply = g.supply;
    supplied = g.supplied;
    closing = record { running = record { fitting = λ e. absurd (cc); opened = λ at e. absurd (cc) }; input = λ e. absurd (cc); too_much = λ e. absurd (cc) };
    closed = λ s rest f m. (let x = g.runs s rest f m in ((sym x.0.0 ∙ t, (r, x.0.1), x.0.2, x.0.3), x.1));
  }

  -- none does
  pub closed-done : RanLast view source_view (session_at old v (world fb cb ob)) (session_at new w (world fm cm om)) (Ok tt) → om.refusals ≡ ob.refusals → new.refused ≡ false → HasClosed view source_view (session_at old v (world fb cb ob)) (session_at new w (world fm cm om)) how.Done
  closed-done g r t = record {
    supply = g.supply;
    supplied = g.supplied;
    closing = record { running = record { fitting = λ e. absurd (cc); opened = λ at e. absurd (cc) }; input = λ e. absurd (cc); too_much = λ e. absurd (cc) };
    closed = λ s rest f m. (let x = g.runs s rest f m in ((sym x.0.0 ∙ t, (r, x.0.1), x.0.2, x.0.3), x.1));
  }

-- ---- turns in which nothing failed

-- none
pub steady-none : (o : Outside) (v : KnownDisk) → IsSteady o o v v
steady-none o v = record { input = refl; found = refl; files = refl; clock = refl; output = refl; refused = refl; known = refl; disk = refl }

-- some, and then others
pub steady-then : (b m a : Outside) (v u w : KnownDisk) → IsSteady b m v u → IsSteady m a u w → IsSteady b a v w
steady-then b m a v u w x y = record {
  input = y.input ∙ x.input;
  found = y.found ∙ x.found;
  files = y.files ∙ x.files;
  clock = y.clock ∙ x.clock;
  output = y.output ∙ x.output;
  refused = y.refused ∙ x.refused;
  known = y.known ∙ x.known;
  disk = y.disk ∙ x.disk;
}

-- ---- the ends of a turn

module _ {R S : Type 0} (view : R → Tree) (source_view : S → Tree) where
  -- the input failed
  pub ran-input : (x : Interpreter R S) (count : ℕ) (ib ia : KnownInput) (f : KnownFiles) (k : KnownClock) (ob oa : KnownOutput) (v : KnownDisk) → count ≤ INPUT_MAX → Keeps ib.left ia.left → ia.given ≡ ib.given → WritesLast ob oa [] input_line
      → RanFrom view source_view x count (call_at v (parts ib f k ob)) (call_at v (parts ia f k oa)) how.Input
  ran-input x count ib ia f k ob oa v le kept given w = record {
    taken = [];
    took = Consumes-kept ib.left ib.left ia.left [] (Consumes-nil ib.left) kept;
    counted = omega (arith, given);
    too_much = (λ e. absurd (cc), λ l. absurd (omega (arith, le, l)));
    supply = no_supply;
    supplied = supplied-none f k;
    running = record { fitting = λ e. absurd (cc); opened = λ at e. absurd (cc) };
    ended = tt;
    did = λ s rest z m. (did-input (left_on v) s x.refused count (parts ib f k ob) (parts ia f k oa) w (spent-none f k) (left-here view source_view v x s z), along-still s [] v);
  }

  -- the input has ended
  pub ran-closed : (x y : Interpreter R S) (count : ℕ) (b a : Outside) (v w : KnownDisk) (e : End) → count ≤ INPUT_MAX → Consumes b.input.left a.input.left [] → a.input.given ≡ b.input.given + 0 → IsAtEnd a.input.left → HasClosed view source_view (session_at x v (world_of b)) (session_at y w (world_of a)) e
      → RanFrom view source_view x count (call_at v b) (call_at w a) e
  ran-closed x y count b a v w e le took given end c = record {
    taken = [];
    took = took;
    counted = omega (arith, given);
    too_much = (λ h. absurd (c.closing.too_much h), λ l. absurd (omega (arith, le, l)));
    supply = c.supply;
    supplied = c.supplied;
    running = c.closing.running;
    ended = on-ok (result_of e) end;
    did = λ s rest z m. (let d = c.closed s rest z m in (did-closed s x.refused count b a w end e d.0, along-closed s v w d.1));
  }

  -- too much has come
  pub ran-too-long : (x : Interpreter R S) (count : ℕ) (bytes : List ℕ) (ib ia : KnownInput) (f : KnownFiles) (k : KnownClock) (ob oa : KnownOutput) (v : KnownDisk) → count ≤ INPUT_MAX → Consumes ib.left ia.left bytes → ia.given ≡ ib.given + length bytes → INPUT_MAX < count + length bytes → length bytes ≤ PIECE_MAX
      → WritesLast ob oa [] too_long_line → RanFrom view source_view x count (call_at v (parts ib f k ob)) (call_at v (parts ia f k oa)) how.TooLong
  ran-too-long x count bytes ib ia f k ob oa v le took given past piece w = record {
    taken = bytes;
    took = took;
    counted = given;
    too_much = (λ e. past, λ l. refl);
    supply = no_supply;
    supplied = supplied-none f k;
    running = record { fitting = λ e. absurd (cc); opened = λ at e. absurd (cc) };
    ended = tt;
    did = λ s rest z m. (did-too-long (left_on v) s x.refused count bytes (parts ib f k ob) (parts ia f k oa) le piece w (spent-none f k) (left-here view source_view v x s z), along-still s bytes v);
  }

  -- the session was stopped
  pub ran-stopped : (old new : Interpreter R S) (count : ℕ) (bytes : List ℕ) (ib ia : KnownInput) (fb fm : KnownFiles) (cb cm : KnownClock) (ob om oa : KnownOutput) (v w : KnownDisk) (stop : Stop) → IsOpenedStop stop
      → count + length bytes ≤ INPUT_MAX → Consumes ib.left ia.left bytes → ia.given ≡ ib.given + length bytes
      → WasFed view source_view bytes (session_at old v (world fb cb ob)) (session_at new w (world fm cm om)) (Err stop) → StopRefusesWrite ob om stop → TellsStop om oa stop
      → RanFrom view source_view old count (call_at v (parts ib fb cb ob)) (call_at w (parts ia fm cm oa)) (end_of_stop stop)
  ran-stopped old new count bytes ib ia fb fm cb cm ob om oa v w stop n le took given g r t =
      let ends = closing-stopped stop n in
      record {
        taken = bytes;
        took = took;
        counted = given;
        too_much = (λ h. absurd (ends.too_much h), λ l. absurd (omega (arith, le, l)));
        supply = g.supply;
        supplied = g.supplied;
        running = ends.running;
        ended = stop-ended stop (IsAtEnd ia.left);
        did = λ s rest z m. (let x = g.fed s rest z m in (did-stopped view source_view s old.refused rest old new count bytes ib ia fb fm cb cm ob om oa v w stop x.0 r t, x.1));
      }

  -- ---- turns

  -- no turn yet
  pub piece-none : (k : Interpreter R S) (o : Outside) (v : KnownDisk) → TookPiece view source_view k k 0 0 (call_at v o) (call_at v o)
  piece-none k o v = record {
    bytes = [];
    took = Consumes-nil o.input.left;
    counted = omega arith;
    sum = omega arith;
    supply = no_supply;
    supplied = supplied-none o.files o.clock;
    played = λ s rest z m. (goes-none view source_view s rest k (world_of o) v z m, along-still s [] v);
  }

  -- one turn more
  pub piece-more : (old mid new : Interpreter R S) (count now later : ℕ) (b m a : Outside) (v u w : KnownDisk) → u.known ≡ v.known → IsSteady b m v u → TookPiece view source_view old mid count now (call_at v b) (call_at u m) → TookPiece view source_view mid new now later (call_at u m) (call_at w a)
      → TookPiece view source_view old new count later (call_at v b) (call_at w a)
  piece-more old mid new count now later b m a v u w same steady x y = record {
    bytes = x.bytes ++ y.bytes;
    took = Consumes-trans b.input.left m.input.left a.input.left x.bytes y.bytes x.took y.took;
    counted = omega (arith, x.counted, y.counted, length-append x.bytes y.bytes);
    sum = omega (arith, x.sum, y.sum, length-append x.bytes y.bytes);
    supply = followed_by x.supply y.supply;
    supplied = supplied-then b.files m.files b.clock m.clock a.clock x.supply y.supply steady.found x.supplied y.supplied;
    played = λ s rest z e.
        (let g = x.played s (followed_by y.supply rest) z (e ∙ followed-assoc x.supply y.supply rest) in
        let next = after_play s x.bytes in
        let k = y.played next rest g.0.0 g.0.4 in (
          goes-then view source_view s x.bytes y.bytes (followed_by y.supply rest) rest old mid new (world_of b) (world_of m) (world_of a) v u w g.0 k.0,
          along-then s x.bytes y.bytes v u w (λ known. subst IsTrue (sym same) known) g.1 k.1,
        ));
  }

  -- turns, and then a run
  pub piece-ran : (old mid : Interpreter R S) (now : ℕ) (b m a : Outside) (v u w : KnownDisk) (e : End) → u.known ≡ v.known → IsSteady b m v u → TookPiece view source_view old mid 0 now (call_at v b) (call_at u m) → RanFrom view source_view mid now (call_at u m) (call_at w a) e
      → RanFrom view source_view old 0 (call_at v b) (call_at w a) e
  piece-ran old mid now b m a v u w e same steady x y = record {
    taken = x.bytes ++ y.taken;
    took = Consumes-trans b.input.left m.input.left a.input.left x.bytes y.taken x.took y.took;
    counted = omega (arith, x.counted, y.counted, length-append x.bytes y.taken);
    too_much = (λ h. omega (arith, y.too_much.0 h, x.sum, length-append x.bytes y.taken), λ l. y.too_much.1 (omega (arith, l, x.sum, length-append x.bytes y.taken)));
    supply = followed_by x.supply y.supply;
    supplied = supplied-then b.files m.files b.clock m.clock a.clock x.supply y.supply steady.found x.supplied y.supplied;
    running = y.running;
    ended = y.ended;
    did = λ s rest z i.
        (let g = x.played s (followed_by y.supply rest) z (i ∙ followed-assoc x.supply y.supply rest) in
        let d = y.did (after_play s x.bytes) rest g.0.0 g.0.4 in
        let P : Bool → Type 0 = λ f. Did (work_from (after_play s x.bytes) f) (left_on w) now y.taken m a e in
        let Q : ℕ → Type 0 = λ n. Did (work_from (after_play s x.bytes) (old.refused || (plays s x.bytes).refused)) (left_on w) n y.taken m a e in (
          did-then s old.refused 0 x.bytes y.taken b m a (left_on w) (steady.refused, g.0.2) g.0.3 e (subst Q x.sum (subst P g.0.1 d.0)),
          along-then s x.bytes y.taken v u w (λ known. subst IsTrue (sym same) known) g.1 d.1,
        ));
  }

-- an account where the count stayed before
account-after : {p q r : ℕ} (Blames : End → Type 0) (result : Result ⊤ End) → q ≡ p → Accounts Blames q r result → Accounts Blames p r result
account-after {p} {q} {r} Blames result same a = subst (λ n. Accounts Blames n r result) same a

-- a run after turns in which nothing failed has its causes
pub causes-after : (b m a : Outside) (v u : KnownDisk) (e : End) → IsSteady b m v u → HasCauses m a e → HasCauses b a e
causes-after b m a v u e x c = record {
  input = account-after (λ z. z ≡ how.Input) (result_of e) x.input c.input;
  world = record {
    same = c.world.same ∙ x.found;
    files = account-after (λ z. z ≡ how.File) (result_of e) x.files c.world.files;
    clock = account-after (λ z. z ≡ how.Clock) (result_of e) x.clock c.world.clock;
    output = account-after (λ z. z ≡ how.Output) (result_of e) x.output c.world.output;
  };
}

-- also in the disk
pub disk-after : (b m : Outside) (v u w : KnownDisk) (e : End) → IsSteady b m v u → DiskCauses u w e → DiskCauses v w e
disk-after b m v u w e x c = record { same = c.same ∙ x.known; account = account-after (λ z. z ≡ how.Disk) (result_of e) x.disk c.account }
