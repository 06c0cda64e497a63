-- Checks: those that are judged within so many bytes, checks one after another, and checks of a part that stands further on.
use Rattle.std.proofs.Common.{ℕ, ◌+◌, ◌≤◌, List, [], ◌∷◌, ◌++◌, length, arith}
use Rattle.cp_format.specs.Formats.{Check, Format, AllHold, HoldWithin, moved}

-- where the checks hold that are judged within a spelling, all do
abbrev pub IsJudged : {X : Type 0} → Format X → Type 0
IsJudged {X} F = (x : X) → F.fit x → HoldWithin (length (F.bytes x)) (F.checks x) → AllHold (F.checks x)

-- within fewer bytes fewer checks are judged
pub fewer : (m n : ℕ) (cs : List Check) → m ≤ n → HoldWithin n cs → HoldWithin m cs
fewer m n [] le h = tt
fewer m n (c ∷ cs) le h = ((λ lt. h.0 (omega (arith, lt, le))), fewer m n cs le h.1)

-- where all hold, those do that are judged
pub all_within : (n : ℕ) (cs : List Check) → AllHold cs → HoldWithin n cs
all_within n [] h = tt
all_within n (c ∷ cs) h = ((λ lt. h.0), all_within n cs h.1)

-- nothing is judged before there is a byte
pub none_within : (cs : List Check) → HoldWithin 0 cs
none_within [] = tt
none_within (c ∷ cs) = ((λ lt. absurd (omega (arith, lt))), none_within cs)

-- ---- checks one after another

-- what is judged of checks one after another holds where it holds of both
pub within_both : (n : ℕ) (cs ds : List Check) → HoldWithin n cs → HoldWithin n ds → HoldWithin n (cs ++ ds)
within_both n [] ds h k = k
within_both n (c ∷ cs) ds h k = (h.0, within_both n cs ds h.1 k)

-- what is judged of the first holds
pub within_first : (n : ℕ) (cs ds : List Check) → HoldWithin n (cs ++ ds) → HoldWithin n cs
within_first n [] ds h = tt
within_first n (c ∷ cs) ds h = (h.0, within_first n cs ds h.1)

-- what is judged of the second holds
pub within_second : (n : ℕ) (cs ds : List Check) → HoldWithin n (cs ++ ds) → HoldWithin n ds
within_second n [] ds h = h
within_second n (c ∷ cs) ds h = within_second n cs ds h.1

-- checks one after another hold where both do
pub all_both : (cs ds : List Check) → AllHold cs → AllHold ds → AllHold (cs ++ ds)
all_both [] ds h k = k
all_both (c ∷ cs) ds h k = (h.0, all_both cs ds h.1 k)

-- the first hold
pub all_first : (cs ds : List Check) → AllHold (cs ++ ds) → AllHold cs
all_first [] ds h = tt
all_first (c ∷ cs) ds h = (h.0, all_first cs ds h.1)

-- the second hold
pub all_second : (cs ds : List Check) → AllHold (cs ++ ds) → AllHold ds
all_second [] ds h = h
all_second (c ∷ cs) ds h = all_second cs ds h.1

-- ---- checks of a part that stands further on

-- what is judged within so many bytes of the part is judged within so many more of the whole
pub moved_within : (a n : ℕ) (cs : List Check) → HoldWithin n cs → HoldWithin (a + n) (moved a cs)
moved_within a n [] h = tt
moved_within a n (c ∷ cs) h = ((λ lt. h.0 (omega (arith, lt))), moved_within a n cs h.1)

-- what is judged within so many more bytes of the whole is judged within so many of the part
pub part_within : (a n : ℕ) (cs : List Check) → HoldWithin (a + n) (moved a cs) → HoldWithin n cs
part_within a n [] h = tt
part_within a n (c ∷ cs) h = ((λ lt. h.0 (omega (arith, lt))), part_within a n cs h.1)

-- before the part nothing of it is judged
pub before_moved : (a : ℕ) (cs : List Check) → HoldWithin a (moved a cs)
before_moved a [] = tt
before_moved a (c ∷ cs) = ((λ lt. absurd (omega (arith, lt))), before_moved a cs)

-- checks that hold, hold further on
pub all_moved : (a : ℕ) (cs : List Check) → AllHold cs → AllHold (moved a cs)
all_moved a [] h = tt
all_moved a (c ∷ cs) h = (h.0, all_moved a cs h.1)

-- checks that hold further on, hold
pub part_all : (a : ℕ) (cs : List Check) → AllHold (moved a cs) → AllHold cs
part_all a [] h = tt
part_all a (c ∷ cs) h = (h.0, part_all a cs h.1)
