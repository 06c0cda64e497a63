-- What a write after a closed gate leaves as it was, and how such writes go together.
use Rattle.std.proofs.Common.{◌≡◌, ◌<◌, ◌+◌, inl, inr, ℕ, List, [], take, refl, sym, ◌∙◌, ap, subst, arith, append-nil}
use Rattle.cp_disk.specs.Views.{View, ViewRests, ViewSteps, ViewKeeps}
use Rattle.cp_disk.specs.Writes.{Torn}
use Rattle.cp_disk.proofs.Composing.{keeps_none, keeps_rests, keeps_steps, keeps_then, keeps_wider}
use Rattle.cp_journal.specs.Begun.{IsSameUpTo, ViewKeepsFront}
use Rattle.cp_journal.specs.Frames.{Frame}
use Rattle.cp_journal.specs.Holding.{IsAtRest, Continues, IsBeforeOrAfter, Holds, Stands}
use Rattle.cp_journal.specs.Journals.{JournalState, Describes}
use Rattle.cp_journal.proofs.Adding.{shorter_front, front_inside, front_gate, now_before}
use Rattle.cp_journal.proofs.Standing.{stands_continues, describes}

-- ---- the front of the file stays

-- nothing is done
pub front_none : (at : ℕ) (v : View) → IsAtRest at v → ViewKeepsFront at v v
front_none at v rest = record { crash = keeps_none (IsSameUpTo (at + 1) v.content) v (λ c im. rest.settled c im); content = refl }

-- the gate is still closed, and nothing is pending but after it
pub front_rest : (at : ℕ) (v w : View) → IsAtRest at v → ViewKeepsFront at v w → IsAtRest at w
front_rest at v w rest front = record {
  inside = front_inside at w.content v.content rest.inside front.content;
  closed = λ one. rest.closed (sym (front_gate at w.content v.content front.content) ∙ one);
  settled = λ c im. front.crash.now c im ∙ sym front.content;
}

-- one after the other
pub front_then : (at : ℕ) (v w x : View) → ViewKeepsFront at v w → ViewKeepsFront at w x → ViewKeepsFront at v x
front_then at v w x a b = record {
  crash = keeps_then (IsSameUpTo (at + 1) v.content) (IsSameUpTo (at + 1) w.content) v w x a.crash b.crash (λ c same. same ∙ a.content);
  content = b.content ∙ a.content;
}

-- a call follows that leaves no new image
pub front_rests : (at : ℕ) (v w x : View) → ViewKeepsFront at v w → ViewRests w x → ViewKeepsFront at v x
front_rests at v w x a rests = record { crash = keeps_rests (IsSameUpTo (at + 1) v.content) v w x a.crash rests; content = ap (take (at + 1)) rests.content ∙ a.content }

-- a write after the gate that a crash cuts short
torn_after : (gate at n : ℕ) (v : View) (d c : List ℕ) → gate < at → IsAtRest gate v → v.images d → Torn at n d c → take (gate + 1) c ≡ take (gate + 1) v.content
torn_after gate at n v d c lt rest im torn = shorter_front (gate + 1) at c d (omega arith) torn.before ∙ rest.settled d im

-- a write after the gate; the content is an image
pub front_written : (gate at n : ℕ) (v w : View) → gate < at → IsAtRest gate v → ViewSteps (Torn at n) v w → w.images w.content → ViewKeepsFront gate v w
front_written gate at n v w lt rest steps here =
    let keeps : ViewKeeps (IsSameUpTo (gate + 1) v.content) v w =
    keeps_steps (IsSameUpTo (gate + 1) v.content) (Torn at n) v v w (front_none gate v rest).crash steps (λ d c im torn. torn_after gate at n v d c lt rest im torn) in
    record { crash = keeps; content = keeps.now w.content here }

-- ---- what that says of frames

-- each image still ends with the closed gate
pub front_before : (at : ℕ) (v w : View) → IsAtRest at v → ViewKeepsFront at v w → ViewKeeps (Continues at v.content []) v w
front_before at v w rest front = keeps_wider (IsSameUpTo (at + 1) v.content) (Continues at v.content []) v w front.crash (λ c same. now_before at v rest c same)

-- a file that goes on from one with the same front goes on from the other
pub front_before_or_after : (at : ℕ) (f : Frame) (old new c : List ℕ) → IsSameUpTo (at + 1) old new → IsBeforeOrAfter at new f c → IsBeforeOrAfter at old f c
front_before_or_after at f old new c same (inl before) = inl (record { front = before.front ∙ shorter_front at (at + 1) new old (omega arith) same; inside = before.inside; frames = before.frames })
front_before_or_after at f old new c same (inr after) = inr (record { front = after.front ∙ shorter_front at (at + 1) new old (omega arith) same; inside = after.inside; frames = after.frames })

-- the whole file holds the same frames
pub front_holds : (head : List ℕ) (fs : List Frame) (at : ℕ) (v w : View) → Holds head fs at v → ViewKeepsFront at v w → Holds head fs at w
front_holds head fs at v w holds front = record {
  lawful = holds.lawful;
  size = holds.size;
  front = shorter_front at (at + 1) w.content v.content (omega arith) front.content ∙ holds.front;
  at_rest = front_rest at v w holds.at_rest front;
}

pub front_describes : (head : List ℕ) (fs : List Frame) (j k : JournalState) (v w : View) → Describes head fs j v → ViewKeepsFront j.next v w → k.frames ≡ j.frames → k.next ≡ j.next → Describes head fs k w
front_describes head fs j k v w d front listed next =
    describes head fs k w (subst (λ (n : ℕ). Holds head fs n w) (sym next) (front_holds head fs j.next v w d.holds front)) (listed ∙ d.lists.frames)

-- and so does each image
pub front_stands : (head : List ℕ) (fs : List Frame) (at : ℕ) (v w : View) → Holds head fs at v → ViewKeepsFront at v w → ViewKeeps (Stands head fs) v w
front_stands head fs at v w holds front =
    keeps_wider (Continues at v.content []) (Stands head fs) v w (front_before at v w holds.at_rest front)
    (λ c more. subst (λ (l : List Frame). Stands head l c) (append-nil fs) (stands_continues head fs at v holds [] c more))
