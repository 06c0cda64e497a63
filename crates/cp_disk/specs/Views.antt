-- What contracts see of a disk: its content, and the files that a crash may leave, now and since an earlier moment.
use Rattle.std.specs.Prelude.{ℕ, ◌≡◌, ◌≤◌, ◌⊎◌, Bool, IsTrue, List, length}

-- How often a disk has failed, how often it was read, and how often it ran out of memory.
pub record Counts : Type 0 where
  pub faults : ℕ
  pub reads : ℕ
  pub wants : ℕ

-- What a disk holds.
pub record View : Type 1 where
  -- The bytes that reads give.
  pub content : List ℕ
  -- The files that a crash may leave now.
  pub images : List ℕ → Type 0
  -- The files that a crash may have left at some moment since that one.
  pub since : ℕ → List ℕ → Type 0
  -- What the disk's own clock shows, which goes on with its calls.
  pub moment : ℕ

-- What is known of a disk at one moment: its counts, whether it is known what it holds, and then what that is.
pub record KnownDisk : Type 1 where
  pub known : Bool
  pub view : View
  pub counts : Counts

-- The file has one of two properties.
abbrev pub Either : (List ℕ → Type 0) → (List ℕ → Type 0) → List ℕ → Type 0
Either Property Other c = Property c ⊎ Other c

-- This content is the one file that a crash may leave.
abbrev pub Only : List ℕ → (List ℕ → Type 0) → Type 0
Only content images = (c : List ℕ) → images c → c ≡ content

-- The content is this, and a crash leaves nothing else.
pub record IsDurable (bytes : List ℕ) (v : View) : Type 0 where
  pub content : v.content ≡ bytes
  pub only : Only bytes v.images

-- Nothing is forgotten: what a crash since an earlier moment may have left, it may have left still.
abbrev pub Remembers : View → View → Type 0
Remembers v w = (t : ℕ) (c : List ℕ) → t ≤ v.moment → v.since t c → w.since t c

-- The content is the same, and a crash leaves nothing that it couldn't leave before.
pub record ViewRests (v w : View) : Type 0 where
  pub content : w.content ≡ v.content
  pub images : (c : List ℕ) → w.images c → v.images c
  pub later : v.moment ≤ w.moment
  pub since : (t : ℕ) (c : List ℕ) → t ≤ v.moment → w.since t c → v.since t c
  pub keeps : Remembers v w

-- This file is an image of v after this step.
abbrev pub IsAfter : (List ℕ → List ℕ → Type 0) → View → List ℕ → Type 0
IsAfter Step v c = (d : List ℕ) × v.images d × Step d c

-- From v to w, each file that a crash leaves is an image of v after this step.
pub record ViewSteps (Step : List ℕ → List ℕ → Type 0) (v w : View) : Type 0 where
  pub later : v.moment ≤ w.moment
  pub since : (t : ℕ) (c : List ℕ) → t ≤ v.moment → w.since t c → v.since t c ⊎ IsAfter Step v c
  pub now : (c : List ℕ) → w.images c → IsAfter Step v c

-- From v to w, each file that a crash may have left is one that it could leave at v, or has this property.
abbrev pub ViewLeaves : (List ℕ → Type 0) → View → View → Type 0
ViewLeaves Property v w = (t : ℕ) (c : List ℕ) → t ≤ v.moment → w.since t c → v.since t c ⊎ Property c

-- From v to w, each file that a crash leaves has this property.
pub record ViewKeeps (Property : List ℕ → Type 0) (v w : View) : Type 0 where
  pub later : v.moment ≤ w.moment
  pub since : ViewLeaves Property v w
  pub now : (c : List ℕ) → w.images c → Property c

-- ---- of disks of which it may not be known what they hold

-- This is so of what the disk holds, where that is known.
abbrev pub IfKnown : KnownDisk → (View → Type 0) → Type 0
IfKnown d Holds = IsTrue d.known → Holds d.view

-- The content reaches to this offset.
abbrev pub ReachesTo : ℕ → KnownDisk → Type 0
ReachesTo at d = IfKnown d (λ v. at ≤ length v.content)

-- A crash leaves the content and nothing else.
abbrev pub IsSettled : KnownDisk → Type 0
IsSettled d = IfKnown d (λ v. Only v.content v.images)

-- From d to e the content stays, and a crash leaves nothing that it couldn't leave before.
abbrev pub Rests : KnownDisk → KnownDisk → Type 0
Rests d e = IfKnown d (λ v. ViewRests v e.view)

-- From d to e each file that a crash leaves is an image of d after this step.
abbrev pub Steps : (List ℕ → List ℕ → Type 0) → KnownDisk → KnownDisk → Type 0
Steps Step d e = IfKnown d (λ v. ViewSteps Step v e.view)

-- From d to e time has gone on, and each file that a crash may have left is one that it could leave at d, or has this property.
abbrev pub Leaves : (List ℕ → Type 0) → KnownDisk → KnownDisk → Type 0
Leaves Property d e = IfKnown d (λ v. (v.moment ≤ e.view.moment) × ViewLeaves Property v e.view)

-- From d to e each file that a crash leaves has this property.
abbrev pub Keeps : (List ℕ → Type 0) → KnownDisk → KnownDisk → Type 0
Keeps Property d e = IfKnown d (λ v. ViewKeeps Property v e.view)
