-- One entry more: what the disk holds then, and what a crash leaves.
use Rattle.std.proofs.Common.{◌≡◌, inl, inr, ℕ, ◌≤◌, ◌<◌, Bool, true, List, [], ◌∷◌, ◌++◌, length, refl, subst, arith, length-append}
use Rattle.cp_model.specs.History.{Entry, replay}
use Rattle.cp_disk.specs.Views.{View, Either, ViewKeeps}
use Rattle.cp_disk.proofs.Composing.{keeps_none, keeps_wider}
use Rattle.cp_format.specs.Formats.{Reads}
use Rattle.cp_frame.specs.Entries.{WrittenEntry, entry_format}
use Rattle.cp_journal.specs.Frames.{Frame, entry}
use Rattle.cp_journal.specs.Holding.{Holds, Stands}
use Rattle.cp_journal.specs.Journals.{Describes}
use Rattle.cp_journal.specs.Upgrading.{upgraded, StandsInAVersion}
use Rattle.cp_journal.specs.declared.limits.TheConstants.{VERSION_AT}
use Rattle.cp_journal.proofs.Standing.{holds_images}
use Rattle.cp_frame.specs.Items.{an_entry, IsHeld, IsOfVersion, CanStand, Tell, entry_meant}
use Rattle.cp_frame.specs.Stands.{IsHead, StandsFor, StandsForEither}
use Rattle.cp_frame.proofs.Images.{store-stands, in-a-version, upgraded-head}
use Rattle.cp_frame.proofs.Standing.{tell-added, tell-newer}
use Rattle.cp_db.specs.Databases.{IsKept}
use Rattle.cp_db.specs.declared.database.Db.{Db}

-- ---- nothing is written

module _ {R S : Type 0} (d : Db R S) (h : List Entry) (v : View) (k : IsKept true d h v) where
  -- each file that a crash leaves stands for the history
  pub kept-stands : (c : List ℕ) → v.images c → StandsFor h c
  kept-stands c i = store-stands d.version k.head k.frames h c k.is_head k.some k.tell (holds_images k.head k.frames d.journal.next v k.described.holds c i)

  -- where the disk is as it was, a crash leaves the history before
  pub crash-none : (e : Entry) → ViewKeeps (StandsForEither h (h ++ e ∷ [])) v v
  crash-none e = keeps_none (StandsForEither h (h ++ e ∷ [])) v (λ c i. inl (kept-stands c i))

  pub crash-failed : ViewKeeps (StandsFor h) v v
  crash-failed = keeps_none (StandsFor h) v kept-stands

-- ---- a frame is written

-- the body is that of an entry that means this, and may follow the history in a file of this version
pub record IsNext (version : ℕ) (h : List Entry) (e : Entry) (body : List ℕ) : Type 0 where
  pub written : WrittenEntry
  pub read : Reads entry_format body written []
  pub allowed : IsOfVersion version written
  pub can : CanStand true (replay h) (an_entry written)
  pub means : entry_meant written ≡ e

module _ (version : ℕ) (h : List Entry) (e : Entry) (body : List ℕ) (n : IsNext version h e body) where
  held : IsHeld version (entry body) (an_entry n.written)
  held = record { tag = refl; body = n.read; allowed = n.allowed }

  -- with its frame more, the frames tell the entry too
  pub tell-next : (fs : List Frame) → Tell true version fs h → Tell true version (fs ++ entry body ∷ []) (h ++ e ∷ [])
  tell-next fs t = subst (λ (x : Entry). Tell true version (fs ++ entry body ∷ []) (h ++ x ∷ [])) n.means (tell-added true version fs (entry body) h n.written t held n.can)

  some_more : (fs : List Frame) → 1 ≤ length (fs ++ entry body ∷ [])
  some_more fs = omega (arith, length-append fs (entry body ∷ []))

  module _ {R S : Type 0} (d : Db R S) (v u : View) (is : d.version ≡ version) (k : IsKept true d h v) where
    told : Tell true version k.frames h
    told = subst (λ (i : ℕ). Tell true i k.frames h) is k.tell

    -- the disk holds the file with the frame more
    pub kept-added : (m : Db R S) → m.version ≡ d.version → ((head : List ℕ) (fs : List Frame) → Describes head fs d.journal v → Describes head (fs ++ entry body ∷ []) m.journal u) → IsKept true m (h ++ e ∷ []) u
    kept-added m same described = record {
      head = k.head;
      is_head = rw same k.is_head;
      frames = k.frames ++ entry body ∷ [];
      some = some_more k.frames;
      described = described k.head k.frames k.described;
      tell = rw (same, is) (tell-next k.frames told);
    }

    either : (c : List ℕ) → Either (Stands k.head k.frames) (Stands k.head (k.frames ++ entry body ∷ [])) c → StandsForEither h (h ++ e ∷ []) c
    either c (inl before) = inl (store-stands d.version k.head k.frames h c k.is_head k.some k.tell before)
    either c (inr after) = inr (store-stands d.version k.head (k.frames ++ entry body ∷ []) (h ++ e ∷ []) c k.is_head (some_more k.frames) (rw is (tell-next k.frames told)) after)

    -- a crash leaves the history before, or that with the entry
    pub crash-added : ((head : List ℕ) (fs : List Frame) → Holds head fs d.journal.next v → ViewKeeps (Either (Stands head fs) (Stands head (fs ++ entry body ∷ []))) v u) → ViewKeeps (StandsForEither h (h ++ e ∷ [])) v u
    crash-added keeps = keeps_wider (Either (Stands k.head k.frames) (Stands k.head (k.frames ++ entry body ∷ []))) (StandsForEither h (h ++ e ∷ [])) v u (keeps k.head k.frames k.described.holds) either

-- ---- the version is written

module _ {R S : Type 0} (right : Bool) (d : Db R S) (h : List Entry) (v u : View) (one : d.version ≡ 1) (k : IsKept right d h v) where
  old_head : IsHead 1 k.head
  old_head = subst (λ (n : ℕ). IsHead n k.head) one k.is_head

  old_tell : Tell right 1 k.frames h
  old_tell = subst (λ (n : ℕ). Tell right n k.frames h) one k.tell

  version_inside : VERSION_AT < length k.head
  version_inside = omega (arith, k.is_head.size)

  -- the disk holds the file with its version
  pub kept-upgraded : (m : Db R S) → m.version ≡ 2 → ((head : List ℕ) (fs : List Frame) → VERSION_AT < length head → Describes head fs d.journal v → Describes (upgraded head) fs m.journal u) → IsKept right m h u
  kept-upgraded m two described = record {
    head = upgraded k.head;
    is_head = rw two (upgraded-head 1 k.head old_head);
    frames = k.frames;
    some = k.some;
    described = described k.head k.frames version_inside k.described;
    tell = rw two (tell-newer right k.frames h old_tell);
  }

  -- a crash leaves the same history
  pub crash-upgraded : right ≡ true → ((head : List ℕ) (fs : List Frame) → VERSION_AT < length head → Holds head fs d.journal.next v → ViewKeeps (StandsInAVersion head fs) v u) → ViewKeeps (StandsFor h) v u
  crash-upgraded asked keeps =
      let told : Tell true 1 k.frames h = subst (λ (b : Bool). Tell b 1 k.frames h) asked old_tell in
      keeps_wider (StandsInAVersion k.head k.frames) (StandsFor h) v u (keeps k.head k.frames version_inside k.described.holds) (λ c s. in-a-version k.head k.frames h c old_head k.some told s)
