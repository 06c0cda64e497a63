-- What calls leave of the version of a file.
use Rattle.std.proofs.Common.{◌≡◌, ◌≤◌, ◌<◌, ◌⊎◌, inl, inr, ⊎_elim, ℕ, List, [], ◌∷◌, ◌++◌, length, take, get_or, refl, sym, ◌∙◌, ap, subst, arith}
use Rattle.std.proofs.lemmas.List.{take-take, get_or-take}
use Rattle.cp_disk.specs.Views.{View, KnownDisk, Only, IsDurable, ViewRests, ViewSteps, ViewKeeps}
use Rattle.cp_disk.proofs.Composing.{rests_then, still}
use Rattle.cp_journal.specs.Frames.{Frame}
use Rattle.cp_journal.specs.Headers.{header_in}
use Rattle.cp_journal.specs.Holding.{Continues, IsBeforeOrAfter, Stands}
use Rattle.cp_journal.specs.NewStores.{IsVacant, IsVacantOrNew, IsOldOrVacantOrNew, SettlesInto, header, new_file}
use Rattle.cp_journal.specs.Upgrading.{upgraded}
use Rattle.cp_journal.specs.declared.limits.TheConstants.{HEADER_SIZE, VERSION_AT}
use Rattle.cp_journal.proofs.Upgrading.{upgraded_gate}
use Rattle.cp_db.specs.FileVersions.{file_version, newest_version, HasVersion, HasVersionOrNewest, HasFileVersion, IsVacantOrNewest, KeepsFileVersion, KeepsVersion, LeavesFiles}
use Rattle.cp_db.proofs.OpeningStores.{version_said}

-- ---- files with a property

module _ (P : List ℕ → Type 0) where
  -- nothing is done
  pub leaves-none : (v : View) → P v.content → LeavesFiles P v v
  leaves-none v here = record { content = here; later = omega arith; since = λ t c le h. inl h; now = λ c i. inl i }

  -- a call leaves no new image
  pub leaves-rested : (v w : View) → P v.content → ViewRests v w → LeavesFiles P v w
  leaves-rested v w here rests = record {
    content = subst P (sym rests.content) here;
    later = rests.later;
    since = λ t c le h. inl (rests.since t c le h);
    now = λ c i. inl (rests.images c i);
  }

  -- more calls follow that leave such files
  pub leaves-then : (u v w : View) → LeavesFiles P u v → LeavesFiles P v w → LeavesFiles P u w
  leaves-then u v w a b = record {
    content = b.content;
    later = omega (arith, a.later, b.later);
    since = λ t c le h. ⊎_elim (λ past. a.since t c le past) (λ now. inr now) (b.since t c (omega (arith, le, a.later)) h);
    now = λ c i. ⊎_elim (λ past. a.now c past) (λ now. inr now) (b.now c i);
  }

  -- one that leaves no new image comes before
  pub leaves-after : (u v w : View) → ViewRests u v → LeavesFiles P v w → LeavesFiles P u w
  leaves-after u v w rests b = record {
    content = b.content;
    later = omega (arith, rests.later, b.later);
    since = λ t c le h. ⊎_elim (λ past. inl (rests.since t c le past)) (λ now. inr now) (b.since t c (omega (arith, le, rests.later)) h);
    now = λ c i. ⊎_elim (λ past. inl (rests.images c past)) (λ now. inr now) (b.now c i);
  }

-- what follows from the property is left too
pub leaves-wider : (P Q : List ℕ → Type 0) (v w : View) → ((c : List ℕ) → P c → Q c) → LeavesFiles P v w → LeavesFiles Q v w
leaves-wider P Q v w wider l = record {
  content = wider w.content l.content;
  later = l.later;
  since = λ t c le h. ⊎_elim (λ past. inl past) (λ now. inr (wider c now)) (l.since t c le h);
  now = λ c i. ⊎_elim (λ past. inl past) (λ now. inr (wider c now)) (l.now c i);
}

-- ---- versions

-- a call that leaves no new image keeps the version
pub version-rested : (v w : View) → ViewRests v w → KeepsFileVersion v w
version-rested v w rests = leaves-rested (HasVersion (file_version v.content)) v w refl rests

pub version-none : (v : View) → KeepsFileVersion v v
version-none v = leaves-none (HasVersion (file_version v.content)) v refl

-- two calls that keep it
pub version-then : (u v w : View) → KeepsFileVersion u v → KeepsFileVersion v w → KeepsFileVersion u w
version-then u v w a b = leaves-then (HasVersion (file_version u.content)) u v w a (subst (λ (n : ℕ). LeavesFiles (HasVersion n) v w) a.content b)

-- the same of disks
pub version-later : (u v w : KnownDisk) → v.known ≡ u.known → KeepsVersion u v → KeepsVersion v w → KeepsVersion u w
version-later u v w same a b = λ known. version-then u.view v.view w.view (a known) (b (still same known))

-- a file of which all is of one version stays so
pub version-held : (n : ℕ) (v w : View) → HasFileVersion n v → KeepsFileVersion v w → HasFileVersion n w
version-held n v w holds keeps = record {
  content = keeps.content ∙ holds.content;
  images = λ c i. ⊎_elim (λ past. holds.images c past) (λ now. now ∙ holds.content) (keeps.now c i);
}

-- where a crash leaves the content alone, all is of its version
pub version-settled : (v : View) → Only v.content v.images → HasFileVersion (file_version v.content) v
version-settled v only = record { content = refl; images = λ c i. ap file_version (only c i) }

-- what was settled and then read is of the version that it had at first
pub version-opened : (u v w x : View) (n : ℕ) → HasVersion n u.content → ViewRests u v → Only v.content v.images → ViewRests v w → ViewRests w x → HasFileVersion n x
version-opened u v w x n is uv only vw wx =
    let here = ap file_version uv.content ∙ is in
    version-held n v x (record { content = here; images = λ c i. ap file_version (only c i) ∙ here }) (version-rested v x (rests_then v w x vw wx))

-- files with the same header are of one version
pub version-same : (n : ℕ) (c d : List ℕ) → HEADER_SIZE ≤ n → take n c ≡ take n d → file_version c ≡ file_version d
version-same n c d le same = ap (λ (l : List ℕ). (header_in l).version) (sym (take-take HEADER_SIZE n c le) ∙ ap (take HEADER_SIZE) same ∙ take-take HEADER_SIZE n d le)

-- ---- one frame more

module _ (at : ℕ) (f : Frame) (v w : View) (le : HEADER_SIZE ≤ at) (keeps : ViewKeeps (IsBeforeOrAfter at v.content f) v w) (here : w.images w.content) where
  continued : (c : List ℕ) → IsBeforeOrAfter at v.content f c → file_version c ≡ file_version v.content
  continued c (inl before) = version-same at c v.content le before.front
  continued c (inr after) = version-same at c v.content le after.front

  -- a frame that comes after the header leaves the version as it is
  pub version-added : KeepsFileVersion v w
  version-added = record {
    content = continued w.content (keeps.now w.content here);
    later = keeps.later;
    since = λ t c before h. ⊎_elim (λ past. inl past) (λ now. inr (continued c now)) (keeps.since t c before h);
    now = λ c i. inr (continued c (keeps.now c i));
  }

-- ---- the version is written

-- each file is of the one version or of the other
one-or-two : (c : List ℕ) → HasVersionOrNewest 1 c
one-or-two c = version_said (take HEADER_SIZE c)

-- and so it is whatever a step has left
pub version-stepped : (Step : List ℕ → List ℕ → Type 0) (v w : View) → ViewSteps Step v w → LeavesFiles (HasVersionOrNewest 1) v w
version-stepped Step v w steps = record {
  content = one-or-two w.content;
  later = steps.later;
  since = λ t c le h. inr (one-or-two c);
  now = λ c i. inr (one-or-two c);
}

-- the file that the newest version was written into is of that
pub version-upgraded : (v w : View) → VERSION_AT < length v.content → IsDurable (upgraded v.content) w → HasFileVersion newest_version w
version-upgraded v w lt durable =
    let gate : get_or (take HEADER_SIZE (upgraded v.content)) VERSION_AT 0 ≡ 1 = get_or-take HEADER_SIZE (upgraded v.content) VERSION_AT 0 (omega arith) ∙ upgraded_gate v.content lt in
    let is : file_version (upgraded v.content) ≡ newest_version = rw gate refl in
    record {
      content = ap file_version durable.content ∙ is;
      images = λ c i. ap file_version (durable.only c i) ∙ is;
    }

-- ---- a new store

-- a file with the header of a new store is of the newest version
version-new : (f : Frame) (c : List ℕ) → Stands header (f ∷ []) c → HasVersion newest_version c
version-new f c stands = ap (λ (l : List ℕ). (header_in l).version) stands.front

vacant-or-newest : (f : Frame) (c : List ℕ) → IsVacantOrNew f c → IsVacantOrNewest c
vacant-or-newest f c (inl vacant) = inl vacant
vacant-or-newest f c (inr new) = inr (version-new f c new)

-- the file of one is of that version
pub version-made : (f : Frame) (w : View) → IsDurable (new_file f) w → HasFileVersion newest_version w
version-made f w durable = record {
  content = ap file_version durable.content;
  images = λ c i. ap file_version (durable.only c i);
}

module _ (f : Frame) (v w : View) (vacant : IsVacant v.content) (crash : ViewKeeps (IsOldOrVacantOrNew v f) v w) (settles : SettlesInto (IsVacantOrNew f) v w)
    (before : (t : ℕ) (c : List ℕ) → t ≤ v.moment → v.images c → v.since t c) (after : (t : ℕ) (c : List ℕ) → t ≤ w.moment → w.images c → w.since t c) (here : w.images w.content) where
  made_content : SettlesInto (IsVacantOrNew f) v w → IsVacantOrNewest w.content
  made_content (inl rests) = inl (subst IsVacant (sym rests.content) vacant)
  made_content (inr settled) = vacant-or-newest f w.content (settled.only w.content (after settled.moment w.content settled.passed here))

  made_old : (t : ℕ) (c : List ℕ) → t ≤ v.moment → v.since t c ⊎ IsOldOrVacantOrNew v f c → v.since t c ⊎ IsVacantOrNewest c
  made_old t c le (inl past) = inl past
  made_old t c le (inr (inl old)) = inl (before t c le old)
  made_old t c le (inr (inr new)) = inr (vacant-or-newest f c new)

  made_now : (c : List ℕ) → IsOldOrVacantOrNew v f c → v.images c ⊎ IsVacantOrNewest c
  made_now c (inl old) = inl old
  made_now c (inr new) = inr (vacant-or-newest f c new)

  -- while a store is made in a vacant file, that is vacant or of the newest version
  pub vacant-made : LeavesFiles IsVacantOrNewest v w
  vacant-made = record {
    content = made_content settles;
    later = crash.later;
    since = λ t c le h. made_old t c le (crash.since t c le h);
    now = λ c i. made_now c (crash.now c i);
  }
