-- The disk model: what a file is after calls of a disk, and which files a crash may leave of it.
use Rattle.std.specs.Prelude.{ℕ, ◌+◌, ◌≡◌, ◌≤◌, ◌<◌, ◌⊎◌, min, max, List, [], ◌∷◌, length, take, get_or}
use Rattle.std.specs.List.{fold}
use Rattle.cp_disk.specs.Views.{View}
use Rattle.cp_disk.specs.Writes.{with_bytes}

-- A file, and what was done to it since its last sync.
pub record FileState : Type 0 where
  -- The content at the last sync.
  pub base : List ℕ
  -- The content now.
  pub content : List ℕ
  -- The offset and the length of each write since then.
  pub ranges : List (ℕ × ℕ)
  -- The least of the sizes since then.
  pub least : ℕ
  -- The greatest of them.
  pub greatest : ℕ

-- A call that has changed a disk: a write of bytes at an offset, a cut to a size, or a sync.
pub data DiskCall : Type 0 where
  writes : ℕ → List ℕ → DiskCall
  cuts : ℕ → DiskCall
  syncs : DiskCall

-- A file right after a sync.
abbrev pub synced_file : List ℕ → FileState
synced_file bytes = record { base = bytes; content = bytes; ranges = []; least = length bytes; greatest = length bytes }

-- A file after a write.
abbrev pub written_file : FileState → ℕ → List ℕ → FileState
written_file s at bytes = record {
  base = s.base;
  content = with_bytes s.content at bytes;
  ranges = (at, length bytes) ∷ s.ranges;
  least = s.least;
  greatest = max s.greatest (at + length bytes);
}

-- A file after a cut.
abbrev pub shortened_file : FileState → ℕ → FileState
shortened_file s size = record {
  base = s.base;
  content = take size s.content;
  ranges = s.ranges;
  least = min s.least size;
  greatest = s.greatest;
}

-- A file after a call; a write begins at the end at most.
unfoldable pub after_call : FileState → DiskCall → FileState
after_call s (writes at bytes) = written_file s (min at (length s.content)) bytes
after_call s (cuts size) = shortened_file s size
after_call s syncs = synced_file s.content

-- A file that was durable at first, after these calls.
unfoldable pub file_after : List ℕ → List DiskCall → FileState
file_after first calls = fold after_call (synced_file first) calls

-- The byte at this offset lies in one of these ranges.
abbrev pub IsInside : List (ℕ × ℕ) → ℕ → Type 0
IsInside [] i = ⊥
IsInside (r ∷ rs) i = ((r.0 ≤ i) × (i < r.0 + r.1)) ⊎ IsInside rs i

-- A crash may leave any size between the least and the greatest. Bytes before the least stay, but for those that were written.
pub record Image (s : FileState) (c : List ℕ) : Type 0 where
  pub no_shorter : s.least ≤ length c
  pub no_longer : length c ≤ s.greatest
  pub same : (i : ℕ) → i < length c → i < s.least → (IsInside s.ranges i → ⊥) → get_or c i 0 ≡ get_or s.base i 0

-- A crash may have left this after t of the calls, or after more of them.
abbrev pub ImageSince : List ℕ → List DiskCall → ℕ → List ℕ → Type 0
ImageSince first calls t c = (k : ℕ) × (t ≤ k) × (k ≤ length calls) × Image (file_after first (take k calls)) c

-- A disk that began with these bytes, as contracts see it after these calls.
abbrev pub view_after : List ℕ → List DiskCall → View
view_after first calls = record {
  content = (file_after first calls).content;
  images = Image (file_after first calls);
  since = ImageSince first calls;
  moment = length calls;
}
