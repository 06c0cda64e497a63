-- The images that a crash of a disk in memory leaves.
use Rattle.std.proofs.Common.{◌≡◌, ◌≤◌, ◌<◌, ◌+◌, ◌-◌, inl, inr, ⊎_elim, ℕ, min, List, [], ◌∷◌, ◌++◌, length, take, drop, get_or, None, Some, refl, sym, ◌∙◌, ap, subst, arith, length-take}
use Rattle.std.specs.List.{fold}
use Rattle.std.proofs.Math.ListN.{replicate}
use Rattle.std.proofs.lemmas.Bool.{cases_lt}
use Rattle.std.proofs.lemmas.List.{get_or_append_left, get_or-append_right, get_or-take, get_or-replicate, length-replicate}
use Rattle.std.proofs.lemmas.List.Sums.{fold-append}
use Rattle.cp_disk.specs.Crashes.{IsFilled, LeavesImage}
use Rattle.cp_disk.specs.Edits.{HasNoSync, bytes_after, bytes_after_all}
use Rattle.cp_disk.specs.ImageLaws.{length-with_bytes, before-with_bytes, after-with_bytes, image-content}
use Rattle.cp_disk.specs.Images.{FileState, DiskCall, writes, cuts, syncs, synced_file, written_file, shortened_file, after_call, file_after, Image}
use Rattle.cp_disk.specs.MemoryDisks.{IsQuiet}
use Rattle.cp_disk.specs.Writes.{with_bytes}
use Rattle.cp_disk.specs.declared.replay.Crash.{Crash}
use Rattle.cp_disk.specs.declared.replay.Crash.TheVariants.{Old, New, Fill}
use Rattle.cp_disk.proofs.Kept.{file-quiet}

-- the bytes of a file after calls are those of its state
content-fold : (s : FileState) (calls : List DiskCall) → (fold after_call s calls).content ≡ fold (bytes_after None) s.content calls
unfolding after_call
content-fold s [] = refl
content-fold s (writes at bytes ∷ calls) = content-fold (written_file s (min at (length s.content)) bytes) calls
content-fold s (cuts size ∷ calls) = content-fold (shortened_file s size) calls
content-fold s (syncs ∷ calls) = content-fold (synced_file s.content) calls

-- the base stays until a sync
base-fold : (s : FileState) (calls : List DiskCall) → HasNoSync calls → (fold after_call s calls).base ≡ s.base
unfolding after_call
base-fold s [] none = refl
base-fold s (writes at bytes ∷ calls) none = base-fold (written_file s (min at (length s.content)) bytes) calls none
base-fold s (cuts size ∷ calls) none = base-fold (shortened_file s size) calls none
base-fold s (syncs ∷ calls) none = absurd none

-- the bytes of a write stand where they were written
inside-with_bytes : (old : List ℕ) (at : ℕ) (bytes : List ℕ) (i : ℕ) → at ≤ length old → at ≤ i → i < at + length bytes → get_or (with_bytes old at bytes) i 0 ≡ get_or bytes (i - at) 0
inside-with_bytes old at bytes i le above below =
    let rest = drop (at + length bytes) old in
    let is_at : length (take at old) ≡ at = omega (arith, length-take at old) in
    get_or-append_right (take at old) (bytes ++ rest) at i 0 is_at above ∙ get_or_append_left bytes rest 0 (i - at) (omega arith)

module _ (byte : ℕ) where
  -- right after a sync nothing is pending
  filled_synced : (bytes : List ℕ) → IsFilled byte (synced_file bytes) bytes
  filled_synced bytes = record {
    size = refl;
    pending = λ i lt. ⊎_elim (λ none. absurd none) (λ le. absurd (omega (arith, lt, le)));
    others = λ i lt out. refl;
  }

  filled_write : (s : FileState) (c : List ℕ) (at : ℕ) (bytes : List ℕ) → at ≤ length s.content → IsFilled byte s c → IsFilled byte (written_file s at bytes) (with_bytes c at (replicate (length bytes) byte))
  filled_write s c at bytes le filled =
      let n = length bytes in
      let new = replicate n byte in
      let size = filled.size in
      let len : length new ≡ n = length-replicate n byte in
      let le_c : at ≤ length c = omega (arith, size, le) in
      let long = length-with_bytes c at new le_c in
      record {
        size = omega (arith, long, length-with_bytes s.content at bytes le, len, size);
        pending = λ i lt how. elim (cases_lt i at) [
          | inl below ↦
              before-with_bytes c at new i le_c below
              ∙ filled.pending i (omega (arith, le_c, below)) (⊎_elim (⊎_elim (λ w. absurd (omega (arith, w.0))) (λ w. inl w)) (λ w. inr w) how)
          | inr above ↦ elim (cases_lt i (at + n)) [
            | inl within ↦ inside-with_bytes c at new i le_c above (omega (arith, within, len)) ∙ get_or-replicate n (i - at) byte 0 (omega arith)
            | inr behind ↦
                after-with_bytes c at new i le_c (omega (arith, behind, len))
                ∙ filled.pending i (omega (arith, lt, long, len, behind)) (⊎_elim (⊎_elim (λ w. absurd (omega (arith, w.1))) (λ w. inl w)) (λ w. inr w) how)
          ]
        ];
        others = λ i lt out. elim (cases_lt i at) [
          | inl below ↦
              before-with_bytes c at new i le_c below
              ∙ filled.others i (omega (arith, le_c, below)) (λ w. out (⊎_elim (λ u. inl (inr u)) (λ u. inr u) w))
              ∙ sym (before-with_bytes s.content at bytes i le below)
          | inr above ↦ elim (cases_lt i (at + n)) [
            | inl within ↦ absurd (out (inl (inl (above, within))))
            | inr behind ↦
                after-with_bytes c at new i le_c (omega (arith, behind, len))
                ∙ filled.others i (omega (arith, lt, long, len, behind)) (λ w. out (⊎_elim (λ u. inl (inr u)) (λ u. inr u) w))
                ∙ sym (after-with_bytes s.content at bytes i le behind)
          ]
        ];
      }

  filled_cut : (s : FileState) (c : List ℕ) (size : ℕ) → IsFilled byte s c → IsFilled byte (shortened_file s size) (take size c)
  filled_cut s c size filled =
      let len = length-take size c in
      record {
        size = omega (arith, len, length-take size s.content, filled.size);
        pending = λ i lt how.
            get_or-take size c i 0 (omega (arith, lt, len))
            ∙ filled.pending i (omega (arith, lt, len)) (⊎_elim (λ w. inl w) (λ le. inr (omega (arith, le, lt, len))) how);
        others = λ i lt out.
            get_or-take size c i 0 (omega (arith, lt, len))
            ∙ filled.others i (omega (arith, lt, len)) (λ w. out (⊎_elim (λ u. inl u) (λ le. inr (omega (arith, le))) w))
            ∙ sym (get_or-take size s.content i 0 (omega (arith, lt, len)));
      }

  -- the writes since a sync, with the byte in place of theirs, fill what is pending
  filled-fold : (s : FileState) (c : List ℕ) (calls : List DiskCall) → HasNoSync calls → IsFilled byte s c → IsFilled byte (fold after_call s calls) (fold (bytes_after (Some byte)) c calls)
  unfolding after_call
  filled-fold s c [] none filled = filled
  filled-fold s c (writes at bytes ∷ calls) none filled =
      let here : min at (length s.content) ≡ min at (length c) = omega (arith, filled.size) in
      let next = filled_write s c (min at (length s.content)) bytes (omega arith) filled in
      filled-fold (written_file s (min at (length s.content)) bytes) (with_bytes c (min at (length c)) (replicate (length bytes) byte)) calls none
      (subst (λ (k : ℕ). IsFilled byte (written_file s (min at (length s.content)) bytes) (with_bytes c k (replicate (length bytes) byte))) here next)
  filled-fold s c (cuts size ∷ calls) none filled = filled-fold (shortened_file s size) (take size c) calls none (filled_cut s c size filled)
  filled-fold s c (syncs ∷ calls) none filled = absurd none

module _ (first : List ℕ) (calls before after : List DiskCall) (is : calls ≡ before ++ after) (quiet : IsQuiet before) (none : HasNoSync after) where
  -- the state goes on from the last sync
  from_sync : file_after first calls ≡ fold after_call (synced_file (file_after first before).content) after
  unfolding file_after
  from_sync =
      ap (file_after first) is
      ∙ fold-append after_call (synced_file first) before after
      ∙ ap (λ (s : FileState). fold after_call s after) (file-quiet first before quiet)

  synced_content : (file_after first calls).base ≡ (file_after first before).content
  synced_content =
      ap (λ (s : FileState). s.base) from_sync ∙ base-fold (synced_file (file_after first before).content) after none

  -- the edits up to the last sync give the base
  pub base_is : (file : List ℕ) → file ≡ bytes_after_all None first before → file ≡ (file_after first calls).base
  unfolding file_after bytes_after_all
  base_is file made = made ∙ sym (synced_content ∙ content-fold (synced_file first) before)

  -- and from there on the writes with the byte in place of theirs fill what is pending
  pub filled_is : (byte : ℕ) (old file : List ℕ) → old ≡ (file_after first calls).base → file ≡ bytes_after_all (Some byte) old after → IsFilled byte (file_after first calls) file
  unfolding bytes_after_all
  filled_is byte old file base made =
      let start = filled-fold byte (synced_file (file_after first before).content) (file_after first before).content after none (filled_synced byte (file_after first before).content) in
      let whole : file ≡ fold (bytes_after (Some byte)) (file_after first before).content after =
      made ∙ ap (λ (l : List ℕ). fold (bytes_after (Some byte)) l after) (base ∙ synced_content) in
      subst (λ (l : List ℕ). IsFilled byte (file_after first calls) l) (sym whole)
      (subst (λ (s : FileState). IsFilled byte s (fold (bytes_after (Some byte)) (file_after first before).content after)) (sym from_sync) start)

-- the base has a size between the least and the greatest
record IsBounded (s : FileState) : Type 0 where
  least : s.least ≤ length s.base
  greatest : length s.base ≤ s.greatest

bounded-fold : (s : FileState) (calls : List DiskCall) → IsBounded s → IsBounded (fold after_call s calls)
unfolding after_call
bounded-fold s [] b = b
bounded-fold s (writes at bytes ∷ calls) b =
    bounded-fold (written_file s (min at (length s.content)) bytes) calls (record { least = b.least; greatest = omega (arith, b.greatest) })
bounded-fold s (cuts size ∷ calls) b =
    bounded-fold (shortened_file s size) calls (record { least = omega (arith, b.least); greatest = b.greatest })
bounded-fold s (syncs ∷ calls) b =
    bounded-fold (synced_file s.content) calls (record { least = omega arith; greatest = omega arith })

bounded : (first : List ℕ) (calls : List DiskCall) → IsBounded (file_after first calls)
unfolding file_after
bounded first calls = bounded-fold (synced_file first) calls (record { least = omega arith; greatest = omega arith })

module _ (first : List ℕ) (calls : List DiskCall) where
  -- what a crash leaves is an image
  pub left_image : (how : Crash) (c : List ℕ) → LeavesImage how (file_after first calls) c → Image (file_after first calls) c
  left_image Old c is =
      let b = bounded first calls in
      subst (Image (file_after first calls)) (sym is) (record { no_shorter = b.least; no_longer = b.greatest; same = λ i in_c in_l out. refl })
  left_image New c is = subst (Image (file_after first calls)) (sym is) (image-content first calls)
  left_image (Fill byte) c filled =
      let im = image-content first calls in
      let size = filled.size in
      record {
        no_shorter = omega (arith, size, im.no_shorter);
        no_longer = omega (arith, size, im.no_longer);
        same = λ i in_c in_l out.
            filled.others i in_c (⊎_elim out (λ le. absurd (omega (arith, le, in_l)))) ∙ im.same i (omega (arith, size, in_c)) in_l out;
      }
