-- The laws that a disk in memory gives as proofs: its content is an image, and this moment is one like the others.
use Rattle.std.specs.Prelude.{ℕ, ◌+◌, ◌-◌, ◌≡◌, ◌≤◌, ◌<◌, min, max, List, [], ◌∷◌, ◌++◌, length, take, drop, get_or, refl}
use Rattle.std.specs.List.{fold}
use Rattle.std.proofs.Common.{sym, ◌∙◌, ap, subst, arith, inl, inr, length-append, length-take, length-drop}
use Rattle.std.proofs.lemmas.Bool.{cases_lt}
use Rattle.std.proofs.lemmas.List.{take_all, get_or_append_left, get_or-append_right, get_or-take, get_or-drop}
use Rattle.cp_disk.specs.Images.{FileState, DiskCall, writes, cuts, syncs, synced_file, written_file, shortened_file, after_call, file_after, Image, ImageSince}
use Rattle.cp_disk.specs.Writes.{with_bytes}

-- What is durable is an image.
image-synced : (bytes : List ℕ) → Image (synced_file bytes) bytes
image-synced bytes = record { no_shorter = omega arith; no_longer = omega arith; same = λ i in_c in_l out. refl }

-- A write makes a file longer where it goes past its end.
pub length-with_bytes : (old : List ℕ) (at : ℕ) (bytes : List ℕ) → at ≤ length old → length (with_bytes old at bytes) ≡ max (length old) (at + length bytes)
length-with_bytes old at bytes le =
    let rest = drop (at + length bytes) old in
    omega (arith, length-append (take at old) (bytes ++ rest), length-append bytes rest, length-take at old, length-drop (at + length bytes) old)

-- The bytes before a write stay.
pub before-with_bytes : (old : List ℕ) (at : ℕ) (bytes : List ℕ) (i : ℕ) → at ≤ length old → i < at → get_or (with_bytes old at bytes) i 0 ≡ get_or old i 0
before-with_bytes old at bytes i le below =
    get_or_append_left (take at old) (bytes ++ drop (at + length bytes) old) 0 i (omega (arith, length-take at old)) ∙ get_or-take at old i 0 below

-- The bytes after a write stay.
pub after-with_bytes : (old : List ℕ) (at : ℕ) (bytes : List ℕ) (i : ℕ) → at ≤ length old → at + length bytes ≤ i → get_or (with_bytes old at bytes) i 0 ≡ get_or old i 0
after-with_bytes old at bytes i le above =
    let n = length bytes in
    let rest = drop (at + n) old in
    let is_at : length (take at old) ≡ at = omega (arith, length-take at old) in
    get_or-append_right (take at old) (bytes ++ rest) at i 0 is_at (omega arith)
    ∙ get_or-append_right bytes rest n (i - at) 0 refl (omega arith)
    ∙ get_or-drop (at + n) old (i - at - n) 0
    ∙ ap (λ (k : ℕ). get_or old k 0) (let e : at + n + (i - at - n) ≡ i = omega arith in e)

-- Where the content is an image, it still is after a write.
image-written : (s : FileState) (at : ℕ) (bytes : List ℕ) → Image s s.content → at ≤ length s.content → Image (written_file s at bytes) (with_bytes s.content at bytes)
image-written s at bytes im le =
    let len = length-with_bytes s.content at bytes le in
    record {
      no_shorter = omega (arith, im.no_shorter, len);
      no_longer = omega (arith, im.no_longer, len);
      same = λ i in_c in_l out. elim (cases_lt i at) [
        | inl below ↦ before-with_bytes s.content at bytes i le below ∙ im.same i (omega arith) in_l (λ w. out (inr w))
        | inr above ↦ elim (cases_lt i (at + length bytes)) [
          | inl within ↦ absurd (out (inl (above, within)))
          | inr behind ↦ after-with_bytes s.content at bytes i le behind ∙ im.same i (omega (arith, len)) in_l (λ w. out (inr w))
        ]
      ];
    }

-- And after a cut.
image-shortened : (s : FileState) (size : ℕ) → Image s s.content → Image (shortened_file s size) (take size s.content)
image-shortened s size im =
    let len = length-take size s.content in
    record {
      no_shorter = omega (arith, im.no_shorter, len);
      no_longer = omega (arith, im.no_longer, len);
      same = λ i in_c in_l out. get_or-take size s.content i 0 (omega (arith, len)) ∙ im.same i (omega (arith, len)) (omega arith) out;
    }

-- And after any call.
image-after_call : (s : FileState) (call : DiskCall) → Image s s.content → Image (after_call s call) (after_call s call).content
unfolding after_call
image-after_call s (writes at bytes) im = image-written s (min at (length s.content)) bytes im (omega arith)
image-after_call s (cuts size) im = image-shortened s size im
image-after_call s syncs im = image-synced s.content

-- And after any number of calls.
image-fold : (s : FileState) (calls : List DiskCall) → Image s s.content → Image (fold after_call s calls) (fold after_call s calls).content
image-fold s [] im = im
image-fold s (call ∷ calls) im = image-fold (after_call s call) calls (image-after_call s call im)

-- The content is an image.
pub image-content : (first : List ℕ) (calls : List DiskCall) → Image (file_after first calls) (file_after first calls).content
unfolding file_after
image-content first calls = image-fold (synced_file first) calls (image-synced first)

-- What a crash may have left since now, it may leave now.
pub image-now : (first : List ℕ) (calls : List DiskCall) (c : List ℕ) → ImageSince first calls (length calls) c → Image (file_after first calls) c
image-now first calls c h =
    subst (λ (l : List DiskCall). Image (file_after first l) c) (take_all h.0 calls h.1) h.3

-- What a crash may leave now, it may have left since any earlier moment.
pub since-now : (first : List ℕ) (calls : List DiskCall) (t : ℕ) (c : List ℕ) → t ≤ length calls → Image (file_after first calls) c → ImageSince first calls t c
since-now first calls t c le now =
    let all : take (length calls) calls ≡ calls = take_all (length calls) calls (omega arith) in
    (length calls, le, omega arith, subst (λ (l : List DiskCall). Image (file_after first l) c) (sym all) now)
