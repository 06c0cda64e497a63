-- What one more call leaves of the images of a file.
use Rattle.std.proofs.Common.{◌≡◌, ◌<◌, ◌≤◌, ◌+◌, ◌⊎◌, inl, inr, ⊎_elim, ℕ, min, max, List, [], ◌∷◌, ◌++◌, length, take, drop, get_or, map, sym, ◌∙◌, subst, arith, length-append, length-take, length-drop, if◌then◌else◌, nat_lt}
use Rattle.std.specs.List.{range_with_len}
use Rattle.std.proofs.lemmas.Bool.{cases_lt}
use Rattle.std.proofs.lemmas.Bool.Decides.{nat_tests}
use Rattle.std.proofs.lemmas.List.{take_all, take-append-le, ext_get_or, get_or-take, get_or-drop}
use Rattle.std.proofs.lemmas.List.Sums.{fold_push}
use Rattle.std.proofs.lemmas.List.FromFn.{length-map-range_with_len, get_or-map-range_with_len}
use Rattle.cp_disk.specs.Images.{FileState, DiskCall, synced_file, written_file, shortened_file, after_call, file_after, Image, ImageSince, view_after}
use Rattle.cp_disk.specs.Views.{Remembers, ViewSteps}
use Rattle.cp_disk.specs.Writes.{Torn, CutShort}

-- the byte of c, or from one offset up to another that of base
abbrev mixed : List ℕ → List ℕ → ℕ → ℕ → ℕ → ℕ
mixed c base from to i = if nat_lt i from then get_or c i 0 else (if nat_lt i to then get_or base i 0 else get_or c i 0)

module _ (c base : List ℕ) (from to n : ℕ) where
  -- c, with the bytes of base from one offset up to another
  abbrev mix : List ℕ
  mix = map (mixed c base from to) (range_with_len 0 n)

  length-mix : length mix ≡ n
  length-mix = length-map-range_with_len (mixed c base from to) 0 n

  mix_at : (i : ℕ) → i < n → get_or mix i 0 ≡ mixed c base from to i
  mix_at i lt = get_or-map-range_with_len (mixed c base from to) 0 n i i 0 lt (omega arith)

  mix_before : (i : ℕ) → i < n → i < from → get_or mix i 0 ≡ get_or c i 0
  mix_before i lt below = let e = mix_at i lt in grind (arith, nat_tests, e)

  mix_inside : (i : ℕ) → i < n → from ≤ i → i < to → get_or mix i 0 ≡ get_or base i 0
  mix_inside i lt above below = let e = mix_at i lt in grind (arith, nat_tests, e)

  mix_after : (i : ℕ) → i < n → from ≤ to → to ≤ i → get_or mix i 0 ≡ get_or c i 0
  mix_after i lt le above = let e = mix_at i lt in grind (arith, nat_tests, e)

-- an image after a write is an image from before it, with a torn write
pub follows_write : (s : FileState) (at : ℕ) (bytes c : List ℕ) → Image s s.content → at ≤ length s.content → Image (written_file s at bytes) c → (d : List ℕ) × Image s d × Torn at (length bytes) d c
follows_write s at bytes c im le im_c =
    let n = length bytes in
    let size = min (length c) s.greatest in
    let d = mix c s.base at (at + n) size in
    let len : length d ≡ size = length-mix c s.base at (at + n) size in
    let image : Image s d = record {
      no_shorter = omega (arith, im.no_shorter, im.no_longer, im_c.no_shorter, len);
      no_longer = omega (arith, len);
      same = λ i in_d in_l out. elim (cases_lt i at) [
        | inl below ↦
            mix_before c s.base at (at + n) size i (omega (arith, len)) below
            ∙ im_c.same i (omega (arith, len)) in_l (⊎_elim (λ w. absurd (omega (arith, w.0))) out)
        | inr above ↦ elim (cases_lt i (at + n)) [
          | inl within ↦ mix_inside c s.base at (at + n) size i (omega (arith, len)) above within
          | inr behind ↦
              mix_after c s.base at (at + n) size i (omega (arith, len)) (omega arith) behind
              ∙ im_c.same i (omega (arith, len)) in_l (⊎_elim (λ w. absurd (omega (arith, w.1))) out)
        ]
      ];
    } in
    let longest = im_c.no_longer in
    let before : take at c ≡ take at d = ext_get_or 0 (take at c) (take at d)
    (omega (arith, length-take at c, length-take at d, len, im.no_longer))
    (λ i lt.
    let in_at : i < at = omega (arith, length-take at c) in
    get_or-take at c i 0 in_at
    ∙ sym (get_or-take at d i 0 in_at ∙ mix_before c s.base at (at + n) size i (omega (arith, length-take at c, im.no_longer)) in_at)) in
    let after : drop (at + n) c ≡ drop (at + n) d = ext_get_or 0 (drop (at + n) c) (drop (at + n) d)
    (omega (arith, length-drop (at + n) c, length-drop (at + n) d, len, longest))
    (λ i lt.
    get_or-drop (at + n) c i 0
    ∙ sym (get_or-drop (at + n) d i 0
    ∙ mix_after c s.base at (at + n) size (at + n + i) (omega (arith, length-drop (at + n) c, longest)) (omega arith) (omega arith))) in
    (d, image, record { before = before; after = after; no_shorter = omega (arith, len); no_longer = omega (arith, len, longest) })

-- an image after a cut is an image from before it, cut short
pub follows_cut : (s : FileState) (size : ℕ) (c : List ℕ) → Image s s.content → Image (shortened_file s size) c → (d : List ℕ) × Image s d × CutShort size d c
follows_cut s size c im im_c =
    let n = max s.least (length c) in
    let d = mix c s.base (min size (length c)) n n in
    let len : length d ≡ n = length-mix c s.base (min size (length c)) n n in
    let image : Image s d = record {
      no_shorter = omega (arith, len);
      no_longer = omega (arith, len, im.no_shorter, im.no_longer, im_c.no_longer);
      same = λ i in_d in_l out. elim (cases_lt i (min size (length c))) [
        | inl below ↦
            mix_before c s.base (min size (length c)) n n i (omega (arith, len)) below
            ∙ im_c.same i (omega arith) (omega arith) out
        | inr above ↦ mix_inside c s.base (min size (length c)) n n i (omega (arith, len)) above (omega (arith, len))
      ];
    } in
    let shortest = im_c.no_shorter in
    let front : take size c ≡ take size d = ext_get_or 0 (take size c) (take size d)
    (omega (arith, length-take size c, length-take size d, len, shortest))
    (λ i lt.
    let in_size : i < size = omega (arith, length-take size c) in
    get_or-take size c i 0 in_size
    ∙ sym (get_or-take size d i 0 in_size
    ∙ mix_before c s.base (min size (length c)) n n i (omega (arith, length-take size c)) (omega (arith, length-take size c)))) in
    (d, image, record { front = front; no_shorter = omega (arith, len, shortest); no_longer = omega (arith, len) })

-- what is durable is the only image
pub only_synced : (bytes c : List ℕ) → Image (synced_file bytes) c → c ≡ bytes
only_synced bytes c im =
    ext_get_or 0 c bytes (omega (arith, im.no_shorter, im.no_longer)) (λ i lt. im.same i lt (omega (arith, im.no_longer)) (λ w. w))

-- one more call
pub file_after-push : (first : List ℕ) (calls : List DiskCall) (call : DiskCall) → file_after first (calls ++ call ∷ []) ≡ after_call (file_after first calls) call
unfolding file_after
file_after-push first calls call = fold_push after_call (synced_file first) calls call

module _ (first : List ℕ) (calls : List DiskCall) (call : DiskCall) where
  -- what a crash may have left since an earlier moment it may have left before this call, or after it
  before_or_after : (t : ℕ) (c : List ℕ) → ImageSince first (calls ++ call ∷ []) t c → ImageSince first calls t c ⊎ Image (file_after first (calls ++ call ∷ [])) c
  before_or_after t c since = elim (cases_lt (length calls) since.0) [
    | inl all ↦
        let whole = take_all since.0 (calls ++ call ∷ []) (omega (arith, length-append calls (call ∷ []))) in
        inr (subst (λ (l : List DiskCall). Image (file_after first l) c) whole since.3)
    | inr some ↦
        inl (since.0, since.1, some, subst (λ (l : List DiskCall). Image (file_after first l) c) (take-append-le since.0 calls (call ∷ []) some) since.3)
  ]

  pub remembers_push : Remembers (view_after first calls) (view_after first (calls ++ call ∷ []))
  remembers_push = λ t c le since. (
    since.0,
    since.1,
    omega (arith, since.2, length-append calls (call ∷ [])),
    subst (λ (l : List DiskCall). Image (file_after first l) c) (sym (take-append-le since.0 calls (call ∷ []) since.2)) since.3,
  )

  pub later_push : length calls ≤ length (calls ++ call ∷ [])
  later_push = omega (arith, length-append calls (call ∷ []))

  pub steps_push : (Step : List ℕ → List ℕ → Type 0) → ((c : List ℕ) → Image (file_after first (calls ++ call ∷ [])) c → (d : List ℕ) × Image (file_after first calls) d × Step d c) → ViewSteps Step (view_after first calls) (view_after first (calls ++ call ∷ []))
  steps_push Step follows = record {
    later = later_push;
    since = λ t c le since. ⊎_elim (λ past. inl past) (λ now. inr (follows c now)) (before_or_after t c since);
    now = follows;
  }

  -- a call that leaves no new image adds none to those since an earlier moment
  pub since_push : ((c : List ℕ) → Image (file_after first (calls ++ call ∷ [])) c → Image (file_after first calls) c) → (t : ℕ) (c : List ℕ) → t ≤ length calls → ImageSince first (calls ++ call ∷ []) t c → ImageSince first calls t c
  since_push no_new t c le since = ⊎_elim
      (λ past. past)
      (λ now. (
        length calls,
        le,
        omega arith,
        subst (λ (l : List DiskCall). Image (file_after first l) c) (sym (take_all (length calls) calls (omega arith))) (no_new c now),
      ))
      (before_or_after t c since)
