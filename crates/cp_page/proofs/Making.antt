-- Filling a page.
use Rattle.std.proofs.Common.{arith, ◌≡◌, ◌≤◌, ◌<◌, ◌+◌, ◌-◌, ◌*◌, ◌/◌, ◌%◌, ◌∙◌, ap, sym, refl, subst, ℕ, zero, suc, Bool, true, false, List, [], ◌∷◌, ◌++◌, append_assoc, append-nil, take, drop, drop-drop, length, replicate, length-append, Option, None, Some, nat_le}
use Rattle.std.specs.Prelude.{if◌then◌else◌}
use Rattle.std.proofs.lemmas.List.{length-take-le, take_at, drop_at, drop-replicate, length-replicate}
use borrow.Rule.Slice.PartMut.{put_mid}
use Rattle.cp_page.specs.Keys.{number_at}
use Rattle.cp_page.specs.Rows.{row_of, is_after, rows_of}
use Rattle.cp_page.specs.Spelled.{counted, row_bytes, rows_bytes, page_bytes, used_by, padded, RiseAfter}
use Rattle.cp_page.specs.Cuts.{has_room, rows_then, page_ended, last_page, last_rows, cut_from, cut, all_rows, CutsHoldAll}
use Rattle.cp_page.specs.Made.{with_part, or_none, rows_in, IsMade}
use Rattle.cp_page.specs.declared.page.TheConstants.{PAGE_SIZE}
use Rattle.cp_page.proofs.Spelling.{number_read, reads_what_is_spelled}
use Rattle.cp_page.specs.declared.row.PageRow.{PageRow}

-- ---- lists

bytes_then : (rows : List PageRow) (r : PageRow) → rows_bytes (rows ++ r ∷ []) ≡ rows_bytes rows ++ row_bytes r
bytes_then [] r = append-nil (row_bytes r)
bytes_then (q ∷ rows) r = ap (λ l. row_bytes q ++ l) (bytes_then rows r) ∙ sym (append_assoc (row_bytes q) (rows_bytes rows) (row_bytes r))

one_longer : (rows : List PageRow) (r : PageRow) → length (rows ++ r ∷ []) ≡ length rows + 1
one_longer rows r = length-append rows (r ∷ [])

pub rows_fit : (rows : List PageRow) → length rows ≤ length (rows_bytes rows)
rows_fit [] = omega arith
rows_fit (r ∷ rows) =
    let h = rows_fit rows in
    let l = length-append (row_bytes r) (rows_bytes rows) in
    let k = length-append (counted r.key) (counted r.value) in
    omega (arith, h, l, k)

pub row_size : (key value : List ℕ) → length (row_bytes (row_of key value)) ≡ 4 + length key + length value
row_size key value = let k = length-append (counted key) (counted value) in omega (arith, k)

pub used_then : (rows : List PageRow) (r : PageRow) → used_by (rows ++ r ∷ []) ≡ used_by rows + length (row_bytes r)
used_then rows r =
    let l = ap length (bytes_then rows r) ∙ length-append (rows_bytes rows) (row_bytes r) in
    omega (arith, l)

-- bytes put behind others, into zeros
put_behind : (front part : List ℕ) (zeros at : ℕ) → at ≡ length front → with_part (front ++ replicate zeros 0) at part ≡ (front ++ part) ++ replicate (zeros - length part) 0
put_behind front part zeros at is =
    let first : take at (front ++ replicate zeros 0) ≡ front = take_at front (replicate zeros 0) at (sym is) in
    let last : drop at (front ++ replicate zeros 0) ≡ replicate zeros 0 = drop_at front (replicate zeros 0) at (sym is) in
    let after : drop (at + length part) (front ++ replicate zeros 0) ≡ replicate (zeros - length part) 0 =
    sym (drop-drop (length part) at (front ++ replicate zeros 0)) ∙ ap (drop (length part)) last ∙ drop-replicate (length part) zeros 0 in
    ap (λ l. l ++ (part ++ drop (at + length part) (front ++ replicate zeros 0))) first
    ∙ ap (λ l. front ++ (part ++ l)) after
    ∙ sym (append_assoc front part (replicate (zeros - length part) 0))

-- ---- a page

zeros_are : (n : ℕ) → 2 ≤ n → replicate n 0 ≡ page_bytes [] (n - 2)
zeros_are zero l = absurd (omega (arith, l))
zeros_are (suc zero) l = absurd (omega (arith, l))
zeros_are (suc (suc n)) l = let same : suc (suc n) - 2 ≡ n = omega arith in ap (page_bytes []) (sym same)

pub rows_are : (rows : List PageRow) (bytes : List ℕ) (used : ℕ) → IsMade rows bytes used → rows_in bytes ≡ rows
rows_are rows bytes used made = ap rows_in made.spelled ∙ ap or_none (reads_what_is_spelled rows (PAGE_SIZE - used) made.rise)

-- what holds of the rows that are named holds of those that the bytes have
pub is_made : (rows : List PageRow) (bytes : List ℕ) (used : ℕ) → IsMade rows bytes used → IsMade (rows_in bytes) bytes used
is_made rows bytes used made = subst (λ rs. IsMade rs bytes used) (sym (rows_are rows bytes used made)) made

pub none_made : (bytes : List ℕ) → bytes ≡ replicate PAGE_SIZE 0 → IsMade [] bytes 2
none_made bytes is = record { size = refl; fits = omega arith; spelled = is ∙ zeros_are PAGE_SIZE (omega arith); rise = tt }

pub count_is : (rows : List PageRow) (bytes : List ℕ) (used : ℕ) → IsMade rows bytes used → (number_at bytes 0 ≡ length rows) × (length rows < 256 * 256 - 1) × (length bytes ≡ PAGE_SIZE)
count_is rows bytes used made =
    let fit = rows_fit rows in
    let l = ap length made.spelled ∙ ap (λ n. suc (suc n)) (length-append (rows_bytes rows) (replicate (PAGE_SIZE - used) 0)) in
    let z = length-replicate {A = ℕ} (PAGE_SIZE - used) 0 in
    let s = made.size in
    let f = made.fits in
    (ap (λ b. number_at b 0) made.spelled ∙ number_read (length rows) (rows_bytes rows ++ replicate (PAGE_SIZE - used) 0), omega (arith, fit, s, f), omega (arith, l, z, s, f))

pub row_made : (rows : List PageRow) (old one two new key value : List ℕ) (used : ℕ) → IsMade rows old used → used + length (row_bytes (row_of key value)) ≤ PAGE_SIZE → RiseAfter None (rows ++ (row_of key value) ∷ [])
    → one ≡ with_part old used (counted key) → two ≡ with_part one (used + 2 + length key) (counted value)
    → new ≡ with_part two 0 ((number_at old 0 + 1) / 256 ∷ (number_at old 0 + 1) % 256 ∷ [])
    → IsMade (rows ++ (row_of key value) ∷ []) new (used + length (row_bytes (row_of key value)))
row_made rows old one two new key value used made fits rise first second last =
    let front = length rows / 256 ∷ length rows % 256 ∷ rows_bytes rows in
    let zeros = PAGE_SIZE - used in
    let one_is : one ≡ (front ++ counted key) ++ replicate (zeros - length (counted key)) 0 =
    first ∙ ap (λ l. with_part l used (counted key)) made.spelled ∙ put_behind front (counted key) zeros used (let s = made.size in omega (arith, s)) in
    let k = length-append front (counted key) in
    let two_is : two ≡ ((front ++ counted key) ++ counted value) ++ replicate (zeros - length (counted key) - length (counted value)) 0 =
    second ∙ ap (λ l. with_part l (used + 2 + length key) (counted value)) one_is
    ∙ put_behind (front ++ counted key) (counted value) (zeros - length (counted key)) (used + 2 + length key) (let s = made.size in omega (arith, s, k)) in
    let count : number_at old 0 + 1 ≡ length (rows ++ (row_of key value) ∷ []) = ap (λ n. n + 1) (count_is rows old used made).0 ∙ sym (one_longer rows (row_of key value)) in
    let parts : ((rows_bytes rows ++ counted key) ++ counted value) ≡ rows_bytes (rows ++ (row_of key value) ∷ []) =
    append_assoc (rows_bytes rows) (counted key) (counted value) ∙ sym (bytes_then rows (row_of key value)) in
    let size = length-append (counted key) (counted value) in
    let left : zeros - length (counted key) - length (counted value) ≡ PAGE_SIZE - (used + length (row_bytes (row_of key value))) = omega (arith, size) in
    record {
      size = ap (λ n. n + length (row_bytes (row_of key value))) made.size ∙ sym (used_then rows (row_of key value));
      fits = fits;
      spelled = last
          ∙ ap (λ l. with_part l 0 ((number_at old 0 + 1) / 256 ∷ (number_at old 0 + 1) % 256 ∷ [])) two_is
          ∙ ap (λ n. n / 256 ∷ n % 256 ∷ (((rows_bytes rows ++ counted key) ++ counted value) ++ replicate (zeros - length (counted key) - length (counted value)) 0)) count
          ∙ ap (λ l. length (rows ++ (row_of key value) ∷ []) / 256 ∷ length (rows ++ (row_of key value) ∷ []) % 256 ∷ (l ++ replicate (zeros - length (counted key) - length (counted value)) 0)) parts
          ∙ ap (λ n. page_bytes (rows ++ (row_of key value) ∷ []) n) left;
      rise = rise;
    }

-- ---- the cut

step : (b : Bool) (on next : List (List PageRow)) (page : List PageRow) (r : PageRow) (rs : List PageRow) → all_rows on ≡ (page ++ r ∷ []) ++ rs → all_rows next ≡ r ∷ rs → all_rows (if b then on else page ∷ next) ≡ page ++ r ∷ rs
step true on next page r rs h k = h ∙ append_assoc page (r ∷ []) rs
step false on next page r rs h k = ap (λ l. page ++ l) k

cut_holds : (rows page : List PageRow) → all_rows (cut_from page rows) ≡ page ++ rows
cut_holds [] [] = refl
cut_holds [] (r ∷ rs) = refl
cut_holds (r ∷ rs) page = step (has_room page r) (cut_from (page ++ r ∷ []) rs) (cut_from (r ∷ []) rs) page r rs (cut_holds rs (page ++ r ∷ [])) (cut_holds rs (r ∷ []))

pub cuts_hold_all : CutsHoldAll
cuts_hold_all rows = cut_holds rows []

-- ---- the code's steps

pub counted_put : (old one part mid : List ℕ) (a b at k : ℕ) → at + 2 ≤ length old → one ≡ with_part old at (a ∷ b ∷ []) → mid ≡ part → k ≡ length part → put_mid (at + 2) k one mid ≡ with_part old at (a ∷ b ∷ part)
counted_put old one part mid a b at k within first second size =
    let front = take at old ++ a ∷ b ∷ [] in
    let is : one ≡ front ++ drop (at + 2) old = first ∙ sym (append_assoc (take at old) (a ∷ b ∷ []) (drop (at + 2) old)) in
    let lt = length-take-le at old (omega (arith, within)) in
    let l = length-append (take at old) (a ∷ b ∷ []) in
    let long : length front ≡ at + 2 = omega (arith, l, lt) in
    let fore : take (at + 2) one ≡ front = ap (take (at + 2)) is ∙ take_at front (drop (at + 2) old) (at + 2) long in
    let back : drop (at + 2) one ≡ drop (at + 2) old = ap (drop (at + 2)) is ∙ drop_at front (drop (at + 2) old) (at + 2) long in
    let sum : (at + 2) + k ≡ at + suc (suc (length part)) = omega (arith, size) in
    let after : drop k (drop (at + 2) one) ≡ drop (at + suc (suc (length part))) old = ap (drop k) back ∙ drop-drop k (at + 2) old ∙ ap (λ n. drop n old) sum in
    ap (λ l. l ++ (mid ++ drop k (drop (at + 2) one))) fore
    ∙ ap (λ l. front ++ (l ++ drop k (drop (at + 2) one))) second
    ∙ ap (λ l. front ++ (part ++ l)) after
    ∙ append_assoc (take at old) (a ∷ b ∷ []) (part ++ drop (at + suc (suc (length part))) old)

-- one row more, of so many bytes
pub one_more : (rows : List PageRow) (new key value : List ℕ) (used : ℕ) → IsMade (rows ++ (row_of key value) ∷ []) new (used + length (row_bytes (row_of key value)))
    → IsMade (rows ++ (row_of key value) ∷ []) new (used + (4 + length key + length value))
one_more rows new key value used made = subst (λ n. IsMade (rows ++ (row_of key value) ∷ []) new (used + n)) (row_size key value) made

pub has_room_is : (rows : List PageRow) (bytes : List ℕ) (used : ℕ) (key value : List ℕ) → IsMade rows bytes used → 4 + length key + length value ≤ PAGE_SIZE - used → has_room rows (row_of key value) ≡ true
has_room_is rows bytes used key value made l = let s = made.size in let f = made.fits in let k = row_size key value in grind (arith, l, s, f, k)

pub no_room_is : (rows : List PageRow) (bytes : List ℕ) (used : ℕ) (key value : List ℕ) → IsMade rows bytes used → PAGE_SIZE - used < 4 + length key + length value → has_room rows (row_of key value) ≡ false
no_room_is rows bytes used key value made l = let s = made.size in let f = made.fits in let k = row_size key value in grind (arith, l, s, f, k)

pub padded_is : (rows : List PageRow) (bytes : List ℕ) (used : ℕ) → IsMade rows bytes used → bytes ≡ padded rows
padded_is rows bytes used made = made.spelled ∙ ap (λ n. page_bytes rows (PAGE_SIZE - n)) made.size

pub row_fits : (rows : List PageRow) (r : PageRow) → has_room rows r ≡ true → rows ++ r ∷ [] ≡ rows_then rows r
row_fits rows r room = rw room refl

pub row_begins : (rows : List PageRow) (r : PageRow) → has_room rows r ≡ false → r ∷ [] ≡ rows_then rows r
row_begins rows r room = rw room refl

pub last_is : (rows : List PageRow) (bytes : List ℕ) (used : ℕ) → IsMade rows bytes used → ((used ≡ 2 → None ≡ last_page rows) × (¬ (used ≡ 2) → Some bytes ≡ last_page rows))
last_is [] bytes used made = (λ is. refl, λ other. absurd (other made.size))
last_is (r ∷ rs) bytes used made = (λ is. absurd (let k = length-append (row_bytes r) (rows_bytes rs) in let s = made.size in omega (arith, k, s, is)), λ other. ap Some (padded_is (r ∷ rs) bytes used made))
