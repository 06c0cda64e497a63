-- The calls of a disk in memory, by what it keeps.
use Rattle.std.proofs.Common.{◌≡◌, ◌≤◌, inl, inr, ℕ, ◌+◌, min, List, [], ◌∷◌, ◌++◌, length, take, refl, sym, ◌∙◌, ap, subst, arith, Ok}
use Rattle.cp_disk.specs.Calls.{ViewWrote, ViewWasCut, ViewSynced}
use Rattle.cp_disk.specs.ImageLaws.{image-content}
use Rattle.cp_disk.specs.Images.{FileState, DiskCall, writes, cuts, syncs, synced_file, written_file, shortened_file, after_call, file_after, Image, view_after}
use Rattle.cp_disk.specs.MemoryDisks.{IsKept, IsQuiet, EndsInSync}
use Rattle.cp_disk.specs.Views.{IsDurable}
use Rattle.cp_disk.specs.Writes.{with_bytes, Torn, CutShort}
use Rattle.cp_disk.specs.Edits.{calls_of}
use Rattle.cp_disk.specs.declared.edit.LoggedEdit.{LoggedEdit}
use Rattle.cp_disk.specs.declared.limits.TheConstants.{DISK_MAX}
use Rattle.cp_disk.proofs.Composing.{rests_none}
use Rattle.cp_disk.proofs.Following.{follows_write, follows_cut, only_synced, file_after-push, remembers_push, later_push, steps_push, since_push}

module _ (first : List ℕ) (calls : List DiskCall) where
  file-write : (at : ℕ) (bytes : List ℕ) → at ≤ length (file_after first calls).content → file_after first (calls ++ writes at bytes ∷ []) ≡ written_file (file_after first calls) at bytes
  unfolding after_call
  file-write at bytes le =
      let here : min at (length (file_after first calls).content) ≡ at = omega arith in
      file_after-push first calls (writes at bytes) ∙ ap (λ (k : ℕ). written_file (file_after first calls) k bytes) here

  file-cut : (size : ℕ) → file_after first (calls ++ cuts size ∷ []) ≡ shortened_file (file_after first calls) size
  unfolding after_call
  file-cut size = file_after-push first calls (cuts size)

  pub file-sync : file_after first (calls ++ syncs ∷ []) ≡ synced_file (file_after first calls).content
  unfolding after_call
  file-sync = file_after-push first calls syncs

  -- a write
  pub wrote : (at : ℕ) (bytes : List ℕ) → at ≤ length (file_after first calls).content → ViewWrote at bytes (Ok (tt {0})) (view_after first calls) (view_after first (calls ++ writes at bytes ∷ []))
  wrote at bytes le =
      let is = file-write at bytes le in
      record {
        content = ap (λ (s : FileState). s.content) is;
        steps = steps_push first calls (writes at bytes) (Torn at (length bytes))
            (λ c im. follows_write (file_after first calls) at bytes c (image-content first calls) le (subst (λ (s : FileState). Image s c) is im));
        keeps = remembers_push first calls (writes at bytes);
        memory = λ m. cc;
      }

  -- a cut
  pub was_cut : (size : ℕ) → ViewWasCut size (Ok (tt {0})) (view_after first calls) (view_after first (calls ++ cuts size ∷ []))
  was_cut size =
      let is = file-cut size in
      record {
        content = ap (λ (s : FileState). s.content) is;
        steps = steps_push first calls (cuts size) (CutShort size)
            (λ c im. follows_cut (file_after first calls) size c (image-content first calls) (subst (λ (s : FileState). Image s c) is im));
        keeps = remembers_push first calls (cuts size);
        memory = λ m. cc;
      }

-- where nothing was changed since the last sync, nothing is pending
pub file-quiet : (first : List ℕ) (calls : List DiskCall) → IsQuiet calls → file_after first calls ≡ synced_file (file_after first calls).content
unfolding file_after
file-quiet first calls (inl none) =
    let is : file_after first calls ≡ synced_file first = ap (file_after first) none in
    is ∙ sym (ap (λ (s : FileState). synced_file s.content) is)
file-quiet first calls (inr (before, last)) =
    let is : file_after first calls ≡ synced_file (file_after first before).content = ap (file_after first) last ∙ file-sync first before in
    is ∙ sym (ap (λ (s : FileState). synced_file s.content) is)

-- a sync
module _ (first : List ℕ) (calls : List DiskCall) where
  only_content : (c : List ℕ) → Image (file_after first (calls ++ syncs ∷ [])) c → c ≡ (file_after first calls).content
  only_content c im = only_synced (file_after first calls).content c (subst (λ (s : FileState). Image s c) (file-sync first calls) im)

  no_new : (c : List ℕ) → Image (file_after first (calls ++ syncs ∷ [])) c → Image (file_after first calls) c
  no_new c im = subst (Image (file_after first calls)) (sym (only_content c im)) (image-content first calls)

  synced_now : ViewSynced (Ok (tt {0})) (view_after first calls) (view_after first (calls ++ syncs ∷ []))
  synced_now = record {
    durable = only_content;
    rests = record {
      content = ap (λ (s : FileState). s.content) (file-sync first calls);
      images = no_new;
      later = later_push first calls syncs;
      since = since_push first calls syncs no_new;
      keeps = remembers_push first calls syncs;
    };
  }

  synced_before : IsQuiet calls → ViewSynced (Ok (tt {0})) (view_after first calls) (view_after first calls)
  synced_before quiet = record {
    durable = λ c im. only_synced (file_after first calls).content c (subst (λ (s : FileState). Image s c) (file-quiet first calls quiet) im);
    rests = rests_none (view_after first calls);
  }

-- a sync, which is noted where a change came before it
pub synced : (first : List ℕ) (calls next : List DiskCall) → EndsInSync calls next → ViewSynced (Ok (tt {0})) (view_after first calls) (view_after first next)
synced first calls next (inl more) =
    subst (λ (l : List DiskCall). ViewSynced (Ok (tt {0})) (view_after first calls) (view_after first l)) (sym more) (synced_now first calls)
synced first calls next (inr (same, quiet)) =
    subst (λ (l : List DiskCall). ViewSynced (Ok (tt {0})) (view_after first calls) (view_after first l)) (sym same) (synced_before first calls quiet)

module _ (bytes first : List ℕ) (log : List LoggedEdit) (is : first ≡ bytes) (none : log ≡ []) where
  -- a new disk keeps its bytes
  pub kept_new : (file : List ℕ) → file ≡ bytes → length bytes ≤ DISK_MAX → IsKept first (calls_of log) file
  unfolding file_after
  kept_new file same few =
      let whole : IsKept bytes (calls_of []) bytes = record { same = refl; few = few } in
      rw (is, same, none) whole

  -- and they are durable
  pub durable_new : IsDurable bytes (view_after first (calls_of log))
  unfolding file_after
  durable_new =
      let whole : IsDurable bytes (view_after bytes (calls_of [])) = record { content = refl; only = λ c im. only_synced bytes c im } in
      rw (is, none) whole

module _ (first : List ℕ) (calls : List DiskCall) (file : List ℕ) (kept : IsKept first calls file) where
  pub length-kept : length file ≤ DISK_MAX
  length-kept = let size = ap length kept.same in omega (arith, size, (image-content first calls).no_longer, kept.few)

  inside_content : (at : ℕ) → at ≤ length file → at ≤ length (file_after first calls).content
  inside_content at le = let size = ap length kept.same in omega (arith, size)

  -- what is kept after a write
  pub kept_write : (next : List DiskCall) (new : List ℕ) (at : ℕ) (bytes : List ℕ) → next ≡ calls ++ writes at bytes ∷ [] → at ≤ length file → at + length bytes ≤ DISK_MAX → new ≡ with_bytes file at bytes → IsKept first next new
  kept_write next new at bytes more le few made =
      let is = ap (file_after first) more ∙ file-write first calls at bytes (inside_content at le) in
      record {
        same = made ∙ ap (λ (l : List ℕ). with_bytes l at bytes) kept.same ∙ sym (ap (λ (s : FileState). s.content) is);
        few = let greatest = ap (λ (s : FileState). s.greatest) is in omega (arith, greatest, kept.few);
      }

  pub wrote_next : (next : List DiskCall) (at : ℕ) (bytes : List ℕ) → next ≡ calls ++ writes at bytes ∷ [] → at ≤ length file → ViewWrote at bytes (Ok (tt {0})) (view_after first calls) (view_after first next)
  wrote_next next at bytes more le =
      subst (λ (l : List DiskCall). ViewWrote at bytes (Ok (tt {0})) (view_after first calls) (view_after first l)) (sym more)
      (wrote first calls at bytes (inside_content at le))

  -- what is kept after a cut
  pub kept_cut : (next : List DiskCall) (new : List ℕ) (size : ℕ) → next ≡ calls ++ cuts size ∷ [] → new ≡ take size file → IsKept first next new
  kept_cut next new size more made =
      let is = ap (file_after first) more ∙ file-cut first calls size in
      record {
        same = made ∙ ap (take size) kept.same ∙ sym (ap (λ (s : FileState). s.content) is);
        few = let greatest = ap (λ (s : FileState). s.greatest) is in omega (arith, greatest, kept.few);
      }

  pub cut_next : (next : List DiskCall) (size : ℕ) → next ≡ calls ++ cuts size ∷ [] → ViewWasCut size (Ok (tt {0})) (view_after first calls) (view_after first next)
  cut_next next size more =
      subst (λ (l : List DiskCall). ViewWasCut size (Ok (tt {0})) (view_after first calls) (view_after first l)) (sym more) (was_cut first calls size)

  -- what is kept after a sync
  pub kept_sync : (next : List DiskCall) → EndsInSync calls next → IsKept first next file
  kept_sync next (inl more) =
      let is = ap (file_after first) more ∙ file-sync first calls in
      record {
        same = kept.same ∙ sym (ap (λ (s : FileState). s.content) is);
        few = let greatest = ap (λ (s : FileState). s.greatest) is in omega (arith, greatest, (image-content first calls).no_longer, kept.few);
      }
  kept_sync next (inr (same, quiet)) = subst (λ (l : List DiskCall). IsKept first l file) (sym same) kept
