-- The log of the edits of a disk in memory, as calls, and the edits carried out once more.
use Rattle.std.proofs.Common.{◌≡◌, ◌≤◌, ◌<◌, inl, inr, ℕ, suc, ◌+◌, ◌-◌, Bool, true, false, List, [], ◌∷◌, ◌++◌, length, take, drop, set, get_or, refl, sym, ◌∙◌, ap, arith, append_assoc}
use Rattle.std.specs.List.{fold}
use Rattle.std.specs.declared.option.Option.{Option}
use Rattle.std.proofs.lemmas.List.{take_all, take-append-drop, take_more, set_split, drop_all, append-nil}
use Rattle.std.proofs.lemmas.List.Concat.{flat_map-append}
use Rattle.std.proofs.lemmas.List.Sums.{fold-append}
use Rattle.cp_disk.specs.Edits.{call_of, sync_of, calls_of, bytes_after, bytes_after_all}
use Rattle.cp_disk.specs.Images.{DiskCall, syncs}
use Rattle.cp_disk.specs.MemoryDisks.{IsQuiet, EndsInSync}
use Rattle.cp_disk.specs.declared.edit.Edit.{Edit}
use Rattle.cp_disk.specs.declared.edit.LoggedEdit.{LoggedEdit}

-- an edit that was synced
abbrev synced_edit : Edit → LoggedEdit
synced_edit edit = record { edit = edit; synced = true }

calls_of-append : (log more : List LoggedEdit) → calls_of (log ++ more) ≡ calls_of log ++ calls_of more
calls_of-append log more = flat_map-append (λ e. call_of e.edit ∷ sync_of e.synced) log more

-- the calls of the last edit come last
calls_of-last : (log : List LoggedEdit) (e : LoggedEdit) → calls_of (log ++ e ∷ []) ≡ calls_of log ++ call_of e.edit ∷ sync_of e.synced
calls_of-last log e =
    calls_of-append log (e ∷ []) ∙ ap (λ (l : List DiskCall). calls_of log ++ call_of e.edit ∷ l) (append-nil (sync_of e.synced))

-- whether or not the last edit was synced, it is once a sync came after it
by_synced : (front : List DiskCall) (call : DiskCall) (b : Bool) (old new : List DiskCall) → old ≡ front ++ call ∷ sync_of b → new ≡ front ++ call ∷ syncs ∷ [] → EndsInSync old new
by_synced front call true old new e f =
    inr (f ∙ sym e, inr (front ++ call ∷ [], e ∙ sym (append_assoc front (call ∷ []) (syncs ∷ []))))
by_synced front call false old new e f =
    inl (f ∙ sym (append_assoc front (call ∷ []) (syncs ∷ [])) ∙ sym (ap (λ (l : List DiskCall). l ++ syncs ∷ []) e))

-- the last edit is marked
pub ends_in_sync : (log : List LoggedEdit) (n : ℕ) (last : LoggedEdit) → length log ≡ n + 1 → get_or log n last ≡ last → EndsInSync (calls_of log) (calls_of (set log n (synced_edit last.edit)))
ends_in_sync log n last size is =
    let front = take n log in
    let whole : log ≡ front ++ last ∷ [] = sym (take_all (n + 1) log (omega arith)) ∙ take_more log n last (omega arith) ∙ ap (λ (e : LoggedEdit). front ++ e ∷ []) is in
    let new = synced_edit last.edit in
    let put : set log n new ≡ front ++ new ∷ [] = set_split log n new (omega arith) ∙ ap (λ (l : List LoggedEdit). front ++ new ∷ l) (drop_all (suc n) log (omega arith)) in
    by_synced (calls_of front) (call_of last.edit) last.synced (calls_of log) (calls_of (set log n new))
    (ap calls_of whole ∙ calls_of-last front last) (ap calls_of put ∙ calls_of-last front new)

-- the edits up to one that was synced end in a sync
pub quiet_synced : (log : List LoggedEdit) (n : ℕ) (e : LoggedEdit) → 0 < n → n ≤ length log → get_or log (n - 1) e ≡ e → e.synced ≡ true → IsQuiet (calls_of (take n log))
quiet_synced log n e some within is so =
    let front = take (n - 1) log in
    let count : (n - 1) + 1 ≡ n = omega arith in
    let whole : take n log ≡ front ++ e ∷ [] =
    ap (λ (k : ℕ). take k log) (sym count) ∙ take_more log (n - 1) e (omega arith) ∙ ap (λ (e : LoggedEdit). front ++ e ∷ []) is in
    inr (
      calls_of front ++ call_of e.edit ∷ [],
      ap calls_of whole
          ∙ calls_of-last front e
          ∙ ap (λ (b : Bool). calls_of front ++ call_of e.edit ∷ sync_of b) so
          ∙ sym (append_assoc (calls_of front) (call_of e.edit ∷ []) (syncs ∷ [])),
    )

-- a sync changes no bytes
bytes_after-sync : (fill : Option ℕ) (file : List ℕ) (b : Bool) → fold (bytes_after fill) file (sync_of b) ≡ file
bytes_after-sync fill file true = refl
bytes_after-sync fill file false = refl

-- no edit was carried out yet
pub bytes_after_all-none : (fill : Option ℕ) (file : List ℕ) → file ≡ bytes_after_all fill file []
unfolding bytes_after_all
bytes_after_all-none fill file = refl

-- one more edit is carried out
pub bytes_after_all-more : (fill : Option ℕ) (first file new : List ℕ) (log : List LoggedEdit) (n : ℕ) (e : LoggedEdit) → n < length log → get_or log n e ≡ e → file ≡ bytes_after_all fill first (calls_of (take n log)) → new ≡ bytes_after fill file (call_of e.edit) → new ≡ bytes_after_all fill first (calls_of (take (n + 1) log))
unfolding bytes_after_all
bytes_after_all-more fill first file new log n e within is before made =
    let front = take n log in
    let whole : take (n + 1) log ≡ front ++ e ∷ [] = take_more log n e within ∙ ap (λ (e : LoggedEdit). front ++ e ∷ []) is in
    let calls : calls_of (take (n + 1) log) ≡ calls_of front ++ call_of e.edit ∷ sync_of e.synced = ap calls_of whole ∙ calls_of-last front e in
    made
    ∙ sym (ap (λ (l : List DiskCall). fold (bytes_after fill) first l) calls
    ∙ fold-append (bytes_after fill) first (calls_of front) (call_of e.edit ∷ sync_of e.synced)
    ∙ ap (λ (l : List ℕ). fold (bytes_after fill) l (call_of e.edit ∷ sync_of e.synced)) (sym before)
    ∙ bytes_after-sync fill (bytes_after fill file (call_of e.edit)) e.synced)

-- the edits before and after the last sync are all
pub calls_of-split : (log : List LoggedEdit) (n : ℕ) → calls_of log ≡ calls_of (take n log) ++ calls_of (drop n log)
calls_of-split log n = ap calls_of (sym (take-append-drop n log)) ∙ calls_of-append (take n log) (drop n log)
