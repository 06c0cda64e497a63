-- From what stands at a journal's end to what the whole file has.
use Rattle.std.proofs.Common.{◌≡◌, inl, inr, ℕ, List, [], ◌∷◌, ◌++◌, length, take, drop, refl, sym, ◌∙◌, ap, subst, arith, append_assoc, append-nil, length-append, take-append-drop}
use Rattle.std.proofs.lemmas.List.{take_at, drop_at, drop-take}
use Rattle.std.proofs.lemmas.List.Concat.{flat_map-append}
use Rattle.cp_disk.specs.Views.{View, ViewKeeps, Either}
use Rattle.cp_disk.proofs.Composing.{keeps_wider}
use Rattle.cp_journal.specs.Frames.{Frame, spelled, spelled_all, Walk, frames_of}
use Rattle.cp_journal.specs.Holding.{IsLawful, AreLawful, IsAdded, Continues, IsBeforeOrAfter, Stands, Holds}
use Rattle.cp_journal.specs.Journals.{JournalState, places, Describes}
use Rattle.cp_journal.specs.declared.frame.FrameAt.{FrameAt}
use Rattle.cp_journal.proofs.Adding.{now_before}
use Rattle.cp_journal.proofs.Places.{place, places-push}
use Rattle.cp_journal.proofs.Walks.{frames_of-all, onto_all, frames-onto_all, clean-onto_all}

-- one lawful frame more
pub lawful-push : (gs : List Frame) (f : Frame) → AreLawful gs → IsLawful f → AreLawful (gs ++ f ∷ [])
lawful-push [] f all one = (one, tt)
lawful-push (g ∷ gs) f all one = (all.0, lawful-push gs f all.1 one)

module _ (head : List ℕ) (fs : List Frame) (e : ℕ) (v : View) (holds : Holds head fs e v) where
  pub stands_continues : (gs : List Frame) (c : List ℕ) → Continues e v.content gs c → Stands head (fs ++ gs) c
  stands_continues gs c more =
      let whole : c ≡ head ++ (spelled_all fs ++ drop e c) =
      sym (take-append-drop e c) ∙ ap (λ (l : List ℕ). l ++ drop e c) (more.front ∙ holds.front) ∙ append_assoc head (spelled_all fs) (drop e c) in
      let behind : drop (length head) c ≡ spelled_all fs ++ drop e c = ap (drop (length head)) whole ∙ drop_at head (spelled_all fs ++ drop e c) (length head) refl in
      let is : frames_of (drop (length head) c) ≡ onto_all fs (frames_of (drop e c)) = ap frames_of behind ∙ frames_of-all fs (drop e c) holds.lawful in
      record {
        front = ap (take (length head)) whole ∙ take_at head (spelled_all fs ++ drop e c) (length head) refl;
        frames = record {
          frames = ap (λ (w : Walk). w.frames) is ∙ frames-onto_all fs (frames_of (drop e c)) ∙ ap (λ (l : List Frame). fs ++ l) more.frames.frames;
          clean = ap (λ (w : Walk). w.clean) is ∙ clean-onto_all fs (frames_of (drop e c)) ∙ more.frames.clean;
        };
      }

  with_or_without : (f : Frame) (c : List ℕ) → IsBeforeOrAfter e v.content f c → Either (Stands head fs) (Stands head (fs ++ f ∷ [])) c
  with_or_without f c (inl before) = inl (subst (λ (l : List Frame). Stands head l c) (append-nil fs) (stands_continues [] c before))
  with_or_without f c (inr after) = inr (stands_continues (f ∷ []) c after)

  pub keeps_stands : (f : Frame) (w : View) → ViewKeeps (IsBeforeOrAfter e v.content f) v w → ViewKeeps (Either (Stands head fs) (Stands head (fs ++ f ∷ []))) v w
  keeps_stands f w keeps = keeps_wider (IsBeforeOrAfter e v.content f) (Either (Stands head fs) (Stands head (fs ++ f ∷ []))) v w keeps (with_or_without f)

  pub holds_more : (f : Frame) (to : ℕ) (w : View) → IsLawful f → IsAdded e f v.content to w → Holds head (fs ++ f ∷ []) to w
  holds_more f to w ok added =
      let spells : spelled_all (fs ++ f ∷ []) ≡ spelled_all fs ++ spelled f = flat_map-append spelled fs (f ∷ []) ∙ ap (λ (l : List ℕ). spelled_all fs ++ l) (append-nil (spelled f)) in
      record {
        lawful = lawful-push fs f holds.lawful ok;
        size = omega (arith, added.size, holds.size, ap length spells, length-append (spelled_all fs) (spelled f));
        front = added.front ∙ ap (λ (l : List ℕ). l ++ spelled f) holds.front ∙ append_assoc head (spelled_all fs) (spelled f) ∙ ap (λ (l : List ℕ). head ++ l) (sym spells);
        at_rest = added.at_rest;
      }

-- each image has these frames
pub holds_images : (head : List ℕ) (fs : List Frame) (e : ℕ) (v : View) → Holds head fs e v → (c : List ℕ) → v.images c → Stands head fs c
holds_images head fs e v holds c im =
    subst (λ (l : List Frame). Stands head l c) (append-nil fs) (stands_continues head fs e v holds [] c (now_before e v holds.at_rest c (holds.at_rest.settled c im)))

-- a journal that has the places of the frames describes the disk
pub describes : (head : List ℕ) (fs : List Frame) (j : JournalState) (v : View) → Holds head fs j.next v → j.frames ≡ places (length head) fs → Describes head fs j v
describes head fs j v holds listed =
    let n = length head in
    let m = length (spelled_all fs) in
    record {
      holds = holds;
      lists = record {
        lawful = holds.lawful;
        frames = listed;
        bytes = sym (drop-take n m v.content) ∙ ap (drop n) (ap (λ (k : ℕ). take k v.content) (sym holds.size) ∙ holds.front) ∙ drop_at head (spelled_all fs) n refl;
      };
    }

-- the journal describes one frame more
pub describes_more : (head : List ℕ) (fs : List Frame) (v w : View) (j k : JournalState) (f : Frame) → Describes head fs j v → IsLawful f → IsAdded j.next f v.content k.next w
    → k.frames ≡ j.frames ++ place j.next f.tag (length f.body) ∷ [] → Describes head (fs ++ f ∷ []) k w
describes_more head fs v w j k f d ok added pushed =
    let n = length head in
    describes head (fs ++ f ∷ []) k w (holds_more head fs j.next v d.holds f k.next w ok added)
    (pushed ∙ ap (λ (l : List FrameAt). l ++ place j.next f.tag (length f.body) ∷ []) d.lists.frames
    ∙ ap (λ (m : ℕ). places n fs ++ place m f.tag (length f.body) ∷ []) d.holds.size ∙ sym (places-push n fs f))
