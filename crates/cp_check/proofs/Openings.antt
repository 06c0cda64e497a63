-- A file has one opening from its live checkpoint, and tells one history.
use Rattle.std.proofs.Common.{◌≡◌, ℕ, List, ◌∷◌, fold, sym, ap, ◌∙◌, subst}
use Rattle.std.specs.List.{flat_map}
use Rattle.std.specs.declared.option.Option.TheVariants.{Some}
use Rattle.cp_model.specs.History.{State}
use Rattle.cp_model.specs.Tree.{Source}
use Rattle.cp_journal.specs.Begun.{checkpoint}
use Rattle.cp_journal.specs.Frames.{Frame, whole}
use Rattle.cp_journal.specs.declared.header.Slot.{Slot}
use Rattle.cp_frame.specs.Items.{Item, AreHeld, after_item, entries_in}
use Rattle.cp_frame.proofs.Standing.{held-one}
use Rattle.cp_check.specs.Directories.{Directory, EndsWith}
use Rattle.cp_check.specs.Laws.{HasSameOutcome, EachOpeningIsReplay, FilesTellOneHistory}
use Rattle.cp_frame.specs.Stands.{header_of}
use Rattle.cp_check.specs.Stands.{Snapshot, state_at, with_target, HaveTrees, OpensAt}
use Rattle.cp_check.proofs.Exactly.{ends-one, trees-one}
use Rattle.cp_check.proofs.Storing.{opening_is_replay}

same_bodies : (a b r q : List ℕ) → whole (checkpoint a) r ≡ whole (checkpoint b) q → a ≡ b
same_bodies a b r q is = let same : checkpoint a ≡ checkpoint b = cc is in ap (λ (f : Frame). f.body) same

same_first : (x y : Source) (xs ys : List Source) → x ∷ xs ≡ y ∷ ys → x ≡ y
same_first x y xs ys is = cc is

same_rest : (x y : Source) (xs ys : List Source) → x ∷ xs ≡ y ∷ ys → xs ≡ ys
same_rest x y xs ys is = cc is

same_some : (x y : State) → Some x ≡ Some y → x ≡ y
same_some x y is = cc is

-- two openings go on from one state, and go over the same items
pub record IsSameOpening (slot : Slot) (version : ℕ) (c : List ℕ) (o p : OpensAt slot version c) : Type 0 where
  pub state : state_at o.snapshot ≡ state_at p.snapshot
  pub items : o.items ≡ p.items

state_one : (o p : Snapshot) → o.directory ≡ p.directory → with_target o.tree o.sources ≡ with_target p.tree p.sources → state_at o ≡ state_at p
state_one o p directory all =
    let first = same_first _ _ o.sources p.sources all in
    let rest = same_rest _ _ o.sources p.sources all in
    λ i. state_at (record { body = o.body; directory = directory i; tree = (first i).tree; sources = rest i })

pub opens_one : (slot : Slot) (version : ℕ) (c : List ℕ) (o p : OpensAt slot version c) → IsSameOpening slot version c o p
opens_one slot version c o p =
    let x = o.snapshot in
    let y = p.snapshot in
    let gates : whole (checkpoint x.body) o.names.rest ≡ whole (checkpoint y.body) p.names.rest = sym o.names.frame ∙ p.names.frame in
    let bodies : x.body ≡ y.body = same_bodies x.body y.body o.names.rest p.names.rest gates in
    let directory = ends-one y.body x.directory y.directory (subst (λ (l : List ℕ). EndsWith l x.directory) bodies o.names.directory) p.names.directory in
    let all = trees-one c y.directory.trees (with_target x.tree x.sources) (with_target y.tree y.sources) (subst (λ (d : Directory). HaveTrees c d.trees (with_target x.tree x.sources)) directory o.names.trees) p.names.trees in
    let frames : o.holds.frames ≡ p.holds.frames = sym o.holds.stand.frames ∙ p.holds.stand.frames in
    record {
      state = state_one x y directory all;
      items = held-one version p.holds.frames o.items p.items (subst (λ (fs : List Frame). AreHeld version fs o.items) frames o.holds.held) p.holds.held;
    }

same_end : (s z : State) (is js : List Item) → s ≡ z → is ≡ js → fold after_item (Some s) is ≡ fold after_item (Some z) js
same_end s z is js a f = λ i. fold after_item (Some (a i)) (f i)

pub each_opening_is_replay : EachOpeningIsReplay
each_opening_is_replay h c slot store live o s z start from =
    let r = opening_is_replay h c slot store live in
    let one = opens_one slot (header_of c).version c o r.opens in
    let end_z : Some z ≡ Some r.opened =
    sym from ∙ same_end (state_at o.snapshot) (state_at r.opens.snapshot) o.items r.opens.items one.state one.items ∙ r.from_checkpoint in
    let end_s : Some s ≡ Some r.replayed = sym start ∙ r.from_start in
    let zs : r.opened ≡ z = sym (same_some z r.opened end_z) in
    let ss : r.replayed ≡ s = sym (same_some s r.replayed end_s) in
    subst (HasSameOutcome s) zs (subst (λ (k : State). HasSameOutcome k r.opened) ss r.same)

pub files_tell_one_history : FilesTellOneHistory
files_tell_one_history h i c s t =
    let frames : s.told.frames ≡ t.told.frames = sym s.told.stand.frames ∙ t.told.stand.frames in
    let items = held-one (header_of c).version t.told.frames s.told.items t.told.items (subst (λ (fs : List Frame). AreHeld (header_of c).version fs s.told.items) frames s.told.held) t.told.held in
    s.told.are ∙ ap (flat_map entries_in) items ∙ sym t.told.are
