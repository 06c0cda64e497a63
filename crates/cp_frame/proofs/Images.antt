-- Files: what stands in one that is a store, which ones are none, and headers of either version.
use Rattle.std.proofs.Common.{◌≡◌, ◌≤◌, ◌<◌, ◌==◌, ◌⊎◌, inl, inr, ℕ, suc, Bool, true, false, if◌then◌else◌, List, [], ◌∷◌, length, take, drop, get_or, refl, sym, ap, ◌∙◌, subst, arith, length-take}
use Rattle.std.specs.List.{flat_map}
use Rattle.std.specs.declared.option.Option.TheVariants.{None}
use Rattle.std.proofs.lemmas.Bool.{cases_Bool}
use Rattle.cp_model.specs.History.{Entry, IsLegal}
use Rattle.cp_journal.specs.Frames.{Frame, frames_of}
use Rattle.cp_journal.specs.Headers.{IsHeader, HasHeader, header_in}
use Rattle.cp_journal.specs.Holding.{HasFrames, Stands}
use Rattle.cp_journal.specs.NewStores.{header}
use Rattle.cp_journal.specs.Upgrading.{upgraded, HasOtherVersion, StandsInAVersion, with_version}
use Rattle.cp_journal.specs.declared.header.Header.{Header}
use Rattle.cp_journal.specs.declared.limits.TheConstants.{HEADER_SIZE, VERSION_AT}
use Rattle.cp_journal.proofs.Upgrading.{other_is_header, other_header, upgraded_other, upgraded_gate}
use Rattle.cp_frame.specs.Items.{Item, AllStand, AreHeld, Tell, entries_in}
use Rattle.cp_frame.specs.Stands.{IsClosed, IsHead, IsStore, IsTold, Opens, OpensFirst, Replays, StandsFor, header_of}
use Rattle.cp_frame.proofs.Standing.{legal-items, stand-weaker, tell-newer, tell-one}

-- what a header of this version says whose slots are closed
abbrev pub closed_header : ℕ → Header
closed_header version = record { version = version; first = None; second = None }

-- its slots are closed
pub closed-is : (h : Header) (version : ℕ) → h ≡ closed_header version → IsClosed h
closed-is h version says = record { first = ap (λ (x : Header). x.first) says; second = ap (λ (x : Header). x.second) says }

-- ---- what a file tells

-- frames hold as many items as they are
pub held-length : (v : ℕ) (fs : List Frame) (is : List Item) → AreHeld v fs is → length fs ≡ length is
held-length v [] [] held = refl
held-length v [] (i ∷ is) held = absurd held
held-length v (f ∷ fs) [] held = absurd held
held-length v (f ∷ fs) (i ∷ is) held = ap suc (held-length v fs is held.1)

-- a file's header and frames, as they are found in its bytes, and what they tell
pub record ToldParts (right : Bool) (h : List Entry) (c : List ℕ) : Type 0 where
  pub header : HasHeader c
  pub clean : (frames_of (drop HEADER_SIZE c)).clean ≡ true
  pub tell : Tell right (header_of c).version (frames_of (drop HEADER_SIZE c)).frames h
  pub some : 1 ≤ length (frames_of (drop HEADER_SIZE c)).frames

-- frames that tell a history, up to a closed gate
pub told-frames : (right : Bool) (h : List Entry) (c : List ℕ) (fs : List Frame) → HasHeader c → HasFrames HEADER_SIZE fs c → 1 ≤ length fs → Tell right (header_of c).version fs h → IsTold right h c
told-frames right h c fs header stand some t = record {
  header = header;
  frames = fs;
  stand = stand;
  items = t.items;
  some = omega (arith, some, held-length (header_of c).version fs t.items t.held);
  held = t.held;
  tell = t.stand;
  are = t.are;
}

module _ (right : Bool) (h : List Entry) (c : List ℕ) where
  -- what is told is told by the frames that are found
  pub told-parts : IsTold right h c → ToldParts right h c
  told-parts s =
      let frames : (frames_of (drop HEADER_SIZE c)).frames ≡ s.frames = s.stand.frames in
      let some : 1 ≤ length s.frames = omega (arith, s.some, held-length (header_of c).version s.frames s.items s.held) in
      record {
        header = s.header;
        clean = s.stand.clean;
        tell = subst (λ (fs : List Frame). Tell right (header_of c).version fs h) (sym frames) (record { items = s.items; held = s.held; stand = s.tell; are = s.are });
        some = subst (λ (fs : List Frame). 1 ≤ length fs) (sym frames) some;
      }

-- items that stand from the first frame on tell a history
pub first-told : (right : Bool) (c : List ℕ) (has : HasHeader c) (o : OpensFirst (header_of c).version c) → AllStand right None o.items → IsTold right (flat_map entries_in o.items) c
first-told right c has o stand = record {
  header = has;
  frames = o.holds.frames;
  stand = o.holds.stand;
  items = o.items;
  some = o.some;
  held = o.holds.held;
  tell = stand;
  are = refl;
}

-- what opens tells a history
pub opens-replays : (c : List ℕ) → Opens c → Replays c
opens-replays c o = (flat_map entries_in o.first.items, first-told false c o.header o.first o.first.stand)

-- what tells a history opens where no slot is open
pub told-opens : (c : List ℕ) (h : List Entry) → IsTold false h c → IsClosed (header_of c) → Opens c
told-opens c h s closed = record {
  header = s.header;
  closed = closed;
  first = record { items = s.items; some = s.some; holds = record { frames = s.frames; stand = s.stand; held = s.held }; stand = s.tell };
}

-- ---- what stands in a store

-- a file that begins with a header and has these frames tells what they tell
pub stands-told : (right : Bool) (v : ℕ) (head : List ℕ) (fs : List Frame) (h : List Entry) (c : List ℕ) → IsHead v head → 1 ≤ length fs → Tell right v fs h → Stands head fs c → IsTold right h c × IsClosed (header_of c)
stands-told right v head fs h c is_head some tell stands =
    let size : length head ≡ HEADER_SIZE = is_head.size in
    let front : take HEADER_SIZE c ≡ head = ap (λ (n : ℕ). take n c) (sym size) ∙ stands.front in
    let long : HEADER_SIZE ≤ length c = omega (arith, ap length front, size, length-take HEADER_SIZE c) in
    let says : header_of c ≡ closed_header v = ap header_in front ∙ is_head.says in
    let frames : HasFrames HEADER_SIZE fs c = subst (λ (n : ℕ). HasFrames n fs c) size stands.frames in
    let version : v ≡ (header_of c).version = sym (ap (λ (x : Header). x.version) says) in (
      told-frames right h c fs (long, subst IsHeader (sym front) is_head.header) frames some (subst (λ (n : ℕ). Tell right n fs h) version tell),
      closed-is (header_of c) v says,
    )

-- and, with the right records, stands for it
pub store-stands : (v : ℕ) (head : List ℕ) (fs : List Frame) (h : List Entry) (c : List ℕ) → IsHead v head → 1 ≤ length fs → Tell true v fs h → Stands head fs c → StandsFor h c
store-stands v head fs h c is_head some tell stands =
    let s = stands-told true v head fs h c is_head some tell stands in
    inr (record { told = s.0; closed = s.1 })

-- ---- headers

-- the header of a new store
pub new-head : IsHead 2 header
new-head = record {
  size = refl;
  header = record {
    front = record { gate = refl; magic = refl; zeros = refl };
    first = λ is_open. refl;
    second = λ is_open. refl;
    numbers = λ a b one two same. absurd (cc one);
  };
  says = refl;
}

-- a header in which the version alone has changed
other_version : (v : ℕ) (head other : List ℕ) → IsHead v head → HasOtherVersion head other → IsHead (if get_or other VERSION_AT 0 == 1 then 2 else 1) other
other_version v head other is_head changed = record {
  size = changed.size ∙ is_head.size;
  header = other_is_header head other changed is_head.header;
  says = other_header head other changed ∙ ap (with_version (if get_or other VERSION_AT 0 == 1 then 2 else 1)) is_head.says;
}

-- a header with another version is one of version 1 or 2
pub other-head : (v : ℕ) (head other : List ℕ) → IsHead v head → HasOtherVersion head other → IsHead 1 other ⊎ IsHead 2 other
other-head v head other is_head changed =
    let is = other_version v head other is_head changed in
    elim (cases_Bool (get_or other VERSION_AT 0 == 1)) [
      | inl holds ↦ inr (rw holds at is)
      | inr fails ↦ inl (rw fails at is)
    ]

-- an upgraded header is one of version 2
pub upgraded-head : (v : ℕ) (head : List ℕ) → IsHead v head → IsHead 2 (upgraded head)
upgraded-head v head is_head =
    let long : 6 < length head = omega (arith, is_head.size) in
    subst (λ (g : ℕ). IsHead (if g == 1 then 2 else 1) (upgraded head)) (upgraded_gate head long) (other_version v head (upgraded head) is_head (upgraded_other head long))

-- a file of version 1 that may have become one of version 2 stands for what its frames tell
pub in-a-version : (head : List ℕ) (fs : List Frame) (h : List Entry) (c : List ℕ) → IsHead 1 head → 1 ≤ length fs → Tell true 1 fs h → StandsInAVersion head fs c → StandsFor h c
in-a-version head fs h c is_head some tell (other, changed, stands) = in_either (other-head 1 head other is_head changed)
  where
    in_either : IsHead 1 other ⊎ IsHead 2 other → StandsFor h c
    in_either (inl one) = store-stands 1 other fs h c one some tell stands
    in_either (inr two) = store-stands 2 other fs h c two some (tell-newer true fs h tell) stands

-- ---- the laws

-- a file tells one history at most
pub one_history : (c : List ℕ) (p q : Bool) (h i : List Entry) → IsTold p h c → IsTold q i c → h ≡ i
one_history c p q h i s t = tell-one p q (header_of c).version (frames_of (drop HEADER_SIZE c)).frames h i (told-parts p h c s).tell (told-parts q i c t).tell

-- it is a legal one
pub legal_history : (c : List ℕ) (right : Bool) (h : List Entry) → IsTold right h c → IsLegal h
legal_history c right h s = subst IsLegal (sym s.are) (legal-items right s.items s.tell)

-- what is told with the right records is told where these aren't asked
pub told-weaker : (c : List ℕ) (h : List Entry) → IsTold true h c → IsTold false h c
told-weaker c h s = record {
  header = s.header;
  frames = s.frames;
  stand = s.stand;
  items = s.items;
  some = s.some;
  held = s.held;
  tell = stand-weaker true None s.items s.tell;
  are = s.are;
}

-- a file that stands for a history opens
pub files_open : (c : List ℕ) (h : List Entry) → IsStore h c → Opens c
files_open c h s = told-opens c h (told-weaker c h s.told) s.closed
