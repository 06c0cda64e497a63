-- What the parser makes of plain words after a command, word by word.
use Rattle.std.proofs.Common.{◌≡◌, ◌==◌, ℕ, List, [], ◌∷◌, Bool, true, false, Option, None, refl, ap, ◌∙◌, not, subst}
use Rattle.std.specs.Str.{bytes_eq}
use Rattle.std.specs.Option.{option_map_or}
use Rattle.std.specs.Prelude.{⊤}
use Rattle.std.specs.List.{slice_index_or, fold}
use Rattle.clap.specs.Words.{Row, Text}
use Rattle.clap.specs.Kinds.{Kinds, or_else, IsAmong}
use Rattle.clap.specs.declared.error.kind.ErrorKind.{ErrorKind}
use Rattle.clap.specs.declared.error.kind.ErrorKind.TheVariants.{UnknownArgument}
use Rattle.clap.specs.Faults.{turn_fault, walk_fault, word_fault, step_fault, settle_fault, defaults_fault, check_fault, positional_fault, stray_fault, level_fault}
use Rattle.clap.specs.Walk.{Held, Rule, Walk, idle, value, word_met, after_step, walked, walk, to_positional, arg_by_index, rows_after, nothing_held, settled, finished}
use Rattle.clap.specs.Lexer.{long_of, short_of}
use Rattle.clap.specs.Simple.{Shape, built}
use Rattle.cp_words.specs.Operands.{is_operand}
use Rattle.cp_words.specs.Shapes.{whole}
use Rattle.cp_words.specs.declared.command.Command.{Command}

-- what a word is that doesn't begin with `-`
pub record Plain (w : List ℕ) : Type 0 where
  pub long : long_of w ≡ None
  pub short : short_of w ≡ None
  pub ends : bytes_eq w (45 ∷ 45 ∷ []) ≡ false

pub plain_word : (w : List ℕ) → is_operand w ≡ true → Plain w
plain_word [] h = record { long = refl; short = refl; ends = refl }
plain_word (x ∷ xs) h = go (x == 45) refl h
  where
    go : (b : Bool) → (x == 45) ≡ b → not b ≡ true → Plain (x ∷ xs)
    go true e k = absurd (cc k)
    go false e k = record { long = rw e refl; short = rw e refl; ends = rw e refl }

abbrev pub ArePlain : List Text → Type 0
ArePlain [] = ⊤
ArePlain (w ∷ ws) = Plain w × ArePlain ws

-- ---- one word

abbrev pub at : Held → ℕ → Walk
at h p = record { held = h; waiting = idle; position = p; is_trailing = false; stopped = None }

pub leaf_met : (c : List Rule) (h : Held) (p : ℕ) (w : Text) → Plain w → word_met c [] false idle p w h ≡ (h, value)
leaf_met c h p w plain = rw (plain.ends, plain.long, plain.short) refl

pub leaf_walked : (c : List Rule) (h : Held) (p : ℕ) (w : Text) → Plain w → walked c [] (at h p) w ≡ to_positional c (arg_by_index c p) w (at h p) h
unfolding walked
leaf_walked c h p w plain = ap (λ m. after_step c w (at h p) m.0 m.1) (leaf_met c h p w plain)

pub leaf_turn : (s : Shape) (h : Held) (p : ℕ) (w : Text) → Plain w
    → turn_fault s [] (at h p) w ≡ option_map_or (λ a. positional_fault s.rules s.args_override_self a h) (arg_by_index s.rules p) (stray_fault s)
leaf_turn s h p w plain =
    ap (λ m. or_else (word_fault s [] false idle w h) (step_fault s p m.0 m.1)) (leaf_met s.rules h p w plain)
    ∙ ap (λ k. or_else k (step_fault s p h value)) (no_word_fault s h w plain)
  where
    no_word_fault : (t : Shape) (g : Held) (v : Text) → Plain v → word_fault t [] false idle v g ≡ []
    no_word_fault t g v q = rw (q.ends, q.long, q.short) refl

-- ---- all words after a command

abbrev pub sub_at : ℕ → Shape
sub_at i = slice_index_or (built whole).subs i (built whole).top

abbrev pub leaf_faults : Shape → List Text → Kinds
leaf_faults s words = level_fault s [] nothing_held words false []

abbrev pub leaf_rows : Shape → List Text → List Row
leaf_rows s words = rows_after s.rules [] words

-- what the walk over some words gives, from a place between two words
pub record Walks (s : Shape) (h : Held) (p : ℕ) (words : List Text) (end : Held) : Type 0 where
  pub none : walk_fault s [] (at h p) words ≡ []
  pub held : (fold (walked s.rules []) (at h p) words).held ≡ end

abbrev pub first_fault : Shape → Held → ℕ → Kinds
first_fault s h p = option_map_or (λ a. positional_fault s.rules s.args_override_self a h) (arg_by_index s.rules p) (stray_fault s)

pub no_words : (s : Shape) (h : Held) (p : ℕ) → Walks s h p [] h
unfolding walk_fault
no_words s h p = record { none = refl; held = refl }

pub one_more : (s : Shape) (h next end : Held) (p q : ℕ) (w : Text) (words : List Text) → Plain w → first_fault s h p ≡ []
    → to_positional s.rules (arg_by_index s.rules p) w (at h p) h ≡ at next q → Walks s next q words end → Walks s h p (w ∷ words) end
unfolding walk_fault
one_more s h next end p q w words plain fine to rest =
    let step : walked s.rules [] (at h p) w ≡ at next q = leaf_walked s.rules h p w plain ∙ to in
    record {
      none = ap (λ k. or_else k (walk_fault s [] (walked s.rules [] (at h p) w) words)) (leaf_turn s h p w plain ∙ fine) ∙ ap (λ v. walk_fault s [] v words) step ∙ rest.none;
      held = ap (λ v. (fold (walked s.rules []) v words).held) step ∙ rest.held;
    }

-- what stands after the walk
abbrev pub after_words : Shape → Held → Kinds
after_words s end = or_else (settle_fault s.rules s.args_override_self end)
    (or_else (defaults_fault (settled s.rules end).rows s.rules) (check_fault s (finished s.rules end) false))

pub leaf_fault_is : (s : Shape) (words : List Text) (end : Held) → Walks s nothing_held 1 words end → leaf_faults s words ≡ after_words s end
leaf_fault_is s words end w =
    ap (λ k. or_else k (after_words s (fold (walked s.rules []) (at nothing_held 1) words).held)) w.none ∙ ap (after_words s) w.held

pub leaf_rows_is : (s : Shape) (words : List Text) (end : Held) → Walks s nothing_held 1 words end → leaf_rows s words ≡ finished s.rules end
leaf_rows_is s words end w = ap (finished s.rules) w.held

-- ---- a word too many

pub record Strays (s : Shape) (h : Held) (p : ℕ) (words : List Text) : Type 0 where
  pub kind : ErrorKind
  pub kinds : Kinds
  pub is : walk_fault s [] (at h p) words ≡ kind ∷ kinds

pub too_many : (s : Shape) (h : Held) (p : ℕ) (w : Text) (words : List Text) → Plain w → s.is_leaf ≡ true → arg_by_index s.rules p ≡ None → Strays s h p (w ∷ words)
unfolding walk_fault
too_many s h p w words plain leaf none = record {
  kind = UnknownArgument;
  kinds = [];
  is = ap (λ k. or_else k (walk_fault s [] (walked s.rules [] (at h p) w) words)) (leaf_turn s h p w plain ∙ stray (arg_by_index s.rules p) none);
}
  where
    stray : (o : Option Rule) → o ≡ None → option_map_or (λ a. positional_fault s.rules s.args_override_self a h) o (stray_fault s) ≡ UnknownArgument ∷ []
    stray o e = rw (e, leaf) refl

pub then_stray : (s : Shape) (h next : Held) (p q : ℕ) (w : Text) (words : List Text) → Plain w → first_fault s h p ≡ []
    → to_positional s.rules (arg_by_index s.rules p) w (at h p) h ≡ at next q → Strays s next q words → Strays s h p (w ∷ words)
unfolding walk_fault
then_stray s h next p q w words plain fine to rest = record {
  kind = rest.kind;
  kinds = rest.kinds;
  is = ap (λ k. or_else k (walk_fault s [] (walked s.rules [] (at h p) w) words)) (leaf_turn s h p w plain ∙ fine)
      ∙ ap (λ v. walk_fault s [] v words) (leaf_walked s.rules h p w plain ∙ to) ∙ rest.is;
}

some_kind : (k : ErrorKind) (ks xs : Kinds) → xs ≡ k ∷ ks → xs ≡ [] → ⊥
some_kind k ks xs e none = cc

pub stray_fails : (s : Shape) (words : List Text) → Strays s nothing_held 1 words → leaf_faults s words ≡ [] → ⊥
stray_fails s words t = some_kind t.kind t.kinds (leaf_faults s words) (ap (λ k. or_else k (after_words s (walk s.rules [] nothing_held words).held)) t.is)

-- ---- what the words ask for

-- what was found is read as what is asked for, and where nothing is found nothing is asked for
pub record Right {X : Type 0} (read : X → Option Command) (asked : Option Command) (fault : Kinds) (found : X) : Type 0 where
  pub reads : fault ≡ [] → read found ≡ asked
  pub refused : (k : ErrorKind) → IsAmong k fault → None ≡ asked

nothing_among : {P : Type 0} (k : ErrorKind) → IsAmong k [] → P
nothing_among k h = absurd h

-- the words fit
pub fitting : {X : Type 0} (read : X → Option Command) (asked : Option Command) (fault : Kinds) (found : X) → fault ≡ [] → read found ≡ asked → Right read asked fault found
fitting read asked fault found none same = record {
  reads = λ _. same;
  refused = λ k among. (let P : Kinds → Type 0 = λ ks. IsAmong k ks in nothing_among k (subst P none among));
}

-- the words don't fit
pub failing : {X : Type 0} (read : X → Option Command) (fault : Kinds) (found : X) → (fault ≡ [] → ⊥) → Right read None fault found
failing read fault found some = record { reads = λ none. absurd (some none); refused = λ _ _. refl }

-- an operand is missing
pub missing : {X : Type 0} (read : X → Option Command) (k : ErrorKind) (ks fault : Kinds) (found : X) → fault ≡ k ∷ ks → Right read None fault found
missing read k ks fault found e = failing read fault found (some_kind k ks fault e)

-- words walk to an end that is read as what is asked for
pub fits_by_walk : (read : List Row → Option Command) (asked : Option Command) (s : Shape) (words : List Text) (end : Held) → Walks s nothing_held 1 words end
    → after_words s end ≡ [] → read (finished s.rules end) ≡ asked → Right read asked (leaf_faults s words) (leaf_rows s words)
fits_by_walk read asked s words end w none same =
    fitting read asked (leaf_faults s words) (leaf_rows s words) (leaf_fault_is s words end w ∙ none) (ap read (leaf_rows_is s words end w) ∙ same)

-- words walk to an end at which an operand is missing
pub lacks : (read : List Row → Option Command) (k : ErrorKind) (ks : Kinds) (s : Shape) (words : List Text) (end : Held) → Walks s nothing_held 1 words end
    → after_words s end ≡ k ∷ ks → Right read None (leaf_faults s words) (leaf_rows s words)
lacks read k ks s words end w e = missing read k ks (leaf_faults s words) (leaf_rows s words) (leaf_fault_is s words end w ∙ e)

-- words of which one is too many
pub strays : (read : List Row → Option Command) (s : Shape) (words : List Text) → Strays s nothing_held 1 words → Right read None (leaf_faults s words) (leaf_rows s words)
strays read s words t = failing read (leaf_faults s words) (leaf_rows s words) (stray_fails s words t)
