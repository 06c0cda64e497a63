-- Each record takes a byte, so the records of a text come one after the other.
use Rattle.std.proofs.Common.{◌≡◌, ℕ, zero, suc, ◌+◌, ◌<◌, ◌≤◌, ◌==◌, ◌&&◌, Bool, true, false, List, [], ◌∷◌, ◌++◌, length, Option, Some, None, if◌then◌else◌, refl, sym, ap, subst, ◌∙◌, arith, add-one}
use Rattle.csv.specs.Machine.{Read, step, in_field, start_field, start_record, after_end, ends_with, is_byte, is_end, ends_at_end, next_record, fields_after, field_after}
use Rattle.csv.specs.Reading.{records_from, records_next, default_config, Reached, ReadRecord, source_of, reader_config, reader_state}
use Rattle.csv.specs.declared.parser.Config.{Config}
use Rattle.csv.specs.declared.parser.Terminator.{Terminator}
use Rattle.csv.specs.declared.parser.Terminator.TheVariants as term
use Rattle.csv.specs.declared.parser.State.{State}
use Rattle.csv.specs.declared.parser.State.TheVariants as st
use Rattle.csv.specs.declared.parser.Action.{Action}
use Rattle.csv.specs.declared.parser.Action.TheVariants as act
use Rattle.csv.specs.declared.reader.Reader.{Reader}
use Rattle.csv.proofs.ReadFacts.{rows-more, rows-end}
use Rattle.std.specs.Borrow.{Bor}
use Rattle.cp_sources.specs.Steps.{all_from, slice_bytes}

-- at the end of a record the machine stands between records
abbrev Rests : State × Action → Type 0
Rests q = is_end q.1 ≡ true → ends_at_end q.0 ≡ false

by_test : (b : Bool) (x y : State × Action) → Rests x → Rests y → Rests (if b then x else y)
by_test true x y p q = p
by_test false x y p q = q

after_rests : (t : Terminator) (c : ℕ) → ends_at_end (after_end t c) ≡ false
after_rests term.CRLF c = elim (c == 13) as (λ b. ends_at_end (if b then st.AfterCr else st.StartRecord) ≡ false) [ true ↦ refl | false ↦ refl ]
after_rests (term.Any t) c = refl

skips : (s : State) → Rests (s, act.Skip)
skips s e = absurd (cc)

copies : (s : State) → Rests (s, act.Copy)
copies s e = absurd (cc)

field_rests : (cfg : Config) (c : ℕ) → Rests (in_field cfg c)
field_rests cfg c =
    by_test (c == cfg.delimiter) (st.StartField, act.EndField) (if ends_with cfg.terminator c then (after_end cfg.terminator c, act.EndRecord) else (st.InField, act.Copy)) (λ e. absurd (cc))
    (by_test (ends_with cfg.terminator c) (after_end cfg.terminator c, act.EndRecord) (st.InField, act.Copy) (λ _. after_rests cfg.terminator c) (copies st.InField))

field_start_rests : (cfg : Config) (c : ℕ) → Rests (start_field cfg c)
field_start_rests cfg c = by_test (cfg.quoting && (c == cfg.quote)) (st.InQuoted, act.Skip) (in_field cfg c) (skips st.InQuoted) (field_rests cfg c)

record_start_rests : (cfg : Config) (c : ℕ) → Rests (start_record cfg c)
record_start_rests cfg c =
    by_test (ends_with cfg.terminator c) (st.StartRecord, act.Skip) (if is_byte cfg.comment c then (st.InComment, act.Skip) else start_field cfg c) (skips st.StartRecord)
    (by_test (is_byte cfg.comment c) (st.InComment, act.Skip) (start_field cfg c) (skips st.InComment) (field_start_rests cfg c))

step_rests : (cfg : Config) (s : State) (c : ℕ) → Rests (step cfg s c)
step_rests cfg st.StartRecord c = record_start_rests cfg c
step_rests cfg st.StartField c = field_start_rests cfg c
step_rests cfg st.InField c = field_rests cfg c
step_rests cfg st.InQuoted c =
    by_test (cfg.quoting && (c == cfg.quote)) (st.AfterQuote, act.Skip) (if cfg.quoting && is_byte cfg.escape c then (st.InEscape, act.Skip) else (st.InQuoted, act.Copy)) (skips st.AfterQuote)
    (by_test (cfg.quoting && is_byte cfg.escape c) (st.InEscape, act.Skip) (st.InQuoted, act.Copy) (skips st.InEscape) (copies st.InQuoted))
step_rests cfg st.InEscape c = copies st.InQuoted
step_rests cfg st.AfterQuote c = by_test (cfg.quoting && cfg.double_quote && (c == cfg.quote)) (st.InQuoted, act.Copy) (in_field cfg c) (copies st.InQuoted) (field_rests cfg c)
step_rests cfg st.InComment c = by_test (c == 10) (st.StartRecord, act.Skip) (st.InComment, act.Skip) (skips st.StartRecord) (skips st.InComment)
step_rests cfg st.AfterCr c = by_test (c == 10) (st.StartRecord, act.Skip) (start_record cfg c) (skips st.StartRecord) (record_start_rests cfg c)

-- what a record leaves: a machine between records, and no more bytes than this
abbrev Leaves : ℕ → Read → Type 0
Leaves n q = (ends_at_end q.1 ≡ false) × (length q.2 ≤ n)

by_end : (cfg : Config) (s : State) (f : List (List ℕ)) (p : List ℕ) (c : ℕ) (rest : List ℕ) (q : Read) →
    (next_record cfg (step cfg s c).0 (fields_after (step cfg s c).1 f p) (field_after (step cfg s c).1 c p) rest ≡ Some q → Leaves (length rest) q) → next_record cfg s f p (c ∷ rest) ≡ Some q → Leaves (length rest) q
unfolding next_record
by_end cfg s f p c rest q later e =
    elim (is_end (step cfg s c).1) as (λ b. is_end (step cfg s c).1 ≡ b → (if b then Some (fields_after (step cfg s c).1 f p, (step cfg s c).0, rest) else next_record cfg (step cfg s c).0 (fields_after (step cfg s c).1 f p) (field_after (step cfg s c).1 c p) rest) ≡ Some q → Leaves (length rest) q) [
      | true ↦ λ k e. (let same : ◌≡◌ {A = Read} (fields_after (step cfg s c).1 f p, (step cfg s c).0, rest) q = cc in subst (Leaves (length rest)) same (step_rests cfg s c k, omega arith))
      | false ↦ λ k e. later e
    ] refl e

at_end : (s : State) (f : List (List ℕ)) (p : List ℕ) (q : Read) (cfg : Config) → next_record cfg s f p [] ≡ Some q → Leaves 0 q
unfolding next_record
at_end s f p q cfg e = elim (ends_at_end s) as (λ b. (if b then Some (f ++ (p ∷ []), st.StartRecord, []) else None) ≡ Some q → Leaves 0 q) [
  | true ↦ λ e. (let same : ◌≡◌ {A = Read} (f ++ (p ∷ []), st.StartRecord, []) q = cc in subst (Leaves 0) same (refl, omega arith))
  | false ↦ λ e. absurd (cc)
] e

leaves : (cfg : Config) (s : State) (f : List (List ℕ)) (p : List ℕ) (xs : List ℕ) (q : Read) → next_record cfg s f p xs ≡ Some q → Leaves (length xs) q
leaves cfg s f p [] q e = at_end s f p q cfg e
leaves cfg s f p (c ∷ rest) q e =
    let l = by_end cfg s f p c rest q (leaves cfg (step cfg s c).0 (fields_after (step cfg s c).1 f p) (field_after (step cfg s c).1 c p) rest q) e in
    (l.0, omega (arith, l.1))

-- a record of some bytes takes one of them
takes_byte : (cfg : Config) (s : State) (f : List (List ℕ)) (p : List ℕ) (c : ℕ) (rest : List ℕ) (q : Read) → next_record cfg s f p (c ∷ rest) ≡ Some q → Leaves (length rest) q
takes_byte cfg s f p c rest q e = by_end cfg s f p c rest q (leaves cfg (step cfg s c).0 (fields_after (step cfg s c).1 f p) (field_after (step cfg s c).1 c p) rest q) e

-- between records, the next one takes a byte
next_leaves : (cfg : Config) (s : State) (xs : List ℕ) (q : Read) → ends_at_end s ≡ false → next_record cfg s [] [] xs ≡ Some q → (ends_at_end q.1 ≡ false) × (length q.2 < length xs)
unfolding next_record
next_leaves cfg s [] q r e = absurd (let one : Read = ([] ∷ [], st.StartRecord, []) in let no = ap (λ b. if b then Some one else None) r in cc)
next_leaves cfg s (c ∷ rest) q r e = let l = takes_byte cfg s [] [] c rest q e in (l.0, omega (arith, l.1))

by_next : (cfg : Config) (n m : ℕ) (o : Option Read) → ((q : Read) → o ≡ Some q → records_from cfg n q.1 q.2 ≡ records_from cfg m q.1 q.2) → records_next (records_from cfg n) o ≡ records_next (records_from cfg m) o
by_next cfg n m None later = refl
by_next cfg n m (Some q) later = ap (λ z. q.0 ∷ z) (later q refl)

-- as many records as there are, however many are asked for beyond
enough : (cfg : Config) (n m : ℕ) (s : State) (xs : List ℕ) → ends_at_end s ≡ false → length xs < n → length xs < m → records_from cfg n s xs ≡ records_from cfg m s xs
unfolding records_from
enough cfg zero m s xs r a b = absurd (omega (arith, a))
enough cfg (suc n) zero s xs r a b = absurd (omega (arith, b))
enough cfg (suc n) (suc m) s xs r a b =
    by_next cfg n m (next_record cfg s [] [] xs) (λ q e. let l = next_leaves cfg s xs q r e in enough cfg n m q.1 q.2 l.0 (omega (arith, l.1, a)) (omega (arith, l.1, b)))

first_of : (s : State) (xs : List ℕ) → all_from s xs ≡ records_next (records_from default_config (length xs)) (next_record default_config s [] [] xs)
unfolding all_from records_from
first_of s xs = ap (λ n. records_from default_config n s xs) (add-one (length xs))

-- no record is left
pub none_left : (s : State) (xs : List ℕ) → next_record default_config s [] [] xs ≡ None → all_from s xs ≡ []
none_left s xs e = first_of s xs ∙ ap (records_next (records_from default_config (length xs))) e

-- one record, and those that are left behind it
pub one_left : (s : State) (xs : List ℕ) (q : Read) → ends_at_end s ≡ false → next_record default_config s [] [] xs ≡ Some q → (ends_at_end q.1 ≡ false) × (all_from s xs ≡ q.0 ∷ all_from q.1 q.2)
unfolding all_from
one_left s xs q r e =
    let l = next_leaves default_config s xs q r e in
    (l.0, first_of s xs ∙ ap (records_next (records_from default_config (length xs))) e ∙ ap (λ z. q.0 ∷ z) (enough default_config (length xs) (length q.2 + 1) q.1 q.2 l.0 l.1 (omega arith)))

module _ (a b : Reader (Bor (List ℕ))) (f : List (List ℕ)) (y : List ℕ) (config : reader_config a ≡ default_config) (bytes : source_of slice_bytes a ≡ Some y) where
  -- a read that finds no record says that none is left
  pub none_read : ReadRecord slice_bytes a b false f → all_from (reader_state a) y ≡ []
  none_read r = none_left (reader_state a) y (rows-end slice_bytes a b f default_config y config bytes r)

  -- a read that finds one gives the first of those that are left
  pub one_read : ends_at_end (reader_state a) ≡ false → ReadRecord slice_bytes a b true f →
      (z : List ℕ) × (source_of slice_bytes b ≡ Some z) × (ends_at_end (reader_state b) ≡ false) × (all_from (reader_state a) y ≡ f ∷ all_from (reader_state b) z)
  unfolding Reached
  one_read rests r =
      let m = rows-more slice_bytes a b f default_config (reader_state a) y y [] config bytes (refl, refl) r in
      let p = m.2.0 in
      let l = one_left (reader_state a) y p rests m.2.1 in
      let state : p.1 ≡ reader_state b = m.2.3.0 in
      let rest : p.2 ≡ m.0 = m.2.3.1 in
      (m.0, m.1, ap ends_at_end (sym state) ∙ l.0, l.1 ∙ ap (λ g. g ∷ all_from p.1 p.2) (sym m.2.2) ∙ ap (λ s. f ∷ all_from s p.2) state ∙ ap (λ z. f ∷ all_from (reader_state b) z) rest)
