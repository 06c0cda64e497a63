-- Sources and records as formats one after another.
use Rattle.std.proofs.Common.{◌≡◌, ℕ, ◌-◌, true, false, is_some, IfSome, List, ◌++◌, Option, None, Some, refl, sym, ap, ◌∙◌, subst, arith}
use Rattle.cp_path.specs.Place.{Path, over_limit}
use Rattle.cp_path.specs.declared.limits.TheConstants.{LOC_MAX}
use Rattle.cp_path.specs.declared.loc.Loc.{Loc}
use Rattle.cp_model.specs.Place.{at_target}
use Rattle.cp_model.specs.declared.record.Record.{Record}
use Rattle.cp_model.specs.declared.record.RecOp.{RecOp}
use Rattle.cp_model.specs.declared.record.RecOp.TheVariants as op
use Rattle.cp_record.specs.Bytes.{source_bytes, record_bytes}
use Rattle.cp_record.specs.Kept.{IsPlace, IsSourceOf, is_copy}
use Rattle.cp_format.specs.declared.fault.FormatFault.{FormatFault}
use Rattle.cp_format.specs.Faults.{FaultAt}
use Rattle.cp_format.specs.Formats.{Format, ReadsAt, StandsAt}
use Rattle.cp_format.specs.Parts.{number_format, letter_format, path_format, place_format, source_format, record_format}
use Rattle.cp_format.proofs.Faults.{fault_alike, fault_first, fault_second}
use Rattle.cp_format.proofs.Formats.{HasSome, IsPlain, Alike, both, has_both, has_alike, plain_both, plain_alike, reads_alike_at, reads_both_at}
use Rattle.cp_format.proofs.Leaves.{has_number, has_letter, plain_number, plain_letter}
use Rattle.cp_format.proofs.Standing.{stands_alike}
use Rattle.cp_format.proofs.Labels.{has_path, plain_path, has_place, plain_place, within_limits, is_within}

-- ---- sources

-- the source of a copy is a place
alike_copy : Alike place_format (source_format op.C) (λ q. Some q)
alike_copy = record {
  there = λ q f. ((record { copied = refl; place = f.0 }, f.1), refl, refl);
  back = λ s f. place_of s f.0.copied f.0.place f.1;
}
  where
    place_of : (s : Option Loc) → is_some s ≡ true → IfSome s IsPlace → IfSome s (λ q. over_limit q ≡ false) → (q : Loc) × (place_format.fit q) × (◌≡◌ {A = Option Loc} (Some q) s)
    place_of None some p l = absurd (cc)
    place_of (Some q) some p l = (q, (p, l), refl)

pub copy_fault : (o : RecOp) (bytes : List ℕ) (at : ℕ) (e : FormatFault) → o ≡ op.C → FaultAt place_format bytes at e → FaultAt (source_format o) bytes at e
copy_fault o bytes at e same f = subst (λ p. FaultAt (source_format p) bytes at e) (sym same) (fault_alike place_format (source_format op.C) (λ q. Some q) alike_copy bytes at e f)

pub copy_stands : (o : RecOp) (bytes : List ℕ) (at next : ℕ) → o ≡ op.C → StandsAt place_format bytes at next → StandsAt (source_format o) bytes at next
copy_stands o bytes at next same s = subst (λ p. StandsAt (source_format p) bytes at next) (sym same) (stands_alike place_format (source_format op.C) (λ q. Some q) alike_copy bytes at next s)

no_source : (o : RecOp) (s : Option Loc) → is_copy o ≡ false → IsSourceOf o s → s ≡ None
no_source o None e f = refl
no_source o (Some q) e f = let h = f.copied in absurd (cc)

plain_none : (o : RecOp) → is_copy o ≡ false → IsPlain (source_format o)
plain_none o none s t xs ys f g e =
    let a = no_source o s none f.0 in
    let b = no_source o t none g.0 in
    (a ∙ sym b, ap (λ q. source_bytes q ++ xs) (sym a) ∙ e ∙ ap (λ q. source_bytes q ++ ys) b)

pub plain_source : (o : RecOp) → IsPlain (source_format o)
plain_source op.I = plain_none op.I refl
plain_source op.D = plain_none op.D refl
plain_source op.K = plain_none op.K refl
plain_source op.C = plain_alike place_format (source_format op.C) (λ q. Some q) alike_copy plain_place

pub has_source : (o : RecOp) → HasSome (source_format o)
has_source op.I = record { first = None; fit = (record { copied = refl; place = tt }, tt) }
has_source op.D = record { first = None; fit = (record { copied = refl; place = tt }, tt) }
has_source op.K = record { first = None; fit = (record { copied = refl; place = tt }, tt) }
has_source op.C = record { first = Some has_place.first; fit = (record { copied = refl; place = has_place.fit.0 }, has_place.fit.1) }

-- ---- records

-- what a record is made of: its number, its operation, its path and its source
abbrev pub Parts : Type 0
Parts = ℕ × (RecOp × (Path × Option Loc))

abbrev pub behind_path : RecOp → Path → Format (Option Loc)
behind_path o p = source_format o

abbrev pub behind_letter : RecOp → Format (Path × Option Loc)
behind_letter o = both (path_format (LOC_MAX - 1)) (behind_path o)

abbrev pub behind_number : ℕ → Format (RecOp × (Path × Option Loc))
behind_number t = both letter_format behind_letter

abbrev pub parts_format : Format Parts
parts_format = both number_format behind_number

abbrev pub record_of : Parts → Record
record_of z = record { tid = z.0; op = z.1.0; loc = at_target z.1.1.0; src = z.1.1.1 }

has_behind_letter : (o : RecOp) → HasSome (behind_letter o)
has_behind_letter o = has_both (path_format (LOC_MAX - 1)) (behind_path o) (has_path (LOC_MAX - 1)) (λ p f. has_source o)

has_behind_number : (t : ℕ) → HasSome (behind_number t)
has_behind_number t = has_both letter_format behind_letter has_letter (λ o f. has_behind_letter o)

-- a record is its parts
pub alike_record : Alike parts_format record_format record_of
unfolding record_bytes
alike_record = record {
  there = λ z f.
      let path = f.1.1.0 in (
        record {
          packable = record { tid = f.0; place = refl; path = path.0; source = f.1.1.1.0 };
          place = is_within (at_target z.1.1.0) path.0.few (omega (arith, path.1));
          source = f.1.1.1.1;
        },
        refl,
        refl,
      );
  back = λ r f.
      let loc = within_limits (at_target r.loc.path) (subst (λ q. over_limit q ≡ false) f.packable.place f.place) in
      let place = sym f.packable.place in
      ((r.tid, (r.op, (r.loc.path, r.src))), (f.packable.tid, (tt, ((f.packable.path, omega (arith, loc.1)), (f.packable.source, f.source)))), λ i. record { tid = r.tid; op = r.op; loc = place i; src = r.src });
}

plain_parts : IsPlain parts_format
plain_parts =
    plain_both number_format behind_number plain_number
    (λ t f. plain_both letter_format behind_letter plain_letter
    (λ o g. plain_both (path_format (LOC_MAX - 1)) (behind_path o) (plain_path (LOC_MAX - 1) (omega arith)) (λ p h. plain_source o)))

-- no record's spelling begins another's
pub plain_record : IsPlain record_format
plain_record = plain_alike parts_format record_format record_of alike_record plain_parts

pub has_record : HasSome record_format
has_record = has_alike parts_format record_format record_of alike_record (has_both number_format behind_number has_number (λ t f. has_behind_number t))

module _ (bytes : List ℕ) (at : ℕ) where
  record_fault : (e : FormatFault) → FaultAt parts_format bytes at e → FaultAt record_format bytes at e
  record_fault e f = fault_alike parts_format record_format record_of alike_record bytes at e f

  -- a fault in the number is one of the record
  pub tid_fault : (e : FormatFault) → FaultAt number_format bytes at e → FaultAt record_format bytes at e
  tid_fault e f = record_fault e (fault_first number_format behind_number bytes at (λ x g h. tt) (λ t h. has_behind_number t) e f)

  module _ (t after : ℕ) (r : ReadsAt number_format bytes at t after) where
    number_fault : (e : FormatFault) → FaultAt (behind_number t) bytes after e → FaultAt record_format bytes at e
    number_fault e f = record_fault e (fault_second number_format behind_number bytes at plain_number after t r e f)

    -- a fault in the letter is one of the record
    pub op_fault : (e : FormatFault) → FaultAt letter_format bytes after e → FaultAt record_format bytes at e
    op_fault e f = number_fault e (fault_first letter_format behind_letter bytes after (λ x g h. tt) (λ o h. has_behind_letter o) e f)

    module _ (o : RecOp) (behind : ℕ) (s : ReadsAt letter_format bytes after o behind) where
      letter_fault : (e : FormatFault) → FaultAt (behind_letter o) bytes behind e → FaultAt record_format bytes at e
      letter_fault e f = number_fault e (fault_second letter_format behind_letter bytes after plain_letter behind o s e f)

      -- a fault in the path is one of the record
      pub path_fault : (e : FormatFault) → FaultAt (path_format (LOC_MAX - 1)) bytes behind e → FaultAt record_format bytes at e
      path_fault e f = letter_fault e (fault_first (path_format (LOC_MAX - 1)) (behind_path o) bytes behind (λ x g h. tt) (λ p h. has_source o) e f)

      module _ (p : Path) (below : ℕ) (u : ReadsAt (path_format (LOC_MAX - 1)) bytes behind p below) where
        -- a fault in the source is one of the record
        pub source_fault : (e : FormatFault) → FaultAt (source_format o) bytes below e → FaultAt record_format bytes at e
        source_fault e f = letter_fault e (fault_second (path_format (LOC_MAX - 1)) (behind_path o) bytes behind (plain_path (LOC_MAX - 1) (omega arith)) below p u e f)

        -- the parts are read, and so is the record
        pub record_read : (q : Option Loc) (next : ℕ) → ReadsAt (source_format o) bytes below q next → ReadsAt record_format bytes at (record_of (t, (o, (p, q)))) next
        record_read q next v =
            let path = reads_both_at (path_format (LOC_MAX - 1)) (behind_path o) bytes behind below next p q u v in
            let letter = reads_both_at letter_format behind_letter bytes after behind next o (p, q) s path in
            let number = reads_both_at number_format behind_number bytes at after next t (o, (p, q)) r letter in
            reads_alike_at parts_format record_format record_of alike_record bytes at (t, (o, (p, q))) next number
