-- Which records can be kept as bytes, and what begins bytes.
use Rattle.std.specs.Prelude.{ℕ, ◌^◌, ◌≡◌, ◌<◌, ◌≤◌, ◌++◌, Bool, true, false, List, length, is_some, IfSome, IsUtf8, ⊤}
use Rattle.std.specs.List.{AllByRecursion, flat_map}
use Rattle.std.specs.declared.option.Option.{Option}
use Rattle.cp_record.specs.Bytes.{letter}
use Rattle.cp_path.specs.Encoding.{counted_bytes}
use Rattle.cp_path.specs.Text.{is_name}
use Rattle.cp_path.specs.declared.limits.TheConstants.{LABEL_MAX, LABELS_MAX}
use Rattle.cp_path.specs.declared.loc.Loc.{Loc}
use Rattle.cp_model.specs.Place.{Path, at_target}
use Rattle.cp_model.specs.declared.record.Record.{Record}
use Rattle.cp_model.specs.declared.record.RecOp.{RecOp}
use Rattle.cp_model.specs.declared.record.RecOp.TheVariants as op

-- the letter is that of a copy
abbrev pub is_copy : RecOp → Bool
is_copy op.I = false
is_copy op.C = true
is_copy op.D = false
is_copy op.K = false

-- the bytes of a label
pub record IsLabel (a : List ℕ) : Type 0 where
  pub text : IsUtf8 a
  pub short : length a ≤ LABEL_MAX

-- the bytes of a name
pub record IsName (a : List ℕ) : Type 0 where
  pub text : IsUtf8 a
  pub name : is_name a ≡ true

-- no more labels than a path may have
pub record IsPath (p : Path) : Type 0 where
  pub labels : AllByRecursion IsLabel p
  pub few : length p ≤ LABELS_MAX

-- a name and a path
pub record IsPlace (q : Loc) : Type 0 where
  pub name : IsName q.db
  pub path : IsPath q.path

-- the source of a record of this letter: a place exactly where it is a copy
pub record IsSourceOf (o : RecOp) (q : Option Loc) : Type 0 where
  pub copied : is_some q ≡ is_copy o
  pub place : IfSome q IsPlace

-- a record of T whose Tid has eight bytes, with a source exactly where it is a copy
pub record IsPackable (r : Record) : Type 0 where
  pub tid : r.tid < 2 ^ 64
  pub place : r.loc ≡ at_target r.loc.path
  pub path : IsPath r.loc.path
  pub source : IsSourceOf r.op r.src

-- the bytes begin with those of something fit
pub record BeginsWith {X : Type 0} (bytes_of : X → List ℕ) (IsFit : X → Type 0) (bytes : List ℕ) : Type 0 where
  pub first : X
  pub fit : IsFit first
  pub rest : List ℕ
  pub is : bytes ≡ bytes_of first ++ rest

-- whatever it is
abbrev pub IsAny : {X : Type 0} → X → Type 0
IsAny x = ⊤

-- labels, each behind its length
abbrev pub AreCounted : List ℕ → Type 0
AreCounted bytes = (p : Path) × (bytes ≡ flat_map counted_bytes p)

-- so many labels
pub record IsPathOf (count : ℕ) (p : Path) : Type 0 where
  pub path : IsPath p
  pub many : count ≡ length p

-- the letter of an operation
pub record IsLetter (byte : ℕ) : Type 0 where
  pub op : RecOp
  pub is : letter op ≡ byte
