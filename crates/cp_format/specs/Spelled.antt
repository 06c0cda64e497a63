-- Which records have a spelling as bytes, and the first byte with which none goes on.
use Rattle.std.specs.Prelude.{ℕ, ◌≡◌, ◌≤◌, ◌<◌, ◌+◌, ◌++◌, List, length, take, false, IfSome}
use Rattle.cp_path.specs.Place.{over_limit}
use Rattle.cp_model.specs.declared.record.Record.{Record}
use Rattle.cp_record.specs.Bytes.{record_bytes}
use Rattle.cp_record.specs.Kept.{IsPackable}

-- a record that has a spelling
pub record IsSpelled (r : Record) : Type 0 where
  pub packable : IsPackable r
  pub place : over_limit r.loc ≡ false
  pub source : IfSome r.src (λ q. over_limit q ≡ false)

-- the bytes begin with the spelling of r, which takes so many of them
pub record Spells (bytes : List ℕ) (r : Record) (n : ℕ) : Type 0 where
  pub spelled : IsSpelled r
  pub rest : List ℕ
  pub is : bytes ≡ record_bytes r ++ rest
  pub count : n ≡ length (record_bytes r)

-- the spelling of some record begins with these bytes
pub record Begins (bytes : List ℕ) : Type 0 where
  pub first : Record
  pub spelled : IsSpelled first
  pub rest : List ℕ
  pub is : record_bytes first ≡ bytes ++ rest

-- no spelling stands at the front of the bytes, and the byte after the first n is the first with which none goes on; where the bytes end too early n is their number
pub record StopsAt (bytes : List ℕ) (n : ℕ) : Type 0 where
  pub within : n ≤ length bytes
  pub begins : Begins (take n bytes)
  pub stops : n < length bytes → Begins (take (n + 1) bytes) → ⊥
  pub none : (r : Record) (k : ℕ) → Spells bytes r k → ⊥
