-- What records become behind others.
use Rattle.std.specs.Prelude.{◌≡◌, List, ◌++◌}
use Rattle.cp_model.specs.declared.record.Record.{Record}

-- these records came behind those that were held
pub record Appended (old new rs : List Record) : Type 0 where
  pub is : new ≡ old ++ rs

-- those that were held are still held, and others may be behind them
pub record Grown (old new : List Record) : Type 0 where
  pub more : List Record
  pub is : new ≡ old ++ more
