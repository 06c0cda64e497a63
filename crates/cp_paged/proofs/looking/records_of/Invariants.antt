use Rattle.std.proofs.Common.{◌≡◌, List, map, take}
use Rattle.std.specs.List.{AllByRecursion}
use Rattle.cp_format.specs.Spelled.{IsSpelled}
use Rattle.cp_model.specs.declared.record.Record.{Record}
use Rattle.cp_page.specs.Orders.{by_step}
use Rattle.cp_paged.proofs.looking.records_of.Given as goal

abbrev pub invariant-loop-row : goal.invariant-loop-row
invariant-loop-row l = (rs : List Record) → AllByRecursion IsSpelled rs → l.rows ≡ map by_step rs → l.items.items ≡ take l.row-index rs
