-- Rows of contents as data that can be told apart.
use Rattle.std.specs.Prelude.{ℕ, List}
use Rattle.std.specs.Coded.{Coded, coded×, coded_list, coded_ℕ}
use Rattle.cp_model.specs.declared.row.Content.{Content}
use Rattle.cp_model.specs.contracts.row.Content as content_row

-- contents can be told apart
abbrev pub content_code : Coded Content
content_code = content_row.the_row.coded

-- and so can lists of paths with contents
abbrev pub rows_code : Coded (List (List (List ℕ) × Content))
rows_code = coded_list (coded× (coded_list (coded_list coded_ℕ)) content_code)
