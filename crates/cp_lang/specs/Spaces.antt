-- White space.
use Rattle.std.specs.Prelude.{ℕ, ◌==◌, ◌||◌, List, Bool}
use Rattle.std.specs.List.{list_all}

-- space, tab, line feed or carriage return
abbrev pub is_space : ℕ → Bool
is_space x = (x == 32) || (x == 9) || (x == 10) || (x == 13)

-- white space alone
abbrev pub is_blank : List ℕ → Bool
is_blank text = list_all is_space text
