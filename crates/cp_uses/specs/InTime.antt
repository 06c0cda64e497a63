-- Copies in time, which were made while what was reached stood at its place, and how many look-ups it takes to follow them.
use Rattle.std.specs.Prelude.{ℕ, ◌+◌, ◌-◌, ◌&&◌, Bool, List, length, filter, sum_by, max, nat_lt, not, if◌then◌else◌}
use Rattle.std.specs.List.{list_any}
use Rattle.cp_path.specs.declared.loc.Loc.{Loc}
use Rattle.cp_model.specs.Place.{in_target}
use Rattle.cp_model.specs.declared.kind.Kind.{Kind}
use Rattle.cp_model.specs.declared.record.Record.{Record}
use Rattle.cp_uses.specs.declared.reached.Reached.{Reached}
use Rattle.cp_uses.specs.Sources.{sources, is_copy_of, copies_after, copies_along}
use Rattle.cp_uses.specs.Stays.{stands}

-- the copy was made while what was reached stood at its place
abbrev pub is_in_time : Kind → List Record → Reached → Record → Bool
is_in_time k rs x r = stands k rs x (r.tid - 1)

-- whether it stood up to version v: no look-up for the version of its own step, and none for a place of a source
abbrev pub calls_to_tell : Reached → ℕ → ℕ
calls_to_tell x v = if in_target x.place && nat_lt x.tid v then 1 else 0

-- whether it came to where the copy took it: no look-up where the copy is of the place itself
abbrev pub calls_to_bring : Reached → Record → ℕ
calls_to_bring x r = if is_copy_of x.place r then 0 else 1

-- the look-ups for a copy in time
abbrev pub calls_to_follow : Reached → Record → ℕ
calls_to_follow x r = calls_to_tell x (r.tid - 1) + calls_to_bring x r

-- some copy of these was made after the place had changed
abbrev pub has_late : Kind → List Record → Reached → List Record → Bool
has_late k rs x rows = list_any (λ r. not (is_in_time k rs x r)) rows

-- the look-ups for those of these copies that were made in time
abbrev pub calls_for_copies : Kind → List Record → Reached → List Record → ℕ
calls_for_copies k rs x rows = sum_by (calls_to_follow x) (filter (is_in_time k rs x) rows)

-- how many of these places have a copy that was made after the place of what was reached had changed
abbrev pub late_sources : Kind → List Record → Reached → List Loc → ℕ
late_sources k rs x qs = length (filter (λ q. has_late k rs x (copies_after rs q x.tid)) qs)

-- the look-ups for what was reached: those for all copies in time that took it along; and one for each place of which a copy came too late, or one
-- for whether it stands now
abbrev pub calls_in_time : Kind → List Record → Reached → ℕ
calls_in_time k rs x = max 1 (late_sources k rs x (sources k x.place)) + calls_for_copies k rs x (copies_along k rs x)
