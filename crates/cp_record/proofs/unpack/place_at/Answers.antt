use Rattle.std.proofs.Common.{◌++◌, ◌∙◌, append_assoc}
use Rattle.cp_path.specs.Encoding.{counted_bytes, path_bytes}
use Rattle.cp_record.proofs.unpack.place_at.Goals as goal

pub name_at-requires : goal.name_at-requires
name_at-requires c =
    let q = c.requires.first in
    record { first = q.db; fit = c.requires.fit.name; rest = path_bytes q.path ++ c.requires.rest; is = c.requires.is ∙ append_assoc (counted_bytes q.db) (path_bytes q.path) c.requires.rest }

pub path_at-requires : goal.path_at-requires
path_at-requires c =
    let q = c.requires.first in
    let db = c.in_ok-db.ensures q.db (path_bytes q.path ++ c.requires.rest) (c.requires.is ∙ append_assoc (counted_bytes q.db) (path_bytes q.path) c.requires.rest) in
    record { first = q.path; fit = c.requires.fit.path; rest = c.requires.rest; is = db.1 }

pub returns : goal.returns
returns c =
    λ q rest e.
    let db = c.in_ok-db.ensures q.db (path_bytes q.path ++ rest) (e ∙ append_assoc (counted_bytes q.db) (path_bytes q.path) rest) in
    let path = c.in_ok-path.ensures q.path rest db.1 in
    ((λ i. record { db = db.0 i; path = path.0 i }), path.1)
