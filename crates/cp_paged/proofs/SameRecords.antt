-- A row is of one record.
use Rattle.std.proofs.Common.{◌≡◌, ◌∙◌, ap, sym, subst, ℕ, false, List, [], append-nil, Option, Some, None}
use Rattle.std.specs.Prelude.{IfSome}
use Rattle.cp_path.specs.Place.{over_limit}
use Rattle.cp_format.specs.Spelled.{IsSpelled}
use Rattle.cp_format.proofs.Leaves.{plain_letter}
use Rattle.cp_format.proofs.Records.{plain_source}
use Rattle.cp_model.specs.Place.{at_target}
use Rattle.cp_model.specs.Records.{mark_by}
use Rattle.cp_model.specs.declared.record.Record.{Record}
use Rattle.cp_model.specs.declared.record.RowMark.{RowMark as Mark}
use Rattle.cp_page.specs.KeyReading.{IsReadAs}
use Rattle.cp_page.specs.Orders.{by_place, by_step, mark_bytes, tid_place}
use Rattle.cp_page.specs.Rows.{row_of}
use Rattle.cp_page.specs.declared.row.PageRow.{PageRow}
use Rattle.cp_record.specs.Bytes.{source_bytes}
use Rattle.cp_record.specs.Kept.{IsSourceOf}
use Rattle.cp_paged.specs.Marks.{Says}
use Rattle.cp_paged.proofs.ByStep.{step-same}

-- a value is of one letter and source
same-mark : (r x : Record) → IsSpelled r → IsSpelled x → mark_bytes (r.op, r.src) ≡ mark_bytes (x.op, x.src) → (r.op ≡ x.op) × (r.src ≡ x.src)
same-mark r x f g e =
    let ops = plain_letter r.op x.op (source_bytes r.src) (source_bytes x.src) tt tt e in
    let fit = subst (λ o. IsSourceOf o r.src × IfSome r.src (λ q. over_limit q ≡ false)) ops.0 (f.packable.source, f.source) in
    (ops.0, (plain_source x.op r.src x.src [] [] fit (g.packable.source, g.source) (append-nil (source_bytes r.src) ∙ ops.1 ∙ sym (append-nil (source_bytes x.src)))).0)

-- the record that is read of a row says what the row says
pub read-says : (row : PageRow) (key value : List ℕ) (x : Record) (m : Mark) → key ≡ row.key → value ≡ row.value → IsReadAs IsSpelled by_place (row_of key value) (Some x) → Says row m → mark_by x.op x.src ≡ m
read-says row key value x m k v read says =
    let values : mark_bytes (x.op, x.src) ≡ mark_bytes (says.said.op, says.said.src) = ap (λ (y : PageRow). y.value) read.1 ∙ v ∙ sym (ap (λ (y : PageRow). y.value) says.row_is) in
    let same = same-mark x says.said read.0 says.spelled values in
    ap (λ o. mark_by o x.src) same.0 ∙ ap (mark_by says.said.op) same.1 ∙ says.mark_is

-- a record is read of a row that says something
pub read-some : (row : PageRow) (key value : List ℕ) (m : Mark) → key ≡ row.key → value ≡ row.value → IsReadAs IsSpelled by_place (row_of key value) None → Says row m → ⊥
read-some row key value m k v read says = read says.said says.spelled (says.row_is ∙ sym (ap (λ x. row_of x value) k ∙ ap (row_of row.key) v))

-- a row by step is of one record
pub same-step : (r x : Record) → IsSpelled r → IsSpelled x → by_step r ≡ by_step x → r ≡ x
same-step r x f g e =
    let keys : tid_place (at_target r.loc.path) r.tid ≡ tid_place (at_target x.loc.path) x.tid = sym (ap (λ q. tid_place q r.tid) f.packable.place) ∙ ap (λ (y : PageRow). y.key) e ∙ ap (λ q. tid_place q x.tid) g.packable.place in
    let same = step-same r.loc.path x.loc.path r.tid x.tid f.packable.tid g.packable.tid keys in
    let locs : r.loc ≡ x.loc = f.packable.place ∙ ap at_target same.0 ∙ sym g.packable.place in
    let marks = same-mark r x f g (ap (λ (y : PageRow). y.value) e) in
    λ i. record { tid = same.1 i; op = marks.0 i; loc = locs i; src = marks.1 i }

-- the mark that is there is the one that is said
pub mark-same : (o : Option Mark) (n m : Mark) → o ≡ Some n → o ≡ Some m → n ≡ m
mark-same o n m is said = let e : Some n ≡ Some m = sym is ∙ said in cc

pub no-mark : (o : Option Mark) (m : Mark) → o ≡ None → o ≡ Some m → ⊥
no-mark o m is said = let e : None ≡ Some m = sym is ∙ said in cc

row_is : (row : PageRow) (key value : List ℕ) → key ≡ row.key → value ≡ row.value → row ≡ row_of key value
row_is row key value k v = sym (ap (λ x. row_of x value) k ∙ ap (row_of row.key) v)

-- the record that is read of a row by step is the one that it is of
pub read-step : (row : PageRow) (key value : List ℕ) → key ≡ row.key → value ≡ row.value → (x : Record) → IsSpelled x × (by_step x ≡ row_of key value) → (r : Record) → IsSpelled r → by_step r ≡ row → x ≡ r
read-step row key value k v x read r spelled is = same-step x r read.0 spelled (read.1 ∙ sym (row_is row key value k v) ∙ sym is)

pub no-step : (row : PageRow) (key value : List ℕ) → key ≡ row.key → value ≡ row.value → ((x : Record) → IsSpelled x → by_step x ≡ row_of key value → ⊥) → (r : Record) → IsSpelled r → by_step r ≡ row → ⊥
no-step row key value k v none r spelled is = none r spelled (is ∙ row_is row key value k v)
