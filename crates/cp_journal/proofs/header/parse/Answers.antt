use Rattle.std.proofs.Common.{rules, ◌≡◌, ◌==◌, if◌then◌else◌, ap, sym, ◌∙◌, subst, ℕ, Option, List, take, drop, get_or}
use Rattle.cp_journal.specs.Headers.{slot_in, header_in, IsSlot, IsFront, HasOwnNumbers}
use Rattle.cp_journal.specs.declared.header.Header.{Header}
use Rattle.cp_journal.specs.declared.header.Slot.{Slot}
use Rattle.cp_journal.proofs.header.parse.Goals as goal

abbrev made : ℕ → Option Slot → Option Slot → Header
made version first second = record { version = version; first = first; second = second }

header_is : (bytes : List ℕ) (v : ℕ) (f s : Option Slot) → v ≡ (if get_or bytes 6 0 == 1 then 2 else 1) → f ≡ slot_in (take 64 (drop 64 bytes)) → s ≡ slot_in (take 64 (drop 128 bytes)) → made v f s ≡ header_in bytes
header_is bytes v f s vi fi si =
    ap (λ (k : ℕ). made k f s) vi ∙ ap (λ (k : Option Slot). made (if get_or bytes 6 0 == 1 then 2 else 1) k s) fi
    ∙ ap (λ (k : Option Slot). made (if get_or bytes 6 0 == 1 then 2 else 1) (slot_in (take 64 (drop 64 bytes))) k) si

pub returns-then-have_own_numbers : goal.returns-then-have_own_numbers
returns-then-have_own_numbers c =
    let bytes = c.args.bytes.now in
    let front : IsFront bytes = search rules in
    let first : IsSlot (take 64 (drop 64 bytes)) = search rules in
    let second : IsSlot (take 64 (drop 128 bytes)) = search rules in
    let own : HasOwnNumbers (made c.version_of.result c.slot_in.result c.slot_in-2.result) = c.have_own_numbers.ensures.0 c.if-have_own_numbers.true in
    let same = header_is bytes c.version_of.result c.slot_in.result c.slot_in-2.result c.version_of.ensures c.slot_in.ensures c.slot_in-2.ensures in
    (record { front = front; first = first; second = second; numbers = subst HasOwnNumbers same own }, same)

pub returns : goal.returns
returns c = λ h.
    let bytes = c.args.bytes.now in
    let same = header_is bytes c.version_of.result c.slot_in.result c.slot_in-2.result c.version_of.ensures c.slot_in.ensures c.slot_in-2.ensures in
    let own : HasOwnNumbers (made c.version_of.result c.slot_in.result c.slot_in-2.result) = subst HasOwnNumbers (sym same) h.numbers in
    let yes = c.have_own_numbers.ensures.1 own in
    search rules
