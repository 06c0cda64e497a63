-- A text is a value where it is UTF-8 and `serde_json` reads it.
use Rattle.std.proofs.Common.{◌≡◌, ap, ◌∙◌, refl, cond, true, false, List, ℕ, Ok, Err}
use Rattle.std.proofs.lemmas.Str.{is_utf8-from_IsUtf8, IsUtf8-from_is_utf8}
use Rattle.std.specs.Option.{ok_or}
use Rattle.std.specs.Str.{is_utf8, IsUtf8}
use Rattle.std.specs.declared.option.Option.TheVariants.{None, Some}
use Rattle.serde_json.specs.Data.{Data}
use Rattle.serde_json.specs.Read.{read}
use Rattle.cp_sources.specs.declared.json_fault.JsonFault.TheVariants.{NotJson}
use Rattle.cp_sources.specs.JsonTrees.{json_reading}

pub value_read : (text : List ℕ) (d : Data) → IsUtf8 text → read text ≡ Some d → json_reading text ≡ Ok d
value_read text d u r = ap (λ b. ok_or (cond b (read text) None) NotJson) (is_utf8-from_IsUtf8 text u) ∙ ap (λ o. ok_or o NotJson) r

pub value_refused : (text : List ℕ) → (IsUtf8 text → read text ≡ None) → json_reading text ≡ Err NotJson
value_refused text h =
    elim (is_utf8 text) as (λ b. is_utf8 text ≡ b → ok_or (cond b (read text) None) NotJson ≡ Err NotJson) [
      | true ↦ λ e. ap (λ o. ok_or o NotJson) (h (IsUtf8-from_is_utf8 text e))
      | false ↦ λ _. refl
    ] refl
